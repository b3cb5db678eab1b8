use Rattle.std.proofs.Common.{sym, ap, ◌∙◌}
use Rattle.breakpoints.specs.Placed.{Placed}
use Rattle.breakpoints.proofs.Lookup.{none_found}
use Rattle.breakpoints.proofs.Written.{none_written, one_written, with_new_counts}
use Rattle.breakpoints.proofs.tally.set_counts.Goals as goal

-- the one breakpoint of the ID is written
pub returns-in-Some : goal.returns-in-Some
returns-in-Some c =
    let row : Placed = record c.in-Some.row.now { counts = c.args.counts } in
    (c.get_mut.follows.holds row).0
    ∙ one_written c.args.id.now (with_new_counts c.args.counts) c.args.rows.now.entries c.in-Some.row.now c.requires.keyed c.requires.orderly.differ
    (sym c.in-Some.ensures.value)

pub returns-in_default : goal.returns-in_default
returns-in_default c =
    ap (λ m. m.entries) c.get_mut.follows.holds-at-none
    ∙ sym (none_written c.args.id.now (with_new_counts c.args.counts) c.args.rows.now.entries
    (none_found c.args.id.now c.args.rows.now.entries c.requires.keyed c.in_default.ensures.value))
