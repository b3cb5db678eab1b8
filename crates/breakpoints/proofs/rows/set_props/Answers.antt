use Rattle.std.proofs.Common.{[], sym, ap, ◌∙◌}
use Rattle.std.specs.Prelude.{bytes_eq}
use Rattle.std.specs.Map.{lookup, set_value}
use Rattle.breakpoints.specs.Placed.{Placed}
use Rattle.breakpoints.proofs.Lookup.{none_found}
use Rattle.breakpoints.proofs.Written.{none_written, one_written, with_new_props}
use Rattle.breakpoints.proofs.rows.set_props.Goals as goal

-- the one breakpoint of the ID is written
pub returns-in-Some : goal.returns-in-Some
returns-in-Some c =
    let row : Placed = record c.in-Some.row.now { props = c.args.props; counts = [] } in
    rw c.clear.ensures (c.get_mut.follows.holds row).0
    ∙ ap (λ id. set_value (λ k. bytes_eq id k.items) c.args.rows.now.entries row) c.as_bytes.ensures
    ∙ one_written c.args.props.id (with_new_props c.args.props) c.args.rows.now.entries c.in-Some.row.now c.requires.keyed c.requires.orderly.differ
    (sym (c.in-Some.ensures.value ∙ ap (λ id. lookup (λ k. bytes_eq id k.items) c.args.rows.now.entries) c.as_bytes.ensures))

pub returns-in_default : goal.returns-in_default
returns-in_default c =
    ap (λ m. m.entries) c.get_mut.follows.holds-at-none
    ∙ sym (none_written c.args.props.id (with_new_props c.args.props) c.args.rows.now.entries (none_found c.args.props.id c.args.rows.now.entries c.requires.keyed
    (c.in_default.ensures.value ∙ ap (λ id. lookup (λ k. bytes_eq id k.items) c.args.rows.now.entries) c.as_bytes.ensures)))
