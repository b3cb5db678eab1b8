use Rattle.std.proofs.Common.{◌≡◌, ℕ, List, ◌∷◌, sym, ap, ◌∙◌}
use Rattle.std.specs.Map.{values_of}
use Rattle.breakpoints.specs.Counting.{counts_of, row_among, row_with_counts}
use Rattle.breakpoints.specs.Counts.{raised}
use Rattle.breakpoints.specs.Keyed.{with_values}
use Rattle.std.proofs.lemmas.List.{nil_from_length}
use Rattle.breakpoints.proofs.Counting.{among_kept, none_raised, one_more_raised}
use Rattle.breakpoints.proofs.tally.+raise.Goals as goal

-- without IDs nothing is raised
pub returns-in_default-clause-after : goal.returns-in_default-clause-after
returns-in_default-clause-after t c =
    none_raised c.args.process c.args.rows.now.entries
    ∙ ap (λ (ids : List (List ℕ)). with_values (row_among c.args.process ids) c.args.rows.now.entries) (sym (nil_from_length c.args.ids.now c.in_default.ensures.cases))

pub set_counts-requires : goal.set_counts-requires
set_counts-requires t c = among_kept c.args.process c.in-Some.rest.now c.args.rows.now.entries c.raise.new.rows.entries c.requires c.in_ok-raise.ensures.after

-- the first one's counts go in once those of the others are raised
pub returns-clause-after : goal.returns-clause-after
returns-clause-after t c =
    let split : c.args.ids.now ≡ c.in-Some.first.now ∷ c.in-Some.rest.now = c.in-Some.ensures.cases.0 in
    c.set_counts.ensures
    ∙ ap (λ (id : List ℕ). with_values (row_with_counts id c.in_ok-counts.counts) c.raise.new.rows.entries) c.as_bytes-2.ensures
    ∙ ap (with_values (row_with_counts c.in-Some.first.now c.in_ok-counts.counts)) c.in_ok-raise.ensures.after
    ∙ one_more_raised c.args.process c.in-Some.first.now c.in-Some.rest.now c.in_ok-counts.counts c.args.rows.now.entries c.requires
    (c.in_ok-counts.ensures ∙ ap (λ (id : List ℕ). raised c.args.process (counts_of id (values_of c.args.rows.now.entries))) c.as_bytes.ensures)
    ∙ ap (λ (ids : List (List ℕ)). with_values (row_among c.args.process ids) c.args.rows.now.entries) (sym split)
