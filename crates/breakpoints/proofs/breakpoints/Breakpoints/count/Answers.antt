use Rattle.std.proofs.Common.{subst, ◌∙◌}
use Rattle.breakpoints.specs.Counting.{row_among}
use Rattle.breakpoints.specs.Rows.{IsOrderly}
use Rattle.breakpoints.proofs.Counting.{among_keeps, among_kept, among_props, changed_indexed, hits_listed, none_counted, none_stops, over_hits, raised_hits, values_changed}
use Rattle.breakpoints.proofs.Indexing.{kept_of}
use Rattle.breakpoints.proofs.breakpoints.Breakpoints.count.Goals as goal

pub raise-requires : goal.raise-requires
raise-requires c = kept_of _ _ c.self.invariant

pub is_one_over-stops-requires : goal.is_one_over-stops-requires
is_one_over-stops-requires c = among_kept c.args.process c.as_slice.result.now _ _ (kept_of _ _ c.self.invariant) c.in_ok-raise.ensures.after

-- nothing is hit, so all stays
pub returns-then-is_empty-clause-stops : goal.returns-then-is_empty-clause-stops
returns-then-is_empty-clause-stops c =
    none_stops c.args.process c.args.attached c.args.pc c.args.self.now _ (subst IsOrderly c.self.view_is c.self.invariant.orderly) c.in_ok-ids.ensures
    (c.is_empty.ensures.0 c.if-is_empty.true)

pub returns-then-is_empty-clause-after : goal.returns-then-is_empty-clause-after
returns-then-is_empty-clause-after c =
    none_counted c.args.process c.args.attached c.args.pc c.args.self.now _ (subst IsOrderly c.self.view_is c.self.invariant.orderly) c.in_ok-ids.ensures
    (c.is_empty.ensures.0 c.if-is_empty.true)

pub returns-then-is_empty-clause-listed : goal.returns-then-is_empty-clause-listed
returns-then-is_empty-clause-listed c =
    let orderly : IsOrderly c.args.self.now = subst IsOrderly c.self.view_is c.self.invariant.orderly in
    hits_listed c.args.process c.args.attached c.args.pc c.args.self.now c.args.self.now _ orderly c.in_ok-ids.ensures
    (none_counted c.args.process c.args.attached c.args.pc c.args.self.now _ orderly c.in_ok-ids.ensures (c.is_empty.ensures.0 c.if-is_empty.true))

-- each stays where it stands
pub invariant_of-self-2 : goal.invariant_of-self-2
invariant_of-self-2 c =
    changed_indexed (row_among c.args.process c.as_slice.result.now) (among_keeps c.args.process c.as_slice.result.now) (among_props c.args.process c.as_slice.result.now) _ _ _
    c.self.invariant c.in_ok-raise.ensures.after

pub returns-clause-stops : goal.returns-clause-stops
returns-clause-stops c =
    let orderly : IsOrderly c.args.self.now = subst IsOrderly c.self.view_is c.self.invariant.orderly in
    let becomes =
    values_changed (row_among c.args.process c.as_slice.result.now) c.self.inside.map.entries c.raise.new.rows.entries c.args.self.now c.self.view_is c.in_ok-raise.ensures.after
    ∙ raised_hits c.args.process c.args.attached c.args.pc c.args.self.now c.as_slice.result.now orderly (c.as_slice.ensures ∙ c.in_ok-ids.ensures) in
    c.is_one_over-stops.ensures
    ∙ over_hits c.args.process c.args.attached c.args.pc c.args.self.now _ _ orderly (c.as_slice-2.ensures ∙ c.in_ok-ids.ensures) becomes

pub returns-clause-after : goal.returns-clause-after
returns-clause-after c =
    let orderly : IsOrderly c.args.self.now = subst IsOrderly c.self.view_is c.self.invariant.orderly in
    values_changed (row_among c.args.process c.as_slice.result.now) c.self.inside.map.entries c.raise.new.rows.entries c.args.self.now c.self.view_is c.in_ok-raise.ensures.after
    ∙ raised_hits c.args.process c.args.attached c.args.pc c.args.self.now c.as_slice.result.now orderly (c.as_slice.ensures ∙ c.in_ok-ids.ensures)

pub returns-clause-listed : goal.returns-clause-listed
returns-clause-listed c =
    let orderly : IsOrderly c.args.self.now = subst IsOrderly c.self.view_is c.self.invariant.orderly in
    hits_listed c.args.process c.args.attached c.args.pc c.args.self.now _ _ orderly c.in_ok-ids.ensures
    (values_changed (row_among c.args.process c.as_slice.result.now) c.self.inside.map.entries c.raise.new.rows.entries c.args.self.now c.self.view_is c.in_ok-raise.ensures.after
    ∙ raised_hits c.args.process c.args.attached c.args.pc c.args.self.now c.as_slice.result.now orderly (c.as_slice.ensures ∙ c.in_ok-ids.ensures))
