use Rattle.std.proofs.Common.{◌≡◌, ◌++◌, List, not, filter, sym, ap, subst, ◌∙◌}
use Rattle.std.specs.List.{AllByRecursion}
use Rattle.std.specs.Map.{values_of}
use Rattle.std.proofs.lemmas.Bool.{cond-false}
use Rattle.breakpoints.specs.Placed.{Placed}
use Rattle.breakpoints.specs.Changes.{clashes}
use Rattle.breakpoints.specs.Counts.{AreCounts}
use Rattle.breakpoints.specs.Rows.{rows_for}
use Rattle.breakpoints.specs.Selecting.{selects, unselected}
use Rattle.breakpoints.proofs.Filtered.{kept_filter, keyed_filter, values-filter}
use Rattle.breakpoints.proofs.Indexing.{indexed_from, kept_of}
use Rattle.breakpoints.proofs.Fresh.{a_place, apart_from, kept_append, values_append}
use Rattle.breakpoints.proofs.breakpoints.Breakpoints.put.Goals as goal

-- no ID is given twice
pub keyed-requires : goal.keyed-requires
keyed-requires c =
    (a_place c.args.list.now (unselected c.args.leaving c.args.self.now) (sym c.has_no_place.ensures ∙ c.if-has_no_place.false)).once

-- no ID of the new ones is among those that stay
pub replace-requires : goal.replace-requires
replace-requires c =
    let rest : List Placed = unselected c.args.leaving c.args.self.now in
    let left : values_of (filter (λ e. not (selects c.args.leaving e.1)) c.self.inside.map.entries) ≡ rest =
    values-filter (λ row. not (selects c.args.leaving row)) c.self.inside.map.entries ∙ ap (unselected c.args.leaving) c.self.view_is in
    let place = a_place c.args.list.now rest (sym c.has_no_place.ensures ∙ c.if-has_no_place.false) in
    apart_from c.args.channel c.in_ok-fresh.fresh.entries (filter (λ e. not (selects c.args.leaving e.1)) c.self.inside.map.entries) c.args.list.now
    c.in_ok-fresh.ensures.keyed (keyed_filter _ c.self.inside.map.entries c.self.invariant.keyed) c.in_ok-fresh.ensures.rows
    (ap (clashes c.args.list.now) left ∙ place.apart)

pub invariant_of-self-2 : goal.invariant_of-self-2
invariant_of-self-2 c =
    let rest : List Placed = unselected c.args.leaving c.args.self.now in
    let left : values_of (filter (λ e. not (selects c.args.leaving e.1)) c.self.inside.map.entries) ≡ rest =
    values-filter (λ row. not (selects c.args.leaving row)) c.self.inside.map.entries ∙ ap (unselected c.args.leaving) c.self.view_is in
    let place = a_place c.args.list.now rest (sym c.has_no_place.ensures ∙ c.if-has_no_place.false) in
    let kept = kept_filter (λ row. not (selects c.args.leaving row)) c.self.inside.map.entries (kept_of _ _ c.self.invariant) in
    let were : AllByRecursion (λ row. AreCounts row.counts) rest = subst (AllByRecursion (λ row. AreCounts row.counts)) left kept.orderly.counted in
    indexed_from c.replace.new.rows.entries c.add_list.new.index (rest ++ rows_for c.args.channel c.args.list.now)
    (kept_append c.args.channel (filter (λ e. not (selects c.args.leaving e.1)) c.self.inside.map.entries) c.in_ok-fresh.fresh.entries c.replace.new.rows.entries c.args.list.now rest
    c.in_ok-replace.ensures.entries left c.in_ok-fresh.ensures.rows
    (keyed_filter _ c.self.inside.map.entries c.self.invariant.keyed) c.in_ok-fresh.ensures.keyed c.in_ok-replace.ensures.unique place.room were)
    (values_append c.args.channel (filter (λ e. not (selects c.args.leaving e.1)) c.self.inside.map.entries) c.in_ok-fresh.fresh.entries c.replace.new.rows.entries c.args.list.now rest
    c.in_ok-replace.ensures.entries left c.in_ok-fresh.ensures.rows)
    (c.in_ok-add_list.ensures c.args.channel rest c.in_ok-index.ensures)

pub returns-clause-after : goal.returns-clause-after
returns-clause-after c =
    let rest : List Placed = unselected c.args.leaving c.args.self.now in
    let left : values_of (filter (λ e. not (selects c.args.leaving e.1)) c.self.inside.map.entries) ≡ rest =
    values-filter (λ row. not (selects c.args.leaving row)) c.self.inside.map.entries ∙ ap (unselected c.args.leaving) c.self.view_is in
    values_append c.args.channel (filter (λ e. not (selects c.args.leaving e.1)) c.self.inside.map.entries) c.in_ok-fresh.fresh.entries c.replace.new.rows.entries c.args.list.now rest
    c.in_ok-replace.ensures.entries left c.in_ok-fresh.ensures.rows
    ∙ sym (cond-false _ _ _ (sym c.has_no_place.ensures ∙ c.if-has_no_place.false))
