use Rattle.std.proofs.Common.{◌≡◌, List, [], ◌∷◌, ◌++◌, subst, if◌then◌else◌}
use Rattle.std.specs.Prelude.{IfOk, IsTrue, OnOk, Ok}
use Rattle.tcf_values.specs.declared.values.BpProps.{BpProps}
use Rattle.breakpoints.specs.declared.breakpoints.BpDone.TheVariants.{Failed, Changed}
use Rattle.breakpoints.specs.Changes.{has_no_place}
use Rattle.breakpoints.specs.Rows.{ids_of, rows_for}
use Rattle.breakpoints.specs.Selecting.{selected, unselected}
use Rattle.breakpoints.specs.declared.selection.Selection.TheVariants.{Nothing}
use Rattle.breakpoints.proofs.Filtered.{filter_all, filter_none}
use Rattle.breakpoints.proofs.breakpoints.Breakpoints.add.Goals as goal
use Rattle.breakpoints.specs.Placed.{Placed}

-- nothing leaves, and the list of the new ones has one
pub returns-clause-refused : goal.returns-clause-refused
returns-clause-refused c =
    let P : List Placed → List BpProps → Type 0 =
    λ rest added. IsTrue (has_no_place added rest) → c.put.result ≡ Ok (Failed 1) in
    subst (λ stay. P stay (c.args.props.now ∷ [])) (filter_all c.args.self.now) (subst (P (unselected Nothing c.args.self.now)) c.from_ref.ensures.value c.put.ensures.refused)

pub returns-clause-done : goal.returns-clause-done
returns-clause-done c =
    let P : List Placed → List Placed → List BpProps → Type 0 =
    λ rest gone added. IfOk c.put.result (λ told. told ≡ (if has_no_place added rest then Failed 1 else Changed (ids_of gone) added [])) in
    let rest : List Placed = unselected Nothing c.args.self.now in
    let one : P rest (selected Nothing c.args.self.now) (c.args.props.now ∷ []) = subst (P rest (selected Nothing c.args.self.now)) c.from_ref.ensures.value c.put.ensures.done in
    subst (λ stay. P stay [] (c.args.props.now ∷ [])) (filter_all c.args.self.now) (subst (λ gone. P rest gone (c.args.props.now ∷ [])) (filter_none c.args.self.now) one)

pub returns-clause-after : goal.returns-clause-after
returns-clause-after c =
    let P : List Placed → List BpProps → Type 0 =
    λ rest added. OnOk c.put.result (c.put.new.self ≡ (if has_no_place added rest then c.args.self.now else rest ++ rows_for c.args.channel added)) in
    subst (λ stay. P stay (c.args.props.now ∷ [])) (filter_all c.args.self.now) (subst (P (unselected Nothing c.args.self.now)) c.from_ref.ensures.value c.put.ensures.after)
