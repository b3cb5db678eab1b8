use Rattle.std.proofs.Common.{◌≡◌, false, not, sym, ap, subst, ◌∙◌}
use Rattle.std.specs.Map.{values_of}
use Rattle.std.proofs.lemmas.Bool.{cond-false}
use Rattle.tcf_values.specs.declared.values.BpProps.{BpProps}
use Rattle.breakpoints.specs.Changes.{with_props}
use Rattle.breakpoints.specs.Keyed.{IsKept}
use Rattle.breakpoints.specs.Rows.{is_there}
use Rattle.breakpoints.proofs.Indexing.{indexed_from, kept_of}
use Rattle.breakpoints.proofs.Written.{kept_with, props_keeps, values-with_values}
use Rattle.breakpoints.proofs.breakpoints.Breakpoints.change.Goals as goal

pub set_props-requires : goal.set_props-requires
set_props-requires c = kept_of _ _ c.self.invariant

-- each stays under its ID
pub invariant_of-self : goal.invariant_of-self
invariant_of-self c =
    let kept = kept_of _ _ c.self.invariant in
    indexed_from c.set_props.new.rows.entries c.in_ok-index.index (with_props c.args.props.now c.args.self.now)
    (subst IsKept (sym c.set_props.ensures) (kept_with _ (props_keeps c.in_ok-stored.stored) c.self.inside.map.entries kept))
    (ap values_of c.set_props.ensures ∙ values-with_values _ c.self.inside.map.entries
    ∙ ap (with_props c.in_ok-stored.stored) c.self.view_is ∙ ap (λ (p : BpProps). with_props p c.args.self.now) c.in_ok-stored.ensures)
    c.in_ok-index.ensures

pub returns-clause-after : goal.returns-clause-after
returns-clause-after c =
    let there : not (is_there c.args.props.now.id c.args.self.now) ≡ false =
    ap (λ id. not (is_there id c.args.self.now)) (sym c.as_bytes.ensures) ∙ ap not (sym c.is_there.ensures ∙ c.if-not-is_there.false) in
    ap values_of c.set_props.ensures ∙ values-with_values _ c.self.inside.map.entries
    ∙ ap (with_props c.in_ok-stored.stored) c.self.view_is ∙ ap (λ (p : BpProps). with_props p c.args.self.now) c.in_ok-stored.ensures
    ∙ sym (cond-false _ _ _ there)
