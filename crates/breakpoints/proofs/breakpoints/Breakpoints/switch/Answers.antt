use Rattle.std.proofs.Common.{sym, ap, subst, ◌∙◌}
use Rattle.std.specs.Map.{values_of}
use Rattle.std.proofs.lemmas.Bool.{cond-false}
use Rattle.breakpoints.specs.Changes.{with_flags}
use Rattle.breakpoints.specs.Keyed.{IsKept}
use Rattle.breakpoints.proofs.Indexing.{indexed_from, kept_of}
use Rattle.breakpoints.proofs.Written.{flag_keeps, kept_with, values-with_values}
use Rattle.breakpoints.proofs.breakpoints.Breakpoints.switch.Goals as goal

-- each stays under its ID
pub invariant_of-self : goal.invariant_of-self
invariant_of-self c =
    let kept = kept_of _ _ c.self.invariant in
    indexed_from c.set_flags.new.rows.entries c.in_ok-index.index (with_flags c.args.enabled c.args.ids.now c.args.self.now)
    (subst IsKept (sym c.set_flags.ensures) (kept_with _ (flag_keeps c.args.enabled c.args.ids.now) c.self.inside.map.entries kept))
    (ap values_of c.set_flags.ensures ∙ values-with_values _ c.self.inside.map.entries ∙ ap (with_flags c.args.enabled c.args.ids.now) c.self.view_is)
    c.in_ok-index.ensures

pub returns-clause-after : goal.returns-clause-after
returns-clause-after c =
    ap values_of c.set_flags.ensures ∙ values-with_values _ c.self.inside.map.entries ∙ ap (with_flags c.args.enabled c.args.ids.now) c.self.view_is
    ∙ sym (cond-false _ _ _ (sym c.lacks.ensures ∙ c.if-lacks.false))
