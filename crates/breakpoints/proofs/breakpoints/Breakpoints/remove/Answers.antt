use Rattle.std.proofs.Common.{sym, ap, subst, ◌∙◌}
use Rattle.std.specs.Map.{values_of}
use Rattle.std.proofs.lemmas.Bool.{cond-false}
use Rattle.breakpoints.specs.Keyed.{IsKept}
use Rattle.breakpoints.specs.Rows.{unnamed}
use Rattle.breakpoints.proofs.Indexing.{indexed_from, kept_of}
use Rattle.breakpoints.proofs.Filtered.{kept_filter, values-filter}
use Rattle.breakpoints.proofs.breakpoints.Breakpoints.remove.Goals as goal

-- the others are kept as they were
pub invariant_of-self : goal.invariant_of-self
invariant_of-self c =
    let kept = kept_of _ _ c.self.invariant in
    indexed_from c.take_out.new.rows.entries c.in_ok-index.index (unnamed c.args.ids.now c.args.self.now)
    (subst IsKept (sym c.take_out.ensures.entries) (kept_filter _ c.self.inside.map.entries kept))
    (ap values_of c.take_out.ensures.entries ∙ values-filter _ c.self.inside.map.entries ∙ ap (unnamed c.args.ids.now) c.self.view_is)
    c.in_ok-index.ensures

pub returns-clause-after : goal.returns-clause-after
returns-clause-after c =
    ap values_of c.take_out.ensures.entries ∙ values-filter _ c.self.inside.map.entries ∙ ap (unnamed c.args.ids.now) c.self.view_is
    ∙ sym (cond-false _ _ _ (sym c.lacks.ensures ∙ c.if-lacks.false))
