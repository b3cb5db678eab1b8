use Rattle.std.proofs.Common.{sym, ◌∙◌}
use Rattle.tcf_values.specs.CutLaws.{cut_at_place, cut_there}
use Rattle.tcf_values.proofs.cut.cut_at.Goals as goal

pub returns-clause-value : goal.returns-clause-value
returns-clause-value c = sym (cut_there _ _ _ _ (cut_at_place _ _ _ (sym c.place_of.ensures ∙ c.in_ok-at.was)))

pub returns-clause-cut : goal.returns-clause-cut
returns-clause-cut c = cut_at_place _ _ _ (sym c.place_of.ensures ∙ c.in_ok-at.was)
