use Rattle.std.proofs.lemmas.Result.{on_ok_weaker}
use Rattle.tcf_schedules.proofs.Parts.{parts_step, parts_end}
use Rattle.tcf_schedules.proofs.place.push_parts.Goals as goal

pub loop-word-preserved : goal.loop-word-preserved
loop-word-preserved c = parts_step _ _ _ _ _ _ c.loop-word.invariant c.in-Some.ensures.cut c.in_ok-push_part.ensures

pub returns : goal.returns
returns c = on_ok_weaker c.push_part-2.result (parts_end _ _ _ _ c.loop-word.invariant c.in_default.ensures.none) c.push_part-2.ensures
