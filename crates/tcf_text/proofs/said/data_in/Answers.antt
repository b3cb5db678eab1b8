use Rattle.std.proofs.Common.{◌++◌, sym, ◌∙◌, ap}
use Rattle.tcf_text.proofs.Data.{data_more, data_last, data_bad, data_end}
use Rattle.tcf_text.proofs.said.data_in.Goals as goal

pub loop-word-preserved : goal.loop-word-preserved
loop-word-preserved c =
    data_more c.args.text.now c.loop-word.rest.now c.in-Some.word.now c.in-Some.after.now c.loop-word.out c.extend.new.self c.push.new.self c.in-Some-2.part c.loop-word.invariant c.in-Some.ensures.cut
    (sym c.in-Some-2.is ∙ c.in_ok-part.ensures) (c.in_ok-extend-in-Some-2.ensures.ok ∙ ap (λ p. c.loop-word.out ++ p) c.as_slice.ensures) c.in_ok-push-in-Some-2.ensures.ok

pub returns-in-None : goal.returns-in-None
returns-in-None c =
    data_bad c.args.text.now c.loop-word.rest.now c.in-Some.word.now c.in-Some.after.now c.loop-word.out c.loop-word.invariant c.in-Some.ensures.cut (sym c.in-None.is ∙ c.in_ok-part.ensures)

pub returns-in_ok-extend-in-Some-3 : goal.returns-in_ok-extend-in-Some-3
returns-in_ok-extend-in-Some-3 c =
    data_last c.args.text.now c.loop-word.rest.now c.loop-word.out c.extend-in-Some-3.new.self c.in-Some-3.last c.loop-word.invariant c.in_default.ensures.none
    (sym c.in-Some-3.is ∙ c.in_ok-last.ensures) (c.in_ok-extend-in-Some-3.ensures.ok ∙ ap (λ p. c.loop-word.out ++ p) c.as_slice-in-Some-3.ensures)

pub returns-in-None-2 : goal.returns-in-None-2
returns-in-None-2 c =
    data_end c.args.text.now c.loop-word.rest.now c.loop-word.out c.loop-word.invariant c.in_default.ensures.none (sym c.in-None-2.is ∙ c.in_ok-last.ensures)
