use Rattle.std.proofs.Common.{◌∙◌, ap, subst}
use Rattle.std.specs.Prelude.{Option, Some, IfSome}
use Rattle.journal_text.specs.Read.{HeadIsRead}
use Rattle.journal_text.specs.declared.reading.HeadSays.{HeadSays}
use Rattle.journal_text.proofs.Imaging.{one_input_more}
use Rattle.journal_text.proofs.reading.Reading.add_head.Goals as goal

pub invariant_of-self-in-Some-Input : goal.invariant_of-self-in-Some-Input
invariant_of-self-in-Some-Input c =
    let head = c.in-Some-Input in
    let read = subst (λ (h : Option HeadSays). IfSome h HeadIsRead) (head.is ∙ ap (λ (h : HeadSays). Some h) head.field-0-is) c.in_ok-says.ensures.read in
    one_input_more c.self.inside.inputs c.push.new.self head.input c.self.invariant read c.in_ok-push-in-Some-Input.ensures.ok
