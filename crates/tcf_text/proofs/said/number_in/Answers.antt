use Rattle.std.proofs.Common.{◌<◌, ◌^◌, sym, ◌∙◌, arith}
use Rattle.std.proofs.lemmas.Slice.Eq.{bytes_eq-Decides}
use Rattle.tcf_text.proofs.Numbers.{number_said, other_says_none, unread_says_none}
use Rattle.tcf_text.proofs.said.number_in.Goals as goal

pub returns-in-Ok : goal.returns-in-Ok
returns-in-Ok c =
    let fits : c.in-Ok.number < 2 ^ 64 = omega (arith, c.in-Ok.ensures.value.0) in
    let same = (bytes_eq-Decides c.format.result.now c.args.text.now).0 (sym c.eq.ensures ∙ c.if-eq.true) in
    sym (number_said c.args.text.now c.in-Ok.number fits (sym same ∙ c.format.ensures.text))

pub returns-in_default : goal.returns-in_default
returns-in_default c =
    sym (other_says_none c.parse.result c.in-Ok.number c.args.text.now c.parse.ensures.value.0 c.in-Ok.is (λ e.
    let same = (bytes_eq-Decides c.format.result.now c.args.text.now).1 (c.format.ensures.text ∙ e) in cc))

pub returns-in_default-2 : goal.returns-in_default-2
returns-in_default-2 c = sym (unread_says_none c.parse.result c.in_default.field-0 c.args.text.now c.parse.ensures.value.0 c.in_default.is)
