use Rattle.std.proofs.Common.{List, ℕ, [], ◌∷◌, refl, subst, w8}
use Rattle.std.specs.Prelude.{codes, ℤ}
use Rattle.std.specs.Fmt.{signed_decimal}
use Rattle.std.proofs.lemmas.Int.{to_z-of_z}
use Rattle.tcf_message.specs.Message.{◌•◌, HasPut}
use Rattle.tcf_message.proofs.PutLaws.{at_err, field_front, field_then, put_front}
use Rattle.tcf_message.proofs.writing.put_flow.Goals as goal

pub returns-in_err-put_field-clause-err : goal.returns-in_err-put_field-clause-err
returns-in_err-put_field-clause-err c =
    at_err c.from_residual.result (field_front (codes "F") (signed_decimal c.args.level • []) c.args.out.now c.put_field.new.out c.in_err-put_field.ensures.err)

pub returns-in_err-put_level-clause-err : goal.returns-in_err-put_level-clause-err
returns-in_err-put_level-clause-err c =
    let text : List ℕ = signed_decimal c.args.level in
    let mid = c.put_field.new.out in
    let part : HasPut text mid c.put_level.new.out = subst (λ (z : ℤ). HasPut (signed_decimal z) mid c.put_level.new.out) (to_z-of_z w8 c.args.level c.ranges.level) c.in_err-put_level.ensures.err in
    at_err c.from_residual-in_err-put_level.result
    (field_then (codes "F") (text • []) c.args.out.now mid c.put_level.new.out c.in_ok-put_field.ensures.ok (put_front text (0 ∷ []) (text • []) mid c.put_level.new.out refl part))
