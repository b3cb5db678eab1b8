use Rattle.std.proofs.lemmas.Result.{on_err_weaker}
use Rattle.tcf_message.specs.Message.{◌•◌}
use Rattle.tcf_message.proofs.PutLaws.{at_err, put_nothing, field_front, field_then}
use Rattle.tcf_message.proofs.writing.put_two.Goals as goal

pub returns-in_err-put_field-clause-err : goal.returns-in_err-put_field-clause-err
returns-in_err-put_field-clause-err c =
    at_err c.from_residual.result (field_front c.args.first.now (c.args.second.now • c.args.body.now) c.args.out.now c.put_field.new.out c.in_err-put_field.ensures.err)

pub returns-in_err-put_field-2-clause-err : goal.returns-in_err-put_field-2-clause-err
returns-in_err-put_field-2-clause-err c =
    at_err c.from_residual-in_err-put_field-2.result
    (field_then c.args.first.now (c.args.second.now • c.args.body.now) c.args.out.now c.put_field.new.out c.put_field-2.new.out c.in_ok-put_field.ensures.ok
    (field_front c.args.second.now c.args.body.now c.put_field.new.out c.put_field-2.new.out c.in_err-put_field-2.ensures.err))

pub returns-clause-err : goal.returns-clause-err
returns-clause-err c =
    on_err_weaker c.extend.result
    (λ e. field_then c.args.first.now (c.args.second.now • c.args.body.now) c.args.out.now c.put_field.new.out c.extend.new.self c.in_ok-put_field.ensures.ok
    (field_then c.args.second.now c.args.body.now c.put_field.new.out c.put_field-2.new.out c.extend.new.self c.in_ok-put_field-2.ensures.ok
    (put_nothing c.args.body.now c.put_field-2.new.out c.extend.new.self e)))
    c.extend.ensures.err
