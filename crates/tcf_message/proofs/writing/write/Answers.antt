use Rattle.std.specs.Prelude.{codes}
use Rattle.tcf_message.specs.Message.{◌•◌}
use Rattle.tcf_message.proofs.PutLaws.{at_err, field_front, field_then}
use Rattle.tcf_message.proofs.writing.write.Goals as goal

pub returns-in_err-put_field-in-Command-clause-err :
    goal.returns-in_err-put_field-in-Command-clause-err
returns-in_err-put_field-in-Command-clause-err c =
    let m = c.in-Command in
    rw m.is
    (at_err c.from_residual.result
    (field_front (codes "C") (m.token.now • m.service.now • m.name.now • m.body.now) c.args.out.now c.put_field.new.out c.in_err-put_field-in-Command.ensures.err))

pub returns-in_err-put_field-in-Command-2-clause-err :
    goal.returns-in_err-put_field-in-Command-2-clause-err
returns-in_err-put_field-in-Command-2-clause-err c =
    let m = c.in-Command in
    rw m.is
    (at_err c.from_residual-in_err-put_field-in-Command-2.result
    (field_then (codes "C") (m.token.now • m.service.now • m.name.now • m.body.now) c.args.out.now c.put_field.new.out c.put_field-in-Command.new.out c.in_ok-put_field-in-Command.ensures.ok
    (field_front m.token.now (m.service.now • m.name.now • m.body.now) c.put_field.new.out c.put_field-in-Command.new.out c.in_err-put_field-in-Command-2.ensures.err)))

pub returns-in_err-put_field-in-Event-clause-err : goal.returns-in_err-put_field-in-Event-clause-err
returns-in_err-put_field-in-Event-clause-err c =
    let m = c.in-Event in
    rw m.is
    (at_err c.from_residual-in_err-put_field-in-Event.result
    (field_front (codes "E") (m.service.now • m.name.now • m.body.now) c.args.out.now c.put_field-in-Event.new.out c.in_err-put_field-in-Event.ensures.err))
