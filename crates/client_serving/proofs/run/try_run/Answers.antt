use Rattle.std.proofs.Common.{subst}
use Rattle.std.specs.Prelude.{Err, Ok}
use Rattle.std.proofs.lemmas.Result.{err_from_is_err_and}
use Rattle.serving_wires.specs.Calls.{Makes}
use Rattle.client_serving.specs.Run.{RunsClient}
use Rattle.client_serving.specs.declared.end.ClientRun.{ClientRun}
use Rattle.client_serving.proofs.Calling.{run_is, run_on, run_unbegun, run_unconnected}
use Rattle.client_serving.proofs.run.try_run.Goals as goal

pub returns-in_err-channel : goal.returns-in_err-channel
returns-in_err-channel g c =
    let p = err_from_is_err_and c.from_residual.result c.from_residual.ensures.1 in
    rw (p.1, p.2) (run_unconnected c.in_err-channel.field-0.0 c.args.script.now c.args.address.now c.args.turns _ _ c.in_err-channel.ensures.seen)

pub returns-in_err-serving : goal.returns-in_err-serving
returns-in_err-serving g c =
    let p = err_from_is_err_and c.from_residual-in_err-serving.result c.from_residual-in_err-serving.ensures.1 in
    rw (p.1, p.2)
    (run_unbegun c.each_wire_is_carried.ensures c.in_ok-channel.channel _ c.args.script.now c.args.address.now c.args.turns _ _ c.in_ok-channel.ensures.new c.in_ok-channel.ensures.seen)

pub returns-in_err-end : goal.returns-in_err-end
returns-in_err-end g c =
    let p = err_from_is_err_and c.from_residual-in_err-end.result c.from_residual-in_err-end.ensures.1 in
    rw (p.1, p.2)
    (run_on (Err c.in_err-end.field-0.0) c.in_ok-channel.channel _ c.args.script.now c.args.address.now c.args.turns c.in_ok-serving.serving c.serve.new.serving _ _ _ _ _ c.new-sending.ensures c.in_ok-channel.ensures.new c.in_ok-channel.ensures.seen c.in_ok-serving.ensures c.in_err-end.ensures)

pub returns : goal.returns
returns g c =
    subst
    (λ (run : ClientRun). Makes (RunsClient c.args.script.now c.args.address.now c.args.turns (Ok run)) (g.W.Wires.seen c.args.wires.now) (g.W.Wires.seen c.serve.new.wires))
    (run_is c.into_run.result c.in_ok-end.end c.serve.new.serving.client c.into_run.ensures.end c.into_run.ensures.client)
    (run_on (Ok c.in_ok-end.end) c.in_ok-channel.channel _ c.args.script.now c.args.address.now c.args.turns c.in_ok-serving.serving c.serve.new.serving _ _ _ _ _ c.new-sending.ensures c.in_ok-channel.ensures.new c.in_ok-channel.ensures.seen c.in_ok-serving.ensures c.in_ok-end.ensures)
