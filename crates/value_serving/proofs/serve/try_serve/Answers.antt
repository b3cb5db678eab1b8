use Rattle.std.proofs.lemmas.Result.{err_from_is_err_and}
use Rattle.value_serving.proofs.Opening.{not_begun, not_listened, served_behind}
use Rattle.value_serving.proofs.serve.try_serve.Goals as goal
use Rattle.serving_wires.proofs.Turns.{listen_rose, rose_behind}

pub returns-in_err-serving-clause-serves : goal.returns-in_err-serving-clause-serves
returns-in_err-serving-clause-serves g c =
    let p = err_from_is_err_and c.from_residual.result c.from_residual.ensures.1 in
    rw (p.1, p.2) (not_begun c.each_wire_is_carried.ensures c.args.peer.now c.args.address.now c.args.turns _)

pub returns-in_err-serving-clause-fault : goal.returns-in_err-serving-clause-fault
returns-in_err-serving-clause-fault g c =
    let p = err_from_is_err_and c.from_residual.result c.from_residual.ensures.1 in
    rw (p.1, p.2) (λ ends. absurd cc)

pub returns-in_err-listen-clause-serves : goal.returns-in_err-listen-clause-serves
returns-in_err-listen-clause-serves g c =
    let p = err_from_is_err_and c.from_residual-in_err-listen.result c.from_residual-in_err-listen.ensures.1 in
    rw (p.1, p.2) (not_listened c.in_err-listen.field-0.0 c.each_wire_is_carried.ensures c.args.peer.now c.args.address.now c.args.turns _ _ c.in_err-listen.ensures.seen)

pub returns-in_err-listen-clause-fault : goal.returns-in_err-listen-clause-fault
returns-in_err-listen-clause-fault g c =
    let p = err_from_is_err_and c.from_residual-in_err-listen.result c.from_residual-in_err-listen.ensures.1 in
    rw (p.1, p.2) (λ ends. listen_rose c.in_err-listen.field-0.0 c.args.address.now _ _ c.in_err-listen.ensures.seen ends)

pub returns-clause-serves : goal.returns-clause-serves
returns-clause-serves g c =
    served_behind c.in_ok-listen.field-0 c.args.peer.now c.args.address.now _ c.args.turns _ c.in_ok-serving.serving c.new-sending.result _ _ _ c.in_ok-serving.ensures c.new-sending.ensures
    c.in_ok-listen.ensures.seen c.serve.ensures.serves

pub returns-clause-fault : goal.returns-clause-fault
returns-clause-fault g c =
    rose_behind c.in_ok-listen.field-0 c.args.address.now _ (g.W.Wires.seen c.args.wires.now) (g.W.Wires.seen c.listen.new.self) (g.W.Wires.seen c.serve.new.wires)
    c.in_ok-listen.ensures.seen c.serve.ensures.fault
