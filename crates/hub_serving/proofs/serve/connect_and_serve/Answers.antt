use Rattle.std.proofs.Common.{ap, ◌∙◌}
use Rattle.std.proofs.lemmas.Result.{err_from_is_err_and}
use Rattle.serving_wires.proofs.Leading.{Rows}
use Rattle.serving_wires.specs.Sending.{begun}
use Rattle.serving_wires.proofs.Turns.{listen_rose, rose_behind as rose_listened}
use Rattle.hub_serving.specs.Serving.{connected_on}
use Rattle.hub_serving.specs.ServingValue.{ServingValue}
use Rattle.hub_serving.proofs.Opening.{connect_rose, not_connected, not_listened, not_started, rose_behind, served_behind}
use Rattle.hub_serving.proofs.ServedSo.{serves_a_hub}
use Rattle.hub_serving.proofs.serve.connect_and_serve.Goals as goal

pub returns-in_err-upper-clause-serves : goal.returns-in_err-upper-clause-serves
returns-in_err-upper-clause-serves g c =
    let p = err_from_is_err_and c.from_residual.result c.from_residual.ensures.1 in
    rw (p.1, p.2) (not_connected c.in_err-upper.field-0.0 c.args.peer.now c.args.address.now c.args.turns _ _ c.in_err-upper.ensures.seen)

pub returns-in_err-connected-clause-serves : goal.returns-in_err-connected-clause-serves
returns-in_err-connected-clause-serves g c =
    let p = err_from_is_err_and c.from_residual-in_err-connected.result c.from_residual-in_err-connected.ensures.1 in
    rw (p.1, p.2)
    (not_started c.each_wire_is_carried.ensures serves_a_hub c.args.peer.now c.args.address.now c.in_ok-upper.upper _ c.args.turns _ _ c.in_ok-upper.ensures.new c.in_ok-upper.ensures.seen)

pub returns-in_err-listen-clause-serves : goal.returns-in_err-listen-clause-serves
returns-in_err-listen-clause-serves g c =
    let p = err_from_is_err_and c.from_residual-in_err-listen.result c.from_residual-in_err-listen.ensures.1 in
    rw (p.1, p.2)
    (not_listened c.in_err-listen.field-0.0 c.each_wire_is_carried.ensures serves_a_hub c.args.peer.now c.args.address.now c.in_ok-upper.upper _ c.args.turns _ _ _ c.in_ok-upper.ensures.new
    c.in_ok-upper.ensures.seen c.in_err-listen.ensures.seen)

pub returns-clause-serves : goal.returns-clause-serves
returns-clause-serves g c =
    served_behind serves_a_hub c.in_ok-listen.field-0 c.args.peer.now c.args.address.now c.in_ok-upper.upper _ c.args.turns _ c.connected.new.self c.connected.new.sending _ _ _ _
    c.in_ok-upper.ensures.new (c.in_ok-connected.ensures.serving ∙ ap (λ (v : ServingValue). connected_on c.in_ok-upper.upper v) c.requires.serving)
    (c.in_ok-connected.ensures.sending ∙ ap (λ (rows : Rows). begun c.in_ok-upper.upper rows) c.requires.sending)
    c.in_ok-upper.ensures.seen c.in_ok-listen.ensures.seen c.serve.ensures.serves

pub returns-in_err-upper-clause-fault : goal.returns-in_err-upper-clause-fault
returns-in_err-upper-clause-fault g c =
    let p = err_from_is_err_and c.from_residual.result c.from_residual.ensures.1 in
    rw (p.1, p.2) (λ ends. connect_rose c.in_err-upper.field-0.0 c.args.peer.now _ _ c.in_err-upper.ensures.seen ends)

pub returns-in_err-listen-clause-fault : goal.returns-in_err-listen-clause-fault
returns-in_err-listen-clause-fault g c =
    let p = err_from_is_err_and c.from_residual-in_err-listen.result c.from_residual-in_err-listen.ensures.1 in
    rw (p.1, p.2)
    (rose_behind c.args.peer.now c.in_ok-upper.upper _ (g.W.Wires.seen c.args.wires.now) (g.W.Wires.seen c.connect.new.self) (g.W.Wires.seen c.listen.new.self) c.in_ok-upper.ensures.seen
    (λ ends. listen_rose c.in_err-listen.field-0.0 c.args.address.now _ _ c.in_err-listen.ensures.seen ends))

pub returns-clause-fault : goal.returns-clause-fault
returns-clause-fault g c =
    rose_behind c.args.peer.now c.in_ok-upper.upper _ (g.W.Wires.seen c.args.wires.now) (g.W.Wires.seen c.connect.new.self) (g.W.Wires.seen c.serve.new.wires) c.in_ok-upper.ensures.seen
    (rose_listened c.in_ok-listen.field-0 c.args.address.now _ (g.W.Wires.seen c.connect.new.self) (g.W.Wires.seen c.listen.new.self) (g.W.Wires.seen c.serve.new.wires)
    c.in_ok-listen.ensures.seen c.serve.ensures.fault)
