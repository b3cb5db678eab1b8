use Rattle.std.proofs.Common.{refl}
use Rattle.std.proofs.lemmas.Result.{err_from_is_err_and}
use Rattle.serving_wires.specs.Turn.{TakesTurn, before_event}
use Rattle.serving_wires.proofs.Taking.{not_heeded, not_put, turn_taken}
use Rattle.serving_wires.proofs.Turns.{not_given}
use Rattle.serving_wires.proofs.run.take_turn.Goals as goal

pub returns-in_err-event : goal.returns-in_err-event
returns-in_err-event g c =
    let p = err_from_is_err_and c.from_residual.result c.from_residual.ensures.1 in
    rw (p.1, p.2)
    (record {
      turn = not_given c.in_err-event.field-0.0
          (TakesTurn g.S.Served.behaviour (record { served = c.args.served.now; sending = c.args.sending.now }) (record { served = c.args.served.now; sending = c.args.sending.now }) _ (g.W.Wires.seen c.next_event.new.wires).unused)
          _ _ refl (before_event refl) c.in_err-event.ensures.seen;
    })

pub returns-in_err-heed : goal.returns-in_err-heed
returns-in_err-heed g c =
    let p = err_from_is_err_and c.from_residual-in_err-heed.result c.from_residual-in_err-heed.ensures.1 in
    rw (p.1, p.2)
    (record {
      turn = not_heeded g.S.Served.behaviour c.in_ok-event.event (record { served = c.args.served.now; sending = c.args.sending.now })
          (record { served = c.heed.new.self; sending = c.heed.new.sending }) (g.W.Wires.seen c.heed.new.wires).unused _ _ _ c.in_ok-event.ensures.can c.in_ok-event.ensures.seen
          c.in_err-heed.ensures.err;
    })

pub returns-in_err-flush : goal.returns-in_err-flush
returns-in_err-flush g c =
    let p = err_from_is_err_and c.from_residual-in_err-flush.result c.from_residual-in_err-flush.ensures.1 in
    rw (p.1, p.2)
    (record {
      turn = not_put g.S.Served.behaviour c.in_ok-event.event (record { served = c.args.served.now; sending = c.args.sending.now })
          (record { served = c.heed.new.self; sending = c.heed.new.sending }) (record { served = c.heed.new.self; sending = c.flush.new.self }) (g.W.Wires.seen c.flush.new.wires).unused
          _ _ _ _ c.in_ok-event.ensures.can c.in_ok-event.ensures.seen c.in_ok-heed.ensures.ok c.in_err-flush.ensures.err;
    })

pub returns : goal.returns
returns g c =
    record {
      turn = turn_taken g.S.Served.behaviour c.in_ok-event.event c.is_stop-is_last.result (record { served = c.args.served.now; sending = c.args.sending.now }) c.heed.new.self
          c.heed.new.sending c.flush.new.self _ _ _ _ c.in_ok-event.ensures.can c.in_ok-event.ensures.seen
          c.is_stop-is_last.ensures c.in_ok-heed.ensures.peer c.in_ok-heed.ensures.ok c.in_ok-flush.ensures.ok;
    }
