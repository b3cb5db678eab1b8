use Rattle.std.proofs.Common.{◌∙◌, sym}
use Rattle.client_log.proofs.Keeping.{kept_behind}
use Rattle.client_log.proofs.Standing.{places_kept}
use Rattle.client_log.proofs.log.ClientLog.push.Goals as goal

pub invariant_of-self-2 : goal.invariant_of-self-2
invariant_of-self-2 c now =
    let kept = c.self.invariant c.if-self.false in
    let lines = c.self.inside.lines.items in (
      places_kept c.self.inside.sent.items c.note_place.new.sent.items lines c.push.new.self.items c.args.line c.len.result
          kept.0 (c.len.ensures ∙ sym (rw c.as_slice.ensures.value at c.as_slice.ensures.len)) c.in_ok-note_place.ensures c.in_ok-push.ensures.items,
      rw c.in_ok-push.ensures.items (kept_behind c.self.inside.cache c.learn.new.cache lines c.args.line
          (rw c.as_slice.ensures.value at c.in_ok-learn.ensures) kept.1),
    )
