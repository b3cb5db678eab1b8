use Rattle.std.proofs.Common.{List, [], ◌∷◌, subst}
use Rattle.std.specs.Prelude.{Option, option_map}
use denote.Ref.{Bor}
use Rattle.target_hub.specs.Sent.{event_told}
use Rattle.tcf_text.specs.declared.log.LogLine.{LogLine}
use Rattle.log_check.specs.Heard.{Heard}
use Rattle.log_check.specs.Sorts.{as_accepted}
use Rattle.log_check.proofs.Ears.{events_not}
use Rattle.log_check.proofs.order.Listener.hear_events.Goals as goal

pub returns-in-None : goal.returns-in-None
returns-in-None c =
    events_not (as_accepted c.args.self.commands.now) c.args.position c.args.events.now c.loop-event.left.now c.in-Some.after.now c.args.lines.now c.loop-event.rest.now c.in-Some.event.now
    c.loop-event.invariant c.in-Some.ensures.some
    (subst (λ (r : Option (Bor (List LogLine))). Heard (as_accepted c.args.self.commands.now) (event_told c.args.position c.in-Some.event.now ∷ []) c.loop-event.rest.now (option_map (λ (b : Bor (List LogLine)). b.now) r)) c.in-None.is c.in_ok-next.ensures)
