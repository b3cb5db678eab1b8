use Rattle.std.proofs.Common.{List, [], ◌∷◌, subst}
use Rattle.std.specs.Prelude.{Option, option_map}
use denote.Ref.{Bor}
use Rattle.target_hub.specs.Sent.{progress_at, progress_data}
use Rattle.tcf_text.specs.declared.log.LogLine.{LogLine}
use Rattle.log_check.specs.Heard.{Heard}
use Rattle.log_check.specs.Sorts.{as_accepted}
use Rattle.log_check.proofs.Ears.{addresses_not}
use Rattle.log_check.proofs.order.Listener.hear_progress.Goals as goal

pub returns-in-None : goal.returns-in-None
returns-in-None c =
    addresses_not (as_accepted c.args.self.commands.now) c.args.position c.args.addresses.now c.loop-address.left.now c.in-Some.after.now c.args.lines.now c.loop-address.rest.now c.in-Some.address
    c.loop-address.invariant c.in-Some.ensures.some
    (subst (λ (r : Option (Bor (List LogLine))). Heard (as_accepted c.args.self.commands.now) (progress_at c.args.position (progress_data c.in-Some.address) ∷ []) c.loop-address.rest.now (option_map (λ (b : Bor (List LogLine)). b.now) r)) c.in-None.is c.in_ok-next.ensures)
