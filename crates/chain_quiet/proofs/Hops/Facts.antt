-- What the laws say of an end alone.
use Rattle.std.proofs.Common.{List, sym}
use Rattle.std.specs.Prelude.{Bool}
use Rattle.channel_core.specs.Arrivals.{AreSpoken, Spoken, arrived, bytes_of, marked, messages_in, queue_of}
use Rattle.channel_core.specs.ReceivingLaws.{received}
use Rattle.channel_core.specs.RunLaws.{IsLoudAsTold}
use Rattle.channel_laws.specs.Meeting.{Side, run_of}
use Rattle.list_laws.specs.Fronts.{IsFront}
use Rattle.list_laws.proofs.Fronts.{front_flat}
use Rattle.channel_core.proofs.Running.{all_loud_as_told}
use Rattle.channel_core.proofs.TheLaws.{queues_in_order, receives_in_order}

-- ---- An end alone

-- what it gave is a front of what it queued
pub gave_front : {T : Type 0} → (s : Side T) → IsFront (bytes_of (run_of s).past.given) (bytes_of (run_of s).past.queued)
gave_front s =
    let r = run_of s in
    front_flat (λ o. marked o.bytes o.mark) r.past.given r.past.queued (r.end.queued, sym (queues_in_order s.hello s.mark s.calls))

-- what it took of a queue, and what waits, is a front of the messages
pub received_front : {T : Type 0} → (s : Side T) (spoken : List Spoken) (is_ended : Bool) → AreSpoken spoken → IsFront (arrived s.calls) (bytes_of (queue_of spoken is_ended))
    → IsFront (received (run_of s)) (messages_in spoken)
received_front s spoken is_ended formed came = (receives_in_order s.hello s.mark s.calls spoken is_ended formed came).front

-- what it told last fits its inbox
pub tells_levels : {T : Type 0} → (s : Side T) → IsLoudAsTold (run_of s)
tells_levels s = all_loud_as_told s.hello s.mark s.calls
