-- Where one end of a live hop is closed the other one is closed too, or the end of the stream is under way to it.
use Rattle.std.proofs.Common.{◌≡◌, Bool, true, false, List, [], ◌∷◌, ◌++◌, ◌⊎◌, inl, inr, refl, sym, ◌∙◌, append-nil}
use Rattle.std.specs.List.{list_any}
use Rattle.channel_core.specs.Arrivals.{Marked, arrived}
use Rattle.channel_core.specs.Closing.{is_closed}
use Rattle.channel_core.specs.ReceivingLaws.{IsFairCause, received}
use Rattle.channel_core.specs.Wire.{end_of_stream}
use Rattle.channel_core.specs.declared.held.Outgoing.{Outgoing}
use Rattle.channel_core.specs.declared.states.Cause.{Cause}
use Rattle.channel_core.specs.declared.states.Cause.TheVariants.{Ended, Eos, Own, Protocol, Stream}
use Rattle.channel_core.specs.declared.states.EndState.{EndState}
use Rattle.channel_core.specs.declared.states.EndState.TheVariants.{Closed, Live, Opening, Reopening}
use Rattle.channel_core.proofs.Received as receiving
use Rattle.channel_laws.specs.Faults.{is_ending}
use Rattle.channel_laws.proofs.Faults.Calling.{all_by_calls}
use Rattle.channel_laws.specs.Meeting.{IsLasting, Side, run_of}
use Rattle.channel_laws.proofs.Rest.Ending.{all_hear}
use Rattle.channel_laws.proofs.Rest.Meeting.{ends_as, formed_as, is_told_end, readable, said_as}
use Rattle.channel_laws.specs.Hop.{Carries, EndIsUnderWay}
use Rattle.channel_laws.proofs.Hop.Coming.{came_front, comes_behind}

-- The other one queued the end of the stream last: where this one is open, it was heard, or bytes are in flight.
still_comes : {T U : Type 0} → (is_marked : Bool) (s : Side T) (other : Side U) (flight : List Marked) → IsLasting other → Carries is_marked s other flight → (front : List Outgoing)
    → (run_of other).past.queued ≡ front ++ end_of_stream ∷ [] → is_closed (run_of s).end.state ≡ false → EndIsUnderWay s other flight
still_comes is_marked s other [] m h front ends opened =
    let q = readable other m in
    let told = is_told_end q.spoken q.is_ended front (sym q.queue ∙ ends) in
    let behind = comes_behind is_marked s other [] q.spoken q.is_ended h q.queue opened in
    inl (all_hear s.hello s.mark s.calls (said_as is_marked q.spoken) q.is_ended (formed_as is_marked q.spoken q.well_formed) ([], behind) told (sym (append-nil (arrived s.calls)) ∙ sym behind))
still_comes is_marked s other (byte ∷ flight) m h front ends opened = inr (λ none. absurd cc, (front, ends))

end_comes : {T U : Type 0} → (is_marked : Bool) (s : Side T) (other : Side U) (flight : List Marked) → IsLasting other → Carries is_marked s other flight → (front : List Outgoing)
    → (run_of other).past.queued ≡ front ++ end_of_stream ∷ [] → (is_closed (run_of s).end.state ≡ true) ⊎ EndIsUnderWay s other flight
end_comes is_marked s other flight m h front ends = by_flag (is_closed (run_of s).end.state) refl
  where
    by_flag : (flag : Bool) → is_closed (run_of s).end.state ≡ flag → (is_closed (run_of s).end.state ≡ true) ⊎ EndIsUnderWay s other flight
    by_flag true closed = inl closed
    by_flag false opened = inr (still_comes is_marked s other flight m h front ends opened)

closes_for : {T U : Type 0} → (is_marked others_are : Bool) (s : Side T) (other : Side U) (falling rising : List Marked) → IsLasting s → IsLasting other → Carries is_marked s other falling
    → Carries others_are other s rising → (cause : Cause) → (run_of s).end.state ≡ Closed cause → (is_closed (run_of other).end.state ≡ true) ⊎ EndIsUnderWay other s rising
closes_for is_marked others_are s other falling rising l m down up Own is = let e = ends_as s Own is in end_comes others_are other s rising l up e.0 e.1
closes_for is_marked others_are s other falling rising l m down up Eos is =
    let q = readable other m in
    let fair : IsFairCause (said_as is_marked q.spoken) q.is_ended (received (run_of s)) Eos
    = receiving.all_fair s.hello s.mark s.calls (said_as is_marked q.spoken) q.is_ended (formed_as is_marked q.spoken q.well_formed)
    (came_front is_marked s other falling q.spoken q.is_ended down q.queue) Eos (inr (inl is)) in
    inl (q.closed fair.0)
closes_for is_marked others_are s other falling rising l m down up Ended is =
    let ends : list_any is_ending s.calls ≡ true = (all_by_calls s.hello s.mark s.calls).ended (inr (inl is)) in
    let lasting = l.lasting in
    absurd cc
closes_for is_marked others_are s other falling rising l m down up (Protocol number reason) is =
    let e = ends_as s (Protocol number reason) is in end_comes others_are other s rising l up e.0 e.1
closes_for is_marked others_are s other falling rising l m down up (Stream fault) is = let e = ends_as s (Stream fault) is in end_comes others_are other s rising l up e.0 e.1

pub closes_too : {T U : Type 0} → (is_marked others_are : Bool) (s : Side T) (other : Side U) (falling rising : List Marked) → IsLasting s → IsLasting other → Carries is_marked s other falling
    → Carries others_are other s rising → is_closed (run_of s).end.state ≡ true → (is_closed (run_of other).end.state ≡ true) ⊎ EndIsUnderWay other s rising
closes_too {T = T} {U = U} is_marked others_are s other falling rising l m down up closed = by_state (run_of s).end.state refl closed
  where
    by_state : (state : EndState) → (run_of s).end.state ≡ state → is_closed state ≡ true → (is_closed (run_of other).end.state ≡ true) ⊎ EndIsUnderWay other s rising
    by_state Opening is so = absurd cc
    by_state Live is so = absurd cc
    by_state Reopening is so = absurd cc
    by_state (Closed cause) is so = closes_for is_marked others_are s other falling rising l m down up cause is
