-- What a turn calls, by how it ends.
use Rattle.std.proofs.Common.{◌≡◌, ℕ, Bool, List, ◌∷◌, ◌++◌, sym, ap, subst}
use Rattle.std.specs.Prelude.{IsTrue, Ok, Err}
use Rattle.tcf_wires.specs.Event.{can_come, unused_after_next}
use Rattle.tcf_wires.specs.Told.{WiresSeen, noted}
use Rattle.tcf_wires.specs.declared.call.WireCall.{WireCall}
use Rattle.tcf_wires.specs.declared.event.WireEvent.{WireEvent}
use Rattle.tcf_wires.specs.declared.event.WireRefusal.TheVariants.{NoMemory}
use Rattle.serving_wires.specs.Calls.{Makes}
use Rattle.serving_wires.proofs.Giving.{none_given}
use Rattle.serving_wires.proofs.Leading.{Rows}
use Rattle.serving_wires.proofs.Making.{makes_both}
use Rattle.serving_wires.specs.Flushing.{FlushesKept, GivesUpAll, its_own}
use Rattle.serving_wires.specs.Going.{BreaksOff, Goes}
use Rattle.serving_wires.specs.Process.{done}
use Rattle.serving_wires.specs.Program.{Behaviour}
use Rattle.serving_wires.specs.Sending.{opened_by}
use Rattle.serving_wires.specs.Serving.{is_stop}
use Rattle.serving_wires.proofs.Turns.{came_next, gave, IsGiven, given_first}
use Rattle.serving_wires.specs.Turn.{Now, TakesTurn, at_event, at_puts}

-- what is done with an event, in whole or in part
abbrev Does : {A : Type 0} → Behaviour A → WireEvent → Now A → Now A → ℕ → ℕ → List WireCall → Type 0
Does b event old heeded unused later connects =
    Goes (b.peer old.served) unused later (b.handled event old.served) (done heeded.served) (opened_by event old.sending) heeded.sending connects

abbrev DoesInPart : {A : Type 0} → Behaviour A → WireEvent → Now A → ℕ → List WireCall → Type 0
DoesInPart b event old unused connects = BreaksOff (b.peer old.served) unused (b.handled event old.served) (opened_by event old.sending) connects

-- one came, and memory was wanting for what is done with it
pub not_heeded : {A : Type 0} → (b : Behaviour A) (event : WireEvent) (old new : Now A) (unused_then : ℕ) (seen seen_mid seen_then : WiresSeen)
    → IsTrue (can_come seen.unused event) → seen_mid ≡ noted (came_next event) (gave event) seen
    → Makes (DoesInPart b event old seen_mid.unused) seen_mid seen_then
    → Makes (TakesTurn b old new seen.unused unused_then (Err NoMemory)) seen seen_then
not_heeded b event old new unused_then seen seen_mid seen_then can came does =
    makes_both (IsGiven event) (DoesInPart b event old seen_mid.unused) (TakesTurn b old new seen.unused unused_then (Err NoMemory)) seen seen_mid seen_then
    (λ first rest is part. at_event event rest can (subst (λ (n : ℕ). DoesInPart b event old n rest) (ap (λ (s : WiresSeen). s.unused) came) part) (ap (λ (cs : List WireCall). cs ++ rest) is))
    (given_first event seen seen_mid came) does

-- the event, and what was done with it
record HasCome {A : Type 0} (b : Behaviour A) (event : WireEvent) (old heeded : Now A) (unused later : ℕ) (calls : List WireCall) : Type 0 where
  connects : List WireCall
  does : Does b event old heeded (unused_after_next (came_next event) unused) later connects
  called : calls ≡ gave event ∷ connects

has_come : {A : Type 0} → (b : Behaviour A) (event : WireEvent) (old heeded : Now A) (later : ℕ) (seen seen_mid seen_then : WiresSeen)
    → seen_mid ≡ noted (came_next event) (gave event) seen → Makes (Does b event old heeded seen_mid.unused later) seen_mid seen_then
    → Makes (HasCome b event old heeded seen.unused later) seen seen_then
has_come b event old heeded later seen seen_mid seen_then came does =
    makes_both (IsGiven event) (Does b event old heeded seen_mid.unused later) (HasCome b event old heeded seen.unused later) seen seen_mid seen_then
    (λ first rest is d. record {
      connects = rest;
      does = subst (λ (n : ℕ). Does b event old heeded n later rest) (ap (λ (s : WiresSeen). s.unused) came) d;
      called = ap (λ (cs : List WireCall). cs ++ rest) is;
    })
    (given_first event seen seen_mid came) does

-- memory was wanting while what is queued was put
pub not_put : {A : Type 0} → (b : Behaviour A) (event : WireEvent) (old heeded new : Now A) (unused_then : ℕ) (seen seen_mid seen_late seen_then : WiresSeen)
    → IsTrue (can_come seen.unused event) → seen_mid ≡ noted (came_next event) (gave event) seen
    → Makes (Does b event old heeded seen_mid.unused seen_late.unused) seen_mid seen_late
    → Makes (GivesUpAll its_own heeded.sending) seen_late seen_then
    → Makes (TakesTurn b old new seen.unused unused_then (Err NoMemory)) seen seen_then
not_put b event old heeded new unused_then seen seen_mid seen_late seen_then can came does puts =
    makes_both (HasCome b event old heeded seen.unused seen_late.unused) (GivesUpAll its_own heeded.sending) (TakesTurn b old new seen.unused unused_then (Err NoMemory))
    seen seen_late seen_then
    (λ first rest h up. at_puts event seen_late.unused heeded.served heeded.sending h.connects rest can h.does up (ap (λ (cs : List WireCall). cs ++ rest) h.called))
    (has_come b event old heeded seen_late.unused seen seen_mid seen_late came does) puts

-- a whole turn
pub turn_taken : {A : Type 0} → (b : Behaviour A) (event : WireEvent) (is_last : Bool) (old : Now A) (new : A) (mids news : Rows) (seen seen_mid seen_late seen_then : WiresSeen)
    → IsTrue (can_come seen.unused event) → seen_mid ≡ noted (came_next event) (gave event) seen → is_last ≡ is_stop event → b.peer new ≡ b.peer old.served
    → Makes (Does b event old (record { served = new; sending = mids }) seen_mid.unused seen_late.unused) seen_mid seen_late
    → Makes (FlushesKept its_own mids news) seen_late seen_then
    → Makes (TakesTurn b old (record { served = new; sending = news }) seen.unused seen_then.unused (Ok is_last)) seen seen_then
turn_taken {A = A} b event is_last old new mids news seen seen_mid seen_late seen_then can came last peer does puts =
    let heeded : Now A = record { served = new; sending = mids } in
    makes_both (HasCome b event old heeded seen.unused seen_late.unused) (FlushesKept its_own mids news)
    (TakesTurn b old (record { served = new; sending = news }) seen.unused seen_then.unused (Ok is_last)) seen seen_late seen_then
    (λ first rest h flushes. record {
      event = event;
      can = can;
      last = last;
      peer = peer;
      connects = h.connects;
      sending = mids;
      goes = subst (λ (n : ℕ). Does b event old heeded (unused_after_next (came_next event) seen.unused) n h.connects) (sym (none_given its_own mids news seen_late seen_then puts)) h.does;
      puts = rest;
      flushes = flushes;
      called = ap (λ (cs : List WireCall). cs ++ rest) h.called;
    })
    (has_come b event old heeded seen_late.unused seen seen_mid seen_late came does) puts
