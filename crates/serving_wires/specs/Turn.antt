-- One turn, by its calls of the wires.
use Rattle.std.specs.Prelude.{ℕ, ◌≡◌, Bool, IsTrue, List, [], ◌∷◌, ◌++◌, Result, Ok, Err}
use Rattle.tcf_wires.specs.Event.{can_come, unused_after_next}
use Rattle.tcf_wires.specs.Told.{WiresSeen}
use Rattle.tcf_wires.specs.declared.call.WireCall.{WireCall}
use Rattle.tcf_wires.specs.declared.call.WireCall.TheVariants.{Gave}
use Rattle.tcf_wires.specs.declared.event.WireEvent.{WireEvent}
use Rattle.tcf_wires.specs.declared.event.WireRefusal.{WireRefusal}
use Rattle.tcf_wires.specs.declared.event.WireRefusal.TheVariants.{Failed, NoMemory}
use Rattle.serving_wires.specs.Flushing.{FlushesKept, GivesUpAll, its_own}
use Rattle.serving_wires.specs.Going.{BreaksOff, Does, DoesPart, Goes}
use Rattle.serving_wires.specs.OutboxValue.{OutboxValue}
use Rattle.serving_wires.specs.Process.{done}
use Rattle.serving_wires.specs.Program.{Behaviour}
use Rattle.serving_wires.specs.Row.{Row}
use Rattle.serving_wires.specs.Sending.{opened_by}
use Rattle.serving_wires.specs.Serving.{is_stop}

-- it does with an event what it does, or a part of it
abbrev pub Heeds : {A : Type 0} → Behaviour A → WireEvent → A → A → List (Row OutboxValue) → List (Row OutboxValue) → WiresSeen → WiresSeen → Type 0
Heeds b event old new olds news before after = Does (b.peer old) (b.handled event old) new (opened_by event olds) news before after

abbrev pub HeedsPart : {A : Type 0} → Behaviour A → WireEvent → A → List (Row OutboxValue) → WiresSeen → WiresSeen → Type 0
HeedsPart b event old olds before after = DoesPart (b.peer old) (b.handled event old) (opened_by event olds) before after

-- what is served now, with what is to be put on all wires
pub record Now (A : Type 0) : Type 0 where
  pub served : A
  pub sending : List (Row OutboxValue)

-- An event comes, it does with it what it does, with the connects that it asks for, and what is queued is put; the answer is
-- whether it was Stop.
pub record IsTurn {A : Type 0} (b : Behaviour A) (old new : Now A) (unused_before unused_after : ℕ) (is_last : Bool) (calls : List WireCall) : Type 0 where
  pub event : WireEvent
  pub can : IsTrue (can_come unused_before event)
  pub last : is_last ≡ is_stop event
  pub peer : b.peer new.served ≡ b.peer old.served
  pub connects : List WireCall
  pub sending : List (Row OutboxValue)
  pub goes : Goes (b.peer old.served) (unused_after_next (Ok event) unused_before) unused_after (b.handled event old.served) (done new.served) (opened_by event old.sending) sending connects
  pub puts : List WireCall
  pub flushes : FlushesKept its_own sending new.sending puts
  pub called : calls ≡ Gave (Ok event) ∷ (connects ++ puts)

-- memory was wanting: for the event, for what it does with it, or while what is queued was put
pub data IsCutShort {A : Type 0} (b : Behaviour A) (old : Now A) (unused : ℕ) (calls : List WireCall) : Type 0 where
  before_event : calls ≡ [] → IsCutShort b old unused calls
  at_event : (event : WireEvent) (connects : List WireCall) → IsTrue (can_come unused event)
      → BreaksOff (b.peer old.served) (unused_after_next (Ok event) unused) (b.handled event old.served) (opened_by event old.sending) connects
      → calls ≡ Gave (Ok event) ∷ connects → IsCutShort b old unused calls
  at_puts : (event : WireEvent) (later : ℕ) (new : A) (sending : List (Row OutboxValue)) (connects puts : List WireCall) → IsTrue (can_come unused event)
      → Goes (b.peer old.served) (unused_after_next (Ok event) unused) later (b.handled event old.served) (done new) (opened_by event old.sending) sending connects
      → GivesUpAll its_own sending puts → calls ≡ Gave (Ok event) ∷ (connects ++ puts) → IsCutShort b old unused calls

abbrev pub TakesTurn : {A : Type 0} → Behaviour A → Now A → Now A → ℕ → ℕ → Result Bool WireRefusal → List WireCall → Type 0
TakesTurn b old new unused_before unused_after (Ok is_last) calls = IsTurn b old new unused_before unused_after is_last calls
TakesTurn b old new unused_before unused_after (Err Failed) calls = calls ≡ Gave (Err Failed) ∷ []
TakesTurn b old new unused_before unused_after (Err NoMemory) calls = IsCutShort b old unused_before calls
