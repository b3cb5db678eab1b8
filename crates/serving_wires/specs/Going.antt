-- How far a process has come by the calls of the wires, and what the outboxes are then.
use Rattle.std.specs.Prelude.{ℕ, ◌≤◌, List, [], ◌∷◌, IfOk}
use Rattle.serving_wires.specs.Calls.{Makes}
use Rattle.serving_wires.specs.OutboxValue.{OutboxValue}
use Rattle.serving_wires.specs.Row.{Row}
use Rattle.tcf_wires.specs.Event.{unused_after_connect}
use Rattle.tcf_wires.specs.Told.{WiresSeen}
use Rattle.tcf_wires.specs.declared.call.WireCall.{WireCall}
use Rattle.tcf_wires.specs.declared.call.WireCall.TheVariants.{Connected}
use Rattle.serving_wires.specs.Order.{Order}
use Rattle.serving_wires.specs.Process.{Answer, Process, asks, done, tells}
use Rattle.serving_wires.specs.Sending.{begun_by, ordered}

-- Between two states of the wires, by the least number that wasn't given yet: each order was done, and each connect was asked
-- of the wires at once, and answered.
pub data Goes {A : Type 0} (peer : List ℕ) : ℕ → ℕ → Process A → Process A → List (Row OutboxValue) → List (Row OutboxValue) → List WireCall → Type 0 where
  here : (unused : ℕ) (p : Process A) (rows : List (Row OutboxValue)) → Goes peer unused unused p p rows rows []
  told : (unused later : ℕ) (order : Order) (p q : Process A) (olds news : List (Row OutboxValue)) (calls : List WireCall)
      → Goes peer unused later p q (ordered order olds) news calls → Goes peer unused later (tells order p) q olds news calls
  answered : (unused later : ℕ) (answer : Answer) (next : Answer → Process A) (q : Process A) (olds news : List (Row OutboxValue)) (calls : List WireCall)
      → IfOk answer (λ channel. unused ≤ channel)
      → Goes peer (unused_after_connect answer unused) later (next answer) q (begun_by answer olds) news calls
      → Goes peer unused later (asks next) q olds news (Connected peer answer ∷ calls)

-- memory was wanting somewhere
pub record BreaksOff {A : Type 0} (peer : List ℕ) (unused : ℕ) (p : Process A) (olds : List (Row OutboxValue)) (calls : List WireCall) : Type 0 where
  pub later : ℕ
  pub to : Process A
  pub news : List (Row OutboxValue)
  pub goes : Goes peer unused later p to olds news calls

-- ---- by what is seen of the wires, before it and after it

-- by some calls it is done, with what came of it
abbrev pub Does : {A : Type 0} → List ℕ → Process A → A → List (Row OutboxValue) → List (Row OutboxValue) → WiresSeen → WiresSeen → Type 0
Does peer p a olds news before after = Makes (Goes peer before.unused after.unused p (done a) olds news) before after

-- with no call at all, whatever numbers were given
abbrev pub DoesAlone : {A : Type 0} → List ℕ → Process A → A → List (Row OutboxValue) → List (Row OutboxValue) → Type 0
DoesAlone peer p a olds news = (unused : ℕ) → Goes peer unused unused p (done a) olds news []

-- a part of it was, and then memory was wanting
abbrev pub DoesPart : {A : Type 0} → List ℕ → Process A → List (Row OutboxValue) → WiresSeen → WiresSeen → Type 0
DoesPart peer p olds before after = Makes (BreaksOff peer before.unused p olds) before after
