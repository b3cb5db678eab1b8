-- Barriers of a history, and answers that a peer may give from what it keeps.
use Rattle.std.specs.Prelude.{ℕ, ◌≡◌, ◌<◌, ◌≤◌, ◌⊎◌, Bool, true, false, List, [], ◌∷◌, ◌++◌, length, Option, None, Some, if◌then◌else◌}
use Rattle.std.specs.List.{AllByRecursion, Contains}
use Rattle.command_tables.specs.declared.reading.Reading.{Reading}
use Rattle.command_tables.specs.declared.reading.Reading.TheVariants as readings
use Rattle.reply_tables.specs.Written.{answer_data}
use Rattle.target_contexts.specs.declared.process.Image.{Image}
use Rattle.tcf_text.specs.Each.{Each}
use Rattle.tcf_text.specs.Lines.{Accepted}
use Rattle.tcf_text.specs.declared.log.LogLine.{LogLine}
use Rattle.tcf_text.specs.declared.log.LogLine.TheVariants.{Final, Unknown}
use Rattle.target_hub.specs.Execution.{exec_effect}
use Rattle.target_hub.specs.Fresh.{IsExecutedAt, is_barrier}
use Rattle.target_hub.specs.HubValue.{HubValue, TargetValue, new_target, usable}
use Rattle.target_hub.specs.Ordered.{IsChannelOf, IsPlaced}
use Rattle.target_hub.specs.Received.{read}
use Rattle.target_hub.specs.Sent.{ReadCommand}
use Rattle.target_hub.specs.declared.input.Input.{Input}
use Rattle.log_check.specs.Sorts.{AreOfLog, IsCommandOf, accepted_as}
use Rattle.log_check.specs.declared.fresh.Barrier.{Barrier}
use Rattle.log_check.specs.declared.sorts.Command.{Command}
use Rattle.log_check.specs.declared.sorts.Sort.{Sort}
use Rattle.log_check.specs.declared.sorts.Sort.TheVariants as sorts

-- ---- barriers

abbrev pub ends_stores : Sort → Bool
ends_stores sorts.Storable = false
ends_stores sorts.Through = false
ends_stores sorts.Barrier = true

-- the barrier that is executed at this place, if the command is one
abbrev pub barrier_at : Option Command → ℕ → List Barrier
barrier_at None place = []
barrier_at (Some c) place = if ends_stores c.sort then record { number = c.number; place = place } ∷ [] else []

-- The channel executes these, which the target alone answers, where these commands of the log go through: one of them, if
-- there is one, and the others come behind it.
abbrev pub GoesBy : List ReadCommand → List Command → Option Command → List Command → Type 0
GoesBy [] commands sent after = (sent ≡ None) × (after ≡ commands)
GoesBy (t ∷ ts) [] sent after = (sent ≡ None) × (after ≡ [])
GoesBy (t ∷ ts) (c ∷ commands) sent after = (sent ≡ Some c) × (after ≡ commands)

-- the history executes a barrier of the log, with this number, at this place
pub record IsBarrierOf (log : List LogLine) (history : List Input) (k : ℕ) (b : Barrier) : Type 0 where
  pub c : Accepted
  pub executed : IsExecutedAt log history k c b.place
  pub barrier : is_barrier (read c).reading ≡ true
  pub numbered : c.number ≡ b.number

-- the numbers rise
abbrev pub Rise : List Barrier → Type 0
Rise [] = Unit {0}
Rise (b ∷ bs) = AllByRecursion (λ (d : Barrier). b.number < d.number) bs × Rise bs

-- these are the barriers of the log that the history executes, in order
pub record AreBarriers (log : List LogLine) (history : List Input) (k : ℕ) (bs : List Barrier) : Type 0 where
  pub each : AllByRecursion (IsBarrierOf log history k) bs
  pub all : (c : Accepted) (place : ℕ) → IsExecutedAt log history k c place → is_barrier (read c).reading ≡ true → Contains bs (record { number = c.number; place = place })
  pub rise : Rise bs

-- the first of them is behind the position
abbrev pub BeginsBehind : ℕ → List Barrier → Type 0
BeginsBehind position [] = Unit {0}
BeginsBehind position (b ∷ bs) = position < b.place

-- the last of these barriers, the first of which is behind the position; those before it aren't
pub record AreLater (bs : List Barrier) (position : ℕ) (later : List Barrier) : Type 0 where
  pub skipped : List Barrier
  pub split : bs ≡ skipped ++ later
  pub within : AllByRecursion (λ (b : Barrier). b.place ≤ position) skipped
  pub begins : BeginsBehind position later

-- so many of them aren't behind the position
pub record AreWithin (bs : List Barrier) (position count : ℕ) : Type 0 where
  pub skipped : List Barrier
  pub later : List Barrier
  pub split : bs ≡ skipped ++ later
  pub counted : count ≡ length skipped
  pub within : AllByRecursion (λ (b : Barrier). b.place ≤ position) skipped
  pub begins : BeginsBehind position later

-- the first of them has no smaller number
abbrev pub BeginsFrom : ℕ → List Barrier → Type 0
BeginsFrom number [] = Unit {0}
BeginsFrom number (b ∷ bs) = number ≤ b.number

-- ---- answers

-- the command of this number is one that a peer may answer
pub record IsStorableNumber (commands : List Command) (number : ℕ) : Type 0 where
  pub c : Command
  pub of : IsCommandOf commands number c
  pub storable : c.sort ≡ sorts.Storable

pub record IsUnstorable (commands : List Command) (number : ℕ) : Type 0 where
  pub never : IsStorableNumber commands number → ⊥

-- the target answers what is read so with this data
abbrev pub IsAnswer : Reading → TargetValue → List ℕ → Type 0
IsAnswer (readings.Known command) target body = body ≡ answer_data command (exec_effect 0 command target).answer
IsAnswer readings.Unknown target body = ⊥
IsAnswer (readings.Bad index code) target body = ⊥

-- an answer to the command of this number, if a peer may give it, is the target's, and no barrier before the command is
-- among the later ones
abbrev pub IsFreshAnswer : List Command → List Barrier → ℕ → TargetValue → List ℕ → Type 0
IsFreshAnswer commands later number target body =
    (c : Command) → IsCommandOf commands number c → c.sort ≡ sorts.Storable → BeginsFrom number later × IsAnswer (read (accepted_as c)).reading target body

abbrev pub IsFreshHere : List Command → List Barrier → TargetValue → LogLine → Type 0
IsFreshHere commands later target (Final number (Some position) body) = IsFreshAnswer commands later number target body
IsFreshHere commands later target (Unknown number (Some position)) = IsUnstorable commands number
IsFreshHere commands later target line = Unit {0}

-- the position at which the line's answer is looked at, if a peer may give it, and else the one that was reached
abbrev pub IsLookedAt : List Command → LogLine → ℕ → ℕ → Type 0
IsLookedAt commands (Final number (Some position) body) reached next =
    (IsStorableNumber commands number × (next ≡ position)) ⊎ (IsUnstorable commands number × (next ≡ reached))
IsLookedAt commands line reached next = next ≡ reached

-- the inputs go from one position to the other
pub record AreReached (inputs : List Input) (from to : ℕ) : Type 0 where
  pub on : from ≤ to
  pub within : to ≤ length inputs

-- a log on this channel, with its commands, its barriers and a target to which nothing was done yet
pub record IsAtStart (images : List Image) (log : List LogLine) (inputs : List Input) (k : ℕ) (commands : List Command) (bs : List Barrier) (hub : HubValue) : Type 0 where
  pub target : hub ≡ usable (new_target images)
  pub of : AreOfLog log commands
  pub channel : IsChannelOf log inputs k
  pub barriers : AreBarriers log inputs k bs
  pub placed : Each (IsPlaced inputs) log
