-- An answer that a peer may give from what it keeps is never stale.
use Rattle.std.specs.Prelude.{ℕ, ◌≡◌, ◌+◌, ◌<◌, ◌≤◌, Bool, true, List, ◌∷◌, ◌++◌, filter, length, map, take, Some}
use Rattle.std.specs.List.{All, Contains}
use Rattle.command_tables.specs.declared.reading.Reading.{Reading}
use Rattle.command_tables.specs.declared.reading.Reading.TheVariants as readings
use Rattle.reply_tables.specs.Written.{answer_data}
use Rattle.target_contexts.specs.declared.process.Image.{Image}
use Rattle.tcf_text.specs.declared.log.LogLine.{LogLine}
use Rattle.tcf_text.specs.declared.log.LogLine.TheVariants.{Final, Unknown}
use Rattle.tcf_values.specs.Changing.{changes}
use Rattle.tcf_values.specs.Storable.{stores}
use Rattle.tcf_values.specs.declared.command.Command.{Command}
use Rattle.target_hub.specs.Execution.{exec_effect}
use Rattle.target_hub.specs.History.{inputs_after}
use Rattle.target_hub.specs.HubValue.{new_target}
use Rattle.tcf_text.specs.Lines.{Accepted, accepted}
use Rattle.target_hub.specs.Received.{read}
use Rattle.target_hub.specs.Ordered.{IsChannelOf, through}
use Rattle.target_hub.specs.Sent.{executed_on, is_through}
use Rattle.target_hub.specs.declared.input.Input.{Input}
use Rattle.target_hub.specs.declared.input.Input.TheVariants.{Executed}
use Rattle.run_control.specs.TargetValue.{TargetValue}

-- the target after so many inputs
abbrev pub target_at : List Image → List Input → ℕ → TargetValue
target_at images history position = inputs_after (take position history) (new_target images)

-- the data of the answer to a command that only asks: it is the same for every channel
abbrev pub answer_at : List Image → List Input → ℕ → Command → List ℕ
answer_at images history position command =
    answer_data command (exec_effect 0 command (target_at images history position)).answer

-- a barrier changes the target, or isn't read by the tables
abbrev pub is_barrier : Reading → Bool
is_barrier (readings.Known command) = changes command
is_barrier readings.Unknown = true
is_barrier (readings.Bad index code) = true

-- The history executes this command of the log on k at this position: it is the last of so many inputs, and the
-- through commands that k executed before it are those that went through before it.
pub record IsExecutedAt (log : List LogLine) (history : List Input) (k : ℕ) (c : Accepted) (position : ℕ) : Type 0 where
  pub first : List Accepted
  pub later : List Accepted
  pub among : through log ≡ first ++ c ∷ later
  pub before : List Input
  pub after : List Input
  pub split : history ≡ before ++ Executed k (read c).reading c.service c.name ∷ after
  pub place : position ≡ length before + 1
  pub same : filter (λ d. is_through d.reading) (executed_on k before) ≡ map read first

-- Each barrier of the log with a smaller number that the history executes on k stands there at this position
-- or before it.
abbrev pub AreBehind : List LogLine → List Input → ℕ → ℕ → ℕ → Type 0
AreBehind log history number position k =
    (c : Accepted) (place : ℕ) → IsExecutedAt log history k c place →
    is_barrier (read c).reading ≡ true → c.number < number → place ≤ position

-- an answer to a storable command is that of the target at the answer's position, which the history has reached
pub record IsFresh (log : List LogLine) (images : List Image) (history : List Input) (number position : ℕ) (command : Command) (body : List ℕ) : Type 0 where
  pub within : position ≤ length history
  pub same : body ≡ answer_at images history position command
  pub behind : (k : ℕ) → IsChannelOf log history k → AreBehind log history number position k

-- this command of the log is a storable one
pub record IsStorable (log : List LogLine) (number : ℕ) (command : Command) : Type 0 where
  pub accepted_as : Accepted
  pub there : Contains (accepted log) accepted_as
  pub numbered : accepted_as.number ≡ number
  pub known : (read accepted_as).reading ≡ readings.Known command
  pub storable : stores command ≡ true

abbrev pub FreshLine : List LogLine → List Image → List Input → LogLine → Type 0
FreshLine log images history (Final number (Some position) body) =
    (command : Command) → IsStorable log number command → IsFresh log images history number position command body
FreshLine log images history (Unknown number (Some position)) = (command : Command) → IsStorable log number command → ⊥
FreshLine log images history line = Unit {0}

-- An answer of the target, or of a peer that kept it, to a storable command is what the target answers at the answer's
-- position; and no such command is said not to be known.
abbrev pub Fresh : List LogLine → List Image → List Input → Type 0
Fresh log images history = All (FreshLine log images history) log
