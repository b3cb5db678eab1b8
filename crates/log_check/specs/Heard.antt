-- What a log's lines say that the target told, as they are walked beside its history.
use Rattle.std.specs.Prelude.{ℕ, ◌↔◌, ◌==◌, Bool, true, List, [], ◌∷◌, ◌++◌, filter, flat_map, map, Option, Some, None, if◌then◌else◌}
use Rattle.list_laws.specs.Fronts.{IsFront}
use Rattle.target_hub.specs.HubValue.{TargetValue}
use Rattle.target_hub.specs.Answering.{executed}
use Rattle.target_hub.specs.Limits.{AreEvents}
use Rattle.target_hub.specs.Passing.{closed_told, tick_told}
use Rattle.target_hub.specs.Received.{is_owed, told_of}
use Rattle.target_hub.specs.declared.done.Done.{Done}
use Rattle.target_hub.specs.Sent.{Told, agent_services, answer_told, event_at, events_told, final_at, hello_at, is_through, progress_at, progress_data, tick_events_told, unknown_at}
use Rattle.target_hub.specs.declared.input.Input.{Input}
use Rattle.target_hub.specs.declared.input.Input.TheVariants as inputs
use Rattle.tcf_text.specs.Lines.{Accepted}
use Rattle.tcf_text.specs.declared.log.LogLine.{LogLine}
use Rattle.log_check.specs.declared.replay.Gives.{Gives}
use Rattle.log_check.specs.declared.replay.Gives.TheVariants as gives
use Rattle.log_check.specs.declared.messages.Message.{Message}
use Rattle.log_check.specs.declared.messages.Message.TheVariants as messages

-- what this line, of a log that accepted these commands, says that the target owed
abbrev pub owed_by : List Accepted → LogLine → List Told
owed_by commands line = filter is_owed (told_of commands line)

-- what these lines say
abbrev pub owed_in : List Accepted → List LogLine → List Told
owed_in commands lines = filter is_owed (flat_map (told_of commands) lines)

-- a message that the target owes
abbrev pub told_said : Message → Told
told_said (messages.Hello position body) = hello_at position body.now
told_said (messages.Event position service name body) = event_at position service.now name.now body.now
told_said (messages.Progress position body) = progress_at position body.now
told_said (messages.Final position body) = final_at position true body.now
told_said (messages.Unknown position) = unknown_at position true

-- These messages come next in what the lines say, and the rest of it stands in the rest of the lines; or the lines say
-- less. Whatever comes later.
pub record Hears (commands : List Accepted) (told : List Told) (lines rest : List LogLine) : Type 0 where
  pub before : (later : List Told) → IsFront (owed_in commands lines) (filter is_owed told ++ later) ↔ IsFront (owed_in commands rest) later

-- The lines say another thing first, whatever comes later.
pub record Mishears (commands : List Accepted) (told : List Told) (lines : List LogLine) : Type 0 where
  pub never : (later : List Told) → IsFront (owed_in commands lines) (filter is_owed told ++ later) → ⊥

abbrev pub Heard : List Accepted → List Told → List LogLine → Option (List LogLine) → Type 0
Heard commands told lines None = Mishears commands told lines
Heard commands told lines (Some rest) = Hears commands told lines rest

-- only a live channel is told
abbrev pub told_if : Bool → List Told → List Told
told_if live told = if live then told else []

-- the events that an input gives are such as can be written
abbrev pub AreGiven : Gives → Type 0
AreGiven (gives.Opens channel) = Unit {0}
AreGiven (gives.Does channel through done) = AreEvents done.events
AreGiven (gives.Ticks None) = Unit {0}
AreGiven (gives.Ticks (Some events)) = AreEvents events
AreGiven (gives.Closes events) = AreEvents events

-- what an input gives
abbrev pub given_by : Input → TargetValue → Gives
given_by (inputs.Opened channel) target = gives.Opens channel
given_by (inputs.Executed channel reading service name) target = gives.Does channel (is_through reading) (executed channel service name reading target)
given_by (inputs.Ticked thread) target = gives.Ticks (tick_told thread target)
given_by (inputs.Closed channel) target = gives.Closes (closed_told channel target)

-- what the channel is told of what its own command gave, but for the events
abbrev pub own_told : ℕ → Bool → Done → List Told
own_told position through done =
    map (λ address. progress_at position (progress_data address)) done.progress ++ answer_told position through done.answer ∷ []

-- what a live channel k is told of what an input gave
abbrev pub told_of_gift : ℕ → ℕ → Gives → List Told
told_of_gift k position (gives.Opens channel) = told_if (channel == k) (hello_at position agent_services ∷ [])
told_of_gift k position (gives.Does channel through done) = events_told position done.events ++ told_if (channel == k) (own_told position through done)
told_of_gift k position (gives.Ticks events) = tick_events_told position events
told_of_gift k position (gives.Closes events) = events_told position events
