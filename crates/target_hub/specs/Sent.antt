-- What the history of the target tells a channel.
use Rattle.std.specs.Prelude.{ℕ, ◌+◌, ◌==◌, Bool, true, not, if◌then◌else◌, List, [], ◌∷◌, ◌++◌, length, map, codes, decimal, Option, Some, None}
use Rattle.command_tables.specs.declared.reading.Reading.{Reading}
use Rattle.command_tables.specs.declared.reading.Reading.TheVariants as readings
use Rattle.reply_tables.specs.Events.{event_data}
use Rattle.service_names.specs.Events.{name_of, service_of, told_as}
use Rattle.target_contexts.specs.declared.process.Image.{Image}
use Rattle.tcf_values.specs.Storable.{stores}
use Rattle.tcf_values.specs.declared.event.EventData.{EventData}
use Rattle.target_hub.specs.Answering.{executed}
use Rattle.target_hub.specs.History.{input_after, is_live}
use Rattle.target_hub.specs.HubValue.{new_target}
use Rattle.target_hub.specs.Passing.{closed_told, tick_told}
use Rattle.target_hub.specs.declared.done.Answered.{Answered}
use Rattle.target_hub.specs.declared.done.Answered.TheVariants.{Unknown, Result}
use Rattle.target_hub.specs.declared.done.Done.{Done}
use Rattle.target_hub.specs.declared.input.Input.{Input}
use Rattle.target_hub.specs.declared.input.Input.TheVariants.{Opened, Executed, Ticked, Closed}
use Rattle.run_control.specs.TargetValue.{TargetValue}

-- What a channel is told: each message with its position, which is the number of the history's inputs up to and with the
-- one that made it, and the data of its final answers with whether they go to a through command. An answer has no token
-- here: the answers to a channel's commands come in the order in which they were executed, and progress before the answer
-- of its own command.
pub data Told : Type 0 where
  hello_at : (position : ℕ) (body : List ℕ) → Told
  event_at : (position : ℕ) (service name body : List ℕ) → Told
  progress_at : (position : ℕ) (body : List ℕ) → Told
  final_at : (position : ℕ) (through : Bool) (body : List ℕ) → Told
  unknown_at : (position : ℕ) (through : Bool) → Told

-- the argument of the agent's Hello: a JSON text, ended by a zero
unfoldable pub agent_services : List ℕ
agent_services = codes "[\"Locator\",\"RunControl\",\"Breakpoints\",\"Memory\",\"Registers\",\"Processes\",\"Trace\"]" ++ 0 ∷ []

-- a through command is one that no peer but the target answers: each but the storable ones
abbrev pub is_through : Reading → Bool
is_through (readings.Known command) = not (stores command)
is_through readings.Unknown = true
is_through (readings.Bad index code) = true

-- ---- the messages of an input at a position

abbrev pub event_told : ℕ → EventData → Told
event_told position event = event_at position (service_of (told_as event)) (name_of (told_as event)) (event_data event)

-- every live channel hears the events, in order
abbrev pub events_told : ℕ → List EventData → List Told
events_told position events = map (event_told position) events

-- the data of progress: the address of an executed instruction
abbrev pub progress_data : ℕ → List ℕ
progress_data address = decimal address ++ 0 ∷ []

abbrev pub answer_told : ℕ → Bool → Answered → Told
answer_told position through Unknown = unknown_at position through
answer_told position through (Result body) = final_at position through body

-- and then the caller alone the progress and the answer
abbrev pub caller_told : ℕ → Reading → Done → List Told
caller_told position reading done =
    map (λ address. progress_at position (progress_data address)) done.progress ++ answer_told position (is_through reading) done.answer ∷ []

abbrev pub tick_events_told : ℕ → Option (List EventData) → List Told
tick_events_told position None = []
tick_events_told position (Some events) = events_told position events

abbrev pub executed_told : ℕ → ℕ → ℕ → Reading → Done → List Told
executed_told k position channel reading done =
    events_told position done.events ++ (if channel == k then caller_told position reading done else [])

-- what the live channel k is told by an input that comes to this target
abbrev pub told_by : ℕ → ℕ → TargetValue → Input → List Told
told_by k position target (Opened channel) = if channel == k then hello_at position agent_services ∷ [] else []
told_by k position target (Executed channel reading service name) =
    executed_told k position channel reading (executed channel service name reading target)
told_by k position target (Ticked thread) = tick_events_told position (tick_told thread target)
told_by k position target (Closed channel) = events_told position (closed_told channel target)

-- what an input tells k: a channel is live from the input that opens it until the one that closes it
abbrev pub told_while_live : ℕ → List Input → TargetValue → Input → List Told
told_while_live k before target input =
    if is_live k (before ++ input ∷ []) then told_by k (length before + 1) target input else []

-- what these inputs, which come after those before them to this target, tell k
abbrev pub sent_after : ℕ → List Input → TargetValue → List Input → List Told
sent_after k before target [] = []
sent_after k before target (input ∷ inputs) =
    told_while_live k before target input ++ sent_after k (before ++ input ∷ []) (input_after input target) inputs

-- all that the history of a target with these images tells k, in order
abbrev pub sent : List Image → ℕ → List Input → List Told
sent images k history = sent_after k [] (new_target images) history

-- ---- what a channel executes

-- a command as the history has it
pub record ReadCommand : Type 0 where
  pub reading : Reading
  pub service : List ℕ
  pub name : List ℕ

abbrev pub executed_by : ℕ → Input → List ReadCommand
executed_by k (Opened channel) = []
executed_by k (Executed channel reading service name) =
    if channel == k then record { reading = reading; service = service; name = name } ∷ [] else []
executed_by k (Ticked thread) = []
executed_by k (Closed channel) = []

-- the commands of k that the history executes, in order
abbrev pub executed_on : ℕ → List Input → List ReadCommand
executed_on k [] = []
executed_on k (input ∷ inputs) = executed_by k input ++ executed_on k inputs
