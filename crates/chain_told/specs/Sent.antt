-- What the history of the target tells a channel, as messages to one who sends commands there.
use Rattle.std.specs.Prelude.{ℕ, ◌≡◌, ◌<◌, ◌^◌, List, [], map, length, filter, Some}
use Rattle.agent_node.specs.AgentLaws.{messages_told}
use Rattle.channel_core.specs.Arrivals.{Spoken}
use Rattle.channel_core.specs.Wire.{hello, locator}
use Rattle.chain_told.specs.Told.{AreToldRightly, numbered, owed_in}
use Rattle.command_tables.specs.Reading.{reading_of}
use Rattle.target_contexts.specs.declared.process.Image.{Image}
use Rattle.target_hub.specs.History.{IsLegal}
use Rattle.list_laws.specs.Fronts.{IsFront}
use Rattle.target_hub.specs.Received.{is_owed}
use Rattle.target_hub.specs.Sent.{ReadCommand, Told, event_at, executed_on, final_at, hello_at, progress_at, sent, unknown_at}
use Rattle.target_hub.specs.declared.input.Input.{Input}
use Rattle.tcf_message.specs.Message.{event, final, not_known, progress}
use Rattle.value_node.specs.Asked.{Asked}

-- a command, as a history has it once it is executed
abbrev pub read_as : Asked → ReadCommand
read_as c = record { reading = reading_of c.service c.name c.body; service = c.service; name = c.name }

-- all that the history tells the channel k, to one who sends these commands there
abbrev pub said_to : List Asked → List Image → ℕ → List Input → List Spoken
said_to commands images k history =
    map (λ m. record { message = m.0; mark = m.1 }) (messages_told (map (λ c. c.token) (numbered 1 commands)) (sent images k history))

-- a message without its token
abbrev pub bare : Told → Spoken
bare (hello_at position body) = record { message = event locator hello body; mark = Some position }
bare (event_at position service name body) = record { message = event service name body; mark = Some position }
bare (progress_at position body) = record { message = progress [] body; mark = Some position }
bare (final_at position through body) = record { message = final [] body; mark = Some position }
bare (unknown_at position through) = record { message = not_known []; mark = Some position }

-- what is owed to everybody
abbrev pub owed_by : List Image → ℕ → List Input → List Spoken
owed_by images k history = map bare (filter is_owed (sent images k history))

-- ---- the laws, of a channel that executes the first of these commands

abbrev pub TargetTellsRightly : Type 0
TargetTellsRightly = (images : List Image) (history : List Input) (k : ℕ) (commands : List Asked) → IsLegal images history → length commands < 10 ^ 64
    → IsFront (executed_on k history) (map read_as commands) → AreToldRightly images history (numbered 1 commands) (said_to commands images k history)

abbrev pub TargetTellsWhatIsOwed : Type 0
TargetTellsWhatIsOwed = (images : List Image) (history : List Input) (k : ℕ) (commands : List Asked) → IsLegal images history → length commands < 10 ^ 64
    → IsFront (executed_on k history) (map read_as commands) → owed_in (numbered 1 commands) (said_to commands images k history) ≡ owed_by images k history
