-- The theorem of the hub: each peer below knows what is true of the target above.
use Rattle.std.specs.Prelude.{ℕ, ◌≡◌, ◌+◌, false, List, [], ◌∷◌, decimal, filter, map, Option, Some, None, Result, Ok}
use Rattle.std.specs.List.{flat_map}
use Rattle.agent_node.specs.AgentLaws.{messages_told}
use Rattle.channel_core.specs.QueueLaws.{is_message}
use Rattle.channel_core.specs.ReceivingLaws.{incoming_of}
use Rattle.channel_core.specs.Wire.{hello, locator, said}
use Rattle.channel_core.specs.declared.held.Incoming.{Incoming}
use Rattle.command_tables.specs.Reading.{reading_of}
use Rattle.knowledge.specs.Facts.{Facts, nothing}
use Rattle.knowledge.specs.Learning.{learned}
use Rattle.list_laws.specs.Fronts.{IsFront}
use Rattle.target_contexts.specs.declared.process.Image.{Image}
use Rattle.target_hub.specs.Fresh.{target_at}
use Rattle.target_hub.specs.History.{IsLegal}
use Rattle.target_hub.specs.Sent.{ReadCommand, executed_on, sent}
use Rattle.target_hub.specs.declared.input.Input.{Input}
use Rattle.target_truth.specs.Holds.{Holds}
use Rattle.target_truth.specs.Typed.{AreTyped}
use Rattle.tcf_message.specs.Message.{MessageValue, event, reading}
use Rattle.tcf_message.specs.declared.message.MessageFault.{MessageFault}
use Rattle.hub_node.specs.Calls.{AreNew, Call}
use Rattle.hub_node.specs.Deeds.{Asked, sent_in}
use Rattle.hub_node.specs.Hub.{new_hub}
use Rattle.hub_node.specs.HubLaws.{TellsEachItsOwn}
use Rattle.hub_node.specs.Relay.{hub_services}
use Rattle.hub_node.specs.Runs.{HubRun, above_run, after_all, below_run, no_calls}
use Rattle.hub_truth.specs.Lessons.{Lesson, last_mark, lessons_from}

-- ---- what the hub takes from above is what a target tells it

-- a message as it is read, with its mark
abbrev pub ReadMessage : Type 0
ReadMessage = Result MessageValue MessageFault × Option ℕ

abbrev pub as_read : Incoming → ReadMessage
as_read incoming = (reading incoming.raw, incoming.mark)

abbrev pub as_told : MessageValue × Option ℕ → ReadMessage
as_told told = (Ok told.0, told.1)

-- the commands that went above, as a target has them, and their tokens there from this one on
abbrev pub read_as : Asked → ReadCommand
read_as c = record { reading = reading_of c.service c.name c.body; service = c.service; name = c.name }

abbrev pub tokens_from : ℕ → List Asked → List (List ℕ)
tokens_from number [] = []
tokens_from number (c ∷ commands) = decimal number ∷ tokens_from (number + 1) commands

-- On its channel k the history of the target executes a front of the commands that the hub sent, and what the hub took from
-- above is a front of what the history tells k
pub record TakesWhatIsTold (images : List Image) (history : List Input) (k : ℕ) (r : HubRun) : Type 0 where
  pub legal : IsLegal images history
  pub typed : AreTyped images
  pub executed : IsFront (executed_on k history) (map read_as (sent_in r.deeds))
  pub told : IsFront (map as_read (flat_map incoming_of (above_run r).past.taken)) (map as_told (messages_told (tokens_from 1 (sent_in r.deeds)) (sent images k history)))

-- ---- what a peer below knows

-- by what has this last mark; without a mark nothing is known
abbrev pub IsTrueAt : List Image → List Input → Option ℕ → Facts → Type 0
IsTrueAt images history None known = known ≡ nothing
IsTrueAt images history (Some position) known = Holds known (target_at images history position)

pub record KnowsTruth (images : List Image) (history : List Input) (j : ℕ) (r : HubRun) : Type 0 where
  -- each answer is that of its command, and each command has one at most
  pub own : TellsEachItsOwn j r
  -- the lessons are what the channel is told behind the hub's Hello
  pub told : filter is_message (below_run r).past.queued ≡ said (event locator hello hub_services) None ∷ map (λ l. l.said) (lessons_from j false [] r.deeds)
  -- and what each front of them teaches is true
  pub learned_so : (front : List Lesson) → IsFront front (lessons_from j false [] r.deeds) → IsTrueAt images history (last_mark None front) (learned (map (λ l. l.message) front))

abbrev pub PeersBehindAHubKnowTruth : Type 0
PeersBehindAHubKnowTruth = (calls : List Call) → AreNew calls new_hub → (j : ℕ) → (images : List Image) (history : List Input) (k : ℕ)
    → TakesWhatIsTold images history k (after_all j calls no_calls) → KnowsTruth images history j (after_all j calls no_calls)
