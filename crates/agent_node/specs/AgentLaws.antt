-- What an agent tells its channels is what the history of its target says.
use Rattle.std.specs.Prelude.{ℕ, ◌≡◌, ◌==◌, true, not, List, [], ◌∷◌, length, filter, map, Option, Some, None, Result, Ok}
use Rattle.std.specs.List.{AllByRecursion, flat_map, list_any}
use Rattle.channel_core.specs.Closing.{is_closed}
use Rattle.channel_core.specs.QueueLaws.{is_message}
use Rattle.channel_core.specs.Runs.{Run}
use Rattle.channel_core.specs.Wire.{hello, locator, said}
use Rattle.channel_core.specs.declared.held.Outgoing.{Outgoing}
use Rattle.channel_core.specs.declared.taking.Taken.{Taken}
use Rattle.channel_core.specs.declared.taking.Taken.TheVariants as taken
use Rattle.command_tables.specs.Reading.{reading_of}
use Rattle.target_contexts.specs.declared.process.Image.{Image}
use Rattle.target_hub.specs.History.{IsLegal, inputs_after, is_live, was_opened}
use Rattle.target_hub.specs.HubValue.{new_target}
use Rattle.target_hub.specs.Ordered.{OpensAt}
use Rattle.target_hub.specs.Sent.{ReadCommand, Told, event_at, executed_on, final_at, hello_at, progress_at, sent, unknown_at}
use Rattle.target_hub.specs.declared.input.Input.{Input}
use Rattle.tcf_message.specs.Message.{MessageValue, command, event, final, not_known, progress, reading}
use Rattle.tcf_message.specs.declared.message.MessageFault.{MessageFault}
use Rattle.agent_node.specs.Channels.{End, channel_end}
use Rattle.agent_node.specs.Runs.{AgentRun, Call, Past, after_all, no_calls, run_of}

-- ---- the commands that a channel's end took

-- a command as it was taken
pub record Asked : Type 0 where
  pub token : List ℕ
  pub service : List ℕ
  pub name : List ℕ
  pub body : List ℕ

abbrev pub asked_in : Result MessageValue MessageFault → List Asked
asked_in (Ok (command token service name body)) = record { token = token; service = service; name = name; body = body } ∷ []
asked_in _ = []

abbrev pub asked_by : Taken Unit → List Asked
asked_by (taken.Command incoming) = asked_in (reading incoming.raw)
asked_by _ = []

abbrev pub asked : Run Unit → List Asked
asked r = flat_map asked_by r.past.taken

abbrev pub tokens : List Asked → List (List ℕ)
tokens commands = map (λ c. c.token) commands

abbrev pub read : Asked → ReadCommand
read c = record { reading = reading_of c.service c.name c.body; service = c.service; name = c.name }

-- ---- what a channel is told, as messages: each answer and its progress under the token of its command

abbrev pub first_token : List (List ℕ) → List ℕ
first_token [] = []
first_token (token ∷ rest) = token

abbrev pub later_tokens : List (List ℕ) → List (List ℕ)
later_tokens [] = []
later_tokens (token ∷ rest) = rest

abbrev pub messages_told : List (List ℕ) → List Told → List (MessageValue × Option ℕ)
messages_told names [] = []
messages_told names (hello_at position body ∷ told) = (event locator hello body, Some position) ∷ messages_told names told
messages_told names (event_at position service name body ∷ told) = (event service name body, Some position) ∷ messages_told names told
messages_told names (progress_at position body ∷ told) = (progress (first_token names) body, Some position) ∷ messages_told names told
messages_told names (final_at position through body ∷ told) = (final (first_token names) body, Some position) ∷ messages_told (later_tokens names) told
messages_told names (unknown_at position through ∷ told) = (not_known (first_token names), Some position) ∷ messages_told (later_tokens names) told

abbrev pub all_said : List (MessageValue × Option ℕ) → List Outgoing
all_said messages = map (λ m. said m.0 m.1) messages

-- ---- the laws

-- of one channel that was opened: it is told what the history says, the history executes what its end took, and it is live
-- until its end closes
pub record FollowsHistory (images : List Image) (history : List Input) (past : Past) : Type 0 where
  pub opened : OpensAt history past.position past.number
  pub live : is_live past.number history ≡ not (is_closed (run_of past).end.state)
  pub told : filter is_message (run_of past).past.queued ≡ all_said (messages_told (tokens (asked (run_of past))) (sent images past.number history))
  pub executed : executed_on past.number history ≡ map read (asked (run_of past))

-- the end that the agent has under a number is what its calls made of it; the agent forgets closed ones of which nothing is
-- to be sent any more
abbrev pub IsEndOf : Option End → Past → Type 0
IsEndOf None past = (is_closed (run_of past).end.state ≡ true) × ((run_of past).end.queued ≡ [])
IsEndOf (Some end) past = end ≡ (run_of past).end

pub record AgentFollowsHistory (images : List Image) (r : AgentRun) : Type 0 where
  pub target : r.agent.target ≡ inputs_after r.history (new_target images)
  pub position : r.agent.position ≡ length r.history
  pub legal : IsLegal images r.history
  pub channels : AllByRecursion (FollowsHistory images r.history) r.channels
  pub ends : AllByRecursion (λ past. IsEndOf (channel_end past.number r.agent.channels) past) r.channels
  pub opened : (k : ℕ) → was_opened k r.history ≡ list_any (λ past. past.number == k) r.channels

-- Whatever the calls, and whatever bytes came: the history of the inputs is legal, and each channel is told exactly what it
-- says.
abbrev pub AgentTellsTheTruth : Type 0
AgentTellsTheTruth = (images : List Image) (calls : List Call) → AgentFollowsHistory images (after_all calls (no_calls images))
