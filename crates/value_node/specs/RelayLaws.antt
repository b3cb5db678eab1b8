-- What a value-add promises, over any calls and whatever bytes come: it relays.
use Rattle.std.specs.Prelude.{ℕ, ◌≡◌, ◌≤◌, ◌+◌, Bool, true, false, if◌then◌else◌, List, [], ◌∷◌, ◌++◌, bytes_eq, decimal, filter, length, map, slice_get, Option, Some, None, option_map, IsSome, IfSome, Result, Ok}
use Rattle.std.specs.List.{AllByRecursion, flat_map, list_any}
use Rattle.list_laws.specs.Fronts.{IsFront}
use Rattle.channel_core.specs.Closing.{is_closed}
use Rattle.channel_core.specs.Greeting.{is_greeting}
use Rattle.channel_core.specs.QueueLaws.{is_message}
use Rattle.channel_core.specs.ReceivingLaws.{SendsReadable, incoming_of}
use Rattle.channel_core.specs.RunLaws.{is_command}
use Rattle.channel_core.specs.Wire.{end_of_stream, said}
use Rattle.channel_core.specs.declared.held.Held.{Held}
use Rattle.channel_core.specs.declared.held.Incoming.{Incoming}
use Rattle.channel_core.specs.declared.held.Outgoing.{Outgoing}
use Rattle.channel_core.specs.declared.taking.Taken.{Taken}
use Rattle.channel_core.specs.declared.taking.Taken.TheVariants as taken
use Rattle.tcf_message.specs.Message.{MessageValue, command, event, final, flow, not_known, progress, reading}
use Rattle.tcf_message.specs.declared.message.MessageFault.{MessageFault}
use Rattle.tcf_values.specs.Storable.{stores}
use Rattle.tcf_values.specs.declared.command.Command.{Command}
use Rattle.value_node.specs.Asked.{Asked}
use Rattle.value_node.specs.Barriers.{is_barrier}
use Rattle.value_node.specs.Deeds.{Deed, answers, asked_in as commands_in, command_asked, deeds_from, forwards, heard_in, hears, is_ended_in, lessons_in, mark_in, sent_in}
use Rattle.value_node.specs.Passing.{Upper}
use Rattle.value_node.specs.Store.{IsStoreOf, StoreValue, stored_answer}
use Rattle.value_node.specs.Runs.{Call, Past, UpperCall, ValueRun, above, after_all, below, below_since_bound, below_until_bound, no_calls, upper_after}
use Rattle.value_node.specs.Value.{is_free}
use Rattle.value_node.specs.declared.relay.Relay.{Relay}
use Rattle.value_node.specs.declared.states.Bind.{Bind}
use Rattle.value_node.specs.declared.states.Bind.TheVariants.{Unbound, Opening, Bound, Closed}

-- it holds after every list of calls of a new value-add
abbrev pub AfterAllCalls : (ValueRun → Type 0) → Type 0
AfterAllCalls P = (peer : List ℕ) (calls : List Call) → P (after_all calls (no_calls peer))

-- and so does this, of what it has done since it was bound
abbrev pub AfterAllDeeds : (ValueRun → List Deed → Type 0) → Type 0
AfterAllDeeds P = (peer : List ℕ) (calls : List Call) → P (after_all calls (no_calls peer)) (deeds_from calls (no_calls peer))

-- ---- its ends

-- where it stands so, its ends do: the lower one is open until it is Closed, and the upper one is while it is Bound
abbrev pub StandsWell : Bind → Relay → Past → Type 0
StandsWell Unbound v p = (is_closed v.lower.state ≡ false) × (is_free v.upper ≡ true) × (p.is_bound ≡ false)
StandsWell Opening v p = (is_closed v.lower.state ≡ false) × IsSome v.redirect × (p.is_bound ≡ false)
StandsWell Bound v p = (is_closed v.lower.state ≡ false) × (is_free v.upper ≡ false) × (p.is_bound ≡ true)
StandsWell Closed v p = (is_closed v.lower.state ≡ true) × (is_free v.upper ≡ true)

-- a connection that was given up: its end is closed, and took no Hello
pub record IsGivenUp (calls : List UpperCall) : Type 0 where
  pub closed : is_closed (upper_after calls).end.state ≡ true
  pub unheard : list_any is_greeting (upper_after calls).past.taken ≡ false

-- each end is what the calls that were made of it make of a new one, and what it sends can be read
pub record EndsAreRuns (r : ValueRun) : Type 0 where
  pub unspent : r.value.is_spent ≡ false
  pub lower : r.value.relay.lower ≡ (below r.past).end
  pub upper : r.value.relay.upper ≡ option_map (λ calls. (upper_after calls).end) r.past.connection
  pub stands : StandsWell r.value.relay.bind r.value.relay r.past
  pub unbound : r.past.is_bound ≡ false → r.past.since_bound ≡ []
  -- the Hello from above is what binds it
  pub heard : list_any is_greeting (above r.past).past.taken ≡ r.past.is_bound
  pub earlier : AllByRecursion IsGivenUp r.past.earlier
  pub below_readable : SendsReadable (r.past.until_bound ++ r.past.since_bound)
  pub above_readable : IfSome r.past.connection SendsReadable

-- ---- 1. the commands

abbrev pub asked_in : Option ℕ → Result MessageValue MessageFault → List Asked
asked_in mark (Ok (command token service name body)) = record { token = token; service = service; name = name; body = body; mark = mark } ∷ []
asked_in mark _ = []

abbrev pub asked_by : {T : Type 0} → Taken T → List Asked
asked_by (taken.Command incoming) = asked_in incoming.mark (reading incoming.raw)
asked_by _ = []

-- those that were taken from below since it was bound
abbrev pub asked_since : Past → List Asked
asked_since p = flat_map asked_by (below_since_bound p).past.taken

-- the same commands, as they go above: under the tokens from this one on, with their data and their marks
abbrev pub sent_above : ℕ → List Asked → List Outgoing
sent_above token [] = []
sent_above token (c ∷ commands) = said (command (decimal token) c.service c.name c.body) c.mark ∷ sent_above (token + 1) commands

abbrev pub held_in : Option Upper → List Held
held_in None = []
held_in (Some e) = e.held

-- those that were sent above, and behind them those that are held there
abbrev pub accepted_above : ValueRun → List Outgoing
accepted_above r = filter is_command (above r.past).past.queued ++ map (λ h. h.outgoing) (held_in r.value.relay.upper)

-- Each command that was taken from below is sent above or answered from the store, in order. Those that were sent are, each
-- once, the ones that aren't answered so, while it is bound; and a front of them for ever
pub record ForwardsInOrder (r : ValueRun) (deeds : List Deed) : Type 0 where
  pub asked : asked_since r.past ≡ commands_in deeds
  pub front : IsFront (accepted_above r) (sent_above 1 (sent_in deeds))
  pub all : r.value.relay.bind ≡ Bound → accepted_above r ≡ sent_above 1 (sent_in deeds)

-- ---- 2. the messages from above

-- the token that the command with this one above has below; the tokens above count from this one on
abbrev pub token_below : ℕ → List ℕ → List Asked → List ℕ
token_below next token [] = token
token_below next token (c ∷ commands) = if bytes_eq token (decimal next) then c.token else token_below (next + 1) token commands

-- an event as it came, and progress and an answer under the token of its own command; a command isn't passed on
abbrev pub passed_in : List Asked → Result MessageValue MessageFault → List MessageValue
passed_in commands (Ok (command token service name body)) = []
passed_in commands (Ok (final token body)) = final (token_below 1 token commands) body ∷ []
passed_in commands (Ok (progress token body)) = progress (token_below 1 token commands) body ∷ []
passed_in commands (Ok (not_known token)) = not_known (token_below 1 token commands) ∷ []
passed_in commands (Ok (event service name body)) = event service name body ∷ []
passed_in commands (Ok (flow level)) = []
passed_in commands _ = []

-- with its mark
abbrev pub passed_by : List Asked → Incoming → List Outgoing
passed_by commands incoming = map (λ m. said m incoming.mark) (passed_in commands (reading incoming.raw))

-- what is said below of these deeds, where these commands were sent above before: the messages that were heard, and the answers
-- from the store, without a token of their own
abbrev pub told_from : List Asked → List Deed → List Outgoing
told_from commands [] = []
told_from commands (forwards c ∷ deeds) = told_from (commands ++ c ∷ []) deeds
told_from commands (answers c reply mark ∷ deeds) = said (final c.token reply) mark ∷ told_from commands deeds
told_from commands (hears incoming ∷ deeds) = passed_by commands incoming ++ told_from commands deeds

-- the token is that of a command that was sent above by then, and was not answered from there
pub record IsOpen (before : List Deed) (token : List ℕ) : Type 0 where
  pub number : ℕ
  pub numbered : token ≡ decimal number
  pub counted : 1 ≤ number
  pub sent : number ≤ length (sent_in before)
  pub unanswered : is_ended_in number before ≡ false

-- progress and an answer are those of such a command
abbrev pub IsOfItsCommand : List Deed → Result MessageValue MessageFault → Type 0
IsOfItsCommand before (Ok (final token body)) = IsOpen before token
IsOfItsCommand before (Ok (progress token body)) = IsOpen before token
IsOfItsCommand before (Ok (not_known token)) = IsOpen before token
IsOfItsCommand before _ = Unit {0}

-- What was heard is what was taken from above, in order; and what is said below since it was bound, flow control and the end of
-- the stream aside, are the messages that were heard, and the answers from the store, in the order in which it did so
pub record PassesAllOn (r : ValueRun) (deeds : List Deed) : Type 0 where
  pub heard : heard_in deeds ≡ flat_map incoming_of (above r.past).past.taken
  pub own : (before rest : List Deed) (incoming : Incoming) → deeds ≡ before ++ hears incoming ∷ rest → IsOfItsCommand before (reading incoming.raw)
  pub told : filter is_message (below r.past).past.queued ≡ filter is_message (below_until_bound r.past).past.queued ++ told_from [] deeds

-- ---- 3. after the end from above

abbrev pub is_ending : {T : Type 0} → Taken T → Bool
is_ending (taken.Closed cause) = true
is_ending _ = false

-- that was taken of the upper end of a bound value-add
abbrev pub HasEnded : Past → Type 0
HasEnded p = (p.is_bound ≡ true) × (list_any is_ending (above p).past.taken ≡ true)

-- the end of the stream is queued below then, and nothing behind it, whatever is called later
pub record StopsAfterTheEnd (r : ValueRun) : Type 0 where
  pub closed : HasEnded r.past → r.value.relay.bind ≡ Closed
  pub last : HasEnded r.past → (front : List Outgoing) × ((below r.past).past.queued ≡ front ++ end_of_stream ∷ [])
  pub stays : (calls : List Call) → HasEnded r.past → (below (after_all calls r).past).past.queued ≡ (below r.past).past.queued

-- ---- 4. answers from the store

-- The answer to a command that is given behind these deeds is that to a storable command by what the messages that were heard
-- teach, at the position of the last one; and each barrier that was sent above before has been answered from there.
pub record IsAnsweredRightly (before : List Deed) (c : Asked) (reply : List ℕ) (mark : Option ℕ) : Type 0 where
  pub command : Command
  pub read : command_asked c ≡ Some command
  pub storable : stores command ≡ true
  pub store : StoreValue
  pub store_of : IsStoreOf (lessons_in before) store
  pub answer : stored_answer command store ≡ Some reply
  pub marked : mark ≡ mark_in before
  pub settled : (number : ℕ) (barrier : Asked) → slice_get (sent_in before) number ≡ Some barrier → is_barrier (command_asked barrier) ≡ true
      → is_ended_in (number + 1) before ≡ true

-- so is each answer from the store
abbrev pub AnswersRightly : ValueRun → List Deed → Type 0
AnswersRightly r deeds = (before rest : List Deed) (c : Asked) (reply : List ℕ) (mark : Option ℕ) → deeds ≡ before ++ answers c reply mark ∷ rest
    → IsAnsweredRightly before c reply mark

-- and what a bound value-add knows is what the messages that it heard teach, at the position of the last one
pub record KnowsWhatItHeard (r : ValueRun) (deeds : List Deed) : Type 0 where
  pub known : r.value.relay.bind ≡ Bound → IsStoreOf (lessons_in deeds) r.value.relay.store
  pub marked : r.value.relay.bind ≡ Bound → r.value.relay.store.mark ≡ mark_in deeds
