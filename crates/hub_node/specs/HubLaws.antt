-- What a hub promises, over any calls and whatever bytes come.
use Rattle.std.specs.Prelude.{ℕ, ◌≡◌, ◌≤◌, ◌+◌, ◌^◌, ◌==◌, Bool, true, false, not, ◌&&◌, ◌||◌, if◌then◌else◌, List, [], ◌∷◌, ◌++◌, bytes_eq, decimal, filter, length, map, Option, None, Some, Result, Ok, Err}
use Rattle.std.specs.List.{flat_map}
use Rattle.channel_core.specs.Closing.{is_closed}
use Rattle.channel_core.specs.EndValue.{EndValue}
use Rattle.channel_core.specs.QueueLaws.{is_message}
use Rattle.channel_core.specs.RunLaws.{EndsOnce, is_command}
use Rattle.channel_core.specs.Runs.{Run}
use Rattle.channel_core.specs.Wire.{hello, is_redirect, locator, said}
use Rattle.channel_core.specs.declared.held.Incoming.{Incoming}
use Rattle.channel_core.specs.declared.held.Outgoing.{Outgoing}
use Rattle.channel_core.specs.declared.taking.Taken.{Taken}
use Rattle.channel_core.specs.declared.taking.Taken.TheVariants as taken
use Rattle.channel_list.specs.Channels.{channel_end}
use Rattle.list_laws.specs.Fronts.{IsFront}
use Rattle.tcf_message.specs.Message.{MessageValue, command, event, final, flow, not_known, progress, reading}
use Rattle.tcf_message.specs.declared.message.MessageFault.{MessageFault}
use Rattle.hub_node.specs.Calls.{AreNew, Call}
use Rattle.hub_node.specs.Deeds.{Asked, Deed, answers, ends, forwards, heard_in, hears, joins, leaves, sent_in}
use Rattle.hub_node.specs.Hub.{new_hub}
use Rattle.hub_node.specs.Redirects.{redirect_reply}
use Rattle.hub_node.specs.Relay.{hub_services}
use Rattle.hub_node.specs.Runs.{HubRun, above_run, after_all, below_run, no_calls, only_if}
use Rattle.hub_node.specs.declared.waiting.Tag.{Tag}

-- ---- the ends are what their calls made of them

-- the end that the hub has under a number; it forgets closed ones of which nothing is to be sent any more
abbrev pub IsEndOf : Option (EndValue Unit) → Run Unit → Type 0
IsEndOf None r = (is_closed r.end.state ≡ true) × (r.end.queued ≡ [])
IsEndOf (Some end) r = end ≡ r.end

pub record EndsAreRuns (j : ℕ) (r : HubRun) : Type 0 where
  pub unspent : r.hub.is_spent ≡ false
  pub above : r.hub.relay.upper ≡ (above_run r).end
  pub below : r.is_begun ≡ true → IsEndOf (channel_end j r.hub.relay.lowers) (below_run r)

-- ---- 1. what is sent above

-- a command that an end took, unless it is a redirect
abbrev pub asked_in : ℕ → Option ℕ → Result MessageValue MessageFault → List Asked
asked_in j mark (Ok (command token service name body)) =
    if is_redirect service name then [] else record { channel = j; token = token; service = service; name = name; body = body; mark = mark } ∷ []
asked_in j mark _ = []

abbrev pub asked_by : ℕ → Taken Unit → List Asked
asked_by j (taken.Hello incoming) = []
asked_by j (taken.Command incoming) = asked_in j incoming.mark (reading incoming.raw)
asked_by j (taken.Event incoming) = []
asked_by j (taken.Progress token incoming) = []
asked_by j (taken.Final tag incoming) = []
asked_by j (taken.Closed cause) = []

abbrev pub is_of : ℕ → Asked → Bool
is_of j c = c.channel == j

-- as they go above, under the tokens from this one on
abbrev pub sent_above : ℕ → List Asked → List Outgoing
sent_above token [] = []
sent_above token (c ∷ commands) = said (command (decimal token) c.service c.name c.body) c.mark ∷ sent_above (token + 1) commands

-- the commands that are queued above are, in order and each once, a front of those that the hub sent, and those of them that
-- are j's are, in order and each once, a front of those that were taken from j; there are fewer than tokens of 64 bits
pub record SendsItsCommands (j : ℕ) (r : HubRun) : Type 0 where
  pub sent : IsFront (filter is_command (above_run r).past.queued) (sent_above 1 (sent_in r.deeds))
  pub own : IsFront (filter (is_of j) (sent_in r.deeds)) (flat_map (asked_by j) (below_run r).past.taken)
  pub few : 1 + length (sent_in r.deeds) ≤ 2 ^ 64

-- ---- 2. what is heard from above

-- the Hello has come
abbrev pub bound_by : Bool → Taken Tag → Bool
bound_by bound (taken.Hello incoming) = true
bound_by bound (taken.Command incoming) = bound
bound_by bound (taken.Event incoming) = bound
bound_by bound (taken.Progress token incoming) = bound
bound_by bound (taken.Final tag incoming) = bound
bound_by bound (taken.Closed cause) = bound

-- each event but the first Hello, progress and each answer
abbrev pub heard_of : Bool → Taken Tag → List Incoming
heard_of bound (taken.Hello incoming) = if bound then incoming ∷ [] else []
heard_of bound (taken.Command incoming) = []
heard_of bound (taken.Event incoming) = incoming ∷ []
heard_of bound (taken.Progress token incoming) = incoming ∷ []
heard_of bound (taken.Final tag incoming) = incoming ∷ []
heard_of bound (taken.Closed cause) = []

abbrev pub heard_from : Bool → List (Taken Tag) → List Incoming
heard_from bound [] = []
heard_from bound (entry ∷ entries) = heard_of bound entry ++ heard_from (bound_by bound entry) entries

-- what the hub heard is, in order, what was taken from above
pub record HearsWhatComes (j : ℕ) (r : HubRun) : Type 0 where
  pub heard : heard_in r.deeds ≡ heard_from false (above_run r).past.taken

-- ---- what a lower channel is told

-- the command under this token above; the tokens there count from this number on
abbrev pub under : ℕ → List ℕ → List Asked → Option Asked
under number token [] = None
under number token (c ∷ commands) = if bytes_eq token (decimal number) then Some c else under (number + 1) token commands

-- what is told of a command, where it is one of channel j
abbrev pub if_of : {A : Type 0} → ℕ → Option Asked → (Asked → A) → List A
if_of j None tells = []
if_of j (Some c) tells = if c.channel == j then tells c ∷ [] else []

-- an event as it came; progress and an answer to a command of its own, under the token that the command has there
abbrev pub passed_to : ℕ → List Asked → Result MessageValue MessageFault → List MessageValue
passed_to j commands (Ok (event service name body)) = event service name body ∷ []
passed_to j commands (Ok (final token body)) = if_of j (under 1 token commands) (λ c. final c.token body)
passed_to j commands (Ok (progress token body)) = if_of j (under 1 token commands) (λ c. progress c.token body)
passed_to j commands (Ok (not_known token)) = if_of j (under 1 token commands) (λ c. not_known c.token)
passed_to j commands (Ok (command token service name body)) = []
passed_to j commands (Ok (flow level)) = []
passed_to j commands (Err fault) = []

-- What channel j is told, where it is open or not before these deeds, and these commands were sent above. While it is open:
-- each event, what is told of its commands, with the mark that it came with, and the answers to its redirects, without a mark
abbrev pub told_from : ℕ → Bool → List Asked → List Deed → List Outgoing
told_from j is_open commands [] = []
told_from j is_open commands (joins i ∷ deeds) = told_from j (is_open || (i == j)) commands deeds
told_from j is_open commands (leaves i ∷ deeds) = told_from j (is_open && not (i == j)) commands deeds
told_from j is_open commands (forwards c ∷ deeds) = told_from j is_open (commands ++ c ∷ []) deeds
told_from j is_open commands (answers c ∷ deeds) =
    only_if (is_open && (c.channel == j)) (said (final c.token (redirect_reply c.service c.name c.body)) None ∷ []) ++ told_from j is_open commands deeds
told_from j is_open commands (hears incoming ∷ deeds) =
    only_if is_open (map (λ m. said m incoming.mark) (passed_to j commands (reading incoming.raw))) ++ told_from j is_open commands deeds
told_from j is_open commands (ends ∷ deeds) = told_from j false commands deeds

-- a final answer to the command with this token
abbrev pub ends_with : List ℕ → Result MessageValue MessageFault → Bool
ends_with token (Ok (final other body)) = bytes_eq other token
ends_with token (Ok (not_known other)) = bytes_eq other token
ends_with token _ = false

-- those that were heard to the command with this number
abbrev pub answers_to : ℕ → List Deed → List Incoming
answers_to number deeds = filter (λ incoming. ends_with (decimal number) (reading incoming.raw)) (heard_in deeds)

-- the token is that of a command that was sent above by then, and has no final answer
pub record IsOpen (before : List Deed) (token : List ℕ) : Type 0 where
  pub number : ℕ
  pub numbered : token ≡ decimal number
  pub counted : 1 ≤ number
  pub sent : number ≤ length (sent_in before)
  pub unanswered : answers_to number before ≡ []

-- progress and an answer are those of such a command
abbrev pub IsOfItsCommand : List Deed → Result MessageValue MessageFault → Type 0
IsOfItsCommand before (Ok (final token body)) = IsOpen before token
IsOfItsCommand before (Ok (progress token body)) = IsOpen before token
IsOfItsCommand before (Ok (not_known token)) = IsOpen before token
IsOfItsCommand before _ = Unit {0}

-- the channel joins
abbrev pub is_joining : ℕ → Deed → Bool
is_joining j (joins i) = i == j
is_joining j _ = false

-- What is heard of a command is heard of one that was sent and has no final answer, so that each has one at most. And what is
-- queued for a lower channel, flow control and the end of the stream aside, is its Hello and what it is told of what the hub
-- did; it joins once at most
pub record TellsEachItsOwn (j : ℕ) (r : HubRun) : Type 0 where
  pub each : (before rest : List Deed) (incoming : Incoming) → r.deeds ≡ before ++ hears incoming ∷ rest → IsOfItsCommand before (reading incoming.raw)
  pub once : (number : ℕ) → length (answers_to number r.deeds) ≤ 1
  pub joined : length (filter (is_joining j) r.deeds) ≤ 1
  pub told : filter is_message (below_run r).past.queued ≡ said (event locator hello hub_services) None ∷ told_from j false [] r.deeds

-- ---- 3. the end

-- where the upper end is closed, so is the channel's; and behind the closing of an end nothing is queued
pub record ClosesWithTheHub (j : ℕ) (r : HubRun) : Type 0 where
  pub closes : r.is_begun ≡ true → is_closed (above_run r).end.state ≡ true → is_closed (below_run r).end.state ≡ true
  pub once : EndsOnce (below_run r)

-- ---- the laws, of any lower channel

abbrev pub AfterAllCalls : (ℕ → HubRun → Type 0) → Type 0
AfterAllCalls P = (calls : List Call) → AreNew calls new_hub → (j : ℕ) → P j (after_all j calls no_calls)
