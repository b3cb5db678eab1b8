-- How a world stands after every schedule: its agent, its clients and the ways between them are what their calls made of
-- them, and what a client and the agent gave and got is what the way between them got and gave there.
use Rattle.std.specs.Prelude.{ℕ, ◌≡◌, suc, ◌<◌, ◌==◌, ◌⊎◌, Bool, true, false, not, ◌&&◌, if◌then◌else◌, List, [], ◌∷◌, map, Option, Some, None, IfSome, is_some}
use Rattle.std.specs.List.{AllByRecursion, Contains, flat_map, list_any}
use Rattle.agent_node.specs.Runs.{Call as AgentCall, Past, after_all as agent_after, no_calls as agent_begun, run_of}
use Rattle.chain_route.specs.Runs.{Call as WayCall, cuts, Past as WayPast, Talk, after_all as way_after, is_waiting, no_calls as way_begun}
use Rattle.channel_core.specs.Arrivals.{Marked, arrived, bytes_of}
use Rattle.channel_core.specs.Closing.{is_closed}
use Rattle.channel_core.specs.Wire.{end_of_stream}
use Rattle.channel_core.specs.declared.held.Outgoing.{Outgoing}
use Rattle.channel_laws.specs.Faults.{is_ending}
use Rattle.client_node.specs.Client.{new_client}
use Rattle.client_node.specs.Ends.{HasNames, end_calls, given_out}
use Rattle.client_node.specs.Runs.{Call as ClientCall, bytes_end, closes, run}
use Rattle.target_contexts.specs.declared.process.Image.{Image}
use Rattle.tcf_schedules.specs.Plan.{Plan, close, cut, times}
use Rattle.chain_world.specs.Chain.{channels_of}
use Rattle.chain_world.specs.ChainValue.{ChainValue}
use Rattle.chain_world.specs.World.{IsPlayable, new_world, run as played}
use Rattle.chain_world.specs.WorldValue.{WorldValue}
use Rattle.list_laws.specs.Fronts.{IsFront}

-- ---- a channel of the agent, by its number

-- its past, where it was opened
abbrev pub past_at : ℕ → List Past → Option Past
past_at k [] = None
past_at k (past ∷ pasts) = if past.number == k then Some past else past_at k pasts

-- what the agent gave out to it: to one that it refused, the end of the stream
abbrev pub given_to : Option Past → List Outgoing
given_to None = end_of_stream ∷ []
given_to (Some past) = (run_of past).past.given

-- the bytes that came to it
abbrev pub came_to : Option Past → List Marked
came_to None = []
came_to (Some past) = arrived past.calls

-- whether what comes is taken
abbrev pub is_taking : Option Past → Bool
is_taking None = false
is_taking (Some past) = not (is_closed (run_of past).end.state)

-- to the agent bytes come without their marks
abbrev pub unmarked : List Outgoing → List Marked
unmarked outs = bytes_of (map (λ (out : Outgoing). record out { mark = None }) outs)

-- ---- a chain

-- whether its bytes have ended without the end of the stream
abbrev pub Loses : Option Past → Talk → Type 0
Loses None talk = Unit {0}
Loses (Some past) talk = talk.is_lost ≡ list_any is_ending past.calls

-- What the agent gave to the channel went down the way, all that it queued. What came up the way is what came to the channel, for
-- as long as that takes. One that it didn't open it refused.
pub record Talks (past : Option Past) (talk : Talk) : Type 0 where
  pub refused : talk.is_refused ≡ not (is_some past)
  pub gave : talk.gave ≡ given_to past
  pub given : IfSome past (λ p. (run_of p).end.queued ≡ [])
  pub lost : Loses past talk
  pub came : is_taking past ≡ true → unmarked talk.got ≡ came_to past
  pub front : IsFront (came_to past) (unmarked talk.got)

-- where no channel has a number, none was reached, or none was left and it was refused
abbrev pub TalksOn : Option ℕ → WayPast → List Past → Type 0
TalksOn None p pasts = ((p.is_reached ≡ false) × (p.agent.gave ≡ [])) ⊎ ((p.agent.is_refused ≡ true) × (p.agent.gave ≡ end_of_stream ∷ []))
TalksOn (Some k) p pasts = (p.is_reached ≡ true) × Talks (past_at k pasts) p.agent

-- what came to an earlier channel came up the way then
pub record Talked (p : WayPast) (pasts : List Past) (k : ℕ) : Type 0 where
  pub got : List Outgoing
  pub earlier : Contains p.earlier got
  pub front : IsFront (came_to (past_at k pasts)) (unmarked got)

-- ---- the calls that only some steps bring about

-- a step closes the client of the chain at this place, or cuts this hop of it
abbrev pub closes_at : ℕ → Plan → Bool
closes_at at (close chain) = chain == at
closes_at at (times count plan) = closes_at at plan
closes_at at plan = false

abbrev pub cuts_at : ℕ → ℕ → Plan → Bool
cuts_at at hop (cut chain place) = chain == at && (place == hop)
cuts_at at hop (times count plan) = cuts_at at hop plan
cuts_at at hop plan = false

-- a client is closed by such a step alone, and loses its connection by a cut of its first hop
abbrev pub MayBeCalled : List Plan → ℕ → ClientCall → Type 0
MayBeCalled plans at closes = list_any (closes_at at) plans ≡ true
MayBeCalled plans at bytes_end = list_any (cuts_at at 0) plans ≡ true
MayBeCalled plans at call = Unit {0}

abbrev pub MayHappen : List Plan → ℕ → WayCall → Type 0
MayHappen plans at (cuts hop) = list_any (cuts_at at hop) plans ≡ true
MayHappen plans at call = Unit {0}

-- ---- a chain, at this place, which these steps brought about

pub record ChainStands (plans : List Plan) (pasts : List Past) (at adds : ℕ) (chain : ChainValue) : Type 0 where
  pub calls : List ClientCall
  pub ways : List WayCall
  pub may_be_called : AllByRecursion (MayBeCalled plans at) calls
  pub may_happen : AllByRecursion (MayHappen plans at) ways
  pub client : chain.client ≡ run calls new_client
  pub names : AllByRecursion HasNames calls
  pub way : chain.route ≡ (way_after ways (way_begun adds)).route
  pub unwanted : (way_after ways (way_begun adds)).past.is_wanted ≡ false
  pub settled : is_waiting (way_after ways (way_begun adds)) ≡ false
  pub given : IfSome chain.client.channel (λ e. e.queued ≡ [])
  pub lost : (way_after ways (way_begun adds)).past.client.is_lost ≡ list_any is_ending (end_calls calls new_client)
  pub opened : is_some chain.client.channel ≡ (way_after ways (way_begun adds)).past.is_joined
  pub gave : (way_after ways (way_begun adds)).past.client.gave ≡ given_out calls new_client
  pub got : bytes_of (way_after ways (way_begun adds)).past.client.got ≡ arrived (end_calls calls new_client)
  pub talks : TalksOn chain.channel (way_after ways (way_begun adds)).past pasts
  pub talked : AllByRecursion (Talked (way_after ways (way_begun adds)).past pasts) chain.earlier

-- the chains from this place on, each by the number of its value-adds
abbrev pub AllStand : List Plan → List Past → ℕ → List ℕ → List ChainValue → Type 0
AllStand plans pasts at [] [] = Unit {0}
AllStand plans pasts at (adds ∷ rest) (chain ∷ chains) = ChainStands plans pasts at adds chain × AllStand plans pasts (suc at) rest chains
AllStand plans pasts at _ _ = ⊥

-- ---- a world

abbrev pub AllDiffer : List ℕ → Type 0
AllDiffer [] = Unit {0}
AllDiffer (k ∷ numbers) = (Contains numbers k → ⊥) × AllDiffer numbers

-- the numbers that were given are below the next one, while one is left
abbrev pub AreBelow : Option ℕ → List ℕ → Type 0
AreBelow None numbers = Unit {0}
AreBelow (Some next) numbers = AllByRecursion (λ k. k < next) numbers

-- no channel has a number that another one has, and each channel that the agent opened is one of a chain
pub record AreNumbered (next : Option ℕ) (pasts : List Past) (numbers : List ℕ) : Type 0 where
  pub differ : AllDiffer numbers
  pub below : AreBelow next numbers
  pub owned : AllByRecursion (λ past. Contains numbers past.number) pasts

pub record Stands (plans : List Plan) (images : List Image) (adds : List ℕ) (w : WorldValue) : Type 0 where
  pub calls : List AgentCall
  pub agent : (agent_after calls (agent_begun images)).agent ≡ w.agent
  pub history : (agent_after calls (agent_begun images)).history ≡ w.history
  pub chains : AllStand plans (agent_after calls (agent_begun images)).channels 0 adds w.chains
  pub numbered : AreNumbered w.next (agent_after calls (agent_begun images)).channels (flat_map channels_of w.chains)

-- Whatever the steps of these chains are, with so many value-adds each.
abbrev pub StandsAfterEverySchedule : Type 0
StandsAfterEverySchedule = (images : List Image) (adds : List ℕ) (plans : List Plan) → AllByRecursion IsPlayable plans →
    Stands plans images adds (played plans (new_world images adds))
