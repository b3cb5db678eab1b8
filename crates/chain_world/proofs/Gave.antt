-- After each step of a world all that a client queued, and all that the agent queued for the channel of a chain, was given out.
use Rattle.std.proofs.Common.{◌≡◌, ℕ, zero, suc, ◌-◌, ◌==◌, Bool, true, false, cond, List, [], ◌∷◌, Option, Some, None, refl, sym, ap, ◌∙◌, subst, eqb-true, eq-eqb}
use Rattle.std.proofs.lemmas.Option.{none-some}
use Rattle.std.specs.Prelude.{option_map, slice_get, slice_set}
use Rattle.std.specs.List.{AllByRecursion}
use Rattle.agent_node.specs.Agent.{delivered as agent_delivered, ended as agent_ended, opened as agent_opened}
use Rattle.agent_node.specs.AgentValue.{AgentValue}
use Rattle.agent_node.specs.Channels.{End, changed, channel_end, end_in}
use Rattle.channel_list.specs.declared.channel.Channel.{Channel}
use Rattle.cached_lines.specs.declared.what.CachedWhat.{CachedWhat}
use Rattle.channel_core.specs.EndValue.{EndValue, unless_spent}
use Rattle.channel_core.specs.Receiving.{ended as bytes_ended, is_over, with_last}
use Rattle.channel_core.specs.declared.held.Outgoing.{Outgoing}
use Rattle.channel_core.specs.declared.states.Cause.TheVariants.{Ended}
use Rattle.client_node.specs.Client.{closed as client_closed, ended as client_ended, opened as client_opened, sent as client_sent, turned as client_turned, waiting_on}
use Rattle.target_hub.specs.declared.input.Input.{Input}
use Rattle.value_node.specs.declared.states.Side.{Side}
use Rattle.value_node.specs.declared.states.Side.TheVariants.{Below, Above}
use Rattle.chain_route.specs.Lane.{arriving, size_in}
use Rattle.chain_route.specs.Passing.{most_bytes}
use Rattle.chain_route.specs.Route as route
use Rattle.chain_route.specs.Route.{arrived_up, connected, delivered_at as way_delivered, flight_down, flight_up, last_of, turned as way_turned}
use Rattle.chain_route.specs.RouteValue.{RouteValue}
use Rattle.chain_world.specs.Chain.{Both, agent_emptied, all_down, all_dropped, all_taken_down, all_up, asked, both, came_down, came_up, carried_down, carried_from, carried_up, closed, cut, cut_by, delivered_down, delivered_over, delivered_to, delivered_under, delivered_up, ended_from, is_opened, none_reached, opened_by, parts_delivered, pieces_down, pieces_up, queue_of, reached, sent, takes_down, takes_up, turned_down, turns_down}
use Rattle.chain_world.specs.ChainValue.{ChainValue}
use Rattle.chain_world.specs.World.{add_turned, after_number, all_carried, all_to_add, carried, connected_at, new_chains, on_chain, on_some, opened_at, opened_from, opening, reached_at, reached_by, reached_from, reached_if, reached_with, with_agent, with_both, with_chain, with_input, with_route, with_some}
use Rattle.chain_world.specs.WorldValue.{WorldValue}
use Rattle.chain_world.proofs.Lists.{all_at, all_set, set_twice}
use Rattle.chain_world.proofs.Pieces.{client_none}
use Rattle.chain_world.proofs.Queued.{agent_has_none, changed_first, found_changed, found_here, found_later, first_here, first_later, in_first, mapped}
use Rattle.list_laws.proofs.AllLists.{all_weaker as all_map}
use Rattle.list_laws.proofs.Lists.{get_set}
use Rattle.agent_node.proofs.Places.{found, place_found}

-- ---- A channel of the agent has nothing queued

abbrev pub NoneAt : AgentValue → ℕ → Type 0
NoneAt a k = queue_of (channel_end k a.channels) ≡ []

found_other : (j k : ℕ) (f : End → End) → (j == k) ≡ false → (cs : List Channel) → found j (in_first k f cs) ≡ found j cs
found_other j k f apart [] = refl
found_other j k f apart (c ∷ cs) = by_flags (c.number == k) (c.number == j) refl refl (found_other j k f apart cs)
  where
    by_flags : (one other : Bool) → (c.number == k) ≡ one → (c.number == j) ≡ other → found j (in_first k f cs) ≡ found j cs → found j (in_first k f (c ∷ cs)) ≡ found j (c ∷ cs)
    by_flags true true one other rest = let same : (j == k) ≡ true = eq-eqb j k (sym (eqb-true c.number j other) ∙ eqb-true c.number k one) in absurd cc
    by_flags true false one other rest =
        ap (found j) (first_here k f c cs one) ∙ found_later j _ cs other ∙ sym (found_later j c cs other)
    by_flags false true one other rest =
        ap (found j) (first_later k f c cs one) ∙ found_here j c (in_first k f cs) other ∙ sym (found_here j c cs other)
    by_flags false false one other rest =
        ap (found j) (first_later k f c cs one) ∙ found_later j c (in_first k f cs) other ∙ rest ∙ sym (found_later j c cs other)

elsewhere : (j k : ℕ) (f : End → End) → (j == k) ≡ false → (cs : List Channel) → channel_end j (changed k f cs) ≡ channel_end j cs
elsewhere j k f apart cs =
    ap end_in (place_found j (changed k f cs) ∙ ap (found j) (changed_first k f cs) ∙ found_other j k f apart cs ∙ sym (place_found j cs))

abbrev KeepsQueue : (End → End) → Type 0
KeepsQueue f = (e : End) → queue_of (Some (f e)) ≡ queue_of (Some e)

mapped_queue : (f : End → End) → KeepsQueue f → (there : Option Channel) → queue_of (end_in (mapped f there)) ≡ queue_of (end_in there)
mapped_queue f keeps None = refl
mapped_queue f keeps (Some c) = keeps c.end

same_queue : (j k : ℕ) (f : End → End) → KeepsQueue f → (cs : List Channel) → queue_of (channel_end j (changed k f cs)) ≡ queue_of (channel_end j cs)
same_queue j k f keeps cs = by_flag (j == k) refl
  where
    by_flag : (flag : Bool) → (j == k) ≡ flag → queue_of (channel_end j (changed k f cs)) ≡ queue_of (channel_end j cs)
    by_flag true is =
        let P : ℕ → Type 0 = λ n. queue_of (channel_end n (changed k f cs)) ≡ queue_of (channel_end n cs) in
        subst P (sym (eqb-true j k is))
        (ap (λ o. queue_of (end_in o)) (place_found k (changed k f cs) ∙ ap (found k) (changed_first k f cs) ∙ found_changed k f cs)
        ∙ mapped_queue f keeps (found k cs) ∙ ap (λ o. queue_of (end_in o)) (sym (place_found k cs)))
    by_flag false is = ap queue_of (elsewhere j k f is cs)

emptied_none : (j k : ℕ) (a : AgentValue) → NoneAt a j → NoneAt (agent_emptied k a) j
emptied_none j k a none = by_flag (j == k) refl
  where
    by_flag : (flag : Bool) → (j == k) ≡ flag → NoneAt (agent_emptied k a) j
    by_flag true is = subst (NoneAt (agent_emptied k a)) (sym (eqb-true j k is)) (agent_has_none k a)
    by_flag false is = ap queue_of (elsewhere j k _ is a.channels) ∙ none

dropped_none : (channels : List ℕ) (j : ℕ) (a : AgentValue) → NoneAt a j → NoneAt (all_dropped channels a) j
dropped_none [] j a none = none
dropped_none (k ∷ channels) j a none = dropped_none channels j (agent_emptied k a) (emptied_none j k a none)

-- ---- What its bytes' end leaves

ended_queue : {T : Type 0} → (e : EndValue T) → queue_of (Some (unless_spent e e (bytes_ended e))) ≡ queue_of (Some e)
ended_queue {T = T} e = by_flags e.is_spent (is_over e)
  where
    by_flags : (spent over : Bool) → queue_of (Some (cond {A = EndValue T} spent e (cond over e (with_last Ended e)))) ≡ queue_of (Some e)
    by_flags true over = refl
    by_flags false true = refl
    by_flags false false = refl

ended_none : (j k : ℕ) (a : AgentValue) → NoneAt a j → NoneAt (agent_ended k a) j
unfolding agent_ended
ended_none j k a none = same_queue j k (λ e. unless_spent e e (bytes_ended e)) ended_queue a.channels ∙ none

piece_elsewhere : (j k : ℕ) (piece : List ℕ) (a : AgentValue) → (j == k) ≡ false → NoneAt a j → NoneAt (agent_delivered k piece a) j
unfolding agent_delivered
piece_elsewhere j k piece a apart none = ap queue_of (elsewhere j k _ apart a.channels) ∙ none

parts_elsewhere : (j k : ℕ) (parts : List Outgoing) (a : AgentValue) → (j == k) ≡ false → NoneAt a j → NoneAt (parts_delivered k parts a) j
parts_elsewhere j k [] a apart none = none
parts_elsewhere j k (part ∷ parts) a apart none = parts_elsewhere j k parts (agent_delivered k part.bytes a) apart (piece_elsewhere j k part.bytes a apart none)

-- ---- The steps of a chain and the agent

abbrev pub ClientGave : ChainValue → Type 0
ClientGave c = queue_of c.client.channel ≡ []

pub record IsGiving (step : ChainValue → AgentValue → Both) : Type 0 where
  pub client : (c : ChainValue) (a : AgentValue) → ClientGave c → ClientGave (step c a).chain
  pub channel : (c : ChainValue) (a : AgentValue) → (step c a).chain.channel ≡ c.channel
  pub agent : (c : ChainValue) (a : AgentValue) (j : ℕ) → NoneAt a j → NoneAt (step c a).agent j

from_client : (channel : Option ℕ) (c : ChainValue) (a : AgentValue) → (carried_from channel c a).chain.client ≡ c.client
from_client None c a = refl
from_client (Some k) c a = refl

from_channel : (channel : Option ℕ) (c : ChainValue) (a : AgentValue) → (carried_from channel c a).chain.channel ≡ c.channel
from_channel None c a = refl
from_channel (Some k) c a = refl

from_none : (channel : Option ℕ) (c : ChainValue) (a : AgentValue) (j : ℕ) → NoneAt a j → NoneAt (carried_from channel c a).agent j
from_none None c a j none = none
from_none (Some k) c a j none = emptied_none j k a none

carry_gives : IsGiving carried_down
carry_gives = record {
  client = λ c a gave. ap (λ x. queue_of x.channel) (from_client c.channel c (all_dropped c.earlier a)) ∙ gave;
  channel = λ c a. from_channel c.channel c (all_dropped c.earlier a);
  agent = λ c a j none. from_none c.channel c (all_dropped c.earlier a) j (dropped_none c.earlier j a none);
}

-- what the agent queued for its own channel goes out
carried_own : (c : ChainValue) (a : AgentValue) (k : ℕ) → c.channel ≡ Some k → NoneAt (carried_down c a).agent k
carried_own c a k is = by_channel c.channel is
  where
    by_channel : (channel : Option ℕ) → channel ≡ Some k → NoneAt (carried_from channel c (all_dropped c.earlier a)).agent k
    by_channel None none = absurd (none-some k none)
    by_channel (Some i) same =
        let number : i ≡ k = cc in subst (NoneAt (agent_emptied i (all_dropped c.earlier a))) number (agent_has_none i (all_dropped c.earlier a))

came_none : (k count : ℕ) (c : ChainValue) (a : AgentValue) (j : ℕ) → c.channel ≡ Some k → NoneAt a j → NoneAt (came_up k count c a).agent j
came_none k count c a j is none = by_flag (j == k) refl
  where
    came : ChainValue
    came = record c { route = arrived_up count c.route }

    parts : List Outgoing
    parts = arriving count (flight_up c.route)

    by_flag : (flag : Bool) → (j == k) ≡ flag → NoneAt (carried_down came (parts_delivered k parts a)).agent j
    by_flag true same = subst (NoneAt (carried_down came (parts_delivered k parts a)).agent) (sym (eqb-true j k same)) (carried_own came (parts_delivered k parts a) k is)
    by_flag false apart = carry_gives.agent came (parts_delivered k parts a) j (parts_elsewhere j k parts a apart none)

record GivesAt (c : ChainValue) (a : AgentValue) (b : Both) : Type 0 where
  client : ClientGave c → ClientGave b.chain
  channel : b.chain.channel ≡ c.channel
  agent : (j : ℕ) → NoneAt a j → NoneAt b.agent j

gives_none : (c : ChainValue) (a : AgentValue) → GivesAt c a (both c a)
gives_none c a = record { client = λ gave. gave; channel = refl; agent = λ j none. none }

gives_then : (c : ChainValue) (a : AgentValue) (b next : Both) → GivesAt c a b → GivesAt b.chain b.agent next → GivesAt c a next
gives_then c a b next one two = record {
  client = λ gave. two.client (one.client gave);
  channel = two.channel ∙ one.channel;
  agent = λ j none. two.agent j (one.agent j none);
}

up_gives : (count : ℕ) (c : ChainValue) (a : AgentValue) → GivesAt c a (delivered_up count c a)
up_gives count c a = by_channel c.channel refl
  where
    came : ℕ → Both
    came k = came_up k count c a

    by_flag : (flag : Bool) (k : ℕ) → c.channel ≡ Some k → GivesAt c a (cond flag (came_up k count c a) (both c a))
    by_flag true k is =
        let next : ChainValue = record c { route = arrived_up count c.route } in
        let agent = parts_delivered k (arriving count (flight_up c.route)) a in
        record { client = λ gave. carry_gives.client next agent gave; channel = carry_gives.channel next agent; agent = λ j none. came_none k count c a j is none }
    by_flag false k is = gives_none c a

    by_channel : (channel : Option ℕ) → c.channel ≡ channel → GivesAt c a (delivered_to channel count c a)
    by_channel None is = gives_none c a
    by_channel (Some k) is = by_flag (takes_up k c a) k is

giving_so : (step : ChainValue → AgentValue → Both) → ((c : ChainValue) (a : AgentValue) → GivesAt c a (step c a)) → IsGiving step
giving_so step gives = record {
  client = λ c a gave. (gives c a).client gave;
  channel = λ c a. (gives c a).channel;
  agent = λ c a j none. (gives c a).agent j none;
}

pub over_gives : (hop count : ℕ) → IsGiving (delivered_over hop count)
over_gives hop count = giving_so (delivered_over hop count) (λ c a. by_flag c a (hop == last_of c.route))
  where
    by_flag : (c : ChainValue) (a : AgentValue) (flag : Bool) → GivesAt c a (cond flag (delivered_up count c a) (both (record c { route = way_delivered Below hop count c.route }) a))
    by_flag c a true = up_gives count c a
    by_flag c a false = record { client = λ gave. gave; channel = refl; agent = λ j none. none }

pieces_give : (n : ℕ) (b : Both) → GivesAt b.chain b.agent (pieces_up n b)
pieces_give zero b = record { client = λ gave. gave; channel = refl; agent = λ j none. none }
pieces_give (suc n) b =
    let next = delivered_up most_bytes b.chain b.agent in gives_then b.chain b.agent next (pieces_up n next) (up_gives most_bytes b.chain b.agent) (pieces_give n next)

pub all_up_gives : IsGiving all_up
all_up_gives = giving_so all_up (λ c a. pieces_give (size_in (flight_up c.route)) (both c a))

-- a hop is cut
client_gone : (channel : Option (EndValue ℕ)) → queue_of (option_map (λ e. unless_spent e e (bytes_ended e)) channel) ≡ queue_of channel
client_gone None = refl
client_gone (Some e) = ended_queue e

from_gone : (channel : Option ℕ) (a : AgentValue) (j : ℕ) → NoneAt a j → NoneAt (ended_from channel a) j
from_gone None a j none = none
from_gone (Some k) a j none = ended_none j k a none

pub cut_gives : (hop : ℕ) → IsGiving (cut hop)
cut_gives hop = giving_so (cut hop) (λ c a. by_pair c a (route.cut hop c.route))
  where
    by_flags : (first last : Bool) (c : ChainValue) (a : AgentValue) (q : RouteValue)
        → GivesAt c a (both (cond first (record c { route = q; client = client_ended c.client }) (record c { route = q })) (cond last (ended_from c.channel a) a))
    by_flags true true c a q = record { client = λ gave. client_gone c.client.channel ∙ gave; channel = refl; agent = λ j none. from_gone c.channel a j none }
    by_flags true false c a q = record { client = λ gave. client_gone c.client.channel ∙ gave; channel = refl; agent = λ j none. none }
    by_flags false true c a q = record { client = λ gave. gave; channel = refl; agent = λ j none. from_gone c.channel a j none }
    by_flags false false c a q = record { client = λ gave. gave; channel = refl; agent = λ j none. none }

    by_pair : (c : ChainValue) (a : AgentValue) (x : Bool × RouteValue) → GivesAt c a (cut_by hop x c a)
    by_pair c a (false, q) = gives_none c a
    by_pair c a (true, q) = by_flags (hop == 0) (hop == last_of q) c a q

-- ---- The steps of a chain that the agent has no part in

pub gave_up : (c : ChainValue) → ClientGave (carried_up c)
gave_up c = client_none c.client.channel c.client

pub record IsGivingUp (change : ChainValue → ChainValue) : Type 0 where
  pub client : (c : ChainValue) → ClientGave c → ClientGave (change c)
  pub channel : (c : ChainValue) → (change c).channel ≡ c.channel

pub sent_gives : (service name body : List ℕ) → IsGivingUp (sent service name body)
sent_gives service name body = record { client = λ c gave. gave_up (record c { client = client_sent service name body c.client }); channel = λ c. refl }

pub closed_gives : IsGivingUp closed
closed_gives = record { client = λ c gave. gave_up (record c { client = client_closed c.client }); channel = λ c. refl }

pub turned_gives : IsGivingUp turned_down
turned_gives = record { client = λ c gave. gave_up (record c { client = (client_turned c.client).1 }); channel = λ c. refl }

pub asked_gives : (what : CachedWhat) → IsGivingUp (asked what)
asked_gives what = record { client = λ c gave. gave; channel = λ c. refl }

pub to_add_gives : (side : Side) (add : ℕ) → IsGivingUp (all_to_add side add)
to_add_gives side add = record { client = λ c gave. gave; channel = λ c. refl }

record GivesUpAt (c next : ChainValue) : Type 0 where
  client : ClientGave c → ClientGave next
  channel : next.channel ≡ c.channel

up_then : (c next last : ChainValue) → GivesUpAt c next → GivesUpAt next last → GivesUpAt c last
up_then c next last one two = record { client = λ gave. two.client (one.client gave); channel = two.channel ∙ one.channel }

down_gives : (count : ℕ) (c : ChainValue) → GivesUpAt c (delivered_down count c)
down_gives count c = by_flag (takes_down c)
  where
    by_flag : (flag : Bool) → GivesUpAt c (cond flag (carried_up (came_down count c)) c)
    by_flag true = record { client = λ gave. gave_up (came_down count c); channel = refl }
    by_flag false = record { client = λ gave. gave; channel = refl }

pub under_gives : (hop count : ℕ) → IsGivingUp (delivered_under hop count)
under_gives hop count = record { client = λ c gave. (by_flag c (hop == 0)).client gave; channel = λ c. (by_flag c (hop == 0)).channel }
  where
    by_flag : (c : ChainValue) (flag : Bool) → GivesUpAt c (cond flag (delivered_down count c) (record c { route = way_delivered Above (hop - 1) count c.route }))
    by_flag c true = down_gives count c
    by_flag c false = record { client = λ gave. gave; channel = refl }

pieces_down_give : (n : ℕ) (c : ChainValue) → GivesUpAt c (pieces_down n c)
pieces_down_give zero c = record { client = λ gave. gave; channel = refl }
pieces_down_give (suc n) c =
    up_then c (delivered_down most_bytes c) (pieces_down n (delivered_down most_bytes c)) (down_gives most_bytes c) (pieces_down_give n (delivered_down most_bytes c))

turns_give : (n : ℕ) (c : ChainValue) → GivesUpAt c (turns_down n c)
turns_give zero c = record { client = λ gave. gave; channel = refl }
turns_give (suc n) c = up_then c (turned_down c) (turns_down n (turned_down c)) (record { client = λ gave. turned_gives.client c gave; channel = refl }) (turns_give n (turned_down c))

taken_at : (c : ChainValue) → GivesUpAt c (all_taken_down (all_down c))
taken_at c =
    let down = all_down c in
    up_then c down (all_taken_down down) (pieces_down_give (size_in (flight_down c.route)) c) (turns_give (waiting_on down.client.channel) down)

pub taken_gives : IsGivingUp (λ c. all_taken_down (all_down c))
taken_gives = record { client = λ c gave. (taken_at c).client gave; channel = λ c. (taken_at c).channel }

-- ---- A world

abbrev pub AgentGave : AgentValue → ChainValue → Type 0
AgentGave a c = (k : ℕ) → c.channel ≡ Some k → NoneAt a k

pub record GaveAll (w : WorldValue) : Type 0 where
  pub clients : AllByRecursion ClientGave w.chains
  pub agents : AllByRecursion (AgentGave w.agent) w.chains

agents_kept : (a next : AgentValue) (chains : List ChainValue) → ((j : ℕ) → NoneAt a j → NoneAt next j) → AllByRecursion (AgentGave a) chains → AllByRecursion (AgentGave next) chains
agents_kept a next chains keeps all = all_map (AgentGave a) (AgentGave next) chains (λ c gave k is. keeps k (gave k is)) all

pub with_agent_gives : (step : ChainValue → AgentValue → Both) (at : ℕ) → IsGiving step → (w : WorldValue) → GaveAll w → GaveAll (with_agent step at w)
with_agent_gives step at gives w g = by_place (slice_get w.chains at) refl
  where
    by_place : (there : Option ChainValue) → slice_get w.chains at ≡ there → GaveAll (with_some step at there w)
    by_place None is = g
    by_place (Some c) is =
        let b = step c w.agent in
        record {
          clients = all_set ClientGave at w.chains b.chain (gives.client c w.agent (all_at ClientGave at w.chains c is g.clients)) g.clients;
          agents = all_set (AgentGave b.agent) at w.chains b.chain
              (λ k on. gives.agent c w.agent k (all_at (AgentGave w.agent) at w.chains c is g.agents k (sym (gives.channel c w.agent) ∙ on)))
              (agents_kept w.agent b.agent w.chains (gives.agent c w.agent) g.agents);
        }

chain_gives : (at : ℕ) (c next : ChainValue) (w : WorldValue) → slice_get w.chains at ≡ Some c → ClientGave next → next.channel ≡ c.channel → GaveAll w → GaveAll (with_chain at next w)
chain_gives at c next w is gave same g = record {
  clients = all_set ClientGave at w.chains next gave g.clients;
  agents = all_set (AgentGave w.agent) at w.chains next (λ k on. all_at (AgentGave w.agent) at w.chains c is g.agents k (sym same ∙ on)) g.agents;
}

pub on_chain_gives : (change : ChainValue → ChainValue) (at : ℕ) → IsGivingUp change → (w : WorldValue) → GaveAll w → GaveAll (on_chain change at w)
on_chain_gives change at gives w g = by_place (slice_get w.chains at) refl
  where
    by_place : (there : Option ChainValue) → slice_get w.chains at ≡ there → GaveAll (on_some change at there w)
    by_place None is = g
    by_place (Some c) is = chain_gives at c (change c) w is (gives.client c (all_at ClientGave at w.chains c is g.clients)) (gives.channel c) g

-- ---- What the agent queued for each chain is in flight

carried_clients : (chains : List ChainValue) (a : AgentValue) → AllByRecursion ClientGave chains → AllByRecursion ClientGave (all_carried chains a).chains
carried_clients [] a all = tt
carried_clients (c ∷ chains) a all = (carry_gives.client c a all.0, carried_clients chains (carried_down c a).agent all.1)

carried_keeps : (chains : List ChainValue) (a : AgentValue) (j : ℕ) → NoneAt a j → NoneAt (all_carried chains a).agent j
carried_keeps [] a j none = none
carried_keeps (c ∷ chains) a j none = carried_keeps chains (carried_down c a).agent j (carry_gives.agent c a j none)

carried_agents : (chains : List ChainValue) (a : AgentValue) → AllByRecursion (AgentGave (all_carried chains a).agent) (all_carried chains a).chains
carried_agents [] a = tt
carried_agents (c ∷ chains) a = (
  λ k is. carried_keeps chains (carried_down c a).agent k (carried_own c a k (sym (carry_gives.channel c a) ∙ is)),
  carried_agents chains (carried_down c a).agent,
)

pub carried_gives : (w : WorldValue) → AllByRecursion ClientGave w.chains → GaveAll (carried w)
unfolding carried
carried_gives w all = record { clients = carried_clients w.chains w.agent all; agents = carried_agents w.chains w.agent }

pub input_gives : (input : Option Input) (w : WorldValue) → AllByRecursion ClientGave w.chains → GaveAll (carried (with_input input w))
input_gives None w all = carried_gives w all
input_gives (Some input) w all = carried_gives (with_input (Some input) w) all

-- ---- The way of a chain has reached the agent

module _ (at : ℕ) (c d : ChainValue) (w : WorldValue) (there : slice_get w.chains at ≡ Some c) (g : GaveAll w) where
  abbrev middle : WorldValue
  middle = with_chain at d w

  found_there : slice_get middle.chains at ≡ Some d
  found_there = get_set at w.chains d c there

  refused_gives : GaveAll (on_chain none_reached at middle)
  refused_gives =
      let next = none_reached d in
      let changed : on_chain none_reached at middle ≡ with_chain at next w =
      ap (λ o. on_some none_reached at o middle) found_there ∙ ap (λ chains. record w { chains = chains }) (set_twice at w.chains d next) in
      subst GaveAll (sym changed)
      (record {
        clients = all_set ClientGave at w.chains next (gave_up d) g.clients;
        agents = all_set (AgentGave w.agent) at w.chains next (λ k on. absurd (none-some k on)) g.agents;
      })

  reached_so : (k : ℕ) → GaveAll (reached_with k at middle)
  unfolding reached
  reached_so k =
      let next = (reached k d w.agent).chain in
      let clients : AllByRecursion ClientGave (slice_set middle.chains at next) =
      subst (AllByRecursion ClientGave) (sym (set_twice at w.chains d next)) (all_set ClientGave at w.chains next (gave_up d) g.clients) in
      subst (λ o. GaveAll (reached_from k at o middle)) (sym found_there)
      (input_gives (opening (agent_opened k w.agent).0 k) (record (with_both at (reached k d w.agent) middle) { next = after_number k }) clients)

  by_next : (next : Option ℕ) → GaveAll (reached_by next at middle)
  by_next None = refused_gives
  by_next (Some k) = reached_so k

  reached_gives : GaveAll (reached_at at (with_chain at d w))
  reached_gives = by_next w.next

connected_gives : (at : ℕ) (c : ChainValue) (w : WorldValue) → slice_get w.chains at ≡ Some c → GaveAll w → GaveAll (connected_at at c w)
connected_gives at c w there g = by_pair (connected 0 c.route)
  where
    by_pair : (x : Bool × RouteValue) → GaveAll (reached_if at (opened_by x (record c { client = client_opened c.client })) w)
    by_pair (true, q) = reached_gives at c (record c { client = client_opened c.client; route = q }) w there g
    by_pair (false, q) = chain_gives at c (carried_up (record c { client = client_opened c.client; route = q })) w there (gave_up (record c { client = client_opened c.client; route = q })) refl g

pub opened_gives : (at : ℕ) (w : WorldValue) → GaveAll w → GaveAll (opened_at at w)
opened_gives at w g = by_place (slice_get w.chains at) refl
  where
    by_flag : (c : ChainValue) (flag : Bool) → slice_get w.chains at ≡ Some c → GaveAll (cond flag w (connected_at at c w))
    by_flag c true there = g
    by_flag c false there = connected_gives at c w there g

    by_place : (there : Option ChainValue) → slice_get w.chains at ≡ there → GaveAll (opened_from at there w)
    by_place None is = g
    by_place (Some c) is = by_flag c (is_opened c) is

pub add_gives : (at add : ℕ) (side : Side) (w : WorldValue) → GaveAll w → GaveAll (add_turned at add side (slice_get w.chains at) w)
add_gives at add side w g = by_place (slice_get w.chains at) refl
  where
    by_pair : (c : ChainValue) (x : Bool × RouteValue) → slice_get w.chains at ≡ Some c → GaveAll (reached_if at (with_route x c) w)
    by_pair c (true, q) there = reached_gives at c (record c { route = q }) w there g
    by_pair c (false, q) there = chain_gives at c (record c { route = q }) w there (all_at ClientGave at w.chains c there g.clients) refl g

    by_place : (there : Option ChainValue) → slice_get w.chains at ≡ there → GaveAll (add_turned at add side there w)
    by_place None is = g
    by_place (Some c) is = by_pair c (way_turned side add c.route) is

-- ---- The first world

first_clients : (adds : List ℕ) → AllByRecursion ClientGave (new_chains adds)
first_clients [] = tt
first_clients (n ∷ adds) = (refl, first_clients adds)

first_agents : (a : AgentValue) (adds : List ℕ) → AllByRecursion (AgentGave a) (new_chains adds)
first_agents a [] = tt
first_agents a (n ∷ adds) = (λ k is. absurd (none-some k is), first_agents a adds)

pub first_gave : (w : WorldValue) (adds : List ℕ) → w.chains ≡ new_chains adds → GaveAll w
first_gave w adds is = record { clients = subst (AllByRecursion ClientGave) (sym is) (first_clients adds); agents = subst (AllByRecursion (AgentGave w.agent)) (sym is) (first_agents w.agent adds) }
