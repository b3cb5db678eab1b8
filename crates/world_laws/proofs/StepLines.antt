-- The lines of a log that tell of the steps of a schedule: a step that asks a client adds its one line, and no
-- other step adds one.
use Rattle.std.proofs.Common.{◌≡◌, ℕ, zero, suc, ◌+◌, ◌-◌, ◌==◌, Bool, true, false, cond, nat_lt, nat_le, List, [], ◌∷◌, ◌++◌, length, map, filter, Option, Some, None, Result, Ok, refl, sym, ap, ◌∙◌, subst, append-nil, append_assoc, eqb-true}
use Rattle.std.specs.Prelude.{slice_get, slice_set}
use Rattle.std.specs.List.{AllZip, flat_map, repeat}
use Rattle.std.proofs.lemmas.Bool.{eqb-false}
use Rattle.std.proofs.lemmas.List.Concat.{flat_map-cons}
use Rattle.std.proofs.lemmas.List.Elements.{filter-append}
use Rattle.agent_node.specs.Agent as agent
use Rattle.agent_node.specs.Agent.{ticked}
use Rattle.agent_node.specs.AgentValue.{AgentValue}
use Rattle.channel_core.specs.Closing.{closed_own, is_closed}
use Rattle.channel_core.specs.EndValue.{EndValue}
use Rattle.channel_core.specs.Sending.{last_token, most_pending, refusal_of}
use Rattle.channel_core.specs.Taking.{next_taken}
use Rattle.channel_core.specs.declared.sending.SendRefusal.{SendRefusal}
use Rattle.channel_core.specs.declared.sending.SendRefusal.TheVariants as refusals
use Rattle.channel_core.specs.declared.states.Cause.{Cause}
use Rattle.channel_core.specs.declared.states.Cause.TheVariants.{Own}
use Rattle.channel_core.specs.declared.taking.Taken.{Taken}
use Rattle.channel_core.specs.declared.taking.Taken.TheVariants as taken
use Rattle.client_log.specs.Cached.{cached_value}
use Rattle.client_log.specs.Lessons.{lessons}
use Rattle.chain_route.specs.Lane.{arriving, size_in}
use Rattle.chain_route.specs.Passing.{most_bytes}
use Rattle.chain_route.specs.Route as route
use Rattle.chain_route.specs.Route.{flight_down, flight_up, last_of, turned as route_turned}
use Rattle.chain_route.specs.RouteValue.{RouteValue}
use Rattle.channel_core.specs.declared.held.Outgoing.{Outgoing}
use Rattle.client_node.specs.Client.{came, closed as client_closed, closed_for, closed_lines, closed_on, ended as client_ended, noted, opened as client_opened, sent as client_sent, sent_by, sent_or_refused, took, turned as client_turned, turned_by, turned_on as client_turned_on, waiting_on, with_channel}
use Rattle.client_node.specs.ClientValue.{ClientValue}
use Rattle.client_node.specs.Lines.{end_of, event_line, final_line, hello_line, progress_line}
use Rattle.target_hub.specs.declared.input.Input.{Input}
use Rattle.tcf_message.specs.Message.{MessageValue, event, final, most_body, not_known, progress, reading}
use Rattle.tcf_message.specs.declared.message.MessageFault.{MessageFault}
use Rattle.tcf_schedules.specs.Plan.{Plan, cached, close, cut as cut_plan, deliver, opens, rounds as rounds_plan, send, tick, times, turn}
use Rattle.tcf_text.specs.declared.log.EndWhy.{EndWhy}
use Rattle.tcf_text.specs.declared.log.LogLine.{LogLine}
use Rattle.tcf_text.specs.declared.log.LogLine.TheVariants as lines
use Rattle.tcf_text.specs.declared.log.RefusedWhy.TheVariants as refused
use Rattle.value_node.specs.declared.states.Side.{Side}
use Rattle.value_node.specs.declared.states.Side.TheVariants.{Below, Above}
use Rattle.chain_world.specs.Chain.{Both, all_down, all_taken_down, all_up, asked, both, came_down, carried_down, carried_from, carried_up, closed, cut, cut_by, delivered_down, delivered_over, delivered_to, delivered_under, delivered_up, is_opened, none_reached, opened, opened_by, parts_came, pieces_down, pieces_up, reached, sent, takes_down, takes_up, turned_down, turned_on, turning, turns_down, all_dropped, came_up, parts_delivered}
use Rattle.chain_world.specs.ChainValue.{ChainValue}
use Rattle.chain_world.specs.World.{add_rounded, add_turned, adds_in, adds_rounded, after_number, agent_taken, agent_turned, all_carried, all_round_down, all_to_add, carried, connected_at, delivered_at, new_chains, new_world, on_chain, on_some, opened_from, opening, played, reached_by, reached_from, reached_if, repeated, round_all, round_at, round_from, round_of, rounded_down, rounded_up, rounds, run, tick_of, turn_of_add, turn_of_agent, turned_at, turned_up_at, waiting_at_add, waiting_in_chain, with_agent, with_both, with_chain, with_input, with_route, with_some}
use Rattle.chain_world.specs.WorldValue.{WorldValue}
use Rattle.list_laws.proofs.Lists.{get_set}
use Rattle.world_laws.specs.StepLaws.{IsLineOf, LogSaysSteps, asked_at, asks_at, tells_step, unrolled}

-- ---- The lines that a client adds

abbrev Told : ClientValue → List LogLine
Told c = filter tells_step c.log

abbrev IsOther : Option LogLine → Type 0
IsOther None = Unit {0}
IsOther (Some line) = tells_step line ≡ false

hello_other : (mark : Option ℕ) (m : Result MessageValue MessageFault) → IsOther (hello_line mark m)
hello_other mark (Ok (event service name body)) = refl
hello_other mark m = tt

event_other : (mark : Option ℕ) (m : Result MessageValue MessageFault) → IsOther (event_line mark m)
event_other mark (Ok (event service name body)) = refl
event_other mark m = tt

progress_other : (number : ℕ) (mark : Option ℕ) (m : Result MessageValue MessageFault)
    → IsOther (progress_line number mark m)
progress_other number mark (Ok (progress token body)) = refl
progress_other number mark m = tt

final_other : (number : ℕ) (mark : Option ℕ) (m : Result MessageValue MessageFault)
    → IsOther (final_line number mark m)
final_other number mark (Ok (final token body)) = refl
final_other number mark (Ok (not_known token)) = refl
final_other number mark m = tt

passed : (log more : List LogLine) → filter tells_step more ≡ []
    → filter tells_step (log ++ more) ≡ filter tells_step log
passed log more none =
    filter-append tells_step log more ∙ ap (λ ls. filter tells_step log ++ ls) none
    ∙ append-nil (filter tells_step log)

noted_same : (line : Option LogLine) (c : ClientValue) → IsOther line → Told (noted line c) ≡ Told c
noted_same None c other = refl
noted_same (Some line) c other = passed c.log (line ∷ []) (ap (λ b. cond b (line ∷ []) []) other)

none_closes : (pending : List (ℕ × ℕ)) (why : EndWhy)
    → filter tells_step (map (λ (row : ℕ × ℕ). lines.Closed row.1) pending ++ lines.Ended why ∷ []) ≡ []
none_closes [] why = refl
none_closes (row ∷ pending) why = none_closes pending why

closed_same : (cause : Cause) (e : EndValue ℕ) (c : ClientValue) → Told (closed_for cause e c) ≡ Told c
closed_same cause e c = passed c.log (closed_lines cause e.pending) (none_closes e.pending (end_of cause))

took_same : (what : Taken ℕ) (e : EndValue ℕ) (c : ClientValue) → Told (took what e c) ≡ Told c
took_same (taken.Hello incoming) e c =
    noted_same (hello_line incoming.mark (reading incoming.raw)) (with_channel e c) (hello_other incoming.mark (reading incoming.raw))
took_same (taken.Event incoming) e c =
    noted_same (event_line incoming.mark (reading incoming.raw)) (with_channel e c) (event_other incoming.mark (reading incoming.raw))
took_same (taken.Command incoming) e c = refl
took_same (taken.Progress number incoming) e c =
    noted_same (progress_line number incoming.mark (reading incoming.raw)) (with_channel e c) (progress_other number incoming.mark (reading incoming.raw))
took_same (taken.Final number incoming) e c =
    noted_same (final_line number incoming.mark (reading incoming.raw)) (with_channel e c) (final_other number incoming.mark (reading incoming.raw))
took_same (taken.Closed cause) e c = closed_same cause e c

turned_same : (c : ClientValue) → Told (client_turned c).1 ≡ Told c
turned_same c = by_channel c.channel
  where
    by_next : (next : Option (Taken ℕ) × EndValue ℕ) → Told (turned_by next c).1 ≡ Told c
    by_next (None, e) = refl
    by_next (Some what, e) = took_same what e c

    by_channel : (channel : Option (EndValue ℕ)) → Told (client_turned_on channel c).1 ≡ Told c
    by_channel None = refl
    by_channel (Some e) = by_next (next_taken e)

own_same : (c : ClientValue) → Told (client_closed c) ≡ Told c
own_same c = by_channel c.channel
  where
    by_flag : (flag : Bool) (e : EndValue ℕ) → Told (cond flag c (closed_for Own (closed_own e) c)) ≡ Told c
    by_flag true e = refl
    by_flag false e = closed_same Own (closed_own e) c

    by_channel : (channel : Option (EndValue ℕ)) → Told (closed_on channel c) ≡ Told c
    by_channel None = refl
    by_channel (Some e) = by_flag (is_closed e.state) e

-- ---- A command has its line, since memory isn't wanting

-- one line more, which tells of a step
record HasLine (step : Plan) (before after : List LogLine) : Type 0 where
  line : LogLine
  added : after ≡ before ++ line ∷ []
  tells : tells_step line ≡ true
  is : IsLineOf step line

refusal_line : (chain size : ℕ) (service name body : List ℕ) (e : EndValue ℕ) (c : ClientValue) (refusal : Option SendRefusal)
    → refusal_of size e ≡ refusal
    → HasLine (send chain service name body) c.log (sent_or_refused refusal e service name body c).log
refusal_line chain size service name body e c None is =
    record { line = lines.Sent (e.last + 1) service name body; added = refl; tells = refl; is = (refl, refl, refl) }
refusal_line chain size service name body e c (Some refusals.Full) is =
    record { line = lines.Refused refused.Full; added = refl; tells = refl; is = tt }
refusal_line chain size service name body e c (Some refusals.NotOpen) is =
    record { line = lines.Refused refused.NotOpen; added = refl; tells = refl; is = tt }
refusal_line chain size service name body e c (Some refusals.TooLong) is =
    record { line = lines.Refused refused.TooLong; added = refl; tells = refl; is = tt }
refusal_line chain size service name body e c (Some refusals.Spent) is =
    record { line = lines.Refused refused.Spent; added = refl; tells = refl; is = tt }
refusal_line chain size service name body e c (Some refusals.NoMemory) is =
    absurd (by_flags (is_closed e.state) (nat_lt most_body size) (nat_le most_pending (length e.pending)) (e.last == last_token) is)
  where
    by_flags : (a b c d : Bool)
        → cond a (Some refusals.NotOpen) (cond b (Some refusals.TooLong) (cond c (Some refusals.Full) (cond d (Some refusals.Spent) None))) ≡ Some refusals.NoMemory
        → ⊥
    by_flags true b c d is = absurd cc
    by_flags false true c d is = absurd cc
    by_flags false false true d is = absurd cc
    by_flags false false false true is = absurd cc
    by_flags false false false false is = absurd cc

sent_line : (chain : ℕ) (service name body : List ℕ) (c : ClientValue)
    → HasLine (send chain service name body) c.log (client_sent service name body c).log
sent_line chain service name body c = by_channel c.channel
  where
    by_channel : (channel : Option (EndValue ℕ))
        → HasLine (send chain service name body) c.log (sent_by channel service name body c).log
    by_channel None = record { line = lines.Refused refused.NotOpen; added = refl; tells = refl; is = tt }
    by_channel (Some e) =
        let size = length service + length name + length body in refusal_line chain size service name body e c (refusal_of size e) refl

-- ---- The chains

abbrev told : ChainValue → List LogLine
told chain = Told chain.client

abbrev all_told : WorldValue → List (List LogLine)
all_told w = map told w.chains

-- nothing more is told
abbrev IsSame : WorldValue → WorldValue → Type 0
IsSame w next = all_told next ≡ all_told w

from_told : (channel : Option ℕ) (c : ChainValue) (a : AgentValue)
    → told (carried_from channel c a).chain ≡ told c
from_told None c a = refl
from_told (Some k) c a = refl

down_told : (c : ChainValue) (a : AgentValue) → told (carried_down c a).chain ≡ told c
down_told c a = from_told c.channel c (all_dropped c.earlier a)

parts_told : (parts : List Outgoing) (c : ClientValue) → Told (parts_came parts c) ≡ Told c
parts_told [] c = refl
parts_told (part ∷ parts) c = parts_told parts (came part.bytes part.mark c)

piece_told : (count : ℕ) (c : ChainValue) → told (delivered_down count c) ≡ told c
piece_told count c = by_flag (takes_down c)
  where
    by_flag : (flag : Bool) → told (cond flag (carried_up (came_down count c)) c) ≡ told c
    by_flag true = parts_told (arriving count (flight_down c.route)) c.client
    by_flag false = refl

pieces_told : (n : ℕ) (c : ChainValue) → told (pieces_down n c) ≡ told c
pieces_told zero c = refl
pieces_told (suc n) c = pieces_told n (delivered_down most_bytes c) ∙ piece_told most_bytes c

turns_told : (n : ℕ) (c : ChainValue) → told (turns_down n c) ≡ told c
turns_told zero c = refl
turns_told (suc n) c = turns_told n (turned_down c) ∙ turned_same c.client

taken_told : (c : ChainValue) → told (all_taken_down (all_down c)) ≡ told c
taken_told c =
    turns_told (waiting_on (all_down c).client.channel) (all_down c)
    ∙ pieces_told (size_in (flight_down c.route)) c

under_told : (hop count : ℕ) (c : ChainValue) → told (delivered_under hop count c) ≡ told c
under_told hop count c = by_flag (hop == 0)
  where
    by_flag : (flag : Bool)
        → told (cond flag (delivered_down count c) (record c { route = route.delivered_at Above (hop - 1) count c.route })) ≡ told c
    by_flag true = piece_told count c
    by_flag false = refl

up_told : (count : ℕ) (c : ChainValue) (a : AgentValue) → told (delivered_up count c a).chain ≡ told c
up_told count c a = by_channel c.channel
  where
    by_flag : (flag : Bool) (k : ℕ) → told (cond flag (came_up k count c a) (both c a)).chain ≡ told c
    by_flag true k =
        from_told c.channel (record c { route = route.arrived_up count c.route }) (all_dropped c.earlier (parts_delivered k (arriving count (flight_up c.route)) a))
    by_flag false k = refl

    by_channel : (channel : Option ℕ) → told (delivered_to channel count c a).chain ≡ told c
    by_channel None = refl
    by_channel (Some k) = by_flag (takes_up k c a) k

over_told : (hop count : ℕ) (c : ChainValue) (a : AgentValue)
    → told (delivered_over hop count c a).chain ≡ told c
over_told hop count c a = by_flag (hop == last_of c.route)
  where
    by_flag : (flag : Bool)
        → told (cond flag (delivered_up count c a) (both (record c { route = route.delivered_at Below hop count c.route }) a)).chain ≡ told c
    by_flag true = up_told count c a
    by_flag false = refl

pieces_up_told : (n : ℕ) (b : Both) → told (pieces_up n b).chain ≡ told b.chain
pieces_up_told zero b = refl
pieces_up_told (suc n) b =
    pieces_up_told n (delivered_up most_bytes b.chain b.agent) ∙ up_told most_bytes b.chain b.agent

cut_told : (hop : ℕ) (c : ChainValue) (a : AgentValue) → told (cut hop c a).chain ≡ told c
cut_told hop c a = by_pair (route.cut hop c.route)
  where
    by_flag : (flag : Bool) (r : RouteValue)
        → told (cond flag (record c { route = r; client = client_ended c.client }) (record c { route = r })) ≡ told c
    by_flag true r = refl
    by_flag false r = refl

    by_pair : (x : Bool × RouteValue) → told (cut_by hop x c a).chain ≡ told c
    by_pair (false, r) = refl
    by_pair (true, r) = by_flag (hop == 0) r

reached_told : (k : ℕ) (c : ChainValue) (a : AgentValue) → told (reached k c a).chain ≡ told c
unfolding reached
reached_told k c a = refl

opened_told : (c : ChainValue) → told (opened c).1 ≡ told c
opened_told c = by_pair (route.connected 0 c.route)
  where
    by_pair : (x : Bool × RouteValue)
        → told (opened_by x (record c { client = client_opened c.client })).1 ≡ told c
    by_pair (true, r) = refl
    by_pair (false, r) = refl

-- ---- A world in which a chain changes

seen_same : {A B : Type 0} → (f : A → B) (at : ℕ) (xs : List A) (x y : A) → slice_get xs at ≡ Some x
    → f y ≡ f x → map f (slice_set xs at y) ≡ map f xs
seen_same f at [] x y is same = refl
seen_same f zero (z ∷ xs) x y is same =
    let here : z ≡ x = cc in ap (λ b. b ∷ map f xs) (same ∙ ap f (sym here))
seen_same f (suc at) (z ∷ xs) x y is same = ap (λ l. f z ∷ l) (seen_same f at xs x y is same)

chain_same : (at : ℕ) (c next : ChainValue) (w : WorldValue) → slice_get w.chains at ≡ Some c
    → told next ≡ told c → IsSame w (with_chain at next w)
chain_same at c next w is same = seen_same told at w.chains c next is same

on_same : (change : ChainValue → ChainValue) (at : ℕ) → ((c : ChainValue) → told (change c) ≡ told c)
    → (w : WorldValue) → IsSame w (on_chain change at w)
on_same change at keeps w = by_place (slice_get w.chains at) refl
  where
    by_place : (there : Option ChainValue) → slice_get w.chains at ≡ there
        → IsSame w (on_some change at there w)
    by_place None is = refl
    by_place (Some c) is = chain_same at c (change c) w is (keeps c)

agent_same : (change : ChainValue → AgentValue → Both) (at : ℕ)
    → ((c : ChainValue) (a : AgentValue) → told (change c a).chain ≡ told c) → (w : WorldValue)
    → IsSame w (with_agent change at w)
agent_same change at keeps w = by_place (slice_get w.chains at) refl
  where
    by_place : (there : Option ChainValue) → slice_get w.chains at ≡ there
        → IsSame w (with_some change at there w)
    by_place None is = refl
    by_place (Some c) is = seen_same told at w.chains c (change c w.agent).chain is (keeps c w.agent)

all_same : (chains : List ChainValue) (a : AgentValue)
    → map told (all_carried chains a).chains ≡ map told chains
all_same [] a = refl
all_same (c ∷ chains) a =
    ap (λ ls. told (carried_down c a).chain ∷ ls) (all_same chains (carried_down c a).agent)
    ∙ ap (λ l. l ∷ map told chains) (down_told c a)

carried_same : (w : WorldValue) → IsSame w (carried w)
unfolding carried
carried_same w = all_same w.chains w.agent

input_same : (input : Option Input) (w : WorldValue) → IsSame w (with_input input w)
input_same None w = refl
input_same (Some input) w = refl

tells_same : (input : Option Input) (w : WorldValue) → IsSame w (carried (with_input input w))
tells_same input w = carried_same (with_input input w) ∙ input_same input w

flag_same : (flag : Bool) (w one other : WorldValue) → IsSame w one → IsSame w other
    → IsSame w (cond flag one other)
flag_same true w one other first second = first
flag_same false w one other first second = second

-- ---- Connections

from_same : (k at : ℕ) (w : WorldValue) → IsSame w (reached_from k at (slice_get w.chains at) w)
from_same k at w = by_place (slice_get w.chains at) refl
  where
    by_place : (there : Option ChainValue) → slice_get w.chains at ≡ there
        → IsSame w (reached_from k at there w)
    by_place None is = refl
    by_place (Some c) is =
        let next : WorldValue = record (with_both at (reached k c w.agent) w) { next = after_number k } in
        tells_same (opening (agent.opened k w.agent).0 k) next ∙ seen_same told at w.chains c (reached k c w.agent).chain is (reached_told k c w.agent)

by_same : (next : Option ℕ) (at : ℕ) (w : WorldValue) → IsSame w (reached_by next at w)
by_same None at w = on_same none_reached at (λ c. refl) w
by_same (Some k) at w = from_same k at w

if_same : (at : ℕ) (c : ChainValue) (next : Bool × ChainValue) (w : WorldValue)
    → slice_get w.chains at ≡ Some c → told next.1 ≡ told c → IsSame w (reached_if at next w)
if_same at c (false, chain) w is same = chain_same at c chain w is same
if_same at c (true, chain) w is same =
    by_same w.next at (with_chain at chain w) ∙ chain_same at c chain w is same

opened_same : (at : ℕ) (w : WorldValue) → IsSame w (opened_from at (slice_get w.chains at) w)
opened_same at w = by_place (slice_get w.chains at) refl
  where
    by_place : (there : Option ChainValue) → slice_get w.chains at ≡ there → IsSame w (opened_from at there w)
    by_place None is = refl
    by_place (Some c) is =
        flag_same (is_opened c) w w (connected_at at c w) refl (if_same at c (opened c) w is (opened_told c))

-- ---- Turns

add_same : (at add : ℕ) (side : Side) (w : WorldValue)
    → IsSame w (add_turned at add side (slice_get w.chains at) w)
add_same at add side w = by_place (slice_get w.chains at) refl
  where
    by_place : (there : Option ChainValue) → slice_get w.chains at ≡ there
        → IsSame w (add_turned at add side there w)
    by_place None is = refl
    by_place (Some c) is = if_same at c (with_route (route_turned side add c.route) c) w is refl

turn_same : (at : ℕ) (w : WorldValue) → IsSame w (agent_turned at (slice_get w.chains at) w)
turn_same at w = by_place (slice_get w.chains at)
  where
    by_place : (there : Option ChainValue) → IsSame w (agent_turned at there w)
    by_place None = refl
    by_place (Some c) =
        let next = turned_on (turning c.earlier c.channel w.agent) w.agent in tells_same next.0 (record w { agent = next.1 })

up_same : (at node : ℕ) (w : WorldValue) → IsSame w (turned_up_at at node w)
up_same at node w =
    let there = slice_get w.chains at in
    let add = add_turned at (node - 1) Below there w in
    let last = agent_turned at there w in
    flag_same (node == 0) w w (cond (nat_lt (node - 1) (adds_in there)) add last) refl
    (flag_same (nat_lt (node - 1) (adds_in there)) w add last (add_same at (node - 1) Below w) (turn_same at w))

node_same : (at node : ℕ) (up : Bool) (w : WorldValue) → IsSame w (turned_at at node up w)
node_same at node true w = up_same at node w
node_same at node false w =
    flag_same (node == 0) w (on_chain turned_down at w) (add_turned at (node - 1) Above (slice_get w.chains at) w)
    (on_same turned_down at (λ c. turned_same c.client) w) (add_same at (node - 1) Above w)

delivered_same : (at hop : ℕ) (up : Bool) (count : ℕ) (w : WorldValue)
    → IsSame w (delivered_at at hop up count w)
delivered_same at hop true count w = agent_same (delivered_over hop count) at (over_told hop count) w
delivered_same at hop false count w = on_same (delivered_under hop count) at (under_told hop count) w

-- ---- Rounds

repeated_same : (n : ℕ) (step : WorldValue → WorldValue) → ((w : WorldValue) → IsSame w (step w))
    → (w : WorldValue) → IsSame w (repeated n step w)
repeated_same zero step each w = refl
repeated_same (suc n) step each w = repeated_same n step each (step w) ∙ each w

rounded_same : (at add : ℕ) (side : Side) (w : WorldValue) → IsSame w (add_rounded at add side w)
rounded_same at add side w =
    let next : WorldValue = on_chain (all_to_add side add) at w in
    repeated_same (waiting_at_add side add (slice_get next.chains at)) (turn_of_add at add side) (λ v. add_same at add side v) next ∙ on_same (all_to_add side add) at (λ c. refl) w

ups_same : (n add at : ℕ) (w : WorldValue) → IsSame w (adds_rounded n add at w)
ups_same zero add at w = refl
ups_same (suc n) add at w = ups_same n (add + 1) at (add_rounded at add Below w) ∙ rounded_same at add Below w

downs_same : (n at : ℕ) (w : WorldValue) → IsSame w (rounded_down n at w)
downs_same zero at w = refl
downs_same (suc n) at w = downs_same n at (add_rounded at n Above w) ∙ rounded_same at n Above w

round_up_same : (at : ℕ) (w : WorldValue) → IsSame w (rounded_up at w)
round_up_same at w =
    let adds = adds_in (slice_get w.chains at) in
    agent_same all_up at (λ c a. pieces_up_told (size_in (flight_up c.route)) (both c a)) (adds_rounded adds 0 at w) ∙ ups_same adds 0 at w

agent_taken_same : (at : ℕ) (w : WorldValue) → IsSame w (agent_taken at w)
agent_taken_same at w =
    repeated_same (waiting_in_chain (slice_get w.chains at) w) (turn_of_agent at) (turn_same at) w

round_of_same : (at : ℕ) (w : WorldValue) → IsSame w (round_of at w)
round_of_same at w =
    let up = rounded_up at w in
    let taken = agent_taken at up in
    on_same (λ c. all_taken_down (all_down c)) at taken_told (all_round_down at taken)
    ∙ downs_same (adds_in (slice_get taken.chains at)) at taken ∙ agent_taken_same at up ∙ round_up_same at w

round_at_same : (at : ℕ) (w : WorldValue) → IsSame w (round_at at w)
round_at_same at w = by_place (slice_get w.chains at)
  where
    by_place : (there : Option ChainValue) → IsSame w (round_from at there w)
    by_place None = refl
    by_place (Some c) = flag_same (is_opened c) w (round_of at w) w (round_of_same at w) refl

round_all_same : (n at : ℕ) (w : WorldValue) → IsSame w (round_all n at w)
round_all_same zero at w = refl
round_all_same (suc n) at w = round_all_same n (at + 1) (round_at at w) ∙ round_at_same at w

rounds_same : (n : ℕ) (w : WorldValue) → IsSame w (rounds n w)
rounds_same zero w = refl
rounds_same (suc n) w = rounds_same n (round_all (length w.chains) 0 w) ∙ round_all_same (length w.chains) 0 w

-- ---- What the chain at a place has told, and what comes to it

-- the lines of these steps, behind those before
record HasLines (steps : List Plan) (before after : List LogLine) : Type 0 where
  added : List LogLine
  are : after ≡ before ++ added
  tell : AllZip IsLineOf steps added

-- where there is a chain
abbrev Grows : List Plan → Option (List LogLine) → Option (List LogLine) → Type 0
Grows steps None None = Unit {0}
Grows steps (Some before) (Some after) = HasLines steps before after
Grows steps before after = ⊥

abbrev GrowsAt : ℕ → List Plan → WorldValue → WorldValue → Type 0
GrowsAt at steps w next = Grows steps (slice_get (all_told w) at) (slice_get (all_told next) at)

grows_none : (there : Option (List LogLine)) → Grows [] there there
grows_none None = tt
grows_none (Some ls) = record { added = []; are = sym (append-nil ls); tell = tt }

zip_append : {A B : Type 0} → (R : A → B → Type 0) (xs more : List A) (ys others : List B) → AllZip R xs ys
    → AllZip R more others → AllZip R (xs ++ more) (ys ++ others)
zip_append R [] more [] others one two = two
zip_append R [] more (y ∷ ys) others one two = absurd one
zip_append R (x ∷ xs) more [] others one two = absurd one
zip_append R (x ∷ xs) more (y ∷ ys) others one two = (one.0, zip_append R xs more ys others one.1 two)

grows_then : (steps more : List Plan) (one two three : Option (List LogLine)) → Grows steps one two
    → Grows more two three → Grows (steps ++ more) one three
grows_then steps more None None None first second = tt
grows_then steps more None None (Some c) first second = absurd second
grows_then steps more None (Some b) three first second = absurd first
grows_then steps more (Some a) None three first second = absurd first
grows_then steps more (Some a) (Some b) None first second = absurd second
grows_then steps more (Some a) (Some b) (Some c) first second = record {
  added = first.added ++ second.added;
  are = second.are ∙ ap (λ ls. ls ++ second.added) first.are ∙ append_assoc a first.added second.added;
  tell = zip_append IsLineOf steps more first.added second.added first.tell second.tell;
}

same_grows : (at : ℕ) (w next : WorldValue) → IsSame w next → GrowsAt at [] w next
same_grows at w next same =
    subst (λ ls. Grows [] (slice_get (all_told w) at) (slice_get ls at)) (sym same) (grows_none (slice_get (all_told w) at))

-- ---- A step that asks

line_told : (step : Plan) (before after : List LogLine) → HasLine step before after
    → HasLines (step ∷ []) (filter tells_step before) (filter tells_step after)
line_told step before after h = record {
  added = h.line ∷ [];
  are = ap (filter tells_step) h.added ∙ filter-append tells_step before (h.line ∷ []) ∙ ap (λ b. filter tells_step before ++ cond b (h.line ∷ []) []) h.tells;
  tell = (h.is, tt);
}

seen_there : {A B : Type 0} → (f : A → B) (at : ℕ) (xs : List A) (x : A) → slice_get xs at ≡ Some x
    → slice_get (map f xs) at ≡ Some (f x)
seen_there f at [] x is = absurd cc
seen_there f zero (z ∷ xs) x is = let here : z ≡ x = cc in ap (λ y. Some (f y)) here
seen_there f (suc at) (z ∷ xs) x is = seen_there f at xs x is

seen_none : {A B : Type 0} → (f : A → B) (at : ℕ) (xs : List A) → slice_get xs at ≡ None
    → slice_get (map f xs) at ≡ None
seen_none f at [] is = refl
seen_none f zero (z ∷ xs) is = absurd cc
seen_none f (suc at) (z ∷ xs) is = seen_none f at xs is

seen_elsewhere : {A B : Type 0} → (f : A → B) (at chain : ℕ) (xs : List A) (y : A) → (chain ≡ at → ⊥)
    → slice_get (map f (slice_set xs chain y)) at ≡ slice_get (map f xs) at
seen_elsewhere f at chain [] y apart = refl
seen_elsewhere f zero zero (z ∷ xs) y apart = absurd (apart refl)
seen_elsewhere f zero (suc chain) (z ∷ xs) y apart = refl
seen_elsewhere f (suc at) zero (z ∷ xs) y apart = refl
seen_elsewhere f (suc at) (suc chain) (z ∷ xs) y apart =
    seen_elsewhere f at chain xs y (λ same. apart (ap suc same))

module _ (step : Plan) (change : ChainValue → ChainValue) (each : (c : ChainValue) → HasLine step c.client.log (change c).client.log) where
  grows_there : (chain : ℕ) (w : WorldValue) → GrowsAt chain (step ∷ []) w (on_chain change chain w)
  grows_there chain w = by_place (slice_get w.chains chain) refl
    where
      by_place : (there : Option ChainValue) → slice_get w.chains chain ≡ there
          → GrowsAt chain (step ∷ []) w (on_some change chain there w)
      by_place None is = subst (λ o. Grows (step ∷ []) o o) (sym (seen_none told chain w.chains is)) tt
      by_place (Some c) is =
          let before = seen_there told chain w.chains c is in
          let after = seen_there told chain (slice_set w.chains chain (change c)) (change c) (get_set chain w.chains (change c) c is) in
          subst (λ o. Grows (step ∷ []) o (slice_get (map told (slice_set w.chains chain (change c))) chain)) (sym before)
          (subst (λ o. Grows (step ∷ []) (Some (told c)) o) (sym after) (line_told step c.client.log (change c).client.log (each c)))

  elsewhere_same : (at chain : ℕ) (w : WorldValue) → (chain ≡ at → ⊥)
      → slice_get (all_told (on_chain change chain w)) at ≡ slice_get (all_told w) at
  elsewhere_same at chain w apart = by_place (slice_get w.chains chain)
    where
      by_place : (there : Option ChainValue)
          → slice_get (all_told (on_some change chain there w)) at ≡ slice_get (all_told w) at
      by_place None = refl
      by_place (Some c) = seen_elsewhere told at chain w.chains (change c) apart

  asking_grows : (at chain : ℕ) (w : WorldValue)
      → GrowsAt at (cond (chain == at) (step ∷ []) []) w (on_chain change chain w)
  asking_grows at chain w = by_flag (chain == at) refl
    where
      by_flag : (flag : Bool) → (chain == at) ≡ flag
          → GrowsAt at (cond flag (step ∷ []) []) w (on_chain change chain w)
      by_flag true is =
          subst (λ n. GrowsAt n (step ∷ []) w (on_chain change chain w)) (eqb-true chain at is) (grows_there chain w)
      by_flag false is =
          subst (λ o. Grows [] (slice_get (all_told w) at) o) (sym (elsewhere_same at chain w (eqb-false chain at is)))
          (grows_none (slice_get (all_told w) at))

-- ---- Every step

filter_repeat : {A : Type 0} → (p : A → Bool) (n : ℕ) (xs : List A)
    → filter p (repeat n xs) ≡ repeat n (filter p xs)
filter_repeat p zero xs = refl
filter_repeat p (suc n) xs =
    filter-append p xs (repeat n xs) ∙ ap (λ ys. filter p xs ++ ys) (filter_repeat p n xs)

repeated_grows : (at : ℕ) (steps : List Plan) (step : WorldValue → WorldValue)
    → ((w : WorldValue) → GrowsAt at steps w (step w)) → (n : ℕ) (w : WorldValue)
    → GrowsAt at (repeat n steps) w (repeated n step w)
repeated_grows at steps step each zero w = grows_none (slice_get (all_told w) at)
repeated_grows at steps step each (suc n) w =
    grows_then steps (repeat n steps) (slice_get (all_told w) at) (slice_get (all_told (step w)) at) (slice_get (all_told (repeated n step (step w))) at)
    (each w) (repeated_grows at steps step each n (step w))

played_grows : (at : ℕ) (plan : Plan) (w : WorldValue)
    → GrowsAt at (filter (asks_at at) (unrolled plan)) w (played plan w)
played_grows at (opens chain) w = same_grows at w (played (opens chain) w) (opened_same chain w)
played_grows at (send chain service name body) w =
    asking_grows (send chain service name body) (sent service name body) (λ c. sent_line chain service name body c.client) at chain w
played_grows at (deliver chain hop up count) w =
    same_grows at w (played (deliver chain hop up count) w) (delivered_same chain hop up count w)
played_grows at (turn chain node up) w =
    same_grows at w (played (turn chain node up) w) (node_same chain node up w)
played_grows at (tick thread) w =
    let next = ticked thread w.agent in same_grows at w (played (tick thread) w) (tells_same (tick_of next.0 thread) (record w { agent = next.1 }))
played_grows at (close chain) w =
    same_grows at w (played (close chain) w) (on_same closed chain (λ c. own_same c.client) w)
played_grows at (cut_plan chain hop) w =
    same_grows at w (played (cut_plan chain hop) w) (agent_same (cut hop) chain (cut_told hop) w)
played_grows at (cached chain what) w =
    asking_grows (cached chain what) (asked what)
    (λ c. record { line = lines.Cached what (cached_value what (lessons c.client.log)); added = refl; tells = refl; is = refl }) at chain w
played_grows at (rounds_plan count) w = same_grows at w (played (rounds_plan count) w) (rounds_same count w)
played_grows at (times count plan) w =
    subst (λ steps. GrowsAt at steps w (repeated count (played plan) w)) (sym (filter_repeat (asks_at at) count (unrolled plan)))
    (repeated_grows at (filter (asks_at at) (unrolled plan)) (played plan) (played_grows at plan) count w)

run_grows : (at : ℕ) (plans : List Plan) (w : WorldValue) → GrowsAt at (asked_at at plans) w (run plans w)
run_grows at [] w = grows_none (slice_get (all_told w) at)
run_grows at (plan ∷ plans) w =
    let first = filter (asks_at at) (unrolled plan) in
    let parts : asked_at at (plan ∷ plans) ≡ first ++ asked_at at plans =
    ap (filter (asks_at at)) (flat_map-cons unrolled plan plans) ∙ filter-append (asks_at at) (unrolled plan) (flat_map unrolled plans) in
    let next = played plan w in
    subst (λ steps. GrowsAt at steps w (run plans next)) (sym parts)
    (grows_then first (asked_at at plans) (slice_get (all_told w) at) (slice_get (all_told next) at) (slice_get (all_told (run plans next)) at)
    (played_grows at plan w) (run_grows at plans next))

-- ---- From the first world on

nothing_told : (at : ℕ) (adds : List ℕ) (ls : List LogLine)
    → slice_get (map told (new_chains adds)) at ≡ Some ls → ls ≡ []
nothing_told at [] ls is = absurd cc
nothing_told zero (n ∷ adds) ls is = cc
nothing_told (suc at) (n ∷ adds) ls is = nothing_told at adds ls is

says : (steps : List Plan) (before : Option (List LogLine)) (after : List LogLine)
    → ((ls : List LogLine) → before ≡ Some ls → ls ≡ []) → Grows steps before (Some after)
    → AllZip IsLineOf steps after
says steps None after none grows = absurd grows
says steps (Some ls) after none grows =
    subst (AllZip IsLineOf steps) (sym (grows.are ∙ ap (λ l. l ++ grows.added) (none ls refl))) grows.tell

pub log_says_steps : LogSaysSteps
log_says_steps images adds plans playable at chain is =
    let first = new_world images adds in
    let w = run plans first in
    says (asked_at at plans) (slice_get (all_told first) at) (told chain) (nothing_told at adds)
    (subst (λ o. Grows (asked_at at plans) (slice_get (all_told first) at) o) (seen_there told at w.chains chain is) (run_grows at plans first))
