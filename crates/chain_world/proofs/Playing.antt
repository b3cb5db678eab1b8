-- What holds of a world holds after every schedule.
use Rattle.std.proofs.Common.{◌≡◌, ℕ, zero, suc, ◌+◌, ◌-◌, ◌==◌, ◌&&◌, Bool, true, false, cond, nat_lt, List, [], ◌∷◌, length, Option, Some, None, refl, sym, ap, ◌∙◌, subst, inl, eq-eqb}
use Rattle.std.specs.Prelude.{IfSome, slice_get}
use Rattle.std.specs.List.{AllByRecursion, list_any}
use Rattle.std.proofs.lemmas.Bool.{or_left, or_right}
use Rattle.agent_node.specs.Agent.{ticked}
use Rattle.agent_node.specs.AgentValue.{AgentValue}
use Rattle.agent_node.specs.Runs.{AgentRun, Call as AgentCall, Past, no_calls, run_of}
use Rattle.channel_core.specs.EndValue.{EndValue}
use Rattle.target_contexts.specs.declared.process.Image.{Image}
use Rattle.tcf_schedules.specs.Plan.{Plan, cached, close, cut as cut_plan, deliver, opens, rounds as rounds_plan, send, tick, times, turn}
use Rattle.value_node.specs.declared.states.Side.{Side}
use Rattle.value_node.specs.declared.states.Side.TheVariants.{Below, Above}
use Rattle.client_node.specs.Client.{waiting_on}
use Rattle.chain_route.specs.Lane.{size_in}
use Rattle.chain_route.specs.Passing.{most_bytes}
use Rattle.chain_route.specs.Route.{delivered_at as way_delivered, flight_down, last_of, new_route}
use Rattle.chain_route.specs.Runs.{delivers, no_calls as way_begun}
use Rattle.chain_world.specs.Chain.{Both, all_down, all_taken_down, all_up, asked, came_down, carried_up, channels_of, closed, cut, delivered_down, delivered_over, delivered_under, is_opened, pieces_down, queue_of, sent, takes_down, turned_down, turned_on, turning, turns_down}
use Rattle.chain_world.specs.ChainValue.{ChainValue}
use Rattle.chain_world.specs.Past as notes
use Rattle.chain_world.specs.Past.{BothPast, ChainPast, WorldRun, new_run, no_past}
use Rattle.chain_world.specs.Remembering.{StandsBy, StandsByItsPast}
use Rattle.chain_world.specs.Standing.{AreNumbered, closes_at, cuts_at, past_at}
use Rattle.chain_world.specs.World.{IsPlayable, add_turned, adds_in, agent_turned, all_to_add, delivered_at, new_chains, new_world, on_chain, repeated, tick_of, turned_at, turned_down_at, turned_up_at, waiting_at_add, waiting_in_chain, with_agent}
use Rattle.chain_world.specs.WorldValue.{WorldValue}
use Rattle.chain_world.proofs.Agents.{Reached, has_queue}
use Rattle.chain_world.proofs.Chains.{all_fits, all_to_add_fits, asked_fits, closed_fits, delivered_fits, delivers_fits, fresh_client, sent_fits, turned_fits}
use Rattle.chain_world.proofs.Clients.{IsFreshIn}
use Rattle.chain_world.proofs.Fitting.{AllFit, Fits, GaveOut, place_of}
use Rattle.chain_world.proofs.Following.{world_is_played}
use Rattle.chain_world.proofs.Gave.{AgentGave, ClientGave, GaveAll, IsGiving, IsGivingUp, NoneAt, add_gives, all_up_gives, asked_gives, closed_gives, cut_gives, first_gave, input_gives, on_chain_gives, opened_gives, over_gives, sent_gives, taken_gives, to_add_gives, turned_gives, under_gives, with_agent_gives}
use Rattle.chain_world.proofs.Keeping.{IsMove}
use Rattle.chain_world.proofs.Numbers.{all_channels}
use Rattle.chain_world.proofs.Opening.{add_stands, opened_stands}
use Rattle.chain_world.proofs.Steps.{all_up_move, cut_move, over_move}
use Rattle.chain_world.proofs.Worlds.{Standing, carried_stands, on_chain_stands, stands_so, tick_stands, turn_stands, with_agent_stands}
use Rattle.list_laws.proofs.AllLists.{all_weaker as all_map}

-- ---- A step of a schedule

-- what it may call, some step of the schedule does
pub record IsAmong (plans : List Plan) (plan : Plan) : Type 0 where
  pub closing : (at : ℕ) → closes_at at plan ≡ true → list_any (closes_at at) plans ≡ true
  pub cutting : (at hop : ℕ) → cuts_at at hop plan ≡ true → list_any (cuts_at at hop) plans ≡ true

among_first : (plan : Plan) (plans : List Plan) → IsAmong (plan ∷ plans) plan
among_first plan plans = record {
  closing = λ at is. or_left (closes_at at plan) (list_any (closes_at at) plans) is;
  cutting = λ at hop is. or_left (cuts_at at hop plan) (list_any (cuts_at at hop) plans) is;
}

among_later : (first : Plan) (plans : List Plan) (plan : Plan) → IsAmong plans plan → IsAmong (first ∷ plans) plan
among_later first plans plan a = record {
  closing = λ at is. or_right (closes_at at first) (list_any (closes_at at) plans) (a.closing at is);
  cutting = λ at hop is. or_right (cuts_at at hop first) (list_any (cuts_at at hop) plans) (a.cutting at hop is);
}

pub all_among : (plans : List Plan) → AllByRecursion (IsAmong plans) plans
all_among [] = tt
all_among (plan ∷ plans) = (among_first plan plans, all_map (IsAmong plans) (IsAmong (plan ∷ plans)) plans (among_later plan plans) (all_among plans))

-- ---- What stays the channels of a chain

either_channels : (flag : Bool) (one other : ChainValue) → channels_of one ≡ channels_of other → channels_of (cond flag one other) ≡ channels_of other
either_channels true one other same = same
either_channels false one other same = refl

down_channels : (count : ℕ) (c : ChainValue) → channels_of (delivered_down count c) ≡ channels_of c
down_channels count c = either_channels (takes_down c) (carried_up (came_down count c)) c refl

under_channels : (hop count : ℕ) (c : ChainValue) → channels_of (delivered_under hop count c) ≡ channels_of c
under_channels hop count c =
    let other = record c { route = way_delivered Above (hop - 1) count c.route } in either_channels (hop == 0) (delivered_down count c) other (down_channels count c)

pieces_channels : (n : ℕ) (c : ChainValue) → channels_of (pieces_down n c) ≡ channels_of c
pieces_channels zero c = refl
pieces_channels (suc n) c = pieces_channels n (delivered_down most_bytes c) ∙ down_channels most_bytes c

turns_channels : (n : ℕ) (c : ChainValue) → channels_of (turns_down n c) ≡ channels_of c
turns_channels zero c = refl
turns_channels (suc n) c = turns_channels n (turned_down c)

taken_channels : (c : ChainValue) → channels_of (all_taken_down (all_down c)) ≡ channels_of c
taken_channels c = turns_channels (waiting_on (all_down c).client.channel) (all_down c) ∙ pieces_channels (size_in (flight_down c.route)) c

module _ (plans : List Plan) (images : List Image) (adds : List ℕ) where
  abbrev HoldsOf : WorldValue → notes.Past → Type 0
  HoldsOf w past = Standing plans images adds w past × GaveAll w

  abbrev Holds : WorldRun → Type 0
  Holds r = HoldsOf r.world r.past

  either : (flag : Bool) (one other : WorldValue) (first second : notes.Past) → HoldsOf one first → HoldsOf other second → HoldsOf (cond flag one other) (cond flag first second)
  either true one other first second s t = s
  either false one other first second s t = t

  either_run : (flag : Bool) (one other : WorldRun) → Holds one → Holds other → Holds (cond flag one other)
  either_run true one other s t = s
  either_run false one other s t = t

  -- ---- A step of one chain

  agent_step : (step : ChainValue → AgentValue → Both) (note : ChainValue → AgentValue → BothPast → BothPast) (at : ℕ) → IsMove images (place_of plans at) step note → IsGiving step → (w : WorldValue) (past : notes.Past)
      → HoldsOf w past → HoldsOf (with_agent step at w) (notes.with_agent note at w past)
  agent_step step note at move gives w past s = (with_agent_stands plans images adds step note at move w past s.0, with_agent_gives step at gives w s.1)

  chain_step : (change : ChainValue → ChainValue) (note : ChainValue → ChainPast → ChainPast) (at : ℕ)
      → ((pasts : List Past) (count : ℕ) (c : ChainValue) (kept : ChainPast) → Fits (place_of plans at) pasts count c kept → Fits (place_of plans at) pasts count (change c) (note c kept))
      → IsGivingUp change → ((c : ChainValue) → channels_of (change c) ≡ channels_of c) → (w : WorldValue) (past : notes.Past) → HoldsOf w past → HoldsOf (on_chain change at w) (notes.on_chain note at w past)
  chain_step change note at fits gives same w past s = (on_chain_stands plans images adds change note at fits same w past s.0, on_chain_gives change at gives w s.1)

  add_step : (at add : ℕ) (side : Side) (w : WorldValue) (past : notes.Past) → HoldsOf w past
      → HoldsOf (add_turned at add side (slice_get w.chains at) w) (notes.add_turned at add side (slice_get w.chains at) w past)
  add_step at add side w past s = (add_stands plans images adds at add side w past s.0, add_gives at add side w s.1)

  -- ---- Pieces

  under_fits : (at hop count : ℕ) (pasts : List Past) (n : ℕ) (c : ChainValue) (kept : ChainPast) → Fits (place_of plans at) pasts n c kept
      → Fits (place_of plans at) pasts n (delivered_under hop count c) (notes.delivered_under hop count c kept)
  under_fits at hop count pasts n c kept f = by_flag (hop == 0)
    where
      by_flag : (flag : Bool) → Fits (place_of plans at) pasts n (cond flag (delivered_down count c) (record c { route = way_delivered Above (hop - 1) count c.route }))
          (cond flag (notes.delivered_down count c kept) (notes.way_gets (delivers Above (hop - 1) count) kept))
      by_flag true = delivered_fits (place_of plans at) pasts n count c f
      by_flag false = delivers_fits (place_of plans at) pasts n Above (hop - 1) count c f

  delivered_stands : (at hop : ℕ) (up : Bool) (count : ℕ) (w : WorldValue) (past : notes.Past) → HoldsOf w past → HoldsOf (delivered_at at hop up count w) (notes.delivered_at at hop up count w past)
  delivered_stands at hop true count w past s = agent_step (delivered_over hop count) (notes.delivered_over hop count) at (over_move images (place_of plans at) hop count) (over_gives hop count) w past s
  delivered_stands at hop false count w past s = chain_step (delivered_under hop count) (notes.delivered_under hop count) at (under_fits at hop count) (under_gives hop count) (under_channels hop count) w past s

  -- ---- Turns

  agent_stands : (at : ℕ) (w : WorldValue) (past : notes.Past) → HoldsOf w past → HoldsOf (agent_turned at (slice_get w.chains at) w) (notes.agent_turned (slice_get w.chains at) w past)
  agent_stands at w past s = by_place (slice_get w.chains at)
    where
      by_place : (there : Option ChainValue) → HoldsOf (agent_turned at there w) (notes.agent_turned there w past)
      by_place None = s
      by_place (Some c) =
          let k = turning c.earlier c.channel w.agent in
          let next = turned_on k w.agent in
          (carried_stands plans images adds _ _ (turn_stands plans images adds k w past s.0), input_gives next.0 (record w { agent = next.1 }) s.1.clients)

  up_stands : (at node : ℕ) (w : WorldValue) (past : notes.Past) → HoldsOf w past → HoldsOf (turned_up_at at node w) (notes.turned_up_at at node w past)
  up_stands at node w past s =
      let there = slice_get w.chains at in
      let add = add_turned at (node - 1) Below there w in
      let last = agent_turned at there w in
      let add_past = notes.add_turned at (node - 1) Below there w past in
      let last_past = notes.agent_turned there w past in
      let is_add = nat_lt (node - 1) (adds_in there) in
      either (node == 0) w (cond is_add add last) past (cond is_add add_past last_past) s
      (either is_add add last add_past last_past (add_step at (node - 1) Below w past s) (agent_stands at w past s))

  down_stands : (at node : ℕ) (w : WorldValue) (past : notes.Past) → HoldsOf w past → HoldsOf (turned_down_at at node w) (notes.turned_down_at at node w past)
  down_stands at node w past s =
      either (node == 0) (on_chain turned_down at w) (add_turned at (node - 1) Above (slice_get w.chains at) w)
      (notes.on_chain notes.turned_down at w past) (notes.add_turned at (node - 1) Above (slice_get w.chains at) w past)
      (chain_step turned_down notes.turned_down at (λ pasts n c kept f. turned_fits (place_of plans at) pasts n c f) turned_gives (λ c. refl) w past s) (add_step at (node - 1) Above w past s)

  turned_stands : (at node : ℕ) (up : Bool) (w : WorldValue) (past : notes.Past) → HoldsOf w past → HoldsOf (turned_at at node up w) (notes.turned_at at node up w past)
  turned_stands at node true w past s = up_stands at node w past s
  turned_stands at node false w past s = down_stands at node w past s

  -- ---- Rounds

  repeated_stands : (n : ℕ) (step : WorldRun → WorldRun) → ((r : WorldRun) → Holds r → Holds (step r)) → (r : WorldRun) → Holds r → Holds (repeated n step r)
  repeated_stands zero step each r s = s
  repeated_stands (suc n) step each r s = repeated_stands n step each (step r) (each r s)

  rounded_stands : (at add : ℕ) (side : Side) (r : WorldRun) → Holds r → Holds (notes.add_rounded at add side r)
  rounded_stands at add side r s =
      let next : WorldRun = notes.steps (on_chain (all_to_add side add) at) (notes.on_chain (notes.all_to_add side add) at) r in
      repeated_stands (waiting_at_add side add (slice_get next.world.chains at)) (notes.turn_of_add at add side) (λ v t. add_step at add side v.world v.past t) next
      (chain_step (all_to_add side add) (notes.all_to_add side add) at (λ pasts n c kept f. all_to_add_fits (place_of plans at) pasts n side add c f) (to_add_gives side add) (λ c. refl) r.world r.past s)

  ups_stand : (n add at : ℕ) (r : WorldRun) → Holds r → Holds (notes.adds_rounded n add at r)
  ups_stand zero add at r s = s
  ups_stand (suc n) add at r s = ups_stand n (add + 1) at (notes.add_rounded at add Below r) (rounded_stands at add Below r s)

  downs_stand : (n at : ℕ) (r : WorldRun) → Holds r → Holds (notes.rounded_down n at r)
  downs_stand zero at r s = s
  downs_stand (suc n) at r s = downs_stand n at (notes.add_rounded at n Above r) (rounded_stands at n Above r s)

  round_up_stands : (at : ℕ) (r : WorldRun) → Holds r → Holds (notes.rounded_up at r)
  round_up_stands at r s =
      let n = adds_in (slice_get r.world.chains at) in
      let next : WorldRun = notes.adds_rounded n 0 at r in
      agent_step all_up notes.all_up at (all_up_move images (place_of plans at)) all_up_gives next.world next.past (ups_stand n 0 at r s)

  taken_stands : (at : ℕ) (r : WorldRun) → Holds r → Holds (notes.agent_taken at r)
  taken_stands at r s = repeated_stands (waiting_in_chain (slice_get r.world.chains at) r.world) (notes.turn_of_agent at) (λ v t. agent_stands at v.world v.past t) r s

  round_of_stands : (at : ℕ) (r : WorldRun) → Holds r → Holds (notes.round_of at r)
  round_of_stands at r s =
      let up = notes.rounded_up at r in
      let taken = notes.agent_taken at up in
      let down = notes.all_round_down at taken in
      chain_step (λ c. all_taken_down (all_down c)) notes.all_taken_down at (λ pasts n c kept f. all_fits (place_of plans at) pasts n c f) taken_gives taken_channels down.world down.past
      (downs_stand (adds_in (slice_get taken.world.chains at)) at taken (taken_stands at up (round_up_stands at r s)))

  round_at_stands : (at : ℕ) (r : WorldRun) → Holds r → Holds (notes.round_at at r)
  round_at_stands at r s = by_place (slice_get r.world.chains at)
    where
      by_place : (there : Option ChainValue) → Holds (notes.round_from at there r)
      by_place None = s
      by_place (Some c) = either_run (is_opened c) (notes.round_of at r) r (round_of_stands at r s) s

  round_all_stands : (n at : ℕ) (r : WorldRun) → Holds r → Holds (notes.round_all n at r)
  round_all_stands zero at r s = s
  round_all_stands (suc n) at r s = round_all_stands n (at + 1) (notes.round_at at r) (round_at_stands at r s)

  rounds_stand : (n : ℕ) (r : WorldRun) → Holds r → Holds (notes.rounds n r)
  rounds_stand zero r s = s
  rounds_stand (suc n) r s = rounds_stand n (notes.round_all (length r.world.chains) 0 r) (round_all_stands (length r.world.chains) 0 r s)

  -- ---- Every step

  played_stands : (plan : Plan) → IsAmong plans plan → IsPlayable plan → (r : WorldRun) → Holds r → Holds (notes.played plan r)
  played_stands (opens at) among playable r s = (opened_stands plans images adds at r.world r.past s.0, opened_gives at r.world s.1)
  played_stands (send at service name body) among playable r s =
      chain_step (sent service name body) (notes.sent service name body) at (λ pasts n c kept f. sent_fits (place_of plans at) pasts n service name body c playable f) (sent_gives service name body) (λ c. refl) r.world r.past s
  played_stands (deliver at hop up count) among playable r s = delivered_stands at hop up count r.world r.past s
  played_stands (turn at node up) among playable r s = turned_stands at node up r.world r.past s
  played_stands (tick thread) among playable r s =
      let w = r.world in
      let next = ticked thread w.agent in (tick_stands plans images adds thread w r.past s.0, input_gives (tick_of next.0 thread) (record w { agent = next.1 }) s.1.clients)
  played_stands (close at) among playable r s =
      let may = among.closing at (eq-eqb at at refl) in
      chain_step closed notes.closed at (λ pasts n c kept f. closed_fits (place_of plans at) pasts n c may f) closed_gives (λ c. refl) r.world r.past s
  played_stands (cut_plan at hop) among playable r s =
      let is : cuts_at at hop (cut_plan at hop) ≡ true = ap (λ b. b && (hop == hop)) (eq-eqb at at refl) ∙ eq-eqb hop hop refl in
      agent_step (cut hop) (notes.cut hop) at (cut_move images (place_of plans at) hop (among.cutting at hop is)) (cut_gives hop) r.world r.past s
  played_stands (cached at what) among playable r s =
      chain_step (asked what) (notes.asked what) at (λ pasts n c kept f. asked_fits (place_of plans at) pasts n what c f) (asked_gives what) (λ c. refl) r.world r.past s
  played_stands (rounds_plan count) among playable r s = rounds_stand count r s
  played_stands (times count plan) among playable r s =
      repeated_stands count (notes.played plan) (played_stands plan (record { closing = among.closing; cutting = among.cutting }) playable.1) r s

  run_stands : (steps : List Plan) → AllByRecursion (IsAmong plans) steps → AllByRecursion IsPlayable steps → (r : WorldRun) → Holds r → Holds (notes.run steps r)
  run_stands [] among playable r s = s
  run_stands (plan ∷ steps) among playable r s = run_stands steps among.1 playable.1 (notes.played plan r) (played_stands plan among.0 playable.0 r s)

-- ---- The first world

never_waits : (flag : Bool) → cond flag false false ≡ false
never_waits true = refl
never_waits false = refl

abbrev none_kept : List ℕ → List ChainPast
none_kept adds = (no_past adds).chains

first_chains : (plans : List Plan) (from : ℕ) (adds : List ℕ) → AllFit plans [] from adds (new_chains adds) (none_kept adds)
first_chains plans from [] = tt
first_chains plans from (n ∷ adds) = (
  record {
    now = way_begun n;
    way = record { may = tt; is = refl };
    agrees = record { client = refl; allowed = tt; route = refl; gave = refl; got = refl; lost = refl; talks = inl (refl, refl); talked = tt };
    unwanted = refl;
    settled = never_waits (last_of (new_route n) == 0);
    opened = refl;
  },
  first_chains plans (suc from) adds,
)

no_channels : (adds : List ℕ) → all_channels (new_chains adds) ≡ []
no_channels [] = refl
no_channels (n ∷ adds) = no_channels adds

first_stands : (plans : List Plan) (images : List Image) (adds : List ℕ) → Standing plans images adds (new_world images adds) (no_past adds)
first_stands plans images adds = record {
  run = no_calls images;
  reached = record { is = refl };
  agent = refl;
  history = refl;
  chains = first_chains plans 0 adds;
  numbered = subst (AreNumbered (Some 0) []) (sym (no_channels adds)) (record { differ = tt; below = tt; owned = tt });
}

-- ---- Each world

module _ (images : List Image) where
  gave_client : (channel : Option (EndValue ℕ)) → IsFreshIn channel → queue_of channel ≡ [] → IfSome channel (λ e. e.queued ≡ [])
  gave_client None fresh none = tt
  gave_client (Some e) fresh none = sym (ap (λ b. cond b [] e.queued) fresh) ∙ none

  gave_agent : {calls : List AgentCall} → (k : ℕ) (r : AgentRun) → Reached images calls r → NoneAt r.agent k → IfSome (past_at k r.channels) (λ p. (run_of p).end.queued ≡ [])
  gave_agent k r reached none = by_past (past_at k r.channels) refl
    where
      by_past : (there : Option Past) → past_at k r.channels ≡ there → IfSome there (λ p. (run_of p).end.queued ≡ [])
      by_past None is = tt
      by_past (Some past) is = (has_queue images k r reached).past past is ∙ none

  gave_out : {calls : List AgentCall} → (plans : List Plan) (r : AgentRun) (agent : AgentValue) (at : ℕ) (adds : List ℕ) (chains : List ChainValue) (kept : List ChainPast) → Reached images calls r → r.agent ≡ agent
      → AllFit plans r.channels at adds chains kept → AllByRecursion ClientGave chains → AllByRecursion (AgentGave agent) chains → AllByRecursion (GaveOut r.channels) chains
  gave_out plans r agent at [] [] kept reached same all clients agents = tt
  gave_out plans r agent at [] (c ∷ chains) kept reached same all clients agents = absurd all
  gave_out plans r agent at (n ∷ adds) [] kept reached same all clients agents = absurd all
  gave_out plans r agent at (n ∷ adds) (c ∷ chains) [] reached same all clients agents = absurd all
  gave_out plans r agent at (n ∷ adds) (c ∷ chains) (one ∷ kept) reached same all clients agents = (
    record {
      client = gave_client c.client.channel (fresh_client (place_of plans at) r.channels n c.client one.calls all.0.agrees.client) clients.0;
      agent = λ k is. gave_agent k r reached (subst (λ a. NoneAt a k) (sym same) (agents.0 k is));
    },
    gave_out plans r agent (suc at) adds chains kept reached same all.1 clients.1 agents.1,
  )

pub always_stands : StandsByItsPast
always_stands images adds plans playable =
    let first = new_run images adds in
    let r = notes.run plans first in
    let h : Standing plans images adds r.world r.past × GaveAll r.world =
    run_stands plans images adds plans (all_among plans) playable first (first_stands plans images adds, first_gave (new_world images adds) adds refl) in
    subst (λ w. StandsBy plans images adds w r.past) (world_is_played images adds plans)
    (stands_so plans images adds r.world r.past h.0
    (gave_out images plans h.0.run r.world.agent 0 adds r.world.chains r.past.chains h.0.reached h.0.agent h.0.chains h.1.clients h.1.agents))
