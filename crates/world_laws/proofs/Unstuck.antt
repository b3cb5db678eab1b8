-- A chain on which nothing is under way: no command is pending or held at an open end of it.
use Rattle.std.proofs.Common.{◌≡◌, ℕ, Bool, true, false, List, [], ◌∷◌, ◌++◌, length, map, unwrap_or, Option, Some, None, option_map, IfSome, is_some, refl, sym, ap, ◌∙◌, subst}
use Rattle.std.specs.List.{AllByRecursion, filter, list_any}
use Rattle.agent_node.specs.AgentLaws.{AgentFollowsHistory, IsEndOf}
use Rattle.agent_node.specs.Channels.{channel_end}
use Rattle.agent_node.specs.Strangers.{HasNoStranger}
use Rattle.agent_node.specs.Runs.{AgentRun, Past, run_of as run_of_past}
use Rattle.channel_list.specs.declared.channel.Channel.{Channel}
use Rattle.node_answers.specs.AgentAnswering.{ServesAll}
use Rattle.chain_quiet.specs.Stuck.{AddIsStill, HopIsStill, IsFreeAbove, IsStill, IsUnstuck, IsWayStill}
use Rattle.chain_route.specs.Carrying.{Carries, GivesAll, Made, past_of, value_of}
use Rattle.chain_route.specs.Passing.{queue_of}
use Rattle.chain_route.specs.RouteValue.{RouteValue}
use Rattle.chain_route.specs.Runs.{RouteRun}
use Rattle.chain_route.specs.Taking.{AllTakeAll, AreBound, TakesAllOf}
use Rattle.chain_world.proofs.Agents.{none_any}
use Rattle.chain_world.proofs.Pasts.{at_all}
use Rattle.chain_world.specs.Chain.{is_quiet}
use Rattle.chain_world.specs.ChainValue.{ChainValue}
use Rattle.chain_world.specs.Standing.{ChainStands, past_at}
use Rattle.channel_core.specs.Arrivals.{AreSpoken, Spoken, all_said}
use Rattle.channel_core.specs.Closing.{is_closed}
use Rattle.channel_core.specs.EndValue.{EndValue}
use Rattle.channel_core.specs.QueueLaws.{is_message}
use Rattle.channel_laws.specs.Asking.{WaitsForNothing}
use Rattle.channel_laws.specs.Meeting.{IsFree, Side, run_of}
use Rattle.client_node.specs.Client.{new_client, pending_on}
use Rattle.client_node.specs.Ends.{IsEndAfter, client_end, end_calls}
use Rattle.client_node.specs.Runs.{Call as ClientCall}
use Rattle.target_contexts.specs.declared.process.Image.{Image}
use Rattle.target_hub.specs.Sent.{agent_services}
use Rattle.tcf_schedules.specs.Plan.{Plan}
use Rattle.tcf_text.specs.Once.{AllAnswered, Once, is_end}
use Rattle.value_node.specs.Passing.{Upper}
use Rattle.value_node.specs.RelayLaws.{EndsAreRuns}
use Rattle.value_node.specs.Runs.{UpperCall, after_all as add_after, below, no_calls as add_begun, upper_after}
use Rattle.value_node.specs.Value.{awaits, value_services}
use Rattle.node_answers.specs.Lacking.{is_closed_on}
use Rattle.world_laws.specs.WorldLaws.{AddLacksNothing, ChainLacksNothing, LacksNothing}
use Rattle.chain_quiet.proofs.TheLaws.{still_ways_are_unstuck}
use Rattle.channel_laws.proofs.TheLaws.{asks_nothing_waits_for_nothing}
use Rattle.node_answers.proofs.TheLaws.{answered_where_none_pends, ends_where_closed}
use Rattle.value_node.proofs.TheLaws.{asks_nothing_below, ends_are_runs}
use Rattle.world_laws.proofs.Ended.{answered_at_end}
use Rattle.world_laws.proofs.Joined.{joined_where_reached}
use Rattle.world_laws.proofs.Served.{channel_served}
use Rattle.world_laws.proofs.Sides.{adds_are, agent_is, client_end_is, client_readable, client_side, hops_carry, way, way_carries}
use Rattle.world_laws.proofs.Silent.{at_number}
use Rattle.world_laws.proofs.Still.{AddTookAll, ChainIsStill, NoneWaits, chain_still}

-- ---- What was taken

-- where the agent was reached and all value-adds are bound, the client took all that was said above it, and so did each value-add
abbrev pub AllTook : List ClientCall → RouteRun → List Made → Type 0
AllTook calls way made =
    way.past.is_reached ≡ true → AreBound made → (said : List Spoken) → AreSpoken said → filter is_message way.past.agent.gave ≡ all_said said → TakesAllOf (client_end calls) made said × AllTakeAll made said

-- ---- Value-adds

abbrev Ends : Option (List UpperCall) → Option Upper
Ends connection = option_map (λ calls. (upper_after calls).end) connection

upper_still : (connection : Option (List UpperCall)) (upper : Option Upper) → upper ≡ Ends connection → IfSome upper NoneWaits → queue_of upper ≡ [] → IfSome connection (λ calls. IsStill (upper_after calls))
upper_still None upper is taken gives = tt
upper_still (Some calls) upper is taken gives =
    let waits : NoneWaits (upper_after calls).end = subst (λ o. IfSome o NoneWaits) is taken in
    record { queued = ap queue_of (sym is) ∙ gives; inbox = waits.inbox; stop = waits.stop }

-- an end that is free where it is open has none pending and holds none there
upper_lacks : (connection : Option (List UpperCall)) (upper : Option Upper) → upper ≡ Ends connection
    → (is_closed (upper_after (unwrap_or connection [])).end.state ≡ false → IfSome connection (λ calls. IsFree (upper_after calls))) → IfSome upper LacksNothing
upper_lacks None upper is free = subst (λ o. IfSome o LacksNothing) (sym is) tt
upper_lacks (Some calls) upper is free =
    let lacks : LacksNothing (upper_after calls).end = record { pending = λ opened. (free opened).pending; held = λ opened. (free opened).held } in
    subst (λ o. IfSome o LacksNothing) (sym is) lacks

add_runs : (m : Made) → EndsAreRuns (add_after m.calls (add_begun m.peer))
add_runs m = ends_are_runs m.peer m.calls

add_still : (m : Made) → AddTookAll (value_of m) → GivesAll (value_of m) → awaits (value_of m).relay ≡ false → AddIsStill m
add_still m taken gives none =
    let runs = add_runs m in
    record {
      lower = record {
        queued = ap (λ e. e.queued) (sym runs.lower) ∙ gives.below;
        inbox = ap (λ e. e.inbox) (sym runs.lower) ∙ taken.lower.inbox;
        stop = ap (λ e. e.stop) (sym runs.lower) ∙ taken.lower.stop;
      };
      upper = upper_still (past_of m).connection (value_of m).relay.upper runs.upper taken.upper gives.above;
      awaits_none = none;
    }

adds_still : (made : List Made) → AllByRecursion AddTookAll (map value_of made) → AllByRecursion GivesAll (map value_of made) → AllByRecursion (λ v. awaits v.relay ≡ false) (map value_of made) → AllByRecursion AddIsStill made
adds_still [] taken gives none = tt
adds_still (m ∷ made) taken gives none = (add_still m taken.0 gives.0 none.0, adds_still made taken.1 gives.1 none.1)

add_lacks : (m : Made) → IsFreeAbove m → AddLacksNothing (value_of m)
add_lacks m free =
    let runs = add_runs m in
    let waits : WaitsForNothing (below (past_of m)) = asks_nothing_waits_for_nothing value_services None ((past_of m).until_bound ++ (past_of m).since_bound) (asks_nothing_below m.peer m.calls) in
    record {
      lower = record { pending = λ opened. ap (λ e. e.pending) runs.lower ∙ waits.pending; held = λ opened. ap (λ e. e.held) runs.lower ∙ waits.held };
      upper = upper_lacks (past_of m).connection (value_of m).relay.upper runs.upper free;
    }

adds_lack : (made : List Made) → AllByRecursion IsFreeAbove made → AllByRecursion AddLacksNothing (map value_of made)
adds_lack [] free = tt
adds_lack (m ∷ made) free = (add_lacks m free.0, adds_lack made free.1)

-- ---- The chain at this moment

module _ (images : List Image) (r : AgentRun) (follows : AgentFollowsHistory images r) (serves : AllByRecursion ServesAll r.channels) (plans : List Plan) (at adds : ℕ) (chain : ChainValue)
    (s : ChainStands plans r.channels at adds chain) (quiet : is_quiet chain r.agent ≡ true) where
  abbrev run : RouteRun
  run = way r.channels plans at adds chain s

  abbrev carries : Carries s.ways run
  carries = way_carries r.channels plans at adds chain s

  abbrev client : Side ℕ
  client = client_side r.channels plans at adds chain s

  still : ChainIsStill chain r.agent
  still = chain_still chain r.agent quiet

  made_still : AllByRecursion AddIsStill carries.made
  made_still =
      adds_still carries.made (subst (AllByRecursion AddTookAll) (adds_are r.channels plans at adds chain s) still.adds) (subst (AllByRecursion GivesAll) carries.adds carries.given)
      (subst (AllByRecursion (λ v. awaits v.relay ≡ false)) carries.adds (carries.none_awaits s.settled))

  way_still : IsWayStill client run.route.hops carries.made run.past.agent
  way_still = record {
    sends = client_readable r.channels plans at adds chain s;
    hops_are = subst (λ (route : RouteValue). AllByRecursion HopIsStill route.hops) s.way still.hops;
    adds = made_still;
    carries = hops_carry r.channels plans at adds chain s;
    served = λ live. channel_served images r follows chain.channel run.past.agent still.last (agent_is r.channels plans at adds chain s serves live);
  }

  pub unstuck_way : IsUnstuck client carries.made run.past.agent
  unstuck_way = still_ways_are_unstuck client run.route.hops carries.made run.past.agent way_still

  -- ---- The client

  by_end : (channel : Option (EndValue ℕ)) → IfSome channel (λ e. e.queued ≡ []) → IfSome channel NoneWaits → IsEndAfter channel (end_calls s.calls new_client) → IfSome channel (λ e. (e ≡ (run_of client).end) × IsStill (run_of client))
  by_end None given waits is = tt
  by_end (Some e) given waits is =
      (is, record { queued = ap (λ x. x.queued) (sym is) ∙ given; inbox = ap (λ x. x.inbox) (sym is) ∙ waits.inbox; stop = ap (λ x. x.stop) (sym is) ∙ waits.stop })

  client_stands : IfSome chain.client.channel (λ e. (e ≡ (run_of client).end) × IsStill (run_of client))
  client_stands = by_end chain.client.channel s.given still.client (client_end_is r.channels plans at adds chain s)

  lacks_by : (channel : Option (EndValue ℕ)) → IfSome channel (λ e. (e ≡ (run_of client).end) × IsStill (run_of client)) → IfSome channel LacksNothing
  lacks_by None stands = tt
  lacks_by (Some e) stands =
      let free : is_closed e.state ≡ false → IsFree (run_of client) = λ opened. unstuck_way.free stands.1 (ap (λ x. is_closed x.state) (sym stands.0) ∙ opened) in
      record { pending = λ opened. ap (λ x. x.pending) stands.0 ∙ (free opened).pending; held = λ opened. ap (λ x. x.held) stands.0 ∙ (free opened).held }

  client_lacks : IfSome chain.client.channel LacksNothing
  client_lacks = lacks_by chain.client.channel client_stands

  pub chain_lacks : ChainLacksNothing chain
  chain_lacks = record {
    client = client_lacks;
    adds = subst (AllByRecursion AddLacksNothing) (sym (adds_are r.channels plans at adds chain s)) (adds_lack carries.made unstuck_way.adds);
  }

  -- each command that it accepted has its answer
  pub all_answered : Once false chain.client.log → AllAnswered chain.client.log
  all_answered once = by_channel chain.client.channel client_lacks refl
    where
      none_pends : pending_on chain.client.channel ≡ 0 → AllAnswered chain.client.log
      none_pends = subst (λ c. pending_on c.channel ≡ 0 → AllAnswered c.log) (sym s.client) (answered_where_none_pends s.calls)

      by_flag : (e : EndValue ℕ) (flag : Bool) → is_closed e.state ≡ flag → LacksNothing e → chain.client.channel ≡ Some e → AllAnswered chain.client.log
      by_flag e true closed lacks is =
          let c = chain.client in
          let ended : list_any is_end c.log ≡ is_closed_on c.channel = subst (λ x. list_any is_end x.log ≡ is_closed_on x.channel) (sym s.client) (ends_where_closed s.calls) in
          answered_at_end c.log once.all_at_end once.nothing_after (ended ∙ ap is_closed_on is ∙ closed)
      by_flag e false opened lacks is = none_pends (ap pending_on is ∙ ap length (lacks.pending opened))

      by_channel : (channel : Option (EndValue ℕ)) → IfSome channel LacksNothing → chain.client.channel ≡ channel → AllAnswered chain.client.log
      by_channel None lacks is = none_pends (ap pending_on is)
      by_channel (Some e) lacks is = by_flag e (is_closed e.state) refl lacks is

  -- ---- What it took, where the way reached the agent and its log has no end

  by_log : (channel : Option (EndValue ℕ)) → is_some channel ≡ true → is_closed_on channel ≡ false → IfSome channel (λ e. (e ≡ (run_of client).end) × IsStill (run_of client)) → IsStill (run_of client) × (is_closed (run_of client).end.state ≡ false)
  by_log None some opened stands = absurd cc
  by_log (Some e) some opened stands = (stands.1, ap (λ x. is_closed x.state) (sym stands.0) ∙ opened)

  pub all_took : list_any is_end chain.client.log ≡ false → AllTook s.calls run carries.made
  all_took none reached bound said formed gave =
      let some : is_some chain.client.channel ≡ true = s.opened ∙ joined_where_reached adds s.ways reached in
      let ended : list_any is_end chain.client.log ≡ is_closed_on chain.client.channel = subst (λ c. list_any is_end c.log ≡ is_closed_on c.channel) (sym s.client) (ends_where_closed s.calls) in
      let open_now = by_log chain.client.channel some (sym ended ∙ none) client_stands in
      unstuck_way.all_taken open_now.0 open_now.1 bound said formed gave

-- ---- The agent's channels

module _ (images : List Image) (r : AgentRun) (follows : AgentFollowsHistory images r) (serves : AllByRecursion ServesAll r.channels) (strangers : HasNoStranger r) where
  channel_lacks : (c : Channel) → channel_end c.number r.agent.channels ≡ Some c.end → LacksNothing c.end
  channel_lacks c is = by_past (past_at c.number r.channels) refl
    where
      by_past : (there : Option Past) → past_at c.number r.channels ≡ there → LacksNothing c.end
      by_past None none = let nothing : channel_end c.number r.agent.channels ≡ None = strangers c.number (none_any c.number r.channels none) in absurd cc
      by_past (Some past) some =
          let number : past.number ≡ c.number = at_number c.number r.channels past some in
          let here : IsEndOf (channel_end past.number r.agent.channels) past = at_all (λ p. IsEndOf (channel_end p.number r.agent.channels) p) c.number r.channels past follows.ends some in
          let end : c.end ≡ (run_of_past past).end = subst (λ o. IsEndOf o past) (ap (λ n. channel_end n r.agent.channels) number ∙ is) here in
          let all : ServesAll past = at_all ServesAll c.number r.channels past serves some in
          let waits : WaitsForNothing (run_of_past past) = asks_nothing_waits_for_nothing agent_services (Some past.position) past.calls all.asks_nothing in
          record { pending = λ opened. ap (λ e. e.pending) end ∙ waits.pending; held = λ opened. ap (λ e. e.held) end ∙ waits.held }

  pub channels_lack : (cs : List Channel) → AllByRecursion (λ c. channel_end c.number r.agent.channels ≡ Some c.end) cs → AllByRecursion (λ c. LacksNothing c.end) cs
  channels_lack [] each = tt
  channels_lack (c ∷ cs) each = (channel_lacks c each.0, channels_lack cs each.1)
