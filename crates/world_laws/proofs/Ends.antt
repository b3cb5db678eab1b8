-- For what the ends of a world close: those of its clients, of its value-adds and of its agent.
use Rattle.std.proofs.Common.{◌≡◌, ℕ, zero, suc, ◌+◌, ◌-◌, ◌<◌, ◌≤◌, inl, inr, Bool, true, false, List, [], ◌∷◌, length, Option, Some, None, refl, sym, ap, ◌∙◌, subst, arith, append-nil}
use Rattle.std.specs.Prelude.{slice_get, ◌^◌}
use Rattle.std.specs.List.{AllByRecursion, Contains, flat_map, list_any}
use Rattle.std.proofs.lemmas.Bool.{true≢false}
use Rattle.std.proofs.lemmas.List.{length-map}
use Rattle.agent_node.specs.AgentLaws.{AgentFollowsHistory}
use Rattle.agent_node.specs.AgentValue.{AgentValue}
use Rattle.agent_node.specs.Runs.{AgentRun, Past, after_all as agent_after, no_calls as agent_begun, run_of}
use Rattle.node_answers.specs.AgentAnswering.{ServesAll}
use Rattle.chain_route.specs.Carrying.{AllCarry, AllLoseByCuts, Carries, End, Made}
use Rattle.chain_route.specs.Runs.{RouteRun}
use Rattle.chain_route.specs.declared.hop.Hop.{Hop}
use Rattle.chain_through.specs.Calling.{Calls, all_asking, entering, greeting}
use Rattle.chain_through.specs.Endings.{EndsSoundly, IsSound, MayComeDown}
use Rattle.chain_through.specs.Through.{top_end}
use Rattle.chain_world.proofs.Agents.{none_any}
use Rattle.chain_world.proofs.Pasts.{at_all}
use Rattle.chain_world.specs.Chain.{channels_of}
use Rattle.chain_world.specs.ChainValue.{ChainValue}
use Rattle.chain_world.specs.Standing.{AllStand, ChainStands, MayBeCalled, Stands, Talks, TalksOn, past_at}
use Rattle.chain_world.specs.World.{new_world, run}
use Rattle.chain_world.specs.WorldValue.{WorldValue}
use Rattle.channel_core.specs.Arrivals.{Spoken, arrived, bytes_of, queue_of}
use Rattle.channel_core.specs.ReceivingLaws.{EndsFor}
use Rattle.channel_core.specs.RunLaws.{sent_of}
use Rattle.channel_core.specs.Runs.{Call as EndCall, Run}
use Rattle.channel_core.specs.declared.held.Outgoing.{Outgoing}
use Rattle.channel_core.specs.declared.states.Cause.{Cause}
use Rattle.channel_core.specs.declared.states.Cause.TheVariants as causes
use Rattle.channel_core.specs.declared.taking.Taken.{Taken}
use Rattle.channel_core.specs.declared.taking.Taken.TheVariants as taken
use Rattle.channel_laws.specs.Faults.{is_closing}
use Rattle.client_node.specs.Client.{client_services, new_client}
use Rattle.client_node.specs.Ends.{client_end, end_calls, issued_as}
use Rattle.client_node.specs.Lines.{end_of}
use Rattle.client_node.specs.Runs.{Call as ClientCall, asks, bytes_end, closes, comes, gives, no_past, opens, past_of, sends, turns}
use Rattle.target_contexts.specs.declared.process.Image.{Image}
use Rattle.tcf_schedules.specs.Plan.{Plan}
use Rattle.tcf_text.specs.declared.log.EndWhy.{EndWhy}
use Rattle.tcf_text.specs.declared.log.EndWhy.TheVariants as ends
use Rattle.tcf_text.specs.declared.log.LogLine.TheVariants as lines
use Rattle.value_node.specs.Asked.{Asked}
use Rattle.value_node.specs.OwnMessages.{BeginsWithHello}
use Rattle.chain_heard.specs.Heard.{asked_as}
use Rattle.chain_through.proofs.Ends.{answering_more}
use Rattle.world_laws.specs.EndLaws.{AddIsSound, ClosesRightly, EndsAllRightly, EndsRightly, EndsRightlyAfterEverySchedule, IsRefusedUnder, MayEnd}
use Rattle.agent_node.proofs.TheLaws.{agent_has_no_strangers, agent_tells_the_truth}
use Rattle.chain_through.proofs.TheLaws.{answered_is_sound, no_fault_comes_through}
use Rattle.chain_world.proofs.TheLaws.{world_stands}
use Rattle.channel_core.proofs.TheLaws.{ends_fairly}
use Rattle.channel_laws.proofs.TheLaws.{ends_by_its_calls}
use Rattle.client_node.proofs.TheLaws.{clients_end_is_a_run, log_tells_past}
use Rattle.node_answers.proofs.TheLaws.{agent_serves_all}
use Rattle.world_laws.proofs.Chains.{agent, begins_here, commands, lower, speaking, unended_here, way_calls}
use Rattle.world_laws.proofs.EndsOfAdds.{adds_sound}
use Rattle.world_laws.proofs.EndsOfAgents.{SoundAt, chain_sound, channels_right, closes_rightly, now_sound}
use Rattle.world_laws.proofs.EndsOfClients.{MayClose, MayTake, RightLine, closing_called, ending_called, right_log}
use Rattle.world_laws.proofs.Faithful.{all_of}
use Rattle.world_laws.proofs.Hearing.{asked_few}
use Rattle.world_laws.proofs.Numbering.{each_found}
use Rattle.world_laws.proofs.Sending.{sent_commands, sent_issued}
use Rattle.world_laws.proofs.Serving.{AgentSpeaks, asking_many, speaks_nothing, told_to}
use Rattle.world_laws.proofs.Sides.{way, way_carries}
use Rattle.world_laws.proofs.Silent.{at_number}
use Rattle.world_laws.proofs.Steps.{closes_played, cuts_played, lost_played}
use Rattle.world_laws.proofs.Unclosing.{never_closing}
use Rattle.list_laws.proofs.AllLists.{all_contained, all_append, all_contains as all_in}
use Rattle.list_laws.specs.Fronts.{IsFront}
use Rattle.list_laws.proofs.Fronts.{front_length}

-- a Hello and commands are no more than these commands and one
calls_few : (asked : List Asked) (gave : List Outgoing) (calls : Calls asked gave) → length (entering calls.spoken) - 1 ≤ length asked
calls_few asked gave calls =
    let one = front_length (entering calls.spoken) (greeting calls.services ∷ all_asking 1 asked) calls.says in
    let two = asking_many 1 asked in omega arith

module _ (images : List Image) (r : AgentRun) (follows : AgentFollowsHistory images r) (serves : AllByRecursion ServesAll r.channels)
    (unclosing : AllByRecursion (λ past. list_any is_closing past.calls ≡ false) r.channels) where
  module _ (plans : List Plan) (at adds : ℕ) (chain : ChainValue) (s : ChainStands plans r.channels at adds chain) where
    abbrev way_is : RouteRun
    way_is = way r.channels plans at adds chain s

    abbrev carries : Carries s.ways way_is
    carries = way_carries r.channels plans at adds chain s

    abbrev low : End
    low = lower images r follows serves plans at adds chain s

    abbrev high : End
    high = agent images r follows serves plans at adds chain s

    abbrev asked_are : List Asked
    asked_are = commands images r follows serves plans at adds chain s

    abbrev above : List Outgoing
    above = (top_end low carries.made).gave

    -- ---- No fault comes through its way, and the end of the stream only so

    record IsSoundWay : Type 0 where
      calls : Calls asked_are low.gave
      agent_ended : Bool
      sound : EndsSoundly asked_are low calls carries.made agent_ended
      refused : agent_ended ≡ true → IsRefusedUnder r.history chain.channel

    few : length asked_are < 2 ^ 64
    few = asked_few s.calls s.names

    sound_way : (said : List Spoken) (speaks : AgentSpeaks images r.history said high.gave above) → BeginsWithHello said → (speaks.says.is_ended ≡ true → said ≡ []) → (speaks.says.is_ended ≡ true → IsRefusedUnder r.history chain.channel) → IsSoundWay
    sound_way said speaks hello ended refused =
        let calls : Calls asked_are low.gave = way_calls images r follows serves plans at adds chain s said above speaks in
        record {
          calls = calls;
          agent_ended = speaks.says.is_ended;
          sound = no_fault_comes_through images r.history follows.legal low high way_is.route.hops carries.made asked_are said carries.hops calls few speaks.says speaks.quiet speaks.marked speaks.rightly hello ended;
          refused = refused;
        }

    chain_way : IsSoundWay
    chain_way = by_channel chain.channel refl s.talks
      where
        opened : (k : ℕ) (past : Past) → chain.channel ≡ Some k → past_at k r.channels ≡ Some past → way_is.past.is_reached ≡ true → Talks (Some past) way_is.past.agent → IsSoundWay
        opened k past is there reached talks =
            let sound : IsSound (run_of past) = now_sound images r follows serves plans at adds chain s k past is there reached talks.gave talks.front in
            let right : ClosesRightly (run_of past).end.state = closes_rightly past (at_all (λ p. list_any is_closing p.calls ≡ false) k r.channels past unclosing there) sound in
            let speaks = speaking images r follows serves plans at adds chain s k past is there reached talks.gave talks.front in
            let never : speaks.says.is_ended ≡ true → ⊥ = unended_here images r follows serves plans at adds chain s k past is there reached talks.gave talks.front right in
            sound_way (told_to images r.history past) speaks (begins_here images r follows serves plans at adds chain s k past is there reached talks.gave talks.front) (λ yes. absurd (never yes)) (λ yes. absurd (never yes))

        by_past : (k : ℕ) → chain.channel ≡ Some k → way_is.past.is_reached ≡ true → (there : Option Past) → past_at k r.channels ≡ there → Talks there way_is.past.agent → IsSoundWay
        by_past k is reached None none talks =
            sound_way [] (speaks_nothing images r.history high.gave above (inr talks.gave)) tt (λ yes. refl) (λ yes. subst (IsRefusedUnder r.history) (sym is) (follows.opened k ∙ none_any k r.channels none))
        by_past k is reached (Some past) there talks = opened k past is there reached talks

        by_channel : (channel : Option ℕ) → chain.channel ≡ channel → TalksOn channel way_is.past r.channels → IsSoundWay
        by_channel None is (inl never) = sound_way [] (speaks_nothing images r.history high.gave above (inl never.1)) tt (λ yes. refl) (λ yes. subst (IsRefusedUnder r.history) (sym is) tt)
        by_channel None is (inr refused) = sound_way [] (speaks_nothing images r.history high.gave above (inr refused.1)) tt (λ yes. refl) (λ yes. subst (IsRefusedUnder r.history) (sym is) tt)
        by_channel (Some k) is talks = by_past k is talks.0 (past_at k r.channels) refl talks.1

    -- ---- Its value-adds

    pub adds_end : AllByRecursion AddIsSound chain.route.adds
    adds_end = subst (AllByRecursion AddIsSound) (sym (ap (λ route. route.adds) s.way ∙ carries.adds)) (adds_sound carries.made chain_way.sound.adds)

    -- ---- Its client

    abbrev G : EndWhy → Type 0
    G why = MayEnd plans r.history at chain why

    abbrev end_run : Run ℕ
    end_run = client_end s.calls

    abbrev all_calls : List (EndCall ℕ)
    all_calls = end_calls s.calls new_client

    came_down : IsFront (arrived all_calls) (bytes_of (queue_of chain_way.sound.down chain_way.sound.is_ended))
    came_down = subst (λ came. IsFront came (bytes_of (queue_of chain_way.sound.down chain_way.sound.is_ended))) s.got chain_way.sound.comes_down

    client_sound : IsSound end_run
    client_sound =
        let one = calls_few asked_are low.gave chain_way.calls in
        let two : length asked_are ≡ length (sent_commands s.calls s.names) = length-map (sent_commands s.calls s.names) asked_as in
        let three : length (sent_of end_run) ≡ length (sent_commands s.calls s.names) = ap length (sent_issued s.calls s.names) ∙ length-map (sent_commands s.calls s.names) issued_as in
        answered_is_sound client_services None all_calls chain_way.sound.down chain_way.sound.is_ended chain_way.sound.formed came_down chain_way.sound.begins
        (answering_more (length (entering chain_way.calls.spoken) - 1) (length (sent_of end_run)) (entering chain_way.sound.down) (omega arith) chain_way.sound.answering)

    -- the end of the stream came down
    by_stream : EndsFor end_run causes.Eos → G ends.Eos
    by_stream is =
        let fair = ends_fairly client_services None all_calls chain_way.sound.down chain_way.sound.is_ended chain_way.sound.formed came_down causes.Eos is in
        by_made way_is.route.hops carries.made carries.hops carries.losses (chain_way.sound.ended fair.0) (ap (λ route. route.hops) s.way)
      where
        by_made : (hops : List Hop) (made : List Made) → AllCarry low hops made high → AllLoseByCuts s.ways 0 made → MayComeDown made chain_way.agent_ended → chain.route.hops ≡ hops → G ends.Eos
        by_made hops (m ∷ made) carry loses may same = inl (lost_played plans at s.ways s.may_happen 0 (m ∷ made) loses may)
        by_made [] [] carry loses may same = absurd carry
        by_made (hop ∷ []) [] carry loses may same = inr (record { alone = ap (λ hops. length hops - 1) same; refused = chain_way.refused may })
        by_made (hop ∷ next ∷ hops) [] carry loses may same =
            let none : arrived all_calls ≡ [] = sym s.got ∙ carry.0.1 in
            let fair = ends_fairly client_services None all_calls [] false tt ([], sym none ∙ sym (append-nil (arrived all_calls))) causes.Eos is in
            absurd (true≢false (sym fair.0))

    by_cause : (cause : Cause) → EndsFor end_run cause → G (end_of cause)
    by_cause causes.Own is = closes_played plans at (closing_called plans at s.calls new_client s.may_be_called ((ends_by_its_calls client_services None all_calls).own is))
    by_cause causes.Eos is = by_stream is
    by_cause causes.Ended is = cuts_played plans at (ending_called plans at s.calls new_client s.may_be_called ((ends_by_its_calls client_services None all_calls).ended is))
    by_cause (causes.Protocol number reason) is = client_sound.protocol number reason is
    by_cause (causes.Stream fault) is = client_sound.stream fault is

    takes_so : AllByRecursion (MayTake G) (past_of s.calls no_past).taken
    takes_so = all_contained (MayTake G) (past_of s.calls no_past).taken by_entry
      where
        by_entry : (what : Taken ℕ) → Contains (past_of s.calls no_past).taken what → MayTake G what
        by_entry (taken.Hello incoming) there = tt
        by_entry (taken.Command incoming) there = tt
        by_entry (taken.Event incoming) there = tt
        by_entry (taken.Progress number incoming) there = tt
        by_entry (taken.Final number incoming) there = tt
        by_entry (taken.Closed cause) there = by_cause cause (inr (inr (subst (λ all. Contains all (taken.Closed cause)) (clients_end_is_a_run s.calls).taken there)))

    closes_so : (calls : List ClientCall) → AllByRecursion (MayBeCalled plans at) calls → AllByRecursion (MayClose G) calls
    closes_so [] may = tt
    closes_so (call ∷ calls) may = (by_call call may.0, closes_so calls may.1)
      where
        by_call : (call : ClientCall) → MayBeCalled plans at call → MayClose G call
        by_call opens may = tt
        by_call (sends service name body) may = tt
        by_call (comes piece mark) may = tt
        by_call bytes_end may = tt
        by_call turns may = tt
        by_call closes may = closes_played plans at may
        by_call gives may = tt
        by_call (asks what) may = tt

    pub client_ends : EndsRightly plans r.history at chain
    client_ends why there =
        let same : (past_of s.calls no_past).client ≡ chain.client = (log_tells_past s.calls).same ∙ sym s.client in
        let each : AllByRecursion (RightLine G) chain.client.log = subst (λ c. AllByRecursion (RightLine G) c.log) same (right_log G s.calls no_past takes_so (closes_so s.calls s.may_be_called) tt) in
        all_in (RightLine G) chain.client.log (lines.Ended why) each there

  -- ---- All chains

  -- at a place
  pub clients_end : (plans : List Plan) (at place : ℕ) (adds : List ℕ) (chains : List ChainValue) (chain : ChainValue) → AllStand plans r.channels at adds chains → slice_get chains place ≡ Some chain → EndsRightly plans r.history (at + place) chain
  clients_end plans at place adds [] chain all there = absurd cc
  clients_end plans at place [] (first ∷ chains) chain all there = absurd all
  clients_end plans at zero (n ∷ adds) (first ∷ chains) chain all there =
      let is : first ≡ chain = cc in
      let same : at ≡ at + 0 = omega arith in
      subst (λ c. EndsRightly plans r.history (at + 0) c) is (subst (λ m. EndsRightly plans r.history m first) same (client_ends plans at n first all.0))
  clients_end plans at (suc place) (n ∷ adds) (first ∷ chains) chain all there =
      let same : suc at + place ≡ at + suc place = omega arith in
      subst (λ m. EndsRightly plans r.history m chain) same (clients_end plans (suc at) place adds chains chain all.1 there)

  pub all_sound : (plans : List Plan) (at : ℕ) (adds : List ℕ) (chains : List ChainValue) → AllStand plans r.channels at adds chains → AllByRecursion (SoundAt images r follows serves) (flat_map channels_of chains)
  all_sound plans at [] [] all = tt
  all_sound plans at [] (chain ∷ chains) all = absurd all
  all_sound plans at (n ∷ adds) [] all = absurd all
  all_sound plans at (n ∷ adds) (chain ∷ chains) all =
      all_append (SoundAt images r follows serves) (channels_of chain) (flat_map channels_of chains) (chain_sound images r follows serves plans at n chain all.0) (all_sound plans (suc at) adds chains all.1)

module _ (images : List Image) (adds : List ℕ) (plans : List Plan) (w : WorldValue) (s : Stands plans images adds w) where
  abbrev agent_run : AgentRun
  agent_run = agent_after s.calls (agent_begun images)

  follows : AgentFollowsHistory images agent_run
  follows = agent_tells_the_truth images s.calls

  serves : AllByRecursion ServesAll agent_run.channels
  serves = agent_serves_all images s.calls

  unclosing : AllByRecursion (λ past. list_any is_closing past.calls ≡ false) agent_run.channels
  unclosing = never_closing images s.calls

  rights : (k : ℕ) (past : Past) → past_at k agent_run.channels ≡ Some past → ClosesRightly (run_of past).end.state
  rights k past there =
      let numbers = flat_map channels_of w.chains in
      let sound = all_sound images agent_run follows serves unclosing plans 0 adds w.chains s.chains in
      let owned : Contains numbers past.number = at_all (λ p. Contains numbers p.number) k agent_run.channels past s.numbered.owned there in
      let here : past_at past.number agent_run.channels ≡ Some past = ap (λ n. past_at n agent_run.channels) (at_number k agent_run.channels past there) ∙ there in
      closes_rightly past (at_all (λ p. list_any is_closing p.calls ≡ false) k agent_run.channels past unclosing there)
      (all_in (SoundAt images agent_run follows serves) numbers past.number sound owned past here)

  world_ends : EndsAllRightly plans w
  world_ends = record {
    clients = λ at chain there.
        let same : 0 + at ≡ at = omega arith in
        subst (λ h. EndsRightly plans h at chain) s.history
        (subst (λ m. EndsRightly plans agent_run.history m chain) same (clients_end images agent_run follows serves unclosing plans 0 at adds w.chains chain s.chains there));
    adds = all_of agent_run (λ chain. AllByRecursion AddIsSound chain.route.adds) plans (adds_end images agent_run follows serves unclosing plans) 0 adds w.chains s.chains;
    agent = subst (λ (a : AgentValue). AllByRecursion (λ c. ClosesRightly c.end.state) a.channels) s.agent
        (channels_right images agent_run follows serves rights (agent_has_no_strangers images s.calls) agent_run.agent.channels (each_found images s.calls));
  }

pub ends_rightly : EndsRightlyAfterEverySchedule
ends_rightly images adds plans playable = world_ends images adds plans (run plans (new_world images adds)) (world_stands images adds plans playable)
