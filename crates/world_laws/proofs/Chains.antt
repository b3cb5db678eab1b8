-- What the client of a chain heard of the target, and what its value-adds were told, at one moment of a world.
use Rattle.std.proofs.Common.{◌≡◌, ℕ, ◌-◌, ◌⊎◌, inl, inr, true, List, [], ◌∷◌, length, map, Option, Some, None, refl, sym, ap, ◌∙◌, subst}
use Rattle.std.specs.List.{AllByRecursion}
use Rattle.agent_node.specs.AgentLaws.{AgentFollowsHistory, FollowsHistory, asked}
use Rattle.agent_node.specs.Runs.{AgentRun, Past, run_of}
use Rattle.node_answers.specs.AgentAnswering.{ServesAll}
use Rattle.chain_told.specs.Sent.{read_as}
use Rattle.list_laws.proofs.AllLists.{all_map_then}
use Rattle.list_laws.specs.Fronts.{IsFront}
use Rattle.list_laws.proofs.Fronts.{front_none, front_same}
use Rattle.chain_heard.specs.Heard.{Heard, HeardAll, HeardNoTarget, asked_as}
use Rattle.chain_route.specs.Carrying.{Carries, End, agent_end, end_of, value_of}
use Rattle.chain_route.specs.Runs.{RouteRun}
use Rattle.chain_through.specs.Calling.{Calls, entering}
use Rattle.chain_through.specs.Through.{AllTold, KnowsTruth, Through, top_end}
use Rattle.chain_world.proofs.Pasts.{at_all}
use Rattle.chain_world.specs.ChainValue.{ChainValue}
use Rattle.chain_world.specs.Standing.{ChainStands, Talks, TalksOn, past_at, unmarked}
use Rattle.channel_core.specs.Arrivals.{Spoken, arrived, bytes_of}
use Rattle.channel_core.specs.ReceivingLaws.{SendsReadable}
use Rattle.channel_core.specs.Wire.{end_of_stream}
use Rattle.channel_core.specs.declared.held.Outgoing.{Outgoing}
use Rattle.client_node.specs.Client.{new_client}
use Rattle.client_node.specs.Ends.{end_calls}
use Rattle.client_node.specs.Runs.{Past as ClientPast, no_past, past_of as client_past_of}
use Rattle.target_contexts.specs.declared.process.Image.{Image}
use Rattle.target_hub.specs.Sent.{executed_on}
use Rattle.target_hub.specs.declared.input.Input.{Input}
use Rattle.tcf_schedules.specs.Plan.{Plan}
use Rattle.value_node.specs.Asked.{Asked}
use Rattle.value_node.specs.OwnMessages.{BeginsWithHello}
use Rattle.chain_through.proofs.Ways.{are_bound}
use Rattle.world_laws.specs.EndLaws.{ClosesRightly}
use Rattle.world_laws.specs.HopLaws.{channel_past, spoken_on}
use Rattle.chain_through.proofs.TheLaws.{all_comes_through}
use Rattle.world_laws.proofs.Earlier.{all_silent}
use Rattle.world_laws.proofs.Quiet.{ComesQuietly, comes_quietly, takes_quietly}
use Rattle.world_laws.proofs.Sending.{client_calls, sent_commands}
use Rattle.world_laws.proofs.Serving.{AgentSpeaks, IsAskedFirst, asked_first, asked_top, begins, executed_front, last_hop, speaks, speaks_nothing, told_formed, told_gave, told_to, unended}
use Rattle.world_laws.proofs.Sides.{way, way_carries}
use Rattle.world_laws.proofs.Silent.{at_number, unopened_silent}
use Rattle.world_laws.proofs.Unstuck.{AllTook}
use Rattle.world_laws.proofs.Hearing.{asked_few, bound_heard, target_all, target_heard, unbound_heard}
use Rattle.chain_route.specs.Taking.{AreBound}

-- ---- What is heard

-- all that the history owes, where each end on the way took all
pub record HearsTarget (images : List Image) (history : List Input) (chain : ChainValue) (p : ClientPast) (AllTook : Type 0) : Type 0 where
  pub k : ℕ
  pub position : ℕ
  pub channel : chain.channel ≡ Some k
  pub heard : Heard images history k position p
  pub all : AllTook → HeardAll images history k p heard.heard

pub record HearsNone (history : List Input) (chain : ChainValue) (p : ClientPast) : Type 0 where
  pub heard : HeardNoTarget p
  pub silent : (k : ℕ) → chain.channel ≡ Some k → executed_on k history ≡ []

-- ---- The chain at this moment

module _ (images : List Image) (r : AgentRun) (follows : AgentFollowsHistory images r) (serves : AllByRecursion ServesAll r.channels) (plans : List Plan) (at adds : ℕ)
    (chain : ChainValue) (s : ChainStands plans r.channels at adds chain) where
  abbrev run : RouteRun
  run = way r.channels plans at adds chain s

  abbrev hears_past : ClientPast
  hears_past = client_past_of s.calls no_past

  abbrev carries : Carries s.ways run
  carries = way_carries r.channels plans at adds chain s

  abbrev pub lower : End
  lower = end_of run.past.client

  abbrev pub agent : End
  agent = agent_end run.past.agent

  abbrev pub commands : List Asked
  commands = map asked_as (sent_commands s.calls s.names)

  quiet_came : (said : List Spoken) (top : List Outgoing) → AgentSpeaks images r.history said agent.gave top → ComesQuietly (arrived (end_calls s.calls new_client))
  quiet_came said top speaking = subst ComesQuietly s.got (comes_quietly lower agent run.route.hops carries.made said carries.hops speaking.says speaking.quiet)

  pub way_calls : (said : List Spoken) (top : List Outgoing) → AgentSpeaks images r.history said agent.gave top → Calls commands lower.gave
  way_calls said top speaking =
      subst (Calls commands) (sym s.gave) (client_calls s.calls s.names (takes_quietly s.calls (quiet_came said top speaking)))

  pub way_through : (said : List Spoken) (speaking : AgentSpeaks images r.history said agent.gave (top_end lower carries.made).gave)
      → Through images r.history commands lower (way_calls said (top_end lower carries.made).gave speaking) carries.made said
  way_through said speaking =
      all_comes_through images r.history follows.legal lower agent run.route.hops carries.made commands said carries.hops (way_calls said (top_end lower carries.made).gave speaking) (asked_few s.calls s.names) speaking.says
      speaking.quiet speaking.marked speaking.rightly

  -- it heard nothing of the target where the agent said nothing
  nothing_heard : AgentSpeaks images r.history [] agent.gave (top_end lower carries.made).gave → HeardNoTarget hears_past
  nothing_heard speaking = by_bound (are_bound carries.made)
    where
      by_bound : AreBound carries.made ⊎ (AreBound carries.made → ⊥) → HeardNoTarget hears_past
      by_bound (inl bound) =
          let t = way_through [] speaking in
          bound_heard s.calls s.names images r.history lower [] (way_calls [] (top_end lower carries.made).gave speaking) carries.made t s.got (t.bound bound) refl
      by_bound (inr unbound) =
          let t = way_through [] speaking in
          unbound_heard s.calls s.names images r.history lower [] (way_calls [] (top_end lower carries.made).gave speaking) carries.made t s.got (t.unbound unbound)

  abbrev Hears : Type 0
  Hears = HearsTarget images r.history chain hears_past (AllTook s.calls run carries.made) ⊎ HearsNone r.history chain hears_past

  -- no channel is there
  unreached : chain.channel ≡ None → (agent.gave ≡ []) ⊎ (agent.gave ≡ end_of_stream ∷ []) → Hears
  unreached none gave =
      let speaking = speaks_nothing images r.history agent.gave (top_end lower carries.made).gave gave in
      inr (record { heard = nothing_heard speaking; silent = λ k is. let apart : None ≡ Some k = sym none ∙ is in absurd cc })

  -- the agent refused it
  refused : (k : ℕ) → chain.channel ≡ Some k → past_at k r.channels ≡ None → agent.gave ≡ end_of_stream ∷ [] → Hears
  refused k is none gave =
      let speaking = speaks_nothing images r.history agent.gave (top_end lower carries.made).gave (inr gave) in
      inr (record {
        heard = nothing_heard speaking;
        silent = λ j other. let same : Some k ≡ Some j = sym is ∙ other in let one : k ≡ j = cc in ap (λ n. executed_on n r.history) (sym one) ∙ unopened_silent images r k follows none;
      })

  -- the agent opened it
  module _ (k : ℕ) (past : Past) (is : chain.channel ≡ Some k) (there : past_at k r.channels ≡ Some past) (reached : run.past.is_reached ≡ true) (gave : agent.gave ≡ (run_of past).past.given)
      (front : IsFront (arrived past.calls) (unmarked run.past.agent.got)) where
    past_follows : FollowsHistory images r.history past
    past_follows = at_all (FollowsHistory images r.history) k r.channels past follows.channels there

    past_readable : SendsReadable past.calls
    past_readable = (at_all ServesAll k r.channels past serves there).readable

    number_is : past.number ≡ k
    number_is = at_number k r.channels past there

    abbrev pub top : List Outgoing
    top = (top_end lower carries.made).gave

    pub carried : IsFront (bytes_of run.past.agent.got) (bytes_of top)
    carried = (last_hop lower run.route.hops carries.made agent carries.hops (carries.reached reached)).1.up_front

    pub speaking : AgentSpeaks images r.history (told_to images r.history past) agent.gave top
    speaking = speaks images r.history past follows.legal past_follows past_readable top run.past.agent gave carried front

    pub begins_here : BeginsWithHello (told_to images r.history past)
    begins_here = begins images r.history past follows.legal past_follows past_readable

    pub unended_here : ClosesRightly (run_of past).end.state → speaking.says.is_ended ≡ true → ⊥
    unfolding speaking
    unended_here right is = unended images r.history past follows.legal past_follows past_readable top run.past.agent gave carried front right is

    abbrev calls_are : Calls commands lower.gave
    calls_are = way_calls (told_to images r.history past) top speaking

    pub through : Through images r.history commands lower calls_are carries.made (told_to images r.history past)
    through = way_through (told_to images r.history past) speaking

    asks : IsAskedFirst 1 (asked (run_of past)) through.top
    asks = asked_top (asked (run_of past)) through.top (length (entering through.goes_up.spoken) - 1) (asked_first past through.top top run.past.agent through.goes_up carried front)

    past_given : (run_of past).end.queued ≡ []
    past_given =
        let talks : TalksOn (Some k) run.past r.channels = subst (λ o. TalksOn o run.past r.channels) is s.talks in
        let talk : Talks (Some past) run.past.agent = subst (λ o. Talks o run.past.agent) there talks.1 in
        talk.given

    opened : Hears
    opened = by_bound (are_bound carries.made)
      where
        by_bound : AreBound carries.made ⊎ (AreBound carries.made → ⊥) → Hears
        by_bound (inl bound) = inl (record {
          k = past.number;
          position = past.position;
          channel = is ∙ ap Some (sym number_is);
          heard = target_heard s.calls s.names images r.history lower (told_to images r.history past) calls_are carries.made through s.got (through.bound bound) past follows.legal past_follows past_readable asks refl;
          all = λ took.
              let said = told_to images r.history past in
              let both = took reached bound said (told_formed images r.history past follows.legal past_follows past_readable) (told_gave images r.history past follows.legal past_follows past_readable agent.gave gave past_given) in
              target_all s.calls s.names images r.history lower said calls_are carries.made through s.got (through.bound bound) past follows.legal past_follows past_readable asks refl both.0 both.1;
        })
        by_bound (inr unbound) =
            let u = through.unbound unbound in
            let top_read = executed_front images r.history past follows.legal past_follows past_readable through.top asks in
            let still : executed_on past.number r.history ≡ [] = front_none (executed_on past.number r.history) (front_same (executed_on past.number r.history) (map read_as through.top) [] (ap (map read_as) u.silent) top_read) in
            inr (record {
              heard = unbound_heard s.calls s.names images r.history lower (told_to images r.history past) calls_are carries.made through s.got u;
              silent = λ j other. let same : Some k ≡ Some j = sym is ∙ other in let one : k ≡ j = cc in ap (λ n. executed_on n r.history) (sym one ∙ sym number_is) ∙ still;
            })

  pub chain_hears : Hears
  chain_hears = by_channel chain.channel refl s.talks
    where
      by_past : (k : ℕ) → chain.channel ≡ Some k → run.past.is_reached ≡ true → (there : Option Past) → past_at k r.channels ≡ there → Talks there run.past.agent → Hears
      by_past k is reached None there talks = refused k is there talks.gave
      by_past k is reached (Some past) there talks = opened k past is there reached talks.gave talks.front

      by_channel : (channel : Option ℕ) → chain.channel ≡ channel → TalksOn channel run.past r.channels → Hears
      by_channel None is (inl never) = unreached is (inl never.1)
      by_channel None is (inr refused) = unreached is (inr refused.1)
      by_channel (Some k) is talks = by_past k is talks.0 (past_at k r.channels) refl talks.1

  -- what the agent says, whether it opened the channel or not
  abbrev said : List Spoken
  said = spoken_on images r.history (channel_past chain.channel r.channels)

  agent_speaks : AgentSpeaks images r.history said agent.gave (top_end lower carries.made).gave
  agent_speaks = by_channel chain.channel refl s.talks
    where
      nothing_said : (agent.gave ≡ []) ⊎ (agent.gave ≡ end_of_stream ∷ []) → AgentSpeaks images r.history [] agent.gave (top_end lower carries.made).gave
      nothing_said gave = speaks_nothing images r.history agent.gave (top_end lower carries.made).gave gave

      by_past : (k : ℕ) → chain.channel ≡ Some k → run.past.is_reached ≡ true → (there : Option Past) → past_at k r.channels ≡ there → Talks there run.past.agent
          → AgentSpeaks images r.history (spoken_on images r.history there) agent.gave (top_end lower carries.made).gave
      by_past k is reached None there talks = nothing_said (inr talks.gave)
      by_past k is reached (Some past) there talks = speaking k past is there reached talks.gave talks.front

      by_channel : (channel : Option ℕ) → chain.channel ≡ channel → TalksOn channel run.past r.channels
          → AgentSpeaks images r.history (spoken_on images r.history (channel_past channel r.channels)) agent.gave (top_end lower carries.made).gave
      by_channel None is (inl never) = nothing_said (inl never.1)
      by_channel None is (inr refused) = nothing_said (inr refused.1)
      by_channel (Some k) is talks = by_past k is talks.0 (past_at k r.channels) refl talks.1

  -- all that is said down the way is told rightly
  pub all_told : AllTold images r.history lower carries.made said
  all_told = (way_through said agent_speaks).hops

  -- and what its bound value-adds know is true
  pub adds_know : AllByRecursion (KnowsTruth images r.history) chain.route.adds
  adds_know =
      subst (AllByRecursion (KnowsTruth images r.history)) (sym (ap (λ route. route.adds) s.way ∙ carries.adds))
      (all_map_then (KnowsTruth images r.history) (λ m. KnowsTruth images r.history (value_of m)) value_of carries.made (λ m known. known) (way_through said agent_speaks).adds)

  pub earlier_silent : AllByRecursion (λ k. executed_on k r.history ≡ []) chain.earlier
  earlier_silent = all_silent images r follows run.past carries.earlier chain.earlier s.talked
