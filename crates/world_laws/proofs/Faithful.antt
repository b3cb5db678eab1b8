-- Each log of a world follows the one history, its answers are fresh, and what each client keeps and each bound value-add knows is true of the target.
use Rattle.std.proofs.Common.{◌≡◌, ℕ, suc, ◌⊎◌, inl, inr, true, false, List, [], ◌∷◌, Option, Some, None, refl, sym, ◌∙◌, subst}
use Rattle.std.specs.Prelude.{option_to_list}
use Rattle.std.specs.List.{AllByRecursion}
use Rattle.agent_node.specs.AgentLaws.{AgentFollowsHistory}
use Rattle.agent_node.specs.Runs.{AgentRun, after_all as agent_after, no_calls as agent_begun}
use Rattle.node_answers.specs.AgentAnswering.{ServesAll}
use Rattle.chain_heard.specs.Coherent.{IsCoherent}
use Rattle.chain_through.specs.Through.{KnowsTruth, kept_in}
use Rattle.chain_told.specs.Told.{AreTrueAt}
use Rattle.chain_world.specs.Chain.{channels_of, is_quiet}
use Rattle.chain_world.specs.ChainValue.{ChainValue}
use Rattle.chain_world.specs.Past.{ChainPast, Past, past_of as past_after}
use Rattle.chain_world.specs.Remembering.{AllStandBy, StandsBy}
use Rattle.chain_world.specs.Standing.{AllStand, ChainStands, Stands}
use Rattle.chain_world.specs.World.{new_world, run}
use Rattle.chain_world.specs.WorldValue.{WorldValue}
use Rattle.client_log.specs.Shown.{ShowsKept}
use Rattle.client_node.specs.Runs.{Past as ClientPast, TellsPast, no_past, past_of}
use Rattle.knowledge.specs.Facts.{Facts}
use Rattle.target_contexts.specs.declared.process.Image.{Image}
use Rattle.target_hub.specs.Fresh.{Fresh}
use Rattle.target_hub.specs.Ordered.{Ordered}
use Rattle.target_hub.specs.Sent.{executed_on}
use Rattle.target_hub.specs.declared.input.Input.{Input}
use Rattle.target_truth.specs.Typed.{AreTyped}
use Rattle.tcf_schedules.specs.Plan.{Plan}
use Rattle.tcf_text.specs.Each.{Each}
use Rattle.tcf_text.specs.Once.{Once}
use Rattle.value_node.specs.ValueValue.{ValueValue}
use Rattle.world_laws.specs.HopLaws.{AllHopsStand, HopsStandAfterEverySchedule}
use Rattle.world_laws.specs.WorldLaws.{AreCoherent, AreFresh, ChainIsCoherent, ChainIsFaithful, ChainLacksNothing, CoherentAfterEverySchedule, FaithfulAfterEverySchedule, FreshAfterEverySchedule, IsFaithful, IsTrueAt, KnowsTarget, NothingIsStuck, NothingStuckAfterEverySchedule}
use Rattle.agent_node.proofs.TheLaws.{agent_has_no_strangers, agent_tells_the_truth}
use Rattle.chain_heard.proofs.TheLaws.{heard_among_is_ordered, heard_is_coherent, heard_is_fresh, no_target_is_coherent, no_target_is_fresh, no_target_is_ordered}
use Rattle.chain_world.proofs.TheLaws.{world_stands, world_stands_by_its_past}
use Rattle.client_node.proofs.TheLaws.{answered_once, log_tells_past, shows_what_is_kept}
use Rattle.node_answers.proofs.TheLaws.{agent_serves_all}
use Rattle.world_laws.proofs.Chains.{HearsNone, HearsTarget, adds_know, chain_hears, earlier_silent}
use Rattle.world_laws.proofs.Hops.{hops_by_past}
use Rattle.world_laws.proofs.Numbering.{each_found}
use Rattle.world_laws.proofs.Sides.{way, way_carries}
use Rattle.world_laws.proofs.Unstuck.{AllTook, all_answered, all_took, chain_lacks, channels_lack}
use Rattle.list_laws.proofs.AllLists.{all_weaker, all_append, all_contains as all_in}

-- what a value-add knows is true where the bytes of the images are bytes
module _ (images : List Image) (history : List Input) (typed : AreTyped images) where
  true_at : (mark : Option ℕ) (known : Facts) → AreTrueAt images history mark known → IsTrueAt images history mark known
  true_at None known is = is
  true_at (Some position) known is = (is.0, is.1 typed)

  knows_target : (value : ValueValue) → KnowsTruth images history value → KnowsTarget images history value
  knows_target value knows bound = true_at value.relay.store.mark (kept_in value.relay.store) (knows bound)

module _ (images : List Image) (r : AgentRun) (follows : AgentFollowsHistory images r) (serves : AllByRecursion ServesAll r.channels) where
  module _ (plans : List Plan) (at adds : ℕ) (chain : ChainValue) (s : ChainStands plans r.channels at adds chain) where
    abbrev past_is : ClientPast
    past_is = past_of s.calls no_past

    once : Once false chain.client.log
    once = subst (λ c. Once false c.log) (sym s.client) (answered_once s.calls)

    tells : TellsPast chain.client past_is
    tells = subst (λ c. TellsPast c past_is) (sym s.client) (log_tells_past s.calls)

    shown : Each ShowsKept chain.client.log
    shown = subst (λ c. Each ShowsKept c.log) (sym s.client) (shows_what_is_kept s.calls)

    abbrev Took : Type 0
    Took = let run = way r.channels plans at adds chain s in AllTook s.calls run (way_carries r.channels plans at adds chain s).made

    abbrev Hears : Type 0
    Hears = HearsTarget images r.history chain past_is Took ⊎ HearsNone r.history chain past_is

    hears : Hears
    hears = chain_hears images r follows serves plans at adds chain s

    -- the channels that the chain had, but for this one, execute nothing
    others : (P : ℕ → Type 0) → ((k : ℕ) → executed_on k r.history ≡ [] → P k) → ((k : ℕ) → chain.channel ≡ Some k → P k) → AllByRecursion P (channels_of chain)
    others P silent current =
        all_append P chain.earlier (option_to_list chain.channel) (all_weaker (λ k. executed_on k r.history ≡ []) P chain.earlier silent (earlier_silent images r follows serves plans at adds chain s))
        (by_channel chain.channel current)
      where
        by_channel : (channel : Option ℕ) → ((k : ℕ) → channel ≡ Some k → P k) → AllByRecursion P (option_to_list channel)
        by_channel None each = tt
        by_channel (Some k) each = (each k refl, tt)

    chain_ordered : Ordered (is_quiet chain r.agent) chain.client.log images r.history (channels_of chain)
    chain_ordered = by_heard hears
      where
        by_heard : Hears → Ordered (is_quiet chain r.agent) chain.client.log images r.history (channels_of chain)
        by_heard (inl h) =
            let P : ℕ → Type 0 = λ j. (j ≡ h.k → ⊥) → executed_on j r.history ≡ [] in
            let all : AllByRecursion P (channels_of chain) =
            others P (λ j none apart. none) (λ j is apart. let same : Some j ≡ Some h.k = sym is ∙ h.channel in let one : j ≡ h.k = cc in absurd (apart one)) in
            heard_among_is_ordered images r.history h.k h.position chain.client past_is (channels_of chain) (is_quiet chain r.agent) tells once h.heard (λ j there apart. all_in P (channels_of chain) j all there apart)
            (λ quiet none. h.all (all_took images r follows serves plans at adds chain s quiet none))
        by_heard (inr h) =
            let P : ℕ → Type 0 = λ j. executed_on j r.history ≡ [] in
            no_target_is_ordered images r.history chain.client past_is (channels_of chain) (is_quiet chain r.agent) tells once h.heard (λ j there. all_in P (channels_of chain) j (others P (λ k none. none) h.silent) there)

    once_each : Once (is_quiet chain r.agent) chain.client.log
    once_each = record {
      counted = once.counted;
      answers = once.answers;
      all_at_end = once.all_at_end;
      nothing_after = once.nothing_after;
      closed_in_order = once.closed_in_order;
      closed_then_end = once.closed_then_end;
      all_when_quiet = λ quiet. all_answered images r follows serves plans at adds chain s quiet once;
    }

    chain_faithful : ChainIsFaithful images r.history r.agent chain
    chain_faithful = record { once = once_each; ordered = chain_ordered }

    chain_unstuck : is_quiet chain r.agent ≡ true → ChainLacksNothing chain
    chain_unstuck quiet = chain_lacks images r follows serves plans at adds chain s quiet

    client_coherent : AreTyped images → IsCoherent chain.client.log images r.history
    client_coherent typed = by_heard hears
      where
        by_heard : Hears → IsCoherent chain.client.log images r.history
        by_heard (inl h) = heard_is_coherent images r.history h.k h.position chain.client past_is typed tells once shown h.heard
        by_heard (inr h) = no_target_is_coherent images r.history chain.client past_is tells once shown h.heard

    chain_coherent : AreTyped images → ChainIsCoherent images r.history chain
    chain_coherent typed = record {
      client = client_coherent typed;
      adds = all_weaker (KnowsTruth images r.history) (KnowsTarget images r.history) chain.route.adds (knows_target images r.history typed) (adds_know images r follows serves plans at adds chain s);
    }

    chain_fresh : AreTyped images → Fresh chain.client.log images r.history
    chain_fresh typed = by_heard hears
      where
        by_heard : Hears → Fresh chain.client.log images r.history
        by_heard (inl h) = heard_is_fresh images r.history h.k h.position chain.client past_is typed tells once h.heard
        by_heard (inr h) = no_target_is_fresh images r.history chain.client past_is tells once h.heard

-- ---- All chains

module _ (r : AgentRun) where
  pub all_of : (P : ChainValue → Type 0) (plans : List Plan) → ((at adds : ℕ) (chain : ChainValue) → ChainStands plans r.channels at adds chain → P chain) → (at : ℕ) (adds : List ℕ) (chains : List ChainValue)
      → AllStand plans r.channels at adds chains → AllByRecursion P chains
  all_of P plans so at [] [] all = tt
  all_of P plans so at [] (chain ∷ chains) all = absurd all
  all_of P plans so at (n ∷ adds) [] all = absurd all
  all_of P plans so at (n ∷ adds) (chain ∷ chains) all = (so at n chain all.0, all_of P plans so (suc at) adds chains all.1)

module _ (images : List Image) (adds : List ℕ) (plans : List Plan) (w : WorldValue) (s : Stands plans images adds w) where
  abbrev agent_run : AgentRun
  agent_run = agent_after s.calls (agent_begun images)

  follows : AgentFollowsHistory images agent_run
  follows = agent_tells_the_truth images s.calls

  serves : AllByRecursion ServesAll agent_run.channels
  serves = agent_serves_all images s.calls

  world_faithful : IsFaithful images w
  world_faithful =
      subst (λ a. IsFaithful images (record w { agent = a })) s.agent
      (subst (λ h. IsFaithful images (record w { history = h; agent = agent_run.agent })) s.history
      (record {
        legal = follows.legal;
        chains = all_of agent_run (ChainIsFaithful images agent_run.history agent_run.agent) plans (chain_faithful images agent_run follows serves plans) 0 adds w.chains s.chains;
      }))

  world_unstuck : NothingIsStuck w
  world_unstuck =
      subst (λ a. NothingIsStuck (record w { agent = a })) s.agent
      (record {
        chains = all_of agent_run (λ chain. is_quiet chain agent_run.agent ≡ true → ChainLacksNothing chain) plans (chain_unstuck images agent_run follows serves plans) 0 adds w.chains s.chains;
        agent = channels_lack images agent_run follows serves (agent_has_no_strangers images s.calls) agent_run.agent.channels (each_found images s.calls);
      })

  world_coherent : AreTyped images → AreCoherent images w
  world_coherent typed =
      subst (λ h. AreCoherent images (record w { history = h })) s.history
      (all_of agent_run (ChainIsCoherent images agent_run.history) plans
      (λ at n chain stands. chain_coherent images agent_run follows serves plans at n chain stands typed) 0 adds w.chains s.chains)

  world_fresh : AreTyped images → AreFresh images w
  world_fresh typed =
      subst (λ h. AreFresh images (record w { history = h })) s.history
      (all_of agent_run (λ chain. Fresh chain.client.log images agent_run.history) plans
      (λ at n chain stands. chain_fresh images agent_run follows serves plans at n chain stands typed) 0 adds w.chains s.chains)

-- ---- The hops of all chains, by the past of the world

module _ (images : List Image) (plans : List Plan) (r : AgentRun) (follows : AgentFollowsHistory images r) (serves : AllByRecursion ServesAll r.channels) where
  all_hops : (at : ℕ) (adds : List ℕ) (chains : List ChainValue) (past : List ChainPast) → AllStandBy plans r.channels at adds chains past → AllHopsStand images r.history r.agent r.channels adds chains past
  all_hops at [] [] past all = tt
  all_hops at [] (chain ∷ chains) past all = absurd all
  all_hops at (n ∷ adds) [] past all = absurd all
  all_hops at (n ∷ adds) (chain ∷ chains) [] all = absurd all
  all_hops at (n ∷ adds) (chain ∷ chains) (own ∷ past) all = (hops_by_past images r follows serves plans at n chain own all.0, all_hops (suc at) adds chains past all.1)

world_hops : (images : List Image) (adds : List ℕ) (plans : List Plan) (w : WorldValue) (past : Past) → StandsBy plans images adds w past
    → AllHopsStand images w.history w.agent (agent_after past.agent (agent_begun images)).channels adds w.chains past.chains
world_hops images adds plans w past s =
    let r = agent_after past.agent (agent_begun images) in
    subst (λ a. AllHopsStand images w.history a r.channels adds w.chains past.chains) s.agent
    (subst (λ h. AllHopsStand images h r.agent r.channels adds w.chains past.chains) s.history
    (all_hops images plans r (agent_tells_the_truth images past.agent) (agent_serves_all images past.agent) 0 adds w.chains past.chains s.chains))

pub faithful : FaithfulAfterEverySchedule
faithful images adds plans playable = world_faithful images adds plans (run plans (new_world images adds)) (world_stands images adds plans playable)

pub coherent : CoherentAfterEverySchedule
coherent images adds plans typed playable = world_coherent images adds plans (run plans (new_world images adds)) (world_stands images adds plans playable) typed

pub unstuck : NothingStuckAfterEverySchedule
unstuck images adds plans playable = world_unstuck images adds plans (run plans (new_world images adds)) (world_stands images adds plans playable)

pub hops_stand : HopsStandAfterEverySchedule
hops_stand images adds plans playable =
    world_hops images adds plans (run plans (new_world images adds)) (past_after images adds plans) (world_stands_by_its_past images adds plans playable)

pub fresh : FreshAfterEverySchedule
fresh images adds plans typed playable = world_fresh images adds plans (run plans (new_world images adds)) (world_stands images adds plans playable) typed
