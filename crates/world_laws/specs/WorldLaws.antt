-- What the logs of a world's clients owe to the history of its target, after every schedule.
use Rattle.std.specs.Prelude.{ℕ, ◌≡◌, ◌≤◌, true, false, List, [], length, Option, None, Some, IfSome}
use Rattle.std.specs.List.{AllByRecursion}
use Rattle.agent_node.specs.AgentValue.{AgentValue}
use Rattle.chain_heard.specs.Coherent.{IsCoherent}
use Rattle.chain_through.specs.Through.{kept_in}
use Rattle.channel_core.specs.Closing.{is_closed}
use Rattle.channel_core.specs.EndValue.{EndValue}
use Rattle.knowledge.specs.Facts.{Facts, IsPart, nothing}
use Rattle.target_contexts.specs.declared.process.Image.{Image}
use Rattle.target_hub.specs.Fresh.{Fresh, target_at}
use Rattle.target_hub.specs.History.{IsLegal}
use Rattle.target_hub.specs.Ordered.{Ordered}
use Rattle.target_hub.specs.declared.input.Input.{Input}
use Rattle.target_truth.specs.Holds.{Holds}
use Rattle.target_truth.specs.Typed.{AreTyped}
use Rattle.tcf_schedules.specs.Plan.{Plan}
use Rattle.tcf_text.specs.Once.{Once}
use Rattle.chain_world.specs.World.{IsPlayable, new_world, run}
use Rattle.chain_world.specs.WorldValue.{WorldValue}
use Rattle.chain_world.specs.Chain.{channels_of, is_quiet}
use Rattle.chain_world.specs.ChainValue.{ChainValue}
use Rattle.value_node.specs.ValueValue.{ValueValue}
use Rattle.value_node.specs.declared.states.Bind.TheVariants.{Bound}

-- each command is answered once, and the log is what the history says, on one of the channels that the chain had; where nothing
-- is under way on the chain each one was answered, and all that the history says has come
pub record ChainIsFaithful (images : List Image) (history : List Input) (agent : AgentValue) (chain : ChainValue) : Type 0 where
  pub once : Once (is_quiet chain agent) chain.client.log
  pub ordered : Ordered (is_quiet chain agent) chain.client.log images history (channels_of chain)

pub record IsFaithful (images : List Image) (w : WorldValue) : Type 0 where
  pub legal : IsLegal images w.history
  pub chains : AllByRecursion (ChainIsFaithful images w.history w.agent) w.chains

-- each answer with a position to a storable command, of the target or from a store on the way, is what the target answers there
abbrev pub AreFresh : List Image → WorldValue → Type 0
AreFresh images w = AllByRecursion (λ chain. Fresh chain.client.log images w.history) w.chains

-- facts that are true of the target at a position, which the history has reached; without one, nothing is known
abbrev pub IsTrueAt : List Image → List Input → Option ℕ → Facts → Type 0
IsTrueAt images history None known = IsPart known nothing
IsTrueAt images history (Some position) known = (position ≤ length history) × Holds known (target_at images history position)

-- so it is with what a value-add knows while it is bound
abbrev pub KnowsTarget : List Image → List Input → ValueValue → Type 0
KnowsTarget images history value = value.relay.bind ≡ Bound → IsTrueAt images history value.relay.store.mark (kept_in value.relay.store)

-- What the client of a chain keeps is true of the target, after each line of its log, and each line that asks the cache shows what
-- is kept then; and what a bound value-add knows is true at the position of the last message that it took from above.
pub record ChainIsCoherent (images : List Image) (history : List Input) (chain : ChainValue) : Type 0 where
  pub client : IsCoherent chain.client.log images history
  pub adds : AllByRecursion (KnowsTarget images history) chain.route.adds

abbrev pub AreCoherent : List Image → WorldValue → Type 0
AreCoherent images w = AllByRecursion (ChainIsCoherent images w.history) w.chains

-- no command is pending or held at an end that isn't closed
pub record LacksNothing {T : Type 0} (e : EndValue T) : Type 0 where
  pub pending : is_closed e.state ≡ false → e.pending ≡ []
  pub held : is_closed e.state ≡ false → e.held ≡ []

pub record AddLacksNothing (v : ValueValue) : Type 0 where
  pub lower : LacksNothing v.relay.lower
  pub upper : IfSome v.relay.upper LacksNothing

-- so it is at each end of a chain on which nothing is under way; an agent's ends never have one
pub record ChainLacksNothing (chain : ChainValue) : Type 0 where
  pub client : IfSome chain.client.channel LacksNothing
  pub adds : AllByRecursion AddLacksNothing chain.route.adds

pub record NothingIsStuck (w : WorldValue) : Type 0 where
  pub chains : AllByRecursion (λ chain. is_quiet chain w.agent ≡ true → ChainLacksNothing chain) w.chains
  pub agent : AllByRecursion (λ channel. LacksNothing channel.end) w.agent.channels

-- Whatever the steps of these chains are, with so many value-adds each.
abbrev pub FaithfulAfterEverySchedule : Type 0
FaithfulAfterEverySchedule = (images : List Image) (adds : List ℕ) (plans : List Plan) → AllByRecursion IsPlayable plans →
    IsFaithful images (run plans (new_world images adds))

-- So it is with what the clients keep; the bytes of images are below 256.
abbrev pub CoherentAfterEverySchedule : Type 0
CoherentAfterEverySchedule = (images : List Image) (adds : List ℕ) (plans : List Plan) → AreTyped images → AllByRecursion IsPlayable plans →
    AreCoherent images (run plans (new_world images adds))

-- And so it is with the answers that they were given.
abbrev pub FreshAfterEverySchedule : Type 0
FreshAfterEverySchedule = (images : List Image) (adds : List ℕ) (plans : List Plan) → AreTyped images → AllByRecursion IsPlayable plans →
    AreFresh images (run plans (new_world images adds))

-- And nothing is stuck.
abbrev pub NothingStuckAfterEverySchedule : Type 0
NothingStuckAfterEverySchedule = (images : List Image) (adds : List ℕ) (plans : List Plan) → AllByRecursion IsPlayable plans →
    NothingIsStuck (run plans (new_world images adds))
