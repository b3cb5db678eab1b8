-- For what the ends of a world close.
use Rattle.std.specs.Prelude.{ℕ, ◌≡◌, ◌==◌, ◌⊎◌, nat_lt, Bool, true, false, ◌&&◌, Contains, List, slice_get, Option, Some, None, IfSome}
use Rattle.std.specs.List.{AllByRecursion, list_any}
use Rattle.channel_core.specs.declared.states.Cause.{Cause}
use Rattle.channel_core.specs.declared.states.Cause.TheVariants as causes
use Rattle.channel_core.specs.declared.states.EndState.{EndState}
use Rattle.channel_core.specs.declared.states.EndState.TheVariants.{Opening, Live, Reopening, Closed}
use Rattle.target_contexts.specs.declared.process.Image.{Image}
use Rattle.target_hub.specs.History.{was_opened}
use Rattle.target_hub.specs.declared.input.Input.{Input}
use Rattle.tcf_schedules.specs.Plan.{Plan, close, cut, times}
use Rattle.tcf_text.specs.declared.log.EndWhy.{EndWhy}
use Rattle.tcf_text.specs.declared.log.EndWhy.TheVariants as ends
use Rattle.tcf_text.specs.declared.log.LogLine.TheVariants as lines
use Rattle.chain_world.specs.World.{IsPlayable, new_world, run}
use Rattle.chain_world.specs.WorldValue.{WorldValue}
use Rattle.chain_world.specs.ChainValue.{ChainValue}
use Rattle.chain_route.specs.Route.{last_of}
use Rattle.value_node.specs.ValueValue.{ValueValue}

-- ---- What the steps do to the chain at a place

-- its client closes
abbrev pub closes_at : ℕ → Plan → Bool
closes_at at (close chain) = chain == at
closes_at at (times count plan) = closes_at at plan
closes_at at plan = false

-- its first hop is cut, or another one
abbrev pub is_other : ℕ → Bool
is_other hop = nat_lt 0 hop

abbrev pub cuts_first : ℕ → Plan → Bool
cuts_first at (cut chain hop) = chain == at && (hop == 0)
cuts_first at (times count plan) = cuts_first at plan
cuts_first at plan = false

abbrev pub cuts_another : ℕ → Plan → Bool
cuts_another at (cut chain hop) = chain == at && is_other hop
cuts_another at (times count plan) = cuts_another at plan
cuts_another at plan = false

-- ---- The clients

-- its client stands on the agent alone, which refused to open its channel
abbrev pub IsRefusedUnder : List Input → Option ℕ → Type 0
IsRefusedUnder history None = Unit {0}
IsRefusedUnder history (Some k) = was_opened k history ≡ false

pub record IsRefused (history : List Input) (chain : ChainValue) : Type 0 where
  pub alone : last_of chain.route ≡ 0
  pub refused : IsRefusedUnder history chain.channel

-- For what the log of the chain at a place may end: for its own closing only where a step closes it; for the loss of the
-- connection only where a step cuts its first hop; for the end of the other side's stream only where a step cuts another hop
-- of the chain, or where it has no value-adds and the agent refused its channel; and never for a fault of the other side.
abbrev pub MayEnd : List Plan → List Input → ℕ → ChainValue → EndWhy → Type 0
MayEnd plans history at chain ends.Own = list_any (closes_at at) plans ≡ true
MayEnd plans history at chain ends.Eos = (list_any (cuts_another at) plans ≡ true) ⊎ IsRefused history chain
MayEnd plans history at chain ends.Ended = list_any (cuts_first at) plans ≡ true
MayEnd plans history at chain ends.Protocol = ⊥
MayEnd plans history at chain ends.Stream = ⊥

abbrev pub EndsRightly : List Plan → List Input → ℕ → ChainValue → Type 0
EndsRightly plans history at chain = (why : EndWhy) → Contains chain.client.log (lines.Ended why) → MayEnd plans history at chain why

-- ---- The value-adds

-- an end closes by no fault of its other side
abbrev pub IsSound : Cause → Type 0
IsSound causes.Own = Unit {0}
IsSound causes.Eos = Unit {0}
IsSound causes.Ended = Unit {0}
IsSound (causes.Protocol message reason) = ⊥
IsSound (causes.Stream fault) = ⊥

abbrev pub ClosesSoundly : EndState → Type 0
ClosesSoundly Opening = Unit {0}
ClosesSoundly Live = Unit {0}
ClosesSoundly Reopening = Unit {0}
ClosesSoundly (Closed cause) = IsSound cause

pub record AddIsSound (v : ValueValue) : Type 0 where
  pub lower : ClosesSoundly v.relay.lower.state
  pub upper : IfSome v.relay.upper (λ e. ClosesSoundly e.state)

-- ---- The agent

-- its end of a channel closes since the client ended its stream, or since the connection was lost
abbrev pub IsLeft : Cause → Type 0
IsLeft causes.Own = ⊥
IsLeft causes.Eos = Unit {0}
IsLeft causes.Ended = Unit {0}
IsLeft (causes.Protocol message reason) = ⊥
IsLeft (causes.Stream fault) = ⊥

abbrev pub ClosesRightly : EndState → Type 0
ClosesRightly Opening = Unit {0}
ClosesRightly Live = Unit {0}
ClosesRightly Reopening = Unit {0}
ClosesRightly (Closed cause) = IsLeft cause

-- ---- A world

-- the ends of a world that these steps brought about
pub record EndsAllRightly (plans : List Plan) (w : WorldValue) : Type 0 where
  pub clients : (at : ℕ) (chain : ChainValue) → slice_get w.chains at ≡ Some chain → EndsRightly plans w.history at chain
  pub adds : AllByRecursion (λ chain. AllByRecursion AddIsSound chain.route.adds) w.chains
  pub agent : AllByRecursion (λ channel. ClosesRightly channel.end.state) w.agent.channels

-- Whatever the steps of these chains are.
abbrev pub EndsRightlyAfterEverySchedule : Type 0
EndsRightlyAfterEverySchedule = (images : List Image) (adds : List ℕ) (plans : List Plan) → AllByRecursion IsPlayable plans →
    EndsAllRightly plans (run plans (new_world images adds))
