-- The log of a client says what the steps of a schedule asked of it.
use Rattle.std.specs.Prelude.{ℕ, ◌≡◌, ◌==◌, Bool, true, false, List, [], ◌∷◌, slice_get, Some}
use Rattle.std.specs.List.{AllByRecursion, AllZip, filter, flat_map, repeat}
use Rattle.chain_world.specs.ChainValue.{ChainValue}
use Rattle.chain_world.specs.World.{IsPlayable, new_world, run}
use Rattle.chain_world.specs.WorldValue.{WorldValue}
use Rattle.target_contexts.specs.declared.process.Image.{Image}
use Rattle.tcf_schedules.specs.Plan.{Plan, cached, send, times}
use Rattle.tcf_text.specs.declared.log.LogLine.{LogLine}
use Rattle.tcf_text.specs.declared.log.LogLine.TheVariants.{Cached, Refused, Sent}

-- ---- What the steps ask

-- a step that is repeated stands there so many times
abbrev pub unrolled : Plan → List Plan
unrolled (times count plan) = repeat count (unrolled plan)
unrolled plan = plan ∷ []

-- a step by which the client of the chain at a place is to send a command, or to show what its cache keeps
abbrev pub asks_at : ℕ → Plan → Bool
asks_at at (send chain service name body) = chain == at
asks_at at (cached chain what) = chain == at
asks_at at plan = false

-- the steps of a schedule that ask something of that client, in order, repeats unrolled
abbrev pub asked_at : ℕ → List Plan → List Plan
asked_at at plans = filter (asks_at at) (flat_map unrolled plans)

-- ---- What a log says of it

-- the lines that tell of such a step: `sent`, `refused` and `cached`
abbrev pub tells_step : LogLine → Bool
tells_step (Sent number service name body) = true
tells_step (Refused why) = true
tells_step (Cached what value) = true
tells_step line = false

-- A command was sent as the step says it, by its service, its name and its data, or it was refused; and where
-- the cache was asked, the line says what for.
abbrev pub IsLineOf : Plan → LogLine → Type 0
IsLineOf (send chain service name body) (Sent number sent_service sent_name sent_body) =
    (sent_service ≡ service) × (sent_name ≡ name) × (sent_body ≡ body)
IsLineOf (send chain service name body) (Refused why) = Unit {0}
IsLineOf (cached chain what) (Cached asked value) = asked ≡ what
IsLineOf plan line = ⊥

-- a log has one such line for each of these steps, in their order
abbrev pub SaysSteps : List LogLine → List Plan → Type 0
SaysSteps log steps = AllZip IsLineOf steps (filter tells_step log)

-- so the log of each chain says what these steps asked of its client
abbrev pub AllSaySteps : List Plan → WorldValue → Type 0
AllSaySteps plans w =
    (at : ℕ) (chain : ChainValue) → slice_get w.chains at ≡ Some chain → SaysSteps chain.client.log (asked_at at plans)

-- Whatever the steps of these chains are, with so many value-adds each.
abbrev pub LogSaysSteps : Type 0
LogSaysSteps =
    (images : List Image) (adds : List ℕ) (plans : List Plan) → AllByRecursion IsPlayable plans →
    AllSaySteps plans (run plans (new_world images adds))
