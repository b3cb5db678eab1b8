-- A world with its past is the world that the same steps bring about.
use Rattle.std.proofs.Common.{◌≡◌, ℕ, zero, suc, ◌+◌, Bool, true, false, cond, List, [], ◌∷◌, length, Option, Some, None, refl, ap, ◌∙◌}
use Rattle.std.specs.Prelude.{slice_get}
use Rattle.tcf_schedules.specs.Plan.{Plan, cached, close, cut as cut_plan, deliver, opens, rounds as rounds_plan, send, tick, times, turn}
use Rattle.value_node.specs.declared.states.Side.{Side}
use Rattle.value_node.specs.declared.states.Side.TheVariants.{Below, Above}
use Rattle.chain_world.specs.Chain.{all_down, all_taken_down, all_up, is_opened}
use Rattle.chain_world.specs.ChainValue.{ChainValue}
use Rattle.chain_world.specs.Past as notes
use Rattle.chain_world.specs.Past.{WorldIsPlayed, WorldRun, new_run}
use Rattle.chain_world.specs.World.{add_rounded, adds_in, adds_rounded, agent_taken, all_round_down, all_to_add, on_chain, played, repeated, round_all, round_at, round_from, round_of, rounded_down, rounded_up, rounds, run, turn_of_add, turn_of_agent, waiting_at_add, waiting_in_chain, with_agent}
use Rattle.chain_world.specs.WorldValue.{WorldValue}

-- a step with the past, and one of the world
abbrev Follows : (WorldRun → WorldRun) → (WorldValue → WorldValue) → Type 0
Follows step plain = (r : WorldRun) → (step r).world ≡ plain r.world

repeated_follows : (n : ℕ) (step : WorldRun → WorldRun) (plain : WorldValue → WorldValue) → Follows step plain → Follows (repeated n step) (repeated n plain)
repeated_follows zero step plain each r = refl
repeated_follows (suc n) step plain each r = repeated_follows n step plain each (step r) ∙ ap (repeated n plain) (each r)

either_follows : (flag : Bool) (one other : WorldRun) (first second : WorldValue) → one.world ≡ first → other.world ≡ second → (cond flag one other).world ≡ cond flag first second
either_follows true one other first second is same = is
either_follows false one other first second is same = same

-- ---- Rounds

rounded_follows : (at add : ℕ) (side : Side) → Follows (notes.add_rounded at add side) (add_rounded at add side)
rounded_follows at add side r =
    let next : WorldRun = notes.steps (on_chain (all_to_add side add) at) (notes.on_chain (notes.all_to_add side add) at) r in
    repeated_follows (waiting_at_add side add (slice_get next.world.chains at)) (notes.turn_of_add at add side) (turn_of_add at add side) (λ v. refl) next

ups_follow : (n add at : ℕ) → Follows (notes.adds_rounded n add at) (adds_rounded n add at)
ups_follow zero add at r = refl
ups_follow (suc n) add at r = ups_follow n (add + 1) at (notes.add_rounded at add Below r) ∙ ap (adds_rounded n (add + 1) at) (rounded_follows at add Below r)

downs_follow : (n at : ℕ) → Follows (notes.rounded_down n at) (rounded_down n at)
downs_follow zero at r = refl
downs_follow (suc n) at r = downs_follow n at (notes.add_rounded at n Above r) ∙ ap (rounded_down n at) (rounded_follows at n Above r)

round_up_follows : (at : ℕ) → Follows (notes.rounded_up at) (rounded_up at)
round_up_follows at r = ap (with_agent all_up at) (ups_follow (adds_in (slice_get r.world.chains at)) 0 at r)

taken_follows : (at : ℕ) → Follows (notes.agent_taken at) (agent_taken at)
taken_follows at r = repeated_follows (waiting_in_chain (slice_get r.world.chains at) r.world) (notes.turn_of_agent at) (turn_of_agent at) (λ v. refl) r

down_follows : (at : ℕ) → Follows (notes.all_round_down at) (all_round_down at)
down_follows at r = downs_follow (adds_in (slice_get r.world.chains at)) at r

round_of_follows : (at : ℕ) → Follows (notes.round_of at) (round_of at)
round_of_follows at r =
    let up = notes.rounded_up at r in
    let taken = notes.agent_taken at up in
    ap (on_chain (λ c. all_taken_down (all_down c)) at)
    (down_follows at taken ∙ ap (all_round_down at) (taken_follows at up ∙ ap (agent_taken at) (round_up_follows at r)))

round_follows : (at : ℕ) → Follows (notes.round_at at) (round_at at)
round_follows at r = by_place (slice_get r.world.chains at)
  where
    by_place : (there : Option ChainValue) → (notes.round_from at there r).world ≡ round_from at there r.world
    by_place None = refl
    by_place (Some c) = either_follows (is_opened c) (notes.round_of at r) r (round_of at r.world) r.world (round_of_follows at r) refl

round_all_follows : (n at : ℕ) → Follows (notes.round_all n at) (round_all n at)
round_all_follows zero at r = refl
round_all_follows (suc n) at r = round_all_follows n (at + 1) (notes.round_at at r) ∙ ap (round_all n (at + 1)) (round_follows at r)

rounds_follow : (n : ℕ) → Follows (notes.rounds n) (rounds n)
rounds_follow zero r = refl
rounds_follow (suc n) r = rounds_follow n (notes.round_all (length r.world.chains) 0 r) ∙ ap (rounds n) (round_all_follows (length r.world.chains) 0 r)

-- ---- Every step

played_follows : (plan : Plan) → Follows (notes.played plan) (played plan)
played_follows (opens at) r = refl
played_follows (send at service name body) r = refl
played_follows (deliver at hop up count) r = refl
played_follows (turn at node up) r = refl
played_follows (tick thread) r = refl
played_follows (close at) r = refl
played_follows (cut_plan at hop) r = refl
played_follows (cached at what) r = refl
played_follows (rounds_plan count) r = rounds_follow count r
played_follows (times count plan) r = repeated_follows count (notes.played plan) (played plan) (played_follows plan) r

run_follows : (plans : List Plan) → Follows (notes.run plans) (run plans)
run_follows [] r = refl
run_follows (plan ∷ plans) r = run_follows plans (notes.played plan r) ∙ ap (run plans) (played_follows plan r)

pub world_is_played : WorldIsPlayed
world_is_played images adds plans = run_follows plans (new_run images adds)
