-- One more step of a list is played.
use Rattle.std.proofs.Common.{◌≡◌, ℕ, ◌+◌, ◌<◌, List, ◌∷◌, length, ap, sym, subst, ◌∙◌, arith, drop, get_or}
use Rattle.std.specs.List.{AllByRecursion}
use Rattle.std.proofs.lemmas.List.{drop_more, get_or-map, length-map}
use Rattle.std.proofs.lemmas.List.Elements.{All-from_recursion}
use Rattle.tcf_schedules.specs.Plan.{Plan, plan_of, plans_of}
use Rattle.tcf_schedules.specs.declared.schedule.ScheduleStep.{ScheduleStep}
use Rattle.chain_world.specs.World.{IsPlayable, played, run}
use Rattle.chain_world.specs.WorldValue.{WorldValue}
use Rattle.chain_world.proofs.Kept.{played_kept}

pub each_playable : (steps : List ScheduleStep) (at : ℕ) (step : ScheduleStep) → AllByRecursion IsPlayable (plans_of steps) → at < length steps → step ≡ get_or steps at step → IsPlayable (plan_of step)
each_playable steps at step all within is =
    let below : at < length (plans_of steps) = omega (arith, length-map steps plan_of) in
    subst IsPlayable (get_or-map plan_of steps at step (plan_of step) within ∙ ap plan_of (sym is)) (All-from_recursion IsPlayable (plans_of steps) all at (plan_of step) below)

pub one_step : (steps : List ScheduleStep) (at : ℕ) (step : ScheduleStep) (w next : WorldValue) → at < length steps → step ≡ get_or steps at step
    → next ≡ played (plan_of step) w → run (plans_of (drop at steps)) w ≡ run (plans_of (drop (at + 1) steps)) next
one_step steps at step w next within is done =
    let front : drop at steps ≡ step ∷ drop (at + 1) steps = drop_more steps at step within ∙ ap (λ x. x ∷ drop (at + 1) steps) (sym is) in
    ap (λ xs. run (plans_of xs) w) front ∙ ap (run (plans_of (drop (at + 1) steps))) (sym done)

pub sizes_kept : (plan : Plan) (w next first : WorldValue) → next ≡ played plan w → length w.chains ≡ length first.chains → length next.chains ≡ length first.chains
sizes_kept plan w next first done same = ap (λ (v : WorldValue). length v.chains) done ∙ played_kept plan w ∙ same
