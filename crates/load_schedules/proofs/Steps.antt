-- One more step is drawn.
use Rattle.std.proofs.Common.{◌≡◌, ℕ, suc, ◌+◌, ◌-◌, ◌<◌, ◌≤◌, List, [], ◌∷◌, ◌++◌, ◌∙◌, ap, sym, arith, append_assoc}
use Rattle.std.proofs.lemmas.List.{map-append, append-nil}
use Rattle.tcf_schedules.specs.declared.schedule.ScheduleStep.{ScheduleStep}
use Rattle.tcf_schedules.specs.Plan.{Plan, plan_of, plans_of}
use Rattle.load_schedules.specs.Drawn.{after_step, drawn_step, drawn_steps}

one_less : (count done : ℕ) → done < count → count - done ≡ suc (count - (done + 1))
one_less count done fewer = omega arith

-- so many are left, of which the first is drawn from this state
first_left : (count done state : ℕ) → done < count → drawn_steps (count - done) state ≡ drawn_step state ∷ drawn_steps (count - (done + 1)) (after_step state)
unfolding drawn_steps
first_left count done state fewer = ap (λ (n : ℕ). drawn_steps n state) (one_less count done fewer)

-- a step that is put last
pub put_last : (steps : List ScheduleStep) (step : ScheduleStep) (plan : Plan) → plan_of step ≡ plan → plans_of (steps ++ step ∷ []) ≡ plans_of steps ++ plan ∷ []
put_last steps step plan is = map-append plan_of steps (step ∷ []) ∙ ap (λ p. plans_of steps ++ p ∷ []) is

-- the steps so far and those that are left come to the same
pub one_more : (all : List Plan) (steps next : List ScheduleStep) (step : ScheduleStep) (count done state after : ℕ) → done < count
    → all ≡ plans_of steps ++ drawn_steps (count - done) state → plan_of step ≡ drawn_step state → after ≡ after_step state → next ≡ steps ++ step ∷ []
    → all ≡ plans_of next ++ drawn_steps (count - (done + 1)) after
one_more all steps next step count done state after fewer so_far is left put =
    so_far ∙ (ap (λ ps. plans_of steps ++ ps) (first_left count done state fewer)
    ∙ (sym (append_assoc (plans_of steps) (drawn_step state ∷ []) (drawn_steps (count - (done + 1)) (after_step state)))
    ∙ (ap (λ ps. ps ++ drawn_steps (count - (done + 1)) (after_step state)) (sym (put_last steps step (drawn_step state) is) ∙ ap plans_of (sym put))
    ∙ ap (λ (s : ℕ). plans_of next ++ drawn_steps (count - (done + 1)) s) (sym left))))

nothing : (count done : ℕ) → done ≤ count → count ≤ done → count - done ≡ 0
nothing count done most least = omega arith

-- none is left
pub none_left : (all plans : List Plan) (count done state : ℕ) → done ≤ count → count ≤ done → all ≡ plans ++ drawn_steps (count - done) state → plans ≡ all
unfolding drawn_steps
none_left all plans count done state most least so_far =
    sym (so_far ∙ (ap (λ (n : ℕ). plans ++ drawn_steps n state) (nothing count done most least) ∙ append-nil plans))
