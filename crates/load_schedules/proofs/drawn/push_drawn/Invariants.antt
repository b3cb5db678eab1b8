use Rattle.std.proofs.Common.{◌≡◌, ◌-◌, ◌++◌}
use Rattle.tcf_schedules.specs.Plan.{plans_of}
use Rattle.load_schedules.specs.Drawn.{drawn_steps}
use Rattle.load_schedules.proofs.drawn.push_drawn.Given as goal

-- the steps so far and those that are left come to the same
abbrev pub invariant-loop : goal.invariant-loop
invariant-loop l = plans_of l.initial.steps ++ drawn_steps l.count l.initial.draws ≡ plans_of l.steps ++ drawn_steps (l.count - l.counter) l.draws
