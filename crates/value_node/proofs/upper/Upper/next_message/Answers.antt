use Rattle.std.proofs.Common.{arith, ℕ, true, false, ◌≡◌, cond, ap, sym, ◌∙◌}
use Rattle.value_node.specs.Barriers.{is_barrier_done}
use Rattle.value_node.proofs.Pending.{taken_keeps}
use Rattle.value_node.proofs.upper.Upper.next_message.Goals as goal

-- the barriers that are left, with the one that was answered, are those that were counted
pub overflow_sub-self : goal.overflow_sub-self
overflow_sub-self c =
    let left = taken_keeps c.self.inside.barriers c.in_ok-taken.taken c.self.inside.end c.next_message.new.self c.in_ok-taken.ensures.taken c.in_ok-taken.ensures.fresh c.self.invariant in
    let done : is_barrier_done c.in_ok-taken.taken ≡ true = sym c.is_barrier_done.ensures ∙ c.if-is_barrier_done.true in
    omega (arith, ap {B = ℕ} (λ flag. cond flag 1 0) done)

pub invariant_of-self-then-is_barrier_done : goal.invariant_of-self-then-is_barrier_done
invariant_of-self-then-is_barrier_done c = λ _.
    let left = taken_keeps c.self.inside.barriers c.in_ok-taken.taken c.self.inside.end c.next_message.new.self c.in_ok-taken.ensures.taken c.in_ok-taken.ensures.fresh c.self.invariant in
    let done : is_barrier_done c.in_ok-taken.taken ≡ true = sym c.is_barrier_done.ensures ∙ c.if-is_barrier_done.true in
    omega (arith, ap {B = ℕ} (λ flag. cond flag 1 0) done)

pub invariant_of-self-else-is_barrier_done : goal.invariant_of-self-else-is_barrier_done
invariant_of-self-else-is_barrier_done c = λ _.
    let left = taken_keeps c.self.inside.barriers c.in_ok-taken.taken c.self.inside.end c.next_message.new.self c.in_ok-taken.ensures.taken c.in_ok-taken.ensures.fresh c.self.invariant in
    let done : is_barrier_done c.in_ok-taken.taken ≡ false = sym c.is_barrier_done.ensures ∙ c.if-is_barrier_done.false in
    omega (arith, ap {B = ℕ} (λ flag. cond flag 1 0) done)
