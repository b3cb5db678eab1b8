use Rattle.std.proofs.Common.{◌≡◌, ℕ, ℤ, Option, sym, ap, ◌∙◌}
use Rattle.std.specs.Int.{w128}
use Rattle.std.proofs.lemmas.Int.{to_z-of_z}
use Rattle.target_contexts.specs.declared.process.ThreadState.{ThreadState}
use Rattle.target_contexts.specs.declared.process.ThreadState.TheVariants.{Running}
use Rattle.run_control.specs.Commands.{left_of}
use Rattle.run_control.specs.Steering.{left_by, resume_after, state_after}
use Rattle.run_control.proofs.steering.resume.Goals as goal

-- numbers that are passed on stay the same
left_same : (passed_mode mode passed_count count : ℤ) → passed_mode ≡ mode → passed_count ≡ count → left_by passed_mode passed_count ≡ left_by mode count
left_same passed_mode mode passed_count count same_mode same_count =
    ap (λ (m : ℤ). left_by m passed_count) same_mode ∙ ap (λ (n : ℤ). left_by mode n) same_count

-- the thread that the text names has the state
pub returns-clause-after : goal.returns-clause-after
returns-clause-after c =
    let targets = c.args.targets.now.seen in
    let pair : ℕ × ℕ = (c.in_ok-number.number, c.in_ok-number.n) in
    c.set_state.ensures
    ∙ ap (λ (state : ThreadState). state_after state pair.0 pair.1 targets) c.resumed.ensures
    ∙ ap (λ (left : Option ℕ). state_after (Running left) pair.0 pair.1 targets)
    (left_same _ c.args.mode _ c.args.count (to_z-of_z w128 c.args.mode c.ranges.mode) (to_z-of_z w128 c.args.count c.ranges.count))
    ∙ sym (ap (λ (named : Option (ℕ × ℕ)). left_of (λ p. resume_after (left_by c.args.mode c.args.count) p.0 p.1) named targets) c.in_ok-number.ensures.pair)
