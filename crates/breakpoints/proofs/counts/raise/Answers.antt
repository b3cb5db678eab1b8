use Rattle.std.proofs.Common.{◌==◌, ℕ, sym, ap, ◌∙◌}
use Rattle.std.specs.Prelude.{position}
use Rattle.breakpoints.proofs.Raising.{raised_new}
use Rattle.breakpoints.proofs.counts.raise.Goals as goal

-- a process without a count is put last
pub returns-in_ok-push_first-in-None : goal.returns-in_ok-push_first-in-None
returns-in_ok-push_first-in-None c =
    c.in_ok-push_first-in-None.ensures
    ∙ sym (raised_new c.args.process c.args.counts.now.items
    (c.in-None.ensures.place ∙ ap (position (λ (e : ℕ × ℕ). e.0 == c.args.process)) c.deref.ensures.value))
