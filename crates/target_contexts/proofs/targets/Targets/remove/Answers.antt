use Rattle.std.proofs.Common.{◌≡◌, ℕ, List, Option, Some, refl, sym, ap, ◌∙◌}
use Rattle.target_contexts.specs.Kept.{kinds_of, seen_rows}
use Rattle.target_contexts.specs.KeptProcess.{KeptProcess}
use Rattle.target_contexts.specs.Live.{place_of, without_at}
use Rattle.target_contexts.specs.ProcessValue.{ProcessValue}
use Rattle.target_contexts.specs.TargetsValue.{TargetsValue}
use Rattle.target_contexts.proofs.Found.{live_at}
use Rattle.target_contexts.proofs.Kept.{kinds_removed, orderly_removed, rows_removed}
use Rattle.target_contexts.proofs.targets.Targets.remove.Goals as goal

-- the numbers that are left still rise
pub invariant_of-self : goal.invariant_of-self
invariant_of-self c =
    rw c.remove.ensures.items (orderly_removed c.self.inside.live.items c.self.inside.next c.in-Some.place c.self.invariant)

-- what was taken away was live
pub returns-in-Some-clause-found : goal.returns-in-Some-clause-found
returns-in-Some-clause-found c =
    let rows : List (ℕ × KeptProcess) = c.self.inside.live.items in
    let found : place_of c.args.process (seen_rows rows) ≡ Some c.in-Some.place =
    ap (λ (live : List (ℕ × KeptProcess)). place_of c.args.process (seen_rows live)) (sym c.deref.ensures.value) ∙ sym c.in-Some.ensures.place in
    rw (← c.self.view_is) (λ _. live_at c.args.process (seen_rows rows) c.in-Some.place found, λ _. refl)

pub returns-in-Some-clause-after : goal.returns-in-Some-clause-after
returns-in-Some-clause-after c =
    let rows : List (ℕ × KeptProcess) = c.self.inside.live.items in
    let found : place_of c.args.process (seen_rows rows) ≡ Some c.in-Some.place =
    ap (λ (live : List (ℕ × KeptProcess)). place_of c.args.process (seen_rows live)) (sym c.deref.ensures.value) ∙ sym c.in-Some.ensures.place in
    let left = ap seen_rows c.remove.ensures.items ∙ rows_removed rows c.in-Some.place ∙ ap (λ (o : Option ℕ). without_at (seen_rows rows) o) (sym found) in
    let targets : List (ℕ × ProcessValue) → TargetsValue = λ seen. record { images = c.self.inside.images.items; processes = seen; next = c.self.inside.next } in
    rw (← c.self.view_is) (ap targets left)

pub returns-in-Some-clause-kinds : goal.returns-in-Some-clause-kinds
returns-in-Some-clause-kinds c =
    let rows : List (ℕ × KeptProcess) = c.self.inside.live.items in
    let found : place_of c.args.process (seen_rows rows) ≡ Some c.in-Some.place =
    ap (λ (live : List (ℕ × KeptProcess)). place_of c.args.process (seen_rows live)) (sym c.deref.ensures.value) ∙ sym c.in-Some.ensures.place in
    rw (← c.self.view_is) (ap kinds_of c.remove.ensures.items ∙ kinds_removed rows c.in-Some.place _ found)
