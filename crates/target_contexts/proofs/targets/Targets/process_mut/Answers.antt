use Rattle.std.proofs.Common.{◌≡◌, ℕ, List, Some, slice_set, refl, sym, ap, ◌∙◌, ◌⊎◌, inl}
use mathlib.Core.Path.{fun_ext}
use Rattle.rv32i_core.specs.PageKind.{PageKind}
use Rattle.target_contexts.specs.Kept.{kinds_of, seen_rows, with_kept}
use Rattle.target_contexts.specs.KeptProcess.{KeptProcess}
use Rattle.target_contexts.specs.KeptTargets.{KeptTargets}
use Rattle.target_contexts.specs.Live.{place_of, with_process}
use Rattle.target_contexts.specs.ProcessValue.{ProcessValue}
use Rattle.target_contexts.proofs.Found.{live_at}
use Rattle.target_contexts.proofs.Kept.{inside_seen, kinds_by, kinds_there, orderly_written, process_by, seen_by}
use Rattle.target_contexts.proofs.targets.Targets.process_mut.Goals as goal

-- a loan under one name, whose lender ends as two functions say that are one
same_loan : {N F T : Type 0} (name : N) {f g : F} → f ≡ g → ◌≡◌ {A = (N × F) ⊎ T} (inl (name, f)) (inl (name, g))
same_loan name same = ap (λ h. inl (name, h)) same

-- what is written is a process, and its number stays
pub invariant_of-self-lent : goal.invariant_of-self-lent
invariant_of-self-lent c =
    λ w. orderly_written c.self.inside.live.items c.self.inside.next c.in_ok-place.place c.in_ok-row.row.now w c.self.invariant c.in_ok-row.ensures.value

-- the row of the number is written, and that row was read
pub returns : goal.returns
returns c =
    let rows : List (ℕ × KeptProcess) = c.self.inside.live.items in
    let row : ℕ × KeptProcess = c.in_ok-row.row.now in
    let place = c.in_ok-place.place in
    let found : place_of c.args.process (seen_rows rows) ≡ Some place =
    ap (λ (live : List (ℕ × KeptProcess)). place_of c.args.process (seen_rows live)) (sym c.deref.ensures.value) ∙ sym c.in_ok-place.ensures.place in
    let targets : List (ℕ × ProcessValue) → List (List PageKind) → KeptTargets =
    λ seen kinds. record { seen = record { images = c.self.inside.images.items; processes = seen; next = c.self.inside.next }; kinds = kinds } in
    let written : (w : KeptProcess) → targets (seen_rows (slice_set rows place (row.0, w))) (kinds_of (slice_set rows place (row.0, w))) ≡ with_kept c.args.process w (targets (seen_rows rows) (kinds_of rows)) =
    λ w. ap (λ (seen : List (ℕ × ProcessValue)). targets seen (kinds_of (slice_set rows place (row.0, w)))) (sym (seen_by c.args.process rows place row w found c.in_ok-row.ensures.value))
    ∙ ap (λ (kinds : List (List PageKind)). targets (with_process c.args.process w.seen (seen_rows rows)) kinds) (sym (kinds_by rows place row.0 w (place_of c.args.process (seen_rows rows)) found)) in
    rw (← c.self.view_is) (
      same_loan _ (fun_ext written),
      record {
        writes_back = tt;
        value = sym (process_by c.args.process rows place row found c.in_ok-row.ensures.value);
        kinds = sym (kinds_there rows place row (place_of c.args.process (seen_rows rows)) found (inside_seen rows place c.args.process found) c.in_ok-row.ensures.value);
        found = (λ _. live_at c.args.process (seen_rows rows) place found, λ _. refl);
      },
    )
