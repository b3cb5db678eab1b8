-- A process that is written as it was changes nothing.
use Rattle.std.proofs.Common.{◌≡◌, ℕ, List, slice_get, slice_set, Option, Some, None, option_map, refl, sym, ◌∙◌, ap}
use Rattle.std.proofs.lemmas.List.{set-get_or}
use Rattle.std.proofs.lemmas.Option.{get_or_from_slice_get}
use Rattle.target_contexts.specs.Laws.{PutBackChangesNothing}
use Rattle.target_contexts.specs.Live.{place_of, process_at, with_at, with_row}
use Rattle.target_contexts.specs.ProcessValue.{ProcessValue}

some_same : (a b : ProcessValue) → ◌≡◌ {A = Option ProcessValue} (Some a) (Some b) → a ≡ b
some_same a b e = cc

row_back : (rows : List (ℕ × ProcessValue)) (place : ℕ) (process : ProcessValue) (row : Option (ℕ × ProcessValue)) → slice_get rows place ≡ row → option_map (λ (r : ℕ × ProcessValue). r.1) row ≡ Some process
    → with_row process rows place row ≡ rows
row_back rows place process None read there = refl
row_back rows place process (Some row) read there =
    ap (λ (p : ProcessValue). slice_set rows place (row.0, p)) (sym (some_same row.1 process there))
    ∙ ap (λ (r : ℕ × ProcessValue). slice_set rows place r) (sym (get_or_from_slice_get rows place row row read)) ∙ set-get_or rows place row

at_back : (rows : List (ℕ × ProcessValue)) (process : ProcessValue) (place : Option ℕ) → process_at rows place ≡ Some process → with_at process rows place ≡ rows
at_back rows process None there = refl
at_back rows process (Some place) there = row_back rows place process (slice_get rows place) refl there

pub put_back : PutBackChangesNothing
put_back rows number process there = at_back rows process (place_of number rows) there
