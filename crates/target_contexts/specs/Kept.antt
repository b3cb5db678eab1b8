-- The processes of a target with the kinds of their pages, which nothing that is told speaks of.
use Rattle.std.specs.Prelude.{ℕ, ◌≡◌, ◌==◌, List, [], ◌∷◌, ◌++◌, map, position, remove, slice_get, slice_set, Option, Some, None, option_and_then}
use Rattle.rv32i_core.specs.PageKind.{PageKind, own_count}
use Rattle.target_contexts.specs.KeptProcess.{KeptProcess}
use Rattle.target_contexts.specs.KeptTargets.{KeptTargets}
use Rattle.target_contexts.specs.Live.{place_of, with_process}
use Rattle.target_contexts.specs.ProcessValue.{ProcessValue}

-- a process beside its number, as it is seen
abbrev pub seen_row : ℕ × KeptProcess → ℕ × ProcessValue
seen_row row = (row.0, row.1.seen)

abbrev pub seen_rows : List (ℕ × KeptProcess) → List (ℕ × ProcessValue)
seen_rows rows = map seen_row rows

abbrev pub kinds_of : List (ℕ × KeptProcess) → List (List PageKind)
kinds_of rows = map (λ row. row.1.kinds) rows

-- where the process of this number stands
abbrev pub place_in : ℕ → List (ℕ × KeptProcess) → Option ℕ
place_in number rows = position (λ row. row.0 == number) rows

-- an element at this place, if there is one
abbrev pub put_at : {A : Type 0} → List A → Option ℕ → A → List A
put_at xs (Some place) x = slice_set xs place x
put_at xs None x = xs

abbrev pub removed_at : {A : Type 0} → List A → Option ℕ → List A
removed_at xs (Some place) = remove xs place
removed_at xs None = xs

-- the pages of the process of this number
abbrev pub kinds_at : ℕ → KeptTargets → Option (List PageKind)
kinds_at number targets = option_and_then (slice_get targets.kinds) (place_of number targets.seen.processes)

-- the process of this number is now this one, with these pages; all others stay
abbrev pub with_kept : ℕ → KeptProcess → KeptTargets → KeptTargets
with_kept number process targets = record {
  seen = record targets.seen { processes = with_process number process.seen targets.seen.processes };
  kinds = put_at targets.kinds (place_of number targets.seen.processes) process.kinds;
}

-- the pages of one process more, none of which is own
pub record AddsNoOwn (before after : List (List PageKind)) : Type 0 where
  pub added : List PageKind
  pub behind : after ≡ before ++ added ∷ []
  pub none : own_count added ≡ 0
