-- How often a breakpoint was hit in each process. This profile's own, told with the instances of TCF service Breakpoints,
-- getStatus.
use Rattle.std.specs.Prelude.{ℕ, ◌+◌, ◌==◌, ◌<◌, ◌^◌, min, not, if◌then◌else◌, List, [], ◌∷◌, filter, find}
use Rattle.std.specs.List.{AllByRecursion}
use Rattle.std.specs.Option.{option_map_or}

-- of the counts that were raised, each beside its process in the order of the first hits, that of a process; it is 0 where
-- none was raised
abbrev pub count_of : ℕ → List (ℕ × ℕ) → ℕ
count_of process counts = option_map_or (λ entry. entry.1) (find (λ entry. entry.0 == process) counts) 0

-- one more, as far as 32 bits go
abbrev pub one_more : ℕ → ℕ
one_more count = min (count + 1) 4294967295

-- the count of a process raised by a hit
abbrev pub raised : ℕ → List (ℕ × ℕ) → List (ℕ × ℕ)
raised process [] = (process, 1) ∷ []
raised process (entry ∷ counts) =
    if entry.0 == process then (entry.0, one_more entry.1) ∷ counts else entry ∷ raised process counts

-- the count of a process dropped
abbrev pub without : ℕ → List (ℕ × ℕ) → List (ℕ × ℕ)
without process counts = filter (λ entry. not (entry.0 == process)) counts

-- each is of 32 bits
abbrev pub AreCounts : List (ℕ × ℕ) → Type 0
AreCounts counts = AllByRecursion (λ entry. entry.1 < 2 ^ 32) counts
