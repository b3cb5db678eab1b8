-- What contracts see of a memory: its bytes, its spare pages, and how each of its pages is kept.
use Rattle.std.specs.Prelude.{ℕ, Bool, true, false, List, Option, Some, None}
use Rattle.std.specs.List.{count_by}

-- a page of zeros for which nothing is kept, a page that is kept once for all memories of one image, or a page that is
-- kept for this memory alone
pub data PageKind : Type 0 where
  absent : PageKind
  shared : PageKind
  own : PageKind

-- 65,536 bytes, how many pages are ready to become own, and the kinds of the 256 pages
pub record MemoryValue : Type 0 where
  pub bytes : List ℕ
  pub spare : ℕ
  pub kinds : List PageKind

abbrev pub is_own : PageKind → Bool
is_own own = true
is_own _ = false

-- how many of these pages are own
abbrev pub own_count : List PageKind → ℕ
own_count kinds = count_by is_own kinds

-- how many spare pages it takes to make a page own
abbrev pub to_own : Option PageKind → ℕ
to_own (Some own) = 0
to_own (Some absent) = 1
to_own (Some shared) = 1
to_own None = 0
