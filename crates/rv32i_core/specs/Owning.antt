-- Which pages become own when memory is written.
use Rattle.std.specs.Prelude.{ℕ, ◌+◌, ◌*◌, ◌/◌, ◌≡◌, ◌≤◌, ◌<◌, ◌⊎◌, List, length, slice_get, Some}
use Rattle.rv32i_core.specs.PageKind.{PageKind, MemoryValue, own, own_count}

-- at most so many pages become own, each of them from the spare, and all others keep their kind
pub record BecomeOwn (most : ℕ) (before after : MemoryValue) : Type 0 where
  pub others : (page : ℕ) → (slice_get after.kinds page ≡ slice_get before.kinds page) ⊎ (slice_get after.kinds page ≡ Some own)
  pub count : length after.kinds ≡ length before.kinds
  pub few : own_count after.kinds ≤ own_count before.kinds + most
  pub spare : after.spare + own_count after.kinds ≡ before.spare + own_count before.kinds

-- so many bytes from a place on have one that lies in the page of this number
pub record Touches (place count page : ℕ) : Type 0 where
  pub some : 0 < count
  pub begins : place < 256 * page + 256
  pub ends : 256 * page < place + count

-- the pages with a byte of the range are own, and all others keep their kind
pub record RangeIsOwn (place count : ℕ) (before after : List PageKind) : Type 0 where
  pub owned : (page : ℕ) → Touches place count page → slice_get after page ≡ Some own
  pub others : (page : ℕ) → (Touches place count page → ⊥) → slice_get after page ≡ slice_get before page

-- the same of the pages from one on up to another
pub record PagesAreOwn (first end : ℕ) (before after : List PageKind) : Type 0 where
  pub owned : (page : ℕ) → first ≤ page → page < end → slice_get after page ≡ Some own
  pub below : (page : ℕ) → page < first → slice_get after page ≡ slice_get before page
  pub above : (page : ℕ) → end ≤ page → slice_get after page ≡ slice_get before page

-- the pages of so many bytes from a place on are own
abbrev pub AreOwn : ℕ → ℕ → List PageKind → Type 0
AreOwn place count kinds = (offset : ℕ) → offset < count → slice_get kinds ((place + offset) / 256) ≡ Some own
