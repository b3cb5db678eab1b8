-- Memory as 256 pages of 256 bytes, one behind another.
use Rattle.std.specs.Prelude.{ℕ, ◌-◌, ◌*◌, ◌%◌, ◌≡◌, ◌≤◌, List, [], ◌∷◌, ◌++◌, map, length, replicate, take, drop, slice_get, Some, All}
use Rattle.std.specs.Rc.{rc_slice_items}
use Rattle.rv32i_core.specs.PageKind.{PageKind, MemoryValue, absent, shared, own}
use Rattle.rv32i_core.specs.declared.page.Page.{Page}
use Rattle.rv32i_core.specs.declared.page.Page.TheVariants.{Absent, Shared, Own}

-- the bytes of a page, and how it is kept
abbrev pub page_bytes : Page → List ℕ
page_bytes Absent = replicate 256 0
page_bytes (Shared kept) = rc_slice_items kept
page_bytes (Own kept) = kept.value

abbrev pub kind_of : Page → PageKind
kind_of Absent = absent
kind_of (Shared kept) = shared
kind_of (Own kept) = own

-- these lists of bytes, one behind another
abbrev pub joined : List (List ℕ) → List ℕ
joined [] = []
joined (bytes ∷ rest) = bytes ++ joined rest

abbrev pub pages_bytes : List Page → List ℕ
pages_bytes pages = joined (map page_bytes pages)

-- each of them has 256 bytes
abbrev pub AreWide : List (List ℕ) → Type 0
AreWide parts = All (λ bytes. length bytes ≡ 256) parts

-- 256 pages, each of 256 bytes
pub record IsWhole (pages : List Page) : Type 0 where
  pub count : length pages ≡ 256
  pub wide : AreWide (map page_bytes pages)

-- ---- what callers know of every memory

-- the bytes of the page of this number
abbrev pub page_at : ℕ → List ℕ → List ℕ
page_at page memory = take 256 (drop (256 * page) memory)

-- 65,536 bytes in 256 pages, and a page for which nothing is kept has zeros alone
pub record IsPaged (memory : MemoryValue) : Type 0 where
  pub size : length memory.bytes ≡ 65536
  pub count : length memory.kinds ≡ 256
  pub zeros : (page : ℕ) → slice_get memory.kinds page ≡ Some absent → page_at page memory.bytes ≡ replicate 256 0

-- ---- images

-- an image with zeros behind it, up to the end of its last page
abbrev pub filled_up : List ℕ → List ℕ
filled_up image = image ++ replicate ((256 - length image % 256) % 256) 0

-- the first pages are those of the image, and nothing is kept for the others
abbrev pub image_kinds : ℕ → List PageKind
image_kinds count = replicate count shared ++ replicate (256 - count) absent

-- at most 256 of them, each of 256 bytes
pub record IsImage (parts : List (List ℕ)) : Type 0 where
  pub few : length parts ≤ 256
  pub wide : AreWide parts
