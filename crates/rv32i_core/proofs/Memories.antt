-- What always holds of a memory.
use Rattle.std.proofs.Common.{◌≡◌, ℕ, zero, suc, ◌+◌, ◌-◌, ◌*◌, ◌/◌, ◌%◌, ◌<◌, ◌≤◌, List, [], ◌∷◌, ◌++◌, length, map, get_or, take, drop, replicate, slice_get, Some, refl, sym, ◌∙◌, ap, arith}
use Rattle.std.proofs.lemmas.List.{length-drop, length-map, drop_at, drop-drop, drop-take, take_all, take_at}
use Rattle.std.proofs.lemmas.List.Elements.{All-head, All-tail}
use Rattle.std.proofs.lemmas.Option.{get_or_from_slice_get, slice_get_within}
use Rattle.rv32i_core.specs.PageKind.{absent}
use Rattle.rv32i_core.specs.Pages.{AreWide, IsWhole, joined, kind_of, page_at, page_bytes, pages_bytes}
use Rattle.rv32i_core.specs.declared.page.Page.{Page}
use Rattle.rv32i_core.specs.declared.page.Page.TheVariants.{Absent, Shared, Own}
use Rattle.rv32i_core.proofs.Joined.{bytes_there, whole_size}

-- the part of a number is what stands at its place
part_at : (xs : List (List ℕ)) (i : ℕ) (d : List ℕ) → AreWide xs → i < length xs → page_at i (joined xs) ≡ get_or xs i d
part_at [] i d wide inside = absurd (omega arith)
part_at (x ∷ xs) zero d wide inside =
    let h : length x ≡ 256 = All-head (λ (y : List ℕ). length y ≡ 256) x xs wide in
    take_at x (joined xs) 256 h
part_at (x ∷ xs) (suc i) d wide inside =
    let h : length x ≡ 256 = All-head (λ (y : List ℕ). length y ≡ 256) x xs wide in
    let t = part_at xs i d (All-tail (λ (y : List ℕ). length y ≡ 256) x xs wide) (omega arith) in
    let e : 256 * suc i ≡ 256 + 256 * i = omega arith in
    let behind : drop (256 * suc i) (x ++ joined xs) ≡ drop (256 * i) (joined xs) =
    ap (λ n. drop n (x ++ joined xs)) e ∙ sym (drop-drop (256 * i) 256 (x ++ joined xs)) ∙ ap (λ (ys : List ℕ). drop (256 * i) ys) (drop_at x (joined xs) 256 h) in
    ap (λ (ys : List ℕ). take 256 ys) behind ∙ t

pub page_there : (pages : List Page) (i : ℕ) (page : Page) → IsWhole pages → i < length pages → page ≡ get_or pages i page → page_at i (pages_bytes pages) ≡ page_bytes page
page_there pages i page whole inside there =
    part_at (map page_bytes pages) i [] whole.wide (omega (arith, inside, length-map pages page_bytes)) ∙ bytes_there pages i page inside there

absent_bytes : (page : Page) → kind_of page ≡ absent → page_bytes page ≡ replicate 256 0
absent_bytes Absent is = refl
absent_bytes (Shared kept) is = cc
absent_bytes (Own kept) is = cc

absent_at : (pages : List Page) (i : ℕ) → slice_get (map kind_of pages) i ≡ Some absent → slice_get (map page_bytes pages) i ≡ Some (replicate 256 0)
absent_at [] i is = cc
absent_at (page ∷ pages) zero is = let e : kind_of page ≡ absent = cc in ap (λ (ys : List ℕ). Some ys) (absent_bytes page e)
absent_at (page ∷ pages) (suc i) is = absent_at pages i is

pub zeros : (pages : List Page) (i : ℕ) → IsWhole pages → slice_get (map kind_of pages) i ≡ Some absent → page_at i (pages_bytes pages) ≡ replicate 256 0
zeros pages i whole is =
    let found = absent_at pages i is in
    part_at (map page_bytes pages) i [] whole.wide (slice_get_within (map page_bytes pages) i (replicate 256 0) found) ∙ get_or_from_slice_get (map page_bytes pages) i (replicate 256 0) [] found

pub size : (pages : List Page) → IsWhole pages → length (pages_bytes pages) ≡ 65536
size pages whole = whole_size pages whole

pub count : (pages : List Page) → IsWhole pages → length (map kind_of pages) ≡ 256
count pages whole = length-map pages kind_of ∙ whole.count

-- the bytes from an address on, in its page
pub rest_there : (pages : List Page) (place : ℕ) (page : Page) → IsWhole pages → place / 256 < length pages → page ≡ get_or pages (place / 256) page
    → drop (place % 256) (page_bytes page) ≡ take (256 - place % 256) (drop place (pages_bytes pages))
rest_there pages place page whole inside there =
    let i : ℕ = place / 256 in
    let o : ℕ = place % 256 in
    let memory : List ℕ = pages_bytes pages in
    let all : o + (256 - o) ≡ 256 = omega arith in
    let at : 256 * i + o ≡ place = omega arith in
    ap (λ (ys : List ℕ). drop o ys) (sym (page_there pages i page whole inside there))
    ∙ ap (λ n. drop o (take n (drop (256 * i) memory))) (sym all)
    ∙ drop-take o (256 - o) (drop (256 * i) memory)
    ∙ ap (λ (ys : List ℕ). take (256 - o) ys) (drop-drop o (256 * i) memory ∙ ap (λ n. drop n memory) at)

none_of : (count : ℕ) (xs : List ℕ) → length xs ≡ 0 → [] ≡ take count xs
none_of count [] none = sym (take_all count [] (omega arith))
none_of count (x ∷ xs) none = absurd (omega arith)

pub rest_past : (pages : List Page) (place : ℕ) → IsWhole pages → length pages ≤ place / 256 → [] ≡ take (256 - place % 256) (drop place (pages_bytes pages))
rest_past pages place whole past =
    none_of (256 - place % 256) (drop place (pages_bytes pages)) (omega (arith, length-drop place (pages_bytes pages), whole_size pages whole, whole.count, past))
