-- A number that is put into one page, as it is put into memory.
use Rattle.std.proofs.Common.{◌≡◌, ℕ, ◌+◌, ◌*◌, ◌/◌, ◌%◌, ◌^◌, ◌<◌, ◌≤◌, List, [], length, map, get_or, length-set, slice_set, sym, ◌∙◌, ap, arith}
use Rattle.std.proofs.lemmas.List.{length-map, map-set, get_or-set_same, set-get_or, set-set}
use Rattle.std.proofs.lemmas.List.Elements.{All-set}
use Rattle.rv32i_core.specs.Bytes.{with_word}
use Rattle.rv32i_core.specs.Pages.{AreWide, IsWhole, joined, page_bytes, pages_bytes}
use Rattle.rv32i_core.specs.declared.page.Page.{Page}
use Rattle.rv32i_core.proofs.Joined.{bytes_there, joined_set, wide_at}

set_part : (parts : List (List ℕ)) (i o v place : ℕ) (part : List ℕ) → AreWide parts → length part ≡ 256 → i < length parts → o < 256 → place ≡ 256 * i + o
    → slice_set (joined (slice_set parts i part)) place v ≡ joined (slice_set parts i (slice_set part o v))
set_part parts i o v place part wide long inside low is =
    let now : AreWide (slice_set parts i part) = All-set (λ (y : List ℕ). length y ≡ 256) parts i part long wide in
    let there : get_or (slice_set parts i part) i [] ≡ part = get_or-set_same parts i part [] inside in
    ap (λ n. slice_set (joined (slice_set parts i part)) n v) is
    ∙ joined_set (slice_set parts i part) i o v [] now (omega (arith, inside, length-set parts i part)) low
    ∙ ap (λ (p : List ℕ). joined (slice_set (slice_set parts i part) i (slice_set p o v))) there
    ∙ ap joined (set-set parts i part (slice_set part o v))

pub word_written : (pages : List Page) (place n : ℕ) (page new : Page) → IsWhole pages → place / 256 < length pages → page ≡ get_or pages (place / 256) page → place % 256 ≤ 252
    → page_bytes new ≡ with_word (place % 256) n (page_bytes page) → pages_bytes (slice_set pages (place / 256) new) ≡ with_word place n (pages_bytes pages)
word_written pages place n page new whole inside there low written =
    let parts : List (List ℕ) = map page_bytes pages in
    let i : ℕ = place / 256 in
    let o : ℕ = place % 256 in
    let below : i < length parts = omega (arith, inside, length-map pages page_bytes) in
    let p0 : List ℕ = page_bytes page in
    let p1 : List ℕ = slice_set p0 o (n % 2 ^ 8) in
    let p2 : List ℕ = slice_set p1 (o + 1) (n / 2 ^ 8 % 2 ^ 8) in
    let p3 : List ℕ = slice_set p2 (o + 2) (n / 2 ^ 16 % 2 ^ 8) in
    let l0 : length p0 ≡ 256 = wide_at pages i page whole inside there in
    let l1 : length p1 ≡ 256 = length-set p0 o (n % 2 ^ 8) ∙ l0 in
    let l2 : length p2 ≡ 256 = length-set p1 (o + 1) (n / 2 ^ 8 % 2 ^ 8) ∙ l1 in
    let l3 : length p3 ≡ 256 = length-set p2 (o + 2) (n / 2 ^ 16 % 2 ^ 8) ∙ l2 in
    let same : slice_set parts i p0 ≡ parts = ap (λ (p : List ℕ). slice_set parts i p) (sym (bytes_there pages i page inside there)) ∙ set-get_or parts i [] in
    let s1 = set_part parts i o (n % 2 ^ 8) place p0 whole.wide l0 below (omega arith) (omega arith) in
    let s2 = set_part parts i (o + 1) (n / 2 ^ 8 % 2 ^ 8) (place + 1) p1 whole.wide l1 below (omega (arith, low)) (omega arith) in
    let s3 = set_part parts i (o + 2) (n / 2 ^ 16 % 2 ^ 8) (place + 2) p2 whole.wide l2 below (omega (arith, low)) (omega arith) in
    let s4 = set_part parts i (o + 2 + 1) (n / 2 ^ 16 / 2 ^ 8 % 2 ^ 8) (place + 2 + 1) p3 whole.wide l3 below (omega (arith, low)) (omega arith) in
    ap joined (map-set page_bytes pages i new ∙ ap (λ (p : List ℕ). slice_set parts i p) written)
    ∙ sym s4
    ∙ ap (λ (m : List ℕ). slice_set m (place + 2 + 1) (n / 2 ^ 16 / 2 ^ 8 % 2 ^ 8))
    (sym s3 ∙ ap (λ (m : List ℕ). slice_set m (place + 2) (n / 2 ^ 16 % 2 ^ 8))
    (sym s2 ∙ ap (λ (m : List ℕ). slice_set m (place + 1) (n / 2 ^ 8 % 2 ^ 8))
    (sym s1 ∙ ap (λ (ps : List (List ℕ)). slice_set (joined ps) place (n % 2 ^ 8)) same)))
