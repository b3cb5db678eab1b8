-- A range that is read page by page.
use Rattle.std.proofs.Common.{◌≡◌, ℕ, ◌+◌, ◌-◌, ◌%◌, ◌<◌, ◌≤◌, List, ◌++◌, length, take, drop, sym, ◌∙◌, ap, arith, length-take, length-drop}
use Rattle.std.proofs.Math.Seq.{take-add}
use Rattle.std.proofs.lemmas.List.{drop-drop, take-take}
use Rattle.list_laws.proofs.Lists.{take_most}

-- so many bytes from the end of those so far on are the next ones of the range
pub part_more : (first done width some : ℕ) (memory bytes rest : List ℕ) → bytes ≡ take done (drop first memory) → rest ≡ take width (drop (first + done) memory) → some ≤ length rest
    → bytes ++ take some rest ≡ take (done + some) (drop first memory)
part_more first done width some memory bytes rest so_far behind enough =
    let within : some ≤ width = omega (arith, enough, ap (λ (xs : List ℕ). length xs) behind, take_most width (drop (first + done) memory)) in
    let next : take some rest ≡ take some (drop done (drop first memory)) =
    ap (λ (xs : List ℕ). take some xs) behind ∙ take-take some width (drop (first + done) memory) within
    ∙ ap (λ (xs : List ℕ). take some xs) (sym (drop-drop done first memory)) in
    ap (λ (xs : List ℕ). bytes ++ xs) next ∙ ap (λ (xs : List ℕ). xs ++ take some (drop done (drop first memory))) so_far
    ∙ sym (take-add done some (drop first memory))

-- the rest of a page has a byte at least
pub some_left : (place : ℕ) (memory rest : List ℕ) → length memory ≡ 65536 → rest ≡ take (256 - place % 256) (drop place memory) → place < 65536 → 0 < length rest
some_left place memory rest long is inside =
    omega (arith, ap (λ (xs : List ℕ). length xs) is, length-take (256 - place % 256) (drop place memory), length-drop place memory, long)
