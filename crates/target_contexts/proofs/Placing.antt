-- Parts that are placed in memory one after another.
use Rattle.std.proofs.Common.{◌≡◌, ℕ, ◌+◌, ◌-◌, ◌<◌, ◌≤◌, List, ◌∷◌, ◌++◌, length, drop, get_or, replicate, sym, ap, subst, ◌∙◌, arith, append-nil}
use Rattle.std.specs.List.{All}
use Rattle.std.proofs.lemmas.List.{drop_more}
use Rattle.std.proofs.lemmas.List.Elements.{All-get_or}
use Rattle.elf_image.specs.Image.{LiesInMemory, placed, with_part, zeros}
use Rattle.elf_image.specs.declared.part.Part.{Part}
use Rattle.rv32i_core.specs.Bytes.{image_memory}

-- the part at hand lies in memory
pub part_within : (parts : List Part) (i : ℕ) (part : Part) (memory : List ℕ) → All LiesInMemory parts → i < length parts → part ≡ get_or parts i part → length memory ≡ 65536
    → part.addr + length part.bytes ≤ length memory
part_within parts i part memory all inside there size =
    let lies : part.addr + length part.bytes ≤ 65536 = subst LiesInMemory (sym there) (All-get_or LiesInMemory parts i part inside all) in
    omega (arith, lies, size)

-- a part more, and those that are left
pub placed_more : (parts : List Part) (i : ℕ) (part : Part) (memory next all : List ℕ) → i < length parts → part ≡ get_or parts i part → placed (drop i parts) memory ≡ all
    → next ≡ with_part part memory → placed (drop (i + 1) parts) next ≡ all
placed_more parts i part memory next all inside there so_far is =
    ap (placed (drop (i + 1) parts)) is
    ∙ ap (λ (ps : List Part). placed ps memory) (sym (drop_more parts i part inside ∙ ap (λ (p : Part). p ∷ drop (i + 1) parts) (sym there)))
    ∙ so_far

-- 65,536 bytes are a memory
pub all_of_memory : (bytes pages : List ℕ) → length bytes ≡ 65536 → image_memory pages ≡ image_memory bytes → image_memory pages ≡ bytes
unfolding image_memory
all_of_memory bytes pages size is =
    let none : 65536 - length bytes ≡ 0 = omega (arith, size) in
    is ∙ ap (λ n. bytes ++ replicate n 0) none ∙ append-nil bytes

pub zeros_are : (made : List ℕ) → made ≡ replicate 65536 0 → made ≡ zeros
unfolding zeros
zeros_are made is = is
