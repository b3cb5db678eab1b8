-- The laws of what files are loaded as.
use Rattle.std.proofs.Common.{◌≡◌, ℕ, zero, suc, ◌+◌, ◌<◌, ◌⊎◌, nat_lt, true, List, get_or, Some, slice_get, inl, inr, sym, subst, ◌∙◌, arith}
use Rattle.std.proofs.lemmas.Bool.{and_from, and_parts, cases_eq, cases_lt, lt-ltb, ltb-true}
use Rattle.std.proofs.lemmas.List.{same_lists}
use Rattle.std.proofs.lemmas.Option.{get_or_from_slice_get, slice_get-get_or}
use Rattle.elf_image.specs.Header.{header_count}
use Rattle.elf_image.specs.Image.{Loads}
use Rattle.elf_image.specs.Laws.{IsLoadedOnce, OverlapIsShared, PartsAreLoaded}
use Rattle.elf_image.specs.Segments.{HasAddress, LiesInBytes, program_header, share_address}
use Rattle.elf_image.specs.declared.segments.ProgramHeader.{ProgramHeader}
use Rattle.elf_image.proofs.Images.{loaded}

pub parts_are_loaded : PartsAreLoaded
parts_are_loaded file none = loaded file none

-- ---- one memory at most

-- an address lies in a segment's bytes, or not
lies_or_not : (header : ProgramHeader) (address : ℕ) → LiesInBytes header address ⊎ (LiesInBytes header address → ⊥)
lies_or_not header address =
    elim (cases_eq header.kind 1) [
      | inr other ↦ inr (λ lies. other lies.kind)
      | inl kind ↦ elim (cases_lt 0 header.memory_size) [
        | inr none ↦ inr (λ lies. omega (arith, none, lies.some))
        | inl some ↦ elim (cases_lt address header.addr) [
          | inl before ↦ inr (λ lies. omega (arith, before, lies.from))
          | inr from ↦ elim (cases_lt address (header.addr + header.file_size)) [
            | inr above ↦ inr (λ lies. omega (arith, above, lies.below))
            | inl below ↦ inl (record { kind = kind; some = some; from = from; below = below })
          ]
        ]
      ]
    ]

-- one of the first program headers has the address, or none of them
found_or_not : (file : List ℕ) (address n : ℕ) → ((index : ℕ) × (index < n) × LiesInBytes (program_header file index) address)
    ⊎ ((index : ℕ) → index < n → LiesInBytes (program_header file index) address → ⊥)
found_or_not file address zero = inr (λ index below lies. omega (arith, below))
found_or_not file address (suc n) =
    elim (found_or_not file address n) [
      | inl found ↦ inl (found.0, omega (arith, found.1), found.2)
      | inr nowhere ↦ elim (lies_or_not (program_header file n) address) [
        | inl lies ↦ inl (n, omega arith, lies)
        | inr isnt ↦ inr (λ index below lies. elim (cases_lt index n) [
          | inl before ↦ nowhere index before lies
          | inr from ↦ let same : index ≡ n = omega (arith, below, from) in isnt (subst (λ (k : ℕ). LiesInBytes (program_header file k) address) same lies)
        ])
      ]
    ]

one_byte : (file : List ℕ) (start other_start : ℕ) (memory other : List ℕ) → Loads file start memory → Loads file other_start other
    → (address : ℕ) → address < 65536 → slice_get memory address ≡ slice_get other address
one_byte file start other_start memory other one two address below =
    elim (found_or_not file address (header_count file)) [
      | inl found ↦ one.bytes found.0 address found.1 below found.2 ∙ sym (two.bytes found.0 address found.1 below found.2)
      | inr nowhere ↦ one.others address below nowhere ∙ sym (two.others address below nowhere)
    ]

pub loaded_once : IsLoadedOnce
loaded_once file start other_start memory other one two = (
  one.starts ∙ sym two.starts,
  same_lists memory other (one.size ∙ sym two.size) (λ address d within.
      let below : address < 65536 = omega (arith, within, one.size) in
      let same : slice_get other address ≡ Some (get_or memory address d) =
      sym (one_byte file start other_start memory other one two address below) ∙ slice_get-get_or memory address d within in
      sym (get_or_from_slice_get other address (get_or memory address d) d same)),
)

-- ---- an address in common

common_address : (one other : ProgramHeader) → 0 < one.memory_size → 0 < other.memory_size → share_address one other ≡ true → (address : ℕ) × HasAddress one address × HasAddress other address
common_address one other some some_too shares =
    let both = and_parts (nat_lt one.addr (other.addr + other.memory_size)) (nat_lt other.addr (one.addr + one.memory_size)) shares in
    let first : one.addr < other.addr + other.memory_size = ltb-true one.addr (other.addr + other.memory_size) both.0 in
    let second : other.addr < one.addr + one.memory_size = ltb-true other.addr (one.addr + one.memory_size) both.1 in
    elim (cases_lt one.addr other.addr) [
      | inl before ↦ (other.addr, (omega (arith, before), second), (omega arith, omega (arith, some_too)))
      | inr from ↦ (one.addr, (omega arith, omega (arith, some)), (from, first))
    ]

shared : (one other : ProgramHeader) → (address : ℕ) × HasAddress one address × HasAddress other address → share_address one other ≡ true
shared one other (address, first, second) =
    and_from (nat_lt one.addr (other.addr + other.memory_size)) (nat_lt other.addr (one.addr + one.memory_size))
    (lt-ltb one.addr (other.addr + other.memory_size) (omega (arith, first.0, second.1))) (lt-ltb other.addr (one.addr + one.memory_size) (omega (arith, second.0, first.1)))

pub overlap_is_shared : OverlapIsShared
overlap_is_shared one other some some_too = (common_address one other some some_too, shared one other)
