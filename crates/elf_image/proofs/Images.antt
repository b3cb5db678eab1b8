-- The parts of a file, placed over zeros, are the memory that it is loaded with.
use Rattle.std.proofs.Common.{◌≡◌, ℕ, zero, suc, ◌+◌, ◌-◌, ◌<◌, ◌≤◌, Bool, true, false, cond, List, length, get_or, replicate, Option, None, Some, slice_get, inl, inr, refl, sym, ap, subst, ◌∙◌, arith}
use Rattle.std.specs.List.{All, AllPairs, cons_option, filter_map, range_with_len}
use Rattle.std.specs.Prelude.{IfSome}
use Rattle.std.proofs.lemmas.Bool.{cases_lt}
use Rattle.std.proofs.lemmas.List.{get_or-replicate, length-replicate}
use Rattle.std.proofs.lemmas.List.Edits.{get_or-between, length-between}
use Rattle.std.proofs.lemmas.List.Elements.{All-cons, All-nil}
use Rattle.std.proofs.lemmas.List.Kept.{AllPairs-cons}
use Rattle.std.proofs.lemmas.Option.{slice_get-get_or}
use Rattle.elf_image.specs.Fault.{fault_of}
use Rattle.elf_image.specs.Header.{entry_of, header_count}
use Rattle.elf_image.specs.Image.{AreApart, LiesInMemory, Loads, bytes_part, part_at, part_of, parts_of, placed, with_part, zeros}
use Rattle.elf_image.specs.Segments.{LiesInBytes, has_bytes, program_header}
use Rattle.elf_image.specs.declared.part.Part.{Part}
use Rattle.elf_image.specs.declared.segments.ProgramHeader.{ProgramHeader}
use Rattle.elf_image.proofs.Order.{sound_file}
use Rattle.elf_image.proofs.Placing.{byte_above, byte_below, byte_inside, part_length}
use Rattle.elf_image.proofs.Standing.{AreStanding, IsWellPlaced, bytes_there, lies_there, some_bytes, standing_file}

-- memory with a part, if there is one
abbrev laid : Option Part → List ℕ → List ℕ
laid None memory = memory
laid (Some part) memory = with_part part memory

placed_next : (o : Option Part) (parts : List Part) (memory : List ℕ) → placed (cons_option o parts) memory ≡ placed parts (laid o memory)
placed_next None parts memory = refl
placed_next (Some part) parts memory = refl

-- ---- one program header

module _ (file : List ℕ) (header : ProgramHeader) where
  bytes_length : has_bytes header ≡ true → IsWellPlaced (length file) header → length (bytes_part file header).bytes ≡ header.file_size
  bytes_length has well =
      let rest : header.offset + header.file_size - header.offset ≡ header.file_size = omega arith in
      length-between file header.offset (header.offset + header.file_size) (well.inside (some_bytes header has)) ∙ rest

  part_below : has_bytes header ≡ true → IsWellPlaced (length file) header → LiesInMemory (bytes_part file header)
  part_below has well = omega (arith, bytes_length has well, well.fits, well.below)

  part_fits : (memory : List ℕ) → length memory ≡ 65536 → has_bytes header ≡ true → IsWellPlaced (length file) header
      → (bytes_part file header).addr + length (bytes_part file header).bytes ≤ length memory
  part_fits memory size has well = omega (arith, size, part_below has well)

  laid_length : (memory : List ℕ) → length memory ≡ 65536 → (has_bytes header ≡ true → IsWellPlaced (length file) header) → length (laid (part_of file header) memory) ≡ 65536
  laid_length memory size well = by_flag (has_bytes header) (λ has. has)
    where
      by_flag : (flag : Bool) → (flag ≡ true → has_bytes header ≡ true) → length (laid (cond flag (Some (bytes_part file header)) None) memory) ≡ 65536
      by_flag true is = part_length (bytes_part file header) memory (part_fits memory size (is refl) (well (is refl))) ∙ size
      by_flag false is = size

  -- the part's byte at an address
  part_byte : (memory : List ℕ) (a : ℕ) → length memory ≡ 65536 → (has : has_bytes header ≡ true) → IsWellPlaced (length file) header → LiesInBytes header a
      → slice_get (with_part (bytes_part file header) memory) a ≡ slice_get file (header.offset + (a - header.addr))
  part_byte memory a size has well lies =
      let part = bytes_part file header in
      let fits : part.addr + length part.bytes ≤ length memory = part_fits memory size has well in
      let long : length part.bytes ≡ header.file_size = bytes_length has well in
      let there : header.offset + header.file_size ≤ length file = well.inside (some_bytes header has) in
      let within : a < length (with_part part memory) = omega (arith, part_length part memory fits, size, lies.below, well.fits, well.below) in
      let place : header.offset + (a - header.addr) < header.offset + header.file_size = omega (arith, lies.from, lies.below) in
      let inside : a < part.addr + length part.bytes = omega (arith, long, lies.below) in
      slice_get-get_or (with_part part memory) a 0 within
      ∙ ap (λ (byte : ℕ). Some byte) (byte_inside part memory fits a lies.from inside ∙ get_or-between file header.offset (header.offset + header.file_size) (a - header.addr) 0 place)
      ∙ sym (slice_get-get_or file (header.offset + (a - header.addr)) 0 (omega (arith, place, there)))

  laid_inside : (memory : List ℕ) (a : ℕ) → length memory ≡ 65536 → (has_bytes header ≡ true → IsWellPlaced (length file) header) → LiesInBytes header a
      → slice_get (laid (part_of file header) memory) a ≡ slice_get file (header.offset + (a - header.addr))
  laid_inside memory a size well lies = by_flag (has_bytes header) (bytes_there header a lies)
    where
      by_flag : (flag : Bool) → flag ≡ true → slice_get (laid (cond flag (Some (bytes_part file header)) None) memory) a ≡ slice_get file (header.offset + (a - header.addr))
      by_flag true is = let has = bytes_there header a lies in part_byte memory a size has (well has) lies
      by_flag false is = absurd cc

  -- all other bytes stay
  other_byte : (memory : List ℕ) (a : ℕ) → length memory ≡ 65536 → a < 65536 → has_bytes header ≡ true → IsWellPlaced (length file) header → (LiesInBytes header a → ⊥)
      → slice_get (with_part (bytes_part file header) memory) a ≡ slice_get memory a
  other_byte memory a size below has well isnt =
      let part = bytes_part file header in
      let fits : part.addr + length part.bytes ≤ length memory = part_fits memory size has well in
      let long : length part.bytes ≡ header.file_size = bytes_length has well in
      let within : a < length (with_part part memory) = omega (arith, part_length part memory fits, size, below) in
      let same : get_or (with_part part memory) a 0 ≡ get_or memory a 0 =
      elim (cases_lt a header.addr) [
        | inl before ↦ byte_below part memory fits a before
        | inr from ↦ elim (cases_lt a (header.addr + header.file_size)) [
          | inl inside ↦ absurd (isnt (lies_there header a has from inside))
          | inr above ↦ byte_above part memory fits a (omega (arith, long, above))
        ]
      ] in
      slice_get-get_or (with_part part memory) a 0 within ∙ ap (λ (byte : ℕ). Some byte) same ∙ sym (slice_get-get_or memory a 0 (omega (arith, size, below)))

  laid_outside : (memory : List ℕ) (a : ℕ) → length memory ≡ 65536 → a < 65536 → (has_bytes header ≡ true → IsWellPlaced (length file) header) → (LiesInBytes header a → ⊥)
      → slice_get (laid (part_of file header) memory) a ≡ slice_get memory a
  laid_outside memory a size below well isnt = by_flag (has_bytes header) (λ has. has)
    where
      by_flag : (flag : Bool) → (flag ≡ true → has_bytes header ≡ true) → slice_get (laid (cond flag (Some (bytes_part file header)) None) memory) a ≡ slice_get memory a
      by_flag true is = other_byte memory a size below (is refl) (well (is refl)) isnt
      by_flag false is = refl

-- ---- the program headers, one after another

-- the parts of so many program headers from one on
abbrev parts_from : List ℕ → ℕ → ℕ → List Part
parts_from file start n = filter_map (part_at file) (range_with_len start n)

parts_next : (file : List ℕ) (start n : ℕ) (memory : List ℕ) → placed (parts_from file start (suc n)) memory ≡ placed (parts_from file (start + 1) n) (laid (part_of file (program_header file start)) memory)
unfolding part_at
parts_next file start n memory = placed_next (part_of file (program_header file start)) (parts_from file (start + 1) n) memory

module _ (file : List ℕ) (all : AreStanding file) where
  placed_length : (start n : ℕ) (memory : List ℕ) → start + n ≤ header_count file → length memory ≡ 65536 → length (placed (parts_from file start n) memory) ≡ 65536
  placed_length start zero memory most size = size
  placed_length start (suc n) memory most size =
      let there : start < header_count file = omega (arith, most) in
      ap length (parts_next file start n memory)
      ∙ placed_length (start + 1) n (laid (part_of file (program_header file start)) memory) (omega (arith, most)) (laid_length file (program_header file start) memory size (all.placed start there))

  -- an address in no segment's bytes
  placed_outside : (start n : ℕ) (memory : List ℕ) (a : ℕ) → start + n ≤ header_count file → length memory ≡ 65536 → a < 65536
      → ((index : ℕ) → start ≤ index → index < start + n → LiesInBytes (program_header file index) a → ⊥)
      → slice_get (placed (parts_from file start n) memory) a ≡ slice_get memory a
  placed_outside start zero memory a most size below nowhere = refl
  placed_outside start (suc n) memory a most size below nowhere =
      let there : start < header_count file = omega (arith, most) in
      let header = program_header file start in
      ap (λ (m : List ℕ). slice_get m a) (parts_next file start n memory)
      ∙ placed_outside (start + 1) n (laid (part_of file header) memory) a (omega (arith, most)) (laid_length file header memory size (all.placed start there)) below
      (λ index from less. nowhere index (omega (arith, from)) (omega (arith, less)))
      ∙ laid_outside file header memory a size below (all.placed start there) (nowhere start (omega arith) (omega arith))

  -- an address in a segment's bytes
  placed_inside : (start n : ℕ) (memory : List ℕ) (a index : ℕ) → start + n ≤ header_count file → length memory ≡ 65536 → a < 65536 → start ≤ index → index < start + n
      → LiesInBytes (program_header file index) a
      → slice_get (placed (parts_from file start n) memory) a ≡ slice_get file ((program_header file index).offset + (a - (program_header file index).addr))
  placed_inside start zero memory a index most size below from less lies = absurd (omega (arith, from, less))
  placed_inside start (suc n) memory a index most size below from less lies =
      let there : start < header_count file = omega (arith, most) in
      let rest : start + 1 + n ≤ header_count file = omega (arith, most) in
      let header = program_header file start in
      let size_then = laid_length file header memory size (all.placed start there) in
      let then : slice_get (placed (parts_from file (start + 1) n) (laid (part_of file header) memory)) a
      ≡ slice_get file ((program_header file index).offset + (a - (program_header file index).addr)) =
      elim (cases_lt start index) [
        | inl later ↦ placed_inside (start + 1) n (laid (part_of file header) memory) a index rest size_then below (omega (arith, later)) (omega (arith, less)) lies
        | inr here ↦
            let same : index ≡ start = omega (arith, from, here) in
            let lies_here : LiesInBytes header a = subst (λ (k : ℕ). LiesInBytes (program_header file k) a) same lies in
            placed_outside (start + 1) n (laid (part_of file header) memory) a rest size_then below
            (λ other after less_too lies_too. all.apart start other a (omega (arith, after)) (omega (arith, less_too, rest)) lies_here lies_too)
            ∙ laid_inside file header memory a size (all.placed start there) lies_here
            ∙ ap (λ (k : ℕ). slice_get file ((program_header file k).offset + (a - (program_header file k).addr))) (sym same)
      ] in
      ap (λ (m : List ℕ). slice_get m a) (parts_next file start n memory) ∙ then

-- ---- parts lie in memory, apart from one another

all_cons : (P : Part → Type 0) (o : Option Part) (parts : List Part) → IfSome o P → All P parts → All P (cons_option o parts)
all_cons P None parts one all = all
all_cons P (Some part) parts one all = All-cons P part parts one all

each_part : (file : List ℕ) (P : Part → Type 0) (start n : ℕ) → ((index : ℕ) → start ≤ index → index < start + n → IfSome (part_of file (program_header file index)) P)
    → All P (parts_from file start n)
unfolding part_at
each_part file P start zero each = All-nil P
each_part file P start (suc n) each =
    all_cons P (part_of file (program_header file start)) (parts_from file (start + 1) n) (each start (omega arith) (omega arith))
    (each_part file P (start + 1) n (λ index from less. each index (omega (arith, from)) (omega (arith, less))))

-- what holds of the part of a segment with bytes in the file holds of the part, if there is one
if_part : (file : List ℕ) (header : ProgramHeader) (P : Part → Type 0) → (has_bytes header ≡ true → P (bytes_part file header)) → IfSome (part_of file header) P
if_part file header P each = by_flag (has_bytes header) (λ has. has)
  where
    by_flag : (flag : Bool) → (flag ≡ true → has_bytes header ≡ true) → IfSome (cond flag (Some (bytes_part file header)) None) P
    by_flag true is = each (is refl)
    by_flag false is = tt

pub parts_below : (file : List ℕ) → fault_of file ≡ None → All LiesInMemory (parts_of file)
unfolding parts_of
parts_below file none =
    let all = standing_file file (sound_file file none) in
    each_part file LiesInMemory 0 (header_count file)
    (λ index from less. if_part file (program_header file index) LiesInMemory
    (λ has. part_below file (program_header file index) has (all.placed index (omega (arith, less)) has)))

pairs_cons : (o : Option Part) (parts : List Part) → IfSome o (λ part. All (AreApart part) parts) → AllPairs AreApart parts → AllPairs AreApart (cons_option o parts)
pairs_cons None parts one all = all
pairs_cons (Some part) parts one all = AllPairs-cons AreApart part parts one all

-- an address of a part lies in its segment's bytes
lies_in_part : (file : List ℕ) (header : ProgramHeader) (address : ℕ) → has_bytes header ≡ true → IsWellPlaced (length file) header
    → header.addr ≤ address → address < header.addr + length (bytes_part file header).bytes → LiesInBytes header address
lies_in_part file header address has well from below =
    lies_there header address has from (omega (arith, bytes_length file header has well, below))

each_pair : (file : List ℕ) → AreStanding file → (start n : ℕ) → start + n ≤ header_count file → AllPairs AreApart (parts_from file start n)
unfolding part_at
each_pair file all start zero most = λ i j d before within. absurd (omega (arith, within))
each_pair file all start (suc n) most =
    let header = program_header file start in
    let there : start < header_count file = omega (arith, most) in
    pairs_cons (part_of file header) (parts_from file (start + 1) n)
    (if_part file header (λ part. All (AreApart part) (parts_from file (start + 1) n)) (λ has.
    each_part file (AreApart (bytes_part file header)) (start + 1) n (λ index from less.
    let later : index < header_count file = omega (arith, less, most) in
    if_part file (program_header file index) (AreApart (bytes_part file header)) (λ has_too address one_from one_below other_from other_below.
    all.apart start index address (omega (arith, from)) later
    (lies_in_part file header address has (all.placed start there has) one_from one_below)
    (lies_in_part file (program_header file index) address has_too (all.placed index later has_too) other_from other_below)))))
    (each_pair file all (start + 1) n (omega (arith, most)))

pub parts_apart : (file : List ℕ) → fault_of file ≡ None → AllPairs AreApart (parts_of file)
unfolding parts_of
parts_apart file none = each_pair file (standing_file file (sound_file file none)) 0 (header_count file) (omega arith)

-- ---- the memory

zeros_are : zeros ≡ replicate 65536 0
unfolding zeros
zeros_are = refl

zeros_length : length zeros ≡ 65536
zeros_length = ap length zeros_are ∙ length-replicate {A = ℕ} 65536 0

zero_at : (a : ℕ) → a < 65536 → slice_get zeros a ≡ Some 0
zero_at a below =
    slice_get-get_or zeros a 0 (omega (arith, zeros_length, below))
    ∙ ap (λ (memory : List ℕ). Some (get_or memory a 0)) zeros_are ∙ ap (λ (byte : ℕ). Some byte) (get_or-replicate {A = ℕ} 65536 a 0 0 below)

pub loaded : (file : List ℕ) → fault_of file ≡ None → Loads file (entry_of file) (placed (parts_of file) zeros)
unfolding parts_of
loaded file none =
    let all = standing_file file (sound_file file none) in
    let count = header_count file in
    let most : 0 + count ≤ header_count file = omega arith in
    record {
      starts = refl;
      size = placed_length file all 0 count zeros most zeros_length;
      bytes = λ index address there below lies. placed_inside file all 0 count zeros address index most zeros_length below (omega arith) (omega (arith, there)) lies;
      others = λ address below nowhere.
          placed_outside file all 0 count zeros address most zeros_length below (λ index from less. nowhere index (omega (arith, less))) ∙ zero_at address below;
    }
