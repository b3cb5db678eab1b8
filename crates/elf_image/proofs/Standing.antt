-- Where segments stand that no check refuses.
use Rattle.std.proofs.Common.{◌≡◌, ℕ, ◌+◌, ◌<◌, ◌≤◌, ◌==◌, nat_lt, Bool, true, false, ◌&&◌, ◌||◌, List, length, None, inl, inr, arith}
use Rattle.std.proofs.lemmas.Bool.{and_cases, and_from, and_parts, both_ways, eq-eqb, eqb-true, lt-ltb, ltb-false, ltb-true, or_parts}
use Rattle.elf_image.specs.Header.{header_count}
use Rattle.elf_image.specs.Segments.{HasItsBytes, LiesInBytes, has_bytes, is_misplaced, is_misplaced_at, is_segment, misplaced_segment, overlap_at, overlapping_segment, overlaps_earlier, program_header, share_address}
use Rattle.elf_image.specs.declared.segments.ProgramHeader.{ProgramHeader}
use Rattle.elf_image.proofs.Order.{IsSound}
use Rattle.elf_image.proofs.Ranges.{any_none, find_none}

-- ---- one segment

pub segment_is : (header : ProgramHeader) → header.kind ≡ 1 → 0 < header.memory_size → is_segment header ≡ true
segment_is header kind some = and_from (header.kind == 1) (nat_lt 0 header.memory_size) (eq-eqb header.kind 1 kind) (lt-ltb 0 header.memory_size some)

pub segment_has : (header : ProgramHeader) → has_bytes header ≡ true → is_segment header ≡ true
segment_has header has = (and_parts (is_segment header) (nat_lt 0 header.file_size) has).0

pub some_bytes : (header : ProgramHeader) → has_bytes header ≡ true → 0 < header.file_size
some_bytes header has = ltb-true 0 header.file_size (and_parts (is_segment header) (nat_lt 0 header.file_size) has).1

-- a segment has bytes in the file exactly where an address lies in them
pub bytes_there : (header : ProgramHeader) (address : ℕ) → LiesInBytes header address → has_bytes header ≡ true
bytes_there header address lies =
    let some : 0 < header.file_size = omega (arith, lies.from, lies.below) in
    and_from (is_segment header) (nat_lt 0 header.file_size) (segment_is header lies.kind lies.some) (lt-ltb 0 header.file_size some)

pub lies_there : (header : ProgramHeader) (address : ℕ) → has_bytes header ≡ true → header.addr ≤ address → address < header.addr + header.file_size → LiesInBytes header address
lies_there header address has from below =
    let both = and_parts (header.kind == 1) (nat_lt 0 header.memory_size) (segment_has header has) in
    record {
      kind = eqb-true header.kind 1 both.0;
      some = ltb-true 0 header.memory_size both.1;
      from = from;
      below = below;
    }

-- it has no more bytes in the file than in memory; they lie in the file; and it lies in memory
pub record IsWellPlaced (size : ℕ) (header : ProgramHeader) : Type 0 where
  pub fits : header.file_size ≤ header.memory_size
  pub inside : 0 < header.file_size → header.offset + header.file_size ≤ size
  pub below : header.addr + header.memory_size ≤ 65536

inside_if_some : (size : ℕ) (header : ProgramHeader) → (nat_lt 0 header.file_size && nat_lt size (header.offset + header.file_size)) ≡ false
    → 0 < header.file_size → header.offset + header.file_size ≤ size
inside_if_some size header isnt some =
    elim (and_cases (nat_lt 0 header.file_size) (nat_lt size (header.offset + header.file_size)) isnt) [
      | inl none ↦ let no : header.file_size ≤ 0 = ltb-false 0 header.file_size none in absurd (omega (arith, no, some))
      | inr within ↦ ltb-false size (header.offset + header.file_size) within
    ]

well_placed : (size : ℕ) (header : ProgramHeader) → is_misplaced size header ≡ false → IsWellPlaced size header
well_placed size header isnt =
    let long = nat_lt header.memory_size header.file_size in
    let outside = nat_lt 0 header.file_size && nat_lt size (header.offset + header.file_size) in
    let past = nat_lt 65536 (header.addr + header.memory_size) in
    let all = or_parts (long || outside) past isnt in
    let two = or_parts long outside all.0 in
    record {
      fits = ltb-false header.memory_size header.file_size two.0;
      inside = inside_if_some size header two.1;
      below = ltb-false 65536 (header.addr + header.memory_size) all.1;
    }

and_second : (a b : Bool) → (a && b) ≡ false → a ≡ true → b ≡ false
and_second true b isnt is = isnt
and_second false b isnt is = absurd cc

placed_at : (file : List ℕ) (index : ℕ) → is_misplaced_at file index ≡ false → is_segment (program_header file index) ≡ true → IsWellPlaced (length file) (program_header file index)
unfolding is_misplaced_at
placed_at file index isnt is =
    let header = program_header file index in
    well_placed (length file) header (and_second (is_segment header) (is_misplaced (length file) header) isnt is)

-- ---- two segments

-- segments with an address in common, both in their bytes, overlap
common_overlaps : (file : List ℕ) (index earlier address : ℕ) → (program_header file index).file_size ≤ (program_header file index).memory_size
    → (program_header file earlier).file_size ≤ (program_header file earlier).memory_size
    → LiesInBytes (program_header file earlier) address → LiesInBytes (program_header file index) address → overlap_at file index earlier ≡ true
unfolding overlap_at
common_overlaps file index earlier address fits fits_too one two =
    let first = program_header file earlier in
    let second = program_header file index in
    let begins : first.addr < second.addr + second.memory_size = omega (arith, fits, one.from, two.below) in
    let ends : second.addr < first.addr + first.memory_size = omega (arith, fits_too, two.from, one.below) in
    let shares : share_address first second ≡ true =
    and_from (nat_lt first.addr (second.addr + second.memory_size)) (nat_lt second.addr (first.addr + first.memory_size))
    (lt-ltb first.addr (second.addr + second.memory_size) begins) (lt-ltb second.addr (first.addr + first.memory_size) ends) in
    and_from (is_segment first && is_segment second) (share_address first second)
    (and_from (is_segment first) (is_segment second) (segment_is first one.kind one.some) (segment_is second two.kind two.some)) shares

apart_at : (file : List ℕ) (index earlier : ℕ) → overlaps_earlier file index ≡ false → earlier < index → overlap_at file index earlier ≡ false
unfolding overlaps_earlier
apart_at file index earlier none before = any_none (overlap_at file index) 0 index none earlier (omega arith) (omega (arith, before))

-- ---- all segments of a file

-- each lies where it may, and an address lies in the bytes of one at most
pub record AreStanding (file : List ℕ) : Type 0 where
  pub placed : (index : ℕ) → index < header_count file → has_bytes (program_header file index) ≡ true → IsWellPlaced (length file) (program_header file index)
  pub apart : (one other address : ℕ) → one < other → other < header_count file → LiesInBytes (program_header file one) address → LiesInBytes (program_header file other) address → ⊥

no_bad : (file : List ℕ) → misplaced_segment file ≡ None → (index : ℕ) → index < header_count file → is_misplaced_at file index ≡ false
unfolding misplaced_segment
no_bad file none index below = find_none (is_misplaced_at file) 0 (header_count file) none index (omega arith) (omega (arith, below))

no_overlap : (file : List ℕ) → overlapping_segment file ≡ None → (index : ℕ) → index < header_count file → overlaps_earlier file index ≡ false
unfolding overlapping_segment
no_overlap file none index below = find_none (overlaps_earlier file) 0 (header_count file) none index (omega arith) (omega (arith, below))

all_placed : (file : List ℕ) → IsSound file → (index : ℕ) → index < header_count file → has_bytes (program_header file index) ≡ true → IsWellPlaced (length file) (program_header file index)
all_placed file sound index below has = placed_at file index (no_bad file sound.placed index below) (segment_has (program_header file index) has)

pub standing_file : (file : List ℕ) → IsSound file → AreStanding file
standing_file file sound = record {
  placed = all_placed file sound;
  apart = λ one other address before below lies lies_too.
      let there : one < header_count file = omega (arith, before, below) in
      let first = all_placed file sound one there (bytes_there (program_header file one) address lies) in
      let second = all_placed file sound other below (bytes_there (program_header file other) address lies_too) in
      both_ways (overlap_at file other one)
      (apart_at file other one (no_overlap file sound.apart other below) before)
      (common_overlaps file other one address second.fits first.fits lies lies_too);
}

-- the bytes of each segment lie in the file
pub bytes_lie : (file : List ℕ) → AreStanding file → (index : ℕ) → index < header_count file → HasItsBytes (length file) (program_header file index)
bytes_lie file all index below has = (all.placed index below has).inside (some_bytes (program_header file index) has)
