-- Program headers, and the segments among them.
-- System V Application Binary Interface, generic part: "Program Header" (Elf32_Phdr).
use Rattle.std.specs.Prelude.{◌≡◌, ℕ, ◌+◌, ◌*◌, ◌<◌, ◌≤◌, ◌==◌, nat_lt, Bool, true, ◌&&◌, ◌||◌, List, length, Option}
use Rattle.std.specs.List.{find, list_any, range_with_len}
use Rattle.elf_image.specs.Numbers.{word_at}
use Rattle.elf_image.specs.Header.{table_place, header_count}
use Rattle.elf_image.specs.declared.segments.ProgramHeader.{ProgramHeader}

-- the program header with this index, counted from 0
unfoldable pub program_header : List ℕ → ℕ → ProgramHeader
program_header file index =
    let place = table_place file + 32 * index in
    record {
      kind = word_at file place;
      offset = word_at file (place + 4);
      addr = word_at file (place + 8);
      file_size = word_at file (place + 16);
      memory_size = word_at file (place + 20);
    }

-- the indices of a file's program headers, in their order
abbrev pub indices : List ℕ → List ℕ
indices file = range_with_len 0 (header_count file)

-- ---- segments

-- a segment is a program header of type 1 (PT_LOAD) with bytes in memory
abbrev pub is_segment : ProgramHeader → Bool
is_segment header = (header.kind == 1) && nat_lt 0 header.memory_size

-- a segment with bytes in the file
abbrev pub has_bytes : ProgramHeader → Bool
has_bytes header = is_segment header && nat_lt 0 header.file_size

-- the bytes of a segment lie in a file of so many bytes
abbrev pub HasItsBytes : ℕ → ProgramHeader → Type 0
HasItsBytes size header = has_bytes header ≡ true → header.offset + header.file_size ≤ size

-- an address lies in the first file-size bytes of a segment
pub record LiesInBytes (header : ProgramHeader) (address : ℕ) : Type 0 where
  pub kind : header.kind ≡ 1
  pub some : 0 < header.memory_size
  pub from : header.addr ≤ address
  pub below : address < header.addr + header.file_size

-- an address is one of a segment's
abbrev pub HasAddress : ProgramHeader → ℕ → Type 0
HasAddress header address = (header.addr ≤ address) × (address < header.addr + header.memory_size)

-- ---- what is refused

-- more bytes in the file than in memory, bytes outside a file of so many bytes, or an address past 65,535
abbrev pub is_misplaced : ℕ → ProgramHeader → Bool
is_misplaced size header =
    nat_lt header.memory_size header.file_size
    || (nat_lt 0 header.file_size && nat_lt size (header.offset + header.file_size))
    || nat_lt 65536 (header.addr + header.memory_size)

-- both have an address, as one of them begins before the other one ends
abbrev pub share_address : ProgramHeader → ProgramHeader → Bool
share_address one other =
    nat_lt one.addr (other.addr + other.memory_size) && nat_lt other.addr (one.addr + one.memory_size)

-- the program header with this index is a segment, and misplaced
unfoldable pub is_misplaced_at : List ℕ → ℕ → Bool
is_misplaced_at file index =
    let header = program_header file index in is_segment header && is_misplaced (length file) header

-- the program headers with these indices are segments with an address in common
unfoldable pub overlap_at : List ℕ → ℕ → ℕ → Bool
overlap_at file index earlier =
    let one = program_header file earlier in
    let other = program_header file index in
    is_segment one && is_segment other && share_address one other

-- a segment shares an address with an earlier one
unfoldable pub overlaps_earlier : List ℕ → ℕ → Bool
overlaps_earlier file index = list_any (overlap_at file index) (range_with_len 0 index)

-- the first of each kind
unfoldable pub misplaced_segment : List ℕ → Option ℕ
misplaced_segment file = find (is_misplaced_at file) (indices file)

unfoldable pub overlapping_segment : List ℕ → Option ℕ
overlapping_segment file = find (overlaps_earlier file) (indices file)
