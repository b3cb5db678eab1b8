-- What a file is loaded as.
-- System V Application Binary Interface, generic part: "Program Header" and "Program Loading".
use Rattle.std.specs.Prelude.{◌≡◌, ℕ, ◌+◌, ◌-◌, ◌<◌, ◌≤◌, if◌then◌else◌, List, [], ◌∷◌, ◌++◌, length, take, drop, replicate, slice_get, slice_range, Option, Some, None, Result, Ok, Err}
use Rattle.std.specs.List.{filter_map}
use Rattle.elf_image.specs.Header.{entry_of, header_count}
use Rattle.elf_image.specs.Segments.{LiesInBytes, has_bytes, indices, program_header}
use Rattle.elf_image.specs.Fault.{fault_of}
use Rattle.elf_image.specs.declared.fault.ElfFault.{ElfFault}
use Rattle.elf_image.specs.declared.fault.ElfFault.TheVariants.{NoMemory}
use Rattle.elf_image.specs.declared.part.Part.{Part}
use Rattle.elf_image.specs.declared.program.Program.{Program}
use Rattle.elf_image.specs.declared.segments.ProgramHeader.{ProgramHeader}

-- The file is loaded with this entry and this memory of 65,536 bytes: the entry is that of the file header; where an
-- address lies in the first file-size bytes of a segment, the file has its byte; and every other byte is 0.
pub record Loads (file : List ℕ) (entry : ℕ) (memory : List ℕ) : Type 0 where
  pub starts : entry ≡ entry_of file
  pub size : length memory ≡ 65536
  pub bytes : (index address : ℕ) → index < header_count file → address < 65536 →
      LiesInBytes (program_header file index) address →
      let header = program_header file index in
      slice_get memory address ≡ slice_get file (header.offset + (address - header.addr))
  pub others : (address : ℕ) → address < 65536 →
      ((index : ℕ) → index < header_count file → ¬ LiesInBytes (program_header file index) address) →
      slice_get memory address ≡ Some 0

-- ---- parts

-- the bytes of a segment in the file, at its address; none for what has no bytes there
abbrev pub bytes_part : List ℕ → ProgramHeader → Part
bytes_part file header =
    record { addr = header.addr; bytes = slice_range file header.offset (header.offset + header.file_size) }

abbrev pub part_of : List ℕ → ProgramHeader → Option Part
part_of file header = if has_bytes header then Some (bytes_part file header) else None

unfoldable pub part_at : List ℕ → ℕ → Option Part
part_at file index = part_of file (program_header file index)

-- a part for each segment with bytes in the file, in the order of the program headers
unfoldable pub parts_of : List ℕ → List Part
parts_of file = filter_map (part_at file) (indices file)

-- a part lies in memory
abbrev pub LiesInMemory : Part → Type 0
LiesInMemory part = part.addr + length part.bytes ≤ 65536

-- two parts have no address in common
abbrev pub AreApart : Part → Part → Type 0
AreApart one other = (address : ℕ) →
    one.addr ≤ address → address < one.addr + length one.bytes →
    other.addr ≤ address → address < other.addr + length other.bytes → ⊥

-- memory with the part's bytes at its addresses
abbrev pub with_part : Part → List ℕ → List ℕ
with_part part memory =
    take part.addr memory ++ (part.bytes ++ drop (part.addr + length part.bytes) memory)

-- memory with the parts placed one after another
abbrev pub placed : List Part → List ℕ → List ℕ
placed [] memory = memory
placed (part ∷ parts) memory = placed parts (with_part part memory)

-- a memory of zeros
unfoldable pub zeros : List ℕ
zeros = replicate 65536 0

-- ---- what is answered

-- the program of a file without a fault
pub record IsProgramOf (file : List ℕ) (program : Program) : Type 0 where
  pub sound : fault_of file ≡ None
  pub entry : program.entry ≡ entry_of file
  pub parts : program.parts ≡ parts_of file

-- a file is refused for its fault, and for want of memory where it has none
abbrev pub Refuses : List ℕ → ElfFault → Type 0
Refuses file NoMemory = fault_of file ≡ None
Refuses file fault = fault_of file ≡ Some fault

abbrev pub Answers : List ℕ → Result Program ElfFault → Type 0
Answers file (Ok program) = IsProgramOf file program
Answers file (Err fault) = Refuses file fault
