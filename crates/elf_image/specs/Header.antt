-- The file header of an ELF32 file, by the places of its fields.
-- System V Application Binary Interface, generic part: "ELF Header" (Elf32_Ehdr) and "ELF Identification".
use Rattle.std.specs.Prelude.{ℕ, ◌+◌, ◌*◌, ◌<◌, ◌≤◌, ◌==◌, nat_eq, nat_le, Bool, ◌||◌, if◌then◌else◌, List, [], ◌∷◌, ◌++◌, length, codes, Option, Some, None, IsTrue}
use Rattle.std.specs.List.{starts_with}
use Rattle.elf_image.specs.Numbers.{byte_at, half_at, word_at}

-- a file begins with the byte 7F and with E, L and F
abbrev pub IsElf : List ℕ → Type 0
IsElf file = IsTrue (starts_with nat_eq file (127 ∷ codes "ELF"))

-- ---- fields whose values are fixed

-- how wide a field is: one byte, a half-word or a word
pub data Width : Type 0 where
  byte : Width
  half : Width
  word : Width

abbrev pub number_at : Width → List ℕ → ℕ → ℕ
number_at byte file place = byte_at file place
number_at half file place = half_at file place
number_at word file place = word_at file place

-- where a field stands, how wide it is, and whether a number is taken as its value
abbrev pub Field : Type 0
Field = ℕ × Width × (ℕ → Bool)

abbrev pub just : ℕ → ℕ → Bool
just wanted number = number == wanted

abbrev pub at_most : ℕ → ℕ → Bool
at_most bound number = nat_le number bound

-- class (ELFCLASS32), data (ELFDATA2LSB), version (EV_CURRENT)
abbrev pub identification : List Field
identification = (4, byte, just 1) ∷ (5, byte, just 1) ∷ (6, byte, just 1) ∷ []

-- type (ET_EXEC), machine (EM_RISCV), version (EV_CURRENT)
abbrev pub object : List Field
object = (16, half, just 2) ∷ (18, half, just 243) ∷ (20, word, just 1) ∷ []

-- the size of the file header, the size of a program header, how many program headers there are
abbrev pub sizes : List Field
sizes = (40, half, just 52) ∷ (42, half, just 32) ∷ (44, half, at_most 64) ∷ []

abbrev pub header_fields : List Field
header_fields = identification ++ object ++ sizes

-- the place of the first field with a value that isn't taken
unfoldable pub first_other : List ℕ → List Field → Option ℕ
first_other file [] = None
first_other file (field ∷ fields) =
    if field.2 (number_at field.1 file field.0) then first_other file fields else Some field.0

unfoldable pub header_fault : List ℕ → Option ℕ
header_fault file = first_other file header_fields

-- ---- the other fields

-- the address at which the program begins
abbrev pub entry_of : List ℕ → ℕ
entry_of file = word_at file 24

-- where the first program header stands, and how many stand there one behind another
abbrev pub table_place : List ℕ → ℕ
table_place file = word_at file 28

abbrev pub header_count : List ℕ → ℕ
header_count file = half_at file 44

-- each program header lies in the file
abbrev pub has_table : List ℕ → Bool
has_table file = (header_count file == 0) || nat_le (table_place file + 32 * header_count file) (length file)

-- the file header lies in the file, and each program header too
pub record HasHeaders (file : List ℕ) : Type 0 where
  pub first : 52 ≤ length file
  pub others : 0 < header_count file → table_place file + 32 * header_count file ≤ length file
