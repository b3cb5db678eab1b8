-- What of an image a process begins with: an ELF file is loaded, and every other image stands in memory as it is.
-- System V Application Binary Interface, generic part: "ELF Identification", "Program Header" and "Program Loading".
use Rattle.std.specs.Prelude.{ℕ, nat_eq, nat_lt, Bool, not, ◌&&◌, if◌then◌else◌, List, ◌∷◌, length, codes, is_some}
use Rattle.std.specs.List.{starts_with}
use Rattle.elf_image.specs.Fault.{fault_of}
use Rattle.elf_image.specs.Header.{entry_of}
use Rattle.elf_image.specs.Image.{parts_of, placed, zeros}
use Rattle.rv32i_core.specs.Bytes.{image_memory}

-- it begins with the byte 7F and with E, L and F
unfoldable pub is_elf : List ℕ → Bool
is_elf bytes = starts_with nat_eq bytes (127 ∷ codes "ELF")

-- no ELF file, and longer than memory
abbrev pub is_long : List ℕ → Bool
is_long bytes = not (is_elf bytes) && nat_lt 65536 (length bytes)

-- an ELF file that is refused
abbrev pub is_bad : List ℕ → Bool
is_bad bytes = is_elf bytes && is_some (fault_of bytes)

-- the address of the first instruction: that of the file header, or 0
abbrev pub entry_in : List ℕ → ℕ
entry_in bytes = if is_elf bytes then entry_of bytes else 0

-- the parts of an ELF file over zeros, or the image at the address 0 with zeros behind it
abbrev pub memory_in : List ℕ → List ℕ
memory_in bytes = if is_elf bytes then placed (parts_of bytes) zeros else image_memory bytes
