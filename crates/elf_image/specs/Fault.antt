-- Why an ELF file is refused: its first fault, in the order of the checks.
use Rattle.std.specs.Prelude.{ℕ, ◌%◌, ◌==◌, nat_lt, Bool, not, ◌&&◌, if◌then◌else◌, List, [], ◌∷◌, length, Option, Some, None, option_map}
use Rattle.std.specs.Option.{option_or}
use Rattle.elf_image.specs.Header.{entry_of, has_table, header_fault}
use Rattle.elf_image.specs.Segments.{misplaced_segment, overlapping_segment}
use Rattle.elf_image.specs.declared.fault.ElfFault.{ElfFault}
use Rattle.elf_image.specs.declared.fault.ElfFault.TheVariants.{Short, Header, Segment, Overlap, Entry}

-- an entry is taken where it is a multiple of 4 below 65,536
abbrev pub is_entry : ℕ → Bool
is_entry entry = (entry % 4 == 0) && nat_lt entry 65536

abbrev pub fault_if : Bool → ElfFault → Option ElfFault
fault_if test fault = if test then Some fault else None

-- the first that is there
abbrev pub first_of : List (Option ElfFault) → Option ElfFault
first_of [] = None
first_of (fault ∷ faults) = option_or fault (first_of faults)

unfoldable pub fault_of : List ℕ → Option ElfFault
fault_of file = first_of (
    fault_if (nat_lt (length file) 52) Short ∷
    option_map Header (header_fault file) ∷
    fault_if (not (has_table file)) Short ∷
    option_map Segment (misplaced_segment file) ∷
    option_map Overlap (overlapping_segment file) ∷
    fault_if (not (is_entry (entry_of file))) Entry ∷ [])
