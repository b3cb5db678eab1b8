-- Laws of what files are loaded as.
use Rattle.std.specs.Prelude.{◌≡◌, ℕ, ◌<◌, ◌↔◌, true, List, None}
use Rattle.elf_image.specs.Fault.{fault_of}
use Rattle.elf_image.specs.Header.{entry_of}
use Rattle.elf_image.specs.Image.{Loads, parts_of, placed, zeros}
use Rattle.elf_image.specs.Segments.{HasAddress, share_address}
use Rattle.elf_image.specs.declared.segments.ProgramHeader.{ProgramHeader}

-- a file without a fault is loaded: its memory is its parts, placed over zeros
abbrev pub PartsAreLoaded : Type 0
PartsAreLoaded = (file : List ℕ) → fault_of file ≡ None →
    Loads file (entry_of file) (placed (parts_of file) zeros)

-- a file is loaded with one entry and one memory at most
abbrev pub IsLoadedOnce : Type 0
IsLoadedOnce = (file : List ℕ) (start other_start : ℕ) (memory other : List ℕ) →
    Loads file start memory → Loads file other_start other → (start ≡ other_start) × (memory ≡ other)

-- two segments are told to overlap exactly where they have an address in common
abbrev pub OverlapIsShared : Type 0
OverlapIsShared = (one other : ProgramHeader) → 0 < one.memory_size → 0 < other.memory_size →
    (share_address one other ≡ true) ↔ ((address : ℕ) × HasAddress one address × HasAddress other address)
