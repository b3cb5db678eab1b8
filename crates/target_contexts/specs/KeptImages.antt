-- An image as it is kept: in pages where a process can be started from it.
use Rattle.std.specs.Prelude.{ℕ, ◌≡◌, ◌≤◌, true, false, List, take, Option, Some, None}
use Rattle.elf_image.specs.Fault.{fault_of}
use Rattle.rv32i_core.specs.Bytes.{image_memory}
use Rattle.target_contexts.specs.Loading.{entry_in, is_bad, is_elf, is_long, memory_in}
use Rattle.target_contexts.specs.declared.image.Content.{Content}
use Rattle.target_contexts.specs.declared.image.Content.TheVariants.{Paged, Long, Loaded, Bad}
use Rattle.target_contexts.specs.declared.process.Image.{Image}

-- so many bytes of the pages, or all as they were given
abbrev pub content_bytes : Content → List ℕ
content_bytes (Paged pages count) = take count pages
content_bytes (Long bytes) = bytes
content_bytes (Loaded file pages entry) = file
content_bytes (Bad file) = file

-- the pages are the memory of a process that begins with these bytes, and the entry is its first instruction
pub record Begin (bytes pages : List ℕ) (entry : ℕ) : Type 0 where
  pub entry_is : entry ≡ entry_in bytes
  pub memory : image_memory pages ≡ memory_in bytes

-- at most 65,536 bytes that are no ELF file are in pages, with zeros behind them; more are as they were given. An ELF
-- file is as it was given, and where it has no fault, there are the pages of the memory that it is loaded with
abbrev pub IsKept : Content → Type 0
IsKept (Paged pages count) = (count ≤ 65536) × (is_elf (take count pages) ≡ false) × Begin (take count pages) pages 0
IsKept (Long bytes) = is_long bytes ≡ true
IsKept (Loaded file pages entry) = (is_elf file ≡ true) × (fault_of file ≡ None) × Begin file pages entry
IsKept (Bad file) = is_bad file ≡ true

-- an image has this name, and a process that begins with its bytes has these pages and this entry
abbrev pub IsOf : Option Image → List ℕ → List ℕ → ℕ → Type 0
IsOf None name pages entry = ⊥
IsOf (Some image) name pages entry = (image.name ≡ name) × Begin image.bytes pages entry
