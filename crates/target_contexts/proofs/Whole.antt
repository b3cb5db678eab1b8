-- A start of an image of bytes makes a whole process.
use Rattle.std.proofs.Common.{◌≡◌, ℕ, zero, suc, ◌+◌, ◌-◌, ◌<◌, ◌≤◌, Bool, true, false, cond, not, ◌&&◌, nat_lt, List, [], ◌∷◌, ◌++◌, length, take, drop, replicate, slice_index, Option, Some, None, is_some, IfSome, refl, ◌∙◌, arith}
use Rattle.std.specs.List.{AllByRecursion, cons_option, filter_map}
use Rattle.std.proofs.lemmas.Bool.{ltb-false}
use Rattle.std.proofs.lemmas.List.{length-append, length-replicate}
use Rattle.std.proofs.lemmas.List.Elements.{All-replicate, recursion_from_All}
use Rattle.list_laws.proofs.AllLists.{all_append, all_drop, all_take}
use Rattle.elf_image.specs.Fault.{fault_of}
use Rattle.elf_image.specs.Header.{entry_of}
use Rattle.elf_image.specs.Image.{bytes_part, part_at, parts_of, placed, with_part, zeros}
use Rattle.elf_image.specs.Numbers.{half_at, word_at}
use Rattle.elf_image.specs.Segments.{has_bytes, indices, program_header}
use Rattle.elf_image.specs.declared.part.Part.{Part}
use Rattle.elf_image.proofs.TheLaws.{parts_are_loaded}
use Rattle.rv32i_core.specs.Bytes.{image_memory}
use Rattle.rv32i_core.specs.Laws.{IsCpu, IsMemory, IsWord}
use Rattle.rv32i_core.proofs.TheLaws.{beginnings_are_within}
use Rattle.target_contexts.specs.Loading.{is_bad, is_elf, is_long}
use Rattle.target_contexts.specs.ProcessValue.{ProcessValue}
use Rattle.target_contexts.specs.Spawning.{begun_thread, can_begin}
use Rattle.target_contexts.specs.Whole.{BeginStaysWhole, IsWhole, StartIsWhole, StartStands}
use Rattle.target_contexts.specs.declared.threads.Thread.{Thread}
use Rattle.target_contexts.specs.declared.targets.StartRefusal.TheVariants as refusals

abbrev IsByte : ℕ → Type 0
IsByte byte = byte < 256

abbrev AreBytes : List ℕ → Type 0
AreBytes bytes = AllByRecursion IsByte bytes

zeros_words : AllByRecursion IsWord (replicate 32 0)
zeros_words = recursion_from_All IsWord (replicate 32 0) (All-replicate IsWord 32 0 (omega arith))

zeros_bytes : (count : ℕ) → AreBytes (replicate count 0)
zeros_bytes count = recursion_from_All IsByte _ (All-replicate IsByte count 0 (omega arith))

-- ---- an image at the address 0

image_whole : (image : List ℕ) → AreBytes image → length image ≤ 65536 → IsMemory (image_memory image)
unfolding image_memory
image_whole image are within = record {
  size = length-append image (replicate (65536 - length image) 0) ∙ omega (arith, length-replicate {A = ℕ} (65536 - length image) 0);
  bytes = all_append IsByte image (replicate (65536 - length image) 0) are (zeros_bytes (65536 - length image));
}

-- ---- a file that is loaded: its bytes are those of the file, and zeros

abbrev HasBytes : Part → Type 0
HasBytes part = AreBytes part.bytes

by_part : (has : Bool) (part : Part) → HasBytes part → IfSome (cond has (Some part) None) HasBytes
by_part true part are = are
by_part false part are = tt

part_bytes : (file : List ℕ) (index : ℕ) → AreBytes file → IfSome (part_at file index) HasBytes
unfolding part_at
part_bytes file index are =
    let header = program_header file index in
    by_part (has_bytes header) (bytes_part file header)
    (all_take IsByte _ (drop header.offset file) (all_drop IsByte header.offset file are))

cons_bytes : (o : Option Part) (parts : List Part) → IfSome o HasBytes → AllByRecursion HasBytes parts → AllByRecursion HasBytes (cons_option o parts)
cons_bytes None parts one all = all
cons_bytes (Some part) parts one all = (one, all)

each_bytes : (file : List ℕ) (numbers : List ℕ) → AreBytes file → AllByRecursion HasBytes (filter_map (part_at file) numbers)
each_bytes file [] are = tt
each_bytes file (index ∷ numbers) are =
    cons_bytes (part_at file index) (filter_map (part_at file) numbers) (part_bytes file index are) (each_bytes file numbers are)

parts_bytes : (file : List ℕ) → AreBytes file → AllByRecursion HasBytes (parts_of file)
unfolding parts_of
parts_bytes file are = each_bytes file (indices file) are

placed_bytes : (parts : List Part) (memory : List ℕ) → AllByRecursion HasBytes parts → AreBytes memory → AreBytes (placed parts memory)
placed_bytes [] memory all are = are
placed_bytes (part ∷ parts) memory all are =
    placed_bytes parts (with_part part memory) all.1
    (all_append IsByte (take part.addr memory) (part.bytes ++ drop (part.addr + length part.bytes) memory) (all_take IsByte part.addr memory are)
    (all_append IsByte part.bytes (drop (part.addr + length part.bytes) memory) all.0 (all_drop IsByte (part.addr + length part.bytes) memory are)))

zeros_are : AreBytes zeros
unfolding zeros
zeros_are = zeros_bytes 65536

file_whole : (file : List ℕ) → AreBytes file → fault_of file ≡ None → IsMemory (placed (parts_of file) zeros)
file_whole file are none = record {
  size = (parts_are_loaded file none).size;
  bytes = placed_bytes (parts_of file) zeros (parts_bytes file are) zeros_are;
}

-- ---- the entry has 32 bits

byte_small : (bytes : List ℕ) (place : ℕ) → AreBytes bytes → slice_index bytes place < 256
byte_small [] place are = omega arith
byte_small (byte ∷ bytes) zero are = are.0
byte_small (byte ∷ bytes) (suc place) are = byte_small bytes place are.1

word_small : (file : List ℕ) (place : ℕ) → AreBytes file → IsWord (word_at file place)
unfolding half_at word_at
word_small file place are =
    omega (arith, byte_small file place are, byte_small file (place + 1) are, byte_small file (place + 2) are, byte_small file (place + 2 + 1) are)

-- ---- a start

-- bytes that aren't refused are no ELF file and fit into memory, or an ELF file without a fault
small_by : (large : Bool) (none : Bool) → cond large (Some refusals.Size) (cond none (Some refusals.Bad) None) ≡ None → (large ≡ false) × (none ≡ false)
small_by true none free = absurd cc
small_by false true free = absurd cc
small_by false false free = (refl, refl)

no_some : {A : Type 0} → (o : Option A) → is_some o ≡ false → o ≡ None
no_some None none = refl
no_some (Some x) none = absurd cc

memory_by : (elf : Bool) (bytes : List ℕ) → AreBytes bytes → (not elf && nat_lt 65536 (length bytes)) ≡ false → (elf && is_some (fault_of bytes)) ≡ false
    → IsMemory (cond elf (placed (parts_of bytes) zeros) (image_memory bytes))
memory_by true bytes are small sound = file_whole bytes are (no_some (fault_of bytes) sound)
memory_by false bytes are small sound = image_whole bytes are (ltb-false 65536 (length bytes) small)

entry_by : (elf : Bool) (bytes : List ℕ) → AreBytes bytes → IsWord (cond elf (entry_of bytes) 0)
entry_by true bytes are = word_small bytes 24 are
entry_by false bytes are = omega arith

pub start_whole : StartIsWhole
start_whole attach image are free =
    let both = small_by (is_long image.bytes) (is_bad image.bytes) free in
    record {
      cpus = (record { pc = entry_by (is_elf image.bytes) image.bytes are; count = length-replicate {A = ℕ} 32 0; registers = zeros_words }, tt);
      memory = memory_by (is_elf image.bytes) image.bytes are both.0 both.1;
    }

pub start_stands : StartStands
start_stands attach image = refl

-- ---- a thread more

begun_whole : (can : Bool) (pc argument : ℕ) (process : ProcessValue) → IsWord pc → IsWord argument → IsWhole process
    → IsWhole (cond can (record process { threads = process.threads ++ begun_thread pc argument ∷ [] }) process)
begun_whole false pc argument process first second is = is
begun_whole true pc argument process first second is = record {
  cpus = all_append (λ (thread : Thread). IsCpu thread.cpu) process.threads (begun_thread pc argument ∷ []) is.cpus (beginnings_are_within pc argument first second, tt);
  memory = is.memory;
}

pub begin_whole : BeginStaysWhole
begin_whole pc argument process first second is = begun_whole (can_begin pc process) pc argument process first second is
