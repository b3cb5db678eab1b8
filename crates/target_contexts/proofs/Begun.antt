-- What a process begins with.
use Rattle.std.proofs.Common.{◌≡◌, ℕ, Bool, true, false, cond, List, None, refl, ap}
use Rattle.std.proofs.lemmas.Bool.{false_from_ne_true}
use Rattle.elf_image.specs.Fault.{fault_of}
use Rattle.elf_image.specs.Header.{IsElf, entry_of}
use Rattle.elf_image.specs.Image.{Loads, parts_of, placed, zeros}
use Rattle.elf_image.proofs.TheLaws.{parts_are_loaded}
use Rattle.rv32i_core.specs.Bytes.{image_memory}
use Rattle.target_contexts.specs.Loaded.{FileIsLoaded, OthersStandAtZero, RegistersAreZero}
use Rattle.target_contexts.specs.Loading.{is_elf}

elf_is : (bytes : List ℕ) → IsElf bytes → is_elf bytes ≡ true
unfolding is_elf
elf_is bytes is = is

elf_isnt : (bytes : List ℕ) → (IsElf bytes → ⊥) → is_elf bytes ≡ false
unfolding is_elf
elf_isnt bytes isnt = false_from_ne_true _ isnt

file_by : (elf : Bool) (bytes : List ℕ) → elf ≡ true → fault_of bytes ≡ None → Loads bytes (cond elf (entry_of bytes) 0) (cond elf (placed (parts_of bytes) zeros) (image_memory bytes))
file_by true bytes is none = parts_are_loaded bytes none
file_by false bytes is none = absurd cc

pub file_loaded : FileIsLoaded
file_loaded attach image is none = (file_by (is_elf image.bytes) image.bytes (elf_is image.bytes is) none, tt)

pub others_at_zero : OthersStandAtZero
others_at_zero attach image isnt =
    let flag = elf_isnt image.bytes isnt in (
      (ap (λ b. cond b (entry_of image.bytes) 0) flag, tt),
      ap (λ b. cond b (placed (parts_of image.bytes) zeros) (image_memory image.bytes)) flag,
    )

pub registers_zero : RegistersAreZero
registers_zero attach image = (refl, tt)
