-- The bytes of an image as they are kept, and what a process begins with.
use Rattle.std.proofs.Common.{◌≡◌, ℕ, ◌<◌, ◌≤◌, true, false, cond, not, ◌&&◌, nat_lt, List, length, take, Some, None, is_some, refl, sym, ◌∙◌, ap, subst, arith}
use Rattle.std.proofs.lemmas.Bool.{and_from, and_parts, le-ltb, lt-ltb}
use Rattle.std.proofs.lemmas.List.{take_at}
use Rattle.list_laws.proofs.Lists.{take_most}
use Rattle.elf_image.specs.Fault.{fault_of}
use Rattle.elf_image.specs.Header.{IsElf, entry_of}
use Rattle.elf_image.specs.Image.{parts_of, placed, zeros}
use Rattle.elf_image.specs.declared.fault.ElfFault.{ElfFault}
use Rattle.rv32i_core.specs.Bytes.{image_memory}
use Rattle.rv32i_core.specs.Pages.{filled_up}
use Rattle.target_contexts.specs.KeptImages.{Begin}
use Rattle.target_contexts.specs.Loading.{is_bad, is_elf, is_long}
use Rattle.target_contexts.specs.Starting.{bytes_refusal}
use Rattle.target_contexts.specs.declared.targets.StartRefusal.TheVariants as refusals

-- ---- what is kept

pub filled_front : (image pages : List ℕ) (count : ℕ) → count ≡ length image → pages ≡ filled_up image → take count pages ≡ image
filled_front image pages count many is = rw (many, is) (take_at image _ (length image) refl)

pub raw_begin : (bytes pages : List ℕ) → is_elf bytes ≡ false → image_memory pages ≡ image_memory bytes → Begin bytes pages 0
raw_begin bytes pages isnt is = record {
  entry_is = sym (ap (λ b. cond b (entry_of bytes) 0) isnt);
  memory = is ∙ sym (ap (λ b. cond b (placed (parts_of bytes) zeros) (image_memory bytes)) isnt);
}

pub raw_kept : (bytes pages : List ℕ) (count : ℕ) → count ≡ length bytes → pages ≡ filled_up bytes → image_memory pages ≡ image_memory bytes → is_elf bytes ≡ false → count ≤ 65536
    → (count ≤ 65536) × (is_elf (take count pages) ≡ false) × Begin (take count pages) pages 0
raw_kept bytes pages count many filled is isnt small =
    let front = filled_front bytes pages count many filled in
    (small, ap is_elf front ∙ isnt, subst (λ (xs : List ℕ). Begin xs pages 0) (sym front) (raw_begin bytes pages isnt is))

pub long_kept : (bytes : List ℕ) → is_elf bytes ≡ false → 65536 < length bytes → is_long bytes ≡ true
long_kept bytes isnt long = and_from (not (is_elf bytes)) (nat_lt 65536 (length bytes)) (ap not isnt) (lt-ltb 65536 (length bytes) long)

pub elf_file : (file : List ℕ) → is_elf file ≡ true → IsElf file
unfolding is_elf
elf_file file is = is

pub file_kept : (file pages : List ℕ) (entry : ℕ) → is_elf file ≡ true → fault_of file ≡ None → entry ≡ entry_of file → image_memory pages ≡ placed (parts_of file) zeros
    → (is_elf file ≡ true) × (fault_of file ≡ None) × Begin file pages entry
file_kept file pages entry is none starts memory = (
  is,
  none,
  record {
    entry_is = starts ∙ sym (ap (λ b. cond b (entry_of file) 0) is);
    memory = memory ∙ sym (ap (λ b. cond b (placed (parts_of file) zeros) (image_memory file)) is);
  },
)

pub bad_kept : (file : List ℕ) (fault : ElfFault) → is_elf file ≡ true → fault_of file ≡ Some fault → is_bad file ≡ true
bad_kept file fault is at_fault = and_from (is_elf file) (is_some (fault_of file)) is (ap is_some at_fault)

-- ---- what a start comes to

pub raw_free : (count : ℕ) (pages bytes : List ℕ) → bytes ≡ take count pages → count ≤ 65536 → is_elf (take count pages) ≡ false → bytes_refusal bytes ≡ None
raw_free count pages bytes are small isnt =
    let short : length (take count pages) ≤ 65536 = omega (arith, take_most count pages, small) in
    rw (are, isnt, le-ltb 65536 (length (take count pages)) short) refl

pub file_free : (file : List ℕ) → is_elf file ≡ true → fault_of file ≡ None → bytes_refusal file ≡ None
file_free file is none = rw (is, none) refl

pub long_refused : (bytes : List ℕ) → is_long bytes ≡ true → bytes_refusal bytes ≡ Some refusals.Size
long_refused bytes long = rw long refl

pub bad_refused : (file : List ℕ) → is_bad file ≡ true → bytes_refusal file ≡ Some refusals.Bad
bad_refused file bad =
    let both = and_parts (is_elf file) (is_some (fault_of file)) bad in
    ap (λ b. cond (not b && nat_lt 65536 (length file)) (Some refusals.Size) (cond (is_bad file) (Some refusals.Bad) None)) both.0
    ∙ ap (λ b. cond b (Some refusals.Bad) None) bad
