-- What an answer says of a file.
use Rattle.std.proofs.Common.{◌≡◌, ℕ, ◌%◌, ◌<◌, ◌==◌, nat_lt, List, Option, None, Some, Result, Ok, Err, refl, sym, ap, subst, ◌∙◌}
use Rattle.std.specs.List.{All, AllPairs}
use Rattle.std.specs.Prelude.{IfErr, IfOk, IfSome, OnOk}
use Rattle.std.proofs.lemmas.Bool.{and_parts, eqb-true, ltb-true}
use Rattle.elf_image.specs.Fault.{fault_of}
use Rattle.elf_image.specs.Header.{entry_of}
use Rattle.elf_image.specs.Image.{Answers, AreApart, LiesInMemory, Loads, Refuses, parts_of, placed, zeros}
use Rattle.elf_image.specs.declared.fault.ElfFault.{ElfFault}
use Rattle.elf_image.specs.declared.fault.ElfFault.TheVariants.{Short, Header, Segment, Overlap, Entry, NoMemory}
use Rattle.elf_image.specs.declared.part.Part.{Part}
use Rattle.elf_image.specs.declared.program.Program.{Program}
use Rattle.elf_image.proofs.Images.{loaded, parts_apart, parts_below}
use Rattle.elf_image.proofs.Order.{sound_file}

-- a fault of the file's own is what it is refused for
pub refuses_own : (file : List ℕ) (fault : ElfFault) → fault_of file ≡ Some fault → (fault ≡ NoMemory → ⊥) → Refuses file fault
refuses_own file Short is own = is
refuses_own file (Header place) is own = is
refuses_own file (Segment index) is own = is
refuses_own file (Overlap index) is own = is
refuses_own file Entry is own = is
refuses_own file NoMemory is own = absurd (own refl)

at_some : (o : Option ElfFault) (fault : ElfFault) (P : ElfFault → Type 0) → o ≡ Some fault → P fault → IfSome o P
at_some o fault P is holds = subst (λ (o : Option ElfFault). IfSome o P) (sym is) holds

at_none : (o : Option ElfFault) (P : ElfFault → Type 0) → o ≡ None → IfSome o P
at_none o P is = subst (λ (o : Option ElfFault). IfSome o P) (sym is) tt

pub fault_answered : (file : List ℕ) (r : Result Program ElfFault) → Answers file r → IfSome (fault_of file) (λ fault. r ≡ Err fault)
fault_answered file (Ok program) answers = at_none (fault_of file) (λ fault. Ok program ≡ Err fault) answers.sound
fault_answered file (Err Short) is = at_some (fault_of file) Short (λ fault. Err Short ≡ Err fault) is refl
fault_answered file (Err (Header place)) is = at_some (fault_of file) (Header place) (λ fault. Err (Header place) ≡ Err fault) is refl
fault_answered file (Err (Segment index)) is = at_some (fault_of file) (Segment index) (λ fault. Err (Segment index) ≡ Err fault) is refl
fault_answered file (Err (Overlap index)) is = at_some (fault_of file) (Overlap index) (λ fault. Err (Overlap index) ≡ Err fault) is refl
fault_answered file (Err Entry) is = at_some (fault_of file) Entry (λ fault. Err Entry ≡ Err fault) is refl
fault_answered file (Err NoMemory) none = at_none (fault_of file) (λ fault. Err NoMemory ≡ Err fault) none

pub refused_for : (file : List ℕ) (r : Result Program ElfFault) → Answers file r → IfErr r (Refuses file)
refused_for file (Ok program) answers = tt
refused_for file (Err fault) answers = answers

pub sound_then : (file : List ℕ) (r : Result Program ElfFault) → Answers file r → OnOk r (fault_of file ≡ None)
sound_then file (Ok program) answers = answers.sound
sound_then file (Err fault) answers = tt

pub parts_then : (file : List ℕ) (r : Result Program ElfFault) → Answers file r → IfOk r (λ program. program.parts ≡ parts_of file)
parts_then file (Ok program) answers = answers.parts
parts_then file (Err fault) answers = tt

pub image_then : (file : List ℕ) (r : Result Program ElfFault) → Answers file r → IfOk r (λ program. Loads file program.entry (placed program.parts zeros))
image_then file (Ok program) answers =
    subst (λ (start : ℕ). Loads file start (placed program.parts zeros)) (sym answers.entry)
    (subst (λ (parts : List Part). Loads file (entry_of file) (placed parts zeros)) (sym answers.parts) (loaded file answers.sound))
image_then file (Err fault) answers = tt

pub inside_then : (file : List ℕ) (r : Result Program ElfFault) → Answers file r → IfOk r (λ program. All LiesInMemory program.parts)
inside_then file (Ok program) answers = subst (λ (parts : List Part). All LiesInMemory parts) (sym answers.parts) (parts_below file answers.sound)
inside_then file (Err fault) answers = tt

pub apart_then : (file : List ℕ) (r : Result Program ElfFault) → Answers file r → IfOk r (λ program. AllPairs AreApart program.parts)
apart_then file (Ok program) answers = subst (λ (parts : List Part). AllPairs AreApart parts) (sym answers.parts) (parts_apart file answers.sound)
apart_then file (Err fault) answers = tt

pub aligned_then : (file : List ℕ) (r : Result Program ElfFault) → Answers file r → IfOk r (λ program. program.entry % 4 ≡ 0)
aligned_then file (Ok program) answers =
    let both = and_parts (entry_of file % 4 == 0) (nat_lt (entry_of file) 65536) (sound_file file answers.sound).entry in
    ap (λ (start : ℕ). start % 4) answers.entry ∙ eqb-true (entry_of file % 4) 0 both.0
aligned_then file (Err fault) answers = tt

pub below_then : (file : List ℕ) (r : Result Program ElfFault) → Answers file r → IfOk r (λ program. program.entry < 65536)
below_then file (Ok program) answers =
    let both = and_parts (entry_of file % 4 == 0) (nat_lt (entry_of file) 65536) (sound_file file answers.sound).entry in
    subst (λ (start : ℕ). start < 65536) (sym answers.entry) (ltb-true (entry_of file) 65536 both.1)
below_then file (Err fault) answers = tt
