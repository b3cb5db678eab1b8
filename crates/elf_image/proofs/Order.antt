-- The order of the checks.
use Rattle.std.proofs.Common.{◌≡◌, ℕ, ◌+◌, ◌*◌, ◌<◌, ◌≤◌, ◌==◌, nat_lt, nat_le, Bool, true, false, cond, not, List, [], ◌∷◌, ◌++◌, length, Option, None, Some, option_map, inl, inr, refl, sym, ap, ◌∙◌, arith}
use Rattle.std.specs.Option.{option_or}
use Rattle.std.proofs.lemmas.Bool.{eqb-true, le-ltb, leb-true, lt-ltb, ltb-false, not-false, or_cases}
use Rattle.elf_image.specs.Fault.{fault_if, fault_of, first_of, is_entry}
use Rattle.elf_image.specs.Header.{Field, HasHeaders, entry_of, first_other, has_table, header_count, header_fault, identification, number_at, object, sizes, table_place}
use Rattle.elf_image.specs.Segments.{misplaced_segment, overlapping_segment}
use Rattle.elf_image.specs.declared.fault.ElfFault.{ElfFault}
use Rattle.elf_image.specs.declared.fault.ElfFault.TheVariants.{Short, Header, Segment, Overlap, Entry}

-- ---- the fields of the file header

by_field : (taken : Bool) (x : ℕ) (a b c : Option ℕ) → a ≡ option_or b c → cond taken a (Some x) ≡ option_or (cond taken b (Some x)) c
by_field true x a b c rest = rest
by_field false x a b c rest = refl

first_joined : (file : List ℕ) (xs ys : List Field) → first_other file (xs ++ ys) ≡ option_or (first_other file xs) (first_other file ys)
unfolding first_other
first_joined file [] ys = refl
first_joined file (field ∷ xs) ys =
    by_field (field.2 (number_at field.1 file field.0)) field.0 (first_other file (xs ++ ys)) (first_other file xs) (first_other file ys) (first_joined file xs ys)

pub header_in_parts : (file : List ℕ) → header_fault file ≡ option_or (option_or (first_other file identification) (first_other file object)) (first_other file sizes)
unfolding header_fault
header_in_parts file =
    first_joined file (identification ++ object) sizes ∙ ap (λ (o : Option ℕ). option_or o (first_other file sizes)) (first_joined file identification object)

-- ---- the checks that are left

abbrev after_overlaps : List ℕ → List (Option ElfFault)
after_overlaps file = fault_if (not (is_entry (entry_of file))) Entry ∷ []

abbrev after_places : List ℕ → List (Option ElfFault)
after_places file = option_map Overlap (overlapping_segment file) ∷ after_overlaps file

abbrev after_table : List ℕ → List (Option ElfFault)
after_table file = option_map Segment (misplaced_segment file) ∷ after_places file

abbrev after_header : List ℕ → List (Option ElfFault)
after_header file = fault_if (not (has_table file)) Short ∷ after_table file

abbrev after_length : List ℕ → List (Option ElfFault)
after_length file = option_map Header (header_fault file) ∷ after_header file

in_order : (file : List ℕ) → fault_of file ≡ first_of (fault_if (nat_lt (length file) 52) Short ∷ after_length file)
unfolding fault_of
in_order file = refl

skip : (o : Option ElfFault) (faults : List (Option ElfFault)) → o ≡ None → first_of (o ∷ faults) ≡ first_of faults
skip o faults none = ap (λ (o : Option ElfFault). option_or o (first_of faults)) none

hit : (o : Option ElfFault) (faults : List (Option ElfFault)) (fault : ElfFault) → o ≡ Some fault → first_of (o ∷ faults) ≡ Some fault
hit o faults fault is = ap (λ (o : Option ElfFault). option_or o (first_of faults)) is

-- ---- each answer

pub too_short : (file : List ℕ) → length file < 52 → fault_of file ≡ Some Short
too_short file less =
    in_order file ∙ hit (fault_if (nat_lt (length file) 52) Short) (after_length file) Short (ap (λ (b : Bool). fault_if b Short) (lt-ltb (length file) 52 less))

past_length : (file : List ℕ) → 52 ≤ length file → fault_of file ≡ first_of (after_length file)
past_length file long =
    in_order file ∙ skip (fault_if (nat_lt (length file) 52) Short) (after_length file) (ap (λ (b : Bool). fault_if b Short) (le-ltb (length file) 52 long))

pub other_field : (file : List ℕ) (place : ℕ) → 52 ≤ length file → header_fault file ≡ Some place → fault_of file ≡ Some (Header place)
other_field file place long is =
    past_length file long ∙ hit (option_map Header (header_fault file)) (after_header file) (Header place) (ap (option_map Header) is)

past_header : (file : List ℕ) → 52 ≤ length file → header_fault file ≡ None → fault_of file ≡ first_of (after_header file)
past_header file long none =
    past_length file long ∙ skip (option_map Header (header_fault file)) (after_header file) (ap (option_map Header) none)

pub no_table : (file : List ℕ) → 52 ≤ length file → header_fault file ≡ None → has_table file ≡ false → fault_of file ≡ Some Short
no_table file long none without =
    past_header file long none ∙ hit (fault_if (not (has_table file)) Short) (after_table file) Short (ap (λ (b : Bool). fault_if (not b) Short) without)

past_table : (file : List ℕ) → 52 ≤ length file → header_fault file ≡ None → has_table file ≡ true → fault_of file ≡ first_of (after_table file)
past_table file long none there =
    past_header file long none ∙ skip (fault_if (not (has_table file)) Short) (after_table file) (ap (λ (b : Bool). fault_if (not b) Short) there)

pub is_misplaced : (file : List ℕ) (index : ℕ) → 52 ≤ length file → header_fault file ≡ None → has_table file ≡ true → misplaced_segment file ≡ Some index → fault_of file ≡ Some (Segment index)
is_misplaced file index long none there is =
    past_table file long none there ∙ hit (option_map Segment (misplaced_segment file)) (after_places file) (Segment index) (ap (option_map Segment) is)

past_places : (file : List ℕ) → 52 ≤ length file → header_fault file ≡ None → has_table file ≡ true → misplaced_segment file ≡ None → fault_of file ≡ first_of (after_places file)
past_places file long none there placed =
    past_table file long none there ∙ skip (option_map Segment (misplaced_segment file)) (after_places file) (ap (option_map Segment) placed)

pub does_overlap : (file : List ℕ) (index : ℕ) → 52 ≤ length file → header_fault file ≡ None → has_table file ≡ true → misplaced_segment file ≡ None
    → overlapping_segment file ≡ Some index → fault_of file ≡ Some (Overlap index)
does_overlap file index long none there placed is =
    past_places file long none there placed ∙ hit (option_map Overlap (overlapping_segment file)) (after_overlaps file) (Overlap index) (ap (option_map Overlap) is)

past_overlaps : (file : List ℕ) → 52 ≤ length file → header_fault file ≡ None → has_table file ≡ true → misplaced_segment file ≡ None
    → overlapping_segment file ≡ None → fault_of file ≡ first_of (after_overlaps file)
past_overlaps file long none there placed apart =
    past_places file long none there placed ∙ skip (option_map Overlap (overlapping_segment file)) (after_overlaps file) (ap (option_map Overlap) apart)

pub no_entry : (file : List ℕ) → 52 ≤ length file → header_fault file ≡ None → has_table file ≡ true → misplaced_segment file ≡ None
    → overlapping_segment file ≡ None → is_entry (entry_of file) ≡ false → fault_of file ≡ Some Entry
no_entry file long none there placed apart isnt =
    past_overlaps file long none there placed apart ∙ hit (fault_if (not (is_entry (entry_of file))) Entry) [] Entry (ap (λ (b : Bool). fault_if (not b) Entry) isnt)

pub no_fault : (file : List ℕ) → 52 ≤ length file → header_fault file ≡ None → has_table file ≡ true → misplaced_segment file ≡ None
    → overlapping_segment file ≡ None → is_entry (entry_of file) ≡ true → fault_of file ≡ None
no_fault file long none there placed apart is =
    past_overlaps file long none there placed apart ∙ skip (fault_if (not (is_entry (entry_of file))) Entry) [] (ap (λ (b : Bool). fault_if (not b) Entry) is)

-- ---- a file without a fault passes each check

pub record IsSound (file : List ℕ) : Type 0 where
  pub long : 52 ≤ length file
  pub table : has_table file ≡ true
  pub placed : misplaced_segment file ≡ None
  pub apart : overlapping_segment file ≡ None
  pub entry : is_entry (entry_of file) ≡ true

both_none : (o : Option ElfFault) (faults : List (Option ElfFault)) → first_of (o ∷ faults) ≡ None → (o ≡ None) × (first_of faults ≡ None)
both_none None faults none = (refl, none)
both_none (Some fault) faults none = absurd cc

if_none : (b : Bool) (fault : ElfFault) → fault_if b fault ≡ None → b ≡ false
if_none true fault none = absurd cc
if_none false fault none = refl

map_none : (f : ℕ → ElfFault) (o : Option ℕ) → option_map f o ≡ None → o ≡ None
map_none f None none = refl
map_none f (Some x) none = absurd cc

pub sound_file : (file : List ℕ) → fault_of file ≡ None → IsSound file
sound_file file none =
    let one = both_none (fault_if (nat_lt (length file) 52) Short) (after_length file) (sym (in_order file) ∙ none) in
    let two = both_none (option_map Header (header_fault file)) (after_header file) one.1 in
    let three = both_none (fault_if (not (has_table file)) Short) (after_table file) two.1 in
    let four = both_none (option_map Segment (misplaced_segment file)) (after_places file) three.1 in
    let five = both_none (option_map Overlap (overlapping_segment file)) (after_overlaps file) four.1 in
    let six = both_none (fault_if (not (is_entry (entry_of file))) Entry) [] five.1 in
    record {
      long = ltb-false (length file) 52 (if_none (nat_lt (length file) 52) Short one.0);
      table = not-false (has_table file) (if_none (not (has_table file)) Short three.0);
      placed = map_none Segment (misplaced_segment file) four.0;
      apart = map_none Overlap (overlapping_segment file) five.0;
      entry = not-false (is_entry (entry_of file)) (if_none (not (is_entry (entry_of file))) Entry six.0);
    }

-- ---- the program headers lie in the file

table_inside : (file : List ℕ) → has_table file ≡ true → 0 < header_count file → table_place file + 32 * header_count file ≤ length file
table_inside file there some =
    elim (or_cases (header_count file == 0) (nat_le (table_place file + 32 * header_count file) (length file)) there) [
      | inl none ↦ let no : header_count file ≡ 0 = eqb-true (header_count file) 0 none in absurd (omega (arith, no, some))
      | inr within ↦ leb-true (table_place file + 32 * header_count file) (length file) within
    ]

pub headers_inside : (file : List ℕ) → 52 ≤ length file → has_table file ≡ true → HasHeaders file
headers_inside file long there = record { first = long; others = table_inside file there }
