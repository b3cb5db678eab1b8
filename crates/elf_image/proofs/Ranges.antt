-- Numbers one after another: the first that passes a test, and what is made of each.
use Rattle.std.proofs.Common.{◌≡◌, ℕ, zero, suc, ◌+◌, ◌-◌, ◌<◌, ◌≤◌, Bool, true, false, cond, ◌||◌, List, [], ◌∷◌, ◌++◌, Option, None, Some, inl, inr, refl, sym, ap, subst, ◌∙◌, arith, append_assoc}
use Rattle.std.specs.List.{cons_option, filter_map, find, list_any, range_with_len}
use Rattle.std.specs.Prelude.{option_to_list}
use Rattle.std.proofs.lemmas.Bool.{cases_lt, or_parts}
use Rattle.std.proofs.lemmas.List.{append-nil}
use Rattle.elf_image.specs.Image.{bytes_part, part_at}
use Rattle.elf_image.specs.Segments.{has_bytes, program_header}
use Rattle.elf_image.specs.declared.part.Part.{Part}
use Rattle.elf_image.specs.declared.segments.ProgramHeader.{ProgramHeader}

-- ---- one more, and none left

one_left : (count done : ℕ) → done < count → count - done ≡ suc (count - (done + 1))
one_left count done fewer = omega arith

none_left : (count done : ℕ) → count ≤ done → count - done ≡ 0
none_left count done all = omega arith

range_next : (count index : ℕ) → index < count → range_with_len index (count - index) ≡ index ∷ range_with_len (index + 1) (count - (index + 1))
range_next count index fewer = ap (λ (n : ℕ). range_with_len index n) (one_left count index fewer)

range_done : (count index : ℕ) → count ≤ index → range_with_len index (count - index) ≡ []
range_done count index all = ap (λ (n : ℕ). range_with_len index n) (none_left count index all)

-- ---- the first that passes, of those that are left

module _ (p : ℕ → Bool) (count index : ℕ) (all : Option ℕ) (so_far : find p (range_with_len index (count - index)) ≡ all) where
  pub found_here : index < count → p index ≡ true → Some index ≡ all
  found_here fewer is =
      sym (ap (find p) (range_next count index fewer) ∙ ap (λ (b : Bool). cond b (Some index) (find p (range_with_len (index + 1) (count - (index + 1))))) is) ∙ so_far

  pub found_later : index < count → p index ≡ false → find p (range_with_len (index + 1) (count - (index + 1))) ≡ all
  found_later fewer isnt =
      sym (ap (find p) (range_next count index fewer) ∙ ap (λ (b : Bool). cond b (Some index) (find p (range_with_len (index + 1) (count - (index + 1))))) isnt) ∙ so_far

  pub found_nowhere : count ≤ index → None ≡ all
  found_nowhere none = sym (ap (find p) (range_done count index none)) ∙ so_far

-- ---- whether one passes, of those that are left

module _ (p : ℕ → Bool) (count index : ℕ) (all : Bool) (so_far : list_any p (range_with_len index (count - index)) ≡ all) where
  pub one_here : index < count → p index ≡ true → true ≡ all
  one_here fewer is =
      sym (ap (list_any p) (range_next count index fewer) ∙ ap (λ (b : Bool). b || list_any p (range_with_len (index + 1) (count - (index + 1)))) is) ∙ so_far

  pub one_later : index < count → p index ≡ false → list_any p (range_with_len (index + 1) (count - (index + 1))) ≡ all
  one_later fewer isnt =
      sym (ap (list_any p) (range_next count index fewer) ∙ ap (λ (b : Bool). b || list_any p (range_with_len (index + 1) (count - (index + 1)))) isnt) ∙ so_far

  pub one_nowhere : count ≤ index → false ≡ all
  one_nowhere none = sym (ap (list_any p) (range_done count index none)) ∙ so_far

-- ---- the parts so far

cons_is_append : (o : Option Part) (parts : List Part) → cons_option o parts ≡ option_to_list o ++ parts
cons_is_append None parts = refl
cons_is_append (Some part) parts = refl

pub parts_go_on : (file : List ℕ) (count index : ℕ) (before after all : List Part) → index < count → after ≡ before ++ option_to_list (part_at file index)
    → before ++ filter_map (part_at file) (range_with_len index (count - index)) ≡ all
    → after ++ filter_map (part_at file) (range_with_len (index + 1) (count - (index + 1))) ≡ all
parts_go_on file count index before after all fewer is so_far =
    let rest = filter_map (part_at file) (range_with_len (index + 1) (count - (index + 1))) in
    let next : filter_map (part_at file) (range_with_len index (count - index)) ≡ option_to_list (part_at file index) ++ rest =
    ap (filter_map (part_at file)) (range_next count index fewer) ∙ cons_is_append (part_at file index) rest in
    ap (λ (parts : List Part). parts ++ rest) is ∙ append_assoc before (option_to_list (part_at file index)) rest
    ∙ ap (λ (parts : List Part). before ++ parts) (sym next) ∙ so_far

pub parts_end : (file : List ℕ) (count index : ℕ) (before all : List Part) → count ≤ index → before ++ filter_map (part_at file) (range_with_len index (count - index)) ≡ all → before ≡ all
parts_end file count index before all none so_far =
    sym (append-nil before) ∙ ap (λ (indices : List ℕ). before ++ filter_map (part_at file) indices) (sym (range_done count index none)) ∙ so_far

part_flag : (file : List ℕ) (index : ℕ) (header : ProgramHeader) (flag : Bool) → header ≡ program_header file index → has_bytes header ≡ flag
    → part_at file index ≡ cond flag (Some (bytes_part file header)) None
unfolding part_at
part_flag file index header flag is has =
    ap (λ (h : ProgramHeader). cond (has_bytes h) (Some (bytes_part file h)) None) (sym is) ∙ ap (λ (b : Bool). cond b (Some (bytes_part file header)) None) has

pub none_added : (file : List ℕ) (index : ℕ) (header : ProgramHeader) (before : List Part) → header ≡ program_header file index → has_bytes header ≡ false
    → before ≡ before ++ option_to_list (part_at file index)
none_added file index header before is has =
    sym (append-nil before) ∙ ap (λ (o : Option Part). before ++ option_to_list o) (sym (part_flag file index header false is has))

pub one_added : (file : List ℕ) (index : ℕ) (header : ProgramHeader) (before : List Part) (part : Part) → header ≡ program_header file index → has_bytes header ≡ true
    → part ≡ bytes_part file header → before ++ part ∷ [] ≡ before ++ option_to_list (part_at file index)
one_added file index header before part is has made =
    ap (λ (one : Part). before ++ one ∷ []) made ∙ ap (λ (o : Option Part). before ++ option_to_list o) (sym (part_flag file index header true is has))

-- ---- where nothing is found, no number passes

cond_none : (b : Bool) (x : ℕ) (o : Option ℕ) → cond b (Some x) o ≡ None → (b ≡ false) × (o ≡ None)
cond_none true x o none = absurd cc
cond_none false x o none = (refl, none)

pub find_none : (p : ℕ → Bool) (start n : ℕ) → find p (range_with_len start n) ≡ None → (i : ℕ) → start ≤ i → i < start + n → p i ≡ false
find_none p start zero none i from below = absurd (omega arith)
find_none p start (suc n) none i from below =
    let parts = cond_none (p start) start (find p (range_with_len (start + 1) n)) none in
    elim (cases_lt start i) [
      | inl later ↦ find_none p (start + 1) n parts.1 i (omega (arith, later)) (omega (arith, below))
      | inr here ↦ let same : start ≡ i = omega (arith, from, here) in subst (λ (k : ℕ). p k ≡ false) same parts.0
    ]

pub any_none : (p : ℕ → Bool) (start n : ℕ) → list_any p (range_with_len start n) ≡ false → (i : ℕ) → start ≤ i → i < start + n → p i ≡ false
any_none p start zero none i from below = absurd (omega arith)
any_none p start (suc n) none i from below =
    let parts = or_parts (p start) (list_any p (range_with_len (start + 1) n)) none in
    elim (cases_lt start i) [
      | inl later ↦ any_none p (start + 1) n parts.1 i (omega (arith, later)) (omega (arith, below))
      | inr here ↦ let same : start ≡ i = omega (arith, from, here) in subst (λ (k : ℕ). p k ≡ false) same parts.0
    ]
