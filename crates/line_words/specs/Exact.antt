-- Readers that read exactly the texts of what they give, and the ways in which they are put together.
use Rattle.std.proofs.Common.{◌≡◌, ℕ, ◌<◌, ◌≤◌, ◌^◌, Bool, true, false, cond, List, [], ◌∷◌, ◌++◌, refl, sym, ◌∙◌, ap, subst, arith, inl, inr, ◌⊎◌}
use Rattle.std.specs.Prelude.{Option, Some, None, option_map, option_and_then, bytes_eq, decimal}
use Rattle.std.specs.List.{list_all}
use Rattle.std.proofs.lemmas.Bool.{and_parts, cond-true, false≢true}
use Rattle.std.proofs.lemmas.Fmt.{decimal_is_IsNumeral}
use Rattle.std.proofs.lemmas.Option.{none-some, cond_some}
use Rattle.std.proofs.lemmas.Slice.Eq.{bytes_eq-Decides}
use Rattle.std.proofs.lemmas.Str.Parse.{digit_at}
use Rattle.tcf_values.specs.Cut.{Lacks, cut_of}
use Rattle.tcf_values.specs.CutLaws.{lacks_by_index, cut_there, cut_found}
use Rattle.tcf_values.specs.Number.{number_of}
use Rattle.tcf_values.specs.NumberLaws.{number_there, number_found}
use Rattle.tcf_values.specs.OptionLaws.{and_then_found, map_found}
use Rattle.line_words.specs.Words.{spaced, is_inside, is_word, both, passing, word_of}

-- what is read has this text, and is read from it
pub record IsExact (A : Type 0) (read : List ℕ → Option A) (Good : A → Type 0) (text : A → List ℕ) : Type 0 where
  pub found : (t : List ℕ) (x : A) → read t ≡ Some x → Good x × (t ≡ text x)
  pub there : (x : A) → Good x → read (text x) ≡ Some x

-- the texts have no blank
abbrev pub AreWords : (A : Type 0) → (A → Type 0) → (A → List ℕ) → Type 0
AreWords A Good text = (x : A) → Good x → Lacks 32 (text x)

-- ---- Choices among readers

pub same_bytes : (a b : List ℕ) → bytes_eq a b ≡ true → a ≡ b
same_bytes a b = (bytes_eq-Decides a b).0

-- a value behind a test
pub guarded : {A : Type 0} (b : Bool) (o : Option A) (x : A) → cond b o None ≡ Some x → (b ≡ true) × (o ≡ Some x)
guarded true o x e = (refl, e)
guarded false o x e = absurd (none-some x e)

pub two_ways : {A : Type 0} (b : Bool) (o p : Option A) (x : A) → cond b o p ≡ Some x → ((b ≡ true) × (o ≡ Some x)) ⊎ (p ≡ Some x)
two_ways true o p x e = inl (refl, e)
two_ways false o p x e = inr e

-- what is made of what is read behind a word
pub made : (A B : Type 0) (read : List ℕ → Option A) (Good : A → Type 0) (text : A → List ℕ) (make : A → B) (IsB : B → Type 0) (spelled : B → List ℕ) (word own rest : List ℕ) (x : B)
    → IsExact A read Good text → ((y : A) → Good y → IsB (make y)) → ((y : A) → spelled (make y) ≡ spaced own (text y))
    → bytes_eq word own ≡ true → option_map make (read rest) ≡ Some x → IsB x × (spaced word rest ≡ spelled x)
made A B read Good text make IsB spelled word own rest x is good spells same e =
    let m = map_found make (read rest) x e in
    let f = is.found rest m.0 m.1 in
    subst (λ y. IsB y × (spaced word rest ≡ spelled y)) m.2
    (good m.0 f.0, ap (λ w. w ++ 32 ∷ rest) (same_bytes word own same) ∙ (ap (λ t. own ++ 32 ∷ t) f.1 ∙ sym (spells m.0)))

-- ---- Two readers, with a blank between their texts

pub both_exact : (A B : Type 0) (f : List ℕ → Option A) (g : List ℕ → Option B) (F : A → Type 0) (G : B → Type 0) (s : A → List ℕ) (t : B → List ℕ)
    → IsExact A f F s → AreWords A F s → IsExact B g G t → IsExact (A × B) (both f g) (λ x. F x.0 × G x.1) (λ x. spaced (s x.0) (t x.1))
both_exact A B f g F G s t first words second = record { found = reads; there = spells }
  where
    reads : (line : List ℕ) (x : A × B) → both f g line ≡ Some x → (F x.0 × G x.1) × (line ≡ spaced (s x.0) (t x.1))
    reads line x e =
        let m = and_then_found (λ parts. option_and_then (λ a. option_map (λ b. (a, b)) (g parts.1)) (f parts.0)) (cut_of 32 line) x e in
        let n = and_then_found (λ a. option_map (λ b. (a, b)) (g m.0.1)) (f m.0.0) x m.2 in
        let k = map_found (λ b. (n.0, b)) (g m.0.1) x n.2 in
        let one = first.found m.0.0 n.0 n.1 in
        let two = second.found m.0.1 k.0 k.1 in
        let whole : line ≡ spaced (s n.0) (t k.0) =
        cut_found 32 line m.0 m.1 ∙ (ap (λ w. w ++ 32 ∷ m.0.1) one.1 ∙ ap (λ w. s n.0 ++ 32 ∷ w) two.1) in
        subst (λ (y : A × B). (F y.0 × G y.1) × (line ≡ spaced (s y.0) (t y.1))) {x = (n.0, k.0)} k.2 ((one.0, two.0), whole)

    spells : (x : A × B) → F x.0 × G x.1 → both f g (spaced (s x.0) (t x.1)) ≡ Some x
    spells x good =
        ap (option_and_then (λ parts. option_and_then (λ a. option_map (λ b. (a, b)) (g parts.1)) (f parts.0)))
        (cut_there 32 (spaced (s x.0) (t x.1)) (s x.0) (t x.1) (words x.0 good.0, refl))
        ∙ (ap (option_and_then (λ a. option_map (λ b. (a, b)) (g (t x.1)))) (first.there x.0 good.0) ∙ ap (option_map (λ b. (x.0, b))) (second.there x.1 good.1))

-- ---- Texts that pass a test

abbrev pub Passes : (List ℕ → Bool) → List ℕ → Type 0
Passes test text = test text ≡ true

abbrev pub itself : List ℕ → List ℕ
itself text = text

pub passing_exact : (test : List ℕ → Bool) → IsExact (List ℕ) (passing test) (Passes test) itself
passing_exact test =
    record {
      found = λ t n e. let is = cond_some (test t) t n e in (subst (λ m. test m ≡ true) is.1 is.0, is.1);
      there = λ n good. cond-true (test n) _ _ good;
    }

-- a text of bytes that pass a test, which the blank doesn't
pub all_lack : (test : ℕ → Bool) → test 32 ≡ false → (text : List ℕ) → list_all test text ≡ true → Lacks 32 text
all_lack test not [] all = tt
all_lack test not (b ∷ bs) all =
    let parts = and_parts (test b) (list_all test bs) all in
    (λ is. false≢true (sym not ∙ subst (λ x. test x ≡ true) is parts.0), all_lack test not bs parts.1)

pub word_exact : IsExact (List ℕ) word_of (Passes is_word) itself
unfolding word_of
word_exact = passing_exact is_word

pub word_words : AreWords (List ℕ) (Passes is_word) itself
word_words n good = all_lack is_inside refl n (and_parts _ _ good).1

-- ---- Numbers

abbrev pub InRange : ℕ → ℕ → ℕ → Type 0
InRange low high n = (low ≤ n) × (n ≤ high)

pub number_exact : (low high : ℕ) → high < 2 ^ 32 → IsExact ℕ (number_of low high) (InRange low high) decimal
number_exact low high small =
    record {
      found = λ t n e. let is = number_found low high t n e in ((is.1, is.2), is.0);
      there = λ n good. number_there low high (decimal n) n refl good.0 good.1 (omega (arith, good.1));
    }

-- digits are no blanks
pub digits_lack : (n : ℕ) → n < 2 ^ 64 → Lacks 32 (decimal n)
digits_lack n wide =
    let numeral = (decimal_is_IsNumeral n wide).0 in
    lacks_by_index 32 (decimal n) (λ k below is. let within = digit_at (decimal n) k numeral.1 below in omega (arith, within.0))

pub number_words : (low high : ℕ) → high < 2 ^ 32 → AreWords ℕ (InRange low high) decimal
number_words low high small n good = digits_lack n (omega (arith, good.1))
