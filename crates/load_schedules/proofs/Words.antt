-- Words and lines that have no end of a line within.
use Rattle.std.proofs.Common.{◌≡◌, ◌≢◌, ℕ, ◌+◌, ◌/◌, ◌%◌, ◌^◌, ◌<◌, ◌≤◌, true, not, List, [], ◌∷◌, ◌++◌, length, refl, ◌∙◌, ap, subst, arith}
use Rattle.std.specs.Prelude.{decimal}
use Rattle.std.specs.List.{AllByRecursion, list_all}
use Rattle.std.proofs.lemmas.Bool.{and_from, and_parts, false≢true, lt-ltb, ne_eqb}
use Rattle.std.proofs.lemmas.Fmt.{decimal_by_steps}
use Rattle.std.proofs.lemmas.List.{length-append}
use Rattle.std.proofs.lemmas.List.Folds.{list_all-append}
use Rattle.tcf_values.specs.Cut.{Lacks}
use Rattle.line_words.specs.Words.{is_inside, is_word, spaced}
use Rattle.tcf_schedules.specs.Line.{joined}

-- no end of a line
abbrev pub IsInside : List ℕ → Type 0
IsInside text = Lacks 10 text

pub inside_append : (a b : List ℕ) → IsInside a → IsInside b → IsInside (a ++ b)
inside_append [] b one other = other
inside_append (x ∷ a) b one other = (one.0, inside_append a b one.1 other)

all_inside : (text : List ℕ) → list_all is_inside text ≡ true → IsInside text
all_inside [] all = tt
all_inside (b ∷ bs) all =
    let parts = and_parts (is_inside b) (list_all is_inside bs) all in
    (λ is. false≢true (subst (λ x. is_inside x ≡ true) is parts.0), all_inside bs parts.1)

pub word_inside : (word : List ℕ) → is_word word ≡ true → IsInside word
word_inside word is = all_inside word (and_parts _ _ is).1

blank_inside : (b : ℕ) → b ≡ 32 → b ≢ 10
blank_inside b is same = omega (arith, is, same)

pub spaced_inside : (word more : List ℕ) → IsInside word → IsInside more → IsInside (spaced word more)
spaced_inside word more one other = inside_append word (32 ∷ more) one (blank_inside 32 refl, other)

pub joined_inside : (words : List (List ℕ)) → AllByRecursion (λ word. is_word word ≡ true) words → IsInside (joined words)
joined_inside [] all = tt
joined_inside (word ∷ []) all = word_inside word all.0
joined_inside (word ∷ next ∷ words) all = spaced_inside word (joined (next ∷ words)) (word_inside word all.0) (joined_inside (next ∷ words) all.1)

-- ---- Numbers

digit_inside : (b : ℕ) → 48 ≤ b → is_inside b ≡ true
digit_inside b above =
    and_from _ _ (and_from _ _ (ap not (ne_eqb b 0 (λ is. omega arith))) (ap not (ne_eqb b 10 (λ is. omega arith)))) (ap not (ne_eqb b 32 (λ is. omega arith)))

abbrev IsPlain : ℕ → List ℕ → Type 0
IsPlain n digits = (0 < length digits) × (list_all is_inside digits ≡ true)

one_digit : (n : ℕ) → n < 10 → IsPlain n ((48 + n) ∷ [])
one_digit n few = (omega arith, and_from _ _ (digit_inside (48 + n) (omega arith)) refl)

more_digits : (n : ℕ) (digits : List ℕ) → 10 ≤ n → IsPlain (n / 10) digits → IsPlain n (digits ++ ((48 + n % 10) ∷ []))
more_digits n digits many plain = (
  omega (arith, length-append digits ((48 + n % 10) ∷ [])),
  list_all-append is_inside digits ((48 + n % 10) ∷ []) ∙ and_from _ _ plain.1 (and_from _ _ (digit_inside (48 + n % 10) (omega arith)) refl),
)

-- the digits of a number are a word
pub decimal_word : (n : ℕ) → n < 2 ^ 64 → is_word (decimal n) ≡ true
decimal_word n wide =
    let plain = decimal_by_steps IsPlain one_digit more_digits n wide in
    and_from _ _ (lt-ltb 0 (length (decimal n)) plain.0) plain.1
