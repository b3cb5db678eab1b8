-- What is shown is read back.
use Rattle.std.proofs.Common.{◌≡◌, ℕ, ◌<◌, ◌==◌, ◌||◌, Bool, true, false, cond, List, [], ◌∷◌, ◌++◌, refl, sym, ◌∙◌, ap, arith, inl, inr}
use Rattle.std.specs.Prelude.{Option, Some, None, option_map, option_and_then, flat_map}
use Rattle.std.specs.List.{AllByRecursion}
use Rattle.std.proofs.lemmas.Bool.{cases_Bool, cond-true, cond-false, eqb-true, ne_eqb, false_from_ne_true, false≢true}
use Rattle.std.proofs.Common.{append_assoc}
use Rattle.std.proofs.lemmas.Option.{none-some}
use Rattle.tcf_values.specs.OptionLaws.{map_found}
use Rattle.tcf_text.specs.Log.{is_hidden, shown_byte, front_byte, readable}
use Rattle.tcf_text.specs.Said.{byte_said, next_byte, plain_byte, pushed, unshown, word_said, AreShown, WordsAreReadBack}
use Rattle.tcf_text.proofs.Digits.{digits_said}

-- a byte that is shown as it is isn't `%`
plain_no_percent : (b : ℕ) → is_hidden b ≡ false → (b == 37) ≡ false
plain_no_percent b plain = ne_eqb b 37 (λ is. false≢true (sym plain ∙ ap is_hidden is))

plain_is : (b : ℕ) → is_hidden b ≡ false → plain_byte b ≡ Some b
plain_is b plain = cond-false (is_hidden b) None (Some b) plain

-- a byte as it is, before more
plain_step : (b : ℕ) (rest : List ℕ) → is_hidden b ≡ false → unshown (b ∷ rest) ≡ pushed (Some b) (unshown rest)
plain_step b [] plain = ap (λ o. pushed o (Some [])) (plain_is b plain)
plain_step b (h ∷ []) plain = ap (λ o. pushed o (unshown (h ∷ []))) (plain_is b plain)
plain_step b (h ∷ l ∷ rest) plain =
    cond-false (b == 37) (pushed (byte_said h l) (unshown rest)) (pushed (plain_byte b) (unshown (h ∷ l ∷ rest))) (plain_no_percent b plain)
    ∙ ap (λ o. pushed o (unshown (h ∷ l ∷ rest))) (plain_is b plain)

-- a byte by its digits, before more
hidden_step : (b : ℕ) (rest : List ℕ) → 0 < b → b < 256 → is_hidden b ≡ true → unshown (shown_byte b ++ rest) ≡ pushed (Some b) (unshown rest)
hidden_step b rest some small hidden =
    ap (λ t. unshown (t ++ rest)) (cond-true (is_hidden b) _ (b ∷ []) hidden) ∙ ap (λ o. pushed o (unshown rest)) (digits_said b some small)

shown_step : (b : ℕ) (rest : List ℕ) → 0 < b → b < 256 → unshown (shown_byte b ++ rest) ≡ pushed (Some b) (unshown rest)
shown_step b rest some small =
    elim (cases_Bool (is_hidden b)) [
      | inl e ↦ hidden_step b rest some small e
      | inr e ↦ ap (λ t. unshown (t ++ rest)) (cond-false (is_hidden b) _ (b ∷ []) e) ∙ plain_step b rest e
    ]

-- the bytes of a word
pub bytes_back : (bytes : List ℕ) → AreShown bytes → unshown (flat_map shown_byte bytes) ≡ Some bytes
bytes_back [] are = refl
bytes_back (b ∷ bytes) are = shown_step b (flat_map shown_byte bytes) are.0.0 are.0.1 ∙ ap (pushed (Some b)) (bytes_back bytes are.1)

-- a text whose first byte is neither `!` nor a `-` that stands alone is read byte by byte
by_bytes : (b next : ℕ) (rest : List ℕ) → (b == 33) ≡ false → word_said (b ∷ next ∷ rest) ≡ unshown (b ∷ next ∷ rest)
by_bytes b next rest other = cond-false (b == 33) None (unshown (b ∷ next ∷ rest)) other

by_byte : (b : ℕ) → (b == 45) ≡ false → (b == 33) ≡ false → word_said (b ∷ []) ≡ unshown (b ∷ [])
by_byte b one other = cond-false (b == 45) (Some []) _ one ∙ cond-false (b == 33) None (unshown (b ∷ [])) other

-- a first byte by itself
front_alone : (b : ℕ) (h45 h33 : Bool) → (b == 45) ≡ h45 → (b == 33) ≡ h33 → 0 < b → b < 256 → word_said (cond h45 (37 ∷ 50 ∷ 68 ∷ []) (cond h33 (37 ∷ 50 ∷ 49 ∷ []) (shown_byte b)) ++ []) ≡ Some (b ∷ [])
front_alone b true h33 e45 e33 some small = ap (λ n. Some (n ∷ [])) (sym (eqb-true b 45 e45))
front_alone b false true e45 e33 some small = ap (λ n. Some (n ∷ [])) (sym (eqb-true b 33 e33))
front_alone b false false e45 e33 some small =
    elim (cases_Bool (is_hidden b)) [
      | inl e ↦ ap (λ t. word_said (t ++ [])) (cond-true (is_hidden b) _ (b ∷ []) e) ∙ ap (λ o. pushed o (Some [])) (digits_said b some small)
      | inr e ↦ ap (λ t. word_said (t ++ [])) (cond-false (is_hidden b) _ (b ∷ []) e) ∙ (by_byte b e45 e33 ∙ plain_step b [] e)
    ]

-- a first byte before others
front_more : (b : ℕ) (next : ℕ) (rest : List ℕ) (h33 : Bool) → (b == 33) ≡ h33 → 0 < b → b < 256 → word_said (cond h33 (37 ∷ 50 ∷ 49 ∷ []) (shown_byte b) ++ next ∷ rest) ≡ pushed (Some b) (unshown (next ∷ rest))
front_more b next rest true e33 some small = ap (λ n. pushed (Some n) (unshown (next ∷ rest))) (sym (eqb-true b 33 e33))
front_more b next rest false e33 some small =
    elim (cases_Bool (is_hidden b)) [
      | inl e ↦ ap (λ t. word_said (t ++ next ∷ rest)) (cond-true (is_hidden b) _ (b ∷ []) e) ∙ ap (λ o. pushed o (unshown (next ∷ rest))) (digits_said b some small)
      | inr e ↦ ap (λ t. word_said (t ++ next ∷ rest)) (cond-false (is_hidden b) _ (b ∷ []) e) ∙ (by_bytes b next rest e33 ∙ plain_step b (next ∷ rest) e)
    ]

-- what a byte is shown as isn't empty
at_front : (c : ℕ) → (next : ℕ) × ((rest : List ℕ) × (shown_byte c ≡ next ∷ rest))
at_front c =
    elim (cases_Bool (is_hidden c)) [
      | inl e ↦ (37, (_, cond-true (is_hidden c) _ (c ∷ []) e))
      | inr e ↦ (c, ([], cond-false (is_hidden c) _ (c ∷ []) e))
    ]

-- a front before the bytes of the next one
before_shown : (front : List ℕ) (b c : ℕ) (bytes : List ℕ) → ((next : ℕ) (rest : List ℕ) → word_said (front ++ next ∷ rest) ≡ pushed (Some b) (unshown (next ∷ rest)))
    → word_said (front ++ (shown_byte c ++ flat_map shown_byte bytes)) ≡ pushed (Some b) (unshown (shown_byte c ++ flat_map shown_byte bytes))
before_shown front b c bytes each =
    let f = at_front c in
    ap (λ t. word_said (front ++ (t ++ flat_map shown_byte bytes))) f.1.1
    ∙ (each f.0 (f.1.0 ++ flat_map shown_byte bytes) ∙ ap (λ t. pushed (Some b) (unshown (t ++ flat_map shown_byte bytes))) (sym f.1.1))

-- ---- byte by byte

abbrev with_rest : List ℕ → ℕ → ℕ × List ℕ
with_rest rest n = (n, rest)

said_on : (x : Option ℕ) (rest after : List ℕ) (b : ℕ) → option_map (with_rest rest) x ≡ Some (b, after) → pushed x (unshown rest) ≡ pushed (Some b) (unshown after)
said_on x rest after b e =
    let m = map_found (with_rest rest) x (b, after) e in
    ap (λ o. pushed o (unshown rest)) m.1 ∙ ap (λ (p : ℕ × List ℕ). pushed (Some p.0) (unshown p.1)) {x = (m.0, rest)} {y = (b, after)} m.2

by_flag : (flag : Bool) (x y : Option ℕ) (r s after : List ℕ) (b : ℕ) → cond flag (option_map (with_rest r) x) (option_map (with_rest s) y) ≡ Some (b, after)
    → cond flag (pushed x (unshown r)) (pushed y (unshown s)) ≡ pushed (Some b) (unshown after)
by_flag true x y r s after b e = said_on x r after b e
by_flag false x y r s after b e = said_on y s after b e

next_on : (text after : List ℕ) (b : ℕ) → next_byte text ≡ Some (b, after) → unshown text ≡ pushed (Some b) (unshown after)
next_on [] after b e = absurd (none-some (b, after) e)
next_on (c ∷ []) after b e = said_on (plain_byte c) [] after b e
next_on (c ∷ h ∷ []) after b e = said_on (plain_byte c) (h ∷ []) after b e
next_on (c ∷ h ∷ l ∷ rest) after b e = by_flag (c == 37) (byte_said h l) (plain_byte c) rest (h ∷ l ∷ rest) after b e

pushed_map : (out new : List ℕ) (b : ℕ) (o : Option (List ℕ)) → new ≡ out ++ b ∷ [] → option_map (λ bytes. out ++ bytes) (pushed (Some b) o) ≡ option_map (λ bytes. new ++ bytes) o
pushed_map out new b None is = refl
pushed_map out new b (Some bytes) is = ap (λ t. Some t) (sym (append_assoc out (b ∷ []) bytes) ∙ ap (λ t. t ++ bytes) (sym is))

-- one byte more was read
pub read_on : (text rest after out new : List ℕ) (b : ℕ) → unshown text ≡ option_map (λ bytes. out ++ bytes) (unshown rest) → Some (b, after) ≡ next_byte rest → new ≡ out ++ b ∷ []
    → unshown text ≡ option_map (λ bytes. new ++ bytes) (unshown after)
read_on text rest after out new b so_far next is =
    so_far ∙ (ap (option_map (λ bytes. out ++ bytes)) (next_on rest after b (sym next)) ∙ pushed_map out new b (unshown after) is)

pub words_are_read_back : WordsAreReadBack
words_are_read_back [] are = refl
words_are_read_back (b ∷ []) are = front_alone b (b == 45) (b == 33) refl refl are.0.0 are.0.1
words_are_read_back (b ∷ c ∷ bytes) are =
    before_shown (cond (b == 33) (37 ∷ 50 ∷ 49 ∷ []) (shown_byte b)) b c bytes (λ next rest. front_more b next rest (b == 33) refl are.0.0 are.0.1)
    ∙ ap (pushed (Some b)) (bytes_back (c ∷ bytes) are.1)
