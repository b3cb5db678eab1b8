-- No canonical text has a zero byte: a byte below 32 in a string is written as an escape.
use Rattle.std.proofs.Common.{◌≢◌, ℕ, zero, suc, ◌+◌, ◌==◌, ◌/◌, ◌%◌, List, [], ◌∷◌, ◌++◌, Bool, true, false, cond, sym, subst, inl, inr, arith}
use Rattle.std.specs.Prelude.{pos, negsuc, decimal, nat_lt}
use Rattle.std.specs.Fmt.{digits, digits_onto, digit_glyph}
use Rattle.std.specs.Char.{digit_char}
use Rattle.std.proofs.lemmas.Bool.{cases_Bool, cond-true, cond-false, ltb-true, ltb-false}
use Rattle.json.specs.Print.{escape_byte, escape_letter, escape, quoted}
use Rattle.serde_json.specs.Data.{Num, unsigned, negative, float, Data, null, boolean, number, string, array, object, Items, no_items, item, Members, no_members, member}
use Rattle.serde_json.specs.Written.{number_text, compact_text, items_text, members_text, comma_if}
use Rattle.tcf_values.specs.Cut.{Lacks}

both : (xs ys : List ℕ) → Lacks 0 xs → Lacks 0 ys → Lacks 0 (xs ++ ys)
both [] ys first second = second
both (x ∷ xs) ys first second = (first.0, both xs ys first.1 second)

by_case : (b : Bool) (xs ys : List ℕ) → Lacks 0 xs → Lacks 0 ys → Lacks 0 (cond b xs ys)
by_case true xs ys first second = first
by_case false xs ys first second = second

cond_some : (b : Bool) (x y : ℕ) → x ≢ 0 → y ≢ 0 → cond b x y ≢ 0
cond_some true x y first second = first
cond_some false x y first second = second

glyph_lacks : (d : ℕ) → digit_glyph false d ≢ 0
glyph_lacks d = cond_some (nat_lt d 10) (48 + d) (87 + d) (λ is. absurd (omega arith)) (λ is. absurd (omega arith))

digits_lack : (k n : ℕ) (acc : List ℕ) → Lacks 0 acc → Lacks 0 (digits_onto k 10 false n acc)
digits_lack zero n acc lacks = lacks
digits_lack (suc k) n acc lacks =
    by_case (n / 10 == 0) _ _ (glyph_lacks (n % 10), lacks) (digits_lack k (n / 10) (digit_glyph false (n % 10) ∷ acc) (glyph_lacks (n % 10), lacks))

decimal_lacks : (n : ℕ) → Lacks 0 (decimal n)
unfolding digits
decimal_lacks n = digits_lack 64 n [] tt

number_lacks : (n : Num) → Lacks 0 (number_text n)
number_lacks (unsigned n) = decimal_lacks n
number_lacks (negative (pos n)) = decimal_lacks n
number_lacks (negative (negsuc n)) = (λ is. absurd (omega arith), decimal_lacks (suc n))
number_lacks (float x) = tt

hex_lacks : (d : ℕ) → digit_char d ≢ 0
hex_lacks d = cond_some (nat_lt d 10) (48 + d) (87 + d) (λ is. absurd (omega arith)) (λ is. absurd (omega arith))

plain_lacks : (b : ℕ) → Lacks 0 (cond (nat_lt b 32) (92 ∷ 117 ∷ 48 ∷ 48 ∷ digit_char (b / 16) ∷ digit_char (b % 16) ∷ []) (b ∷ []))
plain_lacks b =
    elim (cases_Bool (nat_lt b 32)) [
      | inl e ↦ subst (Lacks 0) (sym (cond-true _ _ _ e))
          (λ is. absurd (omega arith), (λ is. absurd (omega arith), (λ is. absurd (omega arith), (λ is. absurd (omega arith), (hex_lacks (b / 16), (hex_lacks (b % 16), tt))))))
      | inr e ↦ let high = ltb-false b 32 e in subst (Lacks 0) (sym (cond-false _ _ _ e)) (λ is. absurd (omega arith), tt)
    ]

byte_lacks : (b : ℕ) → Lacks 0 (escape_byte b)
unfolding escape_byte
byte_lacks b =
    elim (cases_Bool (nat_lt 0 (escape_letter b))) [
      | inl e ↦
          let letter : escape_letter b ≢ 0 = λ is. absurd (omega (arith, ltb-true 0 (escape_letter b) e)) in
          subst (Lacks 0) (sym (cond-true _ _ _ e)) (λ is. absurd (omega arith), (letter, tt))
      | inr e ↦ subst (Lacks 0) (sym (cond-false _ _ _ e)) (plain_lacks b)
    ]

escape_lacks : (text : List ℕ) → Lacks 0 (escape text)
escape_lacks [] = tt
escape_lacks (b ∷ bs) = both (escape_byte b) (escape bs) (byte_lacks b) (escape_lacks bs)

quoted_lacks : (text : List ℕ) → Lacks 0 (quoted text)
quoted_lacks text = (λ is. absurd (omega arith), both (escape text) (34 ∷ []) (escape_lacks text) (λ is. absurd (omega arith), tt))

comma_lacks : (later : Bool) → Lacks 0 (comma_if later)
comma_lacks true = (λ is. absurd (omega arith), tt)
comma_lacks false = tt

mutual
  -- no text of a value has a zero byte
  pub text_lacks_zero : (d : Data) → Lacks 0 (compact_text d)
  text_lacks_zero null = (λ is. absurd (omega arith), (λ is. absurd (omega arith), (λ is. absurd (omega arith), (λ is. absurd (omega arith), tt))))
  text_lacks_zero (boolean true) = (λ is. absurd (omega arith), (λ is. absurd (omega arith), (λ is. absurd (omega arith), (λ is. absurd (omega arith), tt))))
  text_lacks_zero (boolean false) = (λ is. absurd (omega arith), (λ is. absurd (omega arith), (λ is. absurd (omega arith), (λ is. absurd (omega arith), (λ is. absurd (omega arith), tt)))))
  text_lacks_zero (number n) = number_lacks n
  text_lacks_zero (string s) = quoted_lacks s
  text_lacks_zero (array ds) = (λ is. absurd (omega arith), items_lack false ds)
  text_lacks_zero (object ms) = (λ is. absurd (omega arith), members_lack false ms)

  items_lack : (later : Bool) (ds : Items) → Lacks 0 (items_text later ds)
  items_lack later no_items = (λ is. absurd (omega arith), tt)
  items_lack later (item d ds) = both (comma_if later) _ (comma_lacks later) (both (compact_text d) (items_text true ds) (text_lacks_zero d) (items_lack true ds))

  members_lack : (later : Bool) (ms : Members) → Lacks 0 (members_text later ms)
  members_lack later no_members = (λ is. absurd (omega arith), tt)
  members_lack later (member k d ms) =
      both (comma_if later) _ (comma_lacks later) (both (quoted k) _ (quoted_lacks k)
      (λ is. absurd (omega arith), both (compact_text d) (members_text true ms) (text_lacks_zero d) (members_lack true ms)))
