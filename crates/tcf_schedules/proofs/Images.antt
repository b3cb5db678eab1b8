-- The name and the bytes of an image.
use Rattle.std.proofs.Common.{◌≡◌, ℕ, ◌<◌, suc, zero, ◌%◌, ◌||◌, Bool, true, false, List, [], ◌∷◌, length, ◌++◌, cond, refl, sym, ◌∙◌, ap, arith, inl, inr}
use Rattle.std.specs.Prelude.{IsTrue, IsUtf8, Ok, Err, bytes_eq}
use Rattle.std.specs.Char.{is_ascii_alphanumeric}
use Rattle.std.specs.BTreeSet.{BTreeSet, contains, Updates}
use Rattle.std.specs.Cmp.Lexicographic.{slice_cmp}
use Rattle.std.specs.List.{list_all, list_any}
use Rattle.std.specs.Ordering.{nat_cmp}
use Rattle.std.specs.Str.{IsAscii}
use Rattle.std.proofs.lemmas.Bool.{and_parts, and_from, false≢true, eqb-true, or_cases}
use Rattle.std.proofs.lemmas.List.Folds.{list_any-append}
use Rattle.std.proofs.lemmas.List.Sums.{AllPass-from_list_all}
use Rattle.std.proofs.lemmas.Str.{IsUtf8-from_ascii}
use Rattle.std.proofs.lemmas.Map.Text.{is_eq-slice_cmp}
use denote.Ref.{Bor}
use Rattle.hex.specs.Hex.{decode_of, is_hex_digit}
use Rattle.hex.specs.declared.error.FromHexError.{FromHexError}
use Rattle.hex.proofs.HexLemmas.{decode_of-digits}
use Rattle.tcf_schedules.specs.declared.schedule.NamedImage.{NamedImage}
use Rattle.tcf_schedules.specs.Images.{AreNames}
use Rattle.tcf_schedules.specs.Words.{is_name, is_low_hex, is_hex_word, dash_word}

letter_small : (byte : ℕ) → is_ascii_alphanumeric byte ≡ true → byte < 128
letter_small byte is = grind arith

letters_ascii : (text : List ℕ) → list_all is_ascii_alphanumeric text ≡ true → IsAscii text
letters_ascii [] all i = omega arith
letters_ascii (b ∷ bs) all zero = letter_small b (and_parts _ _ all).0
letters_ascii (b ∷ bs) all (suc i) = letters_ascii bs (and_parts _ _ all).1 i

-- a name is text
pub name_utf8 : (name : List ℕ) → IsTrue (is_name name) → IsUtf8 name
name_utf8 name is = IsUtf8-from_ascii name (letters_ascii name (and_parts _ _ is).1)

low_digit : (byte : ℕ) → is_low_hex byte ≡ true → is_hex_digit byte ≡ true
low_digit byte is = grind arith

low_digits : (text : List ℕ) → list_all is_low_hex text ≡ true → list_all is_hex_digit text ≡ true
low_digits [] all = all
low_digits (b ∷ bs) all = let parts = and_parts (is_low_hex b) (list_all is_low_hex bs) all in and_from _ _ (low_digit b parts.0) (low_digits bs parts.1)

ok_or_err : (digits bytes : List ℕ) (fault : FromHexError) → decode_of digits ≡ Ok bytes → decode_of digits ≡ Err fault → ⊥
ok_or_err digits bytes fault ok err = cc

-- digits of bytes are decoded
pub digits_decode : (digits : List ℕ) (fault : FromHexError) → IsTrue (is_hex_word digits) → bytes_eq digits dash_word ≡ false → decode_of digits ≡ Err fault → ⊥
digits_decode digits fault is some err =
    elim (or_cases (bytes_eq digits dash_word) _ is) [
      | inl dash ↦ false≢true (sym some ∙ dash)
      | inr parts ↦
          let all = and_parts _ _ parts in
          let even = and_parts _ _ all.0 in
          let bytes = decode_of-digits digits (eqb-true (length digits % 2) 0 even.1) (AllPass-from_list_all is_hex_digit digits (low_digits digits all.1)) in
          ok_or_err digits bytes.0 fault bytes.1 err
    ]

-- ---- The names of some images

one_more : (b x : Bool) → cond b true x ≡ (x || (b || false))
one_more true true = refl
one_more true false = refl
one_more false true = refl
one_more false false = refl

-- an image more, and its name
pub names_push : (names new : BTreeSet (Bor (List ℕ))) (key : Bor (List ℕ)) (images after : List NamedImage) (image : NamedImage)
    → AreNames names images → Updates (λ x y. slice_cmp nat_cmp x.now y.now) names new key true → image.name ≡ key.now → after ≡ images ++ image ∷ []
    → AreNames new after
names_push names new key images after image are updates named is q =
    updates.0 q
    ∙ (ap (λ b. cond b true (contains (λ x y. slice_cmp nat_cmp x.now y.now) names q)) (is_eq-slice_cmp key.now q.now ∙ ap (λ n. bytes_eq n q.now) (sym named))
    ∙ (one_more (bytes_eq image.name q.now) _
    ∙ (ap (λ x. x || (bytes_eq image.name q.now || false)) (are q)
    ∙ (sym (list_any-append (λ (i : NamedImage). bytes_eq i.name q.now) images (image ∷ [])) ∙ ap (list_any (λ (i : NamedImage). bytes_eq i.name q.now)) (sym is)))))
