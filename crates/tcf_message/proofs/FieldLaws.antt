-- A field that is read is the field that stands there, and what stands there is read.
use Rattle.std.proofs.Common.{◌≡◌, ℕ, suc, ◌<◌, ◌⊎◌, inl, inr, Bool, true, false, ◌&&◌, cond, ltb, leb, List, [], ◌∷◌, length, take, drop, eqb, Result, Ok, Err, refl, sym, ap, subst, ◌∙◌, arith, length-append, add-one}
use Rattle.std.specs.List.{list_any, position_or_len}
use Rattle.std.proofs.lemmas.Bool.{cases_Bool, eqb-true, or_parts, ltb-true, ltb-false, lt-ltb, le-ltb, leb-true, leb-false, le-leb, lt-leb, and_from, and_parts, and_cases, and_left, and_right, or_from}
use Rattle.std.proofs.lemmas.List.{take_at}
use Rattle.tcf_message.specs.declared.message.MessageFault.{MessageFault}
use Rattle.tcf_message.specs.declared.message.MessageFault.TheVariants.{Unended, Token}
use Rattle.tcf_message.specs.Message.{most_token, ◌•◌, ◌>>=◌, is_zero, HasNoZero, IsToken, field_at, token_at}

-- ---- Results

-- the value of a step that did not fail
pub bind_ok : {A B : Type 0} (r : Result A MessageFault) (f : A → Result B MessageFault) (y : B) → (r >>= f) ≡ Ok y → (x : A) × (r ≡ Ok x) × (f x ≡ Ok y)
bind_ok (Ok x) f y e = (x, refl, e)
bind_ok (Err d) f y e = absurd cc

-- the step that failed
pub bind_err : {A B : Type 0} (r : Result A MessageFault) (f : A → Result B MessageFault) (d : MessageFault) → (r >>= f) ≡ Err d → (r ≡ Err d) ⊎ ((x : A) × (r ≡ Ok x) × (f x ≡ Err d))
bind_err (Ok x) f d e = inr (x, refl, e)
bind_err (Err g) f d e = inl cc

abbrev done : {A : Type 0} → A → Result A MessageFault
done x = Ok x

pub ok_is : {A : Type 0} (x y : A) → done x ≡ done y → x ≡ y
ok_is x y e = cc

abbrev failed : {A : Type 0} → MessageFault → Result A MessageFault
failed d = Err d

pub err_is : {A : Type 0} (d e : MessageFault) → failed {A = A} d ≡ failed {A = A} e → d ≡ e
err_is d e h = cc

-- a test that a step wants
pub guard_ok : {A : Type 0} (b : Bool) (d : MessageFault) (x y : A) → cond b (Ok x) (Err d) ≡ Ok y → (b ≡ true) × (x ≡ y)
guard_ok true d x y e = (refl, cc)
guard_ok false d x y e = absurd cc

pub guard_err : {A : Type 0} (b : Bool) (d g : MessageFault) (x : A) → cond b (Ok x) (Err d) ≡ Err g → (b ≡ false) × (d ≡ g)
guard_err true d g x e = absurd cc
guard_err false d g x e = (refl, cc)

-- ---- The first zero

no_zero_len : (text : List ℕ) → HasNoZero text → position_or_len is_zero text ≡ length text
no_zero_len [] h = refl
no_zero_len (b ∷ text) h =
    let p = or_parts (eqb b 0) (list_any is_zero text) h in
    rw p.0 (omega (arith, no_zero_len text p.1))

zero_place : (text rest : List ℕ) → HasNoZero text → position_or_len is_zero (text • rest) ≡ length text
zero_place [] rest h = refl
zero_place (b ∷ text) rest h =
    let p = or_parts (eqb b 0) (list_any is_zero text) h in
    rw p.0 (omega (arith, zero_place text rest p.1))

after_zero : (text rest : List ℕ) → drop (suc (length text)) (text • rest) ≡ rest
after_zero [] rest = refl
after_zero (b ∷ text) rest = after_zero text rest

-- bytes have no zero, or a field stands before the first
pub record Parts (bytes text rest : List ℕ) : Type 0 where
  pub no_zero : HasNoZero text
  pub parts : bytes ≡ text • rest

pub zero_cases : (bytes : List ℕ) → HasNoZero bytes ⊎ ((text : List ℕ) × (rest : List ℕ) × Parts bytes text rest)
zero_cases [] = inl refl
zero_cases (b ∷ bytes) =
    elim (cases_Bool (eqb b 0)) [
      | inl zero_here ↦ inr ([], bytes, record { no_zero = refl; parts = ap (λ (n : ℕ). n ∷ bytes) (eqb-true b 0 zero_here) })
      | inr other ↦ elim (zero_cases bytes) [
        | inl none ↦ inl (or_from (eqb b 0) (list_any is_zero bytes) other none)
        | inr h ↦ inr (b ∷ h.0, h.1, record { no_zero = or_from (eqb b 0) (list_any is_zero h.0) other h.2.no_zero; parts = ap (λ (x : List ℕ). b ∷ x) h.2.parts })
      ]
    ]

-- ---- Fields

pub field_none : (place : ℕ) (bytes : List ℕ) → HasNoZero bytes → field_at place bytes ≡ Err (Unended place)
unfolding field_at
field_none place bytes h =
    let past : ltb (position_or_len is_zero bytes) (length bytes) ≡ false = le-ltb _ _ (omega (arith, no_zero_len bytes h)) in
    rw past refl

pub field_again : (place : ℕ) (text rest : List ℕ) → HasNoZero text → field_at place (text • rest) ≡ Ok (text, rest)
unfolding field_at
field_again place text rest h =
    let at = zero_place text rest h in
    let within : ltb (length text) (length (text • rest)) ≡ true = lt-ltb _ _ (omega (arith, length-append text (0 ∷ rest))) in
    let front : take (length text) (text • rest) ≡ text = take_at text (0 ∷ rest) (length text) refl in
    rw (at, within, add-one, front, after_zero text rest) refl

pub field_takes : (place : ℕ) (bytes : List ℕ) (x : List ℕ × List ℕ) → field_at place bytes ≡ Ok x → Parts bytes x.0 x.1
field_takes place bytes x e =
    elim (zero_cases bytes) [
      | inl none ↦ absurd (let f = field_none place bytes none in cc)
      | inr h ↦
          let made : List ℕ × List ℕ = (h.0, h.1) in
          let again : field_at place bytes ≡ Ok made = ap (field_at place) h.2.parts ∙ field_again place h.0 h.1 h.2.no_zero in
          subst (λ (y : List ℕ × List ℕ). Parts bytes y.0 y.1) (ok_is made x (sym again ∙ e)) h.2
    ]

pub field_faults : (place : ℕ) (bytes : List ℕ) (d : MessageFault) → field_at place bytes ≡ Err d → (d ≡ Unended place) × HasNoZero bytes
field_faults place bytes d e =
    elim (zero_cases bytes) [
      | inl none ↦ (let f = field_none place bytes none in cc, none)
      | inr h ↦ absurd (let again = ap (field_at place) h.2.parts ∙ field_again place h.0 h.1 h.2.no_zero in cc)
    ]

-- ---- Tokens

-- the length is none of a token's
abbrev pub IsWrongLength : List ℕ → Type 0
IsWrongLength text = (length text ≡ 0) ⊎ (most_token < length text)

token_right : (text : List ℕ) → IsToken text → (ltb 0 (length text) && leb (length text) most_token) ≡ true
token_right text h = and_from _ _ (lt-ltb _ _ h.1) (le-leb _ _ h.2)

token_wrong : (text : List ℕ) → IsWrongLength text → (ltb 0 (length text) && leb (length text) most_token) ≡ false
token_wrong text (inl none) = and_left _ _ (le-ltb 0 (length text) (omega arith))
token_wrong text (inr many) = and_right _ _ (lt-leb _ _ many)

wrong_token : (text : List ℕ) → (ltb 0 (length text) && leb (length text) most_token) ≡ false → IsWrongLength text
wrong_token text e =
    elim (and_cases (ltb 0 (length text)) (leb (length text) most_token) e) [
      | inl none ↦ inl (let h = ltb-false 0 (length text) none in omega arith)
      | inr many ↦ inr (leb-false (length text) most_token many)
    ]

pub token_none : (place : ℕ) (bytes : List ℕ) → HasNoZero bytes → token_at place bytes ≡ Err (Unended place)
unfolding token_at
token_none place bytes h = rw (field_none place bytes h) refl

pub token_again : (place : ℕ) (text rest : List ℕ) → IsToken text → token_at place (text • rest) ≡ Ok (text, rest)
unfolding token_at
token_again place text rest h = rw (field_again place text rest h.0, token_right text h) refl

pub token_bad : (place : ℕ) (text rest : List ℕ) → HasNoZero text → IsWrongLength text → token_at place (text • rest) ≡ Err (Token (length text))
unfolding token_at
token_bad place text rest h wrong = rw (field_again place text rest h, token_wrong text wrong) refl

pub token_takes : (place : ℕ) (bytes : List ℕ) (x : List ℕ × List ℕ) → token_at place bytes ≡ Ok x → IsToken x.0 × Parts bytes x.0 x.1
unfolding token_at
token_takes place bytes x e =
    let b = bind_ok (field_at place bytes) (λ f. cond (ltb 0 (length f.0) && leb (length f.0) most_token) (Ok f) (Err (Token (length f.0)))) x e in
    let p = field_takes place bytes b.0 b.1 in
    let g = guard_ok (ltb 0 (length b.0.0) && leb (length b.0.0) most_token) (Token (length b.0.0)) b.0 x b.2 in
    let t = and_parts (ltb 0 (length b.0.0)) (leb (length b.0.0) most_token) g.0 in
    subst (λ (y : List ℕ × List ℕ). IsToken y.0 × Parts bytes y.0 y.1) g.1 ((p.no_zero, ltb-true _ _ t.0, leb-true _ _ t.1), p)

-- why no token was read
abbrev pub IsTokenFault : ℕ → List ℕ → MessageFault → Type 0
IsTokenFault place bytes d =
    ((d ≡ Unended place) × HasNoZero bytes)
    ⊎ ((text : List ℕ) × (rest : List ℕ) × Parts bytes text rest × (d ≡ Token (length text)) × IsWrongLength text)

pub token_faults : (place : ℕ) (bytes : List ℕ) (d : MessageFault) → token_at place bytes ≡ Err d → IsTokenFault place bytes d
unfolding token_at
token_faults place bytes d e =
    elim (bind_err (field_at place bytes) (λ f. cond (ltb 0 (length f.0) && leb (length f.0) most_token) (Ok f) (Err (Token (length f.0)))) d e) [
      | inl none ↦ inl (field_faults place bytes d none)
      | inr b ↦
          let g = guard_err (ltb 0 (length b.0.0) && leb (length b.0.0) most_token) (Token (length b.0.0)) d b.0 b.2 in
          inr (b.0.0, b.0.1, field_takes place bytes b.0 b.1, sym g.1, wrong_token b.0.0 g.0)
    ]
