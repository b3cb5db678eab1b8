-- Reading of whole lists: it gives the message that the bytes say, and else the fault that they have.
use Rattle.std.proofs.Common.{◌≡◌, ℕ, ◌+◌, ◌<◌, ◌⊎◌, inl, inr, Bool, true, false, ◌||◌, cond, eqb, List, [], ◌∷◌, ◌++◌, length, Some, None, Result, Ok, Err, refl, sym, ap, subst, ◌∙◌, arith, length-append, append_assoc}
use Rattle.std.specs.Prelude.{codes, slice_get, IfOk, IfErr}
use Rattle.std.specs.List.{list_any}
use Rattle.std.specs.Fmt.{signed_decimal}
use Rattle.std.proofs.lemmas.Bool.{cases_Bool, eqb-true, or_parts, or_from}
use Rattle.tcf_message.specs.declared.message.Message.{Message}
use Rattle.tcf_message.specs.declared.message.MessageFault.{MessageFault}
use Rattle.tcf_message.specs.declared.message.MessageFault.TheVariants.{Empty, Unended, Kind, Token, Level, Trailing, Body}
use Rattle.tcf_message.specs.Message.{most_body, most_token, MessageValue, command, final, progress, not_known, event, flow, value_of, ◌•◌, spelling, HasNoZero, IsWellFormed, HasFields, Says, Gives, body_length, field_at, limited, command_of, final_of, progress_of, not_known_of, event_of, flow_of, by_letter, by_kind, level_of, reading}
use Rattle.tcf_message.specs.Fault.{IsAmong, Front, start, kind, command_token, command_service, event_service, IsRight, followed, EndsInField, IsFault, IsReadBack, IsOneSpelling, AreFaults, IsOneAnswer, IsAnswered}
use Rattle.tcf_message.proofs.FieldLaws.{bind_ok, bind_err, ok_is, err_is, field_takes, field_again, field_faults, field_none, token_none, token_again, token_bad, IsWrongLength}
use Rattle.tcf_message.proofs.LevelLaws.{no_level}
use Rattle.tcf_message.proofs.MessageLaws.{limited_again, limited_bad, ended_bad, command_takes, command_again, command_faults, final_takes, final_again, final_faults, progress_takes, progress_again, progress_faults, not_known_takes, not_known_again, not_known_faults, event_takes, event_again, event_faults, flow_takes, flow_again, flow_faults}

-- ---- By the letter

-- by which letter the bytes were read
letter_cases : (P : Type 0) (first l : ℕ) (rest : List ℕ) (r : Result MessageValue MessageFault) → by_letter first l rest ≡ r
    → (l ≡ 67 → command_of rest ≡ r → P) → (l ≡ 82 → final_of rest ≡ r → P) → (l ≡ 80 → progress_of rest ≡ r → P)
    → (l ≡ 78 → not_known_of rest ≡ r → P) → (l ≡ 69 → event_of rest ≡ r → P) → (l ≡ 70 → flow_of rest ≡ r → P)
    → (list_any (λ x. eqb l x) (codes "CRPNEF") ≡ false → Err (Kind first) ≡ r → P) → P
letter_cases P first l rest r e c f p n v w other =
    go (eqb l 67) (eqb l 82) (eqb l 80) (eqb l 78) (eqb l 69) (eqb l 70) refl refl refl refl refl refl e
  where
    go : (b1 b2 b3 b4 b5 b6 : Bool) → eqb l 67 ≡ b1 → eqb l 82 ≡ b2 → eqb l 80 ≡ b3 → eqb l 78 ≡ b4 → eqb l 69 ≡ b5 → eqb l 70 ≡ b6
        → cond b1 (command_of rest) (cond b2 (final_of rest) (cond b3 (progress_of rest) (cond b4 (not_known_of rest) (cond b5 (event_of rest) (cond b6 (flow_of rest) (Err (Kind first))))))) ≡ r → P
    go true b2 b3 b4 b5 b6 t1 t2 t3 t4 t5 t6 h = c (eqb-true l 67 t1) h
    go false true b3 b4 b5 b6 t1 t2 t3 t4 t5 t6 h = f (eqb-true l 82 t2) h
    go false false true b4 b5 b6 t1 t2 t3 t4 t5 t6 h = p (eqb-true l 80 t3) h
    go false false false true b5 b6 t1 t2 t3 t4 t5 t6 h = n (eqb-true l 78 t4) h
    go false false false false true b6 t1 t2 t3 t4 t5 t6 h = v (eqb-true l 69 t5) h
    go false false false false false true t1 t2 t3 t4 t5 t6 h = w (eqb-true l 70 t6) h
    go false false false false false false t1 t2 t3 t4 t5 t6 h = other (rw (t1, t2, t3, t4, t5, t6) refl) h

-- a letter of the six that reads to this by each of them
six_same : (b1 b2 b3 b4 b5 b6 : Bool) (x1 x2 x3 x4 x5 x6 y v : Result MessageValue MessageFault) → (b1 || (b2 || (b3 || (b4 || (b5 || (b6 || false)))))) ≡ true
    → x1 ≡ v → x2 ≡ v → x3 ≡ v → x4 ≡ v → x5 ≡ v → x6 ≡ v → cond b1 x1 (cond b2 x2 (cond b3 x3 (cond b4 x4 (cond b5 x5 (cond b6 x6 y))))) ≡ v
six_same true b2 b3 b4 b5 b6 x1 x2 x3 x4 x5 x6 y v h e1 e2 e3 e4 e5 e6 = e1
six_same false true b3 b4 b5 b6 x1 x2 x3 x4 x5 x6 y v h e1 e2 e3 e4 e5 e6 = e2
six_same false false true b4 b5 b6 x1 x2 x3 x4 x5 x6 y v h e1 e2 e3 e4 e5 e6 = e3
six_same false false false true b5 b6 x1 x2 x3 x4 x5 x6 y v h e1 e2 e3 e4 e5 e6 = e4
six_same false false false false true b6 x1 x2 x3 x4 x5 x6 y v h e1 e2 e3 e4 e5 e6 = e5
six_same false false false false false true x1 x2 x3 x4 x5 x6 y v h e1 e2 e3 e4 e5 e6 = e6
six_same false false false false false false x1 x2 x3 x4 x5 x6 y v h e1 e2 e3 e4 e5 e6 = absurd cc

four_same : (b1 b2 b3 b4 : Bool) (x1 x2 x3 x4 y v : Result MessageValue MessageFault) → (b1 || (b2 || (b3 || (b4 || false)))) ≡ true
    → x1 ≡ v → x2 ≡ v → x3 ≡ v → x4 ≡ v → cond b1 x1 (cond b2 x2 (cond b3 x3 (cond b4 x4 y))) ≡ v
four_same true b2 b3 b4 x1 x2 x3 x4 y v h e1 e2 e3 e4 = e1
four_same false true b3 b4 x1 x2 x3 x4 y v h e1 e2 e3 e4 = e2
four_same false false true b4 x1 x2 x3 x4 y v h e1 e2 e3 e4 = e3
four_same false false false true x1 x2 x3 x4 y v h e1 e2 e3 e4 = e4
four_same false false false false x1 x2 x3 x4 y v h e1 e2 e3 e4 = absurd cc

no_letter : (first l : ℕ) (rest : List ℕ) → list_any (λ x. eqb l x) (codes "CRPNEF") ≡ false → by_letter first l rest ≡ Err (Kind first)
no_letter first l rest h =
    let p1 = or_parts (eqb l 67) (eqb l 82 || (eqb l 80 || (eqb l 78 || (eqb l 69 || (eqb l 70 || false))))) h in
    let p2 = or_parts (eqb l 82) (eqb l 80 || (eqb l 78 || (eqb l 69 || (eqb l 70 || false)))) p1.1 in
    let p3 = or_parts (eqb l 80) (eqb l 78 || (eqb l 69 || (eqb l 70 || false))) p2.1 in
    let p4 = or_parts (eqb l 78) (eqb l 69 || (eqb l 70 || false)) p3.1 in
    let p5 = or_parts (eqb l 69) (eqb l 70 || false) p4.1 in
    let p6 = or_parts (eqb l 70) false p5.1 in
    rw (p1.0, p2.0, p3.0, p4.0, p5.0, p6.0) refl

letter_takes : (first l : ℕ) (rest : List ℕ) (m : MessageValue) → by_letter first l rest ≡ Ok m → IsWellFormed m × ((l ∷ []) • rest ≡ spelling m)
letter_takes first l rest m e =
    let P : ℕ → Type 0 = λ k. IsWellFormed m × ((k ∷ []) • rest ≡ spelling m) in
    letter_cases (P l) first l rest (Ok m) e
    (λ is h. subst P (sym is) (command_takes rest m h))
    (λ is h. subst P (sym is) (final_takes rest m h))
    (λ is h. subst P (sym is) (progress_takes rest m h))
    (λ is h. subst P (sym is) (not_known_takes rest m h))
    (λ is h. subst P (sym is) (event_takes rest m h))
    (λ is h. subst P (sym is) (flow_takes rest m h))
    (λ none h. absurd cc)

-- ---- By the first field

kind_takes : (first : ℕ) (text rest : List ℕ) (m : MessageValue) → by_kind first text rest ≡ Ok m → IsWellFormed m × (text • rest ≡ spelling m)
unfolding by_kind
kind_takes first [] rest m e = absurd cc
kind_takes first (l ∷ []) rest m e = letter_takes first l rest m e
kind_takes first (l ∷ next ∷ more) rest m e = absurd cc

letter_faults : (first l : ℕ) (rest : List ℕ) (d : MessageFault) → eqb l 0 ≡ false → l ≡ first → by_letter first l rest ≡ Err d → IsFault d ((l ∷ []) • rest)
letter_faults first l rest d some same e =
    let P : ℕ → Type 0 = λ k. IsFault d ((k ∷ []) • rest) in
    letter_cases (P l) first l rest (Err d) e
    (λ is h. subst P (sym is) (command_faults rest d h))
    (λ is h. subst P (sym is) (final_faults rest d h))
    (λ is h. subst P (sym is) (progress_faults rest d h))
    (λ is h. subst P (sym is) (not_known_faults rest d h))
    (λ is h. subst P (sym is) (event_faults rest d h))
    (λ is h. subst P (sym is) (flow_faults rest d h))
    (λ none h.
    let other : (letter : ℕ) → l ∷ [] ≡ letter ∷ [] → list_any (λ x. eqb letter x) (codes "CRPNEF") ≡ false = λ letter e. let at : l ≡ letter = cc in subst (λ (k : ℕ). list_any (λ x. eqb k x) (codes "CRPNEF") ≡ false) at none in
    let is : IsFault (Kind first) ((l ∷ []) • rest) = (l ∷ [], rest, or_from (eqb l 0) false some refl, refl, other, ap (λ (n : ℕ). Some n) same) in
    subst (λ (x : MessageFault). IsFault x ((l ∷ []) • rest)) (err_is {A = MessageValue} (Kind first) d h) is)

kind_faults : (first : ℕ) (text rest : List ℕ) (d : MessageFault) → HasNoZero text → slice_get (text • rest) 0 ≡ Some first → by_kind first text rest ≡ Err d → IsFault d (text • rest)
unfolding by_kind
kind_faults first [] rest d none at e =
    let is : IsFault (Kind first) (0 ∷ rest) = ([], rest, refl, refl, (λ letter h. absurd cc), at) in
    subst (λ (x : MessageFault). IsFault x (0 ∷ rest)) (err_is {A = MessageValue} (Kind first) d e) is
kind_faults first (l ∷ []) rest d none at e = letter_faults first l rest d (or_parts (eqb l 0) false none).0 (cc) e
kind_faults first (l ∷ next ∷ more) rest d none at e =
    let is : IsFault (Kind first) ((l ∷ next ∷ more) • rest) = (l ∷ next ∷ more, rest, none, refl, (λ letter h. absurd cc), at) in
    subst (λ (x : MessageFault). IsFault x ((l ∷ next ∷ more) • rest)) (err_is {A = MessageValue} (Kind first) d e) is

-- ---- Whole lists

pub reading_takes : (bytes : List ℕ) (m : MessageValue) → reading bytes ≡ Ok m → Says m bytes
unfolding reading
reading_takes [] m e = absurd cc
reading_takes (first ∷ bytes) m e =
    let a = bind_ok (field_at 0 (first ∷ bytes)) (λ k. by_kind first k.0 k.1) m e in
    let f = field_takes 0 (first ∷ bytes) a.0 a.1 in
    let k = kind_takes first a.0.0 a.0.1 m a.2 in
    (k.0, f.parts ∙ k.1)

pub reading_faults : (bytes : List ℕ) (d : MessageFault) → reading bytes ≡ Err d → IsFault d bytes
unfolding reading
reading_faults [] d e = subst (λ (x : MessageFault). IsFault x []) (err_is {A = MessageValue} Empty d e) refl
reading_faults (first ∷ bytes) d e =
    elim (bind_err (field_at 0 (first ∷ bytes)) (λ k. by_kind first k.0 k.1) d e) [
      | inl h ↦
          let f = field_faults 0 (first ∷ bytes) d h in
          let is : IsFault (Unended 0) (first ∷ bytes) = (start, first ∷ bytes, tt, f.1, refl, refl, omega arith) in
          subst (λ (x : MessageFault). IsFault x (first ∷ bytes)) (sym f.0) is
      | inr a ↦
          let f = field_takes 0 (first ∷ bytes) a.0 a.1 in
          let at : slice_get (a.0.0 • a.0.1) 0 ≡ Some first = ap (λ (x : List ℕ). slice_get x 0) (sym f.parts) in
          subst (λ (x : List ℕ). IsFault d x) (sym f.parts) (kind_faults first a.0.0 a.0.1 d f.no_zero at a.2)
    ]

at_letter : (l : ℕ) (rest : List ℕ) → eqb l 0 ≡ false → reading (l ∷ 0 ∷ rest) ≡ by_letter l l rest
unfolding reading by_kind
at_letter l rest some = rw (field_again 0 (l ∷ []) rest (or_from (eqb l 0) false some refl)) refl

-- a message whose fields are right is read, or its body is too long
pub reading_again : (m : MessageValue) → HasFields m → reading (spelling m) ≡ limited m
reading_again (command token service name body) h = at_letter 67 (token • service • name • body) refl ∙ command_again token service name body h
reading_again (final token body) h = at_letter 82 (token • body) refl ∙ final_again token body h
reading_again (progress token body) h = at_letter 80 (token • body) refl ∙ progress_again token body h
reading_again (not_known token) h = at_letter 78 (token • []) refl ∙ not_known_again token [] h ∙ sym (limited_again (not_known token) (omega arith))
reading_again (event service name body) h = at_letter 69 (service • name • body) refl ∙ event_again service name body h.0 h.1
reading_again (flow level) h = at_letter 70 (signed_decimal level • []) refl ∙ flow_again level [] h ∙ sym (limited_again (flow level) (omega arith))

pub reading_back : (m : MessageValue) → IsWellFormed m → reading (spelling m) ≡ Ok m
reading_back m h = reading_again m h.0 ∙ limited_again m h.1

-- ---- What has a fault is refused with it

unended_at : (a b : ℕ) (bytes : List ℕ) → reading bytes ≡ Err (Unended a) → b ≡ a → reading bytes ≡ Err (Unended b)
unended_at a b bytes e same = e ∙ ap (λ (n : ℕ). Err (Unended n)) (sym same)

start_again : (rest : List ℕ) → HasNoZero rest → 0 < length rest → reading rest ≡ Err (Unended 0)
unfolding reading
start_again [] none some = absurd (omega arith)
start_again (b ∷ rest) none some = rw (field_none 0 (b ∷ rest) none) refl

six_not_zero : (letter : ℕ) → IsAmong letter (codes "CRPNEF") → eqb letter 0 ≡ false
six_not_zero letter h =
    elim (cases_Bool (eqb letter 0)) [
      | inl is ↦ absurd (let no : IsAmong 0 (codes "CRPNEF") = subst (λ (k : ℕ). IsAmong k (codes "CRPNEF")) (eqb-true letter 0 is) h in cc)
      | inr some ↦ some
    ]

kind_again : (letter : ℕ) (rest : List ℕ) → IsAmong letter (codes "CRPNEF") → HasNoZero rest → reading ((letter ∷ []) • rest) ≡ Err (Unended 2)
unfolding command_of final_of progress_of not_known_of event_of flow_of
kind_again letter rest six none =
    let token = token_none 2 rest none in
    let field = field_none 2 rest none in
    let e1 : command_of rest ≡ Err (Unended 2) = rw token refl in
    let e2 : final_of rest ≡ Err (Unended 2) = rw token refl in
    let e3 : progress_of rest ≡ Err (Unended 2) = rw token refl in
    let e4 : not_known_of rest ≡ Err (Unended 2) = rw token refl in
    let e5 : event_of rest ≡ Err (Unended 2) = rw field refl in
    let e6 : flow_of rest ≡ Err (Unended 2) = rw field refl in
    at_letter letter rest (six_not_zero letter six)
    ∙ six_same (eqb letter 67) (eqb letter 82) (eqb letter 80) (eqb letter 78) (eqb letter 69) (eqb letter 70) (command_of rest) (final_of rest) (progress_of rest) (not_known_of rest) (event_of rest) (flow_of rest) (Err (Kind letter)) (Err (Unended 2)) six e1 e2 e3 e4 e5 e6

unended_again : (front : Front) (rest : List ℕ) → IsRight front → HasNoZero rest → 0 < length (followed front rest) → reading (followed front rest) ≡ Err (Unended (length (followed front [])))
unfolding command_of event_of
unended_again start rest right none some = start_again rest none some
unended_again (kind letter) rest right none some = kind_again letter rest right none
unended_again (command_token token) rest right none some =
    let is : command_of (token • rest) ≡ Err (Unended (3 + length token)) = rw (token_again 2 token rest right, field_none (3 + length token) rest none) refl in
    unended_at (3 + length token) _ (codes "C" • token • rest) (at_letter 67 (token • rest) refl ∙ is) (omega (arith, length-append token (0 ∷ [])))
unended_again (command_service token service) rest right none some =
    let is : command_of (token • service • rest) ≡ Err (Unended (4 + length token + length service)) = rw (token_again 2 token (service • rest) right.0, field_again (3 + length token) service rest right.1, field_none (4 + length token + length service) rest none) refl in
    unended_at (4 + length token + length service) _ (codes "C" • token • service • rest) (at_letter 67 (token • service • rest) refl ∙ is) (omega (arith, length-append token (0 ∷ (service ++ 0 ∷ [])), length-append service (0 ∷ [])))
unended_again (event_service service) rest right none some =
    let is : event_of (service • rest) ≡ Err (Unended (3 + length service)) = rw (field_again 2 service rest right, field_none (3 + length service) rest none) refl in
    unended_at (3 + length service) _ (codes "E" • service • rest) (at_letter 69 (service • rest) refl ∙ is) (omega (arith, length-append service (0 ∷ [])))

first_again : (byte : ℕ) (text rest : List ℕ) → HasNoZero text → ((letter : ℕ) → text ≡ letter ∷ [] → list_any (λ x. eqb letter x) (codes "CRPNEF") ≡ false) → slice_get (text • rest) 0 ≡ Some byte
    → reading (text • rest) ≡ Err (Kind byte)
unfolding reading by_kind
first_again byte [] rest none other at = rw (field_again 0 [] rest refl) (let same : 0 ≡ byte = cc in ap (λ (n : ℕ). Err (Kind n)) same)
first_again byte (l ∷ []) rest none other at =
    let same : l ≡ byte = cc in
    at_letter l rest (or_parts (eqb l 0) false none).0 ∙ no_letter l l rest (other l refl) ∙ ap (λ (n : ℕ). Err (Kind n)) same
first_again byte (l ∷ next ∷ more) rest none other at =
    let same : l ≡ byte = cc in
    rw (field_again 0 (l ∷ next ∷ more) rest none) (ap (λ (n : ℕ). Err (Kind n)) same)

four_not_zero : (letter : ℕ) → IsAmong letter (codes "CRPN") → eqb letter 0 ≡ false
four_not_zero letter h =
    elim (cases_Bool (eqb letter 0)) [
      | inl is ↦ absurd (let no : IsAmong 0 (codes "CRPN") = subst (λ (k : ℕ). IsAmong k (codes "CRPN")) (eqb-true letter 0 is) h in cc)
      | inr some ↦ some
    ]

bad_token_again : (letter : ℕ) (text rest : List ℕ) → IsAmong letter (codes "CRPN") → HasNoZero text → IsWrongLength text → reading ((letter ∷ []) • text • rest) ≡ Err (Token (length text))
unfolding command_of final_of progress_of not_known_of
bad_token_again letter text rest four none wrong =
    let token = token_bad 2 text rest none wrong in
    let e1 : command_of (text • rest) ≡ Err (Token (length text)) = rw token refl in
    let e2 : final_of (text • rest) ≡ Err (Token (length text)) = rw token refl in
    let e3 : progress_of (text • rest) ≡ Err (Token (length text)) = rw token refl in
    let e4 : not_known_of (text • rest) ≡ Err (Token (length text)) = rw token refl in
    at_letter letter (text • rest) (four_not_zero letter four)
    ∙ four_same (eqb letter 67) (eqb letter 82) (eqb letter 80) (eqb letter 78) (command_of (text • rest)) (final_of (text • rest)) (progress_of (text • rest)) (not_known_of (text • rest))
    (cond (eqb letter 69) (event_of (text • rest)) (cond (eqb letter 70) (flow_of (text • rest)) (Err (Kind letter)))) (Err (Token (length text))) four e1 e2 e3 e4

bad_level_again : (text rest : List ℕ) → HasNoZero text → level_of text ≡ None → reading (codes "F" • text • rest) ≡ Err Level
unfolding flow_of
bad_level_again text rest none other =
    let is : flow_of (text • rest) ≡ Err Level = rw (field_again 2 text rest none, other) refl in
    at_letter 70 (text • rest) refl ∙ is

trailing_again : (m : MessageValue) (rest : List ℕ) → HasFields m → EndsInField m → 0 < length rest → reading (spelling m ++ rest) ≡ Err (Trailing (length (spelling m)))
trailing_again (command token service name body) rest h never more = absurd never
trailing_again (final token body) rest h never more = absurd never
trailing_again (progress token body) rest h never more = absurd never
trailing_again (not_known token) rest h ends more =
    let same : not_known_of ((token • []) ++ rest) ≡ not_known_of (token • rest) = ap not_known_of (append_assoc token (0 ∷ []) rest) in
    let at : 3 + length token ≡ length (spelling (not_known token)) = omega (arith, length-append token (0 ∷ [])) in
    at_letter 78 ((token • []) ++ rest) refl ∙ same ∙ not_known_again token rest h ∙ ended_bad (3 + length token) rest (not_known token) more ∙ ap (λ (n : ℕ). Err (Trailing n)) at
trailing_again (event service name body) rest h never more = absurd never
trailing_again (flow level) rest h ends more =
    let text : List ℕ = signed_decimal level in
    let same : flow_of ((text • []) ++ rest) ≡ flow_of (text • rest) = ap flow_of (append_assoc text (0 ∷ []) rest) in
    let at : 3 + length text ≡ length (spelling (flow level)) = omega (arith, length-append text (0 ∷ [])) in
    at_letter 70 ((text • []) ++ rest) refl ∙ same ∙ flow_again level rest h ∙ ended_bad (3 + length text) rest (flow level) more ∙ ap (λ (n : ℕ). Err (Trailing n)) at

pub fault_again : (d : MessageFault) (bytes : List ℕ) → IsFault d bytes → reading bytes ≡ Err d
unfolding reading
fault_again Empty bytes is = ap reading is
fault_again (Unended place) bytes h =
    let some : 0 < length (followed h.0 h.1) = subst (λ (x : List ℕ). 0 < length x) h.4 h.6 in
    ap reading h.4 ∙ unended_again h.0 h.1 h.2 h.3 some ∙ ap (λ (n : ℕ). Err (Unended n)) (sym h.5)
fault_again (Kind byte) bytes h = ap reading h.3 ∙ first_again byte h.0 h.1 h.2 h.4 (ap (λ (x : List ℕ). slice_get x 0) (sym h.3) ∙ h.5)
fault_again (Token size) bytes h =
    let wrong : IsWrongLength h.1 = subst (λ (n : ℕ). (n ≡ 0) ⊎ (most_token < n)) h.6 h.7 in
    ap reading h.5 ∙ bad_token_again h.0 h.1 h.2 h.3 h.4 wrong ∙ ap (λ (n : ℕ). Err (Token n)) (sym h.6)
fault_again Level bytes h = ap reading h.3 ∙ bad_level_again h.0 h.1 h.2 (no_level h.0 h.4)
fault_again (Trailing place) bytes h = ap reading h.4 ∙ trailing_again h.0 h.1 h.2 h.3 h.6 ∙ ap (λ (n : ℕ). Err (Trailing n)) (sym h.5)
fault_again (Body size) bytes h =
    let long : most_body < body_length h.0 = subst (λ (n : ℕ). most_body < n) h.3 h.4 in
    ap reading h.2 ∙ reading_again h.0 h.1 ∙ limited_bad h.0 long ∙ ap (λ (n : ℕ). Err (Body n)) (sym h.3)

-- ---- The laws

pub is_read_back : IsReadBack
is_read_back = ((λ bytes m. (reading_takes bytes m, λ h. ap reading h.1 ∙ reading_back m h.0)), reading_back)

pub is_one_spelling : IsOneSpelling
is_one_spelling m n hm hn same =
    let one = reading_back m hm in
    let two = ap reading same ∙ reading_back n hn in
    ok_is m n (sym one ∙ two)

pub are_faults : AreFaults
are_faults bytes d = (reading_faults bytes d, fault_again d bytes)

pub is_one_answer : IsOneAnswer
is_one_answer bytes d h =
    let at = fault_again d bytes h in (
      (λ m says. let other = ap reading says.1 ∙ reading_back m says.0 in cc),
      λ other k. err_is {A = MessageValue} other d (sym (fault_again other bytes k) ∙ at),
    )

pub is_answered : IsAnswered
is_answered bytes = go (reading bytes) refl
  where
    go : (r : Result MessageValue MessageFault) → reading bytes ≡ r → ((m : MessageValue) × Says m bytes) ⊎ ((fault : MessageFault) × IsFault fault bytes)
    go (Ok m) e = inl (m, reading_takes bytes m e)
    go (Err d) e = inr (d, reading_faults bytes d e)

-- ---- What read answers

pub found_is : (bytes : List ℕ) (r : Result Message MessageFault) → Gives value_of r (reading bytes) → IfOk r (λ m. Says (value_of m) bytes)
found_is bytes (Ok m) h = reading_takes bytes (value_of m) h
found_is bytes (Err d) h = tt

pub only_is : (bytes : List ℕ) (r : Result Message MessageFault) → Gives value_of r (reading bytes) → (m : MessageValue) → Says m bytes → Gives value_of r (Ok m)
only_is bytes (Ok x) h m says = let is = ap reading says.1 ∙ reading_back m says.0 in sym is ∙ h
only_is bytes (Err d) h m says = let is = ap reading says.1 ∙ reading_back m says.0 in sym is ∙ h

pub fault_is : (bytes : List ℕ) (r : Result Message MessageFault) → Gives value_of r (reading bytes) → IfErr r (λ d. IsFault d bytes)
fault_is bytes (Ok m) h = tt
fault_is bytes (Err d) h = reading_faults bytes d h

pub first_is : (bytes : List ℕ) (r : Result Message MessageFault) → Gives value_of r (reading bytes) → (d : MessageFault) → IsFault d bytes → Gives value_of r (Err d)
first_is bytes (Ok m) h d is = sym (fault_again d bytes is) ∙ h
first_is bytes (Err e) h d is = sym (fault_again d bytes is) ∙ h
