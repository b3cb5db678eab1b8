-- The bytes before the first 3 stand for themselves.
use Rattle.std.proofs.Common.{◌≡◌, ◌≢◌, ℕ, suc, ◌-◌, ◌<◌, ◌≤◌, List, [], ◌∷◌, ◌++◌, length, take, get_or, Bool, true, false, not, cond, ◌==◌, nat_lt, refl, sym, ap, ◌∙◌, subst, arith, ⊎_elim, ne_eqb, ltb-false, one-add, length-take-le, get_or-take, take-take, position, unwrap_or, Option, Some, None, drop, drop-cons, take_all, take-append-drop, append_assoc, eqb-true, Result, Ok, Err, OnOk, is_some}
use Rattle.std.proofs.lemmas.List.{take_rest}
use Rattle.std.proofs.lemmas.List.Quantifiers.{position-Some}
use Rattle.std.specs.List.{position_or_len}
use Rattle.std.proofs.lemmas.Bool.{cases_eq}
use Rattle.std.proofs.lemmas.List.Sums.{prefix_len-le-length}
use Rattle.stream_escape.specs.Stream.{escaped}
use Rattle.stream_escape.specs.Progress.{IsRun}
use Rattle.stream_escape.proofs.Machine.{escaped_plain}
use Rattle.stream_escape.proofs.Rules.{escaped-append}

abbrev is_three : ℕ → Bool
is_three b = b == 3

chosen : (b : Bool) (m n : ℕ) → nat_lt m n ≡ b → m ≤ n → unwrap_or (cond b (Some m) None) n ≡ m
chosen true m n e le = refl
chosen false m n e le = let ge : n ≤ m = ltb-false m n e in omega arith

-- the first place of a 3, or the length
or_length : (xs : List ℕ) → unwrap_or (position is_three xs) (length xs) ≡ position_or_len is_three xs
or_length xs = chosen (nat_lt (position_or_len is_three xs) (length xs)) (position_or_len is_three xs) (length xs) refl (prefix_len-le-length (λ b. not (is_three b)) xs)

plain_before : (xs : List ℕ) → escaped (take (position_or_len is_three xs) xs) ≡ take (position_or_len is_three xs) xs
plain_before [] = refl
plain_before (x ∷ xs) =
    ⊎_elim
    (λ (is : x ≡ 3). let P : ℕ → Type 0 = λ y. escaped (take (position_or_len is_three (y ∷ xs)) (y ∷ xs)) ≡ take (position_or_len is_three (y ∷ xs)) (y ∷ xs) in
    subst P (sym is) refl)
    (λ (isnt : x ≢ 3). let e : (x == 3) ≡ false = ne_eqb x 3 isnt in
    rw (e, one-add) (escaped_plain x (take (position_or_len is_three xs) xs) isnt ∙ ap (λ ys. x ∷ ys) (plain_before xs)))
    (cases_eq x 3)

-- a list that doesn't begin with 3 has some such bytes
some_before : (xs : List ℕ) → 0 < length xs → get_or xs 0 0 ≢ 3 → 0 < position_or_len is_three xs
some_before [] some isnt = absurd (omega arith)
some_before (x ∷ xs) some isnt = let e : (x == 3) ≡ false = ne_eqb x 3 isnt in rw e (omega arith)

-- as many bytes as there is room for, up to the first 3
pub run_within : (bytes : List ℕ) (room count : ℕ) (first : Option ℕ) → get_or bytes 0 0 ≢ 3 → 0 < room → room ≤ length bytes
    → first ≡ position is_three (take room bytes) → count ≡ unwrap_or first room → IsRun count bytes
run_within bytes room count first isnt some fits is counted =
    let all : length (take room bytes) ≡ room = length-take-le room bytes fits in
    let e : count ≡ position_or_len is_three (take room bytes) =
    counted ∙ ap (λ f. unwrap_or f room) is ∙ ap (λ n. unwrap_or (position is_three (take room bytes)) n) (sym all) ∙ or_length (take room bytes) in
    let le : position_or_len is_three (take room bytes) ≤ length (take room bytes) = prefix_len-le-length (λ b. not (is_three b)) (take room bytes) in
    let within : count ≤ room = omega arith in
    let head : get_or (take room bytes) 0 0 ≡ get_or bytes 0 0 = get_or-take room bytes 0 0 some in
    let more : 0 < position_or_len is_three (take room bytes) = some_before (take room bytes) (omega arith) (λ h. isnt (sym head ∙ h)) in
    let shorter : take count (take room bytes) ≡ take count bytes = take-take count room bytes within in
    record {
      some = omega arith;
      within = omega arith;
      plain = let P : List ℕ → Type 0 = λ xs. escaped xs ≡ xs in
          let Q : ℕ → Type 0 = λ n. P (take n (take room bytes)) in
          subst P shorter (subst Q (sym e) (plain_before (take room bytes)));
    }

-- where the test went
none_chosen : (b : Bool) (m : ℕ) → cond b (Some m) None ≡ None → b ≡ false
none_chosen true m e = cc
none_chosen false m e = refl

some_chosen : (b : Bool) (m n : ℕ) → cond b (Some m) None ≡ Some n → (b ≡ true) × (m ≡ n)
some_chosen true m n e = (refl, cc)
some_chosen false m n e = cc

-- bytes with no 3 stand for themselves
pub plain_whole : (xs : List ℕ) → position is_three xs ≡ None → escaped xs ≡ xs
plain_whole xs e =
    let b : nat_lt (position_or_len is_three xs) (length xs) ≡ false = none_chosen (nat_lt (position_or_len is_three xs) (length xs)) (position_or_len is_three xs) e in
    let le : length xs ≤ position_or_len is_three xs = ltb-false (position_or_len is_three xs) (length xs) b in
    let P : List ℕ → Type 0 = λ ys. escaped ys ≡ ys in
    subst P (take_all (position_or_len is_three xs) xs le) (plain_before xs)

-- the first 3, with the bytes before it and behind it
pub at_first_three : (xs : List ℕ) (place : ℕ) → position is_three xs ≡ Some place
    → (place < length xs) × (escaped xs ≡ take place xs ++ 3 ∷ 0 ∷ escaped (drop 1 (drop place xs)))
at_first_three xs place e =
    let q = position-Some is_three xs place 0 e in
    let c = some_chosen (nat_lt (position_or_len is_three xs) (length xs)) (position_or_len is_three xs) place e in
    let three : get_or xs place 0 ≡ 3 = eqb-true (get_or xs place 0) 3 q.1 in
    let plain : escaped (take place xs) ≡ take place xs = let P : ℕ → Type 0 = λ n. escaped (take n xs) ≡ take n xs in subst P c.1 (plain_before xs) in
    let rest : drop place xs ≡ 3 ∷ drop (suc place) xs = drop-cons xs place 0 q.0 ∙ ap (λ x. x ∷ drop (suc place) xs) three in
    let behind : drop (suc place) xs ≡ drop 1 (drop place xs) = ap (λ ys. drop 1 ys) (sym rest) in (
      q.0,
      ap escaped (sym (take-append-drop place xs)) ∙ escaped-append (take place xs) (drop place xs)
          ∙ ap (λ ys. ys ++ escaped (drop place xs)) plain ∙ ap (λ ys. take place xs ++ escaped ys) rest ∙ ap (λ ys. take place xs ++ 3 ∷ 0 ∷ escaped ys) behind,
    )

-- the bytes up to a 3 are written, and that 3
pub written_more : (out run_out three_out whole rest run behind : List ℕ) (place : ℕ) → position is_three rest ≡ Some place
    → run ≡ take place rest → behind ≡ drop place rest → run_out ≡ out ++ run → three_out ≡ run_out ++ 3 ∷ 0 ∷ [] → out ++ escaped rest ≡ whole
    → three_out ++ escaped (take (length behind - 1) (drop 1 behind)) ≡ whole
written_more out run_out three_out whole rest run behind place e front back a b h =
    ap (λ ys. three_out ++ escaped ys) (take_rest behind 1)
    ∙ ap (λ ys. ys ++ escaped (drop 1 behind)) (b ∙ ap (λ ys. ys ++ 3 ∷ 0 ∷ []) a)
    ∙ append_assoc (out ++ run) (3 ∷ 0 ∷ []) (escaped (drop 1 behind))
    ∙ append_assoc out run (3 ∷ 0 ∷ escaped (drop 1 behind))
    ∙ ap (λ ys. out ++ (ys ++ 3 ∷ 0 ∷ escaped (drop 1 behind))) front
    ∙ ap (λ ys. out ++ (take place rest ++ 3 ∷ 0 ∷ escaped (drop 1 ys))) back
    ∙ ap (λ ys. out ++ ys) (sym (at_first_three rest place e).1)
    ∙ h

-- the bytes behind the last 3 are written
pub written_all : {E : Type 0} (answer : Result Unit E) (out last whole rest : List ℕ) → position is_three rest ≡ None
    → OnOk answer (last ≡ out ++ rest) → out ++ escaped rest ≡ whole → OnOk answer (last ≡ whole)
written_all (Ok done) out last whole rest e a h = a ∙ ap (λ ys. out ++ ys) (sym (plain_whole rest e)) ∙ h
written_all (Err error) out last whole rest e a h = tt

is_nothing : {A : Type 0} (o : Option A) (test : Bool) → is_some o ≡ not test → test ≡ true → o ≡ None
is_nothing None test e t = refl
is_nothing (Some x) test e t = let f : not test ≡ false = ap not t in cc

-- a message with no 3 is written as it is
pub written_plain : {E : Type 0} (answer : Result Unit E) (first : Option ℕ) (test : Bool) (out last message : List ℕ) → first ≡ position is_three message → is_some first ≡ not test → test ≡ true
    → OnOk answer (last ≡ out ++ message) → OnOk answer (last ≡ out ++ escaped message)
written_plain answer first test out last message is e t a = written_all answer out last (out ++ escaped message) message (sym is ∙ is_nothing first test e t) a refl
