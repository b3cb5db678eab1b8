-- A command that was sent and isn't answered has a place among those of the end that were sent.
use Rattle.std.proofs.Common.{◌≡◌, ℕ, zero, suc, ◌+◌, ◌-◌, ◌<◌, ◌==◌, Bool, true, false, cond, not, ◌||◌, List, [], ◌∷◌, ◌++◌, length, map, filter, drop, Some, None, refl, sym, ap, ◌∙◌, subst, arith, take-append-drop}
use Rattle.std.specs.Prelude.{decimal, slice_get, slice_index_or}
use Rattle.std.specs.List.{AllByRecursion, list_any, position_or_len, range_with_len}
use Rattle.std.proofs.lemmas.Bool.{eqb-true, lt-ltb, or_left, or_right}
use Rattle.std.proofs.lemmas.List.{map-append}
use Rattle.std.proofs.lemmas.List.Elements.{filter-append}
use Rattle.std.proofs.lemmas.Slice.Eq.{bytes_eq-Decides}
use Rattle.channel_core.specs.RunLaws.{CountsAnswers, SendsInOrder, is_answered, row_of, sent_of}
use Rattle.channel_core.specs.Runs.{Issued, Run}
use Rattle.channel_core.specs.Taking.{is_held, place_of, sent_at, sent_place, unless_held}
use Rattle.channel_core.specs.declared.held.Held.{Held}
use Rattle.channel_laws.specs.Faults.{IsAwaited}
use Rattle.list_laws.proofs.AllLists.{all_right}
use Rattle.channel_core.proofs.Rows.{names}

-- ---- The commands that were sent aren't held

above : (low from n : ℕ) → low < from → AllByRecursion (λ m. low < m) (range_with_len from n)
above low from zero less = tt
above low from (suc n) less = (less, above low (from + 1) n (omega arith))

none_held : (token : ℕ) (held : List Held) → AllByRecursion (λ m. token < m) (map (λ h. h.token) held) → is_held token held ≡ false
none_held token [] all = refl
none_held token (h ∷ held) all = by_flag (h.token == token) refl (none_held token held all.1)
  where
    by_flag : (flag : Bool) → (h.token == token) ≡ flag → is_held token held ≡ false → (flag || is_held token held) ≡ false
    by_flag true is rest = let same = eqb-true h.token token is in let less = all.0 in absurd (omega arith)
    by_flag false is rest = rest

unheld : {T : Type 0} → (sent : List (Issued T)) (held : List Held) (from n : ℕ) → map (λ i. i.command.token) sent ++ map (λ h. h.token) held ≡ range_with_len from n
    → AllByRecursion (λ i. is_held i.command.token held ≡ false) sent
unheld [] held from n is = tt
unheld (i ∷ sent) held from zero is = absurd cc
unheld (i ∷ sent) held from (suc n) is =
    let token = i.command.token in
    let first : token ≡ from = cc in
    let rest : map (λ x. x.command.token) sent ++ map (λ h. h.token) held ≡ range_with_len (from + 1) n = cc in
    let later = subst (AllByRecursion (λ m. token < m)) (sym rest) (above token (from + 1) n (omega arith)) in
    (none_held token held (all_right (λ m. token < m) (map (λ x. x.command.token) sent) (map (λ h. h.token) held) later), unheld sent held (from + 1) n rest)

tokens_of : {T : Type 0} → (all : List (Issued T)) → map (λ h. h.token) (map (λ i. i.command) all) ≡ map (λ i. i.command.token) all
tokens_of [] = refl
tokens_of (i ∷ all) = ap (λ ns. i.command.token ∷ ns) (tokens_of all)

-- ---- Their rows

rows_of : {T : Type 0} → (P : ℕ × T → Type 0) (test : ℕ × T → Bool) (all : List (Issued T)) → AllByRecursion (λ i. P (row_of i)) all → AllByRecursion P (filter test (map row_of all))
rows_of P test [] each = tt
rows_of P test (i ∷ all) each = by_flag (test (row_of i)) (rows_of P test all each.1)
  where
    by_flag : (flag : Bool) → AllByRecursion P (filter test (map row_of all)) → AllByRecursion P (cond flag (row_of i ∷ filter test (map row_of all)) (filter test (map row_of all)))
    by_flag true rest = (each.0, rest)
    by_flag false rest = rest

any_row : {T : Type 0} → (token : List ℕ) (test : ℕ × T → Bool) (all : List (Issued T)) (i : Issued T) (place : ℕ) → place < length all → slice_index_or all place i ≡ i
    → token ≡ decimal i.command.token → test (row_of i) ≡ true → list_any (names token) (filter test (map row_of all)) ≡ true
any_row token test [] i place within at named passes = absurd (omega arith)
any_row {T = T} token test (first ∷ all) i place within at named passes = by_flag (test (row_of first)) refl place within at (λ later. any_row token test all i later)
  where
    rows : List (ℕ × T)
    rows = filter test (map row_of all)

    by_flag : (flag : Bool) → test (row_of first) ≡ flag → (place : ℕ) → place < length (first ∷ all) → slice_index_or (first ∷ all) place i ≡ i
        → ((later : ℕ) → later < length all → slice_index_or all later i ≡ i → token ≡ decimal i.command.token → test (row_of i) ≡ true → list_any (names token) rows ≡ true)
        → list_any (names token) (cond flag (row_of first ∷ rows) rows) ≡ true
    by_flag true is zero within at rest =
        let same = ap (λ (x : Issued T). decimal x.command.token) at in
        or_left (names token (row_of first)) (list_any (names token) rows) ((bytes_eq-Decides token (decimal first.command.token)).1 (named ∙ sym same))
    by_flag true is (suc place) within at rest = or_right (names token (row_of first)) (list_any (names token) rows) (rest place (omega arith) at named passes)
    by_flag false is zero within at rest = let same = ap (λ (x : Issued T). test (row_of x)) at in absurd cc
    by_flag false is (suc place) within at rest = rest place (omega arith) at named passes

-- ---- One of them is found

record IsFound {A : Type 0} (P : A → Type 0) (xs : List A) (place : ℕ) : Type 0 where
  within : place < length xs
  row : A
  row_is : slice_get xs place ≡ Some row
  fine : P row

found : {A : Type 0} → (P : A → Type 0) (test : A → Bool) (xs ys : List A) → list_any test xs ≡ true → AllByRecursion P xs → IsFound P (xs ++ ys) (position_or_len test (xs ++ ys))
found P test [] ys some all = absurd cc
found {A = A} P test (x ∷ xs) ys some all = by_flag (test x) some (λ later. found P test xs ys later all.1)
  where
    by_flag : (flag : Bool) → (flag || list_any test xs) ≡ true → (list_any test xs ≡ true → IsFound P (xs ++ ys) (position_or_len test (xs ++ ys)))
        → IsFound P (x ∷ (xs ++ ys)) (cond (not flag) (1 + position_or_len test (xs ++ ys)) 0)
    by_flag true some rest = record { within = omega arith; row = x; row_is = refl; fine = all.0 }
    by_flag false some rest =
        let f = rest some in
        let within = f.within in
        let more : 1 + position_or_len test (xs ++ ys) ≡ suc (position_or_len test (xs ++ ys)) = omega arith in
        record { within = omega arith; row = f.row; row_is = ap (slice_get (x ∷ (xs ++ ys))) more ∙ f.row_is; fine = f.fine }

placed : {T : Type 0} → (token : List ℕ) (rows : List (ℕ × T)) (held : List Held) → IsFound (λ row. is_held row.0 held ≡ false) rows (position_or_len (names token) rows)
    → sent_at (place_of token rows) rows held ≡ Some (position_or_len (names token) rows)
placed token rows held f =
    let place = position_or_len (names token) rows in
    let here : place_of token rows ≡ Some place = ap (λ flag. cond flag (Some place) None) (lt-ltb place (length rows) f.within) in
    ap (λ p. sent_at p rows held) here ∙ ap (λ row. unless_held place row held) f.row_is ∙ ap (λ flag. cond flag None (Some place)) f.fine

-- ---- The command is

none_of : {T : Type 0} → (rows : List (ℕ × T)) → map (λ row. row.1) rows ≡ [] → rows ≡ []
none_of [] is = refl
none_of (row ∷ rows) is = absurd cc

pub awaited_place : {T : Type 0} → (token : List ℕ) (r : Run T) → CountsAnswers r → SendsInOrder r → r.past.drained ≡ [] → IsAwaited token r
    → (place : ℕ) × (sent_place token r.end ≡ Some place)
awaited_place {T = T} token r counts sends undrained awaited =
    let all = r.past.accepted in
    let sent = sent_of r in
    let waiting = drop (length all - length r.end.held) all in
    let test : ℕ × T → Bool = λ row. not (is_answered r.past.taken row.0) in
    let parts : all ≡ sent ++ waiting = sym (take-append-drop (length all - length r.end.held) all) in
    let none = none_of counts.drained (sym counts.tags ∙ undrained) in
    let pending : r.end.pending ≡ filter test (map row_of sent) ++ filter test (map row_of waiting)
    = ap (λ rows. rows ++ r.end.pending) (sym none) ∙ sym counts.pending ∙ ap (λ (xs : List (Issued T)). filter test (map row_of xs)) parts ∙ ap (filter test) (map-append row_of sent waiting)
    ∙ filter-append test (map row_of sent) (map row_of waiting) in
    let tokens : map (λ i. i.command.token) sent ++ map (λ h. h.token) r.end.held ≡ range_with_len 1 (length all)
    = ap (λ ns. ns ++ map (λ h. h.token) r.end.held) (sym (tokens_of sent)) ∙ sym (map-append (λ h. h.token) (map (λ i. i.command) sent) r.end.held)
    ∙ ap (map (λ h. h.token)) (sym sends.are_held) ∙ tokens_of all ∙ counts.tokens in
    let row = awaited.sent in
    let some = any_row token test sent awaited.command row.0 row.1 row.2 awaited.token_is (ap not awaited.unanswered) in
    let free = rows_of (λ (x : ℕ × T). is_held x.0 r.end.held ≡ false) test sent (unheld sent r.end.held 1 (length all) tokens) in
    let rows = filter test (map row_of sent) ++ filter test (map row_of waiting) in
    let place = placed token rows r.end.held (found (λ (x : ℕ × T). is_held x.0 r.end.held ≡ false) (names token) (filter test (map row_of sent)) (filter test (map row_of waiting)) some free) in
    (position_or_len (names token) rows, ap (λ (xs : List (ℕ × T)). sent_at (place_of token xs) xs r.end.held) pending ∙ place)
