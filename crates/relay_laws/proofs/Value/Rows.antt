-- The commands that deeds send above, each with the number of the command below that it is.
use Rattle.std.proofs.Common.{◌≡◌, ℕ, zero, suc, ◌+◌, ◌^◌, ◌<◌, ◌≤◌, Bool, true, false, not, cond, List, [], ◌∷◌, ◌++◌, length, map, slice_get, Option, Some, refl, sym, ap, ap₂, ◌∙◌, subst, arith, append_assoc, length-append}
use Rattle.std.specs.Prelude.{decimal, filter}
use Rattle.std.specs.List.{AllByRecursion}
use Rattle.value_node.specs.Asked.{Asked}
use Rattle.value_node.specs.Deeds.{Deed, answers, asked_in, forwards, hears, sent_in}
use Rattle.value_node.specs.RelayLaws.{IsAnsweredRightly}
use Rattle.chain_told.specs.Told.{goes_through, is_storable, is_stored, numbered}
use Rattle.relay_laws.specs.Relay.{HaveOwnTokens, IsAscendingFrom, IsCommandOf, bare}
use Rattle.chain_told.proofs.Decimals.{decimal_one}
use Rattle.chain_told.proofs.Numbered.{under}
use Rattle.chain_told.proofs.Splits.{get_split}
use Rattle.list_laws.proofs.AllLists.{all_then}

-- the number, and the command under its token above: the numbers count from the first one on, and the tokens from the second
abbrev pub rows_from : ℕ → ℕ → List Deed → List (ℕ × Asked)
rows_from n t [] = []
rows_from n t (forwards c ∷ deeds) = (n, under t c) ∷ rows_from (n + 1) (t + 1) deeds
rows_from n t (answers c reply mark ∷ deeds) = rows_from (n + 1) t deeds
rows_from n t (hears incoming ∷ deeds) = rows_from n t deeds

abbrev row : ℕ → ℕ → Asked → ℕ × Asked
row n t c = (n, under t c)

-- ---- One deed more

pub rows_forward : (n t : ℕ) (deeds : List Deed) (c : Asked)
    → rows_from n t (deeds ++ forwards c ∷ []) ≡ rows_from n t deeds ++ (n + length (asked_in deeds), under (t + length (sent_in deeds)) c) ∷ []
rows_forward n t [] c =
    let one : n ≡ n + 0 = omega arith in
    let two : t ≡ t + 0 = omega arith in
    ap₂ (λ m k. row m k c ∷ []) one two
rows_forward n t (forwards d ∷ deeds) c =
    let one : (n + 1) + length (asked_in deeds) ≡ n + suc (length (asked_in deeds)) = omega arith in
    let two : (t + 1) + length (sent_in deeds) ≡ t + suc (length (sent_in deeds)) = omega arith in
    ap (λ rs. row n t d ∷ rs) (rows_forward (n + 1) (t + 1) deeds c ∙ ap₂ (λ m k. rows_from (n + 1) (t + 1) deeds ++ row m k c ∷ []) one two)
rows_forward n t (answers d reply mark ∷ deeds) c =
    let one : (n + 1) + length (asked_in deeds) ≡ n + suc (length (asked_in deeds)) = omega arith in
    rows_forward (n + 1) t deeds c ∙ ap (λ m. rows_from (n + 1) t deeds ++ row m (t + length (sent_in deeds)) c ∷ []) one
rows_forward n t (hears incoming ∷ deeds) c = rows_forward n t deeds c

pub rows_answer : (n t : ℕ) (deeds : List Deed) (c : Asked) (reply : List ℕ) (mark : Option ℕ) → rows_from n t (deeds ++ answers c reply mark ∷ []) ≡ rows_from n t deeds
rows_answer n t [] c reply mark = refl
rows_answer n t (forwards d ∷ deeds) c reply mark = ap (λ rs. row n t d ∷ rs) (rows_answer (n + 1) (t + 1) deeds c reply mark)
rows_answer n t (answers d other before ∷ deeds) c reply mark = rows_answer (n + 1) t deeds c reply mark
rows_answer n t (hears incoming ∷ deeds) c reply mark = rows_answer n t deeds c reply mark

pub rows_hear : (n t : ℕ) (deeds : List Deed) (i : _) → rows_from n t (deeds ++ hears i ∷ []) ≡ rows_from n t deeds
rows_hear n t [] i = refl
rows_hear n t (forwards d ∷ deeds) i = ap (λ rs. row n t d ∷ rs) (rows_hear (n + 1) (t + 1) deeds i)
rows_hear n t (answers d other before ∷ deeds) i = rows_hear (n + 1) t deeds i
rows_hear n t (hears incoming ∷ deeds) i = rows_hear n t deeds i

-- ---- What they are

pub rows_sent : (n t : ℕ) (deeds : List Deed) → map (λ r. r.1) (rows_from n t deeds) ≡ numbered t (sent_in deeds)
rows_sent n t [] = refl
rows_sent n t (forwards c ∷ deeds) = ap (λ cs. under t c ∷ cs) (rows_sent (n + 1) (t + 1) deeds)
rows_sent n t (answers c reply mark ∷ deeds) = rows_sent (n + 1) t deeds
rows_sent n t (hears incoming ∷ deeds) = rows_sent n t deeds

pub rows_ascend : (low n t : ℕ) (deeds : List Deed) → low ≤ n → IsAscendingFrom low (map (λ r. r.0) (rows_from n t deeds))
rows_ascend low n t [] less = tt
rows_ascend low n t (forwards c ∷ deeds) less = (less, rows_ascend (n + 1) (n + 1) (t + 1) deeds (omega arith))
rows_ascend low n t (answers c reply mark ∷ deeds) less = rows_ascend low (n + 1) t deeds (omega arith)
rows_ascend low n t (hears incoming ∷ deeds) less = rows_ascend low n t deeds less

pub rows_below : (n t : ℕ) (deeds : List Deed) → AllByRecursion (λ k. k < n + length (asked_in deeds)) (map (λ r. r.0) (rows_from n t deeds))
rows_below n t [] = tt
rows_below n t (forwards c ∷ deeds) = (
  omega arith,
  all_then (λ k. k < (n + 1) + length (asked_in deeds)) (λ k. k < n + suc (length (asked_in deeds))) (λ k less. omega (arith, less)) (map (λ r. r.0) (rows_from (n + 1) (t + 1) deeds))
      (rows_below (n + 1) (t + 1) deeds),
)
rows_below n t (answers c reply mark ∷ deeds) =
    all_then (λ k. k < (n + 1) + length (asked_in deeds)) (λ k. k < n + suc (length (asked_in deeds))) (λ k less. omega (arith, less)) (map (λ r. r.0) (rows_from (n + 1) t deeds))
    (rows_below (n + 1) t deeds)
rows_below n t (hears incoming ∷ deeds) = rows_below n t deeds

-- each is the command below of its number
own_again : (before : List Asked) (c : Asked) (t : ℕ) (deeds : List Deed) → AllByRecursion (IsCommandOf ((before ++ c ∷ []) ++ asked_in deeds)) (rows_from (length (before ++ c ∷ [])) t deeds)
    → AllByRecursion (IsCommandOf (before ++ c ∷ asked_in deeds)) (rows_from (length before + 1) t deeds)
own_again before c t deeds all =
    subst (λ n. AllByRecursion (IsCommandOf (before ++ c ∷ asked_in deeds)) (rows_from n t deeds)) (length-append before (c ∷ []))
    (subst (λ cs. AllByRecursion (IsCommandOf cs) (rows_from (length (before ++ c ∷ [])) t deeds)) (append_assoc before (c ∷ []) (asked_in deeds)) all)

pub rows_own : (before : List Asked) (t : ℕ) (deeds : List Deed) → AllByRecursion (IsCommandOf (before ++ asked_in deeds)) (rows_from (length before) t deeds)
rows_own before t [] = tt
rows_own before t (forwards c ∷ deeds) = ((c, get_split before c (asked_in deeds), refl), own_again before c (t + 1) deeds (rows_own (before ++ c ∷ []) (t + 1) deeds))
rows_own before t (answers c reply mark ∷ deeds) = own_again before c t deeds (rows_own (before ++ c ∷ []) t deeds)
rows_own before t (hears incoming ∷ deeds) = rows_own before t deeds

-- ---- Their tokens

numbered_at : (t : ℕ) (commands : List Asked) (i : ℕ) (c : Asked) → slice_get (numbered t commands) i ≡ Some c → (c.token ≡ decimal (t + i)) × (i < length commands)
numbered_at t [] i c is = absurd cc
numbered_at t (d ∷ commands) zero c is =
    let one : under t d ≡ c = cc in
    let here : t ≡ t + 0 = omega arith in
    (sym (ap (λ (x : Asked). x.token) one) ∙ ap (λ n. decimal n) here, omega arith)
numbered_at t (d ∷ commands) (suc i) c is =
    let rest = numbered_at (t + 1) commands i c is in
    let next : (t + 1) + i ≡ t + suc i = omega arith in
    let less : i < length commands = rest.1 in
    (rest.0 ∙ ap (λ n. decimal n) next, omega arith)

pub numbered_own : (commands : List Asked) → length commands < 10 ^ 64 → HaveOwnTokens (numbered 1 commands)
numbered_own commands few i k c d one other same =
    let first = numbered_at 1 commands i c one in
    let second = numbered_at 1 commands k d other in
    let low : i < length commands = first.1 in
    let high : k < length commands = second.1 in
    let alike : 1 + i ≡ 1 + k = decimal_one (1 + i) (1 + k) (omega arith) (omega arith) (sym first.0 ∙ same ∙ second.0) in
    omega arith

-- ---- Those that aren't storable: none of them is answered from the store

abbrev pub IsStorableDeed : Deed → Type 0
IsStorableDeed (forwards c) = Unit {0}
IsStorableDeed (answers c reply mark) = is_storable c ≡ true
IsStorableDeed (hears incoming) = Unit {0}

through_flag : (flag : Bool) (x y : Asked) (xs ys : List Asked) → bare x ≡ bare y → map bare xs ≡ map bare ys → map bare (cond flag (x ∷ xs) xs) ≡ map bare (cond flag (y ∷ ys) ys)
through_flag true x y xs ys one rest = ap₂ (λ a l. a ∷ l) one rest
through_flag false x y xs ys one rest = rest

pub rows_through : (t : ℕ) (deeds : List Deed) → AllByRecursion IsStorableDeed deeds
    → map bare (filter goes_through (numbered t (sent_in deeds))) ≡ map bare (filter goes_through (asked_in deeds))
rows_through t [] all = refl
rows_through t (forwards c ∷ deeds) all =
    through_flag (goes_through c) (under t c) c (filter goes_through (numbered (t + 1) (sent_in deeds))) (filter goes_through (asked_in deeds)) refl (rows_through (t + 1) deeds all.1)
rows_through t (answers c reply mark ∷ deeds) all =
    let none : goes_through c ≡ false = ap not all.0 in
    rows_through t deeds all.1 ∙ sym (ap (λ b. map bare (cond b (c ∷ filter goes_through (asked_in deeds)) (filter goes_through (asked_in deeds)))) none)
rows_through t (hears incoming ∷ deeds) all = rows_through t deeds all.1

pub storable_deeds : (before deeds : List Deed)
    → ((earlier rest : List Deed) (c : Asked) (reply : List ℕ) (mark : Option ℕ) → before ++ deeds ≡ earlier ++ answers c reply mark ∷ rest → IsAnsweredRightly earlier c reply mark)
    → AllByRecursion IsStorableDeed deeds
storable_deeds before [] rightly = tt
storable_deeds before (forwards c ∷ deeds) rightly =
    (tt, storable_deeds (before ++ forwards c ∷ []) deeds (λ earlier rest d reply mark whole. rightly earlier rest d reply mark (sym (append_assoc before (forwards c ∷ []) deeds) ∙ whole)))
storable_deeds before (answers c reply mark ∷ deeds) rightly =
    let r = rightly before deeds c reply mark refl in (
      ap is_stored r.read ∙ r.storable,
      storable_deeds (before ++ answers c reply mark ∷ []) deeds
          (λ earlier rest d other at whole. rightly earlier rest d other at (sym (append_assoc before (answers c reply mark ∷ []) deeds) ∙ whole)),
    )
storable_deeds before (hears incoming ∷ deeds) rightly =
    (tt, storable_deeds (before ++ hears incoming ∷ []) deeds (λ earlier rest d reply mark whole. rightly earlier rest d reply mark (sym (append_assoc before (hears incoming ∷ []) deeds) ∙ whole)))

-- ---- One of them

-- a command that was sent above: its number, and its row
pub record SentAt (n t : ℕ) (deeds : List Deed) (i : ℕ) (c : Asked) : Type 0 where
  pub number : ℕ
  pub row_is : slice_get (rows_from n t deeds) i ≡ Some (n + number, under (t + i) c)
  pub at : slice_get (asked_in deeds) number ≡ Some c

pub sent_at : (n t : ℕ) (deeds : List Deed) (i : ℕ) (c : Asked) → slice_get (sent_in deeds) i ≡ Some c → SentAt n t deeds i c
sent_at n t [] i c is = absurd cc
sent_at n t (forwards d ∷ deeds) zero c is =
    let same : d ≡ c = cc in
    let one : n ≡ n + 0 = omega arith in
    let two : t ≡ t + 0 = omega arith in
    record { number = 0; row_is = ap (λ x. Some (row n t x)) same ∙ ap₂ (λ m k. Some (row m k c)) one two; at = is }
sent_at n t (forwards d ∷ deeds) (suc i) c is =
    let rest = sent_at (n + 1) (t + 1) deeds i c is in
    let one : (n + 1) + rest.number ≡ n + suc rest.number = omega arith in
    let two : (t + 1) + i ≡ t + suc i = omega arith in
    record { number = suc rest.number; row_is = rest.row_is ∙ ap₂ (λ m k. Some (row m k c)) one two; at = rest.at }
sent_at n t (answers d reply mark ∷ deeds) i c is =
    let rest = sent_at (n + 1) t deeds i c is in
    let one : (n + 1) + rest.number ≡ n + suc rest.number = omega arith in
    record { number = suc rest.number; row_is = rest.row_is ∙ ap (λ m. Some (row m (t + i) c)) one; at = rest.at }
sent_at n t (hears incoming ∷ deeds) i c is = let rest = sent_at n t deeds i c is in record { number = rest.number; row_is = rest.row_is; at = rest.at }

-- a command that was taken from below was sent above, or is a storable one
pub data WasAsked (n t : ℕ) (deeds : List Deed) (k : ℕ) (c : Asked) : Type 0 where
  was_sent : (i : ℕ) → slice_get (rows_from n t deeds) i ≡ Some (n + k, under (t + i) c) → slice_get (sent_in deeds) i ≡ Some c → WasAsked n t deeds k c
  was_stored : is_storable c ≡ true → WasAsked n t deeds k c

behind_sent : (n t : ℕ) (d : Asked) (deeds : List Deed) (k : ℕ) (c : Asked) → WasAsked (n + 1) (t + 1) deeds k c → WasAsked n t (forwards d ∷ deeds) (suc k) c
behind_sent n t d deeds k c (was_sent i is at) =
    let one : (n + 1) + k ≡ n + suc k = omega arith in
    let two : (t + 1) + i ≡ t + suc i = omega arith in
    was_sent (suc i) (is ∙ ap₂ (λ m j. Some (row m j c)) one two) at
behind_sent n t d deeds k c (was_stored is) = was_stored is

behind_stored : (n t : ℕ) (d : Asked) (reply : List ℕ) (mark : Option ℕ) (deeds : List Deed) (k : ℕ) (c : Asked) → WasAsked (n + 1) t deeds k c → WasAsked n t (answers d reply mark ∷ deeds) (suc k) c
behind_stored n t d reply mark deeds k c (was_sent i is at) =
    let one : (n + 1) + k ≡ n + suc k = omega arith in
    was_sent i (is ∙ ap (λ m. Some (row m (t + i) c)) one) at
behind_stored n t d reply mark deeds k c (was_stored is) = was_stored is

behind_heard : (n t : ℕ) (i : _) (deeds : List Deed) (k : ℕ) (c : Asked) → WasAsked n t deeds k c → WasAsked n t (hears i ∷ deeds) k c
behind_heard n t i deeds k c (was_sent j is at) = was_sent j is at
behind_heard n t i deeds k c (was_stored is) = was_stored is

pub asked_at : (n t : ℕ) (deeds : List Deed) (k : ℕ) (c : Asked) → AllByRecursion IsStorableDeed deeds → slice_get (asked_in deeds) k ≡ Some c → WasAsked n t deeds k c
asked_at n t [] k c all is = absurd cc
asked_at n t (forwards d ∷ deeds) zero c all is =
    let same : d ≡ c = cc in
    let one : n ≡ n + 0 = omega arith in
    let two : t ≡ t + 0 = omega arith in
    was_sent 0 (ap (λ x. Some (row n t x)) same ∙ ap₂ (λ m j. Some (row m j c)) one two) is
asked_at n t (forwards d ∷ deeds) (suc k) c all is = behind_sent n t d deeds k c (asked_at (n + 1) (t + 1) deeds k c all.1 is)
asked_at n t (answers d reply mark ∷ deeds) zero c all is = let same : d ≡ c = cc in was_stored (ap is_storable (sym same) ∙ all.0)
asked_at n t (answers d reply mark ∷ deeds) (suc k) c all is = behind_stored n t d reply mark deeds k c (asked_at (n + 1) t deeds k c all.1 is)
asked_at n t (hears incoming ∷ deeds) k c all is = behind_heard n t incoming deeds k c (asked_at n t deeds k c all.1 is)
