-- A final answer names the pending command that it is taken for.
use Rattle.std.proofs.Common.{◌≡◌, ℕ, ◌+◌, Bool, true, false, not, cond, nat_lt, List, [], ◌∷◌, length, Option, Some, None, refl, sym, ap, ◌∙◌, one-add}
use Rattle.std.specs.Prelude.{decimal, position, slice_get}
use Rattle.std.specs.List.{position_or_len}
use Rattle.std.proofs.lemmas.Slice.Eq.{bytes_eq-Decides}
use Rattle.channel_core.specs.EndValue.{EndValue}
use Rattle.channel_core.specs.Taking.{is_early, is_held, judged, judged_by, place_of, sent_at, sent_place, unless_held}
use Rattle.channel_core.specs.Wire.{Said, answers, asks, goes_on, greets, tells}
use Rattle.channel_core.specs.declared.held.Held.{Held}
use Rattle.channel_core.specs.Judged.{Answers, TooEarly}
use Rattle.channel_core.proofs.Finals.{no_progress, is_answer}
use Rattle.channel_core.proofs.Rows.{names}

-- ---- The row at a place that was found

first_passes : {A : Type 0} → (test : A → Bool) (xs : List A) (x : A) → slice_get xs (position_or_len test xs) ≡ Some x → test x ≡ true
first_passes test [] x is = absurd cc
first_passes test (first ∷ xs) x is = by_flag (test first) refl is (first_passes test xs x)
  where
    by_flag : (flag : Bool) → test first ≡ flag → slice_get (first ∷ xs) (cond (not flag) (1 + position_or_len test xs) 0) ≡ Some x
        → (slice_get xs (position_or_len test xs) ≡ Some x → test x ≡ true) → test x ≡ true
    by_flag true passes is rest = let same : first ≡ x = cc in ap test (sym same) ∙ passes
    by_flag false passes is rest = rest (rw one-add at is)

chosen : (flag : Bool) (m n : ℕ) → cond flag (Some m) None ≡ Some n → m ≡ n
chosen true m n is = cc
chosen false m n is = absurd cc

found_passes : {A : Type 0} → (test : A → Bool) (xs : List A) (place : ℕ) (x : A) → position test xs ≡ Some place → slice_get xs place ≡ Some x → test x ≡ true
found_passes test xs place x found at =
    first_passes test xs x (ap (slice_get xs) (chosen (nat_lt (position_or_len test xs) (length xs)) (position_or_len test xs) place found) ∙ at)

-- ---- What a message is judged to be

-- the place was found, whether the command is held or not
unheld_is : (here place : ℕ) (held : Bool) → cond held None (Some here) ≡ Some place → here ≡ place
unheld_is here place true is = absurd cc
unheld_is here place false is = cc

row_is : {T : Type 0} → (here place : ℕ) (row : Option (ℕ × T)) (held : List Held) → unless_held here row held ≡ Some place → here ≡ place
row_is here place None held is = absurd cc
row_is here place (Some row) held is = unheld_is here place (is_held row.0 held) is

place_is : {T : Type 0} → (found : Option ℕ) (place : ℕ) (pending : List (ℕ × T)) (held : List Held) → sent_at found pending held ≡ Some place → found ≡ Some place
place_is None place pending held is = absurd cc
place_is (Some here) place pending held is = ap Some (row_is here place (slice_get pending here) held is)

record IsAsked {T : Type 0} (message : Said) (e : EndValue T) (place : ℕ) (done : Bool) : Type 0 where
  token : List ℕ
  message_is : message ≡ answers token done
  found : place_of token e.pending ≡ Some place

asked_by : {T : Type 0} → (message : Said) (e : EndValue T) (place : ℕ) (done : Bool) → judged_by message e ≡ Answers place done → IsAsked message e place done
asked_by greets e place done is = absurd cc
asked_by tells e place done is = absurd cc
asked_by asks e place done is = absurd cc
asked_by (goes_on token) e place done is = absurd (no_progress (sent_place token e) place done is)
asked_by (answers token other) e place done is =
    let a = is_answer (sent_place token e) other done place is in
    record { token = token; message_is = ap (answers token) a.1; found = place_is (place_of token e.pending) place e.pending e.held a.0 }

asked : {T : Type 0} → (message : Said) (e : EndValue T) (place : ℕ) (done : Bool) → judged message e ≡ Answers place done → IsAsked message e place done
asked message e place done is = by_flag (is_early e.state message) is
  where
    by_flag : (flag : Bool) → cond flag TooEarly (judged_by message e) ≡ Answers place done → IsAsked message e place done
    by_flag true is = absurd cc
    by_flag false is = asked_by message e place done is

-- its token is that of the command at the place
pub names_its_command : {T : Type 0} → (message : Said) (e : EndValue T) (place : ℕ) (done : Bool) (row : ℕ × T) → judged message e ≡ Answers place done → slice_get e.pending place ≡ Some row
    → message ≡ answers (decimal row.0) done
names_its_command message e place done row is at =
    let a = asked message e place done is in
    let named = found_passes (names a.token) e.pending place row a.found at in
    a.message_is ∙ ap (λ token. answers token done) ((bytes_eq-Decides a.token (decimal row.0)).0 named)
