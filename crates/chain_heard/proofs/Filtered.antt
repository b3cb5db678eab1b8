-- What the lines of a log say, said by those alone that tell of messages.
use Rattle.std.proofs.Common.{◌≡◌, ℕ, Bool, true, false, ◌||◌, cond, true≢false, List, [], ◌∷◌, ◌++◌, filter, refl, ap, sym, ◌∙◌, subst}
use Rattle.std.specs.Prelude.{Option, Some, None}
use Rattle.std.specs.List.{flat_map, list_any}
use Rattle.std.proofs.lemmas.List.Elements.{filter-append}
use Rattle.std.proofs.lemmas.List.Folds.{list_any-append}
use Rattle.client_node.specs.Runs.{tells}
use Rattle.tcf_text.specs.Each.{Each}
use Rattle.tcf_text.specs.Lines.{Accepted, bare_answer_of, from_hello, is_placed_hello, last_mark, later_or, mark_of}
use Rattle.tcf_text.specs.declared.log.LogLine.{LogLine}
use Rattle.tcf_text.specs.declared.log.LogLine.TheVariants.{Sent, Refused, Hello, Event, Progress, Final, Unknown, Closed, Ended, Cached}
use Rattle.target_hub.specs.Ordered.{ComesAfter, IsPlaced, hello_position}
use Rattle.target_hub.specs.Received.{answer_of, told_of}
use Rattle.target_hub.specs.declared.input.Input.{Input}
use Rattle.list_laws.proofs.Flags.{or_true}

-- ---- words that are silent of other lines

pub flat_told : {A : Type 0} → (f : LogLine → List A) → ((x : LogLine) → tells x ≡ false → f x ≡ []) → (xs : List LogLine) → flat_map f (filter tells xs) ≡ flat_map f xs
flat_told f silent [] = refl
flat_told f silent (x ∷ xs) = by_flag (tells x) (silent x) (filter tells xs) (flat_told f silent xs)
  where
    by_flag : (b : Bool) → (b ≡ false → f x ≡ []) → (ys : List LogLine) → flat_map f ys ≡ flat_map f xs → flat_map f (cond b (x ∷ ys) ys) ≡ f x ++ flat_map f xs
    by_flag true none ys same = ap (λ l. f x ++ l) same
    by_flag false none ys same = same ∙ sym (ap (λ l. l ++ flat_map f xs) (none refl))

pub silent_told : (commands : List Accepted) (x : LogLine) → tells x ≡ false → told_of commands x ≡ []
silent_told commands (Sent number service name body) silent = refl
silent_told commands (Refused why) silent = refl
silent_told commands (Closed number) silent = refl
silent_told commands (Ended why) silent = refl
silent_told commands (Cached what value) silent = refl
silent_told commands x silent = absurd (true≢false silent)

pub silent_answer : (commands : List Accepted) (x : LogLine) → tells x ≡ false → answer_of commands x ≡ []
silent_answer commands (Sent number service name body) silent = refl
silent_answer commands (Refused why) silent = refl
silent_answer commands (Closed number) silent = refl
silent_answer commands (Ended why) silent = refl
silent_answer commands (Cached what value) silent = refl
silent_answer commands x silent = absurd (true≢false silent)

pub silent_bare : (x : LogLine) → tells x ≡ false → bare_answer_of x ≡ []
silent_bare (Sent number service name body) silent = refl
silent_bare (Refused why) silent = refl
silent_bare (Closed number) silent = refl
silent_bare (Ended why) silent = refl
silent_bare (Cached what value) silent = refl
silent_bare x silent = absurd (true≢false silent)

-- ---- marks and Hellos

later_none : (mark : Option (Option ℕ)) → later_or mark None ≡ mark
later_none None = refl
later_none (Some mark) = refl

pub last_mark_told : (xs : List LogLine) → last_mark (filter tells xs) ≡ last_mark xs
last_mark_told [] = refl
last_mark_told (Sent number service name body ∷ xs) = last_mark_told xs ∙ sym (later_none (last_mark xs))
last_mark_told (Refused why ∷ xs) = last_mark_told xs ∙ sym (later_none (last_mark xs))
last_mark_told (Closed number ∷ xs) = last_mark_told xs ∙ sym (later_none (last_mark xs))
last_mark_told (Ended why ∷ xs) = last_mark_told xs ∙ sym (later_none (last_mark xs))
last_mark_told (Cached what value ∷ xs) = last_mark_told xs ∙ sym (later_none (last_mark xs))
last_mark_told (x ∷ xs) = ap (λ mark. later_or mark (mark_of x)) (last_mark_told xs)

pub any_hello_told : (xs : List LogLine) → list_any is_placed_hello (filter tells xs) ≡ list_any is_placed_hello xs
any_hello_told [] = refl
any_hello_told (Sent number service name body ∷ xs) = any_hello_told xs
any_hello_told (Refused why ∷ xs) = any_hello_told xs
any_hello_told (Closed number ∷ xs) = any_hello_told xs
any_hello_told (Ended why ∷ xs) = any_hello_told xs
any_hello_told (Cached what value ∷ xs) = any_hello_told xs
any_hello_told (x ∷ xs) = ap (λ b. is_placed_hello x || b) (any_hello_told xs)

pub hello_position_told : (xs : List LogLine) → hello_position (filter tells xs) ≡ hello_position xs
hello_position_told [] = refl
hello_position_told (Hello (Some position) body ∷ xs) = refl
hello_position_told (x ∷ xs) = hello_position_told xs

-- ---- from the last Hello with a position on

pub from_none : (xs : List LogLine) → list_any is_placed_hello xs ≡ false → from_hello xs ≡ []
from_none [] none = refl
from_none (x ∷ xs) none = by_flags (is_placed_hello x) (list_any is_placed_hello xs) (from_hello xs) (x ∷ xs) none
  where
    by_flags : (a b : Bool) (us vs : List LogLine) → (a || b) ≡ false → cond b us (cond a vs []) ≡ []
    by_flags true b us vs none = absurd (true≢false none)
    by_flags false true us vs none = absurd (true≢false none)
    by_flags false false us vs none = refl

-- what stands before such a Hello doesn't matter
pub from_behind : (xs ys : List LogLine) → list_any is_placed_hello ys ≡ true → from_hello (xs ++ ys) ≡ from_hello ys
from_behind [] ys some = refl
from_behind (x ∷ xs) ys some =
    let there : list_any is_placed_hello (xs ++ ys) ≡ true =
    list_any-append is_placed_hello xs ys ∙ ap (λ b. list_any is_placed_hello xs || b) some ∙ or_true (list_any is_placed_hello xs) in
    ap (λ b. cond b (from_hello (xs ++ ys)) (cond (is_placed_hello x) (x ∷ (xs ++ ys)) [])) there ∙ from_behind xs ys some

skipped : (b : Bool) (xs : List LogLine) → list_any is_placed_hello xs ≡ b → filter tells (from_hello xs) ≡ from_hello (filter tells xs)
    → filter tells (cond b (from_hello xs) []) ≡ from_hello (filter tells xs)
skipped true xs is same = same
skipped false xs is same = sym (from_none (filter tells xs) (any_hello_told xs ∙ is))

taken_on : (a b : Bool) (x : LogLine) (xs : List LogLine) → tells x ≡ true → filter tells (from_hello xs) ≡ from_hello (filter tells xs)
    → filter tells (cond b (from_hello xs) (cond a (x ∷ xs) [])) ≡ cond b (from_hello (filter tells xs)) (cond a (x ∷ filter tells xs) [])
taken_on a true x xs telling same = same
taken_on true false x xs telling same = ap (λ t. cond t (x ∷ filter tells xs) (filter tells xs)) telling
taken_on false false x xs telling same = refl

on_telling : (x : LogLine) (xs : List LogLine) → tells x ≡ true → filter tells (from_hello xs) ≡ from_hello (filter tells xs)
    → filter tells (from_hello (x ∷ xs)) ≡ from_hello (x ∷ filter tells xs)
on_telling x xs telling same =
    taken_on (is_placed_hello x) (list_any is_placed_hello xs) x xs telling same
    ∙ ap (λ b. cond b (from_hello (filter tells xs)) (cond (is_placed_hello x) (x ∷ filter tells xs) [])) (sym (any_hello_told xs))

pub from_hello_told : (xs : List LogLine) → filter tells (from_hello xs) ≡ from_hello (filter tells xs)
from_hello_told [] = refl
from_hello_told (Sent number service name body ∷ xs) = skipped (list_any is_placed_hello xs) xs refl (from_hello_told xs)
from_hello_told (Refused why ∷ xs) = skipped (list_any is_placed_hello xs) xs refl (from_hello_told xs)
from_hello_told (Closed number ∷ xs) = skipped (list_any is_placed_hello xs) xs refl (from_hello_told xs)
from_hello_told (Ended why ∷ xs) = skipped (list_any is_placed_hello xs) xs refl (from_hello_told xs)
from_hello_told (Cached what value ∷ xs) = skipped (list_any is_placed_hello xs) xs refl (from_hello_told xs)
from_hello_told (x ∷ xs) = on_telling x xs refl (from_hello_told xs)

-- ---- the place of each line

silent_placed : (history : List Input) (before : List LogLine) (x : LogLine) → tells x ≡ false → IsPlaced history before x
silent_placed history before (Sent number service name body) silent = tt
silent_placed history before (Refused why) silent = tt
silent_placed history before (Closed number) silent = tt
silent_placed history before (Ended why) silent = tt
silent_placed history before (Cached what value) silent = tt
silent_placed history before x silent = absurd (true≢false silent)

placed_same : (history : List Input) (one other : List LogLine) → last_mark one ≡ last_mark other → list_any is_placed_hello one ≡ list_any is_placed_hello other
    → (x : LogLine) → IsPlaced history one x → IsPlaced history other x
placed_same history one other marks hellos (Hello None body) placed = sym hellos ∙ placed
placed_same history one other marks hellos (Hello (Some position) body) placed = (sym hellos ∙ placed.0, placed.1)
placed_same history one other marks hellos (Event mark service name body) placed = subst (λ last. ComesAfter last mark) marks placed
placed_same history one other marks hellos (Progress number mark body) placed = subst (λ last. ComesAfter last mark) marks placed
placed_same history one other marks hellos (Final number mark body) placed = subst (λ last. ComesAfter last mark) marks placed
placed_same history one other marks hellos (Unknown number mark) placed = subst (λ last. ComesAfter last mark) marks placed
placed_same history one other marks hellos x placed = tt

pub each_placed : (history : List Input) (log : List LogLine) → Each (IsPlaced history) (filter tells log) → Each (IsPlaced history) log
each_placed history log all before after x split = by_flag (tells x) refl
  where
    by_flag : (t : Bool) → tells x ≡ t → IsPlaced history before x
    by_flag false silent = silent_placed history before x silent
    by_flag true telling =
        let here : filter tells (x ∷ after) ≡ x ∷ filter tells after = ap (λ t. cond t (x ∷ filter tells after) (filter tells after)) telling in
        let parts : filter tells log ≡ filter tells before ++ x ∷ filter tells after =
        ap (filter tells) split ∙ filter-append tells before (x ∷ after) ∙ ap (λ l. filter tells before ++ l) here in
        placed_same history (filter tells before) before (last_mark_told before) (any_hello_told before) x
        (all (filter tells before) (filter tells after) x parts)
