-- A log's lines, one by one, and the commands that they answer.
use Rattle.std.proofs.Common.{◌≡◌, ℕ, zero, suc, ◌+◌, ◌<◌, ◌==◌, ◌||◌, ◌&&◌, not, Bool, true, false, List, [], ◌∷◌, ◌++◌, length, refl, sym, ◌∙◌, ap, ap₂, subst, append_assoc, append-nil, arith, length-append, inl, inr, ◌⊎◌}
use Rattle.std.specs.Prelude.{◌↔◌, Option, Some, None, is_some}
use Rattle.std.specs.List.{Contains, last_or, list_any, range_with_len}
use Rattle.std.proofs.lemmas.Bool.{cases_Bool, eq-eqb, eqb-true, false≢true, or_cases}
use Rattle.std.proofs.lemmas.List.{length-map, map-append}
use Rattle.std.proofs.lemmas.List.Concat.{flat_map-append}
use Rattle.std.proofs.lemmas.List.Elements.{Contains-append_right}
use Rattle.std.proofs.lemmas.List.Folds.{list_any-append}
use Rattle.list_laws.proofs.Contained.{contains_cases, contains_first, none_in}
use Rattle.list_laws.proofs.Flags.{not_false, or_or_false}
use Rattle.list_laws.proofs.Lists.{last_push}
use Rattle.tcf_text.specs.Each.{Each}
use Rattle.tcf_text.specs.Lines.{accepted, accepted_by, final_of, finals}
use Rattle.tcf_text.specs.Once.{AllAnswered, AnswersPending, AreCounted, ClosesBeforeEnd, EndsAll, GoesOnFrom, IsNoClosed, IsPending, NothingAfterEnd, Once, is_end, numbers}
use Rattle.tcf_text.specs.declared.log.LogLine.{LogLine}
use Rattle.tcf_text.specs.declared.log.LogLine.TheVariants.{Sent, Refused, Hello, Event, Progress, Final, Unknown, Closed, Ended, Cached}
use Rattle.log_check.specs.Asked.{CanFollow, CanStand, IsAskedFor, IsNoted, IsUnasked, answers, closed_by, is_asked, sends}
use Rattle.log_check.specs.declared.once.Asked.{Asked}
use Rattle.log_check.proofs.Eaches.{each_nothing, each_push}

-- ---- numbers in a list, and whether it has one

abbrev has : List ℕ → ℕ → Bool
has xs q = list_any (λ n. n == q) xs

has_there : (xs : List ℕ) (q : ℕ) → has xs q ≡ true → Contains xs q
has_there [] q is = absurd (false≢true is)
has_there (x ∷ xs) q is =
    elim (or_cases (x == q) (has xs q) is) [
      | inl here ↦ subst (Contains (x ∷ xs)) (eqb-true x q here) (contains_first x xs)
      | inr later ↦ Contains-append_right (x ∷ []) xs q (has_there xs q later)
    ]

there_has : (xs : List ℕ) (q : ℕ) → Contains xs q → has xs q ≡ true
there_has [] q there = absurd (none_in q there)
there_has (x ∷ xs) q there =
    elim (contains_cases x xs q there) [
      | inl here ↦ ap (λ b. b || has xs q) (eq-eqb x q here)
      | inr later ↦ ap (λ b. (x == q) || b) (there_has xs q later) ∙ or_true (x == q)
    ]
  where
    or_true : (b : Bool) → (b || true) ≡ true
    or_true true = refl
    or_true false = refl

-- ---- numbers from 1 on

range_next : (from : ℕ) (xs ys : List ℕ) (x : ℕ) → xs ++ x ∷ ys ≡ range_with_len from (length (xs ++ x ∷ ys)) → x ≡ from + length xs
range_next from [] ys x is = let first : x ≡ from = cc in omega (arith, first)
range_next from (y ∷ xs) ys x is =
    let others : xs ++ x ∷ ys ≡ range_with_len (from + 1) (length (xs ++ x ∷ ys)) = cc in
    omega (arith, range_next (from + 1) xs ys x others)

range_push : (from : ℕ) (xs : List ℕ) (x : ℕ) → xs ≡ range_with_len from (length xs) → x ≡ from + length xs → xs ++ x ∷ [] ≡ range_with_len from (length (xs ++ x ∷ []))
range_push from [] x is next = let first : x ≡ from = omega (arith, next) in ap (λ n. n ∷ []) first
range_push from (y ∷ xs) x is next =
    let here : y ≡ from = cc in
    let others : xs ≡ range_with_len (from + 1) (length xs) = cc in
    let later : x ≡ from + 1 + length xs = omega (arith, next) in
    ap₂ (λ n l. n ∷ l) here (range_push (from + 1) xs x others later)

range_most : (from count q : ℕ) → has (range_with_len from count) q ≡ true → q < from + count
range_most from zero q is = absurd (false≢true is)
range_most from (suc count) q is =
    elim (or_cases (from == q) (has (range_with_len (from + 1) count) q) is) [
      | inl here ↦ let same = eqb-true from q here in omega (arith, same)
      | inr later ↦ let below = range_most (from + 1) count q later in omega (arith, below)
    ]

-- ---- what lines said of the commands

abbrev was_sent : List LogLine → ℕ → Bool
was_sent before q = has (numbers (accepted before)) q

abbrev was_answered : List LogLine → ℕ → Bool
was_answered before q = has (finals before) q

abbrev closed_last : Option LogLine → Option ℕ
closed_last None = None
closed_last (Some line) = closed_by line

pub record OnceSo (before : List LogLine) (asked : Asked) : Type 0 where
  pub sent : asked.sent ≡ length (accepted before)
  pub pending : (q : ℕ) → is_asked asked q ≡ (was_sent before q && not (was_answered before q))
  pub within : (q : ℕ) → was_answered before q ≡ true → was_sent before q ≡ true
  pub ended : asked.ended ≡ list_any is_end before
  pub closed : asked.closed ≡ closed_last (last_or None before)
  pub counted : AreCounted (accepted before)
  pub answers : Each AnswersPending before
  pub all_at_end : Each EndsAll before
  pub nothing_after : Each NothingAfterEnd before
  pub closed_in_order : Each ClosesBeforeEnd before

-- a command has the number behind those that were sent
abbrev IsNext : List LogLine → LogLine → Type 0
IsNext before (Sent number service name body) = number ≡ length (accepted before) + 1
IsNext before line = Unit {0}

-- what the line must meet
record Stands (before : List LogLine) (line : LogLine) : Type 0 where
  pub next : IsNext before line
  pub answers : AnswersPending before line
  pub all_at_end : EndsAll before line
  pub nothing_after : NothingAfterEnd before line
  pub closed_in_order : ClosesBeforeEnd before line

-- ---- one line more

accepted_more : (before : List LogLine) (line : LogLine) → accepted (before ++ line ∷ []) ≡ accepted before ++ accepted_by line
accepted_more before line = flat_map-append accepted_by before (line ∷ []) ∙ ap (λ l. accepted before ++ l) (append-nil (accepted_by line))

finals_more : (before : List LogLine) (line : LogLine) → finals (before ++ line ∷ []) ≡ finals before ++ final_of line
finals_more before line = flat_map-append final_of before (line ∷ []) ∙ ap (λ l. finals before ++ l) (append-nil (final_of line))

sent_more : (before : List LogLine) (line : LogLine) (q : ℕ) → was_sent (before ++ line ∷ []) q ≡ (was_sent before q || sends line q)
sent_more before line q =
    ap (λ l. has (numbers l) q) (accepted_more before line)
    ∙ (ap (λ l. has l q) (map-append (λ c. c.number) (accepted before) (accepted_by line)) ∙ list_any-append (λ n. n == q) (numbers (accepted before)) (numbers (accepted_by line)))

answered_more : (before : List LogLine) (line : LogLine) (q : ℕ) → was_answered (before ++ line ∷ []) q ≡ (was_answered before q || answers line q)
answered_more before line q = ap (λ l. has l q) (finals_more before line) ∙ list_any-append (λ n. n == q) (finals before) (final_of line)

-- the numbers are as many as the commands
counted_numbers : (before : List LogLine) → AreCounted (accepted before) → numbers (accepted before) ≡ range_with_len 1 (length (numbers (accepted before)))
counted_numbers before counted = counted ∙ ap (range_with_len 1) (sym (length-map (accepted before) (λ c. c.number)))

sent_below : (before : List LogLine) (q : ℕ) → AreCounted (accepted before) → was_sent before q ≡ true → q < 1 + length (accepted before)
sent_below before q counted is = range_most 1 (length (accepted before)) q (sym (ap (λ l. has l q) counted) ∙ is)

counted_push : (before : List LogLine) (line : LogLine) → AreCounted (accepted before) → IsNext before line → AreCounted (accepted before ++ accepted_by line)
counted_push before (Sent number service name body) counted next =
    let ns : List ℕ = numbers (accepted before) in
    let split : numbers (accepted before ++ accepted_by (Sent number service name body)) ≡ ns ++ number ∷ [] = map-append (λ c. c.number) (accepted before) (accepted_by (Sent number service name body)) in
    let is_next : number ≡ 1 + length ns = omega (arith, next, length-map (accepted before) (λ c. c.number)) in
    split
    ∙ (range_push 1 ns number (counted_numbers before counted) is_next
    ∙ ap (range_with_len 1) (sym (ap length split) ∙ length-map (accepted before ++ accepted_by (Sent number service name body)) (λ c. c.number)))
counted_push before (Refused why) counted next = subst AreCounted (sym (append-nil (accepted before))) counted
counted_push before (Hello mark body) counted next = subst AreCounted (sym (append-nil (accepted before))) counted
counted_push before (Event mark service name body) counted next = subst AreCounted (sym (append-nil (accepted before))) counted
counted_push before (Progress number mark body) counted next = subst AreCounted (sym (append-nil (accepted before))) counted
counted_push before (Final number mark body) counted next = subst AreCounted (sym (append-nil (accepted before))) counted
counted_push before (Unknown number mark) counted next = subst AreCounted (sym (append-nil (accepted before))) counted
counted_push before (Closed number) counted next = subst AreCounted (sym (append-nil (accepted before))) counted
counted_push before (Ended why) counted next = subst AreCounted (sym (append-nil (accepted before))) counted
counted_push before (Cached what value) counted next = subst AreCounted (sym (append-nil (accepted before))) counted

-- a command with the next number wasn't sent before
new_one : (before : List LogLine) (number q : ℕ) → AreCounted (accepted before) → number ≡ length (accepted before) + 1 → ((number == q) || false) ≡ true → was_sent before q ≡ false
new_one before number q counted next is =
    elim (cases_Bool (was_sent before q)) [
      | inl sent ↦
          let below = sent_below before q counted sent in
          let same : number ≡ q = eqb-true number q (one_of (number == q) is) in
          absurd (omega (arith, below, same, next))
      | inr isnt ↦ isnt
    ]
  where
    one_of : (b : Bool) → (b || false) ≡ true → b ≡ true
    one_of true e = refl
    one_of false e = e

sends_new : (before : List LogLine) (line : LogLine) (q : ℕ) → AreCounted (accepted before) → IsNext before line → sends line q ≡ true → was_sent before q ≡ false
sends_new before (Sent number service name body) q counted next is = new_one before number q counted next is
sends_new before (Refused why) q counted next is = absurd (false≢true is)
sends_new before (Hello mark body) q counted next is = absurd (false≢true is)
sends_new before (Event mark service name body) q counted next is = absurd (false≢true is)
sends_new before (Progress number mark body) q counted next is = absurd (false≢true is)
sends_new before (Final number mark body) q counted next is = absurd (false≢true is)
sends_new before (Unknown number mark) q counted next is = absurd (false≢true is)
sends_new before (Closed number) q counted next is = absurd (false≢true is)
sends_new before (Ended why) q counted next is = absurd (false≢true is)
sends_new before (Cached what value) q counted next is = absurd (false≢true is)

-- what is answered was sent
one_sent : (before : List LogLine) (number q : ℕ) → IsPending before number → ((number == q) || false) ≡ true → was_sent before q ≡ true
one_sent before number q pending is =
    elim (or_cases (number == q) false is) [
      | inl here ↦ subst (λ n. was_sent before n ≡ true) (eqb-true number q here) (there_has (numbers (accepted before)) number pending.accepted)
      | inr later ↦ absurd (false≢true later)
    ]

answered_sent : (before : List LogLine) (line : LogLine) (q : ℕ) → AnswersPending before line → answers line q ≡ true → was_sent before q ≡ true
answered_sent before (Sent number service name body) q pending is = absurd (false≢true is)
answered_sent before (Refused why) q pending is = absurd (false≢true is)
answered_sent before (Hello mark body) q pending is = absurd (false≢true is)
answered_sent before (Event mark service name body) q pending is = absurd (false≢true is)
answered_sent before (Progress number mark body) q pending is = absurd (false≢true is)
answered_sent before (Final number mark body) q pending is = one_sent before number q pending is
answered_sent before (Unknown number mark) q pending is = one_sent before number q pending is
answered_sent before (Closed number) q pending is = one_sent before number q pending is
answered_sent before (Ended why) q pending is = absurd (false≢true is)
answered_sent before (Cached what value) q pending is = absurd (false≢true is)

-- ---- what is pending

pending_flags : (s a p n : Bool) → (a ≡ true → s ≡ true) → (p ≡ true → s ≡ false) → (((s && not a) || p) && not n) ≡ ((s || p) && not (a || n))
pending_flags true true true n within new = absurd (false≢true (sym (new refl)))
pending_flags true true false n within new = refl
pending_flags true false p n within new = refl
pending_flags false true p n within new = absurd (false≢true (within refl))
pending_flags false false p n within new = refl

pending_is : (before : List LogLine) (asked : Asked) (q : ℕ) → OnceSo before asked → is_asked asked q ≡ true → IsPending before q
pending_is before asked q so is = by_flags (was_sent before q) (was_answered before q) refl refl (sym (so.pending q) ∙ is)
  where
    by_flags : (s a : Bool) → was_sent before q ≡ s → was_answered before q ≡ a → (s && not a) ≡ true → IsPending before q
    by_flags true false s_is a_is both =
        record { accepted = has_there (numbers (accepted before)) q s_is; open_yet = λ there. false≢true (sym a_is ∙ there_has (finals before) q there) }
    by_flags true true s_is a_is both = absurd (false≢true both)
    by_flags false a s_is a_is both = absurd (false≢true both)

is_pending : (before : List LogLine) (asked : Asked) (q : ℕ) → OnceSo before asked → IsPending before q → is_asked asked q ≡ true
is_pending before asked q so pending =
    so.pending q ∙ (ap (λ s. s && not (was_answered before q)) (there_has (numbers (accepted before)) q pending.accepted) ∙ open_flag (was_answered before q) refl)
  where
    open_flag : (a : Bool) → was_answered before q ≡ a → not a ≡ true
    open_flag true is = absurd (pending.open_yet (has_there (finals before) q is))
    open_flag false is = refl

all_answered : (before : List LogLine) (asked : Asked) → OnceSo before asked → ((q : ℕ) → is_asked asked q ≡ false) → AllAnswered before
all_answered before asked so none q sent =
    has_there (finals before) q (by_flag (was_answered before q) (sym (ap (λ s. s && not (was_answered before q)) (there_has (numbers (accepted before)) q sent)) ∙ (sym (so.pending q) ∙ none q)))
  where
    by_flag : (a : Bool) → not a ≡ false → a ≡ true
    by_flag true is = refl
    by_flag false is = sym is

none_asked : (before : List LogLine) (asked : Asked) → OnceSo before asked → AllAnswered before → (q : ℕ) → is_asked asked q ≡ false
none_asked before asked so all q = so.pending q ∙ by_flag (was_sent before q) refl
  where
    by_flag : (s : Bool) → was_sent before q ≡ s → (s && not (was_answered before q)) ≡ false
    by_flag true is = ap not (there_has (finals before) q (all q (has_there (numbers (accepted before)) q is)))
    by_flag false is = refl

-- ---- whether a line can stand

no_flag : {A : Type 0} → (A → ⊥) → (false ≡ true) ↔ A
no_flag not = ((λ is. absurd (false≢true is)), (λ a. absurd (not a)))

asked_for : (before : List LogLine) (asked : Asked) (line : LogLine) → OnceSo before asked → IsAskedFor asked line ↔ (IsNext before line × (AnswersPending before line × EndsAll before line))
asked_for before asked (Sent number service name body) so = ((λ p. (p ∙ ap (λ n. n + 1) so.sent, (tt, tt))), (λ p. p.0 ∙ sym (ap (λ n. n + 1) so.sent)))
asked_for before asked (Refused why) so = ((λ p. (tt, (tt, tt))), (λ p. tt))
asked_for before asked (Hello mark body) so = ((λ p. (tt, (tt, tt))), (λ p. tt))
asked_for before asked (Event mark service name body) so = ((λ p. (tt, (tt, tt))), (λ p. tt))
asked_for before asked (Progress number mark body) so = ((λ p. (tt, (pending_is before asked number so p, tt))), (λ p. is_pending before asked number so p.1.0))
asked_for before asked (Final number mark body) so = ((λ p. (tt, (pending_is before asked number so p, tt))), (λ p. is_pending before asked number so p.1.0))
asked_for before asked (Unknown number mark) so = ((λ p. (tt, (pending_is before asked number so p, tt))), (λ p. is_pending before asked number so p.1.0))
asked_for before asked (Closed number) so = ((λ p. (tt, (pending_is before asked number so p, tt))), (λ p. is_pending before asked number so p.1.0))
asked_for before asked (Ended why) so = ((λ p. (tt, (tt, all_answered before asked so p))), (λ p. none_asked before asked so p.1.1))
asked_for before asked (Cached what value) so = ((λ p. (tt, (tt, tt))), (λ p. tt))

behind_closed : (number : ℕ) (line : LogLine) → CanFollow (Some number) line ↔ GoesOnFrom (Some (Closed number)) line
behind_closed number (Sent n service name body) = ((λ p. p), (λ p. p))
behind_closed number (Refused why) = ((λ p. p), (λ p. p))
behind_closed number (Hello mark body) = ((λ p. p), (λ p. p))
behind_closed number (Event mark service name body) = ((λ p. p), (λ p. p))
behind_closed number (Progress n mark body) = ((λ p. p), (λ p. p))
behind_closed number (Final n mark body) = ((λ p. p), (λ p. p))
behind_closed number (Unknown n mark) = ((λ p. p), (λ p. p))
behind_closed number (Closed next) = ((λ p. p), (λ p. p))
behind_closed number (Ended why) = ((λ p. p), (λ p. p))
behind_closed number (Cached what value) = ((λ p. p), (λ p. p))

follows_is : (last : Option LogLine) (line : LogLine) → CanFollow (closed_last last) line ↔ GoesOnFrom last line
follows_is None line = ((λ p. tt), (λ p. tt))
follows_is (Some (Sent n service name body)) line = ((λ p. tt), (λ p. tt))
follows_is (Some (Refused why)) line = ((λ p. tt), (λ p. tt))
follows_is (Some (Hello mark body)) line = ((λ p. tt), (λ p. tt))
follows_is (Some (Event mark service name body)) line = ((λ p. tt), (λ p. tt))
follows_is (Some (Progress n mark body)) line = ((λ p. tt), (λ p. tt))
follows_is (Some (Final n mark body)) line = ((λ p. tt), (λ p. tt))
follows_is (Some (Unknown n mark)) line = ((λ p. tt), (λ p. tt))
follows_is (Some (Closed number)) line = behind_closed number line
follows_is (Some (Ended why)) line = ((λ p. tt), (λ p. tt))
follows_is (Some (Cached what value)) line = ((λ p. tt), (λ p. tt))

stands : (before : List LogLine) (asked : Asked) (line : LogLine) → OnceSo before asked → CanStand asked line → Stands before line
stands before asked line so can =
    let parts = (asked_for before asked line so).0 can.asked_for in
    record {
      next = parts.0;
      answers = parts.1.0;
      all_at_end = parts.1.1;
      nothing_after = λ ended. can.after_end (so.ended ∙ ended);
      closed_in_order = (follows_is (last_or None before) line).0 (subst (λ c. CanFollow c line) so.closed can.follows);
    }

can : (before : List LogLine) (asked : Asked) (line : LogLine) → OnceSo before asked → Stands before line → CanStand asked line
can before asked line so s =
    record {
      after_end = λ ended. s.nothing_after (sym so.ended ∙ ended);
      follows = subst (λ c. CanFollow c line) (sym so.closed) ((follows_is (last_or None before) line).1 s.closed_in_order);
      asked_for = (asked_for before asked line so).1 (s.next, (s.answers, s.all_at_end));
    }

-- ---- the lines so far

once_more : (before : List LogLine) (asked new : Asked) (line : LogLine) → OnceSo before asked → Stands before line → IsNoted line asked new → OnceSo (before ++ line ∷ []) new
once_more before asked new line so s noted =
    record {
      sent = noted.counted.sent ∙ (ap (λ n. n + length (accepted_by line)) so.sent ∙ (sym (length-append (accepted before) (accepted_by line)) ∙ sym (ap length (accepted_more before line))));
      pending = λ q.
          noted.counted.pending q
          ∙ (ap (λ p. (p || sends line q) && not (answers line q)) (so.pending q)
          ∙ (pending_flags (was_sent before q) (was_answered before q) (sends line q) (answers line q) (so.within q) (sends_new before line q so.counted s.next)
          ∙ sym (ap₂ (λ x y. x && not y) (sent_more before line q) (answered_more before line q))));
      within = λ q is. sent_more before line q ∙ within_by q (or_cases (was_answered before q) (answers line q) (sym (answered_more before line q) ∙ is));
      ended = noted.ended ∙ (ap (λ b. b || is_end line) so.ended ∙ sym (list_any-append is_end before (line ∷ []) ∙ or_or_false (list_any is_end before) (is_end line)));
      closed = noted.closed ∙ sym (ap closed_last (last_push None before line));
      counted = subst AreCounted (sym (accepted_more before line)) (counted_push before line so.counted s.next);
      answers = each_push AnswersPending before line so.answers s.answers;
      all_at_end = each_push EndsAll before line so.all_at_end s.all_at_end;
      nothing_after = each_push NothingAfterEnd before line so.nothing_after s.nothing_after;
      closed_in_order = each_push ClosesBeforeEnd before line so.closed_in_order s.closed_in_order;
    }
  where
    within_by : (q : ℕ) → (was_answered before q ≡ true) ⊎ (answers line q ≡ true) → (was_sent before q || sends line q) ≡ true
    within_by q (inl earlier) = ap (λ b. b || sends line q) (so.within q earlier)
    within_by q (inr now) = ap (λ b. b || sends line q) (answered_sent before line q s.answers now)

-- so many lines were noted
pub record OnceBefore (lines left : List LogLine) (asked : Asked) : Type 0 where
  pub before : List LogLine
  pub whole : lines ≡ before ++ left
  pub so : OnceSo before asked

pub once_first : (lines : List LogLine) (asked : Asked) → IsUnasked asked → OnceBefore lines lines asked
once_first lines asked unasked =
    record {
      before = [];
      whole = refl;
      so = record {
        sent = unasked.sent;
        pending = unasked.pending;
        within = λ q is. is;
        ended = unasked.ended;
        closed = unasked.closed;
        counted = refl;
        answers = each_nothing AnswersPending;
        all_at_end = each_nothing EndsAll;
        nothing_after = each_nothing NothingAfterEnd;
        closed_in_order = each_nothing ClosesBeforeEnd;
      };
    }

pub once_next : (lines left after : List LogLine) (asked new : Asked) (line : LogLine) (flag : Bool) → OnceBefore lines left asked → left ≡ line ∷ after → flag ≡ true → (flag ≡ true) ↔ CanStand asked line
    → (flag ≡ true → IsNoted line asked new) → OnceBefore lines after new
once_next lines left after asked new line flag b is flag_is can_is noted =
    record {
      before = b.before ++ line ∷ [];
      whole = b.whole ∙ (ap (λ l. b.before ++ l) is ∙ sym (append_assoc b.before (line ∷ []) after));
      so = once_more b.before asked new line b.so (stands b.before asked line b.so (can_is.0 flag_is)) (noted flag_is);
    }

-- in a log that answers each command once each line stands
next_in : (before after : List LogLine) (line : LogLine) (log : List LogLine) → AreCounted (accepted log) → log ≡ before ++ line ∷ after → IsNext before line
next_in before after (Sent number service name body) log counted is =
    let split : numbers (accepted log) ≡ numbers (accepted before) ++ number ∷ numbers (accepted after) =
    ap (λ l. numbers (accepted l)) is
    ∙ (ap numbers (flat_map-append accepted_by before (Sent number service name body ∷ after)) ∙ map-append (λ c. c.number) (accepted before) (accepted (Sent number service name body ∷ after))) in
    let whole : numbers (accepted before) ++ number ∷ numbers (accepted after) ≡ range_with_len 1 (length (numbers (accepted before) ++ number ∷ numbers (accepted after))) =
    sym split ∙ (counted_numbers log counted ∙ ap (λ l. range_with_len 1 (length l)) split) in
    omega (arith, range_next 1 (numbers (accepted before)) (numbers (accepted after)) number whole, length-map (accepted before) (λ c. c.number))
next_in before after (Refused why) log counted is = tt
next_in before after (Hello mark body) log counted is = tt
next_in before after (Event mark service name body) log counted is = tt
next_in before after (Progress number mark body) log counted is = tt
next_in before after (Final number mark body) log counted is = tt
next_in before after (Unknown number mark) log counted is = tt
next_in before after (Closed number) log counted is = tt
next_in before after (Ended why) log counted is = tt
next_in before after (Cached what value) log counted is = tt

stands_in : (log before after : List LogLine) (line : LogLine) → Once false log → log ≡ before ++ line ∷ after → Stands before line
stands_in log before after line once is =
    record {
      next = next_in before after line log once.counted is;
      answers = once.answers before after line is;
      all_at_end = once.all_at_end before after line is;
      nothing_after = once.nothing_after before after line is;
      closed_in_order = once.closed_in_order before after line is;
    }

-- a line that can't stand
pub once_not : (lines left after : List LogLine) (asked : Asked) (line : LogLine) (flag : Bool) → OnceBefore lines left asked → left ≡ line ∷ after → flag ≡ false → (flag ≡ true) ↔ CanStand asked line
    → (false ≡ true) ↔ Once false lines
once_not lines left after asked line flag b is isnt can_is =
    no_flag (λ once. false≢true (sym isnt ∙ can_is.1 (can b.before asked line b.so (stands_in lines b.before after line once (b.whole ∙ ap (λ l. b.before ++ l) is)))))

closed_flag : (last : Option LogLine) (flag : Bool) → is_some (closed_last last) ≡ not flag → (flag ≡ true) ↔ IsNoClosed last
closed_flag None flag is = ((λ e. tt), (λ e. not_false flag (sym is)))
closed_flag (Some (Sent n service name body)) flag is = ((λ e. tt), (λ e. not_false flag (sym is)))
closed_flag (Some (Refused why)) flag is = ((λ e. tt), (λ e. not_false flag (sym is)))
closed_flag (Some (Hello mark body)) flag is = ((λ e. tt), (λ e. not_false flag (sym is)))
closed_flag (Some (Event mark service name body)) flag is = ((λ e. tt), (λ e. not_false flag (sym is)))
closed_flag (Some (Progress n mark body)) flag is = ((λ e. tt), (λ e. not_false flag (sym is)))
closed_flag (Some (Final n mark body)) flag is = ((λ e. tt), (λ e. not_false flag (sym is)))
closed_flag (Some (Unknown n mark)) flag is = ((λ e. tt), (λ e. not_false flag (sym is)))
closed_flag (Some (Closed number)) flag is = ((λ e. false≢true (sym (ap not e) ∙ sym is)), (λ none. absurd none))
closed_flag (Some (Ended why)) flag is = ((λ e. tt), (λ e. not_false flag (sym is)))
closed_flag (Some (Cached what value)) flag is = ((λ e. tt), (λ e. not_false flag (sym is)))

pub once_last : (lines left : List LogLine) (asked : Asked) (flag : Bool) → OnceBefore lines left asked → left ≡ [] → is_some asked.closed ≡ not flag → (flag ≡ true) ↔ Once false lines
once_last lines left asked flag b is none =
    let all : lines ≡ b.before = b.whole ∙ (ap (λ l. b.before ++ l) is ∙ append-nil b.before) in
    let last = closed_flag (last_or None b.before) flag (sym (ap is_some b.so.closed) ∙ none) in
    ((λ flag_is. subst (Once false) (sym all) (whole_once b.before b.so (last.0 flag_is))), (λ (once : Once false lines). last.1 (subst (λ l. IsNoClosed (last_or None l)) all once.closed_then_end)))
  where
    whole_once : (before : List LogLine) → OnceSo before asked → IsNoClosed (last_or None before) → Once false before
    whole_once before so no_closed =
        record {
          counted = so.counted;
          answers = so.answers;
          all_at_end = so.all_at_end;
          nothing_after = so.nothing_after;
          closed_in_order = so.closed_in_order;
          closed_then_end = no_closed;
          all_when_quiet = λ quiet. absurd (false≢true quiet);
        }
