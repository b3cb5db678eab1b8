-- The first bad line of a file.
use Rattle.std.proofs.Common.{◌≡◌, ◌≢◌, ℕ, ◌+◌, ◌==◌, Bool, true, false, cond, List, [], ◌∷◌, ◌++◌, length, take, drop, refl, sym, ◌∙◌, ap, arith, inl, inr, ◌⊎◌, subst, append_assoc}
use Rattle.std.specs.Prelude.{Option, Some, None, Result, Ok, Err, IsOk, nat_le, nat_lt}
use Rattle.std.specs.List.{AllByRecursion, onto_first}
use Rattle.std.proofs.lemmas.Bool.Decides.{eqb_tells}
use Rattle.std.proofs.lemmas.Bool.{cond-true, cond-false, cases_Bool, false≢true, leb-false, lt-leb, ltb-false, le-ltb}
use Rattle.std.proofs.lemmas.List.{take_at, take-append-drop, length-append}
use Rattle.tcf_values.specs.Cut.{Lacks}
use Rattle.tcf_schedules.specs.declared.schedule.TextFault.{TextFault}
use Rattle.tcf_schedules.specs.declared.schedule.TextFault.TheVariants.{Form, Late, Repeat, Unknown, Many}
use Rattle.tcf_schedules.specs.Refusal.{BadLine}
use Rattle.tcf_schedules.specs.Plan.{Plan, step_size, step_count}
use Rattle.tcf_schedules.specs.Line.{LineHead, image, chain, LineStep, LineValue, head, step, Says}
use Rattle.tcf_schedules.specs.Reading.{value_of}
use Rattle.tcf_schedules.specs.Schedule.{lines_of, is_skipped, ScheduleValue, nothing, has_step, is_image, is_chain, plan_in, with_plan, after_head, after_value, after_said, after_line, at_line, going_on, after_lines, schedule_of, is_repeat, IsReason, IsFirstBad, WantsMemory, kept_lines, RefusesTheFirst}
use Rattle.tcf_schedules.proofs.Lines.{lines_cut}
use Rattle.tcf_schedules.proofs.Schedules.{goes_on, kept_more, kept_skipping, one_line, reads_what_is_said, skipping, taking}
use Rattle.list_laws.proofs.Lists.{nil_cons}
use Rattle.tcf_schedules.proofs.Values.{reads_the_text}

-- ---- A file of some lines

-- some lines, each with its end
pub file_of : List (List ℕ) → List ℕ
file_of [] = []
file_of (line ∷ lines) = line ++ 10 ∷ file_of lines

-- no line has the byte that ends it
abbrev AreLines : List (List ℕ) → Type 0
AreLines lines = AllByRecursion (Lacks 10) lines

onto_lines : (byte : ℕ) (lines : List (List ℕ)) → byte ≢ 10 → AreLines lines → AreLines (onto_first byte lines)
onto_lines byte [] differs are = ((differs, tt), tt)
onto_lines byte (line ∷ lines) differs are = ((differs, are.0), are.1)

lines_are : (file : List ℕ) → AreLines (lines_of file)
lines_are [] = tt
lines_are (byte ∷ bytes) =
    elim (eqb_tells byte 10) [
      | inl w ↦ subst AreLines (sym (cond-true (byte == 10) _ _ w.0)) (tt, lines_are bytes)
      | inr w ↦ subst AreLines (sym (cond-false (byte == 10) _ _ w.0)) (onto_lines byte (lines_of bytes) w.1 (lines_are bytes))
    ]

lines_of_file : (lines : List (List ℕ)) → AreLines lines → lines_of (file_of lines) ≡ lines
unfolding file_of
lines_of_file [] are = refl
lines_of_file (line ∷ lines) are = lines_cut (line ++ 10 ∷ file_of lines) line (file_of lines) (are.0, refl) ∙ ap (λ ls. line ∷ ls) (lines_of_file lines are.1)

front_are : (front lines : List (List ℕ)) → AreLines (front ++ lines) → AreLines front
front_are [] lines are = tt
front_are (line ∷ front) lines are = (are.0, front_are front lines are.1)

-- ---- Where the lines stop

abbrev pub bad_at : ℕ → TextFault → BadLine
bad_at number what = record { line = number; what = what }

ok_err : (s : ScheduleValue) (bad : BadLine) → ◌≡◌ {A = Result ScheduleValue BadLine} (Ok s) (Err bad) → ⊥
ok_err s bad e = cc

-- a line stops the reading, or it goes on
at_one : (f : ScheduleValue → Result ScheduleValue BadLine) (r : Result ScheduleValue TextFault) (number place : ℕ) (what : TextFault)
    → going_on f (at_line number r) ≡ Err (bad_at place what)
    → ((r ≡ Err what) × (place ≡ number)) ⊎ ((next : ScheduleValue) × (r ≡ Ok next) × (f next ≡ Err (bad_at place what)))
at_one f (Err why) number place what e =
    let same : bad_at number why ≡ bad_at place what = cc in
    inl (ap (λ (b : BadLine). Err b.what) same, sym (ap (λ (b : BadLine). b.line) same))
at_one f (Ok next) number place what e = inr (next, refl, e)

-- where the lines stop: those before the bad one, what they give, and the bad one
record Stops (number : ℕ) (s : ScheduleValue) (lines : List (List ℕ)) (place : ℕ) (what : TextFault) : Type 0 where
  front : List (List ℕ)
  line : List ℕ
  rest : List (List ℕ)
  given : ScheduleValue
  parts : lines ≡ front ++ line ∷ rest
  at : place ≡ number + length front
  gives : after_lines number s front ≡ Ok given
  refuses : after_line given line ≡ Err what

stops : (number : ℕ) (s : ScheduleValue) (lines : List (List ℕ)) (place : ℕ) (what : TextFault)
    → after_lines number s lines ≡ Err (bad_at place what) → Stops number s lines place what
stops number s [] place what e = absurd (ok_err s (bad_at place what) e)
stops number s (line ∷ lines) place what e =
    elim (at_one (λ next. after_lines (number + 1) next lines) (after_line s line) number place what e) [
      | inl here ↦ let is = here.1 in record { front = []; line = line; rest = lines; given = s; parts = refl; at = omega arith; gives = refl; refuses = here.0 }
      | inr later ↦
          let r = stops (number + 1) later.0 lines place what later.2 in
          let is = r.at in
          record {
            front = line ∷ r.front;
            line = r.line;
            rest = r.rest;
            given = r.given;
            parts = ap (λ ls. line ∷ ls) r.parts;
            at = omega arith;
            gives = one_line number s later.0 line r.front later.1 ∙ r.gives;
            refuses = r.refuses;
          }
    ]

-- lines behind lines that give a schedule
goes_behind : (number : ℕ) (s given : ScheduleValue) (front lines : List (List ℕ)) → after_lines number s front ≡ Ok given
    → after_lines number s (front ++ lines) ≡ after_lines (number + length front) given lines
goes_behind number s given [] lines e =
    let same : s ≡ given = cc in let none : number ≡ number + 0 = omega arith in
    ap (λ t. after_lines number t lines) same ∙ ap (λ n. after_lines n given lines) none
goes_behind number s given (line ∷ front) lines e =
    let m = goes_on (λ next. after_lines (number + 1) next front) (after_line s line) number given e in
    let place : number + 1 + length front ≡ number + length (line ∷ front) = omega arith in
    one_line number s m.0 line (front ++ lines) m.1
    ∙ (goes_behind (number + 1) m.0 given front lines m.2 ∙ ap (λ n. after_lines n given lines) place)

-- a line that is refused stops them
stopped : (number : ℕ) (s : ScheduleValue) (line : List ℕ) (lines : List (List ℕ)) (what : TextFault) → after_line s line ≡ Err what
    → after_lines number s (line ∷ lines) ≡ Err (bad_at number what)
stopped number s line lines what e = ap (λ r. going_on (λ n. after_lines (number + 1) n lines) (at_line number r)) e

-- ---- Why a line is refused

fault_of_ok : (s : ScheduleValue) (what : TextFault) → ◌≡◌ {A = Result ScheduleValue TextFault} (Ok s) (Err what) → ⊥
fault_of_ok s what e = cc

same_fault : (a b : TextFault) → ◌≡◌ {A = Result ScheduleValue TextFault} (Err a) (Err b) → a ≡ b
same_fault a b e = cc

-- a test that fails, or what follows it
by_test : (b : Bool) (r : Result ScheduleValue TextFault) (why what : TextFault) → cond b r (Err why) ≡ Err what
    → ((b ≡ true) × (r ≡ Err what)) ⊎ ((b ≡ false) × (why ≡ what))
by_test true r why what e = inl (refl, e)
by_test false r why what e = inr (refl, same_fault why what e)

by_test_off : (b : Bool) (r : Result ScheduleValue TextFault) (why what : TextFault) → cond b (Err why) r ≡ Err what
    → ((b ≡ true) × (why ≡ what)) ⊎ ((b ≡ false) × (r ≡ Err what))
by_test_off true r why what e = inl (refl, same_fault why what e)
by_test_off false r why what e = inr (refl, e)

kept_of : (s : ScheduleValue) (line : List ℕ) (what : TextFault) → after_line s line ≡ Err what → is_skipped line ≡ false
kept_of s line what e =
    elim (cases_Bool (is_skipped line)) [
      | inl skipped ↦ absurd (fault_of_ok s what (sym (skipping s line skipped) ∙ e))
      | inr kept ↦ kept
    ]

head_reason : (s : ScheduleValue) (line : List ℕ) (h : LineHead) (what : TextFault) → Says line (head h) → after_head s h ≡ Err what → IsReason s line what
head_reason s line (image name digits) what says e =
    elim (by_test_off (has_step s) _ Late what e) [
      | inl w ↦ subst (IsReason s line) w.1 (image name digits, says, w.0)
      | inr w ↦ elim (by_test_off (is_image name s) _ Repeat what w.1) [
        | inl v ↦ subst (IsReason s line) v.1 (image name digits, (says, w.0), v.0)
        | inr v ↦ absurd (fault_of_ok _ what v.1)
      ]
    ]
head_reason s line (chain name adds) what says e =
    elim (by_test_off (has_step s) _ Late what e) [
      | inl w ↦ subst (IsReason s line) w.1 (chain name adds, says, w.0)
      | inr w ↦ elim (by_test_off (is_chain name s) _ Repeat what w.1) [
        | inl v ↦ subst (IsReason s line) v.1 (chain name adds, (says, w.0), v.0)
        | inr v ↦ elim (by_test (nat_lt (length s.chains) 64) _ Many what v.1) [
          | inl u ↦ absurd (fault_of_ok _ what u.1)
          | inr u ↦ subst (IsReason s line) u.1 (inl (name, adds, (says, w.0), v.0, ltb-false (length s.chains) 64 u.0))
        ]
      ]
    ]

plan_reason : (s : ScheduleValue) (line : List ℕ) (x : LineStep) (what : TextFault) → Says line (step x) → (o : Option Plan) → plan_in s.chains x ≡ o → with_plan o s ≡ Err what
    → IsReason s line what
plan_reason s line x what says None place e = subst (IsReason s line) (same_fault Unknown what e) (x, says, place)
plan_reason s line x what says (Some plan) place e =
    elim (by_test (nat_le (step_count s.plans + step_size plan) 1000000) _ Many what e) [
      | inl w ↦ absurd (fault_of_ok _ what w.1)
      | inr w ↦ subst (IsReason s line) w.1 (inr (x, plan, says, place, leb-false (step_count s.plans + step_size plan) 1000000 w.0))
    ]

value_reason : (s : ScheduleValue) (line : List ℕ) (value : LineValue) (what : TextFault) → Says line value → after_value s value ≡ Err what → IsReason s line what
value_reason s line (head h) what says e = head_reason s line h what says e
value_reason s line (step x) what says e = plan_reason s line x what says (plan_in s.chains x) refl e

none_some : (o : Option LineValue) (value : LineValue) → o ≡ None → o ≡ Some value → ⊥
none_some o value none some = cc

reason_of : (s : ScheduleValue) (line : List ℕ) (what : TextFault) → after_line s line ≡ Err what → IsReason s line what
reason_of s line what e = by_value (value_of line) refl (sym (cond-false (is_skipped line) _ _ (kept_of s line what e)) ∙ e)
  where
    by_value : (o : Option LineValue) → value_of line ≡ o → after_said s o ≡ Err what → IsReason s line what
    by_value None is refused = subst (IsReason s line) (same_fault Form what refused) (λ value says. none_some (value_of line) value is ((reads_the_text line value).1 says))
    by_value (Some value) is refused = value_reason s line value what ((reads_the_text line value).0 is) refused

says_nothing : (s : ScheduleValue) (line : List ℕ) → is_skipped line ≡ false → ((value : LineValue) → Says line value → ⊥) → after_line s line ≡ Err Form
says_nothing s line kept none = cond-false (is_skipped line) _ _ kept ∙ by_value (value_of line) refl
  where
    by_value : (o : Option LineValue) → value_of line ≡ o → after_said s o ≡ Err Form
    by_value None is = refl
    by_value (Some value) is = absurd (none value ((reads_the_text line value).0 is))

late : (s : ScheduleValue) (h : LineHead) → has_step s ≡ true → after_head s h ≡ Err Late
late s (image name digits) some = cond-true (has_step s) _ _ some
late s (chain name adds) some = cond-true (has_step s) _ _ some

repeats : (s : ScheduleValue) (h : LineHead) → has_step s ≡ false → is_repeat s h ≡ true → after_head s h ≡ Err Repeat
repeats s (image name digits) none same = cond-false (has_step s) _ _ none ∙ cond-true (is_image name s) _ _ same
repeats s (chain name adds) none same = cond-false (has_step s) _ _ none ∙ cond-true (is_chain name s) _ _ same

-- a line is refused for a reason that it has
refused : (s : ScheduleValue) (line : List ℕ) (what : TextFault) → is_skipped line ≡ false → IsReason s line what → after_line s line ≡ Err what
refused s line Form kept none = says_nothing s line kept none
refused s line Late kept r = taking s line (head r.0) r.1 ∙ late s r.0 r.2
refused s line Repeat kept r = taking s line (head r.0) r.1.0 ∙ repeats s r.0 r.1.1 r.2
refused s line Unknown kept r = taking s line (step r.0) r.1 ∙ ap (λ o. with_plan o s) r.2
refused s line Many kept (inl r) =
    taking s line (head (chain r.0 r.1)) r.2.0
    ∙ (cond-false (has_step s) _ _ r.2.1
    ∙ (cond-false (is_chain r.0 s) _ _ r.3 ∙ cond-false (nat_lt (length s.chains) 64) _ _ (le-ltb (length s.chains) 64 r.4)))
refused s line Many kept (inr r) =
    taking s line (step r.0) r.2
    ∙ (ap (λ o. with_plan o s) r.3
    ∙ cond-false (nat_le (step_count s.plans + step_size r.1) 1000000) _ _ (lt-leb (step_count s.plans + step_size r.1) 1000000 r.4))

-- ---- The first bad line

-- lines that begin with those up to the bad one give no schedule
front_refused : (lines : List (List ℕ)) (place : ℕ) (what : TextFault) → Stops 1 nothing lines place what → (other : List (List ℕ)) (s : ScheduleValue)
    → take place other ≡ take place lines → after_lines 1 nothing other ≡ Ok s → ⊥
front_refused lines place what r other s same e =
    let at : place ≡ 1 + length r.front = r.at in
    let size : length (r.front ++ r.line ∷ []) ≡ place = omega (arith, length-append r.front (r.line ∷ [])) in
    let front_is : take place lines ≡ r.front ++ r.line ∷ [] =
    ap (take place) (r.parts ∙ sym (append_assoc r.front (r.line ∷ []) r.rest)) ∙ take_at (r.front ++ r.line ∷ []) r.rest place size in
    let other_is : other ≡ r.front ++ r.line ∷ drop place other =
    sym (take-append-drop place other) ∙ (ap (λ t. t ++ drop place other) (same ∙ front_is) ∙ append_assoc r.front (r.line ∷ []) (drop place other)) in
    let stop : after_lines (1 + length r.front) r.given (r.line ∷ drop place other) ≡ Err (bad_at (1 + length r.front) what) =
    stopped (1 + length r.front) r.given r.line (drop place other) what r.refuses in
    ok_err s (bad_at (1 + length r.front) what)
    (sym e ∙ (ap (after_lines 1 nothing) other_is ∙ (goes_behind 1 nothing r.given r.front (r.line ∷ drop place other) r.gives ∙ stop)))

first_bad : (file : List ℕ) (number : ℕ) (what : TextFault) → schedule_of file ≡ Err (bad_at number what) → IsFirstBad file number what
first_bad file number what e =
    let r = stops 1 nothing (lines_of file) number what e in
    let at : number ≡ 1 + length r.front = r.at in
    let same : lines_of (file_of r.front) ≡ r.front = lines_of_file r.front (front_are r.front (r.line ∷ r.rest) (subst AreLines r.parts (lines_are file))) in
    let place : number ≡ length r.front + 1 = omega arith in
    record {
      front = file_of r.front;
      schedule = r.given;
      accepted = (reads_what_is_said (file_of r.front) r.given).0 (ap (after_lines 1 nothing) same ∙ r.gives);
      line = r.line;
      rest = r.rest;
      lines = r.parts ∙ ap (λ ls. ls ++ r.line ∷ r.rest) (sym same);
      place = place ∙ ap (λ ls. length ls + 1) (sym same);
      kept = kept_of r.given r.line what r.refuses;
      reason = reason_of r.given r.line what r.refuses;
      bad = λ other s front accepted. front_refused (lines_of file) number what r (lines_of other) s front ((reads_what_is_said other s).1 accepted);
    }

the_first : (file : List ℕ) (number : ℕ) (what : TextFault) → IsFirstBad file number what → schedule_of file ≡ Err (bad_at number what)
the_first file number what is =
    let place : 1 + length (lines_of is.front) ≡ number = let p = is.place in omega arith in
    ap (after_lines 1 nothing) is.lines
    ∙ (goes_behind 1 nothing is.schedule (lines_of is.front) (is.line ∷ is.rest) ((reads_what_is_said is.front is.schedule).1 is.accepted)
    ∙ (stopped (1 + length (lines_of is.front)) is.schedule is.line is.rest what (refused is.schedule is.line what is.kept is.reason)
    ∙ ap (λ n. Err (bad_at n what)) place))

pub refuses_the_first : RefusesTheFirst
refuses_the_first file number what = (first_bad file number what, the_first file number what)

-- ---- Want of memory

-- the file's lines up to a rest, and the schedule that they give
pub record Reached (file : List ℕ) (s : ScheduleValue) (rest : List ℕ) : Type 0 where
  pub front : List (List ℕ)
  pub lines : lines_of file ≡ front ++ lines_of rest
  pub gives : after_lines 1 nothing front ≡ Ok s

pub reached_first : (file : List ℕ) (s : ScheduleValue) → s ≡ nothing → Reached file s file
reached_first file s is = record { front = []; lines = refl; gives = ap Ok (sym is) }

-- one more line
pub read_next : (file : List ℕ) (number : ℕ) (s next : ScheduleValue) (rest line after : List ℕ) → schedule_of file ≡ after_lines (number + 1) s (lines_of rest)
    → lines_of rest ≡ line ∷ lines_of after → after_line s line ≡ Ok next → schedule_of file ≡ after_lines (number + 1 + 1) next (lines_of after)
read_next file number s next rest line after read is e = read ∙ (ap (after_lines (number + 1) s) is ∙ one_line (number + 1) s next line (lines_of after) e)

pub reached_next : (file : List ℕ) (s next : ScheduleValue) (rest line after : List ℕ) → Reached file s rest → lines_of rest ≡ line ∷ lines_of after → after_line s line ≡ Ok next
    → Reached file next after
reached_next file s next rest line after r is e =
    record {
      front = r.front ++ line ∷ [];
      lines = r.lines ∙ (ap (λ ls. r.front ++ ls) is ∙ sym (append_assoc r.front (line ∷ []) (lines_of after)));
      gives = goes_behind 1 nothing s r.front (line ∷ []) r.gives ∙ one_line (1 + length r.front) s next line [] e;
    }

kept_last : (front : List (List ℕ)) (line : List ℕ) → is_skipped line ≡ false → kept_lines (front ++ line ∷ []) ≢ []
kept_last [] line kept none = nil_cons line [] (sym none ∙ kept_more line [] kept)
kept_last (other ∷ front) line kept none =
    elim (cases_Bool (is_skipped other)) [
      | inl skipped ↦ kept_last front line kept (sym (kept_skipping other (front ++ line ∷ []) skipped) ∙ none)
      | inr more ↦ nil_cons other (kept_lines (front ++ line ∷ [])) (sym none ∙ kept_more other (front ++ line ∷ []) more)
    ]

ok_of : (r : Result ScheduleValue TextFault) → IsOk r → (next : ScheduleValue) × (r ≡ Ok next)
ok_of (Ok next) is = (next, refl)
ok_of (Err what) is = absurd (false≢true is)

-- a line that wants memory is taken
pub wants_memory : (file : List ℕ) (s : ScheduleValue) (rest line after : List ℕ) → Reached file s rest → lines_of rest ≡ line ∷ lines_of after
    → is_skipped line ≡ false → IsOk (after_line s line) → WantsMemory file
unfolding reached_next
wants_memory file s rest line after r is kept ok =
    let o = ok_of (after_line s line) ok in
    let n = reached_next file s o.0 rest line after r is o.1 in
    let same : lines_of (file_of n.front) ≡ n.front = lines_of_file n.front (front_are n.front (lines_of after) (subst AreLines n.lines (lines_are file))) in
    record {
      front = file_of n.front;
      schedule = o.0;
      accepted = (reads_what_is_said (file_of n.front) o.0).0 (ap (after_lines 1 nothing) same ∙ n.gives);
      rest = lines_of after;
      lines = n.lines ∙ ap (λ ls. ls ++ lines_of after) (sym same);
      says = λ none. kept_last r.front line kept (ap kept_lines (sym same) ∙ none);
    }
