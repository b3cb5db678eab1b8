-- In a log that has its end each accepted command has its final answer.
use Rattle.std.proofs.Common.{◌≡◌, true, List, [], ◌∷◌, ◌++◌, refl, sym, ap, ◌∙◌, subst, append_assoc, append-nil}
use Rattle.std.specs.List.{Contains, list_any}
use Rattle.std.proofs.lemmas.Bool.{or_right}
use Rattle.std.proofs.lemmas.List.Concat.{flat_map-append}
use Rattle.std.proofs.lemmas.List.Folds.{list_any-append}
use Rattle.tcf_text.specs.Each.{Each}
use Rattle.tcf_text.specs.Lines.{accepted, accepted_by, final_of, finals}
use Rattle.tcf_text.specs.Once.{AllAnswered, CanStandAfterEnd, EndsAll, NothingAfterEnd, is_end, numbers}
use Rattle.tcf_text.specs.declared.log.EndWhy.{EndWhy}
use Rattle.tcf_text.specs.declared.log.LogLine.{LogLine}
use Rattle.tcf_text.specs.declared.log.LogLine.TheVariants.{Cached, Closed, Ended, Event, Final, Hello, Progress, Refused, Sent, Unknown}

-- where it ends
record EndsAt (log : List LogLine) : Type 0 where
  before : List LogLine
  why : EndWhy
  after : List LogLine
  are : log ≡ before ++ Ended why ∷ after

later : (x : LogLine) (log : List LogLine) → EndsAt log → EndsAt (x ∷ log)
later x log e = record { before = x ∷ e.before; why = e.why; after = e.after; are = ap (λ l. x ∷ l) e.are }

ends_at : (log : List LogLine) → list_any is_end log ≡ true → EndsAt log
ends_at [] is = absurd cc
ends_at (Ended why ∷ log) is = record { before = []; why = why; after = log; are = refl }
ends_at (Sent number service name body ∷ log) is = later (Sent number service name body) log (ends_at log is)
ends_at (Refused why ∷ log) is = later (Refused why) log (ends_at log is)
ends_at (Hello mark body ∷ log) is = later (Hello mark body) log (ends_at log is)
ends_at (Event mark service name body ∷ log) is = later (Event mark service name body) log (ends_at log is)
ends_at (Progress number mark body ∷ log) is = later (Progress number mark body) log (ends_at log is)
ends_at (Final number mark body ∷ log) is = later (Final number mark body) log (ends_at log is)
ends_at (Unknown number mark ∷ log) is = later (Unknown number mark) log (ends_at log is)
ends_at (Closed number ∷ log) is = later (Closed number) log (ends_at log is)
ends_at (Cached what value ∷ log) is = later (Cached what value) log (ends_at log is)

-- what stands behind it accepts and answers nothing
idle : (x : LogLine) → CanStandAfterEnd x → (accepted_by x ≡ []) × (final_of x ≡ [])
idle (Refused why) can = (refl, refl)
idle (Cached what value) can = (refl, refl)
idle (Ended why) can = absurd can
idle (Sent number service name body) can = absurd can
idle (Hello mark body) can = absurd can
idle (Event mark service name body) can = absurd can
idle (Progress number mark body) can = absurd can
idle (Final number mark body) can = absurd can
idle (Unknown number mark) can = absurd can
idle (Closed number) can = absurd can

all_idle : (after : List LogLine) → ((front rest : List LogLine) (x : LogLine) → after ≡ front ++ x ∷ rest → CanStandAfterEnd x) → (accepted after ≡ []) × (finals after ≡ [])
all_idle [] can = (refl, refl)
all_idle (x ∷ after) can =
    let here = idle x (can [] after x refl) in
    let rest = all_idle after (λ front rest y is. can (x ∷ front) rest y (ap (λ l. x ∷ l) is)) in
    (ap (λ l. l ++ accepted after) here.0 ∙ rest.0, ap (λ l. l ++ finals after) here.1 ∙ rest.1)

pub answered_at_end : (log : List LogLine) → Each EndsAll log → Each NothingAfterEnd log → list_any is_end log ≡ true → AllAnswered log
answered_at_end log ends nothing is number there =
    let at = ends_at log is in
    let before = at.before in
    let more = Ended at.why ∷ at.after in
    let answered : AllAnswered before = ends before at.after (Ended at.why) at.are in
    let over : (front : List LogLine) → list_any is_end (before ++ Ended at.why ∷ front) ≡ true =
    λ front. list_any-append is_end before (Ended at.why ∷ front) ∙ or_right (list_any is_end before) (list_any is_end (Ended at.why ∷ front)) refl in
    let none = all_idle at.after (λ front rest x same.
    nothing (before ++ Ended at.why ∷ front) rest x
    (at.are ∙ ap (λ l. before ++ Ended at.why ∷ l) same ∙ sym (append_assoc before (Ended at.why ∷ front) (x ∷ rest))) (over front)) in
    let accepts : accepted log ≡ accepted before =
    ap accepted at.are ∙ flat_map-append accepted_by before more ∙ ap (λ l. accepted before ++ l) none.0 ∙ append-nil (accepted before) in
    let finishes : finals log ≡ finals before =
    ap finals at.are ∙ flat_map-append final_of before more ∙ ap (λ l. finals before ++ l) none.1 ∙ append-nil (finals before) in
    subst (λ l. Contains l number) (sym finishes) (answered number (subst (λ cs. Contains (numbers cs) number) accepts there))
