-- What holds of a log whose channel hasn't ended, and what one more line makes of it.
use Rattle.std.proofs.Common.{◌≡◌, ℕ, ◌+◌, ◌<◌, ◌≤◌, List, [], ◌∷◌, ◌++◌, length, map, refl, ap, sym, ◌∙◌, subst, inl, inr, ◌⊎◌, false, arith}
use Rattle.std.specs.Prelude.{Option, Some, None}
use Rattle.std.specs.List.{Contains, last_or, list_any, range_with_len}
use Rattle.std.proofs.lemmas.List.{append_assoc, length-map, map-append}
use Rattle.std.proofs.lemmas.List.Elements.{Contains-append_left, Contains-push, Contains-push_cases}
use Rattle.std.proofs.lemmas.List.FromFn.{length-range_with_len}
use Rattle.tcf_text.specs.Each.{Each}
use Rattle.tcf_text.specs.Lines.{Accepted, accepted, accepted_by, final_of, finals}
use Rattle.tcf_text.specs.Once.{AllAnswered, AnswersPending, AreCounted, CanStandAfterEnd, ClosesBeforeEnd, EndsAll, GoesOnFrom, IsNoClosed, IsPending, NothingAfterEnd, Once, is_end, numbers}
use Rattle.tcf_text.specs.declared.log.EndWhy.{EndWhy}
use Rattle.tcf_text.specs.declared.log.LogLine.{LogLine}
use Rattle.tcf_text.specs.declared.log.LogLine.TheVariants.{Closed, Ended, Sent}
use Rattle.client_node.proofs.Lists.{any_push, each_nothing, each_push, flat_push, flat_same, range_push}
use Rattle.client_node.proofs.Pending.{Rises, apart, below, is_there, numbers_cases, numbers_kept, numbers_of, rises_push}
use Rattle.list_laws.proofs.Lists.{last_push}
use Rattle.list_laws.proofs.Contained.{none_in}

pub record Lawful (log : List LogLine) : Type 0 where
  pub answers : Each AnswersPending log
  pub all_at_end : Each EndsAll log
  pub nothing_after : Each NothingAfterEnd log
  pub closed_in_order : Each ClosesBeforeEnd log

-- the commands from 1 to the last were accepted; those without a final answer are pending, and rise from low on
pub record Standing (low last : ℕ) (rows : List (ℕ × ℕ)) (log : List LogLine) : Type 0 where
  pub lawful : Lawful log
  pub open_yet : list_any is_end log ≡ false
  pub numbered : numbers (accepted log) ≡ range_with_len 1 last
  pub accounted : (number : ℕ) → Contains (numbers (accepted log)) number → Contains (finals log) number ⊎ Contains (numbers_of rows) number
  pub waits : (number : ℕ) → Contains (numbers_of rows) number → IsPending log number
  pub few : (number : ℕ) → Contains (finals log) number → number ≤ last
  pub rises : Rises low rows last

pub standing_at_first : Standing 0 0 [] []
standing_at_first =
    record {
      lawful = record {
        answers = each_nothing AnswersPending;
        all_at_end = each_nothing EndsAll;
        nothing_after = each_nothing NothingAfterEnd;
        closed_in_order = each_nothing ClosesBeforeEnd;
      };
      open_yet = refl;
      numbered = refl;
      accounted = λ number there. absurd (none_in number there);
      waits = λ number there. absurd (none_in number there);
      few = λ number there. absurd (none_in number there);
      rises = omega arith;
    }

-- ---- one more line

pub lawful_push : (log : List LogLine) (x : LogLine) → Lawful log → AnswersPending log x → EndsAll log x → NothingAfterEnd log x → ClosesBeforeEnd log x → Lawful (log ++ x ∷ [])
lawful_push log x lawful answers ends after order =
    record {
      answers = each_push AnswersPending log x lawful.answers answers;
      all_at_end = each_push EndsAll log x lawful.all_at_end ends;
      nothing_after = each_push NothingAfterEnd log x lawful.nothing_after after;
      closed_in_order = each_push ClosesBeforeEnd log x lawful.closed_in_order order;
    }

goes_on : (last : Option LogLine) (x : LogLine) → IsNoClosed last → GoesOnFrom last x
goes_on None x none = tt
goes_on (Some (Closed number)) x none = absurd none
goes_on (Some y) x none = tt

pub in_order : (log : List LogLine) (x : LogLine) → IsNoClosed (last_or None log) → ClosesBeforeEnd log x
in_order log x none = goes_on (last_or None log) x none

no_end : (before : List LogLine) (x : LogLine) → is_end x ≡ false → EndsAll before x
no_end before (Ended why) e = cc
no_end before x e = tt

not_after : (log : List LogLine) (x : LogLine) → list_any is_end log ≡ false → NothingAfterEnd log x
not_after log x open_yet ended = cc

same_accepted : (log : List LogLine) (x : LogLine) → accepted_by x ≡ [] → accepted (log ++ x ∷ []) ≡ accepted log
same_accepted log x none = flat_same accepted_by log x none

same_finals : (log : List LogLine) (x : LogLine) → final_of x ≡ [] → finals (log ++ x ∷ []) ≡ finals log
same_finals log x none = flat_same final_of log x none

-- a line that accepts and answers nothing, and isn't the end
pub record IsPlain (log : List LogLine) (x : LogLine) : Type 0 where
  pub accepts : accepted_by x ≡ []
  pub finishes : final_of x ≡ []
  pub ends : is_end x ≡ false
  pub answers : AnswersPending log x

pub plain_push : (low last : ℕ) (rows : List (ℕ × ℕ)) (log : List LogLine) (x : LogLine) → Standing low last rows log → IsPlain log x → ClosesBeforeEnd log x
    → Standing low last rows (log ++ x ∷ [])
plain_push low last rows log x standing plain order =
    let sent : accepted (log ++ x ∷ []) ≡ accepted log = same_accepted log x plain.accepts in
    let done : finals (log ++ x ∷ []) ≡ finals log = same_finals log x plain.finishes in
    record {
      lawful = lawful_push log x standing.lawful plain.answers (no_end log x plain.ends) (not_after log x standing.open_yet) order;
      open_yet = any_push is_end log x plain.ends ∙ standing.open_yet;
      numbered = ap numbers sent ∙ standing.numbered;
      accounted = rw (sent, done) standing.accounted;
      waits = λ number there.
          let pending = standing.waits number there in
          record { accepted = rw sent pending.accepted; open_yet = rw done pending.open_yet };
      few = rw done standing.few;
      rises = standing.rises;
    }

-- ---- a command is accepted

pub sent_push : (low last : ℕ) (rows : List (ℕ × ℕ)) (log : List LogLine) (service name body : List ℕ) → Standing low last rows log → IsNoClosed (last_or None log)
    → Standing low (last + 1) (rows ++ (last + 1, last + 1) ∷ []) (log ++ Sent (last + 1) service name body ∷ [])
sent_push low last rows log service name body standing open_end =
    let next : ℕ = last + 1 in
    let x : LogLine = Sent next service name body in
    let sent : numbers (accepted (log ++ x ∷ [])) ≡ numbers (accepted log) ++ next ∷ [] =
    ap numbers (flat_push accepted_by log x) ∙ map-append (λ (c : Accepted). c.number) (accepted log) (accepted_by x) in
    let done : finals (log ++ x ∷ []) ≡ finals log = same_finals log x refl in
    let open_rows : numbers_of (rows ++ (next, next) ∷ []) ≡ numbers_of rows ++ next ∷ [] = map-append (λ (row : ℕ × ℕ). row.1) rows ((next, next) ∷ []) in
    let first : next ≡ 1 + last = omega arith in
    record {
      lawful = lawful_push log x standing.lawful tt tt (not_after log x standing.open_yet) (in_order log x open_end);
      open_yet = any_push is_end log x refl ∙ standing.open_yet;
      numbered = sent ∙ ap (λ ns. ns ++ next ∷ []) standing.numbered ∙ ap (λ n. range_with_len 1 last ++ n ∷ []) first ∙ range_push 1 last;
      accounted = rw (sent, done, open_rows) (accounted next);
      waits = λ number there. record { accepted = rw sent (was_accepted next number (rw open_rows at there)); open_yet = rw done (not_done next refl number (rw open_rows at there)) };
      few = rw done (λ number there. let most = standing.few number there in omega arith);
      rises = rises_push low last rows standing.rises;
    }
  where
    accounted : (next number : ℕ) → Contains (numbers (accepted log) ++ next ∷ []) number → Contains (finals log) number ⊎ Contains (numbers_of rows ++ next ∷ []) number
    accounted next number there =
        elim (Contains-push_cases (numbers (accepted log)) next number there) as (λ _. Contains (finals log) number ⊎ Contains (numbers_of rows ++ next ∷ []) number) [
          | inl old ↦ elim (standing.accounted number old) as (λ _. Contains (finals log) number ⊎ Contains (numbers_of rows ++ next ∷ []) number)
              [ inl p ↦ inl p | inr p ↦ inr (Contains-append_left (numbers_of rows) (next ∷ []) number p) ]
          | inr is ↦ inr (rw is (Contains-push (numbers_of rows) number))
        ]

    was_accepted : (next number : ℕ) → Contains (numbers_of rows ++ next ∷ []) number → Contains (numbers (accepted log) ++ next ∷ []) number
    was_accepted next number there =
        elim (Contains-push_cases (numbers_of rows) next number there) as (λ _. Contains (numbers (accepted log) ++ next ∷ []) number) [
          | inl old ↦ Contains-append_left (numbers (accepted log)) (next ∷ []) number (standing.waits number old).accepted
          | inr is ↦ rw is (Contains-push (numbers (accepted log)) number)
        ]

    not_done : (next : ℕ) → next ≡ last + 1 → (number : ℕ) → Contains (numbers_of rows ++ next ∷ []) number → Contains (finals log) number → ⊥
    not_done next later number there answered =
        elim (Contains-push_cases (numbers_of rows) next number there) as (λ _. ⊥)
        [ inl old ↦ (standing.waits number old).open_yet answered | inr is ↦ let most = standing.few number answered in omega arith ]

-- ---- a command has its final answer

-- a line that answers the command of this number for good
pub record IsAnswer (number : ℕ) (x : LogLine) : Type 0 where
  pub accepts : accepted_by x ≡ []
  pub finishes : final_of x ≡ number ∷ []
  pub ends : is_end x ≡ false
  pub answers : (log : List LogLine) → IsPending log number → AnswersPending log x

pub answered_push : (low from last : ℕ) (front back : List (ℕ × ℕ)) (row : ℕ × ℕ) (log : List LogLine) (x : LogLine) → Standing low last (front ++ row ∷ back) log
    → IsAnswer row.1 x → ClosesBeforeEnd log x → Rises from (front ++ back) last → Standing from last (front ++ back) (log ++ x ∷ [])
answered_push low from last front back row log x standing answer order rises =
    let sent : accepted (log ++ x ∷ []) ≡ accepted log = same_accepted log x answer.accepts in
    let done : finals (log ++ x ∷ []) ≡ finals log ++ row.1 ∷ [] = flat_push final_of log x ∙ ap (λ ys. finals log ++ ys) answer.finishes in
    let here : IsPending log row.1 = standing.waits row.1 (is_there front back row) in
    record {
      lawful = lawful_push log x standing.lawful (answer.answers log here) (no_end log x answer.ends) (not_after log x standing.open_yet) order;
      open_yet = any_push is_end log x answer.ends ∙ standing.open_yet;
      numbered = ap numbers sent ∙ standing.numbered;
      accounted = rw (sent, done) accounted;
      waits = λ number there.
          let pending = standing.waits number (numbers_kept front back row number there) in
          record { accepted = rw sent pending.accepted; open_yet = rw done (not_done number there pending) };
      few = rw done few;
      rises = rises;
    }
  where
    accounted : (number : ℕ) → Contains (numbers (accepted log)) number → Contains (finals log ++ row.1 ∷ []) number ⊎ Contains (numbers_of (front ++ back)) number
    accounted number there =
        elim (standing.accounted number there) as (λ _. Contains (finals log ++ row.1 ∷ []) number ⊎ Contains (numbers_of (front ++ back)) number) [
          | inl p ↦ inl (Contains-append_left (finals log) (row.1 ∷ []) number p)
          | inr p ↦ elim (numbers_cases front back row number p) as (λ _. Contains (finals log ++ row.1 ∷ []) number ⊎ Contains (numbers_of (front ++ back)) number)
              [ inl is ↦ inl (rw is (Contains-push (finals log) number)) | inr left ↦ inr left ]
        ]

    not_done : (number : ℕ) → Contains (numbers_of (front ++ back)) number → IsPending log number → Contains (finals log ++ row.1 ∷ []) number → ⊥
    not_done number there pending answered =
        elim (Contains-push_cases (finals log) row.1 number answered) as (λ _. ⊥)
        [ inl old ↦ pending.open_yet old | inr is ↦ apart low last number front back row standing.rises there is ]

    few : (number : ℕ) → Contains (finals log ++ row.1 ∷ []) number → number ≤ last
    few number answered =
        elim (Contains-push_cases (finals log) row.1 number answered) as (λ _. number ≤ last)
        [ inl old ↦ standing.few number old | inr is ↦ let most = below low last row.1 (front ++ row ∷ back) standing.rises (is_there front back row) in omega arith ]

-- ---- the channel ends

-- what a log is once its channel has ended
pub record Over (log : List LogLine) : Type 0 where
  pub once : Once false log
  pub last : ℕ
  pub numbered : numbers (accepted log) ≡ range_with_len 1 last

-- the last line is no `closed` line of a number above this one
abbrev pub IsBehind : ℕ → Option LogLine → Type 0
IsBehind low (Some (Closed number)) = number ≡ low
IsBehind low last = Unit {0}

closed_follows : (low number : ℕ) (last : Option LogLine) → IsBehind low last → low < number → GoesOnFrom last (Closed number)
closed_follows low number None behind less = tt
closed_follows low number (Some (Closed earlier)) behind less = omega arith
closed_follows low number (Some x) behind less = tt

end_follows : (why : EndWhy) (last : Option LogLine) → GoesOnFrom last (Ended why)
end_follows why None = tt
end_follows why (Some (Closed number)) = tt
end_follows why (Some x) = tt

pub behind_all : (low : ℕ) (last : Option LogLine) → IsNoClosed last → IsBehind low last
behind_all low None none = tt
behind_all low (Some (Closed number)) none = absurd none
behind_all low (Some x) none = tt

just_closed : (number : ℕ) → IsBehind number (Some (Closed number))
just_closed number = refl

-- the numbers of as many commands as there are
pub counted_to : (last : ℕ) (commands : List Accepted) → numbers commands ≡ range_with_len 1 last → AreCounted commands
counted_to last commands are =
    let many : length commands ≡ last = sym (length-map commands (λ (c : Accepted). c.number)) ∙ ap length are ∙ length-range_with_len 1 last in
    are ∙ ap (range_with_len 1) (sym many)

pub once_of : (last : ℕ) (log : List LogLine) → numbers (accepted log) ≡ range_with_len 1 last → Lawful log → IsNoClosed (last_or None log) → Once false log
once_of count log numbered lawful last =
    record {
      counted = counted_to count (accepted log) numbered;
      answers = lawful.answers;
      all_at_end = lawful.all_at_end;
      nothing_after = lawful.nothing_after;
      closed_in_order = lawful.closed_in_order;
      closed_then_end = last;
      all_when_quiet = λ quiet. cc;
    }

closed_answers : (number : ℕ) → IsAnswer number (Closed number)
closed_answers number = record { accepts = refl; finishes = refl; ends = refl; answers = λ log pending. pending }

pub closing : (rows : List (ℕ × ℕ)) (low last : ℕ) (log : List LogLine) (why : EndWhy) → Standing low last rows log → IsBehind low (last_or None log)
    → Over (log ++ (map (λ (row : ℕ × ℕ). Closed row.1) rows ++ Ended why ∷ []))
closing [] low last log why standing behind =
    let x : LogLine = Ended why in
    let all : AllAnswered log = λ number there. answered number (standing.accounted number there) in
    let lawful : Lawful (log ++ x ∷ []) = lawful_push log x standing.lawful tt all (not_after log x standing.open_yet) (end_follows why (last_or None log)) in
    let numbered : numbers (accepted (log ++ x ∷ [])) ≡ range_with_len 1 last = ap numbers (same_accepted log x refl) ∙ standing.numbered in
    record { once = once_of last (log ++ x ∷ []) numbered lawful (rw (last_push None log x) tt); last = last; numbered = numbered }
  where
    answered : (number : ℕ) → Contains (finals log) number ⊎ Contains [] number → Contains (finals log) number
    answered number (inl there) = there
    answered number (inr there) = absurd (none_in number there)
closing (row ∷ rows) low last log why standing behind =
    let x : LogLine = Closed row.1 in
    let order : ClosesBeforeEnd log x = closed_follows low row.1 (last_or None log) behind standing.rises.1 in
    let next : Standing row.1 last rows (log ++ x ∷ []) = answered_push low row.1 last [] rows row log x standing (closed_answers row.1) order standing.rises.2 in
    let ahead : IsBehind row.1 (last_or None (log ++ x ∷ [])) = rw (last_push None log x) (just_closed row.1) in
    let rest : List LogLine = map (λ (r : ℕ × ℕ). Closed r.1) rows ++ Ended why ∷ [] in
    subst Over (append_assoc log (x ∷ []) rest) (closing rows row.1 last (log ++ x ∷ []) why next ahead)

-- one more line, where it can stand after the end
pub over_push : (log : List LogLine) (x : LogLine) → Over log → IsPlain log x → CanStandAfterEnd x → IsNoClosed (Some x) → Over (log ++ x ∷ [])
over_push log x over plain after unclosed =
    let before : Lawful log = record {
      answers = over.once.answers;
      all_at_end = over.once.all_at_end;
      nothing_after = over.once.nothing_after;
      closed_in_order = over.once.closed_in_order;
    } in
    let lawful : Lawful (log ++ x ∷ []) =
    lawful_push log x before plain.answers (no_end log x plain.ends) (λ ended. after) (in_order log x over.once.closed_then_end) in
    let numbered : numbers (accepted (log ++ x ∷ [])) ≡ range_with_len 1 over.last = ap numbers (same_accepted log x plain.accepts) ∙ over.numbered in
    record { once = once_of over.last (log ++ x ∷ []) numbered lawful (rw (last_push None log x) unclosed); last = over.last; numbered = numbered }
