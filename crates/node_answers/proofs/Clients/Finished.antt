-- A log that has its end: each accepted command has its final answer in it.
use Rattle.std.proofs.Common.{◌≡◌, ℕ, true, List, [], ◌∷◌, ◌++◌, map, refl, ap, sym, ◌∙◌, subst, inl, inr, ◌⊎◌}
use Rattle.std.specs.List.{Contains, list_any}
use Rattle.std.proofs.lemmas.Bool.{or_left, or_right}
use Rattle.std.proofs.lemmas.List.{append-nil}
use Rattle.std.proofs.lemmas.List.Concat.{flat_map-append}
use Rattle.std.proofs.lemmas.List.Elements.{Contains-append_left, Contains-append_right}
use Rattle.std.proofs.lemmas.List.Folds.{list_any-append}
use Rattle.tcf_text.specs.Lines.{accepted, accepted_by, final_of, finals}
use Rattle.tcf_text.specs.Once.{AllAnswered, is_end}
use Rattle.tcf_text.specs.declared.log.EndWhy.{EndWhy}
use Rattle.tcf_text.specs.declared.log.LogLine.{LogLine}
use Rattle.tcf_text.specs.declared.log.LogLine.TheVariants.{Closed, Ended}
use Rattle.channel_core.specs.declared.states.Cause.{Cause}
use Rattle.client_node.specs.Client.{closed_lines}
use Rattle.client_node.specs.Lines.{end_of}
use Rattle.client_node.proofs.Lists.{flat_same}
use Rattle.client_node.proofs.Pending.{numbers_of}
use Rattle.client_node.proofs.Standing.{Standing}

pub record Finished (log : List LogLine) : Type 0 where
  pub ended : list_any is_end log ≡ true
  pub answered : AllAnswered log

-- ---- one more line, that accepts and answers nothing

pub finished_push : (log : List LogLine) (x : LogLine) → accepted_by x ≡ [] → final_of x ≡ [] → Finished log → Finished (log ++ x ∷ [])
finished_push log x accepts finishes old =
    let sent : accepted (log ++ x ∷ []) ≡ accepted log = flat_same accepted_by log x accepts in
    let done : finals (log ++ x ∷ []) ≡ finals log = flat_same final_of log x finishes in
    record {
      ended = list_any-append is_end log (x ∷ []) ∙ or_left (list_any is_end log) (list_any is_end (x ∷ [])) old.ended;
      answered = rw (sent, done) old.answered;
    }

-- ---- the lines at the end

abbrev lines_of : List (ℕ × ℕ) → EndWhy → List LogLine
lines_of rows why = map (λ (row : ℕ × ℕ). Closed row.1) rows ++ Ended why ∷ []

ends : (rows : List (ℕ × ℕ)) (why : EndWhy) → list_any is_end (lines_of rows why) ≡ true
ends [] why = refl
ends (row ∷ rows) why = ends rows why

accepts_none : (rows : List (ℕ × ℕ)) (why : EndWhy) → accepted (lines_of rows why) ≡ []
accepts_none [] why = refl
accepts_none (row ∷ rows) why = accepts_none rows why

answers_rows : (rows : List (ℕ × ℕ)) (why : EndWhy) → finals (lines_of rows why) ≡ numbers_of rows
answers_rows [] why = refl
answers_rows (row ∷ rows) why = ap (λ ns. row.1 ∷ ns) (answers_rows rows why)

pub finished_by : (low last : ℕ) (rows pending : List (ℕ × ℕ)) (log : List LogLine) (cause : Cause) → pending ≡ rows → Standing low last rows log
    → Finished (log ++ closed_lines cause pending)
finished_by low last rows pending log cause is standing = subst (λ (rs : List (ℕ × ℕ)). Finished (log ++ closed_lines cause rs)) (sym is) finished
  where
    more : List LogLine
    more = lines_of rows (end_of cause)

    sent : accepted (log ++ more) ≡ accepted log
    sent = flat_map-append accepted_by log more ∙ ap (λ cs. accepted log ++ cs) (accepts_none rows (end_of cause)) ∙ append-nil (accepted log)

    done : finals (log ++ more) ≡ finals log ++ numbers_of rows
    done = flat_map-append final_of log more ∙ ap (λ ns. finals log ++ ns) (answers_rows rows (end_of cause))

    among : (number : ℕ) → Contains (finals log) number ⊎ Contains (numbers_of rows) number → Contains (finals log ++ numbers_of rows) number
    among number (inl there) = Contains-append_left (finals log) (numbers_of rows) number there
    among number (inr there) = Contains-append_right (finals log) (numbers_of rows) number there

    finished : Finished (log ++ more)
    finished = record {
      ended = list_any-append is_end log more ∙ or_right (list_any is_end log) (list_any is_end more) (ends rows (end_of cause));
      answered = rw (sent, done) (λ number there. among number (standing.accounted number there));
    }
