-- A log that is true to the history of its target meets all rules.
use Rattle.std.proofs.Common.{Bool, false, List, [], refl}
use Rattle.std.specs.Prelude.{None}
use Rattle.std.proofs.lemmas.List.Elements.{All-nil}
use Rattle.std.proofs.lemmas.Option.{none-some}
use Rattle.std.proofs.lemmas.Bool.{false≢true}
use Rattle.tcf_text.specs.declared.log.LogLine.{LogLine}
use Rattle.target_contexts.specs.declared.process.Image.{Image}
use Rattle.target_hub.specs.Fresh.{Fresh, FreshLine}
use Rattle.target_hub.specs.History.{IsLegal}
use Rattle.target_hub.specs.Ordered.{IsPlaced}
use Rattle.target_hub.specs.declared.input.Input.{Input}
use Rattle.tcf_text.specs.Once.{AnswersPending, ClosesBeforeEnd, EndsAll, NothingAfterEnd, Once}
use Rattle.log_check.proofs.Eaches.{each_nothing}
use Rattle.log_check.specs.Rules.{IsJudged, TrueLogsMeetTheRules}

once_anyhow : (quiet : Bool) (log : List LogLine) → Once quiet log → Once false log
once_anyhow quiet log once =
    record {
      counted = once.counted;
      answers = once.answers;
      all_at_end = once.all_at_end;
      nothing_after = once.nothing_after;
      closed_in_order = once.closed_in_order;
      closed_then_end = once.closed_then_end;
      all_when_quiet = λ is. absurd (false≢true is);
    }

pub true_logs : TrueLogsMeetTheRules
true_logs quiet images history log channels legal once ordered fresh = (
  legal,
  (
    once_anyhow quiet log once,
    (
      ordered.positions,
      (
        (λ k on. (ordered.follows k on).told),
        ((λ k on. (ordered.follows k on).executes), (fresh, tt)),
      ),
    ),
  ),
)

-- of a log without a line nothing is asked but that the history is legal
pub nothing_is_true : (images : List Image) (history : List Input) → IsLegal images history → IsJudged images history [] None
nothing_is_true images history legal =
    (legal, (nothing_once, (each_nothing (IsPlaced history), ((λ k on. absurd (none-some on.position on.hello)), ((λ k on. absurd (none-some on.position on.hello)), (nothing_fresh, tt))))))
  where
    nothing_once : Once false []
    nothing_once =
        record {
          counted = refl;
          answers = each_nothing AnswersPending;
          all_at_end = each_nothing EndsAll;
          nothing_after = each_nothing NothingAfterEnd;
          closed_in_order = each_nothing ClosesBeforeEnd;
          closed_then_end = tt;
          all_when_quiet = λ is. absurd (false≢true is);
        }

    nothing_fresh : Fresh [] images history
    nothing_fresh = All-nil (FreshLine [] images history)
