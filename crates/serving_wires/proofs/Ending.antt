-- The calls of a run, turn by turn, and how it ends.
use Rattle.std.proofs.Common.{◌≡◌, ℕ, ◌+◌, ◌<◌, true, false, List, ◌++◌, refl, sym, subst, append-nil, append_assoc}
use Rattle.std.specs.Prelude.{Ok, Err}
use Rattle.std.specs.List.{list_any}
use Rattle.tcf_wires.specs.Told.{WiresSeen}
use Rattle.tcf_wires.specs.declared.call.WireCall.{WireCall}
use Rattle.tcf_wires.specs.declared.event.WireRefusal.{WireRefusal}
use Rattle.tcf_wires.specs.declared.event.WireRefusal.TheVariants as refusals
use Rattle.serving_wires.specs.Calls.{Makes}
use Rattle.serving_wires.specs.Ends.{end_of}
use Rattle.serving_wires.specs.Process.{Process}
use Rattle.serving_wires.specs.Program.{Behaviour, program_of}
use Rattle.serving_wires.specs.Serve.{GoesOn, IsOpened, Runs}
use Rattle.serving_wires.specs.Serving.{listens}
use Rattle.serving_wires.specs.Turn.{Now, TakesTurn}
use Rattle.serving_wires.specs.WireLaws.{WireLaws}
use Rattle.serving_wires.specs.declared.end.ServeEnd.{ServeEnd}
use Rattle.serving_wires.specs.declared.end.ServeEnd.TheVariants.{NoMemory, Stopped, Turns, WireFault}
use Rattle.serving_wires.proofs.Finishing.{all_taken, broken, cut_short, stopped}
use Rattle.serving_wires.proofs.Inside.{cut_inside, turn_inside}
use Rattle.serving_wires.proofs.Making.{makes_both, makes_none, makes_so}
use Rattle.serving_wires.proofs.Running.{Running, runs_on, starts}
use Rattle.serving_wires.proofs.Spared.{none_of_both}
use Rattle.serving_wires.proofs.Turns.{failed}

-- so many turns were taken: whatever program was opened by the calls before, it runs
pub record RunsSo {A : Type 0} (b : Behaviour A) (start : Now A) (unused count : ℕ) (real : Now A) (later : ℕ) (calls : List WireCall) : Type 0 where
  pub inside : list_any listens calls ≡ false
  pub runs : (first : A) (begins : Process A) (before : List WireCall) → IsOpened (program_of b first begins) start unused before
      → Running (program_of b first begins) count real later (before ++ calls)

-- behind what was called before, by more calls
goes_on : {A : Type 0} → (b : Behaviour A) (start : Now A) (unused count turns : ℕ) (real : Now A) (later : ℕ) (end : ServeEnd) (calls more : List WireCall) → list_any listens more ≡ false
    → ((first : A) (begins : Process A) (all : List WireCall) → Running (program_of b first begins) count real later all → Runs (program_of b first begins) turns end (all ++ more))
    → RunsSo b start unused count real later calls → GoesOn b start unused turns end (calls ++ more)
goes_on {A = A} b start unused count turns real later end calls more inside so r =
    record {
      inside = none_of_both listens calls more r.inside inside;
      runs = λ first begins before opened.
          subst (λ (cs : List WireCall). Runs (program_of b first begins) turns end cs) (append_assoc before calls more) (so first begins (before ++ calls) (r.runs first begins before opened));
    }

pub no_turn_yet : {A : Type 0} → WireLaws → (b : Behaviour A) (start : Now A) (unused : ℕ) (seen : WiresSeen) → Makes (RunsSo b start unused 0 start unused) seen seen
no_turn_yet {A = A} laws b start unused seen =
    makes_none (RunsSo b start unused 0 start unused) seen
    (record {
      inside = refl;
      runs = λ first begins before opened.
          subst (λ (cs : List WireCall). Running (program_of b first begins) 0 start unused cs) (sym (append-nil before)) (starts laws (program_of b first begins) start unused before opened);
    })

pub one_more_turn : {A : Type 0} → WireLaws → (b : Behaviour A) (start : Now A) (unused count : ℕ) (real new : Now A) (n m : ℕ) (seen seen_mid seen_then : WiresSeen)
    → Makes (RunsSo b start unused count real n) seen seen_mid → Makes (TakesTurn b real new n m (Ok false)) seen_mid seen_then
    → Makes (RunsSo b start unused (count + 1) new m) seen seen_then
one_more_turn {A = A} laws b start unused count real new n m seen seen_mid seen_then =
    makes_both (RunsSo b start unused count real n) (TakesTurn b real new n m (Ok false)) (RunsSo b start unused (count + 1) new m) seen seen_mid seen_then
    (λ calls more r t. record {
      inside = none_of_both listens calls more r.inside (turn_inside laws b real new n m false more t);
      runs = λ first begins before opened.
          subst (λ (cs : List WireCall). Running (program_of b first begins) (count + 1) new m cs) (append_assoc before calls more)
          (runs_on laws (program_of b first begins) count real new n m (before ++ calls) more (r.runs first begins before opened) t);
    })

pub last_turn : {A : Type 0} → WireLaws → (b : Behaviour A) (start : Now A) (unused turns count : ℕ) (real new : Now A) (n m : ℕ) (seen seen_mid seen_then : WiresSeen) → count < turns
    → Makes (RunsSo b start unused count real n) seen seen_mid → Makes (TakesTurn b real new n m (Ok true)) seen_mid seen_then
    → Makes (GoesOn b start unused turns (Stopped (count + 1))) seen seen_then
last_turn {A = A} laws b start unused turns count real new n m seen seen_mid seen_then within =
    makes_both (RunsSo b start unused count real n) (TakesTurn b real new n m (Ok true)) (GoesOn b start unused turns (Stopped (count + 1))) seen seen_mid seen_then
    (λ calls more r t. goes_on b start unused count turns real n (Stopped (count + 1)) calls more (turn_inside laws b real new n m true more t)
    (λ first begins all so. stopped laws (program_of b first begins) turns count real new n m all more within so t) r)

pub no_more_turns : {A : Type 0} → WireLaws → (b : Behaviour A) (start : Now A) (unused turns count : ℕ) (real : Now A) (n : ℕ) (seen seen_then : WiresSeen) → count ≡ turns
    → Makes (RunsSo b start unused count real n) seen seen_then → Makes (GoesOn b start unused turns Turns) seen seen_then
no_more_turns {A = A} laws b start unused turns count real n seen seen_then all =
    makes_so (RunsSo b start unused count real n) (GoesOn b start unused turns Turns) seen seen_then
    (λ calls r. record {
      inside = r.inside;
      runs = λ first begins before opened. all_taken laws (program_of b first begins) turns count real n (before ++ calls) all (r.runs first begins before opened);
    })

pub no_turn : {A : Type 0} → (refusal : WireRefusal) → WireLaws → (b : Behaviour A) (start : Now A) (unused turns count : ℕ) (real new : Now A) (n m : ℕ) (seen seen_mid seen_then : WiresSeen) → count < turns
    → Makes (RunsSo b start unused count real n) seen seen_mid → Makes (TakesTurn b real new n m (Err refusal)) seen_mid seen_then
    → Makes (GoesOn b start unused turns (end_of (Err refusal))) seen seen_then
no_turn {A = A} refusals.Failed laws b start unused turns count real new n m seen seen_mid seen_then within =
    makes_both (RunsSo b start unused count real n) (TakesTurn b real new n m (Err refusals.Failed)) (GoesOn b start unused turns WireFault) seen seen_mid seen_then
    (λ calls more r t. subst (λ (cs : List WireCall). GoesOn b start unused turns WireFault (calls ++ cs)) (sym t)
    (goes_on b start unused count turns real n WireFault calls failed refl
    (λ first begins all so. broken laws (program_of b first begins) turns count real n all within so) r))
no_turn {A = A} refusals.NoMemory laws b start unused turns count real new n m seen seen_mid seen_then within =
    makes_both (RunsSo b start unused count real n) (TakesTurn b real new n m (Err refusals.NoMemory)) (GoesOn b start unused turns NoMemory) seen seen_mid seen_then
    (λ calls more r t. goes_on b start unused count turns real n NoMemory calls more (cut_inside laws b real n more t)
    (λ first begins all so. cut_short laws (program_of b first begins) turns count real n all more so t) r)
