-- What the calls of a run say of its result: a fault has raised the count, and the log answers each command once.
use Rattle.std.proofs.Common.{◌≡◌, ℕ, false, List, refl, sym, ap, subst, inl, arith}
use Rattle.std.specs.Prelude.{Result, Ok, Err, IfOk, IsErrOf}
use Rattle.tcf_outside.specs.Faults.{Rose}
use Rattle.tcf_wires.specs.Told.{WiresSeen, faults_through}
use Rattle.tcf_text.specs.Once.{Once}
use Rattle.tcf_schedules.specs.declared.script.ScriptLine.{ScriptLine}
use Rattle.tcf_wires.specs.declared.call.WireCall.{WireCall}
use Rattle.tcf_wires.specs.declared.call.WireCall.TheVariants.{Gave}
use Rattle.tcf_wires.specs.declared.event.WireRefusal.{WireRefusal}
use Rattle.tcf_wires.specs.declared.event.WireRefusal.TheVariants.{Failed}
use Rattle.client_node.specs.ClientValue.{ClientValue}
use Rattle.serving_wires.specs.Calls.{Makes, events_in}
use Rattle.serving_wires.proofs.Rising.{last_rises, rose_raised}
use Rattle.client_serving.specs.Client.{OnceWhateverCame}
use Rattle.client_serving.specs.Run.{HasRun, IsBroken, RunsClient, connected, no_calls, not_connected}
use Rattle.client_serving.specs.declared.end.ClientRun.{ClientRun}

-- ---- a run that failed

failed_rises : (script : List ScriptLine) (address : List ℕ) (turns faults : ℕ) (calls : List WireCall) → RunsClient script address turns (Err Failed) calls → Rose faults (faults_through calls faults)
failed_rises script address turns faults calls (no_calls is none) = cc
failed_rises script address turns faults calls (not_connected is called) = rw called (rose_raised faults faults (inl (omega arith)))
failed_rises script address turns faults calls (connected channel later first alone served) =
    let broken : IsBroken address channel script turns calls = served.ends in
    subst (Rose faults) (sym (ap (λ cs. faults_through cs faults) broken.split)) (last_rises faults broken.earlier (Gave (Err Failed)) (λ n. refl))

pub fault_rises : (script : List ScriptLine) (address : List ℕ) (turns : ℕ) (result : Result ClientRun WireRefusal) (seen_before seen_after : WiresSeen)
    → Makes (RunsClient script address turns result) seen_before seen_after → IsErrOf result Failed → Rose seen_before.faults seen_after.faults
fault_rises script address turns (Ok run) seen_before seen_after m is = cc
fault_rises script address turns (Err refusal) seen_before seen_after m is =
    let same : refusal ≡ Failed = cc in
    subst (Rose seen_before.faults) (sym (ap (λ (s : WiresSeen). s.faults) m.seen)) (failed_rises script address turns seen_before.faults m.calls (subst (λ r. RunsClient script address turns (Err r) m.calls) same m.fits))

-- ---- a run and its log

run_once : OnceWhateverCame → (script : List ScriptLine) (address : List ℕ) (turns : ℕ) (run : ClientRun) (calls : List WireCall) → RunsClient script address turns (Ok run) calls → Once false run.client.log
run_once law script address turns run calls (no_calls is none) = cc
run_once law script address turns run calls (not_connected is called) = cc
run_once law script address turns run calls (connected channel later first alone served) =
    let has : HasRun address channel script turns run calls = served.ends in
    subst (λ (c : ClientValue). Once false c.log) (sym has.client) (law address channel script (events_in calls))

pub log_once : OnceWhateverCame → (script : List ScriptLine) (address : List ℕ) (turns : ℕ) (result : Result ClientRun WireRefusal) (seen_before seen_after : WiresSeen)
    → Makes (RunsClient script address turns result) seen_before seen_after → IfOk result (λ run. Once false run.client.log)
log_once law script address turns (Ok run) seen_before seen_after m = run_once law script address turns run m.calls m.fits
log_once law script address turns (Err refusal) seen_before seen_after m = tt
