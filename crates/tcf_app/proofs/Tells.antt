-- What each exit tells, by the ending that the run was to have.
use Rattle.std.proofs.Common.{◌≡◌, ℕ, zero, suc, ◌+◌, Bool, false, List, [], ◌∷◌, ◌++◌, length, refl, sym, ap, subst, inl, inr, ◌⊎◌}
use Rattle.std.specs.List.{AllByRecursion}
use Rattle.std.specs.Prelude.{Option, None, Some, Result, Ok, Err, IfOk, slice_get}
use Rattle.tcf_outside.specs.Faults.{Rose}
use Rattle.tcf_outside.specs.Files.{FilesSeen}
use Rattle.tcf_outside.specs.Sink.{SinkSeen, Took}
use Rattle.tcf_schedules.specs.Refusal.{BadLine}
use Rattle.tcf_schedules.specs.declared.schedule.TextFault.TheVariants.{Unknown}
use Rattle.tcf_schedules.specs.Schedule.{ScheduleValue, chain_of, lines_of, schedule_of}
use Rattle.tcf_schedules.specs.Script.{script_of}
use Rattle.tcf_schedules.specs.declared.script.ScriptLine.{ScriptLine}
use Rattle.chain_world.specs.Chain.{channels_of, is_quiet}
use Rattle.chain_world.specs.ChainValue.{ChainValue}
use Rattle.chain_world.specs.World.{images_of, log_at, log_of}
use Rattle.target_hub.specs.Fresh.{Fresh}
use Rattle.world_laws.specs.WorldLaws.{ChainIsFaithful}
use Rattle.journal_text.specs.Journal.{journal_of}
use Rattle.journal_text.specs.declared.journal.Journal.{Journal}
use Rattle.log_check.proofs.Truth.{nothing_is_true, true_logs}
use Rattle.log_check.specs.Rules.{IsJudged}
use Rattle.log_check.specs.declared.rule.Rule.{Rule}
use Rattle.world_laws.proofs.TheLaws.{file_coherent, file_ends, file_faithful, file_fresh, file_steps, file_unstuck}
use Rattle.tcf_text.specs.Once.{Once}
use Rattle.tcf_wires.specs.Told.{WiresSeen, faults_through, with_calls}
use Rattle.tcf_wires.specs.declared.call.WireCall.{WireCall}
use Rattle.tcf_wires.specs.declared.call.WireCall.TheVariants.{Connected, Gave, Listened}
use Rattle.tcf_wires.specs.declared.event.WireRefusal.{WireRefusal}
use Rattle.tcf_wires.specs.declared.event.WireRefusal.TheVariants as refusals
use Rattle.serving_wires.specs.Serving.{breaks}
use Rattle.serving_wires.specs.Ends.{IsBroken, IsLastCall, no_listening, no_event}
use Rattle.serving_wires.specs.declared.end.ServeEnd.{ServeEnd}
use Rattle.serving_wires.specs.declared.end.ServeEnd.TheVariants as serve_ends
use Rattle.hub_serving.specs.Serve.{ServesHub}
use Rattle.hub_serving.specs.Serve as hubs
use Rattle.client_serving.specs.Run.{RunsClient, no_calls, not_connected, connected, IsBroken as RunBreaks}
use Rattle.client_serving.specs.declared.end.ClientEnd.{ClientEnd}
use Rattle.client_serving.specs.declared.end.ClientEnd.TheVariants as client_ends
use Rattle.client_serving.specs.declared.end.ClientRun.{ClientRun}
use Rattle.load_schedules.proofs.TheLaws.{generates_what_is_said}
use Rattle.tcf_app.specs.declared.exit.BadPlace.{BadPlace}
use Rattle.tcf_app.specs.declared.exit.Exit.{Exit}
use Rattle.tcf_app.specs.declared.exit.Exit.TheVariants.{Done, Usage, BadText, FileFault, SinkFault, WireFault, Turns, NoMemory, BadStream, Ended, TooLong, Differs}
use Rattle.tcf_app.specs.Exit.{IsGivenUp}
use Rattle.tcf_app.specs.Words.{NamedFile, OrderValue, chain, show, load, agent, value, client, hub, journal, check, files_named, first_place, names_of}
use Rattle.tcf_app.specs.Texts.{usage_text, file_fault_text, turns_text}
use Rattle.tcf_app.specs.Played.{client_text, numbered, world_of}
use Rattle.tcf_app.specs.Heard.{Heard, whole, longer, failed, Agrees, Hears, IsFirstLong, FailsLast}
use Rattle.tcf_app.specs.Show.{IsShown}
use Rattle.tcf_app.specs.Ending.{Ending, IsEnding, IsRanEnding, ServesAs, usage_ending, fault_ending, long_ending, bad_ending, played_ending, lines_ending, summed_ending, served_ending, exit_of, ran_ending, wire_ending, wanting_ending, chain_ending, journal_by, journal_ending, verdict_ending, IsJudgedEnding, IsVerdictEnding}
use Rattle.tcf_app.specs.Run.{IsServed, IsStoppedServing, IsBadChain, IsDone, AreTaken, HasDiffered, HasEnded, HaveFailed, IsBadText, IsBadStream, IsTooLong}
use Rattle.tcf_app.proofs.Items.{shown_as}
use Rattle.tcf_app.proofs.Hearing.{are_held, content_is, fails_last, first_long, some_so}
use Rattle.serving_wires.proofs.Rising.{last_rises}

-- ---- the count of faults rose where the wires failed

serving_rises : (ends_run : WireCall → Bool) (turns count : ℕ) (calls : List WireCall) → IsBroken ends_run turns calls → Rose count (faults_through calls count)
serving_rises ends_run turns count calls broken = subst (λ cs. Rose count (faults_through cs count)) (sym broken.split) (by_last broken.earlier broken.fails_last)
  where
    by_last : {last : WireCall} → (earlier : List WireCall) → IsLastCall turns earlier last → Rose count (faults_through (earlier ++ last ∷ []) count)
    by_last earlier (no_listening where_to quiet never) = last_rises count earlier (Listened where_to (Err refusals.Failed)) (λ n. refl)
    by_last earlier (no_event within) = last_rises count earlier (Gave (Err refusals.Failed)) (λ n. refl)

hub_rises : (peer address : List ℕ) (turns count : ℕ) (calls : List WireCall) → ServesHub peer address turns serve_ends.WireFault calls → Rose count (faults_through calls count)
hub_rises peer address turns count calls (hubs.unbegun none is) = cc
hub_rises peer address turns count calls (hubs.unconnected called is) =
    subst (λ cs. Rose count (faults_through cs count)) (sym called) (last_rises count [] (Connected peer (Err refusals.Failed)) (λ n. refl))
hub_rises peer address turns count calls (hubs.served c runs its) = serving_rises breaks turns count calls runs.ends

running_rises : (script : List ScriptLine) (address : List ℕ) (turns count : ℕ) (calls : List WireCall) → RunsClient script address turns (Err refusals.Failed) calls → Rose count (faults_through calls count)
running_rises script address turns count calls (no_calls is none) = cc
running_rises script address turns count calls (not_connected is called) =
    subst (λ cs. Rose count (faults_through cs count)) (sym called) (last_rises count [] (Connected address (Err refusals.Failed)) (λ n. refl))
running_rises script address turns count calls (connected channel later first alone served) =
    let broken : RunBreaks address channel script turns calls = served.ends in
    subst (λ cs. Rose count (faults_through cs count)) (sym broken.split) (last_rises count broken.earlier (Gave (Err refusals.Failed)) (λ n. refl))

-- ---- what an exit tells

-- what is told and counted before a run and after it
pub record Seen : Type 0 where
  pub files : FilesSeen
  pub files_after : FilesSeen
  pub wires : WiresSeen
  pub wires_after : WiresSeen
  pub before : SinkSeen
  pub after : SinkSeen

abbrev pub Tells : Seen → Option OrderValue → Exit → Type 0
Tells s order Done = IsDone order s.files s.wires s.wires_after s.before s.after
Tells s order Usage = (order ≡ None) × Took usage_text s.before s.after
Tells s order (BadText line what) = IsBadText order s.files (record { line = line; what = what }) s.before s.after
Tells s order FileFault = FailsLast (names_of order) s.files s.files_after × Took file_fault_text s.before s.after
Tells s order SinkFault = Unit {0}
Tells s order WireFault = Rose s.wires.faults s.wires_after.faults × HaveFailed order s.files s.wires s.wires_after s.before s.after
Tells s order Turns = AreTaken order s.files s.wires s.wires_after s.before s.after
Tells s order NoMemory = Unit {0}
Tells s order (BadStream offset what) = IsBadStream order s.files (record { offset = offset; what = what }) s.before s.after
Tells s order (Ended cause) = HasEnded cause order s.files s.wires s.wires_after s.before s.after
Tells s order (TooLong word) = IsTooLong order s.files word s.before s.after
Tells s order (Differs rule) = HasDiffered rule order s.files s.before s.after

pub given_up_tells : (s : Seen) (order : Option OrderValue) (exit : Exit) → IsGivenUp exit → Tells s order exit
given_up_tells s order exit (inl is) = subst (Tells s order) (sym is) tt
given_up_tells s order exit (inr is) = subst (Tells s order) (sym is) tt

-- the text of the ending was put, and it is this one
told_at : (s : Seen) (order : Option OrderValue) (ending other : Ending) → ending ≡ other → (Took other.text s.before s.after → Tells s order other.exit)
    → Took ending.text s.before s.after → Tells s order ending.exit
told_at s order ending other is tells = subst (λ (e : Ending). Took e.text s.before s.after → Tells s order e.exit) (sym is) tells

-- ---- each order

chain_tells : (s : Seen) (name file : List ℕ) (ending : Ending) → Hears (name ∷ []) s.files s.files_after (whole (file ∷ [])) → ending ≡ played_ending (schedule_of file)
    → Took ending.text s.before s.after → Tells s (Some (chain name)) ending.exit
chain_tells s name file ending hears its = by_schedule (schedule_of file) refl its
  where
    by_schedule : (r : Result ScheduleValue BadLine) → schedule_of file ≡ r → ending ≡ played_ending r → Took ending.text s.before s.after → Tells s (Some (chain name)) ending.exit
    by_schedule (Ok schedule) is e = told_at s (Some (chain name)) ending (played_ending (Ok schedule)) e (λ put. record {
      file = file;
      held = content_is name file s.files s.files_after hears;
      schedule = schedule;
      says = is;
      put = put;
      faithful = file_faithful file schedule is;
      ends = file_ends file schedule is;
      steps = file_steps file schedule is;
      coherent = file_coherent file schedule is;
      fresh = file_fresh file schedule is;
      unstuck = file_unstuck file schedule is;
    })
    by_schedule (Err bad) is e = told_at s (Some (chain name)) ending (played_ending (Err bad)) e (λ put. record {
      name = name;
      named = refl;
      file = file;
      held = content_is name file s.files s.files_after hears;
      says = is;
      put = put;
    })

show_tells : (s : Seen) (name file : List ℕ) (ending : Ending) (text : List ℕ) (bad : Option BadPlace) → Hears (name ∷ []) s.files s.files_after (whole (file ∷ []))
    → IsShown file (shown_as text bad) → ending ≡ lines_ending text bad → Took ending.text s.before s.after → Tells s (Some (show name)) ending.exit
show_tells s name file ending text None hears is e = told_at s (Some (show name)) ending (lines_ending text None) e (λ put. record {
  file = file;
  held = content_is name file s.files s.files_after hears;
  text = text;
  shown = is;
  put = put;
})
show_tells s name file ending text (Some bad) hears is e = told_at s (Some (show name)) ending (lines_ending text (Some bad)) e (λ put. record {
  name = name;
  ordered = refl;
  file = file;
  held = content_is name file s.files s.files_after hears;
  text = text;
  shown = is;
  put = put;
})

-- a file says the schedule that a number gives
numbered_said : (number : ℕ) → (file : List ℕ) × (schedule_of file ≡ Ok (numbered number))
unfolding numbered
numbered_said number = generates_what_is_said number

load_tells : (s : Seen) (number : ℕ) (ending : Ending) → ending ≡ summed_ending number → Took ending.text s.before s.after → Tells s (Some (load number)) ending.exit
load_tells s number ending e =
    let said = numbered_said number in
    told_at s (Some (load number)) ending (summed_ending number) e (λ put. record {
      put = put;
      faithful = file_faithful said.0 (numbered number) said.1;
      ends = file_ends said.0 (numbered number) said.1;
      steps = file_steps said.0 (numbered number) said.1;
      coherent = file_coherent said.0 (numbered number) said.1;
      fresh = file_fresh said.0 (numbered number) said.1;
      unstuck = file_unstuck said.0 (numbered number) said.1;
    })

-- what each end of a serving tells, for the order that serves
record ServingTells (s : Seen) (order : OrderValue) (turns : ℕ) : Type 0 where
  done : IsStoppedServing order s.files s.wires s.wires_after s.before s.after → Tells s (Some order) Done
  taken : IsServed order serve_ends.Turns (turns_text turns) s.files s.wires s.wires_after s.before s.after → Tells s (Some order) Turns
  failed : Rose s.wires.faults s.wires_after.faults → IsServed order serve_ends.WireFault wire_ending.text s.files s.wires s.wires_after s.before s.after → Tells s (Some order) WireFault

-- a fault of the wires that ends it was counted
abbrev Counted : Seen → OrderValue → List (List ℕ) → List WireCall → Type 0
Counted s order contents calls = ServesAs order contents serve_ends.WireFault calls → Rose s.wires.faults (faults_through calls s.wires.faults)

serving_tells : (s : Seen) (order : OrderValue) (turns : ℕ) (contents : List (List ℕ)) (calls : List WireCall) (end : ServeEnd) (ending : Ending) → ServingTells s order turns → Counted s order contents calls
    → Hears (files_named order) s.files s.files_after (whole contents) → s.wires_after ≡ with_calls calls s.wires
    → ServesAs order contents end calls → ending ≡ served_ending turns end → Took ending.text s.before s.after → Tells s (Some order) ending.exit
serving_tells s order turns contents calls end ending tells rises hears seen fits = by_end end fits
  where
    served : (e : ServeEnd) (text : List ℕ) → ServesAs order contents e calls → Took text s.before s.after → IsServed order e text s.files s.wires s.wires_after s.before s.after
    served e text so put = record {
      contents = contents;
      held = are_held (files_named order) contents s.files s.files_after hears;
      serves = record { calls = calls; fits = so; seen = seen };
      put = put;
    }

    by_end : (e : ServeEnd) → ServesAs order contents e calls → ending ≡ served_ending turns e → Took ending.text s.before s.after → Tells s (Some order) ending.exit
    by_end (serve_ends.Stopped events) so e =
        told_at s (Some order) ending (served_ending turns (serve_ends.Stopped events)) e (λ put. tells.done (events, served (serve_ends.Stopped events) (turns_text events) so put))
    by_end serve_ends.Turns so e = told_at s (Some order) ending (served_ending turns serve_ends.Turns) e (λ put. tells.taken (served serve_ends.Turns (turns_text turns) so put))
    by_end serve_ends.WireFault so e =
        told_at s (Some order) ending wire_ending e (λ put. tells.failed (subst (Rose s.wires.faults) (sym (ap (λ (w : WiresSeen). w.faults) seen)) (rises so)) (served serve_ends.WireFault wire_ending.text so put))
    by_end serve_ends.NoMemory so e = told_at s (Some order) ending (served_ending turns serve_ends.NoMemory) e (λ put. tt)

agent_tells : (s : Seen) (address : List ℕ) (turns : ℕ) (images : List NamedFile) → ServingTells s (agent address turns images) turns
agent_tells s address turns images = record { done = λ stopped. stopped; taken = λ served. served; failed = λ rose served. (rose, served) }

value_tells : (s : Seen) (address peer : List ℕ) (turns : ℕ) → ServingTells s (value address peer turns) turns
value_tells s address peer turns = record { done = λ stopped. stopped; taken = λ served. served; failed = λ rose served. (rose, served) }

hub_tells : (s : Seen) (address peer : List ℕ) (turns : ℕ) → ServingTells s (hub address peer turns) turns
hub_tells s address peer turns = record { done = λ stopped. stopped; taken = λ served. served; failed = λ rose served. (rose, served) }

client_tells : (s : Seen) (address name file : List ℕ) (turns : ℕ) (calls : List WireCall) (ending : Ending) → Hears (name ∷ []) s.files s.files_after (whole (file ∷ []))
    → s.wires_after ≡ with_calls calls s.wires → IsRanEnding (script_of file) address turns calls ending
    → Took ending.text s.before s.after → Tells s (Some (client address name turns)) ending.exit
client_tells s address name file turns calls ending hears seen its = by_script (script_of file) refl its
  where
    by_end : (script : List ScriptLine) (run : ClientRun) (end : ClientEnd) → script_of file ≡ Ok script → RunsClient script address turns (Ok run) calls → Once false run.client.log → run.end ≡ end
        → ending ≡ record { exit = exit_of end; text = client_text run.client.log } → Took ending.text s.before s.after → Tells s (Some (client address name turns)) ending.exit
    by_end script run client_ends.Done is fits once so e = told_at s (Some (client address name turns)) ending (record { exit = Done; text = client_text run.client.log }) e (λ put. record {
      file = file;
      held = content_is name file s.files s.files_after hears;
      script = script;
      says = is;
      run = run;
      ended = so;
      runs = record { calls = calls; fits = fits; seen = seen };
      once = once;
      put = put;
    })
    by_end script run (client_ends.Ended cause) is fits once so e = told_at s (Some (client address name turns)) ending (record { exit = Ended cause; text = client_text run.client.log }) e (λ put. record {
      file = file;
      held = content_is name file s.files s.files_after hears;
      script = script;
      says = is;
      run = run;
      ended = so;
      runs = record { calls = calls; fits = fits; seen = seen };
      once = once;
      put = put;
    })
    by_end script run client_ends.Turns is fits once so e = told_at s (Some (client address name turns)) ending (record { exit = Turns; text = client_text run.client.log }) e (λ put. record {
      file = file;
      held = content_is name file s.files s.files_after hears;
      script = script;
      says = is;
      run = run;
      ended = so;
      runs = record { calls = calls; fits = fits; seen = seen };
      once = once;
      put = put;
    })

    by_result : (script : List ScriptLine) (result : Result ClientRun WireRefusal) → script_of file ≡ Ok script → RunsClient script address turns result calls
        → IfOk result (λ (run : ClientRun). Once false run.client.log) → ending ≡ ran_ending result → Took ending.text s.before s.after → Tells s (Some (client address name turns)) ending.exit
    by_result script (Ok run) is fits once e = by_end script run run.end is fits once refl e
    by_result script (Err refusals.Failed) is fits once e = told_at s (Some (client address name turns)) ending wire_ending e (λ put. (
      subst (Rose s.wires.faults) (sym (ap (λ (w : WiresSeen). w.faults) seen)) (running_rises script address turns s.wires.faults calls fits),
      record {
        file = file;
        held = content_is name file s.files s.files_after hears;
        script = script;
        says = is;
        runs = record { calls = calls; fits = fits; seen = seen };
        put = put;
      },
    ))
    by_result script (Err refusals.NoMemory) is fits once e = told_at s (Some (client address name turns)) ending (ran_ending (Err refusals.NoMemory)) e (λ put. tt)

    by_script : (said : Result (List ScriptLine) BadLine) → script_of file ≡ said → IsRanEnding said address turns calls ending → Took ending.text s.before s.after
        → Tells s (Some (client address name turns)) ending.exit
    by_script (Err bad) is i = told_at s (Some (client address name turns)) ending (bad_ending bad) i.1 (λ put. record {
      name = name;
      named = refl;
      file = file;
      held = content_is name file s.files s.files_after hears;
      says = is;
      put = put;
    })
    by_script (Ok script) is i = by_result script i.result is i.runs i.once i.its

-- what holds of all chains holds of the one at a place
all_at_place : {A : Type 0} → (P : A → Type 0) (place : ℕ) (xs : List A) (x : A) → AllByRecursion P xs → slice_get xs place ≡ Some x → P x
all_at_place P place [] x all is = absurd cc
all_at_place P zero (y ∷ xs) x all is = let same : y ≡ x = cc in subst P same all.0
all_at_place P (suc place) (y ∷ xs) x all is = all_at_place P place xs x all.1 is

-- the log of each chain is true to the history, so that its journal meets all rules
played_is_judged : (file : List ℕ) (schedule : ScheduleValue) (place : ℕ) → schedule_of file ≡ Ok schedule
    → IsJudged (images_of schedule.images) (world_of schedule).history (log_at place (world_of schedule)) None
played_is_judged file schedule place says = by_chain (slice_get (world_of schedule).chains place) refl
  where
    by_chain : (chain : Option ChainValue) → slice_get (world_of schedule).chains place ≡ chain → IsJudged (images_of schedule.images) (world_of schedule).history (log_of chain) None
    by_chain None is = nothing_is_true (images_of schedule.images) (world_of schedule).history (file_faithful file schedule says).legal
    by_chain (Some c) is =
        let faithful = all_at_place (ChainIsFaithful (images_of schedule.images) (world_of schedule).history (world_of schedule).agent) place (world_of schedule).chains c (file_faithful file schedule says).chains is in
        true_logs (is_quiet c (world_of schedule).agent) (images_of schedule.images) (world_of schedule).history c.client.log (channels_of c)
        (file_faithful file schedule says).legal faithful.once faithful.ordered (all_at_place (λ (chain : ChainValue). Fresh chain.client.log (images_of schedule.images) (world_of schedule).history) place (world_of schedule).chains c (file_fresh file schedule says) is)

journal_tells : (s : Seen) (name head file : List ℕ) (ending : Ending) → Hears (name ∷ []) s.files s.files_after (whole (file ∷ [])) → ending ≡ journal_ending file head
    → Took ending.text s.before s.after → Tells s (Some (journal name head)) ending.exit
journal_tells s name head file ending hears its = by_schedule (schedule_of file) refl its
  where
    bad : (what : BadLine) → IsBadChain file head (schedule_of file) what → ending ≡ bad_ending what → Took ending.text s.before s.after → Tells s (Some (journal name head)) ending.exit
    bad what says e = told_at s (Some (journal name head)) ending (bad_ending what) e (λ put. record {
      name = name;
      named = refl;
      file = file;
      held = content_is name file s.files s.files_after hears;
      says = says;
      put = put;
    })

    by_place : (schedule : ScheduleValue) (place : Option ℕ) → schedule_of file ≡ Ok schedule → chain_of schedule.chains head ≡ place
        → ending ≡ chain_ending (length (lines_of file)) schedule place → Took ending.text s.before s.after → Tells s (Some (journal name head)) ending.exit
    by_place schedule None is there e =
        let unknown : BadLine = record { line = length (lines_of file) + 1; what = Unknown } in
        bad unknown (subst (λ r. IsBadChain file head r unknown) (sym is) (there, refl, refl)) e
    by_place schedule (Some at) is there e = told_at s (Some (journal name head)) ending (chain_ending (length (lines_of file)) schedule (Some at)) e (λ put. record {
      file = file;
      held = content_is name file s.files s.files_after hears;
      schedule = schedule;
      says = is;
      place = at;
      there = there;
      put = put;
      judged = played_is_judged file schedule at is;
    })

    by_schedule : (r : Result ScheduleValue BadLine) → schedule_of file ≡ r → ending ≡ journal_by (length (lines_of file)) head r → Took ending.text s.before s.after
        → Tells s (Some (journal name head)) ending.exit
    by_schedule (Ok schedule) is e = by_place schedule (chain_of schedule.chains head) is refl e
    by_schedule (Err first) is e = bad first (subst (λ r. IsBadChain file head r first) (sym is) refl) e

check_tells : (s : Seen) (name file : List ℕ) (ending : Ending) → Hears (name ∷ []) s.files s.files_after (whole (file ∷ [])) → IsJudgedEnding (journal_of file) ending
    → Took ending.text s.before s.after → Tells s (Some (check name)) ending.exit
check_tells s name file ending hears its = by_journal (journal_of file) refl its
  where
    by_verdict : (j : Journal) (verdict : Option Rule) → journal_of file ≡ Ok j → IsJudged j.images j.inputs j.lines verdict → ending ≡ verdict_ending verdict
        → Took ending.text s.before s.after → Tells s (Some (check name)) ending.exit
    by_verdict j None is judged e = told_at s (Some (check name)) ending (verdict_ending None) e (λ put. record {
      file = file;
      held = content_is name file s.files s.files_after hears;
      what = j;
      says = is;
      judged = judged;
      put = put;
    })
    by_verdict j (Some rule) is judged e = told_at s (Some (check name)) ending (verdict_ending (Some rule)) e (λ put. record {
      file = file;
      held = content_is name file s.files s.files_after hears;
      what = j;
      says = is;
      judged = judged;
      put = put;
    })

    by_which : (j : Journal) → journal_of file ≡ Ok j → IsVerdictEnding j ending → Took ending.text s.before s.after → Tells s (Some (check name)) ending.exit
    by_which j is (inl v) = by_verdict j v.0 is v.1 v.2
    by_which j is (inr e) = told_at s (Some (check name)) ending wanting_ending e (λ put. tt)

    by_journal : (r : Result Journal BadLine) → journal_of file ≡ r → IsJudgedEnding r ending → Took ending.text s.before s.after → Tells s (Some (check name)) ending.exit
    by_journal (Ok told) is j = by_which told is j
    by_journal (Err bad) is e = told_at s (Some (check name)) ending (bad_ending bad) e (λ put. record {
      name = name;
      named = refl;
      file = file;
      held = content_is name file s.files s.files_after hears;
      says = is;
      put = put;
    })

-- ---- any run

pub ending_tells : (s : Seen) (order : Option OrderValue) (heard : Heard) (calls : List WireCall) (ending : Ending) → Hears (names_of order) s.files s.files_after heard
    → s.wires_after ≡ with_calls calls s.wires → IsEnding order heard calls ending
    → Took ending.text s.before s.after → Tells s order ending.exit
ending_tells s None heard calls ending hears seen its = told_at s None ending usage_ending its.1 (λ put. (refl, put))
ending_tells s (Some order) (longer count) calls ending hears seen its =
    told_at s (Some order) ending (long_ending (first_place order + count)) its.1 (λ put. record {
      what = order;
      ordered = refl;
      count = count;
      some = hears.is_of;
      held = some_so (Agrees (files_named order) (longer count)) (IsFirstLong (files_named order) count) s.files.held (λ fs e. first_long (files_named order) count fs e) hears.agrees;
      place = refl;
      put = put;
    })
ending_tells s (Some order) (failed count) calls ending hears seen its = told_at s (Some order) ending fault_ending its.1 (λ put. (fails_last (files_named order) count s.files s.files_after hears, put))
ending_tells s (Some (chain name)) (whole []) calls ending hears seen its = absurd its
ending_tells s (Some (chain name)) (whole (file ∷ [])) calls ending hears seen its = chain_tells s name file ending hears its.1
ending_tells s (Some (chain name)) (whole (file ∷ other ∷ more)) calls ending hears seen its = absurd its
ending_tells s (Some (show name)) (whole []) calls ending hears seen its = absurd its
ending_tells s (Some (show name)) (whole (file ∷ [])) calls ending hears seen its = show_tells s name file ending its.1.0.text its.1.0.bad hears its.1.1 its.1.2
ending_tells s (Some (show name)) (whole (file ∷ other ∷ more)) calls ending hears seen its = absurd its
ending_tells s (Some (load number)) (whole []) calls ending hears seen its = load_tells s number ending its.1
ending_tells s (Some (load number)) (whole (file ∷ more)) calls ending hears seen its = absurd its
ending_tells s (Some (agent address turns images)) (whole contents) calls ending hears seen its =
    serving_tells s (agent address turns images) turns contents calls its.0 ending (agent_tells s address turns images)
    (λ so. serving_rises breaks turns s.wires.faults calls so.runs.ends) hears seen its.1 its.2
ending_tells s (Some (value address peer turns)) (whole []) calls ending hears seen its =
    serving_tells s (value address peer turns) turns [] calls its.0 ending (value_tells s address peer turns)
    (λ so. serving_rises breaks turns s.wires.faults calls so.runs.ends) hears seen its.1 its.2
ending_tells s (Some (hub address peer turns)) (whole []) calls ending hears seen its =
    serving_tells s (hub address peer turns) turns [] calls its.0 ending (hub_tells s address peer turns)
    (λ so. hub_rises peer address turns s.wires.faults calls so) hears seen its.1 its.2
ending_tells s (Some (hub address peer turns)) (whole (file ∷ more)) calls ending hears seen its = absurd its
ending_tells s (Some (value address peer turns)) (whole (file ∷ more)) calls ending hears seen its = absurd its
ending_tells s (Some (client address name turns)) (whole []) calls ending hears seen its = absurd its
ending_tells s (Some (client address name turns)) (whole (file ∷ [])) calls ending hears seen its =
    client_tells s address name file turns calls ending hears seen its
ending_tells s (Some (client address name turns)) (whole (file ∷ other ∷ more)) calls ending hears seen its = absurd its
ending_tells s (Some (journal name head)) (whole []) calls ending hears seen its = absurd its
ending_tells s (Some (journal name head)) (whole (file ∷ [])) calls ending hears seen its = journal_tells s name head file ending hears its.1
ending_tells s (Some (journal name head)) (whole (file ∷ other ∷ more)) calls ending hears seen its = absurd its
ending_tells s (Some (check name)) (whole []) calls ending hears seen its = absurd its
ending_tells s (Some (check name)) (whole (file ∷ [])) calls ending hears seen its = check_tells s name file ending hears its.1
ending_tells s (Some (check name)) (whole (file ∷ other ∷ more)) calls ending hears seen its = absurd its
