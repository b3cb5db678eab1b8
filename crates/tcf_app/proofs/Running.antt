-- How the run goes on from what was heard of the files.
use Rattle.std.proofs.Common.{◌≡◌, ℕ, ◌+◌, false, List, [], ◌∷◌, ◌++◌, length, refl, sym, subst, arith, inr}
use Rattle.std.specs.Prelude.{Option, None, Some, Result, Ok, Err, IfOk}
use Rattle.tcf_outside.specs.Files.{FilesSeen}
use Rattle.tcf_outside.specs.Sink.{SinkSeen}
use Rattle.tcf_schedules.specs.Refusal.{BadLine}
use Rattle.tcf_schedules.specs.Schedule.{ScheduleValue, chain_of, lines_of, schedule_of}
use Rattle.tcf_schedules.specs.Script.{script_of}
use Rattle.tcf_schedules.specs.declared.script.ScriptLine.{ScriptLine}
use Rattle.target_contexts.specs.declared.process.Image.{Image}
use Rattle.tcf_text.specs.Once.{Once}
use Rattle.tcf_wires.specs.Told.{WiresSeen}
use Rattle.tcf_wires.specs.declared.call.WireCall.{WireCall}
use Rattle.tcf_wires.specs.declared.event.WireRefusal.{WireRefusal}
use Rattle.tcf_wires.specs.declared.event.WireRefusal.TheVariants as refusals
use Rattle.serving_wires.specs.Calls.{Makes}
use Rattle.serving_wires.proofs.Making.{makes_none, makes_so}
use Rattle.agent_serving.specs.Serve.{ServesAgent}
use Rattle.hub_serving.specs.Serve.{ServesHub}
use Rattle.agent_serving.proofs.Opening.{none_served}
use Rattle.serving_wires.specs.declared.end.ServeEnd.{ServeEnd}
use Rattle.serving_wires.specs.declared.end.ServeEnd.TheVariants as serve_ends
use Rattle.value_serving.specs.Serve.{ServesValueAdds}
use Rattle.client_serving.specs.Run.{RunsClient, no_calls}
use Rattle.client_serving.specs.declared.end.ClientEnd.{ClientEnd}
use Rattle.client_serving.specs.declared.end.ClientEnd.TheVariants as client_ends
use Rattle.client_serving.specs.declared.end.ClientRun.{ClientRun}
use Rattle.tcf_app.specs.declared.exit.BadPlace.{BadPlace}
use Rattle.journal_text.specs.Journal.{journal_of}
use Rattle.journal_text.specs.declared.journal.Journal.{Journal}
use Rattle.tcf_app.specs.declared.exit.Exit.{Exit}
use Rattle.tcf_app.specs.declared.exit.Exit.TheVariants.{NoMemory}
use Rattle.tcf_app.specs.declared.reading.Unread.{Unread}
use Rattle.tcf_app.specs.declared.reading.Unread.TheVariants as unread
use Rattle.tcf_app.specs.Words.{NamedFile, OrderValue, chain, show, load, agent, value, client, hub, journal, check, files_in, files_named, first_place}
use Rattle.tcf_app.specs.Heard.{Heard, whole, longer, failed, Hears, HearsPart}
use Rattle.tcf_app.proofs.Outcomes.{each_is_shown}
use Rattle.tcf_app.specs.Ending.{Ending, Ends, EndsIn, EndsUnread, IsJudgedEnding, IsRanEnding, IsServedEnding, IsShownEnding, IsWholeEnding, bad_ending, chain_ending, contents_of, exit_of, fault_ending, images_with, journal_by, journal_ending, lines_ending, long_ending, played_ending, ran_ending, served_ending, summed_ending, usage_ending, wanting_ending}
use Rattle.tcf_app.specs.Run.{RunsBy}
use Rattle.tcf_app.proofs.Endings.{ends_early, ends_wanting}
use Rattle.tcf_app.proofs.Hearing.{NotFailed, can_hear, some_each}

-- ---- memory was wanting with nothing put and no call made

-- an ending of the order then, whatever the files hold
pub record Wants (order : OrderValue) (contents : List (List ℕ)) (sink : SinkSeen) : Type 0 where
  pub ending : Ending
  pub its : IsWholeEnding order contents [] ending
  pub ends : Ends ending NoMemory sink sink

abbrev pub CanWant : OrderValue → Type 0
CanWant order = (contents : List (List ℕ)) (sink : SinkSeen) → length contents ≡ length (files_named order) → Wants order contents sink

pub chain_wants : (name : List ℕ) → CanWant (chain name)
chain_wants name [] sink is = absurd (omega arith)
chain_wants name (file ∷ []) sink is =
    record { ending = played_ending (schedule_of file); its = (refl, refl); ends = ends_early (played_ending (schedule_of file)) sink (by_schedule (schedule_of file)) }
  where
    by_schedule : (r : Result ScheduleValue BadLine) → NoMemory ≡ (played_ending r).exit → ⊥
    by_schedule (Ok schedule) e = cc
    by_schedule (Err bad) e = cc
chain_wants name (file ∷ other ∷ more) sink is = absurd (omega arith)

pub show_wants : (name : List ℕ) → CanWant (show name)
show_wants name [] sink is = absurd (omega arith)
show_wants name (file ∷ []) sink is =
    let s = each_is_shown file in
    record { ending = lines_ending s.0.text s.0.bad; its = (refl, (s.0, s.1, refl)); ends = ends_early (lines_ending s.0.text s.0.bad) sink (by_bad s.0.text s.0.bad) }
  where
    by_bad : (text : List ℕ) (bad : Option BadPlace) → NoMemory ≡ (lines_ending text bad).exit → ⊥
    by_bad text None e = cc
    by_bad text (Some bad) e = cc
show_wants name (file ∷ other ∷ more) sink is = absurd (omega arith)

pub agent_wants : (address : List ℕ) (turns : ℕ) (images : List NamedFile) → CanWant (agent address turns images)
agent_wants address turns images contents sink is =
    record { ending = wanting_ending; its = (serve_ends.NoMemory, none_served (images_with images contents) address turns, refl); ends = ends_wanting sink }

-- an ending of what a script says, or of a script that is done
record WantsScript (said : Result (List ScriptLine) BadLine) (address : List ℕ) (turns : ℕ) (sink : SinkSeen) : Type 0 where
  ending : Ending
  its : IsRanEnding said address turns [] ending
  ends : Ends ending NoMemory sink sink

script_wants : (said : Result (List ScriptLine) BadLine) (address : List ℕ) (turns : ℕ) (sink : SinkSeen) → WantsScript said address turns sink
script_wants (Err bad) address turns sink = record { ending = bad_ending bad; its = (refl, refl); ends = ends_early (bad_ending bad) sink (λ e. cc) }
script_wants (Ok script) address turns sink =
    record {
      ending = wanting_ending;
      its = record { result = Err refusals.NoMemory; runs = no_calls refl refl; once = tt; its = refl };
      ends = ends_wanting sink;
    }

pub client_wants : (address name : List ℕ) (turns : ℕ) → CanWant (client address name turns)
client_wants address name turns [] sink is = absurd (omega arith)
client_wants address name turns (file ∷ []) sink is =
    let w = script_wants (script_of file) address turns sink in
    record { ending = w.ending; its = w.its; ends = w.ends }
client_wants address name turns (file ∷ other ∷ more) sink is = absurd (omega arith)

-- an ending of the schedule, or of the place of the chain
journal_early : (count : ℕ) (name : List ℕ) (said : Result ScheduleValue BadLine) (sink : SinkSeen) → Ends (journal_by count name said) NoMemory sink sink
journal_early count name (Err bad) sink = ends_early (bad_ending bad) sink (λ e. cc)
journal_early count name (Ok schedule) sink = by_place (chain_of schedule.chains name)
  where
    by_place : (place : Option ℕ) → Ends (chain_ending count schedule place) NoMemory sink sink
    by_place None = ends_early (chain_ending count schedule None) sink (λ e. cc)
    by_place (Some at) = ends_early (chain_ending count schedule (Some at)) sink (λ e. cc)

pub journal_wants : (name head : List ℕ) → CanWant (journal name head)
journal_wants name head [] sink is = absurd (omega arith)
journal_wants name head (file ∷ []) sink is =
    record { ending = journal_ending file head; its = (refl, refl); ends = journal_early (length (lines_of file)) head (schedule_of file) sink }
journal_wants name head (file ∷ other ∷ more) sink is = absurd (omega arith)

-- an ending of what a journal says, or want of memory
record WantsVerdict (said : Result Journal BadLine) (sink : SinkSeen) : Type 0 where
  ending : Ending
  its : IsJudgedEnding said ending
  ends : Ends ending NoMemory sink sink

verdict_wants : (said : Result Journal BadLine) (sink : SinkSeen) → WantsVerdict said sink
verdict_wants (Err bad) sink = record { ending = bad_ending bad; its = refl; ends = ends_early (bad_ending bad) sink (λ e. cc) }
verdict_wants (Ok j) sink = record { ending = wanting_ending; its = inr refl; ends = ends_wanting sink }

pub check_wants : (name : List ℕ) → CanWant (check name)
check_wants name [] sink is = absurd (omega arith)
check_wants name (file ∷ []) sink is =
    let w = verdict_wants (journal_of file) sink in
    record { ending = w.ending; its = (refl, w.its); ends = w.ends }
check_wants name (file ∷ other ∷ more) sink is = absurd (omega arith)

-- ---- not all files were read whole

runs_early : (order : OrderValue) → CanWant order → (files files' : FilesSeen) (sink : SinkSeen) → files'.faults ≡ files.faults → RunsBy (Some order) NoMemory files files' sink sink []
runs_early order can files files' sink calm =
    let c = can_hear (files_named order) files files' calm in
    by_heard c.heard c.hears c.good
  where
    by_heard : (h : Heard) → Hears (files_named order) files files' h → NotFailed h → RunsBy (Some order) NoMemory files files' sink sink []
    by_heard (whole contents) hears good =
        let w = can contents sink hears.is_of in
        record { heard = whole contents; hears = hears; ends = (w.ending, w.its, w.ends) }
    by_heard (longer count) hears good =
        let ending = long_ending (first_place order + count) in
        record { heard = longer count; hears = hears; ends = (ending, (refl, refl), ends_early ending sink (λ e. cc)) }
    by_heard (failed count) hears good = absurd good

pub runs_unread : (order : OrderValue) → CanWant order → (files files' : FilesSeen) (u : Unread) (exit : Exit) (before after : SinkSeen)
    → HearsPart (files_named order) files files' u → EndsUnread (first_place order) u exit before after → RunsBy (Some order) exit files files' before after []
runs_unread order can files files' (unread.Longer count) exit before after hears ends =
    record { heard = longer count; hears = hears; ends = (long_ending (first_place order + count), (refl, refl), ends) }
runs_unread order can files files' (unread.Failed count) exit before after hears ends =
    record { heard = failed count; hears = hears; ends = (fault_ending, (refl, refl), ends) }
runs_unread order can files files' unread.NoMemory exit before after hears ends =
    subst (λ x. RunsBy (Some order) x files files' before after []) (sym ends.0)
    (subst (λ t. RunsBy (Some order) NoMemory files files' before t []) (sym ends.1) (runs_early order can files files' before hears))

-- ---- all files were

pub chain_runs : (name file : List ℕ) (exit : Exit) (files files' : FilesSeen) (before after : SinkSeen)
    → Hears (name ∷ []) files files' (whole (file ∷ [])) → Ends (played_ending (schedule_of file)) exit before after → RunsBy (Some (chain name)) exit files files' before after []
chain_runs name file exit files files' before after hears ends =
    record { heard = whole (file ∷ []); hears = hears; ends = (played_ending (schedule_of file), (refl, refl), ends) }

pub show_runs : (name file : List ℕ) (exit : Exit) (files files' : FilesSeen) (before after : SinkSeen)
    → Hears (name ∷ []) files files' (whole (file ∷ [])) → EndsIn (IsShownEnding file) exit before after → RunsBy (Some (show name)) exit files files' before after []
show_runs name file exit files files' before after hears ends =
    record { heard = whole (file ∷ []); hears = hears; ends = (ends.0, (refl, ends.1), ends.2) }

pub journal_runs : (name head file : List ℕ) (exit : Exit) (files files' : FilesSeen) (before after : SinkSeen)
    → Hears (name ∷ []) files files' (whole (file ∷ [])) → Ends (journal_ending file head) exit before after → RunsBy (Some (journal name head)) exit files files' before after []
journal_runs name head file exit files files' before after hears ends =
    record { heard = whole (file ∷ []); hears = hears; ends = (journal_ending file head, (refl, refl), ends) }

pub check_runs : (name file : List ℕ) (exit : Exit) (files files' : FilesSeen) (before after : SinkSeen)
    → Hears (name ∷ []) files files' (whole (file ∷ [])) → EndsIn (IsJudgedEnding (journal_of file)) exit before after → RunsBy (Some (check name)) exit files files' before after []
check_runs name file exit files files' before after hears ends =
    record { heard = whole (file ∷ []); hears = hears; ends = (ends.0, (refl, ends.1), ends.2) }

pub agent_runs : (address : List ℕ) (turns : ℕ) (named : List NamedFile) (images : List Image) (exit : Exit) (files files' : FilesSeen) (before after : SinkSeen) (wires wires' : WiresSeen)
    → images ≡ images_with named (contents_of images) → Hears (files_in named) files files' (whole (contents_of images))
    → Makes (λ calls. EndsIn (IsServedEnding (ServesAgent images address turns) turns calls) exit before after) wires wires'
    → Makes (RunsBy (Some (agent address turns named)) exit files files' before after) wires wires'
agent_runs address turns named images exit files files' before after wires wires' same hears made =
    makes_so (λ calls. EndsIn (IsServedEnding (ServesAgent images address turns) turns calls) exit before after) (RunsBy (Some (agent address turns named)) exit files files' before after) wires wires'
    (λ calls e. record { heard = whole (contents_of images); hears = hears; ends = (e.0, subst (λ (is : List Image). IsServedEnding (ServesAgent is address turns) turns calls e.0) same e.1, e.2) })
    made

pub script_runs : (address name file : List ℕ) (turns : ℕ) (exit : Exit) (files files' : FilesSeen) (before after : SinkSeen) (wires wires' : WiresSeen)
    → Hears (name ∷ []) files files' (whole (file ∷ []))
    → Makes (λ calls. EndsIn (IsRanEnding (script_of file) address turns calls) exit before after) wires wires'
    → Makes (RunsBy (Some (client address name turns)) exit files files' before after) wires wires'
script_runs address name file turns exit files files' before after wires wires' hears made =
    makes_so (λ calls. EndsIn (IsRanEnding (script_of file) address turns calls) exit before after) (RunsBy (Some (client address name turns)) exit files files' before after) wires wires'
    (λ calls e. record { heard = whole (file ∷ []); hears = hears; ends = e })
    made

-- ---- no file is named

hears_none : (files : FilesSeen) → Hears [] files files (whole [])
hears_none files = record { is_of = refl; agrees = some_each (λ fs. whole [] ≡ whole []) files.held (λ fs. refl); counts = refl; last = tt }

pub load_runs : (number : ℕ) (files : FilesSeen) (exit : Exit) (before after : SinkSeen)
    → Ends (summed_ending number) exit before after → RunsBy (Some (load number)) exit files files before after []
load_runs number files exit before after ends = record { heard = whole []; hears = hears_none files; ends = (summed_ending number, (refl, refl), ends) }

pub value_runs : (address peer : List ℕ) (turns : ℕ) (files : FilesSeen) (exit : Exit) (before after : SinkSeen) (wires wires' : WiresSeen)
    → Makes (λ calls. EndsIn (IsServedEnding (ServesValueAdds peer address turns) turns calls) exit before after) wires wires'
    → Makes (RunsBy (Some (value address peer turns)) exit files files before after) wires wires'
value_runs address peer turns files exit before after wires wires' made =
    makes_so (λ calls. EndsIn (IsServedEnding (ServesValueAdds peer address turns) turns calls) exit before after) (RunsBy (Some (value address peer turns)) exit files files before after) wires wires'
    (λ calls e. record { heard = whole []; hears = hears_none files; ends = e })
    made

pub hub_runs : (address peer : List ℕ) (turns : ℕ) (files : FilesSeen) (exit : Exit) (before after : SinkSeen) (wires wires' : WiresSeen)
    → Makes (λ calls. EndsIn (IsServedEnding (ServesHub peer address turns) turns calls) exit before after) wires wires'
    → Makes (RunsBy (Some (hub address peer turns)) exit files files before after) wires wires'
hub_runs address peer turns files exit before after wires wires' made =
    makes_so (λ calls. EndsIn (IsServedEnding (ServesHub peer address turns) turns calls) exit before after) (RunsBy (Some (hub address peer turns)) exit files files before after) wires wires'
    (λ calls e. record { heard = whole []; hears = hears_none files; ends = e })
    made

-- the words are none of the forms
pub usage_runs : (order : Option OrderValue) (files : FilesSeen) (exit : Exit) (before after : SinkSeen)
    → order ≡ None → Ends usage_ending exit before after → RunsBy order exit files files before after []
usage_runs order files exit before after is ends =
    subst (λ o. RunsBy o exit files files before after []) (sym is)
    (record { heard = whole []; hears = hears_none files; ends = (usage_ending, (refl, refl), ends) })

-- ---- what came of the wires

-- the run of a client has no want of memory
pub ran_not_wanting : (end : ClientEnd) → NoMemory ≡ exit_of end → ⊥
ran_not_wanting client_ends.Done e = cc
ran_not_wanting (client_ends.Ended cause) e = cc
ran_not_wanting client_ends.Turns e = cc

pub served_ends : (Serves : ServeEnd → List WireCall → Type 0) (turns : ℕ) (end : ServeEnd) (exit : Exit) (before after : SinkSeen) (wires wires' : WiresSeen)
    → Makes (Serves end) wires wires' → Ends (served_ending turns end) exit before after
    → Makes (λ calls. EndsIn (IsServedEnding Serves turns calls) exit before after) wires wires'
served_ends Serves turns end exit before after wires wires' made ends =
    makes_so (Serves end) (λ calls. EndsIn (IsServedEnding Serves turns calls) exit before after) wires wires'
    (λ calls fits. (served_ending turns end, (end, fits, refl), ends))
    made

pub ran_ends : (said : Result (List ScriptLine) BadLine) (script : List ScriptLine) (address : List ℕ) (turns : ℕ) (result : Result ClientRun WireRefusal) (exit : Exit) (before after : SinkSeen) (wires wires' : WiresSeen)
    → said ≡ Ok script → Makes (RunsClient script address turns result) wires wires' → IfOk result (λ (run : ClientRun). Once false run.client.log) → Ends (ran_ending result) exit before after
    → Makes (λ calls. EndsIn (IsRanEnding said address turns calls) exit before after) wires wires'
ran_ends said script address turns result exit before after wires wires' is made once ends =
    subst (λ s. Makes (λ calls. EndsIn (IsRanEnding s address turns calls) exit before after) wires wires') (sym is)
    (makes_so (RunsClient script address turns result) (λ calls. EndsIn (IsRanEnding (Ok script) address turns calls) exit before after) wires wires'
    (λ calls fits. (ran_ending result, record { result = result; runs = fits; once = once; its = refl }, ends))
    made)

-- no call was made, since a line is bad,
pub bad_line_ends : (said : Result (List ScriptLine) BadLine) (bad : BadLine) (address : List ℕ) (turns : ℕ) (exit : Exit) (before after : SinkSeen) (wires : WiresSeen)
    → said ≡ Err bad → Ends (bad_ending bad) exit before after → Makes (λ calls. EndsIn (IsRanEnding said address turns calls) exit before after) wires wires
bad_line_ends said bad address turns exit before after wires is ends =
    subst (λ s. Makes (λ calls. EndsIn (IsRanEnding s address turns calls) exit before after) wires wires) (sym is)
    (makes_none (λ calls. EndsIn (IsRanEnding (Err bad) address turns calls) exit before after) wires (bad_ending bad, (refl, refl), ends))

-- or memory was wanting
pub unread_script_ends : (said : Result (List ScriptLine) BadLine) (address : List ℕ) (turns : ℕ) (before : SinkSeen) (wires : WiresSeen)
    → Makes (λ calls. EndsIn (IsRanEnding said address turns calls) NoMemory before before) wires wires
unread_script_ends said address turns before wires =
    let w = script_wants said address turns before in
    makes_none (λ calls. EndsIn (IsRanEnding said address turns calls) NoMemory before before) wires (w.ending, w.its, w.ends)
