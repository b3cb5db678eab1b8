-- How a run is to end.
use Rattle.std.specs.Prelude.{ℕ, ◌≡◌, ◌+◌, ◌⊎◌, false, List, [], ◌∷◌, ◌++◌, Option, None, Some, Result, Ok, Err, IfOk, length, map}
use Rattle.tcf_outside.specs.Sink.{SinkSeen, Took, TookFront}
use Rattle.tcf_schedules.specs.Refusal.{BadLine}
use Rattle.tcf_schedules.specs.Schedule.{ScheduleValue, chain_of, lines_of, schedule_of}
use Rattle.tcf_schedules.specs.declared.schedule.TextFault.TheVariants.{Unknown}
use Rattle.journal_text.specs.Journal.{journal_of}
use Rattle.journal_text.specs.declared.journal.Journal.{Journal}
use Rattle.log_check.specs.Rules.{IsJudged}
use Rattle.log_check.specs.declared.rule.Rule.{Rule}
use Rattle.tcf_schedules.specs.Script.{script_of}
use Rattle.tcf_schedules.specs.declared.script.ScriptLine.{ScriptLine}
use Rattle.target_contexts.specs.declared.process.Image.{Image}
use Rattle.tcf_text.specs.Once.{Once}
use Rattle.tcf_wires.specs.declared.call.WireCall.{WireCall}
use Rattle.tcf_wires.specs.declared.event.WireRefusal.{WireRefusal}
use Rattle.tcf_wires.specs.declared.event.WireRefusal.TheVariants as refusals
use Rattle.agent_serving.specs.Serve.{ServesAgent}
use Rattle.serving_wires.specs.declared.end.ServeEnd.{ServeEnd}
use Rattle.serving_wires.specs.declared.end.ServeEnd.TheVariants as serve_ends
use Rattle.value_serving.specs.Serve.{ServesValueAdds}
use Rattle.hub_serving.specs.Serve.{ServesHub}
use Rattle.client_serving.specs.Run.{RunsClient}
use Rattle.client_serving.specs.declared.end.ClientEnd.{ClientEnd}
use Rattle.client_serving.specs.declared.end.ClientEnd.TheVariants as client_ends
use Rattle.client_serving.specs.declared.end.ClientRun.{ClientRun}
use Rattle.tcf_app.specs.declared.exit.BadPlace.{BadPlace}
use Rattle.tcf_app.specs.declared.exit.Exit.{Exit}
use Rattle.tcf_app.specs.declared.exit.Exit.TheVariants.{Done, Usage, BadText, FileFault, WireFault, Turns, NoMemory, BadStream, Ended, TooLong, Differs}
use Rattle.tcf_app.specs.declared.reading.Unread.{Unread}
use Rattle.tcf_app.specs.declared.reading.Unread.TheVariants as unread
use Rattle.tcf_app.specs.Exit.{IsGivenUp}
use Rattle.tcf_app.specs.Words.{NamedFile, OrderValue, chain, show, load, agent, value, client, hub, journal, check, first_place}
use Rattle.tcf_app.specs.Texts.{usage_text, file_fault_text, wire_fault_text, too_long_text, turns_text, bad_line_text, bad_stream_text, ok_text, differs_text}
use Rattle.tcf_app.specs.Played.{printed, numbered, summed, client_text, journal_printed}
use Rattle.tcf_app.specs.Heard.{Heard, whole, longer, failed}
use Rattle.tcf_app.specs.Show.{Shown, IsShown}

-- how a run is to end, and the whole text that it is to put
pub record Ending : Type 0 where
  pub exit : Exit
  pub text : List ℕ

-- for words that are none of the forms
abbrev pub usage_ending : Ending
usage_ending = record { exit = Usage; text = usage_text }

-- for a file that can't be read
abbrev pub fault_ending : Ending
fault_ending = record { exit = FileFault; text = file_fault_text }

-- for a file that is too long, which this word names
abbrev pub long_ending : ℕ → Ending
long_ending word = record { exit = TooLong word; text = too_long_text word }

-- for a bad line
abbrev pub bad_ending : BadLine → Ending
bad_ending bad = record { exit = BadText bad.line bad.what; text = bad_line_text bad.line bad.what }

-- where the wires failed
abbrev pub wire_ending : Ending
wire_ending = record { exit = WireFault; text = wire_fault_text }

-- where memory was wanting before there was anything to put
abbrev pub wanting_ending : Ending
wanting_ending = record { exit = NoMemory; text = [] }

-- ---- chain

-- for what a schedule's file says
abbrev pub played_ending : Result ScheduleValue BadLine → Ending
played_ending (Ok schedule) = record { exit = Done; text = printed schedule }
played_ending (Err bad) = bad_ending bad

-- ---- show

-- for the lines that a stream's file is shown as, and its bad place
abbrev pub lines_ending : List ℕ → Option BadPlace → Ending
lines_ending text None = record { exit = Done; text = text }
lines_ending text (Some bad) = record { exit = BadStream bad.offset bad.what; text = text ++ bad_stream_text bad }

-- for a stream's file
abbrev pub IsShownEnding : List ℕ → Ending → Type 0
IsShownEnding file ending = (shown : Shown) × IsShown file shown × (ending ≡ lines_ending shown.text shown.bad)

-- ---- journal

-- for a schedule that is read, by the place of the chain; where it has none, the line behind the last one is bad
abbrev pub chain_ending : ℕ → ScheduleValue → Option ℕ → Ending
chain_ending count schedule None = bad_ending (record { line = count + 1; what = Unknown })
chain_ending count schedule (Some at) = record { exit = Done; text = journal_printed at schedule }

-- for what a schedule's file of so many lines says
abbrev pub journal_by : ℕ → List ℕ → Result ScheduleValue BadLine → Ending
journal_by count name (Ok schedule) = chain_ending count schedule (chain_of schedule.chains name)
journal_by count name (Err bad) = bad_ending bad

abbrev pub journal_ending : List ℕ → List ℕ → Ending
journal_ending file name = journal_by (length (lines_of file)) name (schedule_of file)

-- ---- check

-- for a verdict
abbrev pub verdict_ending : Option Rule → Ending
verdict_ending None = record { exit = Done; text = ok_text }
verdict_ending (Some rule) = record { exit = Differs rule; text = differs_text rule }

-- for a journal, or for want of memory before there was a verdict
abbrev pub IsVerdictEnding : Journal → Ending → Type 0
IsVerdictEnding j ending =
    ((verdict : Option Rule) × IsJudged j.images j.inputs j.lines verdict × (ending ≡ verdict_ending verdict)) ⊎ (ending ≡ wanting_ending)

-- for what a journal's file says
abbrev pub IsJudgedEnding : Result Journal BadLine → Ending → Type 0
IsJudgedEnding (Ok j) ending = IsVerdictEnding j ending
IsJudgedEnding (Err bad) ending = ending ≡ bad_ending bad

-- ---- load

-- for the schedule that a number gives
abbrev pub summed_ending : ℕ → Ending
summed_ending number = record { exit = Done; text = summed (numbered number) }

-- ---- agent, value and hub

-- the images that an agent has: the names that the words give, with what their files hold
abbrev pub images_with : List NamedFile → List (List ℕ) → List Image
images_with (named ∷ later) (bytes ∷ contents) = record { name = named.name; bytes = bytes } ∷ images_with later contents
images_with named contents = []

-- what their files hold
abbrev pub contents_of : List Image → List (List ℕ)
contents_of images = map (λ (image : Image). image.bytes) images

-- what is served by an order, by what the files that it names hold: its serving ends so, by these calls
abbrev pub ServesAs : OrderValue → List (List ℕ) → ServeEnd → List WireCall → Type 0
ServesAs (agent address turns images) contents end calls = ServesAgent (images_with images contents) address turns end calls
ServesAs (value address peer turns) [] end calls = ServesValueAdds peer address turns end calls
ServesAs (hub address peer turns) [] end calls = ServesHub peer address turns end calls
ServesAs order contents end calls = ⊥

-- for how the serving ended, of so many turns
abbrev pub served_ending : ℕ → ServeEnd → Ending
served_ending turns (serve_ends.Stopped events) = record { exit = Done; text = turns_text events }
served_ending turns serve_ends.Turns = record { exit = Turns; text = turns_text turns }
served_ending turns serve_ends.WireFault = wire_ending
served_ending turns serve_ends.NoMemory = wanting_ending

-- for a serving of so many turns by these calls
abbrev pub IsServedEnding : (ServeEnd → List WireCall → Type 0) → ℕ → List WireCall → Ending → Type 0
IsServedEnding Serves turns calls ending = (end : ServeEnd) × Serves end calls × (ending ≡ served_ending turns end)

-- ---- client

abbrev pub exit_of : ClientEnd → Exit
exit_of client_ends.Done = Done
exit_of (client_ends.Ended cause) = Ended cause
exit_of client_ends.Turns = Turns

-- for what the run comes to
abbrev pub ran_ending : Result ClientRun WireRefusal → Ending
ran_ending (Ok run) = record { exit = exit_of run.end; text = client_text run.client.log }
ran_ending (Err refusals.Failed) = wire_ending
ran_ending (Err refusals.NoMemory) = wanting_ending

-- A client does this script by these calls, and its run comes to this ending. Whatever bytes came, and on whatever exit: in
-- the log of the run each command is answered once.
pub record HasRanTo (script : List ScriptLine) (address : List ℕ) (turns : ℕ) (calls : List WireCall) (ending : Ending) : Type 0 where
  pub result : Result ClientRun WireRefusal
  pub runs : RunsClient script address turns result calls
  pub once : IfOk result (λ (run : ClientRun). Once false run.client.log)
  pub its : ending ≡ ran_ending result

-- for what a script's file says, and the calls of the client that does it
abbrev pub IsRanEnding : Result (List ScriptLine) BadLine → List ℕ → ℕ → List WireCall → Ending → Type 0
IsRanEnding (Err bad) address turns calls ending = (calls ≡ []) × (ending ≡ bad_ending bad)
IsRanEnding (Ok script) address turns calls ending = HasRanTo script address turns calls ending

-- ---- each order

-- for the contents of the files: `chain`, `show`, `client`, `journal` and `check` name one, `load`, `value` and `hub` none
abbrev pub IsWholeEnding : OrderValue → List (List ℕ) → List WireCall → Ending → Type 0
IsWholeEnding (chain name) (file ∷ []) calls ending = (calls ≡ []) × (ending ≡ played_ending (schedule_of file))
IsWholeEnding (show name) (file ∷ []) calls ending = (calls ≡ []) × IsShownEnding file ending
IsWholeEnding (load number) [] calls ending = (calls ≡ []) × (ending ≡ summed_ending number)
IsWholeEnding (agent address turns images) contents calls ending = IsServedEnding (ServesAs (agent address turns images) contents) turns calls ending
IsWholeEnding (value address peer turns) [] calls ending = IsServedEnding (ServesAs (value address peer turns) []) turns calls ending
IsWholeEnding (hub address peer turns) [] calls ending = IsServedEnding (ServesAs (hub address peer turns) []) turns calls ending
IsWholeEnding (client address name turns) (file ∷ []) calls ending = IsRanEnding (script_of file) address turns calls ending
IsWholeEnding (journal schedule name) (file ∷ []) calls ending = (calls ≡ []) × (ending ≡ journal_ending file name)
IsWholeEnding (check name) (file ∷ []) calls ending = (calls ≡ []) × IsJudgedEnding (journal_of file) ending
IsWholeEnding order contents calls ending = ⊥

-- For an order, or for words that are none, by what was heard of the files that it names, and the calls of the wires, of
-- which there are none unless all files were read whole.
abbrev pub IsEnding : Option OrderValue → Heard → List WireCall → Ending → Type 0
IsEnding None heard calls ending = (calls ≡ []) × (ending ≡ usage_ending)
IsEnding (Some order) (whole contents) calls ending = IsWholeEnding order contents calls ending
IsEnding (Some order) (longer before) calls ending = (calls ≡ []) × (ending ≡ long_ending (first_place order + before))
IsEnding (Some order) (failed before) calls ending = (calls ≡ []) × (ending ≡ fault_ending)

-- ---- how it ends then

-- A run with this ending ends so, or is given up; what was told then is a front of the text, and else all of it.
pub record Ends (ending : Ending) (exit : Exit) (before after : SinkSeen) : Type 0 where
  pub which : (exit ≡ ending.exit) ⊎ IsGivenUp exit
  pub whole : exit ≡ ending.exit → Took ending.text before after
  pub front : TookFront ending.text before after

-- the run ends as one of these endings is
abbrev pub EndsIn : (Ending → Type 0) → Exit → SinkSeen → SinkSeen → Type 0
EndsIn IsIts exit before after = (ending : Ending) × IsIts ending × Ends ending exit before after

-- where the files weren't all read whole, of which this word names the first; where memory was wanting nothing was put
abbrev pub EndsUnread : ℕ → Unread → Exit → SinkSeen → SinkSeen → Type 0
EndsUnread place (unread.Longer count) exit before after = Ends (long_ending (place + count)) exit before after
EndsUnread place (unread.Failed count) exit before after = Ends fault_ending exit before after
EndsUnread place unread.NoMemory exit before after = (exit ≡ NoMemory) × (after ≡ before)
