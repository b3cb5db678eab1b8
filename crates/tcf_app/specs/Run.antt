-- What each end of a run tells.
use Rattle.std.specs.Prelude.{ℕ, ◌≡◌, ◌+◌, ◌<◌, ◌⊎◌, Bool, true, false, List, [], ◌∷◌, ◌++◌, length, Option, None, Some, Result, Ok, Err, IfSome}
use Rattle.std.specs.List.{list_any}
use Rattle.tcf_outside.specs.Faults.{Rose}
use Rattle.tcf_outside.specs.Files.{FilesSeen, content_of}
use Rattle.tcf_outside.specs.Sink.{SinkSeen, Took, TookFront}
use Rattle.tcf_outside.specs.declared.files.HeldFile.{HeldFile}
use Rattle.channel_core.specs.declared.states.Cause.{Cause}
use Rattle.tcf_schedules.specs.Refusal.{BadLine}
use Rattle.tcf_schedules.specs.Schedule.{ScheduleValue, chain_of, lines_of, schedule_of}
use Rattle.tcf_schedules.specs.declared.schedule.TextFault.TheVariants.{Unknown}
use Rattle.journal_text.specs.Journal.{journal_of}
use Rattle.journal_text.specs.declared.journal.Journal.{Journal}
use Rattle.log_check.specs.Rules.{IsJudged}
use Rattle.log_check.specs.declared.rule.Rule.{Rule}
use Rattle.tcf_schedules.specs.Script.{script_of}
use Rattle.tcf_schedules.specs.declared.script.ScriptLine.{ScriptLine}
use Rattle.tcf_text.specs.Once.{Once}
use Rattle.tcf_wires.specs.Told.{WiresSeen}
use Rattle.tcf_wires.specs.declared.call.WireCall.{WireCall}
use Rattle.tcf_wires.specs.declared.call.WireCall.TheVariants.{Connected, Listened}
use Rattle.tcf_wires.specs.declared.event.WireRefusal.TheVariants as refusals
use Rattle.serving_wires.specs.Calls.{Makes, events_in}
use Rattle.serving_wires.specs.Serving.{fails, breaks, stops}
use Rattle.serving_wires.specs.declared.end.ServeEnd.{ServeEnd}
use Rattle.serving_wires.specs.declared.end.ServeEnd.TheVariants as serve_ends
use Rattle.client_serving.specs.Run.{RunsClient}
use Rattle.client_serving.specs.Serving.{after_events}
use Rattle.client_serving.specs.declared.end.ClientEnd.{ClientEnd}
use Rattle.client_serving.specs.declared.end.ClientEnd.TheVariants as client_ends
use Rattle.client_serving.specs.declared.end.ClientRun.{ClientRun}
use Rattle.world_laws.specs.EndLaws.{EndsAllRightly}
use Rattle.chain_world.specs.World.{images_of, log_at}
use Rattle.world_laws.specs.StepLaws.{AllSaySteps}
use Rattle.world_laws.specs.WorldLaws.{AreCoherent, AreFresh, IsFaithful, NothingIsStuck}
use Rattle.tcf_app.specs.Exit.{IsGivenUp}
use Rattle.tcf_app.specs.declared.exit.BadPlace.{BadPlace}
use Rattle.tcf_app.specs.declared.exit.Exit.{Exit}
use Rattle.tcf_app.specs.declared.exit.Exit.TheVariants.{Done, Usage, BadText, FileFault, SinkFault, WireFault, Turns, NoMemory, BadStream, Ended, TooLong, Differs}
use Rattle.tcf_app.specs.Words.{OrderValue, chain, show, load, agent, value, client, hub, journal, check, first_place, files_named, names_of}
use Rattle.tcf_app.specs.Texts.{wire_fault_text, turns_text, bad_line_text, bad_stream_text, too_long_text, ok_text, differs_text}
use Rattle.tcf_app.specs.Played.{printed, numbered, summed, client_text, journal_printed, world_of}
use Rattle.tcf_app.specs.Heard.{Heard, Hears, heard_in, IsHeld, AreHeld, IsFirstLong, FailsLast}
use Rattle.tcf_app.specs.Show.{IsShown}
use Rattle.tcf_app.specs.Ending.{Ending, Ends, EndsIn, IsEnding, ServesAs, exit_of, fault_ending, wire_ending}

-- ---- the run as a whole

-- Something was heard of the files that the order names, these calls were made, and the run ends as it is to end then.
pub record RunsBy (order : Option OrderValue) (exit : Exit) (files files' : FilesSeen) (before after : SinkSeen) (calls : List WireCall) : Type 0 where
  pub heard : Heard
  pub hears : Hears (names_of order) files files' heard
  pub ends : EndsIn (IsEnding order heard calls) exit before after

-- the run made such calls: by what is seen of the files, the wires and the sink, before it and after it
abbrev pub Runs : Option OrderValue → Exit → FilesSeen → FilesSeen → WiresSeen → WiresSeen → SinkSeen → SinkSeen → Type 0
Runs order exit files files' wires wires' before after = Makes (RunsBy order exit files files' before after) wires wires'

-- ---- chain, load and show

-- The file says a schedule. Exactly its text was put: each chain with the log that playing the schedule gives, and
-- the length of the history. Each log is true to that history, ends only as the steps say, and has one line for each step
-- that asks something of its client, in their order; what each client keeps, and shows where its cache is asked, and what each
-- bound value-add knows, is true of the target at the position of the last message; each answer to a command that a value-add
-- may answer is what the target answers at its position; and nothing is stuck.
pub record IsPlayed (name : List ℕ) (files : FilesSeen) (before after : SinkSeen) : Type 0 where
  pub file : List ℕ
  pub held : IsHeld name file files
  pub schedule : ScheduleValue
  pub says : schedule_of file ≡ Ok schedule
  pub put : Took (printed schedule) before after
  pub faithful : IsFaithful (images_of schedule.images) (world_of schedule)
  pub ends : EndsAllRightly schedule.plans (world_of schedule)
  pub steps : AllSaySteps schedule.plans (world_of schedule)
  pub coherent : AreCoherent (images_of schedule.images) (world_of schedule)
  pub fresh : AreFresh (images_of schedule.images) (world_of schedule)
  pub unstuck : NothingIsStuck (world_of schedule)

-- Exactly the sum of the schedule that the number gives was put: a line for each chain, which sums up the log that playing
-- the schedule gives, and the length of the history. Of that world the same holds as of one that a file says.
pub record IsSummed (number : ℕ) (before after : SinkSeen) : Type 0 where
  pub put : Took (summed (numbered number)) before after
  pub faithful : IsFaithful (images_of (numbered number).images) (world_of (numbered number))
  pub ends : EndsAllRightly (numbered number).plans (world_of (numbered number))
  pub steps : AllSaySteps (numbered number).plans (world_of (numbered number))
  pub coherent : AreCoherent (images_of (numbered number).images) (world_of (numbered number))
  pub fresh : AreFresh (images_of (numbered number).images) (world_of (numbered number))
  pub unstuck : NothingIsStuck (world_of (numbered number))

-- The file is shown without a bad place, and exactly the lines of its messages were put.
pub record IsPrinted (name : List ℕ) (files : FilesSeen) (before after : SinkSeen) : Type 0 where
  pub file : List ℕ
  pub held : IsHeld name file files
  pub text : List ℕ
  pub shown : IsShown file (record { text = text; bad = None })
  pub put : Took text before after

-- ---- agent, value, hub and client

-- What this order serves was served, by what the files that it names hold; its serving ended so, and this text was put.
pub record IsServed (order : OrderValue) (end : ServeEnd) (text : List ℕ) (files : FilesSeen) (wires wires' : WiresSeen) (before after : SinkSeen) : Type 0 where
  pub contents : List (List ℕ)
  pub held : AreHeld (files_named order) contents files
  pub serves : Makes (ServesAs order contents end) wires wires'
  pub put : Took text before after

-- so many events were taken, of which the last was `Stop`
abbrev pub IsStoppedServing : OrderValue → FilesSeen → WiresSeen → WiresSeen → SinkSeen → SinkSeen → Type 0
IsStoppedServing order files wires wires' before after = (events : ℕ) × IsServed order (serve_ends.Stopped events) (turns_text events) files wires wires' before after

-- A client did the script that this file says; its run ended so, and its log was put, in which each command is answered
-- once.
pub record HasRun (address name : List ℕ) (turns : ℕ) (end : ClientEnd) (files : FilesSeen) (wires wires' : WiresSeen) (before after : SinkSeen) : Type 0 where
  pub file : List ℕ
  pub held : IsHeld name file files
  pub script : List ScriptLine
  pub says : script_of file ≡ Ok script
  pub run : ClientRun
  pub ended : run.end ≡ end
  pub runs : Makes (RunsClient script address turns (Ok run)) wires wires'
  pub once : Once false run.client.log
  pub put : Took (client_text run.client.log) before after

-- A client was to do the script that this file says, and the wires failed.
pub record HasFailed (address name : List ℕ) (turns : ℕ) (files : FilesSeen) (wires wires' : WiresSeen) (before after : SinkSeen) : Type 0 where
  pub file : List ℕ
  pub held : IsHeld name file files
  pub script : List ScriptLine
  pub says : script_of file ≡ Ok script
  pub runs : Makes (RunsClient script address turns (Err refusals.Failed)) wires wires'
  pub put : Took wire_fault_text before after

-- ---- each exit, by what was ordered

-- The file says a schedule that has a chain of this name. Exactly the chain's journal was put: the images, the history and
-- the log that playing the schedule gives, which meet all rules of a journal.
pub record IsWrittenDown (name head : List ℕ) (files : FilesSeen) (before after : SinkSeen) : Type 0 where
  pub file : List ℕ
  pub held : IsHeld name file files
  pub schedule : ScheduleValue
  pub says : schedule_of file ≡ Ok schedule
  pub place : ℕ
  pub there : chain_of schedule.chains head ≡ Some place
  pub put : Took (journal_printed place schedule) before after
  pub judged : IsJudged (images_of schedule.images) (world_of schedule).history (log_at place (world_of schedule)) None

-- The file says a journal, of which this is the verdict, and the text that says so was put.
pub record HasVerdict (name : List ℕ) (verdict : Option Rule) (text : List ℕ) (files : FilesSeen) (before after : SinkSeen) : Type 0 where
  pub file : List ℕ
  pub held : IsHeld name file files
  pub what : Journal
  pub says : journal_of file ≡ Ok what
  pub judged : IsJudged what.images what.inputs what.lines verdict
  pub put : Took text before after

-- what was done; of an agent, of value-adds and of a hub, that `Stop` came, as the last of so many events
abbrev pub IsDone : Option OrderValue → FilesSeen → WiresSeen → WiresSeen → SinkSeen → SinkSeen → Type 0
IsDone None files wires wires' before after = ⊥
IsDone (Some (chain name)) files wires wires' before after = IsPlayed name files before after
IsDone (Some (show name)) files wires wires' before after = IsPrinted name files before after
IsDone (Some (load number)) files wires wires' before after = IsSummed number before after
IsDone (Some (agent address turns images)) files wires wires' before after = IsStoppedServing (agent address turns images) files wires wires' before after
IsDone (Some (value address peer turns)) files wires wires' before after = IsStoppedServing (value address peer turns) files wires wires' before after
IsDone (Some (hub address peer turns)) files wires wires' before after = IsStoppedServing (hub address peer turns) files wires wires' before after
IsDone (Some (client address name turns)) files wires wires' before after = HasRun address name turns client_ends.Done files wires wires' before after
IsDone (Some (journal name head)) files wires wires' before after = IsWrittenDown name head files before after
IsDone (Some (check name)) files wires wires' before after = HasVerdict name None ok_text files before after

-- the journal that `check` names breaks this rule first
abbrev pub HasDiffered : Rule → Option OrderValue → FilesSeen → SinkSeen → SinkSeen → Type 0
HasDiffered rule (Some (check name)) files before after = HasVerdict name (Some rule) (differs_text rule) files before after
HasDiffered rule order files before after = ⊥

-- all turns were taken
abbrev pub AreTaken : Option OrderValue → FilesSeen → WiresSeen → WiresSeen → SinkSeen → SinkSeen → Type 0
AreTaken (Some (agent address turns images)) files wires wires' before after =
    IsServed (agent address turns images) serve_ends.Turns (turns_text turns) files wires wires' before after
AreTaken (Some (value address peer turns)) files wires wires' before after =
    IsServed (value address peer turns) serve_ends.Turns (turns_text turns) files wires wires' before after
AreTaken (Some (client address name turns)) files wires wires' before after = HasRun address name turns client_ends.Turns files wires wires' before after
AreTaken (Some (hub address peer turns)) files wires wires' before after =
    IsServed (hub address peer turns) serve_ends.Turns (turns_text turns) files wires wires' before after
AreTaken order files wires wires' before after = ⊥

-- a client's run ended for this cause
abbrev pub HasEnded : Cause → Option OrderValue → FilesSeen → WiresSeen → WiresSeen → SinkSeen → SinkSeen → Type 0
HasEnded cause (Some (client address name turns)) files wires wires' before after = HasRun address name turns (client_ends.Ended cause) files wires wires' before after
HasEnded cause order files wires wires' before after = ⊥

-- a call of the wires failed, the last one; of value-adds, that one listened or asked for an event, and didn't connect
abbrev pub HaveFailed : Option OrderValue → FilesSeen → WiresSeen → WiresSeen → SinkSeen → SinkSeen → Type 0
HaveFailed (Some (agent address turns images)) files wires wires' before after =
    IsServed (agent address turns images) serve_ends.WireFault wire_fault_text files wires wires' before after
HaveFailed (Some (value address peer turns)) files wires wires' before after =
    IsServed (value address peer turns) serve_ends.WireFault wire_fault_text files wires wires' before after
HaveFailed (Some (client address name turns)) files wires wires' before after = HasFailed address name turns files wires wires' before after
HaveFailed (Some (hub address peer turns)) files wires wires' before after =
    IsServed (hub address peer turns) serve_ends.WireFault wire_fault_text files wires wires' before after
HaveFailed order files wires wires' before after = ⊥

-- a schedule's file has this line as its first bad one; where it has none, and no chain of this name, it lacks that at the
-- line behind the last one
abbrev pub IsBadChain : List ℕ → List ℕ → Result ScheduleValue BadLine → BadLine → Type 0
IsBadChain file name (Ok schedule) bad =
    (chain_of schedule.chains name ≡ None) × (bad.line ≡ length (lines_of file) + 1) × (bad.what ≡ Unknown)
IsBadChain file name (Err first) bad = first ≡ bad

-- a file has this line as its first bad one, by the command that reads it
abbrev pub SaysBad : Option OrderValue → List ℕ → BadLine → Type 0
SaysBad (Some (chain name)) file bad = schedule_of file ≡ Err bad
SaysBad (Some (client address name turns)) file bad = script_of file ≡ Err bad
SaysBad (Some (journal schedule name)) file bad = IsBadChain file name (schedule_of file) bad
SaysBad (Some (check name)) file bad = journal_of file ≡ Err bad
SaysBad order file bad = ⊥

-- The file that `chain`, `client`, `journal` or `check` names has this line as its first bad one, with this as the first of its reasons, and
-- the text that says so was put.
pub record IsBadText (order : Option OrderValue) (files : FilesSeen) (bad : BadLine) (before after : SinkSeen) : Type 0 where
  pub name : List ℕ
  pub named : names_of order ≡ name ∷ []
  pub file : List ℕ
  pub held : IsHeld name file files
  pub says : SaysBad order file bad
  pub put : Took (bad_line_text bad.line bad.what) before after

-- The file that `show` names is shown with this bad place. The lines before it were put, and the text that names it.
pub record IsBadStream (order : Option OrderValue) (files : FilesSeen) (bad : BadPlace) (before after : SinkSeen) : Type 0 where
  pub name : List ℕ
  pub ordered : order ≡ Some (show name)
  pub file : List ℕ
  pub held : IsHeld name file files
  pub text : List ℕ
  pub shown : IsShown file (record { text = text; bad = Some bad })
  pub put : Took (text ++ bad_stream_text bad) before after

-- The file that this word names is the first one that has more bytes than the limit, and the text that says so was put.
pub record IsTooLong (order : Option OrderValue) (files : FilesSeen) (word : ℕ) (before after : SinkSeen) : Type 0 where
  pub what : OrderValue
  pub ordered : order ≡ Some what
  pub count : ℕ
  pub some : count < length (files_named what)
  pub held : IfSome files.held (IsFirstLong (files_named what) count)
  pub place : word ≡ first_place what + count
  pub put : Took (too_long_text word) before after

-- ---- where the wires are used

abbrev pub serves_peers : Option OrderValue → Bool
serves_peers None = false
serves_peers (Some (chain name)) = false
serves_peers (Some (show name)) = false
serves_peers (Some (load number)) = false
serves_peers (Some (agent address turns images)) = true
serves_peers (Some (value address peer turns)) = true
serves_peers (Some (client address name turns)) = true
serves_peers (Some (hub address peer turns)) = true
serves_peers (Some (journal name head)) = false
serves_peers (Some (check name)) = false

-- the exit comes before the wires are used
abbrev pub is_early : Exit → Bool
is_early Done = false
is_early Usage = true
is_early (BadText line what) = true
is_early FileFault = true
is_early SinkFault = false
is_early WireFault = false
is_early Turns = false
is_early NoMemory = false
is_early (BadStream offset what) = true
is_early (Ended cause) = false
is_early (TooLong word) = true
is_early (Differs rule) = false

-- the wires aren't used by an order that serves nobody, nor before an early exit
abbrev pub SparesWires : Option OrderValue → Exit → Type 0
SparesWires order exit = (serves_peers order ≡ false) ⊎ (is_early exit ≡ true)

-- which calls end the run: those that failed, a lost put aside, and a value-add's connect
abbrev pub ends_run : Option OrderValue → WireCall → Bool
ends_run (Some (value address peer turns)) = breaks
ends_run order = fails

-- such a call ends the run with the line that says so, or while that is put
abbrev pub AreHeeded : Option OrderValue → Exit → SinkSeen → SinkSeen → List WireCall → Type 0
AreHeeded order exit before after calls = (list_any (ends_run order) calls ≡ false) ⊎ Ends wire_ending exit before after

-- a read that failed, of a file with one of these names, is the last one, is counted once, and ends the run with
-- the line that says so, or while that is put
abbrev pub IsReadHeeded : List (List ℕ) → Exit → FilesSeen → FilesSeen → SinkSeen → SinkSeen → Type 0
IsReadHeeded names exit files files' before after =
    (files'.faults ≡ files.faults) ⊎ (FailsLast names files files' × Ends fault_ending exit before after)

-- ---- the one end of a serving command, by its calls

-- the run ends so, or is given up
abbrev pub EndsOnly : Exit → Exit → Type 0
EndsOnly wanted exit = (exit ≡ wanted) ⊎ IsGivenUp exit

-- first the address was listened on
abbrev pub BeginsListening : List ℕ → List WireCall → Type 0
BeginsListening address calls = (later : List WireCall) × (calls ≡ Listened address (Ok tt) ∷ later)

-- first the peer was connected to, and then the address was listened on
abbrev pub BeginsConnected : List ℕ → List ℕ → List WireCall → Type 0
BeginsConnected peer address calls = (channel : ℕ) × ((later : List WireCall) × (calls ≡ Connected peer (Ok channel) ∷ Listened address (Ok tt) ∷ later))

-- Of an agent, of value-adds and of a hub: where Stop came the run is done. Where it began so, Stop didn't come, and as many
-- events came as there are turns, they were taken.
pub record IsEndOfServing (Begins : List WireCall → Type 0) (turns : ℕ) (exit : Exit) (calls : List WireCall) : Type 0 where
  pub stopped : stops calls ≡ true → EndsOnly Done exit
  pub taken : Begins calls → stops calls ≡ false → length (events_in calls) ≡ turns → EndsOnly Turns exit

-- the client connected, and by its script and what came its run has this end, or none
pub record ComesTo (script : List ScriptLine) (address : List ℕ) (end : Option ClientEnd) (calls : List WireCall) : Type 0 where
  pub channel : ℕ
  pub later : List WireCall
  pub connects : calls ≡ Connected address (Ok channel) ∷ later
  pub end_is : (after_events address channel script (events_in calls)).end ≡ end

-- Of a client that connected: where its run has an end it ends so. Where it has none, and as many events came as there are
-- turns, they were taken.
pub record IsEndOfRun (script : List ScriptLine) (address : List ℕ) (turns : ℕ) (exit : Exit) (calls : List WireCall) : Type 0 where
  pub ended : (end : ClientEnd) → ComesTo script address (Some end) calls → EndsOnly (exit_of end) exit
  pub taken : ComesTo script address None calls → length (events_in calls) ≡ turns → EndsOnly Turns exit

-- the same of a file that says the script
abbrev pub IsEndOfScript : List ℕ → List ℕ → ℕ → Exit → List WireCall → Type 0
IsEndOfScript file address turns exit calls = (script : List ScriptLine) → script_of file ≡ Ok script → IsEndOfRun script address turns exit calls

-- where a command serves, by what was ordered; of a client where the files are told
abbrev pub IsOneEnd : Option OrderValue → FilesSeen → Exit → List WireCall → Type 0
IsOneEnd (Some (agent address turns images)) files exit calls = IsEndOfServing (BeginsListening address) turns exit calls
IsOneEnd (Some (value address peer turns)) files exit calls = IsEndOfServing (BeginsListening address) turns exit calls
IsOneEnd (Some (hub address peer turns)) files exit calls = IsEndOfServing (BeginsConnected peer address) turns exit calls
IsOneEnd (Some (client address name turns)) files exit calls =
    IfSome files.held (λ held. IsEndOfScript (content_of name held) address turns exit calls)
IsOneEnd order files exit calls = Unit {0}

-- ---- given up, and complete

-- What was put is a front of the text of an ending that the order has for what was heard of its files and the calls that
-- were made; of a client that ran, of the text of a log in which each command is answered once.
pub record PutsFront (order : Option OrderValue) (files files' : FilesSeen) (before after : SinkSeen) (calls : List WireCall) : Type 0 where
  pub heard : Heard
  pub hears : Hears (names_of order) files files' heard
  pub ending : Ending
  pub its : IsEnding order heard calls ending
  pub front : TookFront ending.text before after

abbrev pub IsFrontPut : Option OrderValue → FilesSeen → FilesSeen → WiresSeen → WiresSeen → SinkSeen → SinkSeen → Type 0
IsFrontPut order files files' wires wires' before after = Makes (PutsFront order files files' before after) wires wires'

-- an exit that the order has over these files and by these calls, or want of memory
abbrev pub ExitsOver : Option OrderValue → List HeldFile → Exit → List WireCall → Type 0
ExitsOver order files exit calls =
    ((ending : Ending) × IsEnding order (heard_in (names_of order) files) calls ending × (exit ≡ ending.exit)) ⊎ (exit ≡ NoMemory)

-- where the files are told, and neither a read nor a put was a fault, nothing but these and the calls decides the exit
abbrev pub IsDecided : Option OrderValue → Exit → FilesSeen → FilesSeen → WiresSeen → WiresSeen → SinkSeen → SinkSeen → Type 0
IsDecided order exit files files' wires wires' before after =
    IfSome files.held (λ held. (Rose files.faults files'.faults → ⊥) → (Rose before.faults after.faults → ⊥) → Makes (ExitsOver order held exit) wires wires')
