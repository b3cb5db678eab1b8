-- Which events and answers are small: their data, with the service and the name of an event, have at most 1,048,576 bytes.
use Rattle.std.specs.Prelude.{ℕ, ◌≡◌, ◌+◌, ◌≤◌, true, [], ◌∷◌, length, Some}
use Rattle.std.specs.List.{AllByRecursion}
use Rattle.json_values.specs.Props.{is_bp}
use Rattle.json_values.specs.Sizes.{AreSmallContexts, AreWords, IsSmallContext, IsSmallProcess, IsSmallReport, IsSmallStatus, IsWord}
use Rattle.json_values.specs.Words.{word_json}
use Rattle.service_names.specs.Events.{name_of, service_of, told_as}
use Rattle.reply_tables.specs.Events.{event_data}
use Rattle.reply_tables.specs.Parts.{data_of}
use Rattle.reply_tables.specs.Written.{answer_data, refusal_data}
use Rattle.reply_tables.specs.declared.rows.Row.{Row}
use Rattle.tcf_values.specs.Errors.{report_of}
use Rattle.tcf_values.specs.declared.answer.Answer.{Answer}
use Rattle.tcf_values.specs.declared.command.Command.{Command}
use Rattle.tcf_values.specs.declared.event.EventData.{EventData}
use Rattle.tcf_values.specs.declared.values.RunState.{RunState}
use Rattle.tcf_values.specs.declared.values.RunState.TheVariants.{Running, Suspended}

-- ---- what is small

-- a process with its threads, and 256 breakpoints, at most
abbrev pub IsSmallEvent : EventData → Type 0
IsSmallEvent (EventData.Hello list) = AreWords list
IsSmallEvent (EventData.CtxAdded list) = AreSmallContexts list
IsSmallEvent (EventData.CtxChanged list) = AreSmallContexts list
IsSmallEvent (EventData.CtxRemoved list) = AreWords list
IsSmallEvent (EventData.Suspended id pc reason hits) = IsWord id × IsWord reason × AreWords hits
IsSmallEvent (EventData.Resumed id) = IsWord id
IsSmallEvent (EventData.BpStatusIs id status) = IsWord id × IsSmallStatus status
IsSmallEvent (EventData.BpAdded list) = (length list ≤ 256) × AllByRecursion (λ props. is_bp props ≡ true) list
IsSmallEvent (EventData.BpChanged list) = (length list ≤ 256) × AllByRecursion (λ props. is_bp props ≡ true) list
IsSmallEvent (EventData.BpRemoved list) = AreWords list
IsSmallEvent (EventData.MemChanged id list) = IsWord id × (length list ≤ 256)
IsSmallEvent (EventData.RegChanged id) = IsWord id
IsSmallEvent EventData.RegsChanged = Unit {0}
IsSmallEvent (EventData.Exited id code) = IsWord id

abbrev pub IsSmallState : RunState → Type 0
IsSmallState Running = Unit {0}
IsSmallState (Suspended pc reason hits) = IsWord reason × AreWords hits

abbrev pub IsSmallAnswer : Answer → Type 0
IsSmallAnswer (Answer.Failed report) = IsSmallReport report
IsSmallAnswer Answer.Nothing = Unit {0}
IsSmallAnswer (Answer.Context context) = IsSmallContext context
IsSmallAnswer (Answer.Ids ids) = AreWords ids
IsSmallAnswer (Answer.State state) = IsSmallState state
IsSmallAnswer (Answer.Process process) = IsSmallProcess process
IsSmallAnswer (Answer.Bp props) = is_bp props ≡ true
IsSmallAnswer (Answer.Status status) = IsSmallStatus status
IsSmallAnswer Answer.Capabilities = Unit {0}
IsSmallAnswer (Answer.Blob bytes) = length bytes ≤ 65536
IsSmallAnswer (Answer.Peers ids) = AreWords ids
IsSmallAnswer (Answer.Count count) = Unit {0}

-- ---- the laws: what is small fits into a message

abbrev pub EventsFit : Type 0
EventsFit = (event : EventData) → IsSmallEvent event →
    length (service_of (told_as event)) + length (name_of (told_as event)) + length (event_data event) ≤ 1048576

abbrev pub AnswersFit : Type 0
AnswersFit = (command : Command) (answer : Answer) → IsSmallAnswer answer → length (answer_data command answer) ≤ 1048576

-- the report of a code is small
abbrev pub ReportsAreSmall : Type 0
ReportsAreSmall = (code : ℕ) → IsSmallReport (report_of code)

-- whatever the row and the code
abbrev pub RefusalsFit : Type 0
RefusalsFit = (row : Row) (code : ℕ) → length (refusal_data row code) ≤ 1048576

-- the address of an executed instruction
abbrev pub ProgressFits : Type 0
ProgressFits = (address : ℕ) → length (data_of (Some (word_json address) ∷ [])) ≤ 1048576
