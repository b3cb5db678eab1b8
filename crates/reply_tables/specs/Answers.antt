-- What is read as the answer to a command: where the error stands, and what the other parts are read as.
use Rattle.std.specs.Prelude.{ℕ, ◌==◌, Bool, List, length, Option, Some, None, option_map, option_and_then, if◌then◌else◌}
use Rattle.serde_json.specs.Data.{Data}
use Rattle.serde_json.specs.Find.{as_str}
use Rattle.json_args.specs.Kinds.{flag_in, text_in}
use Rattle.json_values.specs.Blobs.{blob_in}
use Rattle.json_values.specs.Contexts.{context_in}
use Rattle.json_values.specs.Lists.{list_in}
use Rattle.json_values.specs.Members.{optional, unless_null}
use Rattle.json_values.specs.Peers.{peers_in}
use Rattle.json_values.specs.Processes.{process_in}
use Rattle.json_values.specs.Props.{bp_in}
use Rattle.json_values.specs.Reports.{report_in}
use Rattle.json_values.specs.States.{hits_in}
use Rattle.json_values.specs.Statuses.{status_in}
use Rattle.json_values.specs.Words.{is_object, word_in}
use Rattle.reply_tables.specs.Parts.{part_in, ended_parts}
use Rattle.reply_tables.specs.Rows.{row_of}
use Rattle.reply_tables.specs.declared.rows.Kind.{Kind}
use Rattle.reply_tables.specs.declared.rows.Row.{Row}
use Rattle.reply_tables.specs.declared.rows.Row.TheVariants.{NoData, ErrorAlone, ErrorNull, ErrorThen, ErrorState, BlobErrorNull}
use Rattle.reply_tables.specs.declared.replies.ReadAnswer.{ReadAnswer}
use Rattle.tcf_values.specs.declared.answer.Answer.{Answer}
use Rattle.tcf_values.specs.declared.command.Command.{Command}
use Rattle.tcf_values.specs.declared.errors.ErrorReport.{ErrorReport}
use Rattle.tcf_values.specs.declared.values.RunState.{RunState}
use Rattle.tcf_values.specs.declared.values.RunState.TheVariants.{Running, Suspended}

-- no error is null, and an error is a report
abbrev pub error_in : Data → Option (Option ErrorReport)
error_in d = optional report_in (unless_null d)

-- an answer with an error has failed, and its other parts aren't read
abbrev pub unless_failed : Option (Option ErrorReport) → Option Answer → Option Answer
unless_failed None answer = None
unless_failed (Some (Some report)) answer = Some (Answer.Failed report)
unless_failed (Some None) answer = answer

abbrev pub capabilities_in : Data → Option Answer
capabilities_in d = if is_object d then Some Answer.Capabilities else None

-- a result of each kind
abbrev pub result_in : Kind → Data → Option Answer
result_in Kind.Context d = option_map Answer.Context (context_in d)
result_in Kind.Ids d = option_map Answer.Ids (list_in as_str d)
result_in Kind.Process d = option_map Answer.Process (process_in d)
result_in Kind.Bp d = option_map Answer.Bp (bp_in d)
result_in Kind.Status d = option_map Answer.Status (status_in d)
result_in Kind.Capabilities d = capabilities_in d
result_in Kind.Blob d = option_map Answer.Blob (blob_in d)
result_in Kind.Peers d = option_map Answer.Peers (peers_in d)
result_in Kind.Count d = option_map Answer.Count (word_in d)

-- a suspended thread has its pc, the reason and the breakpoints that it hit behind the flag
abbrev pub suspended_in : List (List ℕ) → Option RunState
suspended_in parts =
    option_and_then (λ pc. option_and_then (λ reason. option_map (λ hits. Suspended pc reason hits)
    (part_in hits_in parts 4)) (part_in text_in parts 3)) (part_in word_in parts 2)

-- of a running thread the flag alone is read
abbrev pub state_by : List (List ℕ) → Bool → Option RunState
state_by parts suspended = if suspended then suspended_in parts else Some Running

abbrev pub state_in : List (List ℕ) → Option RunState
state_in parts = option_and_then (state_by parts) (part_in flag_in parts 1)

-- the answer of a row, where there are parts; a row without data has an error there or nothing
abbrev pub answer_in : Row → List (List ℕ) → Option Answer
answer_in NoData parts = unless_failed (part_in error_in parts 0) (Some Answer.Nothing)
answer_in ErrorAlone parts = unless_failed (part_in error_in parts 0) (Some Answer.Nothing)
answer_in ErrorNull parts = unless_failed (part_in error_in parts 0) (Some Answer.Nothing)
answer_in (ErrorThen kind) parts = unless_failed (part_in error_in parts 0) (part_in (result_in kind) parts 1)
answer_in ErrorState parts = unless_failed (part_in error_in parts 0) (option_map Answer.State (state_in parts))
answer_in BlobErrorNull parts = unless_failed (part_in error_in parts 1) (part_in (result_in Kind.Blob) parts 0)

abbrev pub in_parts : Row → List ℕ → Option Answer
in_parts row body = option_and_then (answer_in row) (ended_parts body)

-- no data is the answer of a row without data, and of no other
abbrev pub answer_of : Row → List ℕ → Option Answer
answer_of NoData body = if length body == 0 then Some Answer.Nothing else in_parts NoData body
answer_of ErrorAlone body = in_parts ErrorAlone body
answer_of ErrorNull body = in_parts ErrorNull body
answer_of (ErrorThen kind) body = in_parts (ErrorThen kind) body
answer_of ErrorState body = in_parts ErrorState body
answer_of BlobErrorNull body = in_parts BlobErrorNull body

-- what the data of an answer to the command is read as; none where the row doesn't read it
abbrev pub answer_read : Command → List ℕ → Option Answer
answer_read command body = answer_of (row_of command) body

abbrev pub known_or_bad : Option Answer → ReadAnswer
known_or_bad None = ReadAnswer.Bad
known_or_bad (Some answer) = ReadAnswer.Known answer

abbrev pub IfKnown : ReadAnswer → (Answer → Type 0) → Type 0
IfKnown ReadAnswer.Bad Fine = Unit {0}
IfKnown (ReadAnswer.Known answer) Fine = Fine answer
