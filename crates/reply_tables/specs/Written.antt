-- What is written as the answer to a command.
use Rattle.std.specs.Prelude.{ℕ, ◌≡◌, ◌<◌, ◌^◌, ◌⊎◌, true, false, List, [], ◌∷◌, Option, Some, None, codes}
use Rattle.serde_json.specs.Data.{Data, null, boolean, string, object, member, no_members}
use Rattle.json_values.specs.Blobs.{blob_in}
use Rattle.json_values.specs.Contexts.{context_json}
use Rattle.json_values.specs.Peers.{peers_json}
use Rattle.json_values.specs.Plain.{blob_json, texts_json}
use Rattle.json_values.specs.Processes.{process_json}
use Rattle.json_values.specs.Props.{bp_json}
use Rattle.json_values.specs.Reports.{report_json}
use Rattle.json_values.specs.States.{hits_json}
use Rattle.json_values.specs.Statuses.{status_json}
use Rattle.json_values.specs.Words.{word_json}
use Rattle.reply_tables.specs.Parts.{data_of}
use Rattle.reply_tables.specs.Rows.{row_of}
use Rattle.reply_tables.specs.declared.rows.Row.{Row}
use Rattle.reply_tables.specs.declared.rows.Row.TheVariants.{NoData, ErrorAlone, ErrorNull, ErrorThen, ErrorState, BlobErrorNull}
use Rattle.tcf_values.specs.Errors.{report_of}
use Rattle.tcf_values.specs.declared.answer.Answer.{Answer}
use Rattle.tcf_values.specs.declared.command.Command.{Command}
use Rattle.tcf_values.specs.declared.values.RunState.{RunState}
use Rattle.tcf_values.specs.declared.values.RunState.TheVariants.{Running, Suspended}

-- what breakpoints can do here, one and the same everywhere
abbrev pub capabilities_json : Data
capabilities_json =
    object (member (codes "ContextIds") (boolean true)
    (member (codes "IgnoreCount") (boolean true)
    (member (codes "Location") (boolean true) no_members)))

-- the flag says whether the thread is suspended
abbrev pub state_parts : RunState → List (Option Data)
state_parts Running = Some (boolean false) ∷ Some null ∷ Some null ∷ Some null ∷ []
state_parts (Suspended pc reason hits) = Some (boolean true) ∷ Some (word_json pc) ∷ Some (string reason) ∷ Some (hits_json hits) ∷ []

-- an error stands in its place, and null in that of each other part
abbrev pub failed_parts : Row → Data → List (Option Data)
failed_parts NoData error = Some error ∷ []
failed_parts ErrorAlone error = Some error ∷ []
failed_parts ErrorNull error = Some error ∷ Some null ∷ []
failed_parts (ErrorThen kind) error = Some error ∷ Some null ∷ []
failed_parts ErrorState error = Some error ∷ Some null ∷ Some null ∷ Some null ∷ Some null ∷ []
failed_parts BlobErrorNull error = Some null ∷ Some error ∷ Some null ∷ []

-- no error is the empty part
abbrev pub bare_parts : Row → List (Option Data)
bare_parts ErrorAlone = None ∷ []
bare_parts ErrorNull = None ∷ Some null ∷ []
bare_parts _ = []

abbrev pub result_parts : Row → Data → List (Option Data)
result_parts (ErrorThen kind) result = None ∷ Some result ∷ []
result_parts BlobErrorNull result = Some result ∷ None ∷ Some null ∷ []
result_parts _ result = []

-- the parts of an answer
abbrev pub answer_parts : Row → Answer → List (Option Data)
answer_parts row (Answer.Failed report) = failed_parts row (report_json report)
answer_parts row Answer.Nothing = bare_parts row
answer_parts row (Answer.Context context) = result_parts row (context_json context)
answer_parts row (Answer.Ids ids) = result_parts row (texts_json ids)
answer_parts row (Answer.State state) = None ∷ state_parts state
answer_parts row (Answer.Process process) = result_parts row (process_json process)
answer_parts row (Answer.Bp props) = result_parts row (bp_json props)
answer_parts row (Answer.Status status) = result_parts row (status_json status)
answer_parts row Answer.Capabilities = result_parts row capabilities_json
answer_parts row (Answer.Blob bytes) = result_parts row (blob_json bytes)
answer_parts row (Answer.Peers ids) = result_parts row (peers_json ids)
answer_parts row (Answer.Count count) = result_parts row (word_json count)

-- the canonical data of an answer to the command
abbrev pub answer_data : Command → Answer → List ℕ
answer_data command answer = data_of (answer_parts (row_of command) answer)

-- the codes of arguments that don't read: no JSON, no base64, and all else
abbrev pub IsRefusal : ℕ → Type 0
IsRefusal code = (code ≡ 2) ⊎ (code ≡ 3) ⊎ (code ≡ 8)

-- the canonical data of a refusal of that row with the code
abbrev pub refusal_data : Row → ℕ → List ℕ
refusal_data row code = data_of (failed_parts row (report_json (report_of code)))

-- what the type of a state says of its number
abbrev pub IsTypedState : RunState → Type 0
IsTypedState Running = Unit {0}
IsTypedState (Suspended pc reason hits) = pc < 2 ^ 32

-- what the types say of an answer's numbers and bytes: numbers have 32 bits, and the base64 of bytes stands for them
abbrev pub IsTyped : Answer → Type 0
IsTyped (Answer.State state) = IsTypedState state
IsTyped (Answer.Blob bytes) = blob_in (blob_json bytes) ≡ Some bytes
IsTyped (Answer.Count count) = count < 2 ^ 32
IsTyped _ = Unit {0}
