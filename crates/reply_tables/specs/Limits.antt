-- Which answers a row has: those that its reader gives.
use Rattle.std.specs.Prelude.{◌≡◌, true}
use Rattle.json_values.specs.Contexts.{IsContext}
use Rattle.json_values.specs.Props.{is_bp}
use Rattle.json_values.specs.Reports.{IsReport}
use Rattle.json_values.specs.Statuses.{IsStatus}
use Rattle.reply_tables.specs.Rows.{row_of}
use Rattle.reply_tables.specs.declared.rows.Kind.{Kind}
use Rattle.reply_tables.specs.declared.rows.Row.{Row}
use Rattle.reply_tables.specs.declared.rows.Row.TheVariants.{NoData, ErrorAlone, ErrorNull, ErrorThen, ErrorState, BlobErrorNull}
use Rattle.tcf_values.specs.declared.answer.Answer.{Answer}
use Rattle.tcf_values.specs.declared.command.Command.{Command}

-- the rows that have a result of the kind
abbrev pub HasKind : Row → Kind → Type 0
HasKind NoData kind = ⊥
HasKind ErrorAlone kind = ⊥
HasKind ErrorNull kind = ⊥
HasKind (ErrorThen one) kind = one ≡ kind
HasKind ErrorState kind = ⊥
HasKind BlobErrorNull kind = Kind.Blob ≡ kind

-- the rows that have no result
abbrev pub HasNone : Row → Type 0
HasNone NoData = Unit {0}
HasNone ErrorAlone = Unit {0}
HasNone ErrorNull = Unit {0}
HasNone (ErrorThen kind) = ⊥
HasNone ErrorState = ⊥
HasNone BlobErrorNull = ⊥

-- the row that has a state
abbrev pub HasState : Row → Type 0
HasState NoData = ⊥
HasState ErrorAlone = ⊥
HasState ErrorNull = ⊥
HasState (ErrorThen kind) = ⊥
HasState ErrorState = Unit {0}
HasState BlobErrorNull = ⊥

-- the answer is one of the row, and each value is within the limits of its kind
abbrev pub IsOfRow : Row → Answer → Type 0
IsOfRow row (Answer.Failed report) = IsReport report
IsOfRow row Answer.Nothing = HasNone row
IsOfRow row (Answer.Context context) = HasKind row Kind.Context × IsContext context
IsOfRow row (Answer.Ids ids) = HasKind row Kind.Ids
IsOfRow row (Answer.State state) = HasState row
IsOfRow row (Answer.Process process) = HasKind row Kind.Process
IsOfRow row (Answer.Bp props) = HasKind row Kind.Bp × (is_bp props ≡ true)
IsOfRow row (Answer.Status status) = HasKind row Kind.Status × IsStatus status
IsOfRow row Answer.Capabilities = HasKind row Kind.Capabilities
IsOfRow row (Answer.Blob bytes) = HasKind row Kind.Blob
IsOfRow row (Answer.Peers ids) = HasKind row Kind.Peers
IsOfRow row (Answer.Count count) = HasKind row Kind.Count

abbrev pub IsAnswerTo : Command → Answer → Type 0
IsAnswerTo command answer = IsOfRow (row_of command) answer
