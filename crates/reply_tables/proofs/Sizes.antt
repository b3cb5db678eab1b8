-- How long the data of events and answers are.
use Rattle.std.proofs.Common.{◌≡◌, ◌≤◌, ℕ, ◌+◌, ◌==◌, Bool, true, false, cond, List, [], ◌∷◌, length, Option, Some, None, arith, lit≤, length-append}
use Rattle.std.specs.Option.{option_or}
use Rattle.std.specs.Prelude.{IfSome, codes, unwrap_or}
use Rattle.serde_json.specs.Data.{Data, boolean, null, string}
use Rattle.serde_json.specs.Written.{compact_text}
use Rattle.json_args.specs.Parts.{joined}
use Rattle.json_values.specs.Contexts.{context_json}
use Rattle.json_values.specs.Lists.{list_json}
use Rattle.json_values.specs.Plain.{blob_json, texts_json, whole_json}
use Rattle.json_values.specs.Processes.{process_json}
use Rattle.json_values.specs.Props.{bp_json}
use Rattle.json_values.specs.Ranges.{range_json}
use Rattle.json_values.specs.Reports.{report_json}
use Rattle.json_values.specs.Sizes.{IsWord, size_of}
use Rattle.json_values.specs.SizeLaws.{blob_size, bp_size, bps_size, context_size, contexts_size, flags_size, hits_size, peers_size, process_size, ranges_size, report_size, status_size, text_size, whole_size, word_size, words_size}
use Rattle.json_values.specs.States.{hits_json}
use Rattle.json_values.specs.Statuses.{status_json}
use Rattle.json_values.specs.Words.{word_json}
use Rattle.reply_tables.specs.Parts.{data_of}
use Rattle.reply_tables.specs.Rows.{row_of}
use Rattle.reply_tables.specs.Sizes.{AnswersFit, EventsFit, IsSmallAnswer, IsSmallState, ProgressFits, RefusalsFit, ReportsAreSmall}
use Rattle.reply_tables.specs.Written.{answer_parts, bare_parts, capabilities_json, failed_parts, result_parts, state_parts}
use Rattle.reply_tables.specs.declared.rows.Row.{Row}
use Rattle.reply_tables.specs.declared.rows.Row.TheVariants.{NoData, ErrorAlone, ErrorNull, ErrorThen, ErrorState, BlobErrorNull}
use Rattle.tcf_values.specs.Errors.{high_format_of, low_format_of, report_of}
use Rattle.tcf_values.specs.declared.answer.Answer.{Answer}
use Rattle.tcf_values.specs.declared.event.EventData.{EventData}
use Rattle.tcf_values.specs.declared.values.RunState.{RunState}
use Rattle.tcf_values.specs.declared.values.RunState.TheVariants.{Running, Suspended}

-- ---- parts

-- a part and its zero
more_size : (part : List ℕ) (parts : List (List ℕ)) → length (joined (part ∷ parts)) ≡ length part + 1 + length (joined parts)
more_size part parts = omega (arith, length-append part (0 ∷ joined parts))

one_size : (a : Data) → length (data_of (Some a ∷ [])) ≡ size_of a + 1
one_size a = omega (arith, more_size (compact_text a) [])

two_size : (a b : Data) → length (data_of (Some a ∷ Some b ∷ [])) ≡ size_of a + size_of b + 2
two_size a b = omega (arith, more_size (compact_text a) (compact_text b ∷ []), more_size (compact_text b) [])

four_size : (a b c d : Data) → length (data_of (Some a ∷ Some b ∷ Some c ∷ Some d ∷ [])) ≡ size_of a + size_of b + size_of c + size_of d + 4
four_size a b c d =
    omega (
      arith,
      more_size (compact_text a) (compact_text b ∷ compact_text c ∷ compact_text d ∷ []),
      more_size (compact_text b) (compact_text c ∷ compact_text d ∷ []),
      more_size (compact_text c) (compact_text d ∷ []),
      more_size (compact_text d) [],
    )

-- ---- events: a service and a name have at most 16 bytes each

one_fits : (most : ℕ) (service name : List ℕ) (a : Data) → most ≤ 1000000 → length service ≤ 16 → length name ≤ 16 → size_of a ≤ most → length service + length name + length (data_of (Some a ∷ [])) ≤ 1048576
one_fits most service name a few short brief small = omega (arith, one_size a)

two_fits : (most : ℕ) (service name : List ℕ) (a b : Data) → most ≤ 1000000 → length service ≤ 16 → length name ≤ 16 → size_of a ≤ 1532 → size_of b ≤ most
    → length service + length name + length (data_of (Some a ∷ Some b ∷ [])) ≤ 1048576
two_fits most service name a b few short brief word small = omega (arith, two_size a b)

pub events_fit : EventsFit
events_fit (EventData.Hello list) small = one_fits 392450 (codes "Locator") (codes "Hello") (texts_json list) (lit≤ tt) (lit≤ tt) (lit≤ tt) (words_size list small)
events_fit (EventData.CtxAdded list) small =
    one_fits 837461 (codes "RunControl") (codes "contextAdded") (list_json context_json list) (lit≤ tt) (lit≤ tt) (lit≤ tt) (contexts_size list small)
events_fit (EventData.CtxChanged list) small =
    one_fits 837461 (codes "RunControl") (codes "contextChanged") (list_json context_json list) (lit≤ tt) (lit≤ tt) (lit≤ tt) (contexts_size list small)
events_fit (EventData.CtxRemoved list) small =
    one_fits 392450 (codes "RunControl") (codes "contextRemoved") (texts_json list) (lit≤ tt) (lit≤ tt) (lit≤ tt) (words_size list small)
events_fit (EventData.Suspended id pc reason hits) small =
    omega (arith, four_size (string id) (word_json pc) (string reason) (hits_json hits), text_size 255 id small.0, word_size pc, text_size 255 reason small.1, hits_size hits small.2)
events_fit (EventData.Resumed id) small =
    one_fits 1532 (codes "RunControl") (codes "contextResumed") (string id) (lit≤ tt) (lit≤ tt) (lit≤ tt) (text_size 255 id small)
events_fit (EventData.BpStatusIs id status) small =
    two_fits 209192 (codes "Breakpoints") (codes "status") (string id) (status_json status) (lit≤ tt) (lit≤ tt) (lit≤ tt) (text_size 255 id small.0) (status_size status small.1)
events_fit (EventData.BpAdded list) small =
    one_fits 945666 (codes "Breakpoints") (codes "contextAdded") (list_json bp_json list) (lit≤ tt) (lit≤ tt) (lit≤ tt) (bps_size list small.0 small.1)
events_fit (EventData.BpChanged list) small =
    one_fits 945666 (codes "Breakpoints") (codes "contextChanged") (list_json bp_json list) (lit≤ tt) (lit≤ tt) (lit≤ tt) (bps_size list small.0 small.1)
events_fit (EventData.BpRemoved list) small =
    one_fits 392450 (codes "Breakpoints") (codes "contextRemoved") (texts_json list) (lit≤ tt) (lit≤ tt) (lit≤ tt) (words_size list small)
events_fit (EventData.MemChanged id list) small =
    two_fits 85250 (codes "Memory") (codes "memoryChanged") (string id) (list_json range_json list) (lit≤ tt) (lit≤ tt) (lit≤ tt) (text_size 255 id small.0) (ranges_size list small.1)
events_fit (EventData.RegChanged id) small =
    one_fits 1532 (codes "Registers") (codes "registerChanged") (string id) (lit≤ tt) (lit≤ tt) (lit≤ tt) (text_size 255 id small)
events_fit EventData.RegsChanged small = lit≤ tt
events_fit (EventData.Exited id code) small =
    two_fits 65 (codes "Processes") (codes "exited") (string id) (whole_json code) (lit≤ tt) (lit≤ tt) (lit≤ tt) (text_size 255 id small) (whole_size code)

-- ---- answers: at most four parts are null, and at most one is empty

failed_size : (row : Row) (error : Data) → length (data_of (failed_parts row error)) ≤ size_of error + 25
failed_size NoData error = omega (arith, more_size (compact_text error) [])
failed_size ErrorAlone error = omega (arith, more_size (compact_text error) [])
failed_size ErrorNull error = omega (arith, more_size (compact_text error) (compact_text null ∷ []))
failed_size (ErrorThen kind) error = omega (arith, more_size (compact_text error) (compact_text null ∷ []))
failed_size ErrorState error = omega (arith, more_size (compact_text error) (compact_text null ∷ compact_text null ∷ compact_text null ∷ compact_text null ∷ []))
failed_size BlobErrorNull error = omega (arith, more_size (compact_text error) (compact_text null ∷ []))

bare_size : (row : Row) → length (data_of (bare_parts row)) ≤ 6
bare_size NoData = lit≤ tt
bare_size ErrorAlone = lit≤ tt
bare_size ErrorNull = lit≤ tt
bare_size (ErrorThen kind) = lit≤ tt
bare_size ErrorState = lit≤ tt
bare_size BlobErrorNull = lit≤ tt

result_size : (row : Row) (result : Data) → length (data_of (result_parts row result)) ≤ size_of result + 7
result_size NoData result = omega arith
result_size ErrorAlone result = omega arith
result_size ErrorNull result = omega arith
result_size (ErrorThen kind) result = omega (arith, more_size (compact_text result) [])
result_size ErrorState result = omega arith
result_size BlobErrorNull result = omega (arith, more_size (compact_text result) ([] ∷ compact_text null ∷ []))

state_size : (state : RunState) → IsSmallState state → length (data_of (None ∷ state_parts state)) ≤ 1000000
state_size Running small = lit≤ tt
state_size (Suspended pc reason hits) small =
    omega (arith, four_size (boolean true) (word_json pc) (string reason) (hits_json hits), word_size pc, text_size 255 reason small.0, hits_size hits small.1)

result_fits : (most : ℕ) (row : Row) (result : Data) → most ≤ 1000000 → size_of result ≤ most → length (data_of (result_parts row result)) ≤ 1048576
result_fits most row result few small = omega (arith, result_size row result)

answer_fits : (row : Row) (answer : Answer) → IsSmallAnswer answer → length (data_of (answer_parts row answer)) ≤ 1048576
answer_fits row (Answer.Failed report) small = omega (arith, failed_size row (report_json report), report_size report small)
answer_fits row Answer.Nothing small = omega (arith, bare_size row)
answer_fits row (Answer.Context context) small = result_fits 398964 row (context_json context) (lit≤ tt) (context_size context small)
answer_fits row (Answer.Ids ids) small = result_fits 392450 row (texts_json ids) (lit≤ tt) (words_size ids small)
answer_fits row (Answer.State state) small = omega (arith, state_size state small)
answer_fits row (Answer.Process process) small = result_fits 395162 row (process_json process) (lit≤ tt) (process_size process small)
answer_fits row (Answer.Bp props) small = result_fits 3693 row (bp_json props) (lit≤ tt) (bp_size props small)
answer_fits row (Answer.Status status) small = result_fits 209192 row (status_json status) (lit≤ tt) (status_size status small)
answer_fits row Answer.Capabilities small =
    result_fits 317 row capabilities_json (lit≤ tt) (flags_size (codes "ContextIds") (codes "IgnoreCount") (codes "Location") true true true (lit≤ tt) (lit≤ tt) (lit≤ tt))
answer_fits row (Answer.Blob bytes) small = omega (arith, result_size row (blob_json bytes), blob_size bytes)
answer_fits row (Answer.Peers ids) small = result_fits 418562 row _ (lit≤ tt) (peers_size ids small)
answer_fits row (Answer.Count count) small = result_fits 64 row (word_json count) (lit≤ tt) (word_size count)

pub answers_fit : AnswersFit
answers_fit command answer small = answer_fits (row_of command) answer small

-- ---- refusals: the text of a code is a word

either_short : (test : Bool) (text : List ℕ) (rest : Option (List ℕ)) → IsWord text → IfSome rest IsWord → IfSome (cond test (Some text) rest) IsWord
either_short true text rest word words = word
either_short false text rest word words = words

low_short : (code : ℕ) → IfSome (low_format_of code) IsWord
low_short code =
    either_short (code == 1) _ _ (lit≤ tt) (either_short (code == 2) _ _ (lit≤ tt) (either_short (code == 3) _ _ (lit≤ tt) (either_short (code == 5) _ _ (lit≤ tt)
    (either_short (code == 7) _ _ (lit≤ tt) (either_short (code == 8) _ _ (lit≤ tt) (either_short (code == 10) _ _ (lit≤ tt) tt))))))

high_short : (code : ℕ) → IfSome (high_format_of code) IsWord
high_short code =
    either_short (code == 12) _ _ (lit≤ tt) (either_short (code == 13) _ _ (lit≤ tt) (either_short (code == 14) _ _ (lit≤ tt) (either_short (code == 15) _ _ (lit≤ tt)
    (either_short (code == 16) _ _ (lit≤ tt) (either_short (code == 17) _ _ (lit≤ tt) (either_short (code == 20) _ _ (lit≤ tt) (either_short (code == 23) _ _ (lit≤ tt) tt)))))))

or_short : (one other : Option (List ℕ)) → IfSome one IsWord → IfSome other IsWord → IsWord (unwrap_or (option_or one other) [])
or_short None None word words = lit≤ tt
or_short None (Some text) word words = words
or_short (Some text) other word words = word

pub reports_small : ReportsAreSmall
reports_small code = or_short (low_format_of code) (high_format_of code) (low_short code) (high_short code)

pub refusals_fit : RefusalsFit
refusals_fit row code = omega (arith, failed_size row (report_json (report_of code)), report_size (report_of code) (reports_small code))

pub progress_fits : ProgressFits
progress_fits address = omega (arith, one_size (word_json address), word_size address)
