-- The canonical data of an answer are read as it where they are UTF-8, and else as none.
use Rattle.std.proofs.Common.{◌≡◌, ℕ, ◌<◌, zero, suc, List, ◌∷◌, map, slice_index, true, false, Some, None, refl, sym, ◌∙◌, ap, inl, inr, arith, lit≤}
use Rattle.std.specs.List.{AllByRecursion}
use Rattle.std.specs.Prelude.{Ok}
use Rattle.std.specs.Result.{result_ok}
use Rattle.std.specs.Str.{is_utf8}
use Rattle.std.proofs.lemmas.Bool.{cases_Bool, cond-true, cond-false}
use Rattle.std.proofs.lemmas.Str.{IsUtf8-from_ascii, is_utf8-from_IsUtf8}
use Rattle.base64.specs.Engines.{standard}
use Rattle.base64.specs.GeneralPurpose.{decode_of, decoded_of, encode_of}
use Rattle.base64.proofs.EngineFacts.{decode_of-encode_of}
use Rattle.serde_json.specs.Data.{Data, boolean, null, string}
use Rattle.serde_json.specs.Read.{read}
use Rattle.serde_json.specs.Written.{compact_text}
use Rattle.json_values.specs.Contexts.{context_json}
use Rattle.json_values.specs.ContextLaws.{context_shallow}
use Rattle.json_values.specs.Peers.{peers_json}
use Rattle.json_values.specs.Plain.{blob_json, texts_json}
use Rattle.json_values.specs.Processes.{process_json}
use Rattle.json_values.specs.Props.{bp_json}
use Rattle.json_values.specs.PropsLaws.{bp_shallow}
use Rattle.json_values.specs.ReplyLaws.{process_shallow, report_shallow, status_shallow}
use Rattle.json_values.specs.Reports.{report_json}
use Rattle.json_values.specs.StateLaws.{peers_shallow}
use Rattle.json_values.specs.States.{hits_json}
use Rattle.json_values.specs.Statuses.{status_json}
use Rattle.json_values.specs.WordLaws.{word_back}
use Rattle.json_values.specs.Words.{word_json}
use Rattle.reply_tables.specs.Answers.{answer_in, answer_of}
use Rattle.reply_tables.specs.Limits.{HasKind, HasNone, HasState, IsOfRow}
use Rattle.reply_tables.specs.Parts.{data_of, part_text}
use Rattle.reply_tables.specs.ReadingLaws.{AnswersReadBack, BytesReadBack}
use Rattle.reply_tables.specs.Rows.{row_of}
use Rattle.reply_tables.specs.Written.{IsTyped, IsTypedState, answer_parts, bare_parts, capabilities_json, failed_parts, result_parts, state_parts}
use Rattle.reply_tables.specs.declared.rows.Kind.{Kind}
use Rattle.reply_tables.specs.declared.rows.Row.{Row}
use Rattle.reply_tables.specs.declared.rows.Row.TheVariants.{NoData, ErrorAlone, ErrorNull, ErrorThen, ErrorState, BlobErrorNull}
use Rattle.reply_tables.proofs.Clean.{bp_clean, capabilities_clean, context_clean, flag_clean, null_clean, peers_clean, process_clean, report_clean, status_clean, word_clean}
use Rattle.reply_tables.proofs.EventLaw.{Stands, all_there, hits_stand, one_none, text_stands, texts_stand}
use Rattle.reply_tables.proofs.ReadBack.{in_back, json_nothing, no_data_failed, row_back}
use Rattle.json_args.proofs.ReadBack.{clean_reads, read_none, read_there}
use Rattle.reply_tables.proofs.Utf8.{all_utf8, joined_utf8, nothing_utf8, split_false}
use Rattle.tcf_values.specs.declared.answer.Answer.{Answer}
use Rattle.tcf_values.specs.declared.values.RunState.{RunState}
use Rattle.tcf_values.specs.declared.values.RunState.TheVariants.{Running, Suspended}

-- ---- the parts of an answer

null_stands : read (compact_text null) ≡ Some null
null_stands = clean_reads null null_clean (lit≤ tt)

failed_stands : (row : Row) (error : Data) → read (compact_text error) ≡ Some error → AllByRecursion Stands (failed_parts row error)
failed_stands NoData error stands = (stands, tt)
failed_stands ErrorAlone error stands = (stands, tt)
failed_stands ErrorNull error stands = (stands, (null_stands, tt))
failed_stands (ErrorThen kind) error stands = (stands, (null_stands, tt))
failed_stands ErrorState error stands = (stands, (null_stands, (null_stands, (null_stands, (null_stands, tt)))))
failed_stands BlobErrorNull error stands = (null_stands, (stands, (null_stands, tt)))

bare_stands : (row : Row) → AllByRecursion Stands (bare_parts row)
bare_stands NoData = tt
bare_stands ErrorAlone = (tt, tt)
bare_stands ErrorNull = (tt, (null_stands, tt))
bare_stands (ErrorThen kind) = tt
bare_stands ErrorState = tt
bare_stands BlobErrorNull = tt

result_stands : (row : Row) (result : Data) → read (compact_text result) ≡ Some result → AllByRecursion Stands (result_parts row result)
result_stands NoData result stands = tt
result_stands ErrorAlone result stands = tt
result_stands ErrorNull result stands = tt
result_stands (ErrorThen kind) result stands = (tt, (stands, tt))
result_stands ErrorState result stands = tt
result_stands BlobErrorNull result stands = (stands, (tt, (null_stands, tt)))

state_stands : (state : RunState) → IsTypedState state → AllByRecursion Stands (state_parts state)
state_stands Running typed = (clean_reads (boolean false) (flag_clean false) (lit≤ tt), (null_stands, (null_stands, (null_stands, tt))))
state_stands (Suspended pc reason hits) typed =
    (clean_reads (boolean true) (flag_clean true) (lit≤ tt), (clean_reads (word_json pc) (word_clean pc (omega (arith, typed))) (lit≤ tt), (text_stands reason, (hits_stand hits, tt))))

answer_stands : (row : Row) (answer : Answer) → IsOfRow row answer → IsTyped answer → AllByRecursion Stands (answer_parts row answer)
answer_stands row (Answer.Failed report) within typed =
    failed_stands row (report_json report) (clean_reads (report_json report) (report_clean report within) (omega (arith, report_shallow report)))
answer_stands row Answer.Nothing within typed = bare_stands row
answer_stands row (Answer.Context context) within typed =
    result_stands row (context_json context) (clean_reads (context_json context) (context_clean context within.1) (omega (arith, context_shallow context)))
answer_stands row (Answer.Ids ids) within typed = result_stands row (texts_json ids) (texts_stand ids)
answer_stands row (Answer.State state) within typed = (tt, state_stands state typed)
answer_stands row (Answer.Process process) within typed =
    result_stands row (process_json process) (clean_reads (process_json process) (process_clean process) (omega (arith, process_shallow process)))
answer_stands row (Answer.Bp props) within typed = result_stands row (bp_json props) (clean_reads (bp_json props) (bp_clean props within.1) (omega (arith, bp_shallow props)))
answer_stands row (Answer.Status status) within typed =
    result_stands row (status_json status) (clean_reads (status_json status) (status_clean status within.1) (omega (arith, status_shallow status)))
answer_stands row Answer.Capabilities within typed = result_stands row capabilities_json (clean_reads capabilities_json capabilities_clean (lit≤ tt))
answer_stands row (Answer.Blob bytes) within typed = result_stands row (blob_json bytes) (text_stands (encode_of standard bytes))
answer_stands row (Answer.Peers ids) within typed = result_stands row (peers_json ids) (clean_reads (peers_json ids) (peers_clean ids) (omega (arith, peers_shallow ids)))
answer_stands row (Answer.Count count) within typed = result_stands row (word_json count) (clean_reads (word_json count) (word_clean count (omega (arith, typed))) (lit≤ tt))

-- ---- an answer with a part that isn't UTF-8

null_utf8 : is_utf8 (compact_text null) ≡ true
null_utf8 = is_utf8-from_IsUtf8 (compact_text null) (IsUtf8-from_ascii (compact_text null) low)
  where
    low : (i : ℕ) → slice_index (compact_text null) i < 128
    low zero = lit≤ tt
    low (suc zero) = lit≤ tt
    low (suc (suc zero)) = lit≤ tt
    low (suc (suc (suc zero))) = lit≤ tt
    low (suc (suc (suc (suc i)))) = lit≤ tt

failed_none : (row : Row) (error : Data) → read (compact_text error) ≡ Some error → all_utf8 (map part_text (failed_parts row error)) ≡ false
    → answer_of row (data_of (failed_parts row error)) ≡ None
failed_none NoData error stands other = no_data_failed error None (rw (one_none error stands other))
failed_none ErrorAlone error stands other = in_back ErrorAlone (failed_parts ErrorAlone error) None (rw (one_none error stands other))
failed_none ErrorNull error stands other =
    let bad = rw null_utf8 at other in
    in_back ErrorNull (failed_parts ErrorNull error) None (rw (one_none error stands bad))
failed_none (ErrorThen kind) error stands other =
    let bad = rw null_utf8 at other in
    in_back (ErrorThen kind) (failed_parts (ErrorThen kind) error) None (rw (one_none error stands bad))
failed_none ErrorState error stands other =
    let bad = rw null_utf8 at other in
    in_back ErrorState (failed_parts ErrorState error) None (rw (one_none error stands bad))
failed_none BlobErrorNull error stands other =
    let bad = rw null_utf8 at other in
    in_back BlobErrorNull (failed_parts BlobErrorNull error) None (rw (one_none error stands bad))

bare_none : (row : Row) → HasNone row → all_utf8 (map part_text (bare_parts row)) ≡ false → answer_of row (data_of (bare_parts row)) ≡ None
bare_none NoData has other = cc
bare_none ErrorAlone has other = let bad = rw nothing_utf8 at other in cc
bare_none ErrorNull has other = let bad = rw (nothing_utf8, null_utf8) at other in cc
bare_none (ErrorThen kind) has other = absurd has
bare_none ErrorState has other = absurd has
bare_none BlobErrorNull has other = absurd has

result_none : (row : Row) (kind : Kind) (d : Data) → HasKind row kind → read (compact_text d) ≡ Some d → all_utf8 (map part_text (result_parts row d)) ≡ false
    → answer_of row (data_of (result_parts row d)) ≡ None
result_none NoData kind d has stands other = absurd has
result_none ErrorAlone kind d has stands other = absurd has
result_none ErrorNull kind d has stands other = absurd has
result_none (ErrorThen one) kind d has stands other =
    let bad = rw nothing_utf8 at other in
    in_back (ErrorThen one) (result_parts (ErrorThen one) d) None (rw (json_nothing, one_none d stands bad))
result_none ErrorState kind d has stands other = absurd has
result_none BlobErrorNull kind d has stands other =
    let bad = rw (nothing_utf8, null_utf8) at other in
    in_back BlobErrorNull (result_parts BlobErrorNull d) None (rw (json_nothing, one_none d stands bad))

state_in_none : (state : RunState) → IsTypedState state → AllByRecursion Stands (state_parts state) → all_utf8 (map part_text (state_parts state)) ≡ false
    → answer_in ErrorState (map part_text (None ∷ state_parts state)) ≡ None
state_in_none Running typed stand other =
    let bad = rw null_utf8 at other in
    rw (json_nothing, one_none (boolean false) stand.0 bad)
state_in_none (Suspended pc reason hits) typed stand other =
    elim (split_false _ _ other) [
      | inl first ↦ rw (json_nothing, read_none (boolean true) stand.0 first)
      | inr more ↦ elim (split_false _ _ more.1) [
        | inl second ↦ rw (json_nothing, read_there (boolean true) stand.0 more.0, read_none (word_json pc) stand.1.0 second)
        | inr rest ↦ elim (split_false _ _ rest.1) [
          | inl third ↦
              rw (json_nothing, read_there (boolean true) stand.0 more.0, read_there (word_json pc) stand.1.0 rest.0, word_back pc typed, read_none (string reason) stand.1.1.0 third)
          | inr last ↦
              rw (
                json_nothing,
                read_there (boolean true) stand.0 more.0,
                read_there (word_json pc) stand.1.0 rest.0,
                word_back pc typed,
                read_there (string reason) stand.1.1.0 last.0,
                one_none (hits_json hits) stand.1.1.1.0 last.1,
              )
        ]
      ]
    ]

state_none : (row : Row) (state : RunState) → HasState row → IsTypedState state → all_utf8 (map part_text (None ∷ state_parts state)) ≡ false
    → answer_of row (data_of (None ∷ state_parts state)) ≡ None
state_none NoData state has typed other = absurd has
state_none ErrorAlone state has typed other = absurd has
state_none ErrorNull state has typed other = absurd has
state_none (ErrorThen kind) state has typed other = absurd has
state_none ErrorState state has typed other =
    let bad = rw nothing_utf8 at other in
    in_back ErrorState (None ∷ state_parts state) None (state_in_none state typed (state_stands state typed) bad)
state_none BlobErrorNull state has typed other = absurd has

row_none : (row : Row) (answer : Answer) → IsOfRow row answer → IsTyped answer → all_utf8 (map part_text (answer_parts row answer)) ≡ false
    → answer_of row (data_of (answer_parts row answer)) ≡ None
row_none row (Answer.Failed report) within typed other =
    failed_none row (report_json report) (clean_reads (report_json report) (report_clean report within) (omega (arith, report_shallow report))) other
row_none row Answer.Nothing within typed other = bare_none row within other
row_none row (Answer.Context context) within typed other =
    result_none row Kind.Context (context_json context) within.0 (clean_reads (context_json context) (context_clean context within.1) (omega (arith, context_shallow context))) other
row_none row (Answer.Ids ids) within typed other = result_none row Kind.Ids (texts_json ids) within (texts_stand ids) other
row_none row (Answer.State state) within typed other = state_none row state within typed other
row_none row (Answer.Process process) within typed other =
    result_none row Kind.Process (process_json process) within (clean_reads (process_json process) (process_clean process) (omega (arith, process_shallow process))) other
row_none row (Answer.Bp props) within typed other =
    result_none row Kind.Bp (bp_json props) within.0 (clean_reads (bp_json props) (bp_clean props within.1) (omega (arith, bp_shallow props))) other
row_none row (Answer.Status status) within typed other =
    result_none row Kind.Status (status_json status) within.0 (clean_reads (status_json status) (status_clean status within.1) (omega (arith, status_shallow status))) other
row_none row Answer.Capabilities within typed other =
    result_none row Kind.Capabilities capabilities_json within (clean_reads capabilities_json capabilities_clean (lit≤ tt)) other
row_none row (Answer.Blob bytes) within typed other = result_none row Kind.Blob (blob_json bytes) within (text_stands (encode_of standard bytes)) other
row_none row (Answer.Peers ids) within typed other =
    result_none row Kind.Peers (peers_json ids) within (clean_reads (peers_json ids) (peers_clean ids) (omega (arith, peers_shallow ids))) other
row_none row (Answer.Count count) within typed other =
    result_none row Kind.Count (word_json count) within (clean_reads (word_json count) (word_clean count (omega (arith, typed))) (lit≤ tt)) other

-- ---- the laws

pub answers_back : AnswersReadBack
answers_back command answer within typed =
    let row = row_of command in
    let parts = answer_parts row answer in
    let same : is_utf8 (data_of parts) ≡ all_utf8 (map part_text parts) = joined_utf8 (map part_text parts) in
    elim (cases_Bool (is_utf8 (data_of parts))) [
      | inl utf8 ↦ row_back row answer within (all_there parts (answer_stands row answer within typed) (sym same ∙ utf8)) typed ∙ sym (cond-true _ _ _ utf8)
      | inr other ↦ row_none row answer within typed (sym same ∙ other) ∙ sym (cond-false _ _ _ other)
    ]

decoded_back : (text bytes : List ℕ) → decode_of standard text ≡ Ok bytes → decoded_of standard text ≡ Some bytes
unfolding decoded_of
decoded_back text bytes is = ap result_ok is

pub bytes_back : BytesReadBack
bytes_back bytes are = decoded_back (encode_of standard bytes) bytes (decode_of-encode_of standard bytes refl are)
