-- What is written of an answer is read as it.
use Rattle.std.proofs.Common.{◌≡◌, ℕ, ◌-◌, ◌==◌, List, [], ◌∷◌, ◌++◌, length, slice_get, Bool, true, false, refl, ◌∙◌, ap, arith}
use Rattle.std.specs.Prelude.{Option, Some, None, map, option_map, option_and_then}
use Rattle.std.specs.List.{AllByRecursion}
use Rattle.std.proofs.lemmas.Bool.{ne_eqb, cond-true, cond-false}
use Rattle.serde_json.specs.Data.{Data, null}
use Rattle.serde_json.specs.Written.{compact_text}
use Rattle.tcf_values.specs.Cut.{Lacks}
use Rattle.json_args.specs.Kinds.{json_of}
use Rattle.json_args.specs.Parts.{joined}
use Rattle.json_args.specs.PartsLaws.{of_joined}
use Rattle.json_values.specs.Contexts.{context_json}
use Rattle.json_values.specs.ContextLaws.{context_back}
use Rattle.json_values.specs.Peers.{peers_json}
use Rattle.json_values.specs.Plain.{texts_json, blob_json}
use Rattle.json_values.specs.Processes.{process_json}
use Rattle.json_values.specs.Props.{bp_json}
use Rattle.json_values.specs.PropsLaws.{bp_back, texts_back}
use Rattle.json_values.specs.ReplyLaws.{process_back, report_back, status_back}
use Rattle.json_values.specs.Reports.{report_json}
use Rattle.json_values.specs.StateLaws.{hits_back, peers_back}
use Rattle.json_values.specs.Statuses.{status_json}
use Rattle.json_values.specs.TextLaws.{text_lacks_zero}
use Rattle.json_values.specs.WordLaws.{word_back}
use Rattle.json_values.specs.Words.{word_json}
use Rattle.reply_tables.specs.Answers.{answer_in, answer_of, answer_read, in_parts, result_in}
use Rattle.reply_tables.specs.Limits.{HasKind, HasNone, HasState, IsAnswerTo, IsOfRow}
use Rattle.reply_tables.specs.Parts.{data_of, ended_parts, is_end, part_text, PartsRead}
use Rattle.reply_tables.specs.Rows.{row_of}
use Rattle.reply_tables.specs.Written.{answer_data, answer_parts, bare_parts, failed_parts, result_parts, state_parts, capabilities_json, IsTyped, IsTypedState}
use Rattle.reply_tables.specs.declared.rows.Kind.{Kind}
use Rattle.reply_tables.specs.declared.rows.Row.{Row}
use Rattle.reply_tables.specs.declared.rows.Row.TheVariants.{NoData, ErrorAlone, ErrorNull, ErrorThen, ErrorState, BlobErrorNull}
use Rattle.tcf_values.specs.declared.answer.Answer.{Answer}
use Rattle.tcf_values.specs.declared.command.Command.{Command}
use Rattle.tcf_values.specs.declared.errors.ErrorReport.{ErrorReport}
use Rattle.tcf_values.specs.declared.values.RunState.{RunState}
use Rattle.tcf_values.specs.declared.values.RunState.TheVariants.{Running, Suspended}

pub json_nothing : json_of [] ≡ Some null
unfolding json_of
json_nothing = refl

part_lacks : (part : Option Data) → Lacks 0 (part_text part)
part_lacks None = tt
part_lacks (Some d) = text_lacks_zero d

parts_lack : (parts : List (Option Data)) → AllByRecursion (Lacks 0) (map part_text parts)
parts_lack [] = tt
parts_lack (part ∷ parts) = (part_lacks part, parts_lack parts)

-- whether the bytes end in a zero, or there are none
abbrev ends : List ℕ → Bool
ends [] = true
ends (b ∷ []) = b == 0
ends (b ∷ c ∷ cs) = ends (c ∷ cs)

ends_by : (b : ℕ) (bs : List ℕ) → is_end (slice_get (b ∷ bs) (length bs)) ≡ ends (b ∷ bs)
ends_by b [] = refl
ends_by b (c ∷ cs) = ends_by c cs

ends_is : (body : List ℕ) → is_end (slice_get body (length body - 1)) ≡ ends body
ends_is [] = refl
ends_is (b ∷ bs) = let e : length (b ∷ bs) - 1 ≡ length bs = omega arith in ap (λ k. is_end (slice_get (b ∷ bs) k)) e ∙ ends_by b bs

ends_front : (b : ℕ) (bs rest : List ℕ) → ends (0 ∷ rest) ≡ true → ends (b ∷ (bs ++ 0 ∷ rest)) ≡ true
ends_front b [] rest ended = ended
ends_front b (c ∷ cs) rest ended = ends_front c cs rest ended

ends_part : (part rest : List ℕ) → ends (0 ∷ rest) ≡ true → ends (part ++ 0 ∷ rest) ≡ true
ends_part [] rest ended = ended
ends_part (b ∷ bs) rest ended = ends_front b bs rest ended

ends_joined : (parts : List (List ℕ)) → ends (0 ∷ joined parts) ≡ true
ends_joined [] = refl
ends_joined (part ∷ parts) = ends_front 0 part (joined parts) (ends_joined parts)

all_ended : (parts : List (List ℕ)) → ends (joined parts) ≡ true
all_ended [] = refl
all_ended (part ∷ parts) = ends_part part (joined parts) (ends_joined parts)

-- the data of parts has them
pub parts_again : (parts : List (Option Data)) → ended_parts (data_of parts) ≡ Some (map part_text parts)
parts_again parts =
    cond-true _ _ _ (ends_is (data_of parts) ∙ all_ended (map part_text parts))
    ∙ ap (λ ps. Some ps) (of_joined (map part_text parts) (parts_lack parts))

more_than_none : (part rest : List ℕ) → (length (part ++ 0 ∷ rest) == 0) ≡ false
more_than_none [] rest = ne_eqb _ 0 (λ is. absurd (omega arith))
more_than_none (b ∷ bs) rest = ne_eqb _ 0 (λ is. absurd (omega arith))

pub in_back : (row : Row) (parts : List (Option Data)) (found : Option Answer) → answer_in row (map part_text parts) ≡ found → in_parts row (data_of parts) ≡ found
in_back row parts found is = ap (option_and_then (answer_in row)) (parts_again parts) ∙ is

pub no_data_failed : (error : Data) (found : Option Answer) → answer_in NoData (map part_text (Some error ∷ [])) ≡ found → answer_of NoData (data_of (Some error ∷ [])) ≡ found
no_data_failed error found is = cond-false _ _ _ (more_than_none (compact_text error) []) ∙ in_back NoData (Some error ∷ []) found is

failed_in : (row : Row) (report : ErrorReport) → PartsRead (failed_parts row (report_json report))
    → answer_in row (map part_text (failed_parts row (report_json report))) ≡ Some (Answer.Failed report)
failed_in NoData report reads = rw (reads.0, report_back report)
failed_in ErrorAlone report reads = rw (reads.0, report_back report)
failed_in ErrorNull report reads = rw (reads.0, report_back report)
failed_in (ErrorThen kind) report reads = rw (reads.0, report_back report)
failed_in ErrorState report reads = rw (reads.0, report_back report)
failed_in BlobErrorNull report reads = rw (reads.1.0, report_back report)

pub failed_back : (row : Row) (report : ErrorReport) → PartsRead (failed_parts row (report_json report))
    → answer_of row (data_of (failed_parts row (report_json report))) ≡ Some (Answer.Failed report)
failed_back NoData report reads = no_data_failed (report_json report) _ (failed_in NoData report reads)
failed_back ErrorAlone report reads = in_back ErrorAlone (failed_parts ErrorAlone (report_json report)) _ (failed_in ErrorAlone report reads)
failed_back ErrorNull report reads = in_back ErrorNull (failed_parts ErrorNull (report_json report)) _ (failed_in ErrorNull report reads)
failed_back (ErrorThen kind) report reads = in_back (ErrorThen kind) (failed_parts (ErrorThen kind) (report_json report)) _ (failed_in (ErrorThen kind) report reads)
failed_back ErrorState report reads = in_back ErrorState (failed_parts ErrorState (report_json report)) _ (failed_in ErrorState report reads)
failed_back BlobErrorNull report reads = in_back BlobErrorNull (failed_parts BlobErrorNull (report_json report)) _ (failed_in BlobErrorNull report reads)

bare_alone : answer_in ErrorAlone (map part_text (bare_parts ErrorAlone)) ≡ Some Answer.Nothing
bare_alone = rw json_nothing

bare_null : answer_in ErrorNull (map part_text (bare_parts ErrorNull)) ≡ Some Answer.Nothing
bare_null = rw json_nothing

bare_back : (row : Row) → HasNone row → answer_of row (data_of (bare_parts row)) ≡ Some Answer.Nothing
bare_back NoData has = refl
bare_back ErrorAlone has = in_back ErrorAlone (bare_parts ErrorAlone) _ bare_alone
bare_back ErrorNull has = in_back ErrorNull (bare_parts ErrorNull) _ bare_null
bare_back (ErrorThen kind) has = absurd has
bare_back ErrorState has = absurd has
bare_back BlobErrorNull has = absurd has

result_behind : (one kind : Kind) (d : Data) (answer : Answer) → one ≡ kind → result_in kind d ≡ Some answer → PartsRead (result_parts (ErrorThen one) d)
    → answer_in (ErrorThen one) (map part_text (result_parts (ErrorThen one) d)) ≡ Some answer
result_behind one kind d answer has is reads = rw (json_nothing, reads.1.0, has, is)

result_before : (kind : Kind) (d : Data) (answer : Answer) → Kind.Blob ≡ kind → result_in kind d ≡ Some answer → PartsRead (result_parts BlobErrorNull d)
    → answer_in BlobErrorNull (map part_text (result_parts BlobErrorNull d)) ≡ Some answer
result_before kind d answer has is reads = rw (json_nothing, reads.0) (ap (λ k. result_in k d) has ∙ is)

result_back : (row : Row) (kind : Kind) (d : Data) (answer : Answer) → HasKind row kind → result_in kind d ≡ Some answer → PartsRead (result_parts row d)
    → answer_of row (data_of (result_parts row d)) ≡ Some answer
result_back NoData kind d answer has is reads = absurd has
result_back ErrorAlone kind d answer has is reads = absurd has
result_back ErrorNull kind d answer has is reads = absurd has
result_back (ErrorThen one) kind d answer has is reads = in_back (ErrorThen one) (result_parts (ErrorThen one) d) _ (result_behind one kind d answer has is reads)
result_back ErrorState kind d answer has is reads = absurd has
result_back BlobErrorNull kind d answer has is reads = in_back BlobErrorNull (result_parts BlobErrorNull d) _ (result_before kind d answer has is reads)

state_again : (state : RunState) → IsTypedState state → PartsRead (None ∷ state_parts state)
    → answer_in ErrorState (map part_text (None ∷ state_parts state)) ≡ Some (Answer.State state)
state_again Running typed reads = rw (json_nothing, reads.1.0)
state_again (Suspended pc reason hits) typed reads =
    rw (json_nothing, reads.1.0, reads.1.1.0, word_back pc typed, reads.1.1.1.0, reads.1.1.1.1.0, hits_back hits)

state_back : (row : Row) (state : RunState) → HasState row → IsTypedState state → PartsRead (None ∷ state_parts state)
    → answer_of row (data_of (None ∷ state_parts state)) ≡ Some (Answer.State state)
state_back NoData state has typed reads = absurd has
state_back ErrorAlone state has typed reads = absurd has
state_back ErrorNull state has typed reads = absurd has
state_back (ErrorThen kind) state has typed reads = absurd has
state_back ErrorState state has typed reads = in_back ErrorState (None ∷ state_parts state) _ (state_again state typed reads)
state_back BlobErrorNull state has typed reads = absurd has

pub row_back : (row : Row) (answer : Answer) → IsOfRow row answer → PartsRead (answer_parts row answer) → IsTyped answer
    → answer_of row (data_of (answer_parts row answer)) ≡ Some answer
row_back row (Answer.Failed report) within reads typed = failed_back row report reads
row_back row Answer.Nothing within reads typed = bare_back row within
row_back row (Answer.Context context) within reads typed =
    result_back row Kind.Context (context_json context) _ within.0 (ap (option_map Answer.Context) (context_back context within.1)) reads
row_back row (Answer.Ids ids) within reads typed =
    result_back row Kind.Ids (texts_json ids) _ within (ap (option_map Answer.Ids) (texts_back ids)) reads
row_back row (Answer.State state) within reads typed = state_back row state within typed reads
row_back row (Answer.Process process) within reads typed =
    result_back row Kind.Process (process_json process) _ within (ap (option_map Answer.Process) (process_back process)) reads
row_back row (Answer.Bp props) within reads typed =
    result_back row Kind.Bp (bp_json props) _ within.0 (ap (option_map Answer.Bp) (bp_back props within.1)) reads
row_back row (Answer.Status status) within reads typed =
    result_back row Kind.Status (status_json status) _ within.0 (ap (option_map Answer.Status) (status_back status within.1)) reads
row_back row Answer.Capabilities within reads typed = result_back row Kind.Capabilities capabilities_json _ within refl reads
row_back row (Answer.Blob bytes) within reads typed =
    result_back row Kind.Blob (blob_json bytes) _ within (ap (option_map Answer.Blob) typed) reads
row_back row (Answer.Peers ids) within reads typed =
    result_back row Kind.Peers (peers_json ids) _ within (ap (option_map Answer.Peers) (peers_back ids)) reads
row_back row (Answer.Count count) within reads typed =
    result_back row Kind.Count (word_json count) _ within (ap (option_map Answer.Count) (word_back count typed)) reads

-- what is written of an answer is read as it
pub answer_back : (command : Command) (answer : Answer) → IsAnswerTo command answer → PartsRead (answer_parts (row_of command) answer) → IsTyped answer
    → answer_read command (answer_data command answer) ≡ Some answer
answer_back command answer within reads typed = row_back (row_of command) answer within reads typed
