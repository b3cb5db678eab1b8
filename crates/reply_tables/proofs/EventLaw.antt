-- The canonical data of an event are read as it where they are UTF-8, and else as none.
use Rattle.std.proofs.Common.{◌≡◌, ℕ, List, [], ◌∷◌, map, true, false, ◌&&◌, Option, Some, None, sym, ◌∙◌, ap, inl, inr, arith, lit≤}
use Rattle.std.specs.Prelude.{option_and_then}
use Rattle.std.specs.List.{AllByRecursion}
use Rattle.std.specs.Str.{is_utf8}
use Rattle.std.proofs.lemmas.Bool.{and_parts, cases_Bool, cond-true, cond-false}
use Rattle.serde_json.specs.Data.{Data, string}
use Rattle.serde_json.specs.Read.{read}
use Rattle.serde_json.specs.Written.{compact_text}
use Rattle.json_args.specs.Kinds.{json_of}
use Rattle.json_values.specs.Contexts.{IsContext, context_json}
use Rattle.json_values.specs.ContextLaws.{context_shallow}
use Rattle.json_values.specs.ListLaws.{list_shallow}
use Rattle.json_values.specs.Lists.{list_json}
use Rattle.json_values.specs.Plain.{text_json, texts_json, whole_json}
use Rattle.json_values.specs.Props.{bp_json, is_bp}
use Rattle.json_values.specs.PropsLaws.{bp_shallow}
use Rattle.json_values.specs.Ranges.{IsRange, range_json}
use Rattle.json_values.specs.ReplyLaws.{range_shallow, status_shallow}
use Rattle.json_values.specs.States.{hits_json}
use Rattle.json_values.specs.StateLaws.{hits_shallow}
use Rattle.json_values.specs.Statuses.{status_json}
use Rattle.json_values.specs.WordLaws.{word_back}
use Rattle.json_values.specs.Words.{word_json}
use Rattle.service_names.specs.EventLaws.{event_there}
use Rattle.service_names.specs.Events.{told_as}
use Rattle.reply_tables.specs.Events.{IsEvent, IsTypedEvent, event_by, event_data, event_in, event_parts, known_or_bad}
use Rattle.reply_tables.specs.Parts.{PartsRead, ReadsBack, part_text}
use Rattle.reply_tables.specs.ReadingLaws.{EventsReadBack}
use Rattle.reply_tables.proofs.Clean.{bp_clean, context_clean, hits_clean, list_clean, range_clean, status_clean, text_clean, texts_clean, whole_clean, word_clean}
use Rattle.reply_tables.proofs.EventBack.{event_back}
use Rattle.reply_tables.proofs.ReadBack.{parts_again}
use Rattle.json_args.proofs.ReadBack.{clean_reads, read_none, read_there}
use Rattle.reply_tables.proofs.Utf8.{all_utf8, alone_false, joined_utf8, split_false}
use Rattle.tcf_values.specs.declared.event.EventData.{EventData}

-- the text of the part stands for its value
abbrev pub Stands : Option Data → Type 0
Stands None = Unit {0}
Stands (Some d) = read (compact_text d) ≡ Some d

there : (part : Option Data) → Stands part → is_utf8 (part_text part) ≡ true → ReadsBack part
there None stands utf8 = tt
there (Some d) stands utf8 = read_there d stands utf8

-- where all are UTF-8, all are read
pub all_there : (parts : List (Option Data)) → AllByRecursion Stands parts → all_utf8 (map part_text parts) ≡ true → PartsRead parts
all_there [] stand utf8 = tt
all_there (part ∷ parts) stand utf8 =
    let both = and_parts (is_utf8 (part_text part)) (all_utf8 (map part_text parts)) utf8 in
    (there part stand.0 both.0, all_there parts stand.1 both.1)

-- ---- the parts of an event

pub text_stands : (text : List ℕ) → read (compact_text (string text)) ≡ Some (string text)
text_stands text = clean_reads (string text) (text_clean text) (lit≤ tt)

pub texts_stand : (texts : List (List ℕ)) → read (compact_text (texts_json texts)) ≡ Some (texts_json texts)
texts_stand texts = clean_reads (texts_json texts) (texts_clean texts) (omega (arith, list_shallow text_json 0 (λ t. lit≤ tt) texts))

pub hits_stand : (hits : List (List ℕ)) → read (compact_text (hits_json hits)) ≡ Some (hits_json hits)
hits_stand hits = clean_reads (hits_json hits) (hits_clean hits) (omega (arith, hits_shallow hits))

pub event_stands : (event : EventData) → IsEvent event → IsTypedEvent event → AllByRecursion Stands (event_parts event)
event_stands (EventData.Hello list) within typed = (texts_stand list, tt)
event_stands (EventData.CtxAdded list) within typed =
    (clean_reads (list_json context_json list) (list_clean context_json IsContext context_clean list within) (omega (arith, list_shallow context_json 1 context_shallow list)), tt)
event_stands (EventData.CtxChanged list) within typed =
    (clean_reads (list_json context_json list) (list_clean context_json IsContext context_clean list within) (omega (arith, list_shallow context_json 1 context_shallow list)), tt)
event_stands (EventData.CtxRemoved list) within typed = (texts_stand list, tt)
event_stands (EventData.Suspended id pc reason hits) within typed =
    (text_stands id, (clean_reads (word_json pc) (word_clean pc (omega (arith, typed))) (lit≤ tt), (text_stands reason, (hits_stand hits, tt))))
event_stands (EventData.Resumed id) within typed = (text_stands id, tt)
event_stands (EventData.BpStatusIs id status) within typed =
    (text_stands id, (clean_reads (status_json status) (status_clean status within) (omega (arith, status_shallow status)), tt))
event_stands (EventData.BpAdded list) within typed =
    (clean_reads (list_json bp_json list) (list_clean bp_json (λ props. is_bp props ≡ true) bp_clean list within) (omega (arith, list_shallow bp_json 2 bp_shallow list)), tt)
event_stands (EventData.BpChanged list) within typed =
    (clean_reads (list_json bp_json list) (list_clean bp_json (λ props. is_bp props ≡ true) bp_clean list within) (omega (arith, list_shallow bp_json 2 bp_shallow list)), tt)
event_stands (EventData.BpRemoved list) within typed = (texts_stand list, tt)
event_stands (EventData.MemChanged id list) within typed =
    (text_stands id, (clean_reads (list_json range_json list) (list_clean range_json IsRange range_clean list within) (omega (arith, list_shallow range_json 1 range_shallow list)), tt))
event_stands (EventData.RegChanged id) within typed = (text_stands id, tt)
event_stands EventData.RegsChanged within typed = tt
event_stands (EventData.Exited id code) within typed =
    (text_stands id, (clean_reads (whole_json code) (whole_clean code within) (lit≤ tt), tt))

-- ---- an event with a part that isn't UTF-8

pub one_none : (d : Data) → read (compact_text d) ≡ Some d → (is_utf8 (compact_text d) && true) ≡ false → json_of (compact_text d) ≡ None
one_none d stands other = read_none d stands (alone_false _ other)

arguments_none : (event : EventData) → IsTypedEvent event → AllByRecursion Stands (event_parts event) → all_utf8 (map part_text (event_parts event)) ≡ false
    → event_in (told_as event) (map part_text (event_parts event)) ≡ None
arguments_none (EventData.Hello list) typed stand other = rw (one_none _ stand.0 other)
arguments_none (EventData.CtxAdded list) typed stand other = rw (one_none _ stand.0 other)
arguments_none (EventData.CtxChanged list) typed stand other = rw (one_none _ stand.0 other)
arguments_none (EventData.CtxRemoved list) typed stand other = rw (one_none _ stand.0 other)
arguments_none (EventData.Suspended id pc reason hits) typed stand other =
    elim (split_false _ _ other) [
      | inl first ↦ rw (read_none (string id) stand.0 first)
      | inr more ↦ elim (split_false _ _ more.1) [
        | inl second ↦ rw (read_there (string id) stand.0 more.0, read_none (word_json pc) stand.1.0 second)
        | inr rest ↦ elim (split_false _ _ rest.1) [
          | inl third ↦ rw (read_there (string id) stand.0 more.0, read_there (word_json pc) stand.1.0 rest.0, word_back pc typed, read_none (string reason) stand.1.1.0 third)
          | inr last ↦
              rw (
                read_there (string id) stand.0 more.0,
                read_there (word_json pc) stand.1.0 rest.0,
                word_back pc typed,
                read_there (string reason) stand.1.1.0 last.0,
                one_none (hits_json hits) stand.1.1.1.0 last.1,
              )
        ]
      ]
    ]
arguments_none (EventData.Resumed id) typed stand other = rw (one_none _ stand.0 other)
arguments_none (EventData.BpStatusIs id status) typed stand other =
    elim (split_false _ _ other) [
      | inl first ↦ rw (read_none (string id) stand.0 first)
      | inr more ↦ rw (read_there (string id) stand.0 more.0, one_none (status_json status) stand.1.0 more.1)
    ]
arguments_none (EventData.BpAdded list) typed stand other = rw (one_none _ stand.0 other)
arguments_none (EventData.BpChanged list) typed stand other = rw (one_none _ stand.0 other)
arguments_none (EventData.BpRemoved list) typed stand other = rw (one_none _ stand.0 other)
arguments_none (EventData.MemChanged id list) typed stand other =
    elim (split_false _ _ other) [
      | inl first ↦ rw (read_none (string id) stand.0 first)
      | inr more ↦ rw (read_there (string id) stand.0 more.0, one_none (list_json range_json list) stand.1.0 more.1)
    ]
arguments_none (EventData.RegChanged id) typed stand other = rw (one_none _ stand.0 other)
arguments_none EventData.RegsChanged typed stand other = cc
arguments_none (EventData.Exited id code) typed stand other =
    elim (split_false _ _ other) [
      | inl first ↦ rw (read_none (string id) stand.0 first)
      | inr more ↦ rw (read_there (string id) stand.0 more.0, one_none (whole_json code) stand.1.0 more.1)
    ]

pub events_back : EventsReadBack
events_back event within typed =
    let stand = event_stands event within typed in
    let same : is_utf8 (event_data event) ≡ all_utf8 (map part_text (event_parts event)) = joined_utf8 (map part_text (event_parts event)) in
    elim (cases_Bool (is_utf8 (event_data event))) [
      | inl utf8 ↦ event_back event within (all_there (event_parts event) stand (sym same ∙ utf8)) typed ∙ sym (cond-true _ _ _ utf8)
      | inr other ↦
          ap (event_by (event_data event)) (event_there (told_as event))
          ∙ ap known_or_bad (ap (option_and_then (event_in (told_as event))) (parts_again (event_parts event)) ∙ arguments_none event typed stand (sym same ∙ other))
          ∙ sym (cond-false _ _ _ other)
    ]
