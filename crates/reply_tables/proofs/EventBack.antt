-- What is written of an event is read as it.
use Rattle.std.proofs.Common.{◌≡◌, true, refl, ◌∙◌, ap}
use Rattle.std.specs.Prelude.{Some, map, option_and_then}
use Rattle.json_values.specs.Contexts.{IsContext, context_json, context_in}
use Rattle.json_values.specs.ContextLaws.{context_back}
use Rattle.json_values.specs.ListLaws.{list_back}
use Rattle.json_values.specs.PlainLaws.{whole_back}
use Rattle.json_values.specs.Props.{bp_json, bp_in, is_bp}
use Rattle.json_values.specs.PropsLaws.{bp_back, texts_back}
use Rattle.json_values.specs.Ranges.{IsRange, range_json, range_in}
use Rattle.json_values.specs.ReplyLaws.{range_back, status_back}
use Rattle.json_values.specs.StateLaws.{hits_back}
use Rattle.json_values.specs.WordLaws.{word_back}
use Rattle.reply_tables.proofs.ReadBack.{parts_again}
use Rattle.service_names.specs.EventLaws.{event_there}
use Rattle.service_names.specs.Events.{name_of, service_of, told_as}
use Rattle.reply_tables.specs.Events.{IsEvent, IsTypedEvent, event_by, event_data, event_in, event_parts, event_read, known_or_bad}
use Rattle.reply_tables.specs.Parts.{PartsRead, part_text}
use Rattle.reply_tables.specs.declared.replies.ReadEvent.{ReadEvent}
use Rattle.tcf_values.specs.declared.event.EventData.{EventData}
use Rattle.tcf_values.specs.declared.values.BpProps.{BpProps}
use Rattle.tcf_values.specs.declared.values.Range.{Range}

range_again : (range : Range) → IsRange range → range_in (range_json range) ≡ Some range
range_again range within = range_back range

arguments_back : (event : EventData) → IsEvent event → PartsRead (event_parts event) → IsTypedEvent event → event_in (told_as event) (map part_text (event_parts event)) ≡ Some event
arguments_back (EventData.Hello list) within reads typed = rw (reads.0, texts_back list)
arguments_back (EventData.CtxAdded list) within reads typed = rw (reads.0, list_back context_json context_in IsContext context_back list within)
arguments_back (EventData.CtxChanged list) within reads typed = rw (reads.0, list_back context_json context_in IsContext context_back list within)
arguments_back (EventData.CtxRemoved list) within reads typed = rw (reads.0, texts_back list)
arguments_back (EventData.Suspended id pc reason hits) within reads typed =
    rw (reads.0, reads.1.0, word_back pc typed, reads.1.1.0, reads.1.1.1.0, hits_back hits)
arguments_back (EventData.Resumed id) within reads typed = rw reads.0
arguments_back (EventData.BpStatusIs id status) within reads typed = rw (reads.0, reads.1.0, status_back status within)
arguments_back (EventData.BpAdded list) within reads typed = rw (reads.0, list_back bp_json bp_in (λ (props : BpProps). is_bp props ≡ true) bp_back list within)
arguments_back (EventData.BpChanged list) within reads typed = rw (reads.0, list_back bp_json bp_in (λ (props : BpProps). is_bp props ≡ true) bp_back list within)
arguments_back (EventData.BpRemoved list) within reads typed = rw (reads.0, texts_back list)
arguments_back (EventData.MemChanged id list) within reads typed = rw (reads.0, reads.1.0, list_back range_json range_in IsRange range_again list within)
arguments_back (EventData.RegChanged id) within reads typed = rw reads.0
arguments_back EventData.RegsChanged within reads typed = refl
arguments_back (EventData.Exited id code) within reads typed = rw (reads.0, reads.1.0, whole_back code)

pub event_back : (event : EventData) → IsEvent event → PartsRead (event_parts event) → IsTypedEvent event
    → event_read (service_of (told_as event)) (name_of (told_as event)) (event_data event) ≡ ReadEvent.Known event
event_back event within reads typed =
    ap (event_by (event_data event)) (event_there (told_as event))
    ∙ ap known_or_bad (ap (option_and_then (event_in (told_as event))) (parts_again (event_parts event)) ∙ arguments_back event within reads typed)
