-- What is read as an event, and what is written as it: its arguments, one a part.
use Rattle.std.specs.Prelude.{ℕ, ◌≡◌, ◌<◌, ◌^◌, true, List, [], ◌∷◌, Option, Some, None, option_map, option_and_then}
use Rattle.std.specs.List.{AllByRecursion}
use Rattle.serde_json.specs.Data.{Data, string}
use Rattle.serde_json.specs.Find.{as_str}
use Rattle.json_args.specs.Kinds.{IsWhole, text_in, whole_in}
use Rattle.json_values.specs.Contexts.{IsContext, context_json, context_in}
use Rattle.json_values.specs.Lists.{list_json, list_in}
use Rattle.json_values.specs.Plain.{texts_json, whole_json}
use Rattle.json_values.specs.Props.{is_bp, bp_json, bp_in}
use Rattle.json_values.specs.Ranges.{IsRange, range_json, range_in}
use Rattle.json_values.specs.States.{hits_json, hits_in}
use Rattle.json_values.specs.Statuses.{IsStatus, status_json, status_in}
use Rattle.json_values.specs.Words.{word_json, word_in}
use Rattle.service_names.specs.Events.{event_named}
use Rattle.reply_tables.specs.Parts.{data_of, part_in, ended_parts}
use Rattle.service_names.specs.declared.events.EventName.{EventName}
use Rattle.reply_tables.specs.declared.replies.ReadEvent.{ReadEvent}
use Rattle.tcf_values.specs.declared.event.EventData.{EventData}

abbrev pub suspended_event : List (List ℕ) → Option EventData
suspended_event parts =
    option_and_then (λ id. option_and_then (λ pc. option_and_then (λ reason. option_map (λ hits. EventData.Suspended id pc reason hits)
    (part_in hits_in parts 3)) (part_in text_in parts 2)) (part_in word_in parts 1)) (part_in text_in parts 0)

abbrev pub status_event : List (List ℕ) → Option EventData
status_event parts =
    option_and_then (λ id. option_map (λ status. EventData.BpStatusIs id status) (part_in status_in parts 1)) (part_in text_in parts 0)

abbrev pub memory_event : List (List ℕ) → Option EventData
memory_event parts =
    option_and_then (λ id. option_map (λ list. EventData.MemChanged id list) (part_in (list_in range_in) parts 1)) (part_in text_in parts 0)

abbrev pub exited_event : List (List ℕ) → Option EventData
exited_event parts =
    option_and_then (λ id. option_map (λ code. EventData.Exited id code) (part_in whole_in parts 1)) (part_in text_in parts 0)

-- the arguments of each event
abbrev pub event_in : EventName → List (List ℕ) → Option EventData
event_in EventName.Hello parts = option_map EventData.Hello (part_in (list_in as_str) parts 0)
event_in EventName.CtxAdded parts = option_map EventData.CtxAdded (part_in (list_in context_in) parts 0)
event_in EventName.CtxChanged parts = option_map EventData.CtxChanged (part_in (list_in context_in) parts 0)
event_in EventName.CtxRemoved parts = option_map EventData.CtxRemoved (part_in (list_in as_str) parts 0)
event_in EventName.Suspended parts = suspended_event parts
event_in EventName.Resumed parts = option_map EventData.Resumed (part_in text_in parts 0)
event_in EventName.BpStatusIs parts = status_event parts
event_in EventName.BpAdded parts = option_map EventData.BpAdded (part_in (list_in bp_in) parts 0)
event_in EventName.BpChanged parts = option_map EventData.BpChanged (part_in (list_in bp_in) parts 0)
event_in EventName.BpRemoved parts = option_map EventData.BpRemoved (part_in (list_in as_str) parts 0)
event_in EventName.MemChanged parts = memory_event parts
event_in EventName.RegChanged parts = option_map EventData.RegChanged (part_in text_in parts 0)
event_in EventName.RegsChanged parts = Some EventData.RegsChanged
event_in EventName.Exited parts = exited_event parts

abbrev pub known_or_bad : Option EventData → ReadEvent
known_or_bad None = ReadEvent.Bad
known_or_bad (Some event) = ReadEvent.Known event

abbrev pub event_by : List ℕ → Option EventName → ReadEvent
event_by body None = ReadEvent.Foreign
event_by body (Some event) = known_or_bad (option_and_then (event_in event) (ended_parts body))

-- what an event of these names with this data is read as
abbrev pub event_read : List ℕ → List ℕ → List ℕ → ReadEvent
event_read service name body = event_by body (event_named service name)

abbrev pub event_parts : EventData → List (Option Data)
event_parts (EventData.Hello list) = Some (texts_json list) ∷ []
event_parts (EventData.CtxAdded list) = Some (list_json context_json list) ∷ []
event_parts (EventData.CtxChanged list) = Some (list_json context_json list) ∷ []
event_parts (EventData.CtxRemoved list) = Some (texts_json list) ∷ []
event_parts (EventData.Suspended id pc reason hits) = Some (string id) ∷ Some (word_json pc) ∷ Some (string reason) ∷ Some (hits_json hits) ∷ []
event_parts (EventData.Resumed id) = Some (string id) ∷ []
event_parts (EventData.BpStatusIs id status) = Some (string id) ∷ Some (status_json status) ∷ []
event_parts (EventData.BpAdded list) = Some (list_json bp_json list) ∷ []
event_parts (EventData.BpChanged list) = Some (list_json bp_json list) ∷ []
event_parts (EventData.BpRemoved list) = Some (texts_json list) ∷ []
event_parts (EventData.MemChanged id list) = Some (string id) ∷ Some (list_json range_json list) ∷ []
event_parts (EventData.RegChanged id) = Some (string id) ∷ []
event_parts EventData.RegsChanged = []
event_parts (EventData.Exited id code) = Some (string id) ∷ Some (whole_json code) ∷ []

-- the canonical data of an event
abbrev pub event_data : EventData → List ℕ
event_data event = data_of (event_parts event)

-- the events that are read: each value is within the limits of its kind
abbrev pub IsEvent : EventData → Type 0
IsEvent (EventData.CtxAdded list) = AllByRecursion IsContext list
IsEvent (EventData.CtxChanged list) = AllByRecursion IsContext list
IsEvent (EventData.BpStatusIs id status) = IsStatus status
IsEvent (EventData.BpAdded list) = AllByRecursion (λ props. is_bp props ≡ true) list
IsEvent (EventData.BpChanged list) = AllByRecursion (λ props. is_bp props ≡ true) list
IsEvent (EventData.MemChanged id list) = AllByRecursion IsRange list
IsEvent (EventData.Exited id code) = IsWhole code
IsEvent _ = Unit {0}

-- what the types say of the numbers of an event: an address has 32 bits
abbrev pub IsTypedEvent : EventData → Type 0
IsTypedEvent (EventData.Suspended id pc reason hits) = pc < 2 ^ 32
IsTypedEvent _ = Unit {0}

abbrev pub IfKnown : ReadEvent → (EventData → Type 0) → Type 0
IfKnown ReadEvent.Foreign Fine = Unit {0}
IfKnown ReadEvent.Bad Fine = Unit {0}
IfKnown (ReadEvent.Known event) Fine = Fine event
