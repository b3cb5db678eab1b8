-- What is read of an answer and of an event is within the limits of its kind and of its types.
use Rattle.std.proofs.Common.{ℕ, ◌<◌, ◌^◌, nat_lt, Bool, true, false, cond, List, [], ◌∷◌, length, Option, Some, None, option_map, refl, arith}
use Rattle.std.proofs.lemmas.Bool.{ltb-true}
use Rattle.std.specs.List.{AllByRecursion}
use Rattle.std.specs.Prelude.{IfSome, option_and_then, unwrap_or, ◌==◌, codes}
use Rattle.base64.specs.Engines.{standard}
use Rattle.base64.specs.GeneralPurpose.{decoded_of}
use Rattle.command_tables.specs.Canonical.{AreBytes}
use Rattle.json_args.specs.Kinds.{flag_in, text_in, whole_in}
use Rattle.json_values.specs.Blobs.{blob_in}
use Rattle.json_values.specs.Contexts.{ArePowers, IsContext, context_in, powers_in}
use Rattle.json_values.specs.Lists.{items_in, list_in}
use Rattle.json_values.specs.Members.{member_of, optional, or_else}
use Rattle.json_values.specs.Peers.{peers_in}
use Rattle.json_values.specs.Processes.{process_in}
use Rattle.json_values.specs.Props.{bp_from, bp_in, is_bp}
use Rattle.json_values.specs.Ranges.{range_in}
use Rattle.json_values.specs.States.{hits_in}
use Rattle.json_values.specs.Statuses.{IsCount, IsInstance, IsPlace, IsStatus, count_by, instance_in, instances_in, place_by, place_in, status_in}
use Rattle.json_values.specs.Words.{fitting, is_object, word_in}
use Rattle.reply_tables.specs.Answers.{answer_in, answer_of, answer_read, error_in, in_parts, result_in, state_by, state_in, suspended_in, unless_failed}
use Rattle.reply_tables.specs.Events.{event_in}
use Rattle.reply_tables.specs.Parts.{ended_parts, json_at, part_in}
use Rattle.reply_tables.specs.Written.{IsTypedState}
use Rattle.reply_tables.specs.declared.rows.Kind.{Kind}
use Rattle.reply_tables.specs.declared.rows.Row.{Row}
use Rattle.reply_tables.specs.declared.rows.Row.TheVariants.{NoData, ErrorAlone, ErrorNull, ErrorThen, ErrorState, BlobErrorNull}
use Rattle.reply_tables.specs.Rows.{row_of}
use Rattle.serde_json.specs.Data.{Data, null, boolean, number, string, array, object, Items, no_items, item}
use Rattle.serde_json.specs.Find.{as_bool, as_number, as_str, as_u64}
use Rattle.service_names.specs.declared.events.EventName.{EventName}
use Rattle.value_store.proofs.Lessons.Decoded.{decoded_bytes_small}
use Rattle.value_store.proofs.Lessons.Each.{if_found, map_any, map_so, then_any, then_so, where_so}
use Rattle.tcf_values.specs.declared.answer.Answer.{Answer}
use Rattle.tcf_values.specs.declared.command.Command.{Command}
use Rattle.tcf_values.specs.declared.errors.ErrorReport.{ErrorReport}
use Rattle.tcf_values.specs.declared.event.EventData.{EventData}
use Rattle.tcf_values.specs.declared.values.BpProps.{BpProps}
use Rattle.tcf_values.specs.declared.values.Place.{Place}
use Rattle.tcf_values.specs.declared.values.Place.TheVariants.{Address, Error}
use Rattle.cache_learning.proofs.Limits.{IsBp}

abbrev pub IsWord : ℕ → Type 0
IsWord n = n < 2 ^ 32

-- ---- kinds of values

fitting_so : (n : ℕ) → IfSome (fitting n) IsWord
fitting_so n = where_so IsWord (nat_lt n (2 ^ 32)) (Some n) (λ is. ltb-true n (2 ^ 32) is)

word_so : (d : Data) → IfSome (word_in d) IsWord
word_so d = then_any IsWord fitting (option_and_then as_u64 (as_number d)) fitting_so

inner_so : {A : Type 0} → (P : A → Type 0) (absent : A) (found : Option A) → IfSome found P → IfSome (option_map (λ o. unwrap_or o absent) (option_map Some found)) P
inner_so P absent None so = tt
inner_so P absent (Some a) so = so

else_so : {A : Type 0} → (P : A → Type 0) (absent : A) (kind : Data → Option A) (found : Option Data) → P absent → ((d : Data) → IfSome (kind d) P) → IfSome (or_else absent kind found) P
else_so P absent kind None so each = so
else_so P absent kind (Some d) so each = inner_so P absent (kind d) (each d)

items_so : {A : Type 0} → (P : A → Type 0) (kind : Data → Option A) (items : Items) → ((d : Data) → IfSome (kind d) P) → IfSome (items_in kind items) (AllByRecursion P)
items_so P kind no_items each = tt
items_so P kind (item d items) each =
    then_so P (AllByRecursion P) (λ x. option_map (λ xs. x ∷ xs) (items_in kind items)) (kind d) (each d)
    (λ x so. map_so (AllByRecursion P) (AllByRecursion P) (λ xs. x ∷ xs) (items_in kind items) (items_so P kind items each) (λ xs all. (so, all)))

list_so : {A : Type 0} → (P : A → Type 0) (kind : Data → Option A) (d : Data) → ((d : Data) → IfSome (kind d) P) → IfSome (list_in kind d) (AllByRecursion P)
list_so P kind null each = tt
list_so P kind (boolean b) each = tt
list_so P kind (number n) each = tt
list_so P kind (string text) each = tt
list_so P kind (array items) each = items_so P kind items each
list_so P kind (object _) each = tt

powers_so : (d : Data) → IfSome (powers_in d) ArePowers
powers_so d =
    then_any ArePowers _ (or_else false as_bool (member_of (codes "IsContainer") d)) (λ container.
    then_any ArePowers _ (or_else false as_bool (member_of (codes "HasState") d)) (λ has_state.
    then_any ArePowers _ (or_else false as_bool (member_of (codes "CanSuspend") d)) (λ can_suspend.
    then_any ArePowers _ (or_else false as_bool (member_of (codes "CanTerminate") d)) (λ can_terminate.
    then_so IsWord ArePowers _ (or_else 0 word_in (member_of (codes "CanResume") d)) (else_so IsWord 0 word_in (member_of (codes "CanResume") d) (omega arith) word_so) (λ can_resume one.
    map_so IsWord ArePowers _ (or_else 0 word_in (member_of (codes "CanCount") d)) (else_so IsWord 0 word_in (member_of (codes "CanCount") d) (omega arith) word_so)
    (λ can_count two. (one, two)))))))

context_so : (d : Data) → IfSome (context_in d) IsContext
context_so d =
    then_so ArePowers IsContext _ (powers_in d) (powers_so d) (λ powers so.
    then_any IsContext _ (option_and_then as_str (member_of (codes "ID") d)) (λ id.
    then_any IsContext _ (optional as_str (member_of (codes "ParentID") d)) (λ parent.
    then_any IsContext _ (or_else [] as_str (member_of (codes "ProcessID") d)) (λ process.
    map_any IsContext _ (optional as_str (member_of (codes "Name") d)) (λ name. so)))))

bp_from_so : (id : List ℕ) (enabled : Option Bool) (location : Option (Option (List ℕ))) (contexts : Option (Option (List (List ℕ)))) (ignore : Option (Option ℕ))
    → IfSome (bp_from id enabled location contexts ignore) IsBp
bp_from_so id enabled location contexts ignore =
    then_any IsBp _ enabled (λ e. then_any IsBp _ location (λ l. then_any IsBp _ contexts (λ c. then_any IsBp _ ignore (λ i.
    let props : BpProps = record { id = id; enabled = e; location = l; contexts = c; ignore = i } in
    where_so IsBp (is_bp props) (Some props) (λ is. is)))))

bp_so : (d : Data) → IfSome (bp_in d) IsBp
bp_so d = then_any IsBp _ (option_and_then as_str (member_of (codes "ID") d)) (λ id. bp_from_so id _ _ _ _)

place_by_so : (error address : Option Data) → IfSome (place_by error address) IsPlace
place_by_so (Some error) address = map_any IsPlace Error (as_str error) (λ text. tt)
place_by_so None (Some address) = map_so IsWord IsPlace Address (word_in address) (word_so address) (λ n so. so)
place_by_so None None = tt

count_by_so : (found : Option Data) (place : Place) → IfSome (count_by found place) (IsCount place)
count_by_so found (Address address) = else_so IsWord 0 word_in found (omega arith) word_so
count_by_so found (Error error) = refl

instance_so : (d : Data) → IfSome (instance_in d) IsInstance
instance_so d =
    then_so IsPlace IsInstance _ (place_in d) (place_by_so (member_of (codes "Error") d) (member_of (codes "Address") d)) (λ place so.
    then_so (IsCount place) IsInstance _ (count_by (member_of (codes "HitCount") d) place) (count_by_so (member_of (codes "HitCount") d) place) (λ count few.
    map_any IsInstance _ (or_else [] as_str (member_of (codes "LocationContext") d)) (λ context. (so, few))))

status_so : (d : Data) → IfSome (status_in d) IsStatus
status_so d =
    where_so IsStatus (is_object d) _ (λ is. map_so (AllByRecursion IsInstance) IsStatus _ (instances_in d)
    (else_so (AllByRecursion IsInstance) [] (list_in instance_in) (member_of (codes "Instances") d) tt (λ list. list_so IsInstance instance_in list instance_so)) (λ instances so. so))

blob_so : (d : Data) → IfSome (blob_in d) AreBytes
blob_so d = then_any AreBytes (decoded_of standard) (text_in d) (λ text. if_found AreBytes (decoded_of standard text) (decoded_bytes_small text))

part_so : {A : Type 0} → (P : A → Type 0) (kind : Data → Option A) (parts : List (List ℕ)) (index : ℕ) → ((d : Data) → IfSome (kind d) P) → IfSome (part_in kind parts index) P
part_so P kind parts index each = then_any P kind (json_at parts index) each

-- ---- answers

abbrev pub IsSound : Answer → Type 0
IsSound (Answer.Context context) = IsContext context
IsSound (Answer.State state) = IsTypedState state
IsSound (Answer.Bp properties) = IsBp properties
IsSound (Answer.Status status) = IsStatus status
IsSound (Answer.Blob bytes) = AreBytes bytes
IsSound _ = Unit {0}

result_so : (kind : Kind) (d : Data) → IfSome (result_in kind d) IsSound
result_so Kind.Context d = map_so IsContext IsSound Answer.Context (context_in d) (context_so d) (λ context so. so)
result_so Kind.Ids d = map_any IsSound Answer.Ids (list_in as_str d) (λ ids. tt)
result_so Kind.Process d = map_any IsSound Answer.Process (process_in d) (λ process. tt)
result_so Kind.Bp d = map_so IsBp IsSound Answer.Bp (bp_in d) (bp_so d) (λ properties so. so)
result_so Kind.Status d = map_so IsStatus IsSound Answer.Status (status_in d) (status_so d) (λ status so. so)
result_so Kind.Capabilities d = where_so IsSound (is_object d) (Some Answer.Capabilities) (λ is. tt)
result_so Kind.Blob d = map_so AreBytes IsSound Answer.Blob (blob_in d) (blob_so d) (λ bytes so. so)
result_so Kind.Peers d = map_any IsSound Answer.Peers (peers_in d) (λ ids. tt)
result_so Kind.Count d = map_any IsSound Answer.Count (word_in d) (λ count. tt)

suspended_so : (parts : List (List ℕ)) → IfSome (suspended_in parts) IsTypedState
suspended_so parts =
    then_so IsWord IsTypedState _ (part_in word_in parts 2) (part_so IsWord word_in parts 2 word_so) (λ pc so.
    then_any IsTypedState _ (part_in text_in parts 3) (λ reason. map_any IsTypedState _ (part_in hits_in parts 4) (λ hits. so)))

state_by_so : (parts : List (List ℕ)) (suspended : Bool) → IfSome (state_by parts suspended) IsTypedState
state_by_so parts true = suspended_so parts
state_by_so parts false = tt

state_so : (parts : List (List ℕ)) → IfSome (state_in parts) IsTypedState
state_so parts = then_any IsTypedState (state_by parts) (part_in flag_in parts 1) (state_by_so parts)

unless_so : (error : Option (Option ErrorReport)) (answer : Option Answer) → IfSome answer IsSound → IfSome (unless_failed error answer) IsSound
unless_so None answer so = tt
unless_so (Some (Some report)) answer so = tt
unless_so (Some None) answer so = so

answer_in_so : (row : Row) (parts : List (List ℕ)) → IfSome (answer_in row parts) IsSound
answer_in_so NoData parts = unless_so (part_in error_in parts 0) (Some Answer.Nothing) tt
answer_in_so ErrorAlone parts = unless_so (part_in error_in parts 0) (Some Answer.Nothing) tt
answer_in_so ErrorNull parts = unless_so (part_in error_in parts 0) (Some Answer.Nothing) tt
answer_in_so (ErrorThen kind) parts =
    unless_so (part_in error_in parts 0) (part_in (result_in kind) parts 1) (part_so IsSound (result_in kind) parts 1 (result_so kind))
answer_in_so ErrorState parts =
    unless_so (part_in error_in parts 0) (option_map Answer.State (state_in parts)) (map_so IsTypedState IsSound Answer.State (state_in parts) (state_so parts) (λ state so. so))
answer_in_so BlobErrorNull parts =
    unless_so (part_in error_in parts 1) (part_in (result_in Kind.Blob) parts 0) (part_so IsSound (result_in Kind.Blob) parts 0 (result_so Kind.Blob))

in_parts_so : (row : Row) (body : List ℕ) → IfSome (in_parts row body) IsSound
in_parts_so row body = then_any IsSound (answer_in row) (ended_parts body) (answer_in_so row)

no_data_so : (test : Bool) (other : Option Answer) → IfSome other IsSound → IfSome (cond test (Some Answer.Nothing) other) IsSound
no_data_so true other so = tt
no_data_so false other so = so

row_so : (row : Row) (body : List ℕ) → IfSome (answer_of row body) IsSound
row_so NoData body = no_data_so (length body == 0) (in_parts NoData body) (in_parts_so NoData body)
row_so ErrorAlone body = in_parts_so ErrorAlone body
row_so ErrorNull body = in_parts_so ErrorNull body
row_so (ErrorThen kind) body = in_parts_so (ErrorThen kind) body
row_so ErrorState body = in_parts_so ErrorState body
row_so BlobErrorNull body = in_parts_so BlobErrorNull body

pub answer_so : (command : Command) (body : List ℕ) → IfSome (answer_read command body) IsSound
answer_so command body = row_so (row_of command) body

-- ---- events

abbrev pub IsSoundEvent : EventData → Type 0
IsSoundEvent (EventData.CtxAdded list) = AllByRecursion IsContext list
IsSoundEvent (EventData.CtxChanged list) = AllByRecursion IsContext list
IsSoundEvent (EventData.Suspended id pc reason hits) = IsWord pc
IsSoundEvent (EventData.BpStatusIs id status) = IsStatus status
IsSoundEvent (EventData.BpAdded list) = AllByRecursion IsBp list
IsSoundEvent (EventData.BpChanged list) = AllByRecursion IsBp list
IsSoundEvent _ = Unit {0}

pub event_so : (name : EventName) (parts : List (List ℕ)) → IfSome (event_in name parts) IsSoundEvent
event_so EventName.Hello parts = map_any IsSoundEvent EventData.Hello (part_in (list_in as_str) parts 0) (λ list. tt)
event_so EventName.CtxAdded parts =
    map_so (AllByRecursion IsContext) IsSoundEvent EventData.CtxAdded (part_in (list_in context_in) parts 0)
    (part_so (AllByRecursion IsContext) (list_in context_in) parts 0 (λ d. list_so IsContext context_in d context_so)) (λ list so. so)
event_so EventName.CtxChanged parts =
    map_so (AllByRecursion IsContext) IsSoundEvent EventData.CtxChanged (part_in (list_in context_in) parts 0)
    (part_so (AllByRecursion IsContext) (list_in context_in) parts 0 (λ d. list_so IsContext context_in d context_so)) (λ list so. so)
event_so EventName.CtxRemoved parts = map_any IsSoundEvent EventData.CtxRemoved (part_in (list_in as_str) parts 0) (λ list. tt)
event_so EventName.Suspended parts =
    then_any IsSoundEvent _ (part_in text_in parts 0) (λ id.
    then_so IsWord IsSoundEvent _ (part_in word_in parts 1) (part_so IsWord word_in parts 1 word_so) (λ pc so.
    then_any IsSoundEvent _ (part_in text_in parts 2) (λ reason. map_any IsSoundEvent _ (part_in hits_in parts 3) (λ hits. so))))
event_so EventName.Resumed parts = map_any IsSoundEvent EventData.Resumed (part_in text_in parts 0) (λ id. tt)
event_so EventName.BpStatusIs parts =
    then_any IsSoundEvent _ (part_in text_in parts 0) (λ id.
    map_so IsStatus IsSoundEvent _ (part_in status_in parts 1) (part_so IsStatus status_in parts 1 status_so) (λ status so. so))
event_so EventName.BpAdded parts =
    map_so (AllByRecursion IsBp) IsSoundEvent EventData.BpAdded (part_in (list_in bp_in) parts 0)
    (part_so (AllByRecursion IsBp) (list_in bp_in) parts 0 (λ d. list_so IsBp bp_in d bp_so)) (λ list so. so)
event_so EventName.BpChanged parts =
    map_so (AllByRecursion IsBp) IsSoundEvent EventData.BpChanged (part_in (list_in bp_in) parts 0)
    (part_so (AllByRecursion IsBp) (list_in bp_in) parts 0 (λ d. list_so IsBp bp_in d bp_so)) (λ list so. so)
event_so EventName.BpRemoved parts = map_any IsSoundEvent EventData.BpRemoved (part_in (list_in as_str) parts 0) (λ list. tt)
event_so EventName.MemChanged parts =
    then_any IsSoundEvent _ (part_in text_in parts 0) (λ id. map_any IsSoundEvent _ (part_in (list_in range_in) parts 1) (λ list. tt))
event_so EventName.RegChanged parts = map_any IsSoundEvent EventData.RegChanged (part_in text_in parts 0) (λ id. tt)
event_so EventName.RegsChanged parts = tt
event_so EventName.Exited parts =
    then_any IsSoundEvent _ (part_in text_in parts 0) (λ id. map_any IsSoundEvent _ (part_in whole_in parts 1) (λ code. tt))
