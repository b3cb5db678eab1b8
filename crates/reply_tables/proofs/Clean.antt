-- The values of events and answers have numbers that fit, and keys in order.
use Rattle.std.proofs.Common.{◌≡◌, ℕ, ℤ, pos, negsuc, ◌<◌, ◌^◌, List, [], ◌∷◌, Bool, map, Option, Some, None, option_map, option_and_then, refl, ◌∙◌, ap, arith}
use Rattle.std.specs.List.{AllByRecursion}
use Rattle.std.specs.Prelude.{true, IfSome}
use Rattle.json.specs.Tree as tree
use Rattle.json.proofs.Printed.Decimals.{IsNumber-decimal, IsNumber-signed_decimal}
use Rattle.serde_json.specs.Data.{Data, null, boolean, number, string, array, item}
use Rattle.serde_json.specs.Read.{of_items}
use Rattle.serde_json.specs.View.{items_of}
use Rattle.serde_json.specs.Written.{items_outline}
use Rattle.serde_json.proofs.Numbers.{number_of-decimal, number_of-negative}
use Rattle.json_args.specs.Kinds.{IsWhole}
use Rattle.json_values.specs.Contexts.{IsContext, context_json}
use Rattle.json_values.specs.Lists.{list_json}
use Rattle.json_values.specs.Peers.{peer_json, peers_json}
use Rattle.json_values.specs.Plain.{text_json, texts_json, whole_json}
use Rattle.json_values.specs.Processes.{process_json}
use Rattle.json_values.specs.Props.{bp_json, is_bp}
use Rattle.json_values.specs.PropsLaws.{props_word}
use Rattle.json_values.specs.Ranges.{IsRange, range_json}
use Rattle.json_values.specs.Reports.{IsReport, report_json}
use Rattle.json_values.specs.States.{hits_json}
use Rattle.json_values.specs.Statuses.{IsCount, IsInstance, IsPlace, IsStatus, instance_json, status_json}
use Rattle.json_values.specs.Words.{word_json}
use Rattle.reply_tables.specs.Written.{capabilities_json}
use Rattle.json_args.proofs.ReadBack.{IsClean}
use Rattle.tcf_values.specs.declared.errors.ErrorReport.{ErrorReport}
use Rattle.tcf_values.specs.declared.values.BpProps.{BpProps}
use Rattle.tcf_values.specs.declared.values.BpStatus.{BpStatus}
use Rattle.tcf_values.specs.declared.values.ContextData.{ContextData}
use Rattle.tcf_values.specs.declared.values.Instance.{Instance}
use Rattle.tcf_values.specs.declared.values.Place.{Place}
use Rattle.tcf_values.specs.declared.values.Place.TheVariants.{Address, Error}
use Rattle.tcf_values.specs.declared.values.ProcessData.{ProcessData}
use Rattle.tcf_values.specs.declared.values.Range.{Range}

pub null_clean : IsClean null
null_clean = record { numbers = tt; reads = refl }

pub flag_clean : (flag : Bool) → IsClean (boolean flag)
flag_clean flag = record { numbers = tt; reads = refl }

pub text_clean : (text : List ℕ) → IsClean (string text)
text_clean text = record { numbers = tt; reads = refl }

pub word_clean : (n : ℕ) → n < 2 ^ 64 → IsClean (word_json n)
word_clean n below = record { numbers = IsNumber-decimal n below; reads = ap (option_map number) (number_of-decimal n below) }

pub whole_clean : (z : ℤ) → IsWhole z → IsClean (whole_json z)
whole_clean (pos n) below = word_clean n below
whole_clean (negsuc n) below = record { numbers = IsNumber-signed_decimal (negsuc n) below; reads = ap (option_map number) (number_of-negative n below) }

-- ---- lists

items_clean : {A : Type 0} (json : A → Data) (Within : A → Type 0) → ((x : A) → Within x → IsClean (json x)) → (xs : List A) → AllByRecursion Within xs
    → tree.ItemsHaveNumbers (items_outline (items_of (map json xs))) × (of_items (items_outline (items_of (map json xs))) ≡ Some (items_of (map json xs)))
items_clean json Within each [] all = (tt, refl)
items_clean json Within each (x ∷ xs) all =
    let first = each x all.0 in
    let rest = items_clean json Within each xs all.1 in (
      (first.numbers, rest.0),
      ap (option_and_then (λ d. option_map (item d) (of_items (items_outline (items_of (map json xs)))))) first.reads ∙ ap (option_map (item (json x))) rest.1,
    )

pub list_clean : {A : Type 0} (json : A → Data) (Within : A → Type 0) → ((x : A) → Within x → IsClean (json x)) → (xs : List A) → AllByRecursion Within xs → IsClean (list_json json xs)
list_clean json Within each xs all =
    let items = items_clean json Within each xs all in
    record { numbers = items.0; reads = ap (option_map array) items.1 }

any : {A : Type 0} (xs : List A) → AllByRecursion (λ _. Unit {0}) xs
any [] = tt
any (x ∷ xs) = (tt, any xs)

pub texts_clean : (texts : List (List ℕ)) → IsClean (texts_json texts)
texts_clean texts = list_clean text_json (λ _. Unit {0}) (λ text _. text_clean text) texts (any texts)

-- ---- objects

context_by : (context : ContextData) (name parent : Option (List ℕ)) → IsContext context → IsClean (context_json (record context { name = name; parent = parent }))
context_by context None None is =
    let count = word_clean context.can_count (omega (arith, is.1)) in
    let resume = word_clean context.can_resume (omega (arith, is.0)) in
    record { numbers = (count.numbers, (resume.numbers, (tt, (tt, (tt, (tt, (tt, (tt, tt)))))))); reads = rw (count.reads, resume.reads) }
context_by context None (Some parent) is =
    let count = word_clean context.can_count (omega (arith, is.1)) in
    let resume = word_clean context.can_resume (omega (arith, is.0)) in
    record { numbers = (count.numbers, (resume.numbers, (tt, (tt, (tt, (tt, (tt, (tt, (tt, tt))))))))); reads = rw (count.reads, resume.reads) }
context_by context (Some name) None is =
    let count = word_clean context.can_count (omega (arith, is.1)) in
    let resume = word_clean context.can_resume (omega (arith, is.0)) in
    record { numbers = (count.numbers, (resume.numbers, (tt, (tt, (tt, (tt, (tt, (tt, (tt, tt))))))))); reads = rw (count.reads, resume.reads) }
context_by context (Some name) (Some parent) is =
    let count = word_clean context.can_count (omega (arith, is.1)) in
    let resume = word_clean context.can_resume (omega (arith, is.0)) in
    record { numbers = (count.numbers, (resume.numbers, (tt, (tt, (tt, (tt, (tt, (tt, (tt, (tt, tt)))))))))); reads = rw (count.reads, resume.reads) }

pub context_clean : (context : ContextData) → IsContext context → IsClean (context_json context)
context_clean context is = context_by context context.name context.parent is

bp_by : (id : List ℕ) (enabled : Bool) (location : Option (List ℕ)) (contexts : Option (List (List ℕ))) (ignore : Option ℕ) → IfSome ignore (λ n. n < 2 ^ 32)
    → IsClean (bp_json (record { id = id; enabled = enabled; location = location; contexts = contexts; ignore = ignore }))
bp_by id enabled None None None is = record { numbers = (tt, (tt, tt)); reads = refl }
bp_by id enabled (Some text) None None is = record { numbers = (tt, (tt, (tt, tt))); reads = refl }
bp_by id enabled None (Some texts) None is = let all = texts_clean texts in record { numbers = (all.numbers, (tt, (tt, tt))); reads = rw all.reads }
bp_by id enabled (Some text) (Some texts) None is = let all = texts_clean texts in record { numbers = (all.numbers, (tt, (tt, (tt, tt)))); reads = rw all.reads }
bp_by id enabled None None (Some n) is =
    let word = word_clean n (omega (arith, is)) in record { numbers = (tt, (tt, (word.numbers, tt))); reads = rw word.reads }
bp_by id enabled (Some text) None (Some n) is =
    let word = word_clean n (omega (arith, is)) in record { numbers = (tt, (tt, (word.numbers, (tt, tt)))); reads = rw word.reads }
bp_by id enabled None (Some texts) (Some n) is =
    let all = texts_clean texts in
    let word = word_clean n (omega (arith, is)) in
    record { numbers = (all.numbers, (tt, (tt, (word.numbers, tt)))); reads = rw (all.reads, word.reads) }
bp_by id enabled (Some text) (Some texts) (Some n) is =
    let all = texts_clean texts in
    let word = word_clean n (omega (arith, is)) in
    record { numbers = (all.numbers, (tt, (tt, (word.numbers, (tt, tt))))); reads = rw (all.reads, word.reads) }

pub bp_clean : (props : BpProps) → is_bp props ≡ true → IsClean (bp_json props)
bp_clean props within = bp_by props.id props.enabled props.location props.contexts props.ignore (props_word props within)

pub range_clean : (range : Range) → IsRange range → IsClean (range_json range)
range_clean range is =
    let addr = whole_clean range.addr is.0 in
    let size = whole_clean range.size is.1 in
    record { numbers = (addr.numbers, (size.numbers, tt)); reads = rw (addr.reads, size.reads) }

instance_by : (place : Place) (count : ℕ) (context : List ℕ) → IsPlace place → IsCount place count → IsClean (instance_json (record { context = context; place = place; count = count }))
instance_by (Address address) count context small few =
    let word = word_clean address (omega (arith, small)) in
    let hits = word_clean count (omega (arith, few)) in
    record { numbers = (word.numbers, (hits.numbers, (tt, tt))); reads = rw (word.reads, hits.reads) }
instance_by (Error error) count context small none = record { numbers = (tt, (tt, tt)); reads = refl }

pub instance_clean : (instance : Instance) → IsInstance instance → IsClean (instance_json instance)
instance_clean instance is = instance_by instance.place instance.count instance.context is.0 is.1

pub status_clean : (status : BpStatus) → IsStatus status → IsClean (status_json status)
status_clean status is = let all = list_clean instance_json IsInstance instance_clean status.instances is in record { numbers = (all.numbers, tt); reads = rw all.reads }

pub report_clean : (report : ErrorReport) → IsReport report → IsClean (report_json report)
report_clean report is = let code = whole_clean report.code is in record { numbers = (code.numbers, (tt, tt)); reads = rw code.reads }

pub process_clean : (process : ProcessData) → IsClean (process_json process)
process_clean process = record { numbers = (tt, (tt, (tt, (tt, tt)))); reads = refl }

pub hits_clean : (hits : List (List ℕ)) → IsClean (hits_json hits)
hits_clean [] = record { numbers = tt; reads = refl }
hits_clean (hit ∷ hits) = let all = texts_clean (hit ∷ hits) in record { numbers = (all.numbers, tt); reads = rw all.reads }

peer_clean : (id : List ℕ) → Unit {0} → IsClean (peer_json id)
peer_clean id is = record { numbers = (tt, tt); reads = refl }

pub peers_clean : (ids : List (List ℕ)) → IsClean (peers_json ids)
peers_clean ids = list_clean peer_json (λ _. Unit {0}) peer_clean ids (any ids)

pub capabilities_clean : IsClean capabilities_json
capabilities_clean = record { numbers = (tt, (tt, (tt, tt))); reads = refl }
