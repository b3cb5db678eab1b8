-- What is written of properties within their limits is read as them.
use Rattle.std.specs.Prelude.{◌≡◌, ◌≤◌, ◌<◌, ◌^◌, ◌&&◌, nat_le, ℕ, Bool, true, false, List, [], ◌∷◌, length, Option, Some, None, option_map, IfSome, refl}
use Rattle.std.specs.List.{AllByRecursion}
use Rattle.std.proofs.Common.{◌∙◌, ap, arith, leb-true}
use Rattle.std.proofs.lemmas.Bool.{and_parts, cond-true}
use Rattle.serde_json.specs.Data.{depth}
use Rattle.serde_json.specs.Find.{as_str}
use Rattle.serde_json.specs.Written.{has_float}
use Rattle.json_values.specs.Lists.{list_in}
use Rattle.json_values.specs.ListLaws.{list_back, list_plain, list_shallow}
use Rattle.json_values.specs.Plain.{text_json, texts_json}
use Rattle.json_values.specs.Props.{bp_json, bp_in, are_contexts, is_bp, is_ignore_count, is_location, is_short, bp_from, within_limits}
use Rattle.json_values.specs.WordLaws.{word_back}
use Rattle.json_values.specs.Words.{word_json, word_in}
use Rattle.tcf_values.specs.declared.values.BpProps.{BpProps}

any : (texts : List (List ℕ)) → AllByRecursion (λ (t : List ℕ). Unit {0}) texts
any [] = tt
any (t ∷ ts) = (tt, any ts)

-- texts are read back
pub texts_back : (texts : List (List ℕ)) → list_in as_str (texts_json texts) ≡ Some texts
texts_back texts = list_back text_json as_str (λ (t : List ℕ). Unit {0}) (λ t w. refl) texts (any texts)

-- how many hits pass is a number of 32 bits
ignore_word : (found : Option ℕ) → is_ignore_count found ≡ true → IfSome found (λ n. n < 2 ^ 32)
ignore_word None within = tt
ignore_word (Some n) within = omega (arith, leb-true n 1000000 within)

pub props_word : (props : BpProps) → is_bp props ≡ true → IfSome props.ignore (λ n. n < 2 ^ 32)
props_word props within =
    let texts = nat_le 1 (length props.id) && is_short 255 props.id && is_location props.location && are_contexts props.contexts in
    ignore_word props.ignore (and_parts texts (is_ignore_count props.ignore) within).1

parts_back : (id : List ℕ) (enabled : Bool) (location : Option (List ℕ)) (contexts : Option (List (List ℕ))) (ignore : Option ℕ) → IfSome ignore (λ n. n < 2 ^ 32)
    → bp_in (bp_json (record { id = id; enabled = enabled; location = location; contexts = contexts; ignore = ignore }))
    ≡ within_limits (record { id = id; enabled = enabled; location = location; contexts = contexts; ignore = ignore })
parts_back id enabled None None None word = refl
parts_back id enabled (Some text) None None word = refl
parts_back id enabled None (Some texts) None word =
    ap (λ found. bp_from id (Some enabled) (Some None) (option_map Some found) (Some None)) (texts_back texts)
parts_back id enabled (Some text) (Some texts) None word =
    ap (λ found. bp_from id (Some enabled) (Some (Some text)) (option_map Some found) (Some None)) (texts_back texts)
parts_back id enabled None None (Some n) word =
    ap (λ found. bp_from id (Some enabled) (Some None) (Some None) (option_map Some found)) (word_back n word)
parts_back id enabled (Some text) None (Some n) word =
    ap (λ found. bp_from id (Some enabled) (Some (Some text)) (Some None) (option_map Some found)) (word_back n word)
parts_back id enabled None (Some texts) (Some n) word =
    ap (λ found. bp_from id (Some enabled) (Some None) (option_map Some found) (option_map Some (word_in (word_json n)))) (texts_back texts)
    ∙ ap (λ found. bp_from id (Some enabled) (Some None) (Some (Some texts)) (option_map Some found)) (word_back n word)
parts_back id enabled (Some text) (Some texts) (Some n) word =
    ap (λ found. bp_from id (Some enabled) (Some (Some text)) (option_map Some found) (option_map Some (word_in (word_json n)))) (texts_back texts)
    ∙ ap (λ found. bp_from id (Some enabled) (Some (Some text)) (Some (Some texts)) (option_map Some found)) (word_back n word)

pub bp_back : (props : BpProps) → is_bp props ≡ true → bp_in (bp_json props) ≡ Some props
bp_back props within =
    parts_back props.id props.enabled props.location props.contexts props.ignore (props_word props within)
    ∙ cond-true (is_bp props) (Some props) None within

parts_plain : (id : List ℕ) (enabled : Bool) (location : Option (List ℕ)) (contexts : Option (List (List ℕ))) (ignore : Option ℕ)
    → has_float (bp_json (record { id = id; enabled = enabled; location = location; contexts = contexts; ignore = ignore })) ≡ false
parts_plain id enabled None None None = refl
parts_plain id enabled (Some text) None None = refl
parts_plain id enabled None None (Some n) = refl
parts_plain id enabled (Some text) None (Some n) = refl
parts_plain id enabled None (Some texts) None = rw (list_plain text_json (λ t. refl) texts)
parts_plain id enabled (Some text) (Some texts) None = rw (list_plain text_json (λ t. refl) texts)
parts_plain id enabled None (Some texts) (Some n) = rw (list_plain text_json (λ t. refl) texts)
parts_plain id enabled (Some text) (Some texts) (Some n) = rw (list_plain text_json (λ t. refl) texts)

pub bp_plain : (props : BpProps) → has_float (bp_json props) ≡ false
bp_plain props = parts_plain props.id props.enabled props.location props.contexts props.ignore

texts_low : (texts : List (List ℕ)) → depth (texts_json texts) ≤ 1
texts_low texts = list_shallow text_json 0 (λ t. omega arith) texts

parts_shallow : (id : List ℕ) (enabled : Bool) (location : Option (List ℕ)) (contexts : Option (List (List ℕ))) (ignore : Option ℕ)
    → depth (bp_json (record { id = id; enabled = enabled; location = location; contexts = contexts; ignore = ignore })) ≤ 2
parts_shallow id enabled None None None = omega arith
parts_shallow id enabled (Some text) None None = omega arith
parts_shallow id enabled None None (Some n) = omega arith
parts_shallow id enabled (Some text) None (Some n) = omega arith
parts_shallow id enabled None (Some texts) None = omega (arith, texts_low texts)
parts_shallow id enabled (Some text) (Some texts) None = omega (arith, texts_low texts)
parts_shallow id enabled None (Some texts) (Some n) = omega (arith, texts_low texts)
parts_shallow id enabled (Some text) (Some texts) (Some n) = omega (arith, texts_low texts)

pub bp_shallow : (props : BpProps) → depth (bp_json props) ≤ 2
bp_shallow props = parts_shallow props.id props.enabled props.location props.contexts props.ignore
