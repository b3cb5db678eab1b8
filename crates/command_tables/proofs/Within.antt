-- The numbers of a value that is read fit a u64 or an i64, and so what it is read as is within its limits.
use Rattle.std.proofs.Common.{◌≡◌, ℕ, zero, suc, ◌<◌, ◌≤◌, ◌^◌, Bool, true, false, cond, ◌&&◌, nat_le, nat_lt, List, [], ◌∷◌, Option, Some, None, Result, Ok, Err, option_map, refl, arith, ltb-true, leb-true}
use Rattle.std.specs.Prelude.{pos, neg_ℤ, IfOk, IfSome, ◌==◌, codes, drop, option_and_then, slice_index}
use Rattle.std.specs.Float.{binary64, float_is_finite}
use Rattle.std.specs.Option.{ok_or}
use Rattle.std.specs.Str.{is_utf8}
use Rattle.std.specs.List.{AllByRecursion}
use Rattle.std.proofs.lemmas.Bool.{and_parts}
use Rattle.std.specs.Float.Numeral.{Parts, minus, nearest_float as nearest, numeral_digits as digits_of, scan_numeral as scan}
use Rattle.json.specs.Json as json
use Rattle.json.specs.Lex.{tokens}
use Rattle.serde_json.specs.Data.{Num, unsigned, negative, float, Data, null, boolean, number, string, array, object, Items, no_items, item, no_members}
use Rattle.serde_json.specs.Find.{as_bool, as_str}
use Rattle.serde_json.specs.Read.{float_of, is_integer, number_from, number_of, of_items, of_json, of_members, max_depth, read}
use Rattle.json_args.specs.Kinds.{IsWhole, json_of, shaped, value_of, whole_in}
use Rattle.json_args.specs.declared.fault.ArgFault.{ArgFault}
use Rattle.json_args.specs.declared.fault.ArgFault.TheVariants.{Shape, Syntax}
use Rattle.json_values.specs.Lists.{items_in, list_in}
use Rattle.json_values.specs.Locations.{IsLocation, location_from, location_in, location_of}
use Rattle.json_values.specs.Members.{member_of, optional, or_else}
use Rattle.json_values.specs.Props.{bp_from, bp_in, is_bp, within_limits}
use Rattle.json_values.specs.Words.{word_in}
use Rattle.tcf_values.specs.declared.values.BpProps.{BpProps}

-- ---- What may be there

if_map : {A B : Type 0} → (P : A → Type 0) (Q : B → Type 0) (f : A → B) → ((x : A) → P x → Q (f x)) → (o : Option A) → IfSome o P → IfSome (option_map f o) Q
if_map P Q f each None some = tt
if_map P Q f each (Some x) some = each x some

if_then : {A B : Type 0} → (P : A → Type 0) (Q : B → Type 0) (f : A → Option B) → ((x : A) → P x → IfSome (f x) Q) → (o : Option A) → IfSome o P → IfSome (option_and_then f o) Q
if_then P Q f each None some = tt
if_then P Q f each (Some x) some = each x some

if_any : {A : Type 0} → (o : Option A) → IfSome o (λ _. Unit {0})
if_any None = tt
if_any (Some x) = tt

if_either : {A : Type 0} → (P : A → Type 0) (flag : Bool) (one other : Option A) → IfSome one P → IfSome other P → IfSome (cond flag one other) P
if_either P true one other first second = first
if_either P false one other first second = second

-- ---- Numbers

pub IsNumber : Num → Type 0
IsNumber (unsigned n) = n < 2 ^ 64
IsNumber (negative z) = IsWhole z
IsNumber (float x) = Unit {0}

negative_whole : (n : ℕ) → 0 < n → n ≤ 2 ^ 63 → IsWhole (neg_ℤ (pos n))
negative_whole zero some most = absurd (omega arith)
negative_whole (suc n) some most = omega arith

unsigned_number : (whole : Bool) (n : ℕ) (other : Option Num) → IfSome other IsNumber → IfSome (cond (whole && nat_lt n (2 ^ 64)) (Some (unsigned n)) other) IsNumber
unfolding IsNumber
unsigned_number whole n other rest = by_flag (whole && nat_lt n (2 ^ 64)) refl
  where
    by_flag : (flag : Bool) → (whole && nat_lt n (2 ^ 64)) ≡ flag → IfSome (cond flag (Some (unsigned n)) other) IsNumber
    by_flag true is = ltb-true n (2 ^ 64) (and_parts whole (nat_lt n (2 ^ 64)) is).1
    by_flag false is = rest

negative_number : (whole : Bool) (n : ℕ) (other : Option Num) → IfSome other IsNumber → IfSome (cond (whole && nat_lt 0 n && nat_le n (2 ^ 63)) (Some (negative (neg_ℤ (pos n)))) other) IsNumber
unfolding IsNumber
negative_number whole n other rest = by_flag (whole && nat_lt 0 n && nat_le n (2 ^ 63)) refl
  where
    by_flag : (flag : Bool) → (whole && nat_lt 0 n && nat_le n (2 ^ 63)) ≡ flag → IfSome (cond flag (Some (negative (neg_ℤ (pos n)))) other) IsNumber
    by_flag true is =
        let parts = and_parts (whole && nat_lt 0 n) (nat_le n (2 ^ 63)) is in
        negative_whole n (ltb-true 0 n (and_parts whole (nat_lt 0 n) parts.0).1) (leb-true n (2 ^ 63) parts.1)
    by_flag false is = rest

float_number : (flag : Bool) (num : Num) → IsNumber num → IfSome (cond flag (Some num) None) IsNumber
float_number true num is = is
float_number false num is = tt

float_within : (sign : Bool) (p : Parts) → IfSome (float_of sign p) IsNumber
unfolding IsNumber
float_within sign p = float_number (float_is_finite (nearest binary64 sign p)) (float (nearest binary64 sign p)) tt

from_within_64 : (sign : Bool) (p : Parts) → IfSome (number_from sign p) IsNumber
from_within_64 false p = unsigned_number (is_integer p) (digits_of p) (float_of false p) (float_within false p)
from_within_64 true p = negative_number (is_integer p) (digits_of p) (float_of true p) (float_within true p)

number_within : (s : List ℕ) → IfSome (number_of s) IsNumber
unfolding number_of
number_within s =
    if_either IsNumber (slice_index s 0 == minus) (number_from true (scan (drop 1 s))) (number_from false (scan s)) (from_within_64 true (scan (drop 1 s))) (from_within_64 false (scan s))

-- ---- Values

mutual
  pub IsWithin : Data → Type 0
  IsWithin (number n) = IsNumber n
  IsWithin (array ds) = AreWithin ds
  IsWithin _ = Unit {0}

  pub AreWithin : Items → Type 0
  AreWithin no_items = Unit {0}
  AreWithin (item d ds) = IsWithin d × AreWithin ds

mutual
  unfolding IsWithin

  json_within : (j : json.Json) → IfSome (of_json j) IsWithin
  json_within json.null = tt
  json_within (json.boolean b) = tt
  json_within (json.number s) = if_map IsNumber IsWithin number (λ n is. is) (number_of s) (number_within s)
  json_within (json.string s) = tt
  json_within (json.array js) = if_map AreWithin IsWithin array (λ ds are. are) (of_items js) (items_within js)
  json_within (json.object ms) = if_map (λ _. Unit {0}) IsWithin object (λ found is. tt) (of_members ms no_members) (if_any (of_members ms no_members))

  items_within : (js : json.Items) → IfSome (of_items js) AreWithin
  items_within json.no_items = tt
  items_within (json.item j js) =
      if_then IsWithin AreWithin (λ d. option_map (item d) (of_items js)) (λ d is. if_map AreWithin AreWithin (item d) (λ ds are. (is, are)) (of_items js) (items_within js)) (of_json j) (json_within j)

read_within : (j : Option json.Json) → IfSome (option_and_then of_json j) IsWithin
read_within None = tt
read_within (Some j) = json_within j

part_within : (part : List ℕ) → IfSome (json_of part) IsWithin
unfolding json_of IsWithin
part_within [] = tt
part_within (b ∷ part) =
    if_either IsWithin (is_utf8 (b ∷ part)) (read (b ∷ part)) None (read_within (option_and_then (λ p. json.if_last p.0 p.1) (json.value max_depth (tokens (b ∷ part))))) tt

-- ---- Parts

pub or_else_within : {A E : Type 0} → (P : A → Type 0) (o : Option A) (e : E) → IfSome o P → IfOk (ok_or o e) P
or_else_within P None e some = tt
or_else_within P (Some x) e some = some

value_within : (index : ℕ) (part : Option (List ℕ)) → IfOk (value_of index part) IsWithin
value_within index None = tt
value_within index (Some part) = or_else_within IsWithin (json_of part) (Syntax index) (part_within part)

shaped_within : {A : Type 0} → (P : A → Type 0) (kind : Data → Option A) (index : ℕ) → ((d : Data) → IsWithin d → IfSome (kind d) P) → (r : Result Data ArgFault) → IfOk r IsWithin → IfOk (shaped kind index r) P
shaped_within P kind index each (Ok d) is = or_else_within P (kind d) (Shape index) (each d is)
shaped_within P kind index each (Err fault) is = tt

-- a part of a kind has what each value of the kind has
pub part_has : {A : Type 0} → (P : A → Type 0) (kind : Data → Option A) → ((d : Data) → IsWithin d → IfSome (kind d) P) → (index : ℕ) (part : Option (List ℕ)) → IfOk (shaped kind index (value_of index part)) P
part_has P kind each index part = shaped_within P kind index each (value_of index part) (value_within index part)

-- ---- Kinds

pub whole_within : (d : Data) → IsWithin d → IfSome (whole_in d) IsWhole
unfolding IsWithin IsNumber
whole_within null is = tt
whole_within (boolean b) is = tt
whole_within (number (unsigned n)) is = is
whole_within (number (negative z)) is = is
whole_within (number (float x)) is = tt
whole_within (string s) is = tt
whole_within (array ds) is = tt
whole_within (object ms) is = tt

limits_within : (props : BpProps) → IfSome (within_limits props) (λ p. is_bp p ≡ true)
limits_within props = by_flag (is_bp props) refl
  where
    by_flag : (flag : Bool) → is_bp props ≡ flag → IfSome (cond flag (Some props) None) (λ p. is_bp p ≡ true)
    by_flag true is = is
    by_flag false is = tt

from_fits : (id : List ℕ) (enabled : Option Bool) (location : Option (Option (List ℕ))) (contexts : Option (Option (List (List ℕ)))) (ignore : Option (Option ℕ))
    → IfSome (bp_from id enabled location contexts ignore) (λ p. is_bp p ≡ true)
from_fits id None location contexts ignore = tt
from_fits id (Some e) None contexts ignore = tt
from_fits id (Some e) (Some l) None ignore = tt
from_fits id (Some e) (Some l) (Some c) None = tt
from_fits id (Some e) (Some l) (Some c) (Some i) = limits_within (record { id = id; enabled = e; location = l; contexts = c; ignore = i })

named_fits : (enabled : Option Bool) (location : Option (Option (List ℕ))) (contexts : Option (Option (List (List ℕ)))) (ignore : Option (Option ℕ)) (id : Option (List ℕ))
    → IfSome (option_and_then (λ i. bp_from i enabled location contexts ignore) id) (λ p. is_bp p ≡ true)
named_fits enabled location contexts ignore None = tt
named_fits enabled location contexts ignore (Some id) = from_fits id enabled location contexts ignore

pub bp_within : (d : Data) → IsWithin d → IfSome (bp_in d) (λ p. is_bp p ≡ true)
bp_within d is =
    named_fits (or_else false as_bool (member_of (codes "Enabled") d)) (optional as_str (member_of (codes "Location") d)) (optional (list_in as_str) (member_of (codes "ContextIds") d))
    (optional word_in (member_of (codes "IgnoreCount") d)) (option_and_then as_str (member_of (codes "ID") d))

from_within : (register offset size : Data) → IsWithin offset → IsWithin size → IfSome (location_from register offset size) IsLocation
from_within register offset size first second =
    if_then (λ _. Unit {0}) IsLocation (λ r. option_and_then (λ o. option_map (λ s. record { register = r; offset = o; size = s }) (whole_in size)) (whole_in offset))
    (λ r _. if_then IsWhole IsLocation (λ o. option_map (λ s. record { register = r; offset = o; size = s }) (whole_in size))
    (λ o is. if_map IsWhole IsLocation (λ s. record { register = r; offset = o; size = s }) (λ s also. (is, also)) (whole_in size) (whole_within size second)) (whole_in offset) (whole_within offset first)) (as_str register)
    (if_any (as_str register))

items_location : (ds : Items) → AreWithin ds → IfSome (location_of ds) IsLocation
unfolding IsWithin
items_location no_items are = tt
items_location (item r no_items) are = tt
items_location (item r (item o no_items)) are = tt
items_location (item r (item o (item s no_items))) are = from_within r o s are.1.0 are.1.1.0
items_location (item r (item o (item s (item d ds)))) are = tt

pub location_within : (d : Data) → IsWithin d → IfSome (location_in d) IsLocation
unfolding IsWithin
location_within null is = tt
location_within (boolean b) is = tt
location_within (number n) is = tt
location_within (string s) is = tt
location_within (array ds) is = items_location ds is
location_within (object ms) is = tt

items_have : {A : Type 0} → (P : A → Type 0) (kind : Data → Option A) → ((d : Data) → IsWithin d → IfSome (kind d) P) → (ds : Items) → AreWithin ds → IfSome (items_in kind ds) (AllByRecursion P)
unfolding IsWithin
items_have P kind each no_items are = tt
items_have P kind each (item d ds) are =
    if_then P (AllByRecursion P) (λ x. option_map (λ xs. x ∷ xs) (items_in kind ds)) (λ x is. if_map (AllByRecursion P) (AllByRecursion P) (λ xs. x ∷ xs) (λ xs all. (is, all)) (items_in kind ds) (items_have P kind each ds are.1)) (kind d) (each d are.0)

pub list_within : {A : Type 0} → (P : A → Type 0) (kind : Data → Option A) → ((d : Data) → IsWithin d → IfSome (kind d) P) → (d : Data) → IsWithin d → IfSome (list_in kind d) (AllByRecursion P)
unfolding IsWithin
list_within P kind each null is = tt
list_within P kind each (boolean b) is = tt
list_within P kind each (number n) is = tt
list_within P kind each (string s) is = tt
list_within P kind each (array ds) is = items_have P kind each ds is
list_within P kind each (object ms) is = tt
