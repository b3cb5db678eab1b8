-- What a base64 text stands for are bytes: four symbols of six bits make three of them.
use Rattle.std.proofs.Common.{◌≡◌, ℕ, zero, suc, ◌+◌, ◌*◌, ◌==◌, ◌<◌, ◌≤◌, ◌⊎◌, nat_lt, List, [], ◌∷◌, ◌++◌, length, take, drop, slice_index, slice_set, Option, Some, None, Result, Ok, Err, refl, sym, ap, ◌∙◌, subst, inl, inr, arith}
use Rattle.std.specs.Prelude.{IfOk, IfSome}
use Rattle.std.specs.Result.{result_ok}
use Rattle.std.proofs.lemmas.Bool.{cases_Bool, cases_eq, cases_lt}
use Rattle.std.proofs.lemmas.List.{get_or-set_same, get_or-set_other, set_past}
use Rattle.base64.specs.Decode.{decode_group, decode_outcome, decoded_bytes, group_bytes, group_error, groups_before_last, groups_bytes, groups_error, no_leftover, or_else, push_leftover, scan_bytes, scan_last, scan_steps, suffix_bytes, symbol_error}
use Rattle.base64.specs.Engines.{standard}
use Rattle.base64.specs.GeneralPurpose.{decoded_of}
use Rattle.base64.specs.declared.decode.DecodeError.{DecodeError}
use Rattle.base64.proofs.Tables.{IsDecodeTable_from, are_tables_inverse}
use Rattle.json_args.specs.Kinds.{bytes_of}
use Rattle.json_args.specs.declared.fault.ArgFault.{ArgFault}
use Rattle.json_args.specs.declared.fault.ArgFault.TheVariants.{Base64}
use Rattle.command_tables.specs.Arguments.{blob_part, text_part}
use Rattle.command_tables.specs.Canonical.{AreBytes}
use Rattle.command_tables.proofs.Within.{or_else_within}

-- what a scan of the last symbols keeps has a type that its crate doesn't name for others
abbrev type_of : {A : Type 0} → A → Type 0
type_of {A = A} x = A

abbrev Leftover : Type 0
Leftover = type_of no_leftover

-- each entry of a table has six bits, or stands for no symbol
abbrev HasValues : List ℕ → Type 0
HasValues dec = (x : ℕ) → (slice_index dec x ≡ 255) ⊎ (slice_index dec x < 64)

past_end : (xs : List ℕ) (i : ℕ) → length xs ≤ i → slice_index xs i ≡ 0
past_end [] i past = refl
past_end (x ∷ xs) zero past = absurd (omega arith)
past_end (x ∷ xs) (suc i) past = past_end xs i (omega arith)

standard_values : HasValues standard.decode_table
standard_values x =
    elim (cases_lt x 256) [
      | inl below ↦ IsDecodeTable_from standard.encode_table standard.decode_table (are_tables_inverse standard.encode_table standard.decode_table standard.padding.value standard.tables) x below
      | inr past ↦ inr (omega (arith, past_end standard.decode_table x past))
    ]

bytes_append : (one other : List ℕ) → AreBytes one → AreBytes other → AreBytes (one ++ other)
bytes_append [] other first second = second
bytes_append (b ∷ bs) other first second = (first.0, bytes_append bs other first.1 second)

bytes_take : (n : ℕ) (bytes : List ℕ) → AreBytes bytes → AreBytes (take n bytes)
bytes_take zero bytes are = tt
bytes_take (suc n) [] are = tt
bytes_take (suc n) (b ∷ bs) are = (are.0, bytes_take n bs are.1)

group_are_bytes : (a b c d : ℕ) → a < 64 → b < 64 → c < 64 → d < 64 → AreBytes (decode_group a b c d)
group_are_bytes a b c d first second third fourth = (omega arith, (omega arith, (omega arith, tt)))

-- ---- whole groups

no_error : (one other : Option DecodeError) → or_else one other ≡ None → (one ≡ None) × (other ≡ None)
no_error None other none = (refl, none)
no_error (Some e) other none = cc

symbol_value : (dec s : List ℕ) (i : ℕ) → HasValues dec → symbol_error dec s i ≡ None → slice_index dec (slice_index s i) < 64
symbol_value dec s i values none =
    elim (values (slice_index s i)) [
      | inl bad ↦ cc (rw bad at none)
      | inr value ↦ value
    ]

one_group : (dec s : List ℕ) (i : ℕ) → HasValues dec → group_error dec s i ≡ None → AreBytes (group_bytes dec s i)
one_group dec s i values none =
    let first = no_error _ _ none in
    let second = no_error _ _ first.1 in
    let third = no_error _ _ second.1 in
    group_are_bytes _ _ _ _ (symbol_value dec s i values first.0) (symbol_value dec s (i + 1) values second.0) (symbol_value dec s (i + 2) values third.0) (symbol_value dec s (i + 3) values third.1)

all_groups : (dec s : List ℕ) (q : ℕ) → HasValues dec → groups_error dec s q ≡ None → AreBytes (groups_bytes dec s q)
unfolding groups_error groups_bytes
all_groups dec s zero values none = tt
all_groups dec s (suc q) values none =
    let both = no_error (groups_error dec s q) (group_error dec s (4 * q)) none in
    bytes_append (groups_bytes dec s q) (group_bytes dec s (4 * q)) (all_groups dec s q values both.0) (one_group dec s (4 * q) values both.1)

-- ---- the last group

abbrev AreValues : List ℕ → Type 0
AreValues morsels = (k : ℕ) → slice_index morsels k < 64

set_value : (xs : List ℕ) (i v : ℕ) → AreValues xs → v < 64 → AreValues (slice_set xs i v)
set_value xs i v all small k = elim (cases_eq k i) [
  | inl same ↦ elim (cases_lt i (length xs)) [
    | inl fits ↦ rw (same, get_or-set_same xs i v 0 fits) small
    | inr past ↦ rw (set_past xs i v past) (all k)
  ]
  | inr other ↦ rw (get_or-set_other xs i k v 0 other) (all k)
]

ok_value : Result Leftover DecodeError → Leftover → Leftover
ok_value (Ok x) d = x
ok_value (Err e) d = d

pushed : (dec : List ℕ) (pad at : ℕ) (st : Leftover) (i b : ℕ) (next : Leftover) → HasValues dec → AreValues st.morsels → push_leftover dec pad at st i b ≡ Ok next → AreValues next.morsels
unfolding ok_value
pushed dec pad at st i b next values held e = elim (cases_Bool (b == pad)) [
  | inl p ↦ elim (cases_Bool (nat_lt i 2)) [
    | inl l ↦ cc (rw (p, l) at e)
    | inr l ↦
        let r = rw (p, l) at e in
        let n = ap (λ (x : Result Leftover DecodeError). ok_value x st) r in
        rw (← n) held
  ]
  | inr p ↦ elim (cases_Bool (nat_lt 0 st.padding_count)) [
    | inl a ↦ cc (rw (p, a) at e)
    | inr a ↦ elim (cases_Bool (slice_index dec b == 255)) [
      | inl v ↦ cc (rw (p, a, v) at e)
      | inr v ↦
          let r = rw (p, a, v) at e in
          let n = ap (λ (x : Result Leftover DecodeError). ok_value x st) r in
          let small : slice_index dec b < 64 = elim (values b) [ inl f ↦ cc (rw f at v) | inr s ↦ s ] in
          rw (← n) (set_value st.morsels st.morsels_count (slice_index dec b) held small)
    ]
  ]
]

-- the values that a scan has, where it has no error
abbrev HasMorsels : Result Leftover DecodeError → Type 0
HasMorsels (Ok st) = AreValues st.morsels
HasMorsels (Err e) = Unit {0}

push_held : (dec : List ℕ) (pad at : ℕ) (st : Leftover) (i b : ℕ) → HasValues dec → AreValues st.morsels → (r : Result Leftover DecodeError) → push_leftover dec pad at st i b ≡ r → HasMorsels r
push_held dec pad at st i b values held (Ok next) is = pushed dec pad at st i b next values held is
push_held dec pad at st i b values held (Err e) is = tt

scanned : (dec : List ℕ) (pad at : ℕ) (r : Result Leftover DecodeError) (i : ℕ) (bs : List ℕ) → HasValues dec → HasMorsels r → HasMorsels (scan_steps dec pad at r i bs)
unfolding scan_steps
scanned dec pad at (Err e) i bs values held = tt
scanned dec pad at (Ok st) i [] values held = held
scanned dec pad at (Ok st) i (b ∷ bs) values held =
    scanned dec pad at (push_leftover dec pad at st i b) (i + 1) bs values (push_held dec pad at st i b values held (push_leftover dec pad at st i b) refl)

none_left : AreValues no_leftover.morsels
none_left zero = omega arith
none_left (suc zero) = omega arith
none_left (suc (suc zero)) = omega arith
none_left (suc (suc (suc zero))) = omega arith
none_left (suc (suc (suc (suc k)))) = omega arith

last_are_bytes : (r : Result Leftover DecodeError) → HasMorsels r → AreBytes (scan_bytes r)
last_are_bytes (Ok st) held = bytes_take _ _ (group_are_bytes _ _ _ _ (held 0) (held 1) (held 2) (held 3))
last_are_bytes (Err e) held = tt

-- ---- the whole text

parts_are_bytes : (dec : List ℕ) (pad : ℕ) (s : List ℕ) → HasValues dec → groups_error dec s (groups_before_last (length s)) ≡ None → AreBytes (decoded_bytes dec pad s)
parts_are_bytes dec pad s values none =
    let q = groups_before_last (length s) in
    bytes_append (groups_bytes dec s q) (suffix_bytes dec pad (4 * q) s) (all_groups dec s q values none)
    (last_are_bytes (scan_last dec pad (4 * q) s) (scanned dec pad (4 * q) (Ok no_leftover) 0 (drop (4 * q) s) values none_left))

outcome : (error : Option DecodeError) (decoded bytes : List ℕ) → result_ok (decode_outcome error decoded) ≡ Some bytes → (error ≡ None) × (decoded ≡ bytes)
outcome None decoded bytes is = (refl, cc is)
outcome (Some e) decoded bytes is = cc is

pub decoded_are_bytes : (text bytes : List ℕ) → decoded_of standard text ≡ Some bytes → AreBytes bytes
unfolding decoded_of
decoded_are_bytes text bytes is =
    let both = outcome _ _ bytes is in
    let groups = no_error _ _ (no_error _ _ both.0).1 in
    subst AreBytes both.1 (parts_are_bytes standard.decode_table standard.padding.value text standard_values groups.0)

some_are_bytes : (text : List ℕ) (found : Option (List ℕ)) → decoded_of standard text ≡ found → IfSome found AreBytes
some_are_bytes text None is = tt
some_are_bytes text (Some bytes) is = decoded_are_bytes text bytes is

pub found_are_bytes : (text : List ℕ) (bytes : List ℕ) (found : Option (List ℕ)) → found ≡ decoded_of standard text → found ≡ Some bytes → AreBytes bytes
found_are_bytes text bytes found is some = decoded_are_bytes text bytes (sym is ∙ some)

of_text : (index : ℕ) (r : Result (List ℕ) ArgFault) → IfOk (bytes_of index r) AreBytes
of_text index (Ok text) = or_else_within AreBytes (decoded_of standard text) (Base64 index) (some_are_bytes text (decoded_of standard text) refl)
of_text index (Err fault) = tt

-- an argument of bytes
pub blob_within : (index : ℕ) (part : Option (List ℕ)) → IfOk (blob_part index part) AreBytes
blob_within index part = of_text index (text_part index part)
