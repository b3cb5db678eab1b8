-- What a text in base64 stands for is bytes: each is below 256.
use Rattle.std.proofs.Common.{◌≡◌, ℕ, zero, suc, ◌+◌, ◌*◌, ◌==◌, ◌<◌, ◌≤◌, ◌⊎◌, nat_lt, Bool, true, false, cond, List, [], ◌∷◌, length, drop, slice_index, slice_set, refl, sym, ◌∙◌, subst, arith, inl, inr}
use Rattle.std.proofs.lemmas.Bool.{cases_eq, cases_lt, eq-eqb}
use Rattle.std.proofs.lemmas.List.{get_or-set_other, get_or-set_same, get_or_past, set_past}
use Rattle.std.specs.List.{AllByRecursion}
use Rattle.std.specs.Prelude.{Option, Some, None}
use Rattle.std.specs.Result.{result_ok}
use Rattle.std.specs.declared.result.Result.{Result}
use Rattle.std.specs.declared.result.Result.TheVariants.{Ok, Err}
use Rattle.base64.specs.declared.decode.DecodeError.{DecodeError}
use Rattle.base64.specs.declared.engine.DecodePaddingMode.{DecodePaddingMode}
use Rattle.base64.specs.Decode.{IsDecodeTable, decode_error, decode_group, decode_outcome, decoded_bytes, group_bytes, group_error, groups_before_last, groups_bytes, groups_error, no_leftover, or_else, push_leftover, scan_bytes, scan_last, scan_steps, symbol_error}
use Rattle.base64.specs.Engines.{standard}
use Rattle.base64.specs.GeneralPurpose.{decoded_of}
use Rattle.base64.proofs.Tables.{IsDecodeTable_from, are_tables_inverse}
use Rattle.list_laws.proofs.AllLists.{all_append, all_take}

abbrev IsSmall : ℕ → Type 0
IsSmall byte = byte < 256

abbrev AreSmall : List ℕ → Type 0
AreSmall bytes = AllByRecursion IsSmall bytes

-- ---- symbols

-- a value of the table is that of a symbol, or 255
abbrev IsTable : List ℕ → Type 0
IsTable table = (symbol : ℕ) → (slice_index table symbol ≡ 255) ⊎ (slice_index table symbol < 64)

table_past : (table : List ℕ) (symbol : ℕ) → length table ≤ symbol → slice_index table symbol < 64
table_past table symbol past = omega (arith, get_or_past table symbol 0 past)

is_table : (table : List ℕ) → length table ≡ 256 → IsDecodeTable table → IsTable table
is_table table has is symbol = elim (cases_lt symbol 256) [
  | inl low ↦ is symbol low
  | inr high ↦ inr (table_past table symbol (omega (arith, has, high)))
]

group_small : (a b c d : ℕ) → a < 64 → b < 64 → c < 64 → d < 64 → AreSmall (decode_group a b c d)
group_small a b c d one two three four = (omega (arith, one, two), (omega (arith, two, three), (omega (arith, three, four), tt)))

-- ---- whole groups

none_both : (one two : Option DecodeError) → or_else one two ≡ None → (one ≡ None) × (two ≡ None)
none_both None two is = (refl, is)
none_both (Some error) two is = cc

known_symbol : (table text : List ℕ) (place : ℕ) → IsTable table → symbol_error table text place ≡ None → slice_index table (slice_index text place) < 64
known_symbol table text place is none = elim (is (slice_index text place)) [
  | inl other ↦ absurd (no_error (slice_index table (slice_index text place) == 255) _ (eq-eqb _ _ other) none)
  | inr small ↦ small
]
  where
    no_error : (b : Bool) (error : DecodeError) → b ≡ true → cond b (Some error) None ≡ None → ⊥
    no_error true error is none = cc
    no_error false error is none = cc

known_group : (table text : List ℕ) (place : ℕ) → IsTable table → group_error table text place ≡ None → AreSmall (group_bytes table text place)
known_group table text place is none =
    let one = none_both _ _ none in
    let two = none_both _ _ one.1 in
    let three = none_both _ _ two.1 in
    group_small _ _ _ _ (known_symbol table text place is one.0) (known_symbol table text (place + 1) is two.0)
    (known_symbol table text (place + 2) is three.0) (known_symbol table text (place + 3) is three.1)

groups_small : (table text : List ℕ) (count : ℕ) → IsTable table → groups_error table text count ≡ None → AreSmall (groups_bytes table text count)
unfolding groups_error groups_bytes
groups_small table text zero is none = tt
groups_small table text (suc count) is none =
    let both = none_both (groups_error table text count) (group_error table text (4 * count)) none in
    all_append IsSmall (groups_bytes table text count) (group_bytes table text (4 * count)) (groups_small table text count is both.0) (known_group table text (4 * count) is both.1)

-- ---- the last group

abbrev type_of : {A : Type 0} → A → Type 0
type_of {A = A} value = A

-- what is left of a text behind its whole groups
abbrev Leftover : Type 0
Leftover = type_of no_leftover

abbrev HasSmall : Leftover → Type 0
HasSmall left = (k : ℕ) → slice_index left.morsels k < 64

set_small : (xs : List ℕ) (place value k : ℕ) → ((j : ℕ) → slice_index xs j < 64) → value < 64 → slice_index (slice_set xs place value) k < 64
set_small xs place value k all small = elim (cases_eq k place) [
  | inl same ↦ elim (cases_lt place (length xs)) [
    | inl fits ↦ rw (same, get_or-set_same xs place value 0 fits) small
    | inr past ↦ rw (set_past xs place value past) (all k)
  ]
  | inr other ↦ rw (get_or-set_other xs place k value 0 other) (all k)
]

no_error : (error : DecodeError) (next : Leftover) → ◌≡◌ {A = Result Leftover DecodeError} (Err error) (Ok next) → ⊥
no_error error next is = cc

the_next : (one next : Leftover) → ◌≡◌ {A = Result Leftover DecodeError} (Ok one) (Ok next) → one ≡ next
the_next one next is = cc

-- one more symbol is the padding, which may come too early, or stands behind padding, or is none
next_small : (next : Leftover) (padding early behind none : Bool) (first second third : DecodeError) (padded pushed : Leftover) → HasSmall padded → (none ≡ false → HasSmall pushed)
    → cond padding (cond early (Err first) (Ok padded)) (cond behind (Err second) (cond none (Err third) (Ok pushed))) ≡ Ok next → HasSmall next
next_small next true true behind none first second third padded pushed one two is = absurd (no_error first next is)
next_small next true false behind none first second third padded pushed one two is = subst HasSmall (the_next padded next is) one
next_small next false early true none first second third padded pushed one two is = absurd (no_error second next is)
next_small next false early false true first second third padded pushed one two is = absurd (no_error third next is)
next_small next false early false false first second third padded pushed one two is = subst HasSmall (the_next pushed next is) (two refl)

symbol_small : (table : List ℕ) (symbol : ℕ) → IsTable table → (slice_index table symbol == 255) ≡ false → slice_index table symbol < 64
symbol_small table symbol is other = elim (is symbol) [
  | inl same ↦ cc (sym (eq-eqb _ _ same) ∙ other)
  | inr small ↦ small
]

push_small : (table : List ℕ) (pad at : ℕ) (left : Leftover) (i symbol : ℕ) (next : Leftover) → IsTable table → HasSmall left → push_leftover table pad at left i symbol ≡ Ok next → HasSmall next
push_small table pad at left i symbol next is has ok =
    next_small next (symbol == pad) (nat_lt i 2) (nat_lt 0 left.padding_count) (slice_index table symbol == 255) _ _ _ _ _ has
    (λ other k. set_small left.morsels left.morsels_count (slice_index table symbol) k has (symbol_small table symbol is other)) ok

scan_small : (table : List ℕ) (pad at : ℕ) (so_far : Result Leftover DecodeError) (i : ℕ) (symbols : List ℕ) (last : Leftover) → IsTable table
    → ((left : Leftover) → so_far ≡ Ok left → HasSmall left) → scan_steps table pad at so_far i symbols ≡ Ok last → HasSmall last
unfolding scan_steps
scan_small table pad at (Err error) i symbols last is has ok = absurd (no_error error last ok)
scan_small table pad at (Ok left) i [] last is has ok = has last ok
scan_small table pad at (Ok left) i (symbol ∷ symbols) last is has ok =
    scan_small table pad at (push_leftover table pad at left i symbol) (i + 1) symbols last is
    (λ next pushed. push_small table pad at left i symbol next is (has left refl) pushed) ok

none_small : (k : ℕ) → slice_index no_leftover.morsels k < 64
none_small zero = omega arith
none_small (suc zero) = omega arith
none_small (suc (suc zero)) = omega arith
none_small (suc (suc (suc zero))) = omega arith
none_small (suc (suc (suc (suc k)))) = omega arith

last_small : (scanned : Result Leftover DecodeError) → ((left : Leftover) → scanned ≡ Ok left → HasSmall left) → AreSmall (scan_bytes scanned)
last_small (Err error) has = tt
last_small (Ok left) has =
    let small = has left refl in
    all_take IsSmall _ (decode_group _ _ _ _) (group_small _ _ _ _ (small 0) (small 1) (small 2) (small 3))

-- ---- a text

all_small : (table : List ℕ) (pad : ℕ) (allow : Bool) (mode : DecodePaddingMode) (text : List ℕ) → IsTable table → decode_error table pad allow mode text ≡ None
    → AreSmall (decoded_bytes table pad text)
all_small table pad allow mode text is none =
    let count = groups_before_last (length text) in
    let rest = (none_both _ _ none).1 in
    let groups = (none_both (groups_error table text count) _ rest).0 in
    all_append IsSmall (groups_bytes table text count) (scan_bytes (scan_last table pad (4 * count) text)) (groups_small table text count is groups)
    (last_small (scan_last table pad (4 * count) text)
    (λ left ok. scan_small table pad (4 * count) (Ok no_leftover) 0 (drop (4 * count) text) left is (λ one same. subst HasSmall (the_next no_leftover one same) none_small) ok))

outcome_small : (error : Option DecodeError) (bytes found : List ℕ) → (error ≡ None → AreSmall bytes) → result_ok (decode_outcome error bytes) ≡ Some found → AreSmall found
outcome_small None bytes found small is =
    let same : bytes ≡ found = cc in
    subst AreSmall same (small refl)
outcome_small (Some error) bytes found small is = cc

pub decoded_bytes_small : (text bytes : List ℕ) → decoded_of standard text ≡ Some bytes → AreSmall bytes
unfolding decoded_of
decoded_bytes_small text bytes is =
    let table = standard.decode_table in
    outcome_small (decode_error table standard.padding.value standard.config.decode_allow_trailing_bits standard.config.decode_padding_mode text) (decoded_bytes table standard.padding.value text) bytes
    (all_small table standard.padding.value standard.config.decode_allow_trailing_bits standard.config.decode_padding_mode text
    (is_table table refl (IsDecodeTable_from standard.encode_table table (are_tables_inverse standard.encode_table table standard.padding.value standard.tables)))) is
