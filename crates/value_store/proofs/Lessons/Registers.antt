-- What is answered of registers from what is known tells what is known.
use Rattle.std.proofs.Common.{◌≡◌, ℕ, zero, suc, ℤ, pos, negsuc, ◌+◌, ◌≤◌, ◌<◌, ◌==◌, ◌||◌, true, false, true≢false, is_some, List, [], ◌∷◌, ◌++◌, length, take, drop, Option, Some, None, option_map, refl, sym, ap, ◌∙◌, subst, arith, length-take, length-drop}
use Rattle.std.specs.Int.{w32, from_le_bytes, to_le_bytes}
use Rattle.std.specs.List.{AllByRecursion}
use Rattle.std.specs.Prelude.{IfSome, unsigned_abs, int_lt, ◌+ℤ◌}
use Rattle.std.proofs.lemmas.Bool.{and_parts, eqb-true, ltb-false, not-true, or_parts}
use Rattle.std.proofs.lemmas.List.{drop_at, take_all, take_at}
use Rattle.std.proofs.lemmas.Nat.{from_le_bytes-to_le_bytes_4}
use Rattle.command_tables.specs.Canonical.{AreBytes}
use Rattle.knowledge.specs.Facts.{Facts}
use Rattle.knowledge.specs.Reply.{are_parts_known, bytes_or_none, part_bytes, part_known, parts_bytes, register_known}
use Rattle.knowledge.specs.Rows.{is_part, parts_read, whole_read, word_read}
use Rattle.value_store.proofs.Lessons.Each.{bound, map_any, mapped, passed, where_so}
use Rattle.value_store.proofs.Lessons.Learned.{IsSoundOf}
use Rattle.value_store.proofs.Lessons.Reading.{IsWord}
use Rattle.value_store.proofs.Lessons.Told.{Tells}
use Rattle.tcf_values.specs.Ids.{register_of}
use Rattle.tcf_values.specs.declared.ids.RegisterId.{RegisterId}
use Rattle.tcf_values.specs.declared.values.Location.{Location}
use Rattle.list_laws.proofs.AllLists.{all_append, all_drop, all_if, all_take}

abbrev word : ℕ → List ℕ
word value = to_le_bytes w32 value

word_four : (value : ℕ) → length (word value) ≡ 4
word_four value = refl

pub word_bytes : (value : ℕ) → AreBytes (word value)
word_bytes value = (omega arith, (omega arith, (omega arith, (omega arith, tt))))

-- ---- one register

-- bytes that are all four of its word, or fewer, tell its value or nothing
pub whole_tells : (known : Facts) (id : List ℕ) (value : ℕ) (bytes : List ℕ) → IsSoundOf known → register_known id known ≡ Some value → (length bytes ≡ 4 → bytes ≡ word value)
    → AllByRecursion (Tells known) (whole_read id bytes)
whole_tells known id value bytes sound is whole =
    let found = bound (λ register. known.registers register.process register.thread register.index) (register_of id) value is in
    let register : RegisterId = found.0 in
    let small : IsWord value = sound.registers register.process register.thread register.index value found.2 in
    all_if (Tells known) (length bytes == 4) (word_read bytes (register_of id)) (λ four.
    let same : bytes ≡ word value = whole (eqb-true (length bytes) 4 four) in
    let back : from_le_bytes w32 bytes ≡ value = ap (from_le_bytes w32) same ∙ from_le_bytes-to_le_bytes_4 value small in
    subst (λ (o : Option RegisterId). AllByRecursion (Tells known) (word_read bytes o)) (sym found.1) (found.2 ∙ ap (λ (n : ℕ). Some n) (sym back), tt))

-- ---- parts of registers

within : (offset size : ℤ) → (int_lt offset (pos 0) || int_lt size (pos 1) || int_lt (pos 4) (offset +ℤ size)) ≡ false → unsigned_abs offset + unsigned_abs size ≤ 4
within (pos o) (pos s) is = ltb-false 4 (o + s) (or_parts _ _ is).1
within (pos o) (negsuc s) is = let negative : true ≡ false = (or_parts _ _ (or_parts _ _ is).0).1 in absurd (true≢false negative)
within (negsuc o) size is = absurd (true≢false is)

piece_size : (offset size : ℕ) (bytes : List ℕ) → length bytes ≡ 4 → offset + size ≤ 4 → length (take size (drop offset bytes)) ≡ size
piece_size offset size bytes four fits = omega (arith, four, fits, length-take size (drop offset bytes), length-drop offset bytes)

-- all four of four bytes
whole_piece : (offset size : ℕ) (bytes : List ℕ) → length bytes ≡ 4 → length (take size (drop offset bytes)) ≡ 4 → take size (drop offset bytes) ≡ bytes
whole_piece zero size bytes four whole = take_all size bytes (omega (arith, four, whole, length-take size bytes))
whole_piece (suc offset) size bytes four whole =
    absurd (omega (arith, four, whole, length-take size (drop (suc offset) bytes), length-drop (suc offset) bytes))

-- the bytes of a part that is known are as many as it asks for, and tell its register's value or nothing
pub record IsPiece (known : Facts) (location : Location) (piece : List ℕ) : Type 0 where
  pub asked : is_part location ≡ true
  pub size : length piece ≡ unsigned_abs location.size
  pub tells : AllByRecursion (Tells known) (whole_read location.register piece)

piece_is : (known : Facts) (location : Location) (piece : List ℕ) → IsSoundOf known → part_known known location ≡ Some piece → IsPiece known location piece
piece_is known location piece sound is =
    let can = passed (is_part location) (option_map (part_bytes location) (register_known location.register known)) piece is in
    let found = mapped (part_bytes location) (register_known location.register known) piece can.1 in
    let offset = unsigned_abs location.offset in
    let size = unsigned_abs location.size in
    let value : ℕ = found.0 in
    subst (IsPiece known location) found.2 (record {
      asked = can.0;
      size = piece_size offset size (word value) (word_four value) (within location.offset location.size (not-true _ can.0));
      tells = whole_tells known location.register value (part_bytes location value) sound found.1 (whole_piece offset size (word value) (word_four value));
    })

one_more : (known : Facts) (location : Location) (list : List Location) (piece rest : List ℕ) → IsPiece known location piece → AllByRecursion (Tells known) (parts_read list rest)
    → AllByRecursion (Tells known) (parts_read (location ∷ list) (piece ++ rest))
one_more known location list piece rest is others =
    let size = unsigned_abs location.size in
    all_if (Tells known) (is_part location) (whole_read location.register (take size (piece ++ rest)) ++ parts_read list (drop size (piece ++ rest))) (λ can.
    all_append (Tells known) (whole_read location.register (take size (piece ++ rest))) (parts_read list (drop size (piece ++ rest)))
    (subst (λ (xs : List ℕ). AllByRecursion (Tells known) (whole_read location.register xs)) (sym (take_at piece rest size is.size)) is.tells)
    (subst (λ (xs : List ℕ). AllByRecursion (Tells known) (parts_read list xs)) (sym (drop_at piece rest size is.size)) others))

part_more : (known : Facts) (location : Location) (list : List Location) (part : Option (List ℕ)) (rest : List ℕ) → is_some part ≡ true
    → ((piece : List ℕ) → part ≡ Some piece → IsPiece known location piece) → AllByRecursion (Tells known) (parts_read list rest)
    → AllByRecursion (Tells known) (parts_read (location ∷ list) (bytes_or_none part ++ rest))
part_more known location list None rest some is others = absurd (true≢false (sym some))
part_more known location list (Some piece) rest some is others = one_more known location list piece rest (is piece refl) others

pub parts_tell : (known : Facts) (list : List Location) → IsSoundOf known → are_parts_known known list ≡ true → AllByRecursion (Tells known) (parts_read list (parts_bytes known list))
parts_tell known [] sound all = tt
parts_tell known (location ∷ list) sound all =
    let both = and_parts (is_some (part_known known location)) (are_parts_known known list) all in
    part_more known location list (part_known known location) (parts_bytes known list) both.0 (λ piece. piece_is known location piece sound) (parts_tell known list sound both.1)

-- ---- they are bytes

some_bytes : (part : Option (List ℕ)) → IfSome part AreBytes → AreBytes (bytes_or_none part)
some_bytes None are = tt
some_bytes (Some bytes) are = are

part_typed : (known : Facts) (location : Location) → AreBytes (bytes_or_none (part_known known location))
part_typed known location =
    let IsByte : ℕ → Type 0 = λ byte. byte < 256 in
    let offset = unsigned_abs location.offset in
    let size = unsigned_abs location.size in
    some_bytes (part_known known location)
    (where_so AreBytes (is_part location) (option_map (part_bytes location) (register_known location.register known)) (λ can.
    map_any AreBytes (part_bytes location) (register_known location.register known) (λ value. all_take IsByte size (drop offset (word value)) (all_drop IsByte offset (word value) (word_bytes value)))))

pub parts_typed : (known : Facts) (list : List Location) → AreBytes (parts_bytes known list)
parts_typed known [] = tt
parts_typed known (location ∷ list) =
    all_append (λ byte. byte < 256) (bytes_or_none (part_known known location)) (parts_bytes known list) (part_typed known location) (parts_typed known list)
