-- The parts of an answer and of an event: each is empty or the text of a JSON value.
use Rattle.std.specs.Prelude.{ℕ, ◌≡◌, ◌-◌, ◌==◌, Bool, true, List, [], map, length, slice_get, Option, Some, None, option_and_then, if◌then◌else◌}
use Rattle.std.specs.List.{AllByRecursion}
use Rattle.serde_json.specs.Data.{Data}
use Rattle.serde_json.specs.Written.{compact_text}
use Rattle.json_args.specs.Kinds.{json_of}
use Rattle.json_args.specs.Parts.{joined, parts_of}

-- the empty part, or the canonical text of a value
abbrev pub part_text : Option Data → List ℕ
part_text None = []
part_text (Some d) = compact_text d

-- the data of these parts
abbrev pub data_of : List (Option Data) → List ℕ
data_of parts = joined (map part_text parts)

-- the JSON value of the part at the index, counted from 0
abbrev pub json_at : List (List ℕ) → ℕ → Option Data
json_at parts index = option_and_then json_of (slice_get parts index)

-- that value as a kind
abbrev pub part_in : {A : Type 0} → (Data → Option A) → List (List ℕ) → ℕ → Option A
part_in kind parts index = option_and_then kind (json_at parts index)

-- whether nothing follows the last zero
abbrev pub is_end : Option ℕ → Bool
is_end None = true
is_end (Some last) = last == 0

-- the parts, where the last of them is ended
abbrev pub ended_parts : List ℕ → Option (List (List ℕ))
ended_parts body = if is_end (slice_get body (length body - 1)) then Some (parts_of body) else None

-- a part that was written of a value is read as the value
abbrev pub ReadsBack : Option Data → Type 0
ReadsBack None = Unit {0}
ReadsBack (Some d) = json_of (compact_text d) ≡ Some d

abbrev pub PartsRead : List (Option Data) → Type 0
PartsRead parts = AllByRecursion ReadsBack parts
