-- Rows are found by the numbers of their channels.
use Rattle.std.specs.Prelude.{ℕ, ◌==◌, List, position, slice_get, slice_set, Option, None, Some, option_map}
use Rattle.serving_wires.specs.Row.{Row}

abbrev pub place_of : {T : Type 0} → ℕ → List (Row T) → Option ℕ
place_of channel rows = position (λ row. row.channel == channel) rows

abbrev pub item_at : {T : Type 0} → ℕ → List (Row T) → Option T
item_at place rows = option_map (λ row. row.item) (slice_get rows place)

abbrev pub channel_at : {T : Type 0} → ℕ → List (Row T) → Option ℕ
channel_at place rows = option_map (λ row. row.channel) (slice_get rows place)

abbrev pub with_item : {T : Type 0} → T → Row T → Row T
with_item item row = record row { item = item }

-- the item at a place is changed, if there is one
abbrev pub put_at : {T : Type 0} → ℕ → T → List (Row T) → Option (Row T) → List (Row T)
put_at place item rows None = rows
put_at place item rows (Some row) = slice_set rows place (with_item item row)

abbrev pub with_item_at : {T : Type 0} → ℕ → T → List (Row T) → List (Row T)
with_item_at place item rows = put_at place item rows (slice_get rows place)
