-- What is kept of the channel of a number is changed, if there is such.
use Rattle.std.specs.Prelude.{ℕ, List, Option, None, Some}
use Rattle.serving_wires.specs.Row.{Row}
use Rattle.serving_wires.specs.Rows.{item_at, place_of, with_item_at}

abbrev pub changed_by : {T : Type 0} → ℕ → (T → T) → Option T → List (Row T) → List (Row T)
changed_by place change None rows = rows
changed_by place change (Some item) rows = with_item_at place (change item) rows

abbrev pub changed_at : {T : Type 0} → (T → T) → Option ℕ → List (Row T) → List (Row T)
changed_at change None rows = rows
changed_at change (Some place) rows = changed_by place change (item_at place rows) rows

abbrev pub changed_on : {T : Type 0} → ℕ → (T → T) → List (Row T) → List (Row T)
changed_on channel change rows = changed_at change (place_of channel rows) rows

-- what is kept of a channel
abbrev pub item_in : {T : Type 0} → Option ℕ → List (Row T) → Option T
item_in None rows = None
item_in (Some place) rows = item_at place rows

abbrev pub item_on : {T : Type 0} → ℕ → List (Row T) → Option T
item_on channel rows = item_in (place_of channel rows) rows
