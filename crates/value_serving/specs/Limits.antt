-- How many value-adds stand.
use Rattle.std.specs.Prelude.{ℕ, ◌≤◌, List, length}
use Rattle.value_serving.specs.Serving.{value_adds}
use Rattle.serving_wires.specs.Standing.{Heard, after, standing_in}

-- Whatever came, and whatever connects were answered, no more than 64 stand.
abbrev pub NoMoreThan64Stand : Type 0
NoMoreThan64Stand = (peer : List ℕ) (heard : List Heard) → length (standing_in (after (value_adds peer) heard)).served.adds ≤ 64
