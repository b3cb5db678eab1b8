-- How a roster lays out its rows. No public clause cites this module.
use Rattle.std.specs.Prelude.{ℕ, ◌==◌, Bool, true, ◌&&◌, not, List, [], ◌∷◌, ◌++◌, Option, None, Some, is_some}
use Rattle.std.specs.List.{list_any}
use Rattle.slab.specs.Slab.{Slab, get}
use Rattle.serving_wires.specs.Row.{Row}
use Rattle.serving_wires.specs.declared.roster.Place.{Place}

abbrev pub row_of : {T : Type 0} → ℕ → Option T → List (Row T)
row_of channel None = []
row_of channel (Some item) = record { channel = channel; item = item } ∷ []

-- the items at these places, in order
abbrev pub rows_of : {T : Type 0} → Slab T → List Place → List (Row T)
rows_of slots [] = []
rows_of slots (place ∷ places) = row_of place.channel (get slots place.key) ++ rows_of slots places

-- each place has an item of its own
abbrev pub are_kept : {T : Type 0} → Slab T → List Place → Bool
are_kept slots [] = true
are_kept slots (place ∷ places) = is_some (get slots place.key) && (not (list_any (λ other. other.key == place.key) places) && are_kept slots places)
