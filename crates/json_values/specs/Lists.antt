-- Arrays of values of one kind (RFC 8259, section 5).
use Rattle.std.specs.Prelude.{List, [], ◌∷◌, map, Option, Some, None, option_map, option_and_then}
use Rattle.serde_json.specs.Data.{Data, null, array, Items, no_items, item}
use Rattle.serde_json.specs.View.{items_of}

-- the array of the values
abbrev pub list_json : {A : Type 0} → (A → Data) → List A → Data
list_json json xs = array (items_of (map json xs))

abbrev pub items_in : {A : Type 0} → (Data → Option A) → Items → Option (List A)
items_in kind no_items = Some []
items_in kind (item d ds) = option_and_then (λ x. option_map (λ xs. x ∷ xs) (items_in kind ds)) (kind d)

-- the values of an array, each of which is of the kind; null is the empty array
abbrev pub list_in : {A : Type 0} → (Data → Option A) → Data → Option (List A)
list_in kind null = Some []
list_in kind (array ds) = items_in kind ds
list_in kind _ = None
