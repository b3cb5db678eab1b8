-- Parts of registers (TCF service Registers): arrays of a register's ID, the first byte and how many bytes.
use Rattle.std.specs.Prelude.{◌≡◌, Option, Some, None, option_map, option_and_then}
use Rattle.serde_json.specs.Data.{Data, string, array, Items, no_items, item}
use Rattle.serde_json.specs.Find.{as_array, as_str}
use Rattle.json_args.specs.Kinds.{IsWhole, whole_in}
use Rattle.json_values.specs.Plain.{whole_json}
use Rattle.tcf_values.specs.declared.values.Location.{Location}

abbrev pub IsLocation : Location → Type 0
IsLocation location = IsWhole location.offset × IsWhole location.size

abbrev pub location_json : Location → Data
location_json location =
    array (item (string location.register) (item (whole_json location.offset) (item (whole_json location.size) no_items)))

abbrev pub location_from : Data → Data → Data → Option Location
location_from register offset size =
    option_and_then (λ r. option_and_then (λ o. option_map (λ s. record { register = r; offset = o; size = s })
    (whole_in size)) (whole_in offset)) (as_str register)

-- exactly three elements
abbrev pub location_of : Items → Option Location
location_of no_items = None
location_of (item r no_items) = None
location_of (item r (item o no_items)) = None
location_of (item r (item o (item s no_items))) = location_from r o s
location_of (item r (item o (item s (item d ds)))) = None

abbrev pub location_in : Data → Option Location
location_in d = option_and_then location_of (as_array d)

abbrev pub LocationRoundTrip : Type 0
LocationRoundTrip = (location : Location) → IsLocation location → location_in (location_json location) ≡ Some location
