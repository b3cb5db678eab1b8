-- The status of a breakpoint (TCF service Breakpoints, command getStatus): its instances.
use Rattle.std.specs.Prelude.{ℕ, ◌≡◌, ◌<◌, ◌^◌, List, [], Option, Some, None, option_map, option_and_then, if◌then◌else◌, codes}
use Rattle.std.specs.List.{AllByRecursion}
use Rattle.serde_json.specs.Data.{Data, string, object, member, no_members}
use Rattle.serde_json.specs.Find.{as_str}
use Rattle.json_values.specs.Lists.{list_json, list_in}
use Rattle.json_values.specs.Members.{member_of, or_else}
use Rattle.json_values.specs.Words.{word_json, word_in, is_object}
use Rattle.tcf_values.specs.declared.values.Place.{Place}
use Rattle.tcf_values.specs.declared.values.Place.TheVariants.{Address, Error}
use Rattle.tcf_values.specs.declared.values.Instance.{Instance}
use Rattle.tcf_values.specs.declared.values.BpStatus.{BpStatus}

-- an address is a number of 32 bits
abbrev pub IsPlace : Place → Type 0
IsPlace (Address address) = address < 2 ^ 32
IsPlace (Error error) = Unit {0}

-- so is the count of hits at an address; where there is none, nothing is hit
abbrev pub IsCount : Place → ℕ → Type 0
IsCount (Address address) count = count < 2 ^ 32
IsCount (Error error) count = count ≡ 0

abbrev pub IsInstance : Instance → Type 0
IsInstance instance = IsPlace instance.place × IsCount instance.place instance.count

abbrev pub IsStatus : BpStatus → Type 0
IsStatus status = AllByRecursion IsInstance status.instances

abbrev pub instance_at : Place → ℕ → List ℕ → Data
instance_at (Address address) count context =
    object (member (codes "Address") (word_json address)
    (member (codes "HitCount") (word_json count)
    (member (codes "LocationContext") (string context) no_members)))
instance_at (Error error) count context =
    object (member (codes "Error") (string error) (member (codes "LocationContext") (string context) no_members))

abbrev pub instance_json : Instance → Data
instance_json instance = instance_at instance.place instance.count instance.context

abbrev pub status_json : BpStatus → Data
status_json status = object (member (codes "Instances") (list_json instance_json status.instances) no_members)

-- an error wins over an address, and one of the two must be there
abbrev pub place_by : Option Data → Option Data → Option Place
place_by (Some error) address = option_map Error (as_str error)
place_by None (Some address) = option_map Address (word_in address)
place_by None None = None

abbrev pub place_in : Data → Option Place
place_in d = place_by (member_of (codes "Error") d) (member_of (codes "Address") d)

-- an absent count is 0; beside an error none is looked at
abbrev pub count_by : Option Data → Place → Option ℕ
count_by found (Address address) = or_else 0 word_in found
count_by found (Error error) = Some 0

abbrev pub instance_from : Place → Option ℕ → Option (List ℕ) → Option Instance
instance_from place count context =
    option_and_then (λ n. option_map (λ c. record { context = c; place = place; count = n }) context) count

abbrev pub instance_in : Data → Option Instance
instance_in d =
    option_and_then (λ place.
    instance_from place (count_by (member_of (codes "HitCount") d) place) (or_else [] as_str (member_of (codes "LocationContext") d)))
    (place_in d)

abbrev pub instances_in : Data → Option (List Instance)
instances_in d = or_else [] (list_in instance_in) (member_of (codes "Instances") d)

-- the instances of an object, and none where it has no such key
abbrev pub status_in : Data → Option BpStatus
status_in d = if is_object d then option_map (λ instances. record { instances = instances }) (instances_in d) else None
