-- The object that goes with the state of a thread (TCF service RunControl, command getState): which breakpoints it hit.
use Rattle.std.specs.Prelude.{ℕ, ◌≡◌, List, [], ◌∷◌, Option, Some, None, if◌then◌else◌, codes}
use Rattle.serde_json.specs.Data.{Data, object, member, no_members}
use Rattle.serde_json.specs.Find.{as_str}
use Rattle.json_values.specs.Lists.{list_in}
use Rattle.json_values.specs.Members.{member_of, or_else}
use Rattle.json_values.specs.Plain.{texts_json}
use Rattle.json_values.specs.Words.{is_object}

-- the key is there where a breakpoint was hit
abbrev pub hits_json : List (List ℕ) → Data
hits_json [] = object no_members
hits_json (hit ∷ hits) = object (member (codes "BPs") (texts_json (hit ∷ hits)) no_members)

abbrev pub hits_in : Data → Option (List (List ℕ))
hits_in d = if is_object d then or_else [] (list_in as_str) (member_of (codes "BPs") d) else None

-- the law: the object of hits is read as them
abbrev pub HitsRoundTrip : Type 0
HitsRoundTrip = (hits : List (List ℕ)) → hits_in (hits_json hits) ≡ Some hits
