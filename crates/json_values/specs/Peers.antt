-- The peers that a locator knows (TCF service Locator, command getPeers): of each its ID.
use Rattle.std.specs.Prelude.{ℕ, ◌≡◌, List, Option, Some, option_and_then, codes}
use Rattle.serde_json.specs.Data.{Data, string, object, member, no_members}
use Rattle.serde_json.specs.Find.{as_str}
use Rattle.json_values.specs.Lists.{list_json, list_in}
use Rattle.json_values.specs.Members.{member_of}

abbrev pub peer_json : List ℕ → Data
peer_json id = object (member (codes "ID") (string id) no_members)

abbrev pub peers_json : List (List ℕ) → Data
peers_json ids = list_json peer_json ids

-- an ID must be there
abbrev pub peer_in : Data → Option (List ℕ)
peer_in d = option_and_then as_str (member_of (codes "ID") d)

abbrev pub peers_in : Data → Option (List (List ℕ))
peers_in d = list_in peer_in d

-- the law: the array of peers is read as them
abbrev pub PeersRoundTrip : Type 0
PeersRoundTrip = (ids : List (List ℕ)) → peers_in (peers_json ids) ≡ Some ids
