-- The members of an object (RFC 8259, section 4), where one that is null counts as absent.
use Rattle.std.specs.Prelude.{ℕ, List, Option, Some, None, option_map, option_and_then, unwrap_or}
use Rattle.serde_json.specs.Data.{Data, null, boolean, number, string, array, object, Members, member, put}
use Rattle.serde_json.specs.Find.{get}

abbrev pub unless_null : Data → Option Data
unless_null null = None
unless_null (boolean b) = Some (boolean b)
unless_null (number n) = Some (number n)
unless_null (string s) = Some (string s)
unless_null (array ds) = Some (array ds)
unless_null (object ms) = Some (object ms)

-- the member of this name; none where it is absent or null, or where the value is no object
abbrev pub member_of : List ℕ → Data → Option Data
member_of name d = option_and_then unless_null (get name d)

-- what may be absent: none inside where it is, and none at all where it is of another kind
abbrev pub optional : {A : Type 0} → (Data → Option A) → Option Data → Option (Option A)
optional kind None = Some None
optional kind (Some d) = option_map Some (kind d)

-- what is absent is this
abbrev pub or_else : {A : Type 0} → A → (Data → Option A) → Option Data → Option A
or_else absent kind found = option_map (λ o. unwrap_or o absent) (optional kind found)

-- a member that is put where there is one
abbrev pub member_if : List ℕ → Option Data → Members → Members
member_if name None members = members
member_if name (Some d) members = member name d members

-- the members with one more, where there is one, at its place in the order of the keys
abbrev pub put_if : List ℕ → Option Data → Members → Members
put_if name None members = members
put_if name (Some d) members = put name d members
