-- The properties of a breakpoint (TCF service Breakpoints), in this profile.
use Rattle.std.specs.Prelude.{ℕ, ◌≡◌, Bool, true, false, ◌&&◌, nat_le, List, length, Option, Some, None, option_map, option_and_then, if◌then◌else◌, codes}
use Rattle.std.specs.List.{list_all}
use Rattle.serde_json.specs.Data.{Data, boolean, string, object, member, no_members}
use Rattle.serde_json.specs.Find.{as_bool, as_str}
use Rattle.json_values.specs.Lists.{list_in}
use Rattle.json_values.specs.Members.{member_of, optional, or_else, member_if}
use Rattle.json_values.specs.Plain.{texts_json}
use Rattle.json_values.specs.Words.{word_json, word_in}
use Rattle.tcf_values.specs.declared.values.BpProps.{BpProps}

-- at most so many bytes, none of them below 32
abbrev pub is_short : ℕ → List ℕ → Bool
is_short most text = nat_le (length text) most && list_all (λ b. nat_le 32 b) text

abbrev pub is_location : Option (List ℕ) → Bool
is_location None = true
is_location (Some text) = is_short 255 text

abbrev pub are_contexts : Option (List (List ℕ)) → Bool
are_contexts None = true
are_contexts (Some texts) = nat_le (length texts) 16 && list_all (is_short 64) texts

abbrev pub is_ignore_count : Option ℕ → Bool
is_ignore_count None = true
is_ignore_count (Some count) = nat_le count 1000000

-- an ID of 1 to 255 bytes, a location of at most 255, at most 16 contexts of at most 64 bytes each, and at most a million
-- hits that pass
abbrev pub is_bp : BpProps → Bool
is_bp props =
    nat_le 1 (length props.id) && is_short 255 props.id && is_location props.location && are_contexts props.contexts && is_ignore_count props.ignore

abbrev pub within_limits : BpProps → Option BpProps
within_limits props = if is_bp props then Some props else None

-- the keys in the order of their bytes
abbrev pub bp_json : BpProps → Data
bp_json props =
    object (member_if (codes "ContextIds") (option_map texts_json props.contexts)
    (member (codes "Enabled") (boolean props.enabled)
    (member (codes "ID") (string props.id)
    (member_if (codes "IgnoreCount") (option_map word_json props.ignore)
    (member_if (codes "Location") (option_map string props.location) no_members)))))

abbrev pub bp_from : List ℕ → Option Bool → Option (Option (List ℕ)) → Option (Option (List (List ℕ))) → Option (Option ℕ) → Option BpProps
bp_from id enabled location contexts ignore =
    option_and_then (λ e. option_and_then (λ l. option_and_then (λ c. option_and_then (λ i.
    within_limits (record { id = id; enabled = e; location = l; contexts = c; ignore = i })) ignore) contexts) location) enabled

-- the properties that an object has: an absent Enabled is false, and an ID must be there
abbrev pub bp_in : Data → Option BpProps
bp_in d =
    option_and_then (λ id.
    bp_from id (or_else false as_bool (member_of (codes "Enabled") d)) (optional as_str (member_of (codes "Location") d))
    (optional (list_in as_str) (member_of (codes "ContextIds") d)) (optional word_in (member_of (codes "IgnoreCount") d)))
    (option_and_then as_str (member_of (codes "ID") d))

abbrev pub BpRoundTrip : Type 0
BpRoundTrip = (props : BpProps) → is_bp props ≡ true → bp_in (bp_json props) ≡ Some props
