-- The status of a breakpoint and what a thread hits (TCF service Breakpoints, getStatus: the instances).
use Rattle.std.specs.Prelude.{ℕ, ◌==◌, nat_lt, Bool, true, false, ◌&&◌, if◌then◌else◌, List, [], ◌∷◌, map, filter, codes, Option, Some, None, option_map, option_and_then}
use Rattle.std.specs.List.{list_any}
use Rattle.std.specs.Option.{option_map_or}
use Rattle.tcf_values.specs.Ids.{context_of}
use Rattle.tcf_values.specs.Spelling.{context_spelling}
use Rattle.tcf_values.specs.declared.ids.ContextId.{ContextId}
use Rattle.tcf_values.specs.declared.ids.ContextId.TheVariants as contexts
use Rattle.tcf_values.specs.declared.values.BpProps.{BpProps}
use Rattle.tcf_values.specs.declared.values.BpStatus.{BpStatus}
use Rattle.tcf_values.specs.declared.values.Instance.{Instance}
use Rattle.tcf_values.specs.declared.values.Place.{Place}
use Rattle.tcf_values.specs.declared.values.Place.TheVariants.{Address, Error}
use Rattle.breakpoints.specs.Address.{address_of}
use Rattle.breakpoints.specs.Counts.{count_of}
use Rattle.breakpoints.specs.Rows.{ids_of, row_of}
use Rattle.breakpoints.specs.Placed.{Placed}

-- ---- the processes that a breakpoint is for

-- a thread's ID stands for its process, whether or not the thread lives
abbrev pub is_of : ContextId → ℕ → Bool
is_of (contexts.Process process) number = process == number
is_of (contexts.Thread process thread) number = process == number

-- a text that is no ID names nothing
abbrev pub text_names : List ℕ → ℕ → Bool
text_names text number = option_map_or (λ id. is_of id number) (context_of text) false

abbrev pub is_named : List (List ℕ) → ℕ → Bool
is_named texts number = list_any (λ text. text_names text number) texts

-- those that ContextIds names, all where it is absent; 0 is the number of no process
abbrev pub is_for : Option (List (List ℕ)) → ℕ → Bool
is_for contexts number = nat_lt 0 number && option_map_or (λ texts. is_named texts number) contexts true

-- ---- instances

unfoldable pub bad_location : List ℕ
bad_location = codes "bad-location"

abbrev pub place_at : Option ℕ → Place
place_at (Some address) = Address address
place_at None = Error bad_location

-- the address that the Location says, or the error that there is none
abbrev pub place_of : Option (List ℕ) → Place
place_of location = place_at (option_and_then address_of location)

-- where there is no address, nothing is hit
abbrev pub count_at : Place → ℕ → ℕ
count_at (Address address) count = count
count_at (Error error) count = 0

abbrev pub instance_of : BpProps → List (ℕ × ℕ) → ℕ → Instance
instance_of props counts number = record {
  context = context_spelling (contexts.Process number);
  place = place_of props.location;
  count = count_at (place_of props.location) (count_of number counts);
}

-- an enabled breakpoint has one instance in each attached process that it is for, in order; a disabled one has none
abbrev pub instances_of : BpProps → List (ℕ × ℕ) → List ℕ → List Instance
instances_of props counts attached =
    if props.enabled then map (instance_of props counts) (filter (is_for props.contexts) attached) else []

-- the status of the breakpoint of this ID, where it is there
abbrev pub status_of : List ℕ → List ℕ → List Placed → Option BpStatus
status_of id attached rows =
    option_map (λ row. record { instances = instances_of row.props row.counts attached }) (row_of id rows)

-- ---- hits

abbrev pub is_at : ℕ → Place → Bool
is_at pc (Address address) = address == pc
is_at pc (Error error) = false

-- an instance in this process has pc as its address, whatever its count
abbrev pub is_hit : ℕ → ℕ → BpProps → Bool
is_hit process pc props = list_any (λ instance. is_at pc instance.place) (instances_of props [] (process ∷ []))

-- the IDs of the breakpoints that a thread of this process hits at pc, in the order of the list; none where the
-- process isn't attached
abbrev pub hits_of : ℕ → Bool → ℕ → List Placed → List (List ℕ)
hits_of process attached pc rows = if attached then ids_of (filter (λ row. is_hit process pc row.props) rows) else []
