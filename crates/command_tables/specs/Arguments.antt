-- The arguments that are left of a command's, and what the first of them is read as.
use Rattle.std.specs.Prelude.{ℕ, ℤ, ◌+◌, Bool, List, drop, slice_get, Option, Result}
use Rattle.serde_json.specs.Data.{Data}
use Rattle.json_args.specs.Kinds.{bytes_of, shaped, text_in, texts_in, flag_in, value_of, whole_in}
use Rattle.json_args.specs.declared.fault.ArgFault.{ArgFault}
use Rattle.json_values.specs.Lists.{list_in}
use Rattle.json_values.specs.Locations.{location_in}
use Rattle.json_values.specs.Props.{bp_in}
use Rattle.tcf_values.specs.declared.values.BpProps.{BpProps}
use Rattle.tcf_values.specs.declared.values.Location.{Location}

-- the parts that are left, and the index of the first of them
pub record Left : Type 0 where
  pub parts : List (List ℕ)
  pub index : ℕ

-- what is left behind the first
abbrev pub behind : Left → Left
behind left = record { parts = drop 1 left.parts; index = left.index + 1 }

-- one part as a kind, by its index; none is a missing one
abbrev pub part_as : {A : Type 0} → (Data → Option A) → ℕ → Option (List ℕ) → Result A ArgFault
part_as kind index part = shaped kind index (value_of index part)

abbrev pub text_part : ℕ → Option (List ℕ) → Result (List ℕ) ArgFault
text_part = part_as text_in

abbrev pub whole_part : ℕ → Option (List ℕ) → Result ℤ ArgFault
whole_part = part_as whole_in

abbrev pub flag_part : ℕ → Option (List ℕ) → Result Bool ArgFault
flag_part = part_as flag_in

abbrev pub texts_part : ℕ → Option (List ℕ) → Result (List (List ℕ)) ArgFault
texts_part = part_as texts_in

abbrev pub blob_part : ℕ → Option (List ℕ) → Result (List ℕ) ArgFault
blob_part index part = bytes_of index (text_part index part)

abbrev pub bp_part : ℕ → Option (List ℕ) → Result BpProps ArgFault
bp_part = part_as bp_in

abbrev pub props_part : ℕ → Option (List ℕ) → Result (List BpProps) ArgFault
props_part = part_as (list_in bp_in)

abbrev pub locations_part : ℕ → Option (List ℕ) → Result (List Location) ArgFault
locations_part = part_as (list_in location_in)

-- the first of what is left, as a kind
abbrev pub first_as : {A : Type 0} → (ℕ → Option (List ℕ) → Result A ArgFault) → Left → Result A ArgFault
first_as part left = part left.index (slice_get left.parts 0)
