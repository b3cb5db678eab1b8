-- What is written of a location is read as it.
use Rattle.std.specs.Prelude.{◌≡◌, ◌≤◌, ℕ, ℤ, pos, negsuc, false, List, Some, refl}
use Rattle.std.proofs.Common.{arith}
use Rattle.serde_json.specs.Data.{depth}
use Rattle.serde_json.specs.Written.{has_float}
use Rattle.json_values.specs.Locations.{IsLocation, location_json, location_in}
use Rattle.tcf_values.specs.declared.values.Location.{Location}

parts_back : (register : List ℕ) (offset size : ℤ)
    → location_in (location_json (record { register = register; offset = offset; size = size })) ≡ Some (record { register = register; offset = offset; size = size })
parts_back register (pos m) (pos n) = refl
parts_back register (pos m) (negsuc n) = refl
parts_back register (negsuc m) (pos n) = refl
parts_back register (negsuc m) (negsuc n) = refl

pub location_back : (location : Location) → IsLocation location → location_in (location_json location) ≡ Some location
location_back location within = parts_back location.register location.offset location.size

parts_plain : (register : List ℕ) (offset size : ℤ) → has_float (location_json (record { register = register; offset = offset; size = size })) ≡ false
parts_plain register (pos m) (pos n) = refl
parts_plain register (pos m) (negsuc n) = refl
parts_plain register (negsuc m) (pos n) = refl
parts_plain register (negsuc m) (negsuc n) = refl

pub location_plain : (location : Location) → has_float (location_json location) ≡ false
location_plain location = parts_plain location.register location.offset location.size

pub location_shallow : (location : Location) → depth (location_json location) ≤ 1
location_shallow location = omega arith
