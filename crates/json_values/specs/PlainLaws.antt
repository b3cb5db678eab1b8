-- What is written of a whole number is read as it, and what is read is one.
use Rattle.std.specs.Prelude.{◌≡◌, ℤ, pos, negsuc, false, Some, refl}
use Rattle.serde_json.specs.Written.{has_float}
use Rattle.json_args.specs.Kinds.{whole_in}
use Rattle.json_values.specs.Plain.{whole_json}

pub whole_back : (z : ℤ) → whole_in (whole_json z) ≡ Some z
whole_back (pos n) = refl
whole_back (negsuc n) = refl

pub whole_plain : (z : ℤ) → has_float (whole_json z) ≡ false
whole_plain (pos n) = refl
whole_plain (negsuc n) = refl
