-- Numbers of 32 bits, and values that stand for objects.
use Rattle.std.specs.Prelude.{ℕ, ◌^◌, Bool, true, false, nat_lt, Option, Some, None, option_and_then, if◌then◌else◌}
use Rattle.serde_json.specs.Data.{Data, null, number, object, unsigned}
use Rattle.serde_json.specs.Find.{as_number, as_u64}

abbrev pub word_json : ℕ → Data
word_json n = number (unsigned n)

abbrev pub fitting : ℕ → Option ℕ
fitting n = if nat_lt n (2 ^ 32) then Some n else None

-- a whole number from 0 to 4,294,967,295
abbrev pub word_in : Data → Option ℕ
word_in d = option_and_then fitting (option_and_then as_u64 (as_number d))

-- an object, or null in its place, which is the empty one
abbrev pub is_object : Data → Bool
is_object null = true
is_object (object _) = true
is_object _ = false
