-- What always holds of a client that isn't spent: its end isn't either.
use Rattle.std.specs.Prelude.{ℕ, ◌≡◌, false, Option, Some, None}
use Rattle.channel_core.specs.EndValue.{EndValue}

abbrev pub IsUsable : Option (EndValue ℕ) → Type 0
IsUsable None = Unit {0}
IsUsable (Some e) = e.is_spent ≡ false
