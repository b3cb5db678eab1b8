-- The address that a Location says (TCF service Breakpoints: an expression; here a number).
use Rattle.std.specs.Prelude.{ℕ, ◌==◌, ◌%◌, nat_lt, Bool, false, ◌&&◌, ◌||◌, if◌then◌else◌, List, [], ◌∷◌, drop, nat_eq, codes, Option, Some, None}
use Rattle.std.specs.Char.{is_digit}
use Rattle.std.specs.List.{list_all, starts_with}
use Rattle.std.specs.Str.Parse.{digits_value}

-- one digit or more of this radix, and nothing else
abbrev pub is_numeral : ℕ → List ℕ → Bool
is_numeral radix [] = false
is_numeral radix (digit ∷ digits) = list_all (λ d. is_digit d radix) (digit ∷ digits)

-- the address of an instruction: a multiple of 4 below 65,536
abbrev pub is_address : ℕ → Bool
is_address n = nat_lt n 65536 && (n % 4 == 0)

abbrev pub address_in : ℕ → List ℕ → Option ℕ
address_in radix digits =
    if is_numeral radix digits && is_address (digits_value radix digits) then Some (digits_value radix digits) else None

abbrev pub is_prefixed : List ℕ → Bool
is_prefixed location = starts_with nat_eq location (codes "0x") || starts_with nat_eq location (codes "0X")

-- decimal digits, or hexadecimal ones behind 0x or 0X
abbrev pub address_of : List ℕ → Option ℕ
address_of location = if is_prefixed location then address_in 16 (drop 2 location) else address_in 10 location
