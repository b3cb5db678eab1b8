-- A whole number in decimal digits, without a sign or a leading zero.
use Rattle.std.specs.Prelude.{ℕ, ◌&&◌, ◌^◌, List, Option, Some, None, if◌then◌else◌, nat_le, nat_lt, decimal, bytes_eq}
use Rattle.std.specs.Str.Parse.{digits_value}

-- the number from low to high, below 2^32, whose digits these are
unfoldable pub number_of : ℕ → ℕ → List ℕ → Option ℕ
number_of low high digits =
    let n = digits_value 10 digits in
    if bytes_eq digits (decimal n) && nat_le low n && nat_le n high && nat_lt n (2 ^ 32) then Some n else None
