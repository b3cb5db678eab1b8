-- The characters of a string that stand for themselves: printable ASCII but the quote and the backslash (RFC 8259, section 7).
use Rattle.std.specs.Prelude.{ℕ, Bool, ◌||◌}
use Rattle.std.specs.Int.{is_in_range}

-- the byte is such a character
abbrev pub is_unescaped : ℕ → Bool
is_unescaped byte = is_in_range 32 33 byte || is_in_range 35 91 byte || is_in_range 93 126 byte
