-- Parts of lists of bytes, and the four bytes of a register, the least first.
use Rattle.std.specs.Prelude.{ℕ, ◌+◌, List, ◌++◌, length, take, drop}
use Rattle.std.specs.Int.{w32, to_le_bytes, from_le_bytes}

-- so many bytes from a place on
abbrev pub part_of : ℕ → ℕ → List ℕ → List ℕ
part_of first count bytes = take count (drop first bytes)

-- the bytes with others put over them from a place on
abbrev pub with_part : ℕ → List ℕ → List ℕ → List ℕ
with_part first part bytes = take first bytes ++ (part ++ drop (first + length part) bytes)

-- the four bytes of a number below 2^32, and the number of four bytes
unfoldable pub word_bytes : ℕ → List ℕ
word_bytes number = to_le_bytes w32 number

unfoldable pub word_of : List ℕ → ℕ
word_of bytes = from_le_bytes w32 bytes
