-- Numbers in a file, the lowest byte first.
-- System V Application Binary Interface, generic part: "ELF Header", the data encoding ELFDATA2LSB.
use Rattle.std.specs.Prelude.{ℕ, ◌+◌, ◌*◌, ◌^◌, List, slice_index}

-- the number in one byte, in two (a half-word) and in four (a word) from a place on

abbrev pub byte_at : List ℕ → ℕ → ℕ
byte_at file place = slice_index file place

unfoldable pub half_at : List ℕ → ℕ → ℕ
half_at file place = byte_at file place + byte_at file (place + 1) * 2 ^ 8

unfoldable pub word_at : List ℕ → ℕ → ℕ
word_at file place = half_at file place + half_at file (place + 2) * 2 ^ 16
