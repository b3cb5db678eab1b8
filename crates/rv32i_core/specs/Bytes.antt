-- Memory as a list of 65,536 bytes, and the numbers in one, two or four of them, the lowest byte first.
-- The RISC-V Instruction Set Manual, volume I: Unprivileged ISA, version 20191213: "Memory" (1.4) and "Load and Store
-- Instructions" (2.6).
use Rattle.std.specs.Prelude.{ℕ, ◌+◌, ◌-◌, ◌*◌, ◌/◌, ◌%◌, ◌^◌, Bool, nat_le, List, ◌++◌, length, replicate, take, drop, slice_index, slice_set}

-- `count` bytes from a place on lie in memory; the address does not wrap on the way
abbrev pub is_inside : ℕ → ℕ → Bool
is_inside count place = nat_le (place + count) 65536

-- an image at the address 0, and zeros behind it
unfoldable pub image_memory : List ℕ → List ℕ
image_memory image = image ++ replicate (65536 - length image) 0

-- ---- the number in the bytes from a place on

abbrev pub byte_at : List ℕ → ℕ → ℕ
byte_at memory place = slice_index memory place

abbrev pub halfword_at : List ℕ → ℕ → ℕ
halfword_at memory place = byte_at memory place + byte_at memory (place + 1) * 2 ^ 8

abbrev pub word_at : List ℕ → ℕ → ℕ
word_at memory place = halfword_at memory place + halfword_at memory (place + 2) * 2 ^ 16

-- ---- memory with the lowest 8, 16 or 32 bits of a number put at a place

abbrev pub with_byte : ℕ → ℕ → List ℕ → List ℕ
with_byte place n memory = slice_set memory place (n % 2 ^ 8)

abbrev pub with_halfword : ℕ → ℕ → List ℕ → List ℕ
with_halfword place n memory = with_byte (place + 1) (n / 2 ^ 8) (with_byte place n memory)

abbrev pub with_word : ℕ → ℕ → List ℕ → List ℕ
with_word place n memory = with_halfword (place + 2) (n / 2 ^ 16) (with_halfword place n memory)

-- memory with bytes put over those from a place on
abbrev pub with_bytes : ℕ → List ℕ → List ℕ → List ℕ
with_bytes place bytes memory = take place memory ++ (bytes ++ drop (place + length bytes) memory)
