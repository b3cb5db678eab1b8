-- A block of a process's memory: bytes that stand one after another from an address on (TCF service Memory, get).
use Rattle.std.specs.Prelude.{ℕ, ◌+◌, ◌-◌, ◌==◌, nat_le, nat_lt, Bool, ◌&&◌, List, length, take, drop}
use Rattle.block_store.specs.declared.block.Block.{Block}

-- the address after the last byte
abbrev pub end_of : Block → ℕ
end_of block = block.addr + length block.bytes

-- the block is of this process and has the whole range
abbrev pub has_range : ℕ → ℕ → ℕ → Block → Bool
has_range process addr size block =
    (block.process == process) && nat_le block.addr addr && nat_le (addr + size) (end_of block)

-- the block is of this process and has a byte of the range
abbrev pub overlaps : ℕ → ℕ → ℕ → Block → Bool
overlaps process addr size block =
    (block.process == process) && nat_lt block.addr (addr + size) && nat_lt addr (end_of block)

-- both are of the same process, address and length
abbrev pub is_same : Block → Block → Bool
is_same block other =
    (block.process == other.process) && (block.addr == other.addr) && (length block.bytes == length other.bytes)

-- the bytes of a range that the block has
abbrev pub part : ℕ → ℕ → Block → List ℕ
part addr size block = take size (drop (addr - block.addr) block.bytes)
