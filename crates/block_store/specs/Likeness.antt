-- Blocks of one process, address and length. No public clause cites this module.
use Rattle.std.specs.Prelude.{ℕ, ◌==◌, Bool, ◌&&◌, length}
use Rattle.block_store.specs.declared.block.Block.{Block}

-- the block is of this process, and has so many bytes from this address on
abbrev pub is_like : ℕ → ℕ → ℕ → Block → Bool
is_like process addr len block =
    (process == block.process) && (addr == block.addr) && (len == length block.bytes)
