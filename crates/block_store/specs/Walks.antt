-- Which blocks are looked for in a list, and the last of them. No public clause cites this module.
use Rattle.std.specs.Prelude.{ℕ, ◌==◌, if◌then◌else◌, Bool, false, not, List, [], ◌∷◌, filter, Option, None, Some}
use Rattle.std.specs.Option.{option_or}
use Rattle.link_pool.specs.Lists.{rows_of}
use Rattle.block_store.specs.Blocks.{has_range, overlaps}
use Rattle.block_store.specs.Likeness.{is_like}
use Rattle.block_store.specs.declared.block.Block.{Block}
use Rattle.block_store.specs.declared.filing.Wanted.{Wanted}
use Rattle.block_store.specs.declared.filing.Wanted.TheVariants.{Range, Byte, Like}

-- the block is one of those that are looked for
abbrev pub fits : Wanted → Block → Bool
fits (Range process addr size) block = has_range process addr size block
fits (Byte process addr size) block = overlaps process addr size block
fits (Like process addr len) block = is_like process addr len block

-- whether there is one, and it passes
abbrev pub passes : (Block → Bool) → Option Block → Bool
passes test None = false
passes test (Some block) = test block

-- the key of the last block that passes
abbrev pub last_key : (Block → Bool) → List (ℕ × Block) → Option ℕ
last_key test [] = None
last_key test (row ∷ rows) = option_or (last_key test rows) (if test row.1 then Some row.0 else None)

-- the key of the last block of list 0 that has the range
abbrev pub last_with : ℕ → ℕ → ℕ → List (List (ℕ × Block)) → Option ℕ
last_with process addr size lists = last_key (has_range process addr size) (rows_of 0 lists)

-- the rows of the blocks that have no byte of the range
abbrev pub rows_beside : ℕ → ℕ → ℕ → List (ℕ × Block) → List (ℕ × Block)
rows_beside process addr size rows = filter (λ row. not (overlaps process addr size row.1)) rows

abbrev pub key_if : Bool → ℕ → Option ℕ
key_if flag key = if flag then Some key else None

abbrev pub newer : Bool → ℕ → Option ℕ → Option ℕ
newer fits key found = if fits then Some key else found

-- the rows from a key on
abbrev pub rows_from : Option ℕ → List (ℕ × Block) → List (ℕ × Block)
rows_from None rows = []
rows_from (Some key) [] = []
rows_from (Some key) (row ∷ rows) = if row.0 == key then row ∷ rows else rows_from (Some key) rows
