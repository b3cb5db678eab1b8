-- Rows of a token and an item, and where a token's row stands in the pool that keeps them.
use Rattle.std.specs.Prelude.{ℕ, ◌==◌, List, map, find, Option, option_map}
use Rattle.link_pool.specs.Lists.{rows_of}

-- the rows of a pool's first list, each a token and its item, without their keys
abbrev pub tokens_in : {T : Type 0} → List (List (ℕ × (ℕ × T))) → List (ℕ × T)
tokens_in lists = map (λ row. row.1) (rows_of 0 lists)

-- the key of the row with this token
abbrev pub key_of : {T : Type 0} → ℕ → List (ℕ × (ℕ × T)) → Option ℕ
key_of token rows = option_map (λ row. row.0) (find (λ row. row.1.0 == token) rows)
