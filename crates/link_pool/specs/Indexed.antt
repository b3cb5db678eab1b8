-- The map of pending commands from token to key. No public clause cites this module.
use Rattle.std.specs.Prelude.{◌≡◌, ◌≤◌, ℕ, List, length, nat_eq}
use Rattle.indexmap.specs.IndexMap.{IndexMap, get, index_map_len}
use Rattle.link_pool.specs.Rows.{Distinct}
use Rattle.link_pool.specs.Lists.{rows_of}
use Rattle.link_pool.specs.Tokens.{key_of, tokens_in}

pub record IsIndexed {T S : Type 0} (lists : List (List (ℕ × (ℕ × T)))) (keys : IndexMap ℕ ℕ S) : Type 0 where
  pub one : length lists ≡ 1
  pub found : (token : ℕ) → get nat_eq keys token ≡ key_of token (rows_of 0 lists)
  pub counted : index_map_len keys ≡ length (rows_of 0 lists)
  pub few : length (rows_of 0 lists) ≤ 1024
  pub differ : Distinct (tokens_in lists)
