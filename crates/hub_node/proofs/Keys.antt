-- There is always a key that nothing has.
use Rattle.std.proofs.Common.{◌≡◌, ◌≤◌, ℕ, ◌+◌, List, [], ◌∷◌, None, refl, arith}
use Rattle.std.proofs.lemmas.Bool.{ne_eqb}
use Rattle.link_pool.specs.Rows.{item_at}
use Rattle.link_pool.specs.Lists.{item_of}

module _ {T : Type 0} where
  abbrev above_rows : List (ℕ × T) → ℕ
  above_rows [] = 0
  above_rows (row ∷ rows) = row.0 + (1 + above_rows rows)

  abbrev pub free_key : List (List (ℕ × T)) → ℕ
  free_key [] = 0
  free_key (rows ∷ lists) = above_rows rows + free_key lists

  no_row : (key : ℕ) (rows : List (ℕ × T)) → above_rows rows ≤ key → item_at key rows ≡ None
  no_row key [] above = refl
  no_row key (row ∷ rows) above =
      rw (ne_eqb row.0 key (λ e. let bound : row.0 + (1 + above_rows rows) ≤ key = above in absurd (omega arith))) (no_row key rows (omega arith))

  no_item : (key : ℕ) (lists : List (List (ℕ × T))) → free_key lists ≤ key → item_of key lists ≡ None
  no_item key [] above = refl
  no_item key (rows ∷ lists) above = rw (no_row key rows (omega arith)) (no_item key lists (omega arith))

  pub is_free : (lists : List (List (ℕ × T))) → item_of (free_key lists) lists ≡ None
  is_free lists = no_item (free_key lists) lists (omega arith)
