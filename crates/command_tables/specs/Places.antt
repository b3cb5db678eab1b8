-- Which part an argument is read from.
use Rattle.std.specs.Prelude.{ℕ, ◌≡◌, ◌+◌, List, drop, slice_get, Option, Result}
use Rattle.json_args.specs.declared.fault.ArgFault.{ArgFault}
use Rattle.command_tables.specs.Rows.{Row, arg, then_read}

-- the law: when as many parts are taken as the index says, an argument is the part at the index of all parts; so a
-- text is `text_at parts index`, and the same holds of the other kinds
abbrev pub IsAtItsIndex : Type 0 → Type 0
IsAtItsIndex A =
    (kind : ℕ → Option (List ℕ) → Result A ArgFault) (next : A → Row) (index : ℕ) (parts : List (List ℕ))
    → arg kind next index (drop index parts) ≡ then_read (λ x. next x (index + 1) (drop (index + 1) parts)) (kind index (slice_get parts index))
