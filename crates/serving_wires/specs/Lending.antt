-- What a roster lends, and what it is after that.
use Rattle.std.specs.Prelude.{ℕ, List, Option}
use Rattle.std.specs.Borrow.{Fml, LendsIf, MutBor, RattleType}
use Rattle.serving_wires.specs.Row.{Row}
use Rattle.serving_wires.specs.Rows.{with_item_at}
use Rattle.serving_wires.specs.contracts.roster.Roster.{the_row}

-- the item at this place ends as the last value written through r, and the other rows stay
abbrev pub LendsItem : (T : RattleType) → MutBor (List (Row T.Denot)) → ℕ → Option (MutBor T.Denot) → Fml
LendsItem T rows place r = LendsIf (the_row T) T rows r (λ item. with_item_at place item rows.now) rows.now
