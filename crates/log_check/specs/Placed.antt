-- The place of a line among the positions, by what the lines before it said.
use Rattle.std.specs.Prelude.{ℕ, ◌≡◌, Bool, false, List, Option, None, Some}
use Rattle.target_hub.specs.Ordered.{ComesAfter, OpensAt}
use Rattle.target_hub.specs.declared.input.Input.{Input}
use Rattle.tcf_text.specs.declared.log.LogLine.{LogLine}
use Rattle.tcf_text.specs.declared.log.LogLine.TheVariants.{Hello, Event, Progress, Final, Unknown}

-- the position of the Hello that a line tells of
abbrev pub placed_position : LogLine → Option ℕ
placed_position (Hello (Some position) body) = Some position
placed_position line = None

-- the history opens a channel at the position of a Hello, if it has one
abbrev pub OpensThere : List Input → Option ℕ → Type 0
OpensThere history None = Unit {0}
OpensThere history (Some position) = (k : ℕ) × OpensAt history position k

-- behind lines of which one tells of a Hello with a position, or none, and the last message has this mark
abbrev pub PlacedBy : List Input → Bool → Option (Option ℕ) → LogLine → Type 0
PlacedBy history placed last (Hello mark body) = (placed ≡ false) × OpensThere history mark
PlacedBy history placed last (Event mark service name body) = ComesAfter last mark
PlacedBy history placed last (Progress number mark body) = ComesAfter last mark
PlacedBy history placed last (Final number mark body) = ComesAfter last mark
PlacedBy history placed last (Unknown number mark) = ComesAfter last mark
PlacedBy history placed last line = Unit {0}
