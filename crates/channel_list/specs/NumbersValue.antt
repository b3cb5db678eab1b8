-- The numbers of channels, as contracts see them.
use Rattle.std.specs.Prelude.{List, Option}
use Rattle.channel_list.specs.declared.numbers.Span.{Span}

-- numbers as spans of them: those that are done, and the one that the next number may lengthen
pub record NumbersValue : Type 0 where
  pub earlier : List Span
  pub latest : Option Span
