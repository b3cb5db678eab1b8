-- A process with the kinds of its memory's pages.
use Rattle.std.specs.Prelude.{List}
use Rattle.rv32i_core.specs.PageKind.{PageKind}
use Rattle.target_contexts.specs.ProcessValue.{ProcessValue}

pub record KeptProcess : Type 0 where
  pub seen : ProcessValue
  pub kinds : List PageKind
