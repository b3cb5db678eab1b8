-- The processes of a target, and for each of them the kinds of its memory's pages, in the same order.
use Rattle.std.specs.Prelude.{List}
use Rattle.rv32i_core.specs.PageKind.{PageKind}
use Rattle.target_contexts.specs.TargetsValue.{TargetsValue}

pub record KeptTargets : Type 0 where
  pub seen : TargetsValue
  pub kinds : List (List PageKind)
