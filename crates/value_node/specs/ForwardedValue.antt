-- A forwarded command as contracts see it.
use Rattle.std.specs.Prelude.{ℕ, List, Option}
use Rattle.tcf_values.specs.declared.command.Command.{Command}

-- what is kept of a command that was sent above: the token that it has below, and the command, where the tables read it
pub record ForwardedValue : Type 0 where
  pub token : List ℕ
  pub command : Option Command

abbrev pub tagged : List ℕ → Option Command → ForwardedValue
tagged token command = record { token = token; command = command }
