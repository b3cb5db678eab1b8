-- Wires that follow a script, as contracts see them.
use Rattle.std.specs.Prelude.{ℕ, ◌+◌, List, Option, Some, None}
use Rattle.tcf_wires.specs.declared.call.WireCall.{WireCall}
use Rattle.tcf_wires.specs.Script.{Script}

-- wires that follow a script: their calls so far, what is to come, the least number above all that were given, and
-- the faults
pub record ScriptedValue : Type 0 where
  pub calls : List WireCall
  pub script : Script
  pub unused : ℕ
  pub faults : ℕ

-- the least number above this one, which was given last
abbrev pub above : Option ℕ → ℕ
above None = 0
above (Some channel) = channel + 1
