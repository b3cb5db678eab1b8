-- A client does the lines of a script in order, as far as nothing holds them.
use Rattle.std.specs.Prelude.{ℕ, Bool, false, List, [], ◌∷◌, nat_lt, if◌then◌else◌}
use Rattle.client_node.specs.Client.{asked, closed, pending_on, sent}
use Rattle.client_node.specs.ClientValue.{ClientValue}
use Rattle.tcf_schedules.specs.declared.script.ScriptLine.{ScriptLine}
use Rattle.tcf_schedules.specs.declared.script.ScriptLine.TheVariants.{Send, Wait, Cached, Close}

-- `wait` holds while a command is pending, and nothing else ever does
abbrev pub is_held : ScriptLine → ℕ → Bool
is_held (Send service name body) pending = false
is_held Wait pending = nat_lt 0 pending
is_held (Cached what) pending = false
is_held Close pending = false

-- what a line does
abbrev pub did : ScriptLine → ClientValue → ClientValue
did (Send service name body) c = sent service name body c
did Wait c = c
did (Cached what) c = asked what c
did Close c = closed c

-- the client after the lines that nothing holds, and the lines that are left
abbrev pub did_lines : List ScriptLine → ClientValue → ClientValue × List ScriptLine
did_lines [] c = (c, [])
did_lines (line ∷ later) c =
    if is_held line (pending_on c.channel) then (c, line ∷ later) else did_lines later (did line c)
