-- The answers that a client's log lacks.
use Rattle.std.specs.Prelude.{ℕ, ◌≡◌, Bool, false, List, Option, None, Some}
use Rattle.std.specs.List.{list_any}
use Rattle.channel_core.specs.Closing.{is_closed}
use Rattle.channel_core.specs.EndValue.{EndValue}
use Rattle.client_node.specs.Client.{new_client, pending_on}
use Rattle.client_node.specs.Runs.{Call, run}
use Rattle.tcf_text.specs.Once.{AllAnswered, is_end}

-- where no command is pending each accepted one has its final answer
abbrev pub IsAnsweredWhereNonePends : Type 0
IsAnsweredWhereNonePends = (calls : List Call) → pending_on (run calls new_client).channel ≡ 0 → AllAnswered (run calls new_client).log

abbrev pub is_closed_on : Option (EndValue ℕ) → Bool
is_closed_on None = false
is_closed_on (Some e) = is_closed e.state

-- and the log has its end exactly where the channel is closed
abbrev pub EndsWhereClosed : Type 0
EndsWhereClosed = (calls : List Call) → list_any is_end (run calls new_client).log ≡ is_closed_on (run calls new_client).channel
