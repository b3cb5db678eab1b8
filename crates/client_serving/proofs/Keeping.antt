-- What each step of a served client keeps, it keeps with all that it does.
use Rattle.std.proofs.Common.{◌≡◌, ℕ, zero, suc, Bool, true, false, List, [], ◌∷◌, Option, Some, None, refl}
use Rattle.std.specs.Prelude.{if◌then◌else◌}
use Rattle.channel_core.specs.declared.states.Cause.{Cause}
use Rattle.client_node.specs.Client.{closed as client_closed, pending_on, turned, waiting_on}
use Rattle.client_node.specs.ClientValue.{ClientValue}
use Rattle.client_node.specs.Ends.{given_by}
use Rattle.client_node.specs.Runs.{Call, asks, called, closes, sends, turns}
use Rattle.tcf_schedules.specs.declared.script.ScriptLine.{ScriptLine}
use Rattle.tcf_schedules.specs.declared.script.ScriptLine.TheVariants.{Send, Wait, Cached, Close}
use Rattle.tcf_wires.specs.declared.event.WireEvent.{WireEvent}
use Rattle.tcf_wires.specs.declared.event.WireEvent.TheVariants as events
use Rattle.serving_wires.specs.declared.intake.Came.{Came}
use Rattle.serving_wires.specs.declared.intake.Came.TheVariants.{Piece, End}
use Rattle.client_serving.specs.Client.{got_by}
use Rattle.client_serving.specs.Lines.{did, did_lines, is_held}
use Rattle.client_serving.specs.Serving.{acted, after_message, after_turn, all_taken, came_to, cause_of, done_if_so, heard_on, is_done, is_its, one_taken, stopped, taken_so_many, went_on, with_lines}
use Rattle.client_serving.specs.ServingValue.{ServingValue}
use Rattle.client_serving.specs.declared.end.ClientEnd.{ClientEnd}
use Rattle.client_serving.specs.declared.end.ClientEnd.TheVariants.{Done}

-- a call of the client that gives out nothing and gets nothing, and what is done beside it
pub record Steps (P : ServingValue → Type 0) : Type 0 where
  pub calls : (call : Call) → ((c : ClientValue) → given_by call c ≡ []) → got_by call ≡ [] → (s : ServingValue) → P s → P (record s { client = called call s.client })
  pub apart : (left : List ScriptLine) (end : Option ClientEnd) (s : ServingValue) → P s → P (record s { left = left; end = end })

module _ (P : ServingValue → Type 0) (steps : Steps P) where
  line_keeps : (line : ScriptLine) (s : ServingValue) → P s → P (record s { client = did line s.client })
  line_keeps (Send service name body) s old = steps.calls (sends service name body) (λ c. refl) refl s old
  line_keeps Wait s old = old
  line_keeps (Cached what) s old = steps.calls (asks what) (λ c. refl) refl s old
  line_keeps Close s old = steps.calls closes (λ c. refl) refl s old

  by_held : (flag : Bool) (stops goes : ClientValue × List ScriptLine) (s : ServingValue) → P (with_lines stops s) → P (with_lines goes s) → P (with_lines (if flag then stops else goes) s)
  by_held true stops goes s first second = first
  by_held false stops goes s first second = second

  lines_keep : (script : List ScriptLine) (s : ServingValue) → P s → P (with_lines (did_lines script s.client) s)
  lines_keep [] s old = steps.apart [] s.end s old
  lines_keep (line ∷ later) s old =
      by_held (is_held line (pending_on s.client.channel)) (s.client, line ∷ later) (did_lines later (did line s.client)) s (steps.apart (line ∷ later) s.end s old)
      (lines_keep later (record s { client = did line s.client }) (line_keeps line s old))

  done_keeps : (s : ServingValue) → P s → P (done_if_so s)
  done_keeps s old = by_flag (is_done s)
    where
      by_flag : (flag : Bool) → P (if flag then record s { client = client_closed s.client; end = Some Done } else s)
      by_flag true = steps.apart s.left (Some Done) (record s { client = client_closed s.client }) (steps.calls closes (λ c. refl) refl s old)
      by_flag false = old

  pub went_on_keeps : (s : ServingValue) → P s → P (went_on s)
  unfolding went_on
  went_on_keeps s old = done_keeps (with_lines (did_lines s.left s.client) s) (lines_keep s.left s old)

  message_keeps : (cause : Option Cause) (s : ServingValue) → P s → P (after_message cause s)
  message_keeps None s old = went_on_keeps s old
  message_keeps (Some cause) s old = steps.apart s.left _ s old

  turn_keeps : (result : Bool × ClientValue) (s : ServingValue) → P (record s { client = result.1 }) → P (after_turn result s)
  turn_keeps (false, c) s old = old
  turn_keeps (true, c) s old = message_keeps (cause_of c.channel) (record s { client = c }) old

  taken_keeps : (end : Option ClientEnd) (s : ServingValue) → P (record s { end = end }) → P (one_taken (record s { end = end }))
  unfolding one_taken
  taken_keeps None s old = turn_keeps (turned s.client) (record s { end = None }) (steps.calls turns (λ c. refl) refl (record s { end = None }) old)
  taken_keeps (Some end) s old = old

  so_many_keep : (count : ℕ) (s : ServingValue) → P s → P (taken_so_many count s)
  so_many_keep zero s old = old
  so_many_keep (suc count) s old = so_many_keep count (one_taken s) (taken_keeps s.end s old)

  pub all_taken_keeps : (s : ServingValue) → P s → P (all_taken s)
  all_taken_keeps s old = so_many_keep (waiting_on s.client.channel) s old

  pub stopped_keeps : (s : ServingValue) → P s → P (stopped s)
  stopped_keeps s old = by_end s.end old
    where
      by_end : (end : Option ClientEnd) → P (record s { end = end }) → P (stopped (record s { end = end }))
      by_end None now = steps.apart s.left _ (record s { end = None }) now
      by_end (Some end) now = now

-- and what it keeps whatever comes, too
module _ (P : ServingValue → Type 0) (steps : Steps P) (comes : (what : Came) (s : ServingValue) → P s → P (record s { client = came_to what s.client })) where
  heard_keeps : (channel : ℕ) (what : Came) (s : ServingValue) → P s → P (heard_on channel what s)
  heard_keeps channel what s old = by_flag (is_its channel s.channel)
    where
      by_flag : (flag : Bool) → P (if flag then all_taken (record s { client = came_to what s.client }) else s)
      by_flag true = all_taken_keeps P steps (record s { client = came_to what s.client }) (comes what s old)
      by_flag false = old

  pub acted_keeps : (event : WireEvent) (s : ServingValue) → P s → P (acted event s)
  unfolding acted
  acted_keeps (events.Opened channel) s old = old
  acted_keeps (events.Piece channel bytes) s old = heard_keeps channel (Piece bytes) s old
  acted_keeps (events.Ended channel) s old = heard_keeps channel End s old
  acted_keeps (events.Lost channel) s old = heard_keeps channel End s old
  acted_keeps events.Idle s old = old
  acted_keeps events.Stop s old = stopped_keeps P steps s old
