-- What a run that has no end yet has left to do: nothing, until the next event comes. A client takes messages
-- until it can take none, and does lines until the first that is left waits, however many there are.
use Rattle.std.specs.Prelude.{ℕ, ◌≡◌, ◌<◌, true, false, IsTrue, List, [], ◌∷◌, None}
use Rattle.std.specs.List.{AllByRecursion}
use Rattle.client_node.specs.Client.{pending_on, turned, waiting_on}
use Rattle.tcf_schedules.specs.declared.script.ScriptLine.{ScriptLine}
use Rattle.tcf_wires.specs.Event.{can_come}
use Rattle.tcf_wires.specs.declared.event.WireEvent.{WireEvent}
use Rattle.client_serving.specs.Lines.{did_lines, is_held}
use Rattle.client_serving.specs.Serving.{after_events}
use Rattle.client_serving.specs.ServingValue.{ServingValue}

-- wires can give these: a piece has 1 to 65,536 bytes
abbrev pub CanCome : List WireEvent → Type 0
CanCome events = AllByRecursion (λ event. IsTrue (can_come 0 event)) events

-- the first line that is left is held while so many commands are pending
abbrev pub IsHeldBack : List ScriptLine → ℕ → Type 0
IsHeldBack [] pending = Unit {0}
IsHeldBack (line ∷ later) pending = is_held line pending ≡ true

pub record NothingLeft (s : ServingValue) : Type 0 where
  pub untaken : (turned s.client).0 ≡ false  -- the client can take no message
  pub none_waits : waiting_on s.client.channel ≡ 0  -- and its inbox has no entry
  pub held : IsHeldBack s.left (pending_on s.client.channel)
  pub undone : did_lines s.left s.client ≡ (s.client, s.left)  -- so doing the lines once more changes nothing
  pub pending : 0 < pending_on s.client.channel  -- it is the answer of a command that is waited for

-- Whatever the script, and whatever came, as long as the run has no end.
abbrev pub LeavesNothing : Type 0
LeavesNothing = (address : List ℕ) (channel : ℕ) (script : List ScriptLine) (events : List WireEvent) → CanCome events
    → (after_events address channel script events).end ≡ None → NothingLeft (after_events address channel script events)
