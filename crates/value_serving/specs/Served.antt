-- What is served are value-adds: what is queued for their wires is what they give out, and what comes on their wires is what they
-- get.
use Rattle.std.specs.Prelude.{ℕ, ◌≡◌, Bool, List, [], ◌++◌, Option, None, Some, fold, if◌then◌else◌, option_map, option_to_list}
use Rattle.std.specs.List.{AllByRecursion, flat_map}
use Rattle.channel_core.specs.declared.held.Outgoing.{Outgoing}
use Rattle.serving_wires.specs.Row.{Row}
use Rattle.serving_wires.specs.Standing.{AreApart, Heard, State, Wire, after, is_resting, sent_in, standing_in}
use Rattle.serving_wires.specs.Wired.{IsWired}
use Rattle.serving_wires.specs.declared.intake.Came.{Came}
use Rattle.value_node.specs.Runs.{Call, bytes_end, called, comes, connects, fails, gives, turns}
use Rattle.value_node.specs.Value.{awaits, given, new_value}
use Rattle.value_node.specs.ValueValue.{ValueValue}
use Rattle.value_node.specs.declared.states.Side.{Side}
use Rattle.value_node.specs.declared.states.Side.TheVariants.{Below, Above}
use Rattle.value_serving.specs.Adds.{queue_on}
use Rattle.value_serving.specs.Serving.{value_adds}
use Rattle.value_serving.specs.ServingValue.{ServingValue}
use Rattle.value_serving.specs.declared.add.Add.{Add}

-- ---- a value-add after some calls, with what passed on its sides

-- the bytes that a side got, and what it gave out, since its wire opened
pub record Passed : Type 0 where
  pub got : List ℕ
  pub gave : List Outgoing

abbrev pub nothing_passed : Passed
nothing_passed = record { got = []; gave = [] }

-- above since the last connection; before the first there is no wire above
pub record Passage : Type 0 where
  pub node : ValueValue
  pub below : Passed
  pub above : Option Passed

abbrev pub new_passage : List ℕ → Passage
new_passage peer = record { node = new_value peer; below = nothing_passed; above = None }

abbrev pub with_got : List ℕ → Passed → Passed
with_got piece s = record s { got = s.got ++ piece }

abbrev pub with_given : Option Outgoing → Passed → Passed
with_given out s = record s { gave = s.gave ++ option_to_list out }

abbrev pub on_side : Side → (Passed → Passed) → Passage → Passage
on_side Below change p = record p { below = change p.below }
on_side Above change p = record p { above = option_map change p.above }

-- where it waits for a connection, a new wire opens above
abbrev pub with_connection : Passage → Passage
with_connection p = if awaits p.node.relay then record p { above = Some nothing_passed } else p

abbrev pub passed_by : Call → Passage → Passage
passed_by (comes side piece mark) p = on_side side (with_got piece) p
passed_by (bytes_end side) p = p
passed_by (turns side) p = p
passed_by connects p = with_connection p
passed_by fails p = p
passed_by (gives side) p = on_side side (with_given (given side p.node)) p

abbrev pub after_call : Passage → Call → Passage
after_call p call = record (passed_by call p) { node = called call p.node }

abbrev pub after_calls : List ℕ → List Call → Passage
after_calls peer calls = fold after_call (new_passage peer) calls

-- ---- its wires

abbrev pub bytes_of : List Outgoing → List ℕ
bytes_of outs = flat_map (λ out. out.bytes) outs

abbrev pub IsWiredSide : ℕ → List (Row Wire) → Passed → List Came → Bool → Type 0
IsWiredSide channel wires s waiting is_resting = IsWired channel wires s.got (bytes_of s.gave) waiting is_resting

-- there is a wire above from the first connection on, and it is that of the last one
abbrev pub IsWiredAbove : Option ℕ → List (Row Wire) → Option Passed → List Came → Bool → Type 0
IsWiredAbove None wires None waiting is_resting = Unit {0}
IsWiredAbove None wires (Some s) waiting is_resting = ⊥
IsWiredAbove (Some channel) wires None waiting is_resting = ⊥
IsWiredAbove (Some channel) wires (Some s) waiting is_resting = IsWiredSide channel wires s waiting is_resting

-- Some calls of a new value-add make it. What its sides gave out in them is all that was queued for their wires, and all that they
-- have to send; and what they got in them, with what waits for them, is all that came on their wires.
pub record IsValueAdd (peer : List ℕ) (wires : List (Row Wire)) (is_resting : Bool) (a : Add) : Type 0 where
  pub calls : List Call
  pub node : a.node ≡ (after_calls peer calls).node
  pub lower : IsWiredSide a.below wires (after_calls peer calls).below a.lower is_resting
  pub upper : IsWiredAbove a.above wires (after_calls peer calls).above a.upper is_resting
  pub whole : (side : Side) → queue_on side a.node ≡ []

-- the value-adds that stand; while the answer of a connect is waited for, those that stood when the last event
-- came
abbrev pub AreValueAdds : List ℕ → State ServingValue → Type 0
AreValueAdds peer state =
    AllByRecursion (λ row. IsValueAdd peer (standing_in state).sent (is_resting state) row.item) (standing_in state).served.adds

-- Whatever came, and whatever connects were answered, where each connection had a channel of its own.
abbrev pub ServedAreValueAdds : Type 0
ServedAreValueAdds = (peer : List ℕ) (heard : List Heard) → AreApart (sent_in (after (value_adds peer) heard))
    → AreValueAdds peer (after (value_adds peer) heard)
