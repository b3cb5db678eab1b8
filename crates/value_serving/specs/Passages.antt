-- What passed on the sides of a value-add is what its ends gave out in the same calls.
use Rattle.std.specs.Prelude.{ℕ, ◌≡◌, List, [], Option, None, Some, is_some}
use Rattle.channel_core.specs.declared.held.Outgoing.{Outgoing}
use Rattle.value_node.specs.Runs.{Call, ValueRun, above, after_all, below, no_calls}
use Rattle.value_serving.specs.Served.{Passage, Passed, after_calls}

abbrev pub given_above : Option Passed → List Outgoing
given_above None = []
given_above (Some s) = s.gave

pub record AgreesWith (r : ValueRun) (p : Passage) : Type 0 where
  pub node : p.node ≡ r.value
  pub below : p.below.gave ≡ (below r.past).past.given
  pub above : given_above p.above ≡ (above r.past).past.given
  pub connection : is_some p.above ≡ is_some r.past.connection

-- Whatever is called.
abbrev pub PassagesAgree : Type 0
PassagesAgree = (peer : List ℕ) (calls : List Call) → AgreesWith (after_all calls (no_calls peer)) (after_calls peer calls)
