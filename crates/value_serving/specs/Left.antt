-- What the value-adds have left to do once an event is dealt with: nothing. Messages are taken until none can
-- be, and what waits is given until nothing can be, however much there is.
use Rattle.std.specs.Prelude.{ℕ, ◌≡◌, true, false, IsTrue, List}
use Rattle.std.specs.List.{AllByRecursion}
use Rattle.tcf_wires.specs.Event.{can_come}
use Rattle.value_node.specs.Value.{takes_above, takes_below}
use Rattle.value_node.specs.declared.states.Side.TheVariants.{Below, Above}
use Rattle.value_node.specs.declared.states.ValueTurn.TheVariants.{Nothing}
use Rattle.value_serving.specs.Adds.{can_give, one_taken, waiting_on}
use Rattle.value_serving.specs.Serving.{value_adds}
use Rattle.serving_wires.specs.Standing.{Heard, after, answered, came, standing_in}
use Rattle.value_serving.specs.declared.add.Add.{Add}

-- wires can give this: a piece has 1 to 65,536 bytes
abbrev pub CanBeHeard : Heard → Type 0
CanBeHeard (came event) = IsTrue (can_come 0 event)
CanBeHeard (answered answer) = Unit {0}

pub record NothingLeft (a : Add) : Type 0 where
  pub untaken : (one_taken a.node).0 ≡ Nothing  -- it can take no message
  pub ungiven : can_give a ≡ false  -- and nothing that waits can be given to it
  -- an inbox has entries only where they may not be taken now: those from below wait while a redirect is done,
  -- and while 1,024 commands are pending above
  pub above : takes_above a.node.relay.bind ≡ true → waiting_on Above a ≡ 0
  pub below : takes_below a.node.relay.bind a.node.relay.upper ≡ true → waiting_on Below a ≡ 0

-- Whatever came, and whatever connects were answered.
abbrev pub LeavesNothing : Type 0
LeavesNothing = (peer : List ℕ) (heard : List Heard) → AllByRecursion CanBeHeard heard
    → AllByRecursion (λ row. NothingLeft row.item) (standing_in (after (value_adds peer) heard)).served.adds
