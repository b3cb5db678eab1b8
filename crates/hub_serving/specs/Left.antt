-- What a hub has left to do once an event is dealt with: nothing. Messages are taken until none can be, and what waits is given
-- until nothing can be, however much there is.
use Rattle.std.specs.Prelude.{ℕ, ◌≡◌, Bool, true, false, List, [], ◌∷◌, ◌++◌, None}
use Rattle.std.specs.List.{AllByRecursion}
use Rattle.hub_node.specs.HubValue.{HubValue}
use Rattle.hub_node.specs.Relay.{takes_below}
use Rattle.hub_node.specs.declared.side.HubSide.{HubSide}
use Rattle.hub_node.specs.declared.side.HubSide.TheVariants.{Above, Below}
use Rattle.serving_wires.specs.Standing.{Heard, after, came, standing_in}
use Rattle.tcf_wires.specs.declared.event.WireEvent.{WireEvent}
use Rattle.hub_serving.specs.Gathering.{queue_on}
use Rattle.hub_serving.specs.Lines.{is_live_on, waiting_on}
use Rattle.hub_serving.specs.Numbered.{turned}
use Rattle.hub_serving.specs.Passing.{first_to_give}
use Rattle.hub_serving.specs.Serving.{hub_of}
use Rattle.hub_serving.specs.ServingValue.{ServingValue}
use Rattle.hub_serving.specs.declared.line.Line.{Line}

-- messages of a side may be taken now: below where the upper end is Live and fewer than 1,024 commands are pending there
abbrev pub may_take : HubSide → HubValue → Bool
may_take Above h = true
may_take (Below j) h = takes_below h.relay

-- of the line of a wire: its side is live, no message of it can be taken, and none waits where messages may be taken; and the
-- side has nothing to send that isn't queued for its wire
pub record HasNothingLeft (h : HubValue) (line : Line) : Type 0 where
  pub live : is_live_on line.side h ≡ true
  pub untaken : (turned line.side h).0 ≡ false
  pub emptied : may_take line.side h ≡ true → waiting_on line.side h ≡ 0
  pub sent : queue_on line.side h ≡ []

pub record NothingLeft (s : ServingValue) : Type 0 where
  pub ungiven : first_to_give s.hub s.lines ≡ None  -- nothing that waits can be given
  pub lines : AllByRecursion (λ row. HasNothingLeft s.hub row.item) s.lines

-- Behind any event, whatever came before it.
abbrev pub LeavesNothing : Type 0
LeavesNothing = (peer : List ℕ) (heard : List Heard) (event : WireEvent) → NothingLeft (standing_in (after (hub_of peer) (heard ++ came event ∷ []))).served
