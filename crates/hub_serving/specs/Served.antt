-- What is served is a hub: what is queued for its wires is what it gives out, and what comes on its wires is what it gets.
use Rattle.std.specs.Prelude.{ℕ, ◌≡◌, ◌==◌, Bool, true, false, ◌&&◌, List, [], ◌∷◌, ◌++◌, fold, if◌then◌else◌, Option, None, Some, Ok, Err, option_to_list}
use Rattle.std.specs.List.{AllByRecursion, flat_map}
use Rattle.channel_core.specs.declared.held.Outgoing.{Outgoing}
use Rattle.hub_node.specs.Calls.{AreNew, Call, bytes_end, called, comes, gives, opens, turns}
use Rattle.hub_node.specs.Hub.{given, new_hub, opened}
use Rattle.hub_node.specs.HubValue.{HubValue}
use Rattle.hub_node.specs.declared.side.HubSide.{HubSide}
use Rattle.hub_node.specs.declared.side.HubSide.TheVariants.{Above, Below}
use Rattle.serving_wires.specs.Changes.{item_on}
use Rattle.serving_wires.specs.Row.{Row}
use Rattle.serving_wires.specs.Standing.{AreApart, Heard, State, Wire, after, answered, came, sent_in, standing_in}
use Rattle.serving_wires.specs.Wired.{IsWired}
use Rattle.hub_serving.specs.Serving.{hub_of}
use Rattle.hub_serving.specs.ServingValue.{ServingValue}
use Rattle.hub_serving.specs.declared.line.Line.{Line}

-- ---- a hub after some calls, with what passed on a side

-- whether its channel was opened, of a lower side; the bytes that it got, and what it gave out
pub record Passed : Type 0 where
  pub is_opened : Bool
  pub got : List ℕ
  pub gave : List Outgoing

abbrev pub nothing_passed : Passed
nothing_passed = record { is_opened = false; got = []; gave = [] }

pub record Passage : Type 0 where
  pub hub : HubValue
  pub passed : Passed

abbrev pub new_passage : Passage
new_passage = record { hub = new_hub; passed = nothing_passed }

abbrev pub same_side : HubSide → HubSide → Bool
same_side Above Above = true
same_side Above (Below j) = false
same_side (Below j) Above = false
same_side (Below i) (Below j) = i == j

abbrev pub with_got : List ℕ → Passed → Passed
with_got piece p = record p { got = p.got ++ piece }

abbrev pub with_given : Option Outgoing → Passed → Passed
with_given out p = record p { gave = p.gave ++ option_to_list out }

abbrev pub passed_by : HubSide → Call → HubValue → Passed → Passed
passed_by side (opens j) h p = if same_side side (Below j) && (opened j h).0 then record p { is_opened = true } else p
passed_by side (comes on piece mark) h p = if same_side side on then with_got piece p else p
passed_by side (bytes_end on) h p = p
passed_by side (turns key on) h p = p
passed_by side (gives on) h p = if same_side side on then with_given (given on h) p else p

abbrev pub after_call : HubSide → Passage → Call → Passage
after_call side p call = record { hub = called call p.hub; passed = passed_by side call p.hub p.passed }

abbrev pub after_calls : HubSide → List Call → Passage
after_calls side calls = fold (after_call side) new_passage calls

abbrev pub passed_on : HubSide → List Call → Passed
passed_on side calls = (after_calls side calls).passed

-- ---- the wire above

-- its channel: that of the connection that was made at first
abbrev pub upper_in : List Heard → Option ℕ
upper_in [] = None
upper_in (came event ∷ heard) = upper_in heard
upper_in (answered (Ok channel) ∷ heard) = Some channel
upper_in (answered (Err refusal) ∷ heard) = None

abbrev pub is_number : ℕ → Option ℕ → Bool
is_number channel None = false
is_number channel (Some number) = number == channel

abbrev pub side_of : Option ℕ → ℕ → HubSide
side_of upper channel = if is_number channel upper then Above else Below channel

-- ---- what is queued for each wire, and what comes on it

abbrev pub bytes_of : List Outgoing → List ℕ
bytes_of outs = flat_map (λ out. out.bytes) outs

-- what its side gave out; for a channel that the hub refused the end of the stream alone
abbrev pub queued_for : Bool → Bool → List ℕ → List ℕ
queued_for true any bytes = bytes
queued_for false true bytes = bytes
queued_for false false bytes = 3 ∷ 2 ∷ []

-- of each wire that there ever was: all that was queued for it is that
abbrev pub IsSent : Option ℕ → List Call → ℕ → Wire → Type 0
IsSent upper calls channel wire =
    let p = passed_on (side_of upper channel) calls in wire.queued ≡ queued_for (is_number channel upper) p.is_opened (bytes_of p.gave)

-- of each line, whose side is live: all that came on its wire is what its side got, and behind it what waits
pub record IsLine (upper : Option ℕ) (calls : List Call) (wires : List (Row Wire)) (row : Row Line) : Type 0 where
  pub side : row.item.side ≡ side_of upper row.channel
  pub wired : IsWired row.channel wires (passed_on row.item.side calls).got (bytes_of (passed_on row.item.side calls).gave) row.item.intake true

-- ---- some calls of a new hub make it

pub record IsHub (upper : Option ℕ) (s : ServingValue) (wires : List (Row Wire)) : Type 0 where
  pub calls : List Call
  pub fits : AreNew calls new_hub
  pub node : (side : HubSide) → s.hub ≡ (after_calls side calls).hub
  pub sent : (channel : ℕ) (wire : Wire) → item_on channel wires ≡ Some wire → IsSent upper calls channel wire
  pub lines : AllByRecursion (IsLine upper calls wires) s.lines

abbrev pub IsServedHub : List Heard → State ServingValue → Type 0
IsServedHub heard state = IsHub (upper_in heard) (standing_in state).served (standing_in state).sent

-- Whatever came, where each connection had a channel of its own.
abbrev pub ServedIsAHub : Type 0
ServedIsAHub = (peer : List ℕ) (heard : List Heard) → AreApart (sent_in (after (hub_of peer) heard)) → IsServedHub heard (after (hub_of peer) heard)
