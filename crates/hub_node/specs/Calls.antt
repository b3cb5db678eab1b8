-- The calls that change a hub.
use Rattle.std.specs.Prelude.{ℕ, ◌≡◌, List, [], ◌∷◌, Option, None}
use Rattle.link_pool.specs.Lists.{item_of}
use Rattle.hub_node.specs.Hub.{after_giving, came, ended, opened, turned}
use Rattle.hub_node.specs.HubValue.{HubValue}
use Rattle.hub_node.specs.declared.side.HubSide.{HubSide}

-- a turn bears the key under which a command that is sent above in it is kept
pub data Call : Type 0 where
  opens : (j : ℕ) → Call
  comes : (side : HubSide) (piece : List ℕ) (mark : Option ℕ) → Call
  bytes_end : (side : HubSide) → Call
  turns : (key : ℕ) (side : HubSide) → Call
  gives : (side : HubSide) → Call

abbrev pub called : Call → HubValue → HubValue
called (opens j) h = (opened j h).1
called (comes side piece mark) h = came side piece mark h
called (bytes_end side) h = ended side h
called (turns key side) h = (turned key side h).1
called (gives side) h = after_giving side h

-- each key is one that nothing has
abbrev pub IsNew : Call → HubValue → Type 0
IsNew (opens j) h = Unit {0}
IsNew (comes side piece mark) h = Unit {0}
IsNew (bytes_end side) h = Unit {0}
IsNew (turns key side) h = item_of key h.relay.board.lists ≡ None
IsNew (gives side) h = Unit {0}

abbrev pub AreNew : List Call → HubValue → Type 0
AreNew [] h = Unit {0}
AreNew (call ∷ calls) h = IsNew call h × AreNew calls (called call h)
