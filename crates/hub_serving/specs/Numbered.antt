-- A hub keeps each command that is pending above under a key, which is any that nothing has. Here it is seen as one that keeps
-- each under its own number: what it does is the same.
use Rattle.std.specs.Prelude.{ℕ, ◌≡◌, ◌≤◌, ◌+◌, ◌⊎◌, Bool, true, false, List, [], map, min, None}
use Rattle.std.specs.List.{AllByRecursion}
use Rattle.channel_core.specs.Closing.{is_closed}
use Rattle.channel_core.specs.EndValue.{EndValue}
use Rattle.hub_node.specs.BoardValue.{BoardValue}
use Rattle.hub_node.specs.Hub.{turned as turned_under}
use Rattle.hub_node.specs.HubValue.{HubValue}
use Rattle.hub_node.specs.RelayValue.{RelayValue}
use Rattle.hub_node.specs.WaitingValue.{WaitingValue}
use Rattle.hub_node.specs.declared.side.HubSide.{HubSide}
use Rattle.hub_node.specs.declared.waiting.Tag.{Tag}

-- ---- the keys of a hub, changed to the numbers of the commands

abbrev pub numbered_tag : Tag → Tag
numbered_tag tag = record tag { key = tag.serial }

abbrev pub numbered_row : ℕ × WaitingValue → ℕ × WaitingValue
numbered_row row = (row.1.serial, row.1)

abbrev pub numbered_board : BoardValue → BoardValue
numbered_board b = record b { lists = map (map numbered_row) b.lists }

abbrev pub numbered_pending : ℕ × Tag → ℕ × Tag
numbered_pending row = (row.0, numbered_tag row.1)

abbrev pub numbered_end : EndValue Tag → EndValue Tag
numbered_end e = record e { pending = map numbered_pending e.pending }

abbrev pub numbered_relay : RelayValue → RelayValue
numbered_relay r = record r { upper = numbered_end r.upper; board = numbered_board r.board }

abbrev pub numbered : HubValue → HubValue
numbered h = record h { relay = numbered_relay h.relay }

-- ---- keys and numbers go together, as long as the hub isn't over

-- by these functions, each the other way round, of what is kept of a command
pub record RowIsKept (key_of number_of : ℕ → ℕ) (last : ℕ) (row : ℕ × WaitingValue) : Type 0 where
  pub key : row.0 ≡ key_of row.1.serial
  pub number : row.1.serial ≡ number_of row.0
  pub within : row.1.serial ≤ last

abbrev pub AreKept : (ℕ → ℕ) → (ℕ → ℕ) → ℕ → List (List (ℕ × WaitingValue)) → Type 0
AreKept key_of number_of last lists = AllByRecursion (AllByRecursion (RowIsKept key_of number_of last)) lists

-- and of the tags of pending commands, which have these keys and are no later than the last one
abbrev pub kept_tag : (ℕ → ℕ) → ℕ → Tag → Tag
kept_tag key_of last tag = record { key = key_of tag.serial; serial = min tag.serial last }

abbrev pub kept_pending : (ℕ → ℕ) → ℕ → ℕ × Tag → ℕ × Tag
kept_pending key_of last row = (row.0, kept_tag key_of last row.1)

pub record IsKept (r : RelayValue) : Type 0 where
  pub key_of : ℕ → ℕ
  pub number_of : ℕ → ℕ
  pub rows : AreKept key_of number_of r.upper.last r.board.lists
  pub tags : map (kept_pending key_of r.upper.last) r.upper.pending ≡ r.upper.pending

-- the upper end is closed, and no message is left there: nothing is taken any more
pub record IsOver (r : RelayValue) : Type 0 where
  pub closed : is_closed r.upper.state ≡ true
  pub emptied : r.upper.inbox ≡ []
  pub stopped : r.upper.stop ≡ None

pub record GoTogether (r : RelayValue) : Type 0 where
  pub fresh : r.upper.is_spent ≡ false
  pub rest : IsOver r ⊎ IsKept r

-- ---- a turn: a command that is sent above in it is kept under its number

abbrev pub number_next : HubValue → ℕ
number_next h = h.relay.upper.last + 1

abbrev pub turned : HubSide → HubValue → Bool × HubValue
turned side h = turned_under (number_next h) side h
