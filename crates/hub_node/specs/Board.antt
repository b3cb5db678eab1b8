-- Commands that are pending above stand in the list of their lower channel, under keys that are used again.
use Rattle.std.specs.Prelude.{ℕ, ◌==◌, Bool, true, false, if◌then◌else◌, [], position, replicate, slice_set, unwrap_or, Option, None, Some}
use Rattle.link_pool.specs.Lists.{cleared, item_of, pushed, unlinked}
use Rattle.hub_node.specs.BoardValue.{BoardValue}
use Rattle.hub_node.specs.WaitingValue.{WaitingValue}
use Rattle.hub_node.specs.declared.waiting.Tag.{Tag}

-- a list for each of the 64 channels that can be live
abbrev pub new_board : BoardValue
new_board = record { lists = replicate 64 []; owners = replicate 64 None }

-- ---- whose a list is

abbrev pub owns : ℕ → Option ℕ → Bool
owns channel None = false
owns channel (Some owner) = owner == channel

abbrev pub list_of : ℕ → BoardValue → ℕ
list_of channel b = unwrap_or (position (owns channel) b.owners) 0

abbrev pub is_nobody : Option ℕ → Bool
is_nobody None = true
is_nobody (Some owner) = false

abbrev pub free_list : BoardValue → ℕ
free_list b = unwrap_or (position is_nobody b.owners) 0

-- a channel opens, and has a list that was free
abbrev pub joined : ℕ → BoardValue → BoardValue
joined channel b = record b { owners = slice_set b.owners (free_list b) (Some channel) }

-- it closes: its list is empty, and free
abbrev pub left : ℕ → BoardValue → BoardValue
left channel b = record { lists = cleared (list_of channel b) b.lists; owners = slice_set b.owners (list_of channel b) None }

-- ---- what is kept of a command

abbrev pub kept : ℕ → WaitingValue → BoardValue → BoardValue
kept key w b = record b { lists = pushed (list_of w.channel b) None (key, w) b.lists }

-- it is that of the tag, if its number is
abbrev pub if_own : ℕ → Option WaitingValue → Option WaitingValue
if_own serial None = None
if_own serial (Some w) = if w.serial == serial then Some w else None

abbrev pub found : Tag → BoardValue → Option WaitingValue
found tag b = if_own tag.serial (item_of tag.key b.lists)

-- nothing is kept of it any more
abbrev pub without_key : ℕ → Option WaitingValue → BoardValue → BoardValue
without_key key None b = b
without_key key (Some w) b = record b { lists = unlinked key b.lists }

abbrev pub dropped : Tag → BoardValue → BoardValue
dropped tag b = without_key tag.key (found tag b) b
