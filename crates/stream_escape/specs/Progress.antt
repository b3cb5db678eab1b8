-- What contracts see of the progress within a message, and what one step of it does.
use Rattle.std.specs.Prelude.{◌≡◌, ℕ, ◌<◌, ◌≤◌, List, ◌++◌, length, take, true, false}
use Rattle.stream_escape.specs.declared.progress.Place.{Place}
use Rattle.stream_escape.specs.declared.progress.Place.TheVariants.{InMessage, InEscape, AtEnd}
use Rattle.stream_escape.specs.declared.stream.Item.{Item}
use Rattle.stream_escape.specs.declared.stream.StreamFault.{StreamFault}
use Rattle.stream_escape.specs.declared.stream.StreamFault.TheVariants.{NoMemory}
use Rattle.stream_escape.specs.Stream.{Ending, partly, ended, Reads, Cause, Refuses, fault_at, escaped}
use Rattle.stream_escape.specs.Feeding.{Continues}

-- what has come since the last mark
abbrev pub ending_of : Place → List ℕ → Ending
ending_of InMessage part = partly part false
ending_of InEscape part = partly part true
ending_of AtEnd part = ended

-- the bytes are read, and the items that end in them are appended
pub record Advances (old : Ending) (bytes : List ℕ) (before after : List Item) (new : Ending) : Type 0 where
  pub items : List Item
  pub appended : after ≡ before ++ items
  pub continues : Continues old bytes items new

-- so many of the bytes' front stand for themselves
pub record IsRun (count : ℕ) (bytes : List ℕ) : Type 0 where
  pub some : 0 < count
  pub within : count ≤ length bytes
  pub plain : escaped (take count bytes) ≡ take count bytes

-- whatever list ends like this, with the bytes behind it it is refused at their first one
pub record IsRefused (offset : ℕ) (old : Ending) (bytes : List ℕ) (fault : StreamFault) : Type 0 where
  pub cause : Cause
  pub told : fault ≡ fault_at offset cause
  pub refuses : (before : List ℕ) (its : List Item) → Reads before its old → Refuses (before ++ bytes) its old (length before) cause

-- the same, where the fault isn't want of memory
abbrev pub IsBlocked : ℕ → Ending → List ℕ → StreamFault → Type 0
IsBlocked offset old bytes NoMemory = Unit {0}
IsBlocked offset old bytes fault = IsRefused offset old bytes fault
