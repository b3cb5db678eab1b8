-- How one file is read behind others.
use Rattle.std.specs.Prelude.{ℕ, ◌≡◌, ◌^◌, ◌<◌, List, Option}
use Rattle.tcf_outside.specs.Faults.{raised}
use Rattle.tcf_outside.specs.Files.{FilesSeen, IsReadOf}
use Rattle.tcf_outside.specs.declared.files.FileRead.TheVariants.{Whole, Longer}
use Rattle.tcf_outside.specs.declared.files.HeldFile.{HeldFile}
use Rattle.tcf_app.specs.declared.reading.Unread.{Unread}
use Rattle.tcf_app.specs.declared.reading.Unread.TheVariants as unread
use Rattle.tcf_app.specs.Heard.{most_file, AreNoted}

-- a read of the file gives these bytes, where the files are told
abbrev pub IsWholly : List ℕ → Option (List HeldFile) → List ℕ → Type 0
IsWholly name held bytes = IsReadOf name most_file held (Whole bytes)

-- behind so many it wasn't read whole
pub record IsStopped (count before : ℕ) (Why : Type 0) : Type 0 where
  pub place : count ≡ before
  pub why : Why

abbrev pub IsUnread : List ℕ → ℕ → Option (List HeldFile) → Unread → Type 0
IsUnread name before held (unread.Longer count) = IsStopped count before (IsReadOf name most_file held Longer)
IsUnread name before held (unread.Failed count) = count ≡ before
IsUnread name before held unread.NoMemory = Unit {0}

-- the count of faults rose by one where the read failed, and else stands still
abbrev pub CountsUnread : ℕ → ℕ → Unread → Type 0
CountsUnread before after (unread.Longer count) = after ≡ before
CountsUnread before after (unread.Failed count) = after ≡ raised before
CountsUnread before after unread.NoMemory = after ≡ before

-- these are the names that were told, the last of them that of the file whose read failed
abbrev pub NotesFailed : List (List ℕ) → FilesSeen → FilesSeen → Unread → Type 0
NotesFailed read before after (unread.Longer count) = Unit {0}
NotesFailed read before after (unread.Failed count) = AreNoted read before after
NotesFailed read before after unread.NoMemory = Unit {0}

-- there are no more than memory has room for
abbrev pub HasRoom : Unread → Type 0
HasRoom (unread.Longer count) = count < 2 ^ 63
HasRoom (unread.Failed count) = Unit {0}
HasRoom unread.NoMemory = Unit {0}
