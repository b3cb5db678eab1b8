-- What is heard of files that are read from the left.
use Rattle.std.specs.Prelude.{ℕ, ◌≡◌, ◌+◌, ◌<◌, ◌≤◌, List, [], ◌∷◌, ◌++◌, length, map, take, option_map, IfSome}
use Rattle.std.specs.List.{AllByRecursion}
use Rattle.tcf_outside.specs.Faults.{raised}
use Rattle.tcf_outside.specs.Files.{FilesSeen, content_of, read_of}
use Rattle.tcf_outside.specs.declared.files.FileRead.{FileRead}
use Rattle.tcf_outside.specs.declared.files.FileRead.TheVariants.{Whole, Longer}
use Rattle.tcf_outside.specs.declared.files.HeldFile.{HeldFile}
use Rattle.list_laws.specs.Fronts.{IsFront}
use Rattle.tcf_app.specs.declared.reading.Unread.{Unread}
use Rattle.tcf_app.specs.declared.reading.Unread.TheVariants as unread

-- the most bytes of a file
abbrev pub most_file : ℕ
most_file = 16777216

-- all files were read whole, and have these bytes; so many were, and the next one has more bytes than the limit; or so
-- many were, and the read of the next one failed
pub data Heard : Type 0 where
  whole : (contents : List (List ℕ)) → Heard
  longer : (before : ℕ) → Heard
  failed : (before : ℕ) → Heard

-- what the read of a file gives, and then what is heard of the later ones
abbrev pub heard_first : FileRead → Heard → Heard
heard_first Longer later = longer 0
heard_first (Whole bytes) (whole contents) = whole (bytes ∷ contents)
heard_first (Whole bytes) (longer before) = longer (before + 1)
heard_first (Whole bytes) (failed before) = failed (before + 1)

-- what is heard of the files of these names, where these files are held and no read fails
abbrev pub heard_in : List (List ℕ) → List HeldFile → Heard
heard_in [] files = whole []
heard_in (name ∷ names) files = heard_first (read_of (content_of name files) most_file) (heard_in names files)

-- it speaks of so many files
abbrev pub IsOf : ℕ → Heard → Type 0
IsOf count (whole contents) = length contents ≡ count
IsOf count (longer before) = before < count
IsOf count (failed before) = before < count

-- it is what these files hold; those before a read that failed were whole
abbrev pub Agrees : List (List ℕ) → Heard → List HeldFile → Type 0
Agrees names (whole contents) files = whole contents ≡ heard_in names files
Agrees names (longer before) files = longer before ≡ heard_in names files
Agrees names (failed before) files = (contents : List (List ℕ)) × (whole contents ≡ heard_in (take before names) files)

-- the count of faults rose by one where a read failed, and else stands still
abbrev pub Counts : Heard → ℕ → ℕ → Type 0
Counts (whole contents) before after = after ≡ before
Counts (longer place) before after = after ≡ before
Counts (failed place) before after = after ≡ raised before

-- these names were told, one read behind the other
abbrev pub AreNoted : List (List ℕ) → FilesSeen → FilesSeen → Type 0
AreNoted read before after = after.names ≡ option_map (λ so_far. so_far ++ read) before.names

-- a read that failed is the last one: the names that were told are those up to its file
abbrev pub IsLastRead : List (List ℕ) → Heard → FilesSeen → FilesSeen → Type 0
IsLastRead names (whole contents) before after = Unit {0}
IsLastRead names (longer place) before after = Unit {0}
IsLastRead names (failed place) before after = AreNoted (take (place + 1) names) before after

-- This was heard of the files of these names.
pub record Hears (names : List (List ℕ)) (before after : FilesSeen) (heard : Heard) : Type 0 where
  pub is_of : IsOf (length names) heard
  pub agrees : IfSome before.held (Agrees names heard)
  pub counts : Counts heard before.faults after.faults
  pub last : IsLastRead names heard before after

-- This was heard where not all files were read whole: nothing where memory was wanting.
abbrev pub HearsPart : List (List ℕ) → FilesSeen → FilesSeen → Unread → Type 0
HearsPart names before after (unread.Longer count) = Hears names before after (longer count)
HearsPart names before after (unread.Failed count) = Hears names before after (failed count)
HearsPart names before after unread.NoMemory = after.faults ≡ before.faults

-- as many of these names as were read were told, from the left
pub record ReadsInOrder (names : List (List ℕ)) (before after : FilesSeen) : Type 0 where
  pub read : List (List ℕ)
  pub front : IsFront read names
  pub told : AreNoted read before after

-- ---- what that says of files that are held

-- the file of this name has these bytes, where the files are told
abbrev pub IsHeld : List ℕ → List ℕ → FilesSeen → Type 0
IsHeld name bytes files = IfSome files.held (λ held. bytes ≡ content_of name held)

-- the files of these names have these contents
pub record AreHeld (names contents : List (List ℕ)) (files : FilesSeen) : Type 0 where
  pub count : length contents ≡ length names
  pub held : IfSome files.held (λ held. contents ≡ map (λ name. content_of name held) names)

-- behind so many files, each within the limit, this one has more bytes
pub record IsFirstLong (names : List (List ℕ)) (before : ℕ) (files : List HeldFile) : Type 0 where
  pub earlier : List (List ℕ)
  pub name : List ℕ
  pub later : List (List ℕ)
  pub parts : names ≡ earlier ++ name ∷ later
  pub place : before ≡ length earlier
  pub within : AllByRecursion (λ n. length (content_of n files) ≤ most_file) earlier
  pub long : most_file < length (content_of name files)

-- The read of this file failed, behind others that are within the limit. It was the last read: the names that were
-- told are those of the files up to it, and the count of faults rose by one.
pub record FailsLast (names : List (List ℕ)) (before after : FilesSeen) : Type 0 where
  pub earlier : List (List ℕ)
  pub name : List ℕ
  pub later : List (List ℕ)
  pub parts : names ≡ earlier ++ name ∷ later
  pub within : IfSome before.held (λ held.
      AllByRecursion (λ n. length (content_of n held) ≤ most_file) earlier)
  pub told : AreNoted (earlier ++ name ∷ []) before after
  pub counts : after.faults ≡ raised before.faults
