-- What a read of a file gives, and what it changes.
use Rattle.std.specs.Prelude.{ℕ, ◌≡◌, ◌≤◌, List, [], ◌∷◌, ◌++◌, length, Option, option_map, IfSome, Result, Ok, Err, if◌then◌else◌, nat_lt}
use Rattle.std.specs.Str.{bytes_eq}
use Rattle.tcf_outside.specs.Faults.{raised}
use Rattle.tcf_outside.specs.declared.files.HeldFile.{HeldFile}
use Rattle.tcf_outside.specs.declared.files.FileRead.{FileRead}
use Rattle.tcf_outside.specs.declared.files.FileRead.TheVariants.{Whole, Longer}
use Rattle.tcf_outside.specs.declared.files.ReadRefusal.{ReadRefusal}
use Rattle.tcf_outside.specs.declared.files.ReadRefusal.TheVariants.{Failed, NoMemory}

-- what is seen of files
pub record FilesSeen : Type 0 where
  pub held : Option (List HeldFile)  -- the files that there are, where they are told
  pub names : Option (List (List ℕ))  -- the names of the reads so far, in order, where they are told
  pub faults : ℕ  -- how many reads failed, as far as a u64 counts

-- the bytes of the file of this name; a file that isn't there has none
abbrev pub content_of : List ℕ → List HeldFile → List ℕ
content_of name [] = []
content_of name (file ∷ files) = if bytes_eq file.name name then file.bytes else content_of name files

-- what a read of these bytes gives
abbrev pub read_of : List ℕ → ℕ → FileRead
read_of bytes limit = if nat_lt limit (length bytes) then Longer else Whole bytes

-- this is what a read of the file of this name gives, where the files are told
abbrev pub IsReadOf : List ℕ → ℕ → Option (List HeldFile) → FileRead → Type 0
IsReadOf name limit held answer = IfSome held (λ files. answer ≡ read_of (content_of name files) limit)

-- a file that is read whole is within the limit
abbrev pub IsWithin : ℕ → FileRead → Type 0
IsWithin limit (Whole bytes) = length bytes ≤ limit
IsWithin limit Longer = Unit {0}

-- the names of the reads, after one more; a read that wanted memory isn't told
abbrev pub names_after : Result FileRead ReadRefusal → List ℕ → Option (List (List ℕ)) → Option (List (List ℕ))
names_after (Ok answer) name told = option_map (λ names. names ++ name ∷ []) told
names_after (Err Failed) name told = option_map (λ names. names ++ name ∷ []) told
names_after (Err NoMemory) name told = told

-- the count of faults after a read: only a failed one counts
abbrev pub faults_after : Result FileRead ReadRefusal → ℕ → ℕ
faults_after (Ok answer) count = count
faults_after (Err Failed) count = raised count
faults_after (Err NoMemory) count = count
