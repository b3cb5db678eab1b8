-- What a start does: the first refusal that is due, or one process more.
use Rattle.std.specs.Prelude.{ℕ, ◌+◌, nat_le, nat_lt, Bool, true, false, if◌then◌else◌, List, [], ◌∷◌, ◌++◌, length, replicate, codes, Option, Some, None}
use Rattle.std.specs.Option.{option_or}
use Rattle.target_contexts.specs.TargetsValue.{TargetsValue}
use Rattle.target_contexts.specs.Images.{image_of}
use Rattle.target_contexts.specs.Loading.{entry_in, is_bad, is_long, memory_in}
use Rattle.target_contexts.specs.declared.process.Image.{Image}
use Rattle.target_contexts.specs.ProcessValue.{ProcessValue}
use Rattle.target_contexts.specs.declared.process.ThreadState.{ThreadState}
use Rattle.target_contexts.specs.declared.process.ThreadState.TheVariants.{Running, Suspended}
use Rattle.target_contexts.specs.declared.threads.Thread.{Thread}
use Rattle.target_contexts.specs.declared.targets.StartRefusal.{StartRefusal}
use Rattle.target_contexts.specs.declared.targets.StartRefusal.TheVariants.{NoImage, Full, Size, Bad, Numbers}

-- the images, and nothing else yet
abbrev pub new_targets : List Image → TargetsValue
new_targets images = record { images = images; processes = []; next = 1 }

-- ---- refusals: the first that is due, for the image of the name, so many live processes, and the next number

-- for the bytes of the image alone
abbrev pub bytes_refusal : List ℕ → Option StartRefusal
bytes_refusal bytes = if is_long bytes then Some Size else if is_bad bytes then Some Bad else None

abbrev pub number_refusal : ℕ → Option StartRefusal
number_refusal next = if nat_lt 4294967295 next then Some Numbers else None

abbrev pub refusal_for : Option Image → ℕ → ℕ → Option StartRefusal
refusal_for None live next = Some NoImage
refusal_for (Some image) live next =
    if nat_le 64 live then Some Full else option_or (bytes_refusal image.bytes) (number_refusal next)

abbrev pub refusal_of : List ℕ → TargetsValue → Option StartRefusal
refusal_of file targets = refusal_for (image_of file targets.images) (length targets.processes) targets.next

-- ---- the new process

unfoldable pub suspended_text : List ℕ
suspended_text = codes "Suspended"

-- the thread of an attached process is suspended, without hits; else it runs, without a count
abbrev pub first_state : Bool → ThreadState
first_state true = Suspended suspended_text []
first_state false = Running None

-- all registers 0
abbrev pub first_thread : Bool → ℕ → Thread
first_thread attach entry = record { state = first_state attach; cpu = record { pc = entry; x = replicate 32 0 } }

-- with one thread
abbrev pub process_from : Bool → List ℕ → ℕ → List ℕ → ProcessValue
process_from attach name entry memory = record {
  name = name;
  attached = attach;
  threads = first_thread attach entry ∷ [];
  memory = memory;
}

-- the image in memory, and the pc of the thread on its first instruction
abbrev pub new_process : Bool → Image → ProcessValue
new_process attach image = process_from attach image.name (entry_in image.bytes) (memory_in image.bytes)

abbrev pub with_started : Bool → TargetsValue → Option Image → TargetsValue
with_started attach targets None = targets
with_started attach targets (Some image) =
    record targets { processes = targets.processes ++ (targets.next, new_process attach image) ∷ []; next = targets.next + 1 }

-- one process more, of the image of this name, under the next number
abbrev pub started : List ℕ → Bool → TargetsValue → TargetsValue
started file attach targets = with_started attach targets (image_of file targets.images)
