-- Which ID a text spells, part by part: the parts stand between dots.
use Rattle.std.specs.Prelude.{ℕ, ◌≡◌, ◌==◌, ◌↔◌, List, [], ◌∷◌, Option, Some, None, option_map, option_and_then, if◌then◌else◌, codes, bytes_eq}
use Rattle.tcf_values.specs.Cut.{cut_of}
use Rattle.tcf_values.specs.Number.{number_of}
use Rattle.tcf_values.specs.Spelling.{SpellsContext, SpellsRegister}
use Rattle.tcf_values.specs.declared.ids.ContextId.{ContextId}
use Rattle.tcf_values.specs.declared.ids.ContextId.TheVariants.{Process, Thread}
use Rattle.tcf_values.specs.declared.ids.RegisterId.{RegisterId}

-- what follows the letter
abbrev pub behind_of : ℕ → List ℕ → Option (List ℕ)
behind_of letter [] = None
behind_of letter (first ∷ rest) = if first == letter then Some rest else None

-- the number of a process or of a thread
abbrev pub positive_of : List ℕ → Option ℕ
positive_of digits = number_of 1 4294967295 digits

abbrev pub process_of : List ℕ → Option ContextId
process_of digits = option_map Process (positive_of digits)

abbrev pub thread_of : List ℕ → List ℕ → Option ContextId
thread_of process thread = option_and_then (λ p. option_map (Thread p) (positive_of thread)) (positive_of process)

-- the parts are those of a thread, where there is a dot
abbrev pub context_by : List ℕ → Option (List ℕ × List ℕ) → Option ContextId
context_by digits None = process_of digits
context_by digits (Some parts) = thread_of parts.0 parts.1

abbrev pub context_in : List ℕ → Option ContextId
context_in digits = context_by digits (cut_of 46 digits)

-- the process or the thread whose spelling the text is
abbrev pub context_of : List ℕ → Option ContextId
context_of text = option_and_then context_in (behind_of 80 text)

-- the index that a register's name says
abbrev pub index_of : List ℕ → Option ℕ
index_of name = if bytes_eq name (codes "pc") then Some 32 else option_and_then (number_of 0 31) (behind_of 120 name)

abbrev pub register_from : List ℕ → List ℕ → List ℕ → Option RegisterId
register_from process thread name =
    option_and_then (λ p. option_and_then (λ t. option_map (λ i. record { process = p; thread = t; index = i })
    (index_of name)) (positive_of thread)) (positive_of process)

abbrev pub register_in : List ℕ → Option RegisterId
register_in digits =
    option_and_then (λ front. option_and_then (λ back. register_from front.0 back.0 back.1) (cut_of 46 front.1)) (cut_of 46 digits)

-- the register whose spelling the text is
abbrev pub register_of : List ℕ → Option RegisterId
register_of text = option_and_then register_in (behind_of 80 text)

-- the laws: an ID is read exactly where the text is its spelling
abbrev pub ContextRoundTrip : Type 0
ContextRoundTrip = (text : List ℕ) (id : ContextId) → (context_of text ≡ Some id) ↔ SpellsContext text id

abbrev pub RegisterRoundTrip : Type 0
RegisterRoundTrip = (text : List ℕ) (id : RegisterId) → (register_of text ≡ Some id) ↔ SpellsRegister text id
