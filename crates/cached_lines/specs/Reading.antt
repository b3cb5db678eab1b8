-- How what a line asks of a cache is read, word by word.
use Rattle.std.specs.Prelude.{ℕ, ◌≡◌, ◌↔◌, List, Option, Some, None, option_map, option_and_then, if◌then◌else◌, bytes_eq}
use Rattle.tcf_values.specs.Cut.{cut_of}
use Rattle.tcf_values.specs.Ids.{context_of}
use Rattle.tcf_values.specs.Number.{number_of}
use Rattle.tcf_values.specs.declared.ids.ContextId.{ContextId}
use Rattle.tcf_values.specs.declared.ids.ContextId.TheVariants.{Process, Thread}
use Rattle.line_words.specs.Words.{both, word_of}
use Rattle.cached_lines.specs.declared.what.CachedWhat.{CachedWhat}
use Rattle.cached_lines.specs.declared.what.CachedWhat.TheVariants.{Context, State, Register, Properties, Status, Bytes}
use Rattle.cached_lines.specs.Asked.{context_word, state_word, register_word, properties_word, status_word, bytes_word, SpellsCached}

abbrev pub only_process : List ℕ → ContextId → Option (List ℕ)
only_process text (Process process) = Some text
only_process text (Thread process thread) = None

-- P1
unfoldable pub process_of : List ℕ → Option (List ℕ)
process_of text = option_and_then (only_process text) (context_of text)

-- P1 ADDR SIZE
abbrev pub bytes_of : List ℕ → Option (List ℕ × (ℕ × ℕ))
bytes_of text = both process_of (both (number_of 0 65535) (number_of 1 65536)) text

abbrev pub asking_bytes : List ℕ × (ℕ × ℕ) → CachedWhat
asking_bytes b = Bytes b.0 b.1.0 b.1.1

-- what is asked behind this first word
unfoldable pub cached_behind : List ℕ → List ℕ → Option CachedWhat
cached_behind word rest =
    if bytes_eq word context_word then option_map (λ id. Context id) (word_of rest)
    else if bytes_eq word state_word then option_map (λ id. State id) (word_of rest)
    else if bytes_eq word register_word then option_map (λ id. Register id) (word_of rest)
    else if bytes_eq word properties_word then option_map (λ id. Properties id) (word_of rest)
    else if bytes_eq word status_word then option_map (λ id. Status id) (word_of rest)
    else if bytes_eq word bytes_word then option_map asking_bytes (bytes_of rest)
    else None

-- what the text asks, if it asks something
abbrev pub cached_of : List ℕ → Option CachedWhat
cached_of text = option_and_then (λ parts. cached_behind parts.0 parts.1) (cut_of 32 text)

-- the law: what is asked is read exactly where it has a form and the text is its spelling
abbrev pub CachedRoundTrip : Type 0
CachedRoundTrip = (text : List ℕ) (what : CachedWhat) → (cached_of text ≡ Some what) ↔ SpellsCached text what
