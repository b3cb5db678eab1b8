-- What a line asks of a client's cache, and how it is spelled.
use Rattle.std.specs.Prelude.{ℕ, ◌≡◌, ◌≤◌, List, codes, decimal, IsTrue}
use Rattle.tcf_values.specs.declared.ids.ContextId.TheVariants.{Process}
use Rattle.tcf_values.specs.Spelling.{SpellsContext}
use Rattle.line_words.specs.Words.{spaced, is_word}
use Rattle.cached_lines.specs.declared.what.CachedWhat.{CachedWhat}
use Rattle.cached_lines.specs.declared.what.CachedWhat.TheVariants.{Context, State, Register, Properties, Status, Bytes}

-- ---- What a line can ask

-- the ID is the spelling of a process
abbrev pub IsProcess : List ℕ → Type 0
IsProcess id = (process : ℕ) × SpellsContext id (Process process)

-- what is asked has a form: of bytes the ID is a process's, and else it is any word
abbrev pub IsAsked : CachedWhat → Type 0
IsAsked (Context id) = IsTrue (is_word id)
IsAsked (State id) = IsTrue (is_word id)
IsAsked (Register id) = IsTrue (is_word id)
IsAsked (Properties id) = IsTrue (is_word id)
IsAsked (Status id) = IsTrue (is_word id)
IsAsked (Bytes id addr size) = IsProcess id × (addr ≤ 65535) × (1 ≤ size) × (size ≤ 65536)

-- ---- How it is spelled

unfoldable pub context_word : List ℕ
context_word = codes "context"

unfoldable pub state_word : List ℕ
state_word = codes "state"

unfoldable pub register_word : List ℕ
register_word = codes "register"

unfoldable pub properties_word : List ℕ
properties_word = codes "properties"

unfoldable pub status_word : List ℕ
status_word = codes "status"

unfoldable pub bytes_word : List ℕ
bytes_word = codes "bytes"

-- the one text of what is asked
abbrev pub cached_spelling : CachedWhat → List ℕ
cached_spelling (Context id) = spaced context_word id
cached_spelling (State id) = spaced state_word id
cached_spelling (Register id) = spaced register_word id
cached_spelling (Properties id) = spaced properties_word id
cached_spelling (Status id) = spaced status_word id
cached_spelling (Bytes id addr size) = spaced bytes_word (spaced id (spaced (decimal addr) (decimal size)))

-- what is asked has a form, and the text is its spelling
abbrev pub SpellsCached : List ℕ → CachedWhat → Type 0
SpellsCached text what = IsAsked what × (text ≡ cached_spelling what)
