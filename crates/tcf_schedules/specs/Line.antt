-- What one line of a schedule says, and how it is spelled.
use Rattle.std.specs.Prelude.{ℕ, ◌≡◌, ◌≤◌, Bool, true, false, List, ◌∷◌, codes, decimal, IsTrue}
use Rattle.std.specs.List.{AllByRecursion, join_with_byte}
use Rattle.tcf_values.specs.declared.ids.ContextId.{ContextId}
use Rattle.tcf_values.specs.Spelling.{context_spelling}
use Rattle.line_words.specs.Words.{spaced, is_word}
use Rattle.cached_lines.specs.declared.what.CachedWhat.{CachedWhat}
use Rattle.cached_lines.specs.Asked.{IsAsked, cached_spelling}
use Rattle.tcf_schedules.specs.Plan.{IsThread}
use Rattle.tcf_schedules.specs.Words.{is_name, is_numeral, is_hex_word}

-- ---- What a line can say

-- a step that can be repeated, by the name of its chain. Hops and nodes are given by their digits, which may say a
-- number of any size, and the parts of data by the words that say them
pub data PlainStep : Type 0 where
  opens : (name : List ℕ) → PlainStep
  sends : (name service command : List ℕ) (args : List (List ℕ)) → PlainStep
  delivers : (name hop : List ℕ) (up : Bool) (count : ℕ) → PlainStep
  turns : (name node : List ℕ) (up : Bool) → PlainStep
  ticks : (thread : ContextId) → PlainStep
  closes : (name : List ℕ) → PlainStep
  cuts : (name hop : List ℕ) → PlainStep
  asks : (name : List ℕ) (what : CachedWhat) → PlainStep

-- a step, so many rounds, or a step so many times
pub data LineStep : Type 0 where
  once : PlainStep → LineStep
  rounds : (count : ℕ) → LineStep
  times : (count : ℕ) (repeated : PlainStep) → LineStep

-- a line of the header: an image by its name and the digits of its bytes, or a chain by its name and how many
-- value-adds it has
pub data LineHead : Type 0 where
  image : (name digits : List ℕ) → LineHead
  chain : (name : List ℕ) (adds : ℕ) → LineHead

pub data LineValue : Type 0 where
  head : LineHead → LineValue
  step : LineStep → LineValue

abbrev pub IsPlainStep : PlainStep → Type 0
IsPlainStep (opens name) = IsTrue (is_name name)
IsPlainStep (sends name service command args) =
    IsTrue (is_name name) × IsTrue (is_word service) × IsTrue (is_word command) × AllByRecursion (λ word. IsTrue (is_word word)) args
IsPlainStep (delivers name hop up count) = IsTrue (is_name name) × IsTrue (is_numeral hop) × (1 ≤ count) × (count ≤ 65536)
IsPlainStep (turns name node up) = IsTrue (is_name name) × IsTrue (is_numeral node)
IsPlainStep (ticks thread) = IsThread thread
IsPlainStep (closes name) = IsTrue (is_name name)
IsPlainStep (cuts name hop) = IsTrue (is_name name) × IsTrue (is_numeral hop)
IsPlainStep (asks name what) = IsTrue (is_name name) × IsAsked what

abbrev pub IsLineStep : LineStep → Type 0
IsLineStep (once x) = IsPlainStep x
IsLineStep (rounds count) = (1 ≤ count) × (count ≤ 10000)
IsLineStep (times count x) = (1 ≤ count) × (count ≤ 10000) × IsPlainStep x

-- a chain has at most 16 value-adds
abbrev pub IsHead : LineHead → Type 0
IsHead (image name digits) = IsTrue (is_name name) × IsTrue (is_hex_word digits)
IsHead (chain name adds) = IsTrue (is_name name) × (adds ≤ 16)

abbrev pub IsLine : LineValue → Type 0
IsLine (head h) = IsHead h
IsLine (step x) = IsLineStep x

-- ---- How it is spelled

unfoldable pub image_word : List ℕ
image_word = codes "image"

unfoldable pub chain_word : List ℕ
chain_word = codes "chain"

unfoldable pub open_word : List ℕ
open_word = codes "open"

unfoldable pub send_word : List ℕ
send_word = codes "send"

unfoldable pub deliver_word : List ℕ
deliver_word = codes "deliver"

unfoldable pub turn_word : List ℕ
turn_word = codes "turn"

unfoldable pub tick_word : List ℕ
tick_word = codes "tick"

unfoldable pub close_word : List ℕ
close_word = codes "close"

unfoldable pub cut_word : List ℕ
cut_word = codes "cut"

unfoldable pub cached_word : List ℕ
cached_word = codes "cached"

unfoldable pub rounds_word : List ℕ
rounds_word = codes "rounds"

unfoldable pub times_word : List ℕ
times_word = codes "times"

unfoldable pub up_word : List ℕ
up_word = codes "up"

unfoldable pub down_word : List ℕ
down_word = codes "down"

abbrev pub direction_word : Bool → List ℕ
direction_word true = up_word
direction_word false = down_word

-- words with a blank between each two
abbrev pub joined : List (List ℕ) → List ℕ
joined words = join_with_byte 32 words

-- the one text of each step
abbrev pub plain_spelling : PlainStep → List ℕ
plain_spelling (opens name) = spaced open_word name
plain_spelling (sends name service command args) = spaced send_word (spaced name (spaced service (joined (command ∷ args))))
plain_spelling (delivers name hop up count) =
    spaced deliver_word (spaced name (spaced hop (spaced (direction_word up) (decimal count))))
plain_spelling (turns name node up) = spaced turn_word (spaced name (spaced node (direction_word up)))
plain_spelling (ticks thread) = spaced tick_word (context_spelling thread)
plain_spelling (closes name) = spaced close_word name
plain_spelling (cuts name hop) = spaced cut_word (spaced name hop)
plain_spelling (asks name what) = spaced cached_word (spaced name (cached_spelling what))

abbrev pub step_spelling : LineStep → List ℕ
step_spelling (once x) = plain_spelling x
step_spelling (rounds count) = spaced rounds_word (decimal count)
step_spelling (times count x) = spaced times_word (spaced (decimal count) (plain_spelling x))

abbrev pub head_spelling : LineHead → List ℕ
head_spelling (image name digits) = spaced image_word (spaced name digits)
head_spelling (chain name adds) = spaced chain_word (spaced name (decimal adds))

-- the one text of each line
abbrev pub spelling : LineValue → List ℕ
spelling (head h) = head_spelling h
spelling (step x) = step_spelling x

-- the line is the text of this value
abbrev pub Says : List ℕ → LineValue → Type 0
Says line value = IsLine value × (line ≡ spelling value)
