-- What the words after the program's name ask for.
use Rattle.std.specs.Prelude.{ℕ, ◌==◌, Bool, true, ◌&&◌, not, List, [], ◌∷◌, length, map, String, string_bytes, Option, Some, None, option_map, if◌then◌else◌, codes}
use Rattle.std.specs.List.{list_any}
use Rattle.std.specs.declared.alloc.Global.{Global}
use Rattle.std.specs.Str.{bytes_eq}
use Rattle.tcf_values.specs.Cut.{cut_of}
use Rattle.tcf_values.specs.Number.{number_of}
use Rattle.tcf_text.specs.Said.{long_number_of}
use Rattle.tcf_app.specs.declared.order.ImageWord.{ImageWord}
use Rattle.tcf_app.specs.declared.order.Order.{Order}
use Rattle.tcf_app.specs.declared.order.Order.TheVariants.{Chain, Show, Load, Agent, Value, Client, Hub, Journal, Check}

-- an image that the words give an agent: its name, and the file that has its bytes
pub record NamedFile : Type 0 where
  pub name : List ℕ
  pub file : List ℕ

-- a command with what its words say
pub data OrderValue : Type 0 where
  chain : (file : List ℕ) → OrderValue
  show : (file : List ℕ) → OrderValue
  load : (number : ℕ) → OrderValue
  agent : (address : List ℕ) (turns : ℕ) (images : List NamedFile) → OrderValue
  value : (address peer : List ℕ) (turns : ℕ) → OrderValue
  client : (address script : List ℕ) (turns : ℕ) → OrderValue
  hub : (address peer : List ℕ) (turns : ℕ) → OrderValue
  journal : (file name : List ℕ) → OrderValue
  check : (file : List ℕ) → OrderValue

-- ---- an image's word

-- the name before the first `=`, and the file behind it; a word without one has no name
abbrev pub image_by : Option (List ℕ × List ℕ) → NamedFile
image_by None = record { name = []; file = [] }
image_by (Some parts) = record { name = parts.0; file = parts.1 }

abbrev pub image_in : List ℕ → NamedFile
image_in word = image_by (cut_of 61 word)

abbrev pub images_in : List (List ℕ) → List NamedFile
images_in words = map image_in words

-- the images that these words of a program give
abbrev pub images_given : List (String Global) → List NamedFile
images_given words = images_in (map string_bytes words)

-- the files of the images
abbrev pub files_in : List NamedFile → List (List ℕ)
files_in images = map (λ (image : NamedFile). image.file) images

-- one of the images has this name
abbrev pub has_name : List ℕ → List NamedFile → Bool
has_name name images = list_any (λ (image : NamedFile). bytes_eq image.name name) images

-- each image has a name, which isn't given twice
abbrev pub are_named : List NamedFile → Bool
are_named [] = true
are_named (image ∷ later) = not (length image.name == 0) && not (has_name image.name later) && are_named later

-- ---- the forms

abbrev pub order_value : Order → OrderValue
order_value (Chain file) = chain file.now
order_value (Show file) = show file.now
order_value (Load number) = load number
order_value (Agent address turns images) = agent address.now turns (images_given images.now)
order_value (Value address peer turns) = value address.now peer.now turns
order_value (Client address script turns) = client address.now script.now turns
order_value (Hub address peer turns) = hub address.now peer.now turns
order_value (Journal file name) = journal file.now name.now
order_value (Check file) = check file.now

abbrev pub image_value : ImageWord → NamedFile
image_value word = record { name = word.name.now; file = word.file.now }

unfoldable pub chain_word : List ℕ
chain_word = codes "chain"

unfoldable pub show_word : List ℕ
show_word = codes "show"

unfoldable pub load_word : List ℕ
load_word = codes "load"

unfoldable pub agent_word : List ℕ
agent_word = codes "agent"

unfoldable pub value_word : List ℕ
value_word = codes "value"

unfoldable pub client_word : List ℕ
client_word = codes "client"

unfoldable pub hub_word : List ℕ
hub_word = codes "hub"

unfoldable pub journal_word : List ℕ
journal_word = codes "journal"

unfoldable pub check_word : List ℕ
check_word = codes "check"

-- how many turns a serving command takes: a decimal from 1 to 1,000,000,000, without a sign or a leading zero
abbrev pub turns_of : List ℕ → Option ℕ
turns_of digits = number_of 1 1000000000 digits

-- `chain FILE`, `show FILE`, `load NUMBER`, of which a decimal below 2^64 says the generated schedule, or `check FILE`
abbrev pub order_with : List ℕ → List ℕ → Option OrderValue
order_with command word =
    if bytes_eq command chain_word then Some (chain word)
    else if bytes_eq command show_word then Some (show word)
    else if bytes_eq command load_word then option_map load (long_number_of word)
    else if bytes_eq command check_word then Some (check word)
    else None

-- `agent ADDRESS TURNS [NAME=FILE ..]`
abbrev pub agent_over : List ℕ → List NamedFile → ℕ → Option OrderValue
agent_over address images turns = if are_named images then Some (agent address turns images) else None

abbrev pub agent_by : List ℕ → List NamedFile → Option ℕ → Option OrderValue
agent_by address images None = None
agent_by address images (Some turns) = agent_over address images turns

-- the turns, where they are the one word that is left
abbrev pub last_turns : List (List ℕ) → Option ℕ
last_turns (word ∷ []) = turns_of word
last_turns words = None

-- `value ADDRESS PEER TURNS`
abbrev pub value_by : List ℕ → List ℕ → List (List ℕ) → Option OrderValue
value_by address peer words = option_map (value address peer) (last_turns words)

-- `client ADDRESS SCRIPT TURNS`
abbrev pub client_by : List ℕ → List ℕ → List (List ℕ) → Option OrderValue
client_by address script words = option_map (client address script) (last_turns words)

-- `hub ADDRESS PEER TURNS`
abbrev pub hub_by : List ℕ → List ℕ → List (List ℕ) → Option OrderValue
hub_by address peer words = option_map (hub address peer) (last_turns words)

-- `journal FILE NAME`
abbrev pub journal_by : List ℕ → List ℕ → List (List ℕ) → Option OrderValue
journal_by file name [] = Some (journal file name)
journal_by file name (word ∷ words) = None

-- a command with two words and more behind it
abbrev pub serving_with : List ℕ → List ℕ → List ℕ → List (List ℕ) → Option OrderValue
serving_with command address word words =
    if bytes_eq command agent_word then agent_by address (images_in words) (turns_of word)
    else if bytes_eq command value_word then value_by address word words
    else if bytes_eq command client_word then client_by address word words
    else if bytes_eq command hub_word then hub_by address word words
    else if bytes_eq command journal_word then journal_by address word words
    else None

-- the order that the words are
abbrev pub order_of : List (List ℕ) → Option OrderValue
order_of (command ∷ file ∷ []) = order_with command file
order_of (command ∷ address ∷ word ∷ words) = serving_with command address word words
order_of words = None

-- the order that these words of a program are
abbrev pub order_in : List (String Global) → Option OrderValue
order_in words = order_of (map string_bytes words)

-- ---- the files that an order names, from the left

abbrev pub files_named : OrderValue → List (List ℕ)
files_named (chain file) = file ∷ []
files_named (show file) = file ∷ []
files_named (load number) = []
files_named (agent address turns images) = files_in images
files_named (value address peer turns) = []
files_named (client address script turns) = script ∷ []
files_named (hub address peer turns) = []
files_named (journal file name) = file ∷ []
files_named (check file) = file ∷ []

abbrev pub names_of : Option OrderValue → List (List ℕ)
names_of None = []
names_of (Some order) = files_named order

-- the place of the first of them among the words, of which the command is the first; 0 where there is none
abbrev pub first_place : OrderValue → ℕ
first_place (chain file) = 2
first_place (show file) = 2
first_place (load number) = 0
first_place (agent address turns images) = 4
first_place (value address peer turns) = 0
first_place (client address script turns) = 3
first_place (hub address peer turns) = 0
first_place (journal file name) = 2
first_place (check file) = 2
