-- What one hears whose commands are some of those that a channel's target answers, and what a channel of a hub is taught.
use Rattle.std.specs.Prelude.{ℕ, ◌≡◌, Bool, true, false, ◌||◌, if◌then◌else◌, List, [], ◌∷◌, ◌++◌, drop, map, Option, Some, None}
use Rattle.std.specs.List.{flat_map}
use Rattle.command_tables.specs.Reading.{reading_of}
use Rattle.knowledge.specs.Learning.{Message, other_taken}
use Rattle.target_hub.specs.Sent.{ReadCommand, Told, hello_at, event_at, progress_at, final_at, unknown_at}
use Rattle.target_truth.specs.Listening.{Hears, is_event}
use Rattle.target_truth.specs.Taught.{event_message, final_message, message_of, open_after, position_of}
use Rattle.tcf_message.specs.Message.{MessageValue, command, event, final, flow, not_known, progress}
use Rattle.hub_node.specs.Deeds.{Asked}
use Rattle.hub_node.specs.HubLaws.{if_of, under}

-- ---- whose the commands are that have no answer yet, in order

abbrev pub is_own : List Bool → Bool
is_own [] = false
is_own (own ∷ owns) = own

abbrev pub owns_after : Told → List Bool → List Bool
owns_after (hello_at position body) owns = owns
owns_after (event_at position service name body) owns = owns
owns_after (progress_at position body) owns = owns
owns_after (final_at position through body) owns = drop 1 owns
owns_after (unknown_at position through) owns = drop 1 owns

abbrev pub is_for : List Bool → Told → Bool
is_for owns told = is_event told || is_own owns

-- a message, and its position
pub record At : Type 0 where
  pub message : Message
  pub position : ℕ

-- what it hears, each message with its position
abbrev pub heard : List Bool → List ReadCommand → List Told → List At
heard owns commands [] = []
heard owns commands (told ∷ rest) =
    let later = heard (owns_after told owns) (open_after told commands) rest in
    if is_for owns told then record { message = message_of commands told; position = position_of told } ∷ later else later

-- the front of what it hears that ends with this message is what it hears of a front of what is told, which ends with the
-- message of this position
pub record IsFrontHeard (owns : List Bool) (commands : List ReadCommand) (told : List Told) (first : List At) (last : At) : Type 0 where
  pub front : List Told
  pub final : Told
  pub rest : List Told
  pub parts : told ≡ front ++ final ∷ rest
  pub position : last.position ≡ position_of final
  pub hears : Hears commands (front ++ final ∷ []) (map (λ at. at.message) (first ++ last ∷ []))

-- ---- what channel j is sent of a message, as what it teaches there, with its mark

abbrev pub at : Option ℕ → Message → List At
at None m = []
at (Some position) m = record { message = m; position = position } ∷ []

abbrev pub taught_to : ℕ → List Asked → MessageValue × Option ℕ → List At
taught_to j sent (event service name body, mark) = at mark (event_message service name body)
taught_to j sent (final token body, mark) =
    flat_map (λ m. at mark m) (if_of j (under 1 token sent) (λ c. final_message (Some (reading_of c.service c.name c.body)) body))
taught_to j sent (progress token body, mark) = flat_map (λ m. at mark m) (if_of j (under 1 token sent) (λ c. other_taken))
taught_to j sent (not_known token, mark) = flat_map (λ m. at mark m) (if_of j (under 1 token sent) (λ c. other_taken))
taught_to j sent (command token service name body, mark) = []
taught_to j sent (flow level, mark) = []

-- ---- behind some messages

abbrev pub sent_after_one : Told → List Asked → List Asked
sent_after_one (hello_at position body) sent = sent
sent_after_one (event_at position service name body) sent = sent
sent_after_one (progress_at position body) sent = sent
sent_after_one (final_at position through body) sent = drop 1 sent
sent_after_one (unknown_at position through) sent = drop 1 sent

-- the commands that have no answer yet
abbrev pub waiting_after : List Told → List Asked → List Asked
waiting_after [] sent = sent
waiting_after (told ∷ rest) sent = waiting_after rest (sent_after_one told sent)

-- progress and answers come while a command is executed
abbrev pub Covers : List ReadCommand → List Told → Type 0
Covers commands [] = Unit {0}
Covers [] (told ∷ rest) = (is_event told ≡ true) × Covers [] rest
Covers (c ∷ commands) (told ∷ rest) = Covers (open_after told (c ∷ commands)) rest
