-- The law of what the target tells, input by input, to one who hears all events of a channel and any answers.
use Rattle.std.specs.Prelude.{ℕ, ◌≡◌, ◌+◌, Bool, true, false, List, [], ◌∷◌, ◌++◌, length}
use Rattle.knowledge.specs.Facts.{Facts}
use Rattle.knowledge.specs.Learning.{Message, learn_all}
use Rattle.target_contexts.specs.declared.process.Image.{Image}
use Rattle.target_hub.specs.Fresh.{target_at}
use Rattle.target_hub.specs.History.{IsLegal, inputs_after, is_live}
use Rattle.target_hub.specs.HubValue.{new_target}
use Rattle.target_hub.specs.Sent.{ReadCommand, Told, executed_by, executed_on, sent, sent_after, told_by}
use Rattle.target_hub.specs.Sent.{hello_at, event_at, progress_at, final_at, unknown_at}
use Rattle.target_hub.specs.declared.input.Input.{Input}
use Rattle.run_control.specs.TargetValue.{TargetValue}
use Rattle.target_truth.specs.Holds.{Holds}
use Rattle.target_truth.specs.Taught.{message_of, open_after, position_of}
use Rattle.target_truth.specs.Typed.{AreTyped}

-- ---- who hears the events

-- it is an event, as the Hello is; all else is for the caller of a command: its progress and its answer
abbrev pub is_event : Told → Bool
is_event (hello_at position body) = true
is_event (event_at position service name body) = true
is_event (progress_at position body) = false
is_event (final_at position through body) = false
is_event (unknown_at position through) = false

-- What one hears of what a channel is told, while these commands of it are answered one after another: each
-- event, and any of the rest. An answer is heard as that of its own command, whichever others were missed.
pub data Hears : List ReadCommand → List Told → List Message → Type 0 where
  hears_nothing : {commands : List ReadCommand} → Hears commands [] []
  hears : {commands : List ReadCommand} {rest : List Told} {messages : List Message} (told : Told)
      → Hears (open_after told commands) rest messages
      → Hears commands (told ∷ rest) (message_of commands told ∷ messages)
  misses : {commands : List ReadCommand} {rest : List Told} {messages : List Message} (told : Told)
      → is_event told ≡ false → Hears (open_after told commands) rest messages
      → Hears commands (told ∷ rest) messages

-- the commands that have no answer yet after what was told
abbrev pub left_after : List Told → List ReadCommand → List ReadCommand
left_after [] commands = commands
left_after (told ∷ rest) commands = left_after rest (open_after told commands)

-- ---- one input

-- the target after these inputs
abbrev pub target_after : List Image → List Input → TargetValue
target_after images inputs = inputs_after inputs (new_target images)

-- Who knows this and hears these messages knows what is true of a target: after each, and if there is none.
pub record StaysTrue (known : Facts) (messages : List Message) (target : TargetValue) : Type 0 where
  pub each : (front rest : List Message) (last : Message) → messages ≡ front ++ last ∷ rest
      → Holds (learn_all (front ++ last ∷ []) known) target
  pub unheard : messages ≡ [] → Holds known target

-- Who knows what is true of the target before an input, and hears all events and any of the answers that it
-- tells a live channel, knows what is true after it. Where it opens the channel, he may know anything before.
abbrev pub EachInputKeepsTruth : Type 0
EachInputKeepsTruth = (images : List Image) (before : List Input) (input : Input)
    → IsLegal images (before ++ input ∷ []) → AreTyped images
    → (k : ℕ) → is_live k (before ++ input ∷ []) ≡ true
    → (known : Facts) → (is_live k before ≡ true → Holds known (target_after images before))
    → (messages : List Message)
    → Hears (executed_by k input) (told_by k (length before + 1) (target_after images before) input) messages
    → StaysTrue known messages (target_after images (before ++ input ∷ []))

-- ---- any inputs

-- what these inputs behind others tell a channel
abbrev pub told_behind : List Image → ℕ → List Input → List Input → List Told
told_behind images k before inputs = sent_after k before (target_after images before) inputs

-- Who knows this after the inputs before keeps up, by what he hears of what these inputs tell:
pub record KeepsUp (images : List Image) (before inputs : List Input) (k : ℕ) (known : Facts) : Type 0 where
  -- of what was told up to a message, at that message's position;
  pub each : (front rest : List Told) (last : Told)
      → told_behind images k before inputs ≡ front ++ last ∷ rest
      → (messages : List Message) → Hears (executed_on k inputs) (front ++ last ∷ []) messages
      → Holds (learn_all messages known) (target_at images (before ++ inputs) (position_of last))
  -- and of all of it, of the target as it is then, if the channel is live.
  pub now : is_live k (before ++ inputs) ≡ true
      → (messages : List Message) → Hears (executed_on k inputs) (told_behind images k before inputs) messages
      → Holds (learn_all messages known) (target_after images (before ++ inputs))

-- So it is wherever he begins, with what is true there; of a channel that isn't live there, with anything.
abbrev pub ListenersKnowTruth : Type 0
ListenersKnowTruth = (images : List Image) (before inputs : List Input)
    → IsLegal images (before ++ inputs) → AreTyped images
    → (k : ℕ) (known : Facts) → (is_live k before ≡ true → Holds known (target_after images before))
    → KeepsUp images before inputs k known

-- ---- from any message on

-- So it is too where he begins behind any message that the channel was told, maybe between two of one input,
-- with what is true at that message's position.
abbrev pub LaterListenersKnowTruth : Type 0
LaterListenersKnowTruth = (images : List Image) (history : List Input)
    → IsLegal images history → AreTyped images
    → (k : ℕ) (earlier front rest : List Told) (begin last : Told)
    → sent images k history ≡ earlier ++ begin ∷ (front ++ last ∷ rest)
    → (known : Facts) → Holds known (target_at images history (position_of begin))
    → (messages : List Message)
    → Hears (left_after (earlier ++ begin ∷ []) (executed_on k history)) (front ++ last ∷ []) messages
    → Holds (learn_all messages known) (target_at images history (position_of last))
