-- The tokens of the commands that an end takes: where they come from an end, they count from 1.
use Rattle.std.specs.Prelude.{ℕ, zero, suc, ◌≡◌, ◌≤◌, ◌+◌, Bool, List, [], ◌∷◌, decimal, length, Result, Ok}
use Rattle.std.specs.List.{flat_map}
use Rattle.tcf_message.specs.Message.{MessageValue, command, reading}
use Rattle.tcf_message.specs.declared.message.MessageFault.{MessageFault}
use Rattle.channel_core.specs.Arrivals.{arrived, bytes_of}
use Rattle.channel_core.specs.ReceivingLaws.{SendsReadable, incoming_of}
use Rattle.channel_core.specs.Runs.{Run}
use Rattle.channel_core.specs.Sending.{last_token}
use Rattle.channel_core.specs.Wire.{hello as hello_word, locator}
use Rattle.channel_core.specs.declared.held.Incoming.{Incoming}
use Rattle.tcf_message.specs.Message.{IsWellFormed, event}
use Rattle.channel_laws.specs.Meeting.{Side, as_comes, run_of}
use Rattle.list_laws.specs.Fronts.{IsFront}

abbrev pub token_asked : Result MessageValue MessageFault → List (List ℕ)
token_asked (Ok (command token service name body)) = token ∷ []
token_asked _ = []

-- the tokens of the commands among these messages, in order
abbrev pub tokens_among : List Incoming → List (List ℕ)
tokens_among messages = flat_map (λ m. token_asked (reading m.raw)) messages

-- so many tokens, from this one on
abbrev pub tokens_from : ℕ → ℕ → List (List ℕ)
tokens_from next zero = []
tokens_from next (suc count) = decimal next ∷ tokens_from (next + 1) count

abbrev pub AreNumbered : List (List ℕ) → Type 0
AreNumbered tokens = (tokens ≡ tokens_from 1 (length tokens)) × (length tokens ≤ last_token)

-- the commands that were taken have the tokens 1, 2, 3 and so on
abbrev pub TakesNumbered : {T : Type 0} → Run T → Type 0
TakesNumbered r = AreNumbered (tokens_among (flat_map incoming_of r.past.taken))

-- so it is where what came to an end is a front of what another one gave
abbrev pub WhatComesIsNumbered : Type 0 → Type 0 → Type 0
WhatComesIsNumbered T U = (is_marked : Bool) (s : Side T) (other : Side U) → IsWellFormed (event locator hello_word other.hello) → SendsReadable other.calls
    → IsFront (arrived s.calls) (bytes_of (as_comes is_marked (run_of other).past.given)) → TakesNumbered (run_of s)
