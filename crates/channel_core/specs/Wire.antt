-- What is sent, and what a message that came says to its taker (TCF protocol: framing, tokens, Hello and redirect).
use Rattle.std.specs.Prelude.{ℕ, nat_eq, Bool, true, false, ◌&&◌, ◌||◌, List, [], ◌∷◌, bytes_eq, codes, Option, None, Result, Ok, Err}
use Rattle.std.specs.List.{starts_with}
use Rattle.stream_escape.specs.Stream.{framed}
use Rattle.tcf_message.specs.Message.{MessageValue, command, final, progress, not_known, event, flow, reading, spelling}
use Rattle.tcf_message.specs.declared.message.MessageFault.{MessageFault}
use Rattle.channel_core.specs.declared.held.Outgoing.{Outgoing}

-- ---- what is sent

abbrev pub said : MessageValue → Option ℕ → Outgoing
said message mark = record { bytes = framed (spelling message); mark = mark }

abbrev pub end_of_stream : Outgoing
end_of_stream = record { bytes = 3 ∷ 2 ∷ []; mark = None }

unfoldable pub locator : List ℕ
locator = codes "Locator"

unfoldable pub hello : List ℕ
hello = codes "Hello"

unfoldable pub redirect_name : List ℕ
redirect_name = codes "redirect"

abbrev pub is_redirect : List ℕ → List ℕ → Bool
is_redirect service name = bytes_eq service locator && bytes_eq name redirect_name

-- ---- a redirect's answer says that it was done: its first part is empty, or `null`

abbrev pub is_done : List ℕ → Bool
is_done body = starts_with nat_eq body (0 ∷ []) || starts_with nat_eq body (110 ∷ 117 ∷ 108 ∷ 108 ∷ 0 ∷ [])

-- ---- what a message that came says to its taker

-- a token of a result or of progress is compared with the tokens that were made here, which are decimal
pub data Said : Type 0 where
  greets : Said  -- Locator Hello
  tells : Said  -- another event
  asks : Said  -- a command
  goes_on : (token : List ℕ) → Said  -- progress
  answers : (token : List ℕ) (done : Bool) → Said  -- a final answer, and whether a redirect is done by it

abbrev pub event_said : Bool → Said
event_said true = greets
event_said false = tells

abbrev pub said_by : MessageValue → Said
said_by (command token service name body) = asks
said_by (final token body) = answers token (is_done body)
said_by (progress token body) = goes_on token
said_by (not_known token) = answers token false
said_by (event service name body) = event_said (bytes_eq service locator && bytes_eq name hello)
said_by (flow level) = tells

abbrev pub said_of : Result MessageValue MessageFault → Said
said_of (Ok message) = said_by message
said_of (Err fault) = tells

abbrev pub said_in : List ℕ → Said
said_in raw = said_of (reading raw)
