-- Every list of calls of an end, and what they gave. A run is one in which memory is never wanting.
use Rattle.std.specs.Prelude.{ℕ, ◌+◌, List, [], ◌∷◌, ◌++◌, length, drop, slice_get, Option, Some, None}
use Rattle.tcf_message.specs.Message.{MessageValue, final, progress, not_known, event}
use Rattle.channel_core.specs.Closing.{after_drain, closed_own, drained}
use Rattle.channel_core.specs.EndValue.{EndValue}
use Rattle.channel_core.specs.Laws.{listed}
use Rattle.channel_core.specs.Receiving.{delivered, ended}
use Rattle.channel_core.specs.Sending.{commanded, made, queued, refusal_to}
use Rattle.channel_core.specs.Taking.{next_taken}
use Rattle.channel_core.specs.declared.held.Held.{Held}
use Rattle.channel_core.specs.declared.held.Outgoing.{Outgoing}
use Rattle.channel_core.specs.declared.sending.SendRefusal.{SendRefusal}
use Rattle.channel_core.specs.declared.taking.Taken.{Taken}

-- ---- the calls that change an end

-- a message that is never held
pub data Unheld : Type 0 where
  an_answer : (token body : List ℕ) → Unheld
  some_progress : (token body : List ℕ) → Unheld
  an_unknown : (token : List ℕ) → Unheld
  an_event : (service name body : List ℕ) → Unheld

abbrev pub message_of : Unheld → MessageValue
message_of (an_answer token body) = final token body
message_of (some_progress token body) = progress token body
message_of (an_unknown token) = not_known token
message_of (an_event service name body) = event service name body

pub data Call (T : Type 0) : Type 0 where
  delivering : (piece : List ℕ) (mark : Option ℕ) → Call T  -- a piece of the stream comes
  ending : Call T  -- the bytes have ended
  taking : Call T  -- the next entry of the inbox is taken
  commanding : (service name body : List ℕ) (tag : T) (mark : Option ℕ) → Call T  -- a command is sent, or refused
  sending : (message : Unheld) (mark : Option ℕ) → Call T  -- another message is sent
  putting_out : Call T  -- what is to be sent next is taken out
  closing : Call T  -- the end closes by its own side
  draining : Call T  -- a pending command of a closed end is taken

-- a refused command changes nothing
abbrev pub unless_refused : {A : Type 0} → Option SendRefusal → A → A → A
unless_refused None refused accepted = accepted
unless_refused (Some why) refused accepted = refused

-- what a call makes of an end
abbrev pub called : {T : Type 0} → Call T → EndValue T → EndValue T
called (delivering piece mark) e = delivered piece mark e
called ending e = ended e
called taking e = (next_taken e).1
called (commanding service name body tag mark) e =
    unless_refused (refusal_to service name body e) e (commanded service name body tag mark e)
called (sending message mark) e = queued (message_of message) mark e
called putting_out e = record e { queued = drop 1 e.queued }
called closing e = closed_own e
called draining e = after_drain e

-- ---- what the calls gave

-- a command that was accepted, as it is sent, with its tag
pub record Issued (T : Type 0) : Type 0 where
  pub command : Held
  pub tag : T

abbrev pub issued : {T : Type 0} → List ℕ → List ℕ → List ℕ → T → Option ℕ → EndValue T → Issued T
issued service name body tag mark e = record { command = made (e.last + 1) service name body mark; tag = tag }

pub record Past (T : Type 0) : Type 0 where
  pub given : List Outgoing  -- what was taken out to be sent
  pub taken : List (Taken T)  -- what was taken from the inbox
  pub accepted : List (Issued T)  -- the commands that were accepted
  pub queued : List Outgoing  -- all that was queued
  pub drained : List T  -- the tags that were drained

-- what the call itself gave
abbrev pub gave : {T : Type 0} → Call T → EndValue T → Past T → Past T
gave taking e past = record past { taken = past.taken ++ listed (next_taken e).0 }
gave (commanding service name body tag mark) e past =
    record past { accepted = past.accepted ++ unless_refused (refusal_to service name body e) [] (issued service name body tag mark e ∷ []) }
gave putting_out e past = record past { given = past.given ++ listed (slice_get e.queued 0) }
gave draining e past = record past { drained = past.drained ++ listed (drained e) }
gave (delivering piece mark) e past = past
gave ending e past = past
gave (sending message mark) e past = past
gave closing e past = past

-- what it queued: what stands in the queue behind all that stood there before
abbrev pub queued_by : {T : Type 0} → Call T → EndValue T → List Outgoing
queued_by call e = drop (length e.queued) (called call e).queued

abbrev pub past_after : {T : Type 0} → Call T → EndValue T → Past T → Past T
past_after call e past = record (gave call e past) { queued = past.queued ++ queued_by call e }

-- ---- a run

-- an end, and what its calls gave
pub record Run (T : Type 0) : Type 0 where
  pub past : Past T
  pub end : EndValue T

-- no call yet
abbrev pub begun : {T : Type 0} → EndValue T → Run T
begun e = record { past = record { given = []; taken = []; accepted = []; queued = e.queued; drained = [] }; end = e }

abbrev pub after_call : {T : Type 0} → Call T → Run T → Run T
after_call call r = record { past = past_after call r.end r.past; end = called call r.end }

abbrev pub after_calls : {T : Type 0} → List (Call T) → Run T → Run T
after_calls [] r = r
after_calls (call ∷ calls) r = after_calls calls (after_call call r)
