-- Commands, answers and events are sent.
use Rattle.std.specs.Prelude.{ℕ, ◌+◌, ◌==◌, ◌^◌, ◌-◌, nat_lt, nat_le, if◌then◌else◌, List, [], ◌∷◌, ◌++◌, length, decimal, Option, Some, None}
use Rattle.tcf_message.specs.Message.{MessageValue, command, most_body}
use Rattle.channel_core.specs.Closing.{is_closed}
use Rattle.channel_core.specs.EndValue.{EndValue}
use Rattle.channel_core.specs.Holding.{is_free, sent_out}
use Rattle.channel_core.specs.Wire.{is_redirect, said}
use Rattle.channel_core.specs.declared.held.Held.{Held}
use Rattle.channel_core.specs.declared.sending.SendRefusal.{SendRefusal}
use Rattle.channel_core.specs.declared.sending.SendRefusal.TheVariants.{Full, NotOpen, TooLong, Spent}

-- ---- a command

-- so many commands can be pending, those that are held among them
abbrev pub most_pending : ℕ
most_pending = 1024

abbrev pub last_token : ℕ
last_token = 2 ^ 64 - 1

-- the first refusal that is due, for service, name and data of so many bytes
abbrev pub refusal_of : {T : Type 0} → ℕ → EndValue T → Option SendRefusal
refusal_of size e =
    if is_closed e.state then Some NotOpen
    else if nat_lt most_body size then Some TooLong
    else if nat_le most_pending (length e.pending) then Some Full
    else if e.last == last_token then Some Spent
    else None

-- and for these
abbrev pub refusal_to : {T : Type 0} → List ℕ → List ℕ → List ℕ → EndValue T → Option SendRefusal
refusal_to service name body e = refusal_of (length service + length name + length body) e

-- the command under this token
abbrev pub made : ℕ → List ℕ → List ℕ → List ℕ → Option ℕ → Held
made token service name body mark = record {
  token = token;
  is_redirect = is_redirect service name;
  outgoing = said (command (decimal token) service name body) mark;
}

abbrev pub accepted : {T : Type 0} → Held → T → EndValue T → EndValue T
accepted h tag e = record e { last = h.token; pending = e.pending ++ (h.token, tag) ∷ [] }

-- it goes out, or is held
abbrev pub sent_or_held : {T : Type 0} → Held → EndValue T → EndValue T
sent_or_held h e = if is_free e then sent_out h e else record e { held = e.held ++ h ∷ [] }

abbrev pub commanded : {T : Type 0} → List ℕ → List ℕ → List ℕ → T → Option ℕ → EndValue T → EndValue T
commanded service name body tag mark e =
    let h = made (e.last + 1) service name body mark in accepted h tag (sent_or_held h e)

-- ---- any other message; a closed end sends nothing

abbrev pub queued : {T : Type 0} → MessageValue → Option ℕ → EndValue T → EndValue T
queued message mark e = if is_closed e.state then e else record e { queued = e.queued ++ said message mark ∷ [] }
