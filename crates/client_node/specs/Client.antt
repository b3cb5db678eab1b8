-- What a client does: it numbers the commands that are accepted from 1, as their tokens are, and its log says what was
-- sent, refused and taken.
use Rattle.std.specs.Prelude.{ℕ, ◌+◌, Bool, true, false, if◌then◌else◌, List, [], ◌∷◌, ◌++◌, length, map, codes, drop, slice_get, Option, Some, None, option_map, Result, Ok}
use Rattle.cached_lines.specs.declared.what.CachedWhat.{CachedWhat}
use Rattle.channel_core.specs.Beginning.{new_end}
use Rattle.channel_core.specs.Closing.{closed_own, is_closed}
use Rattle.channel_core.specs.EndValue.{EndValue, unless_spent}
use Rattle.channel_core.specs.Receiving.{delivered, ended as bytes_ended, waiting_in}
use Rattle.channel_core.specs.Sending.{commanded, queued, refusal_of}
use Rattle.channel_core.specs.Taking.{next_taken}
use Rattle.channel_core.specs.declared.held.Outgoing.{Outgoing}
use Rattle.channel_core.specs.declared.sending.SendRefusal.{SendRefusal}
use Rattle.channel_core.specs.declared.states.Cause.{Cause}
use Rattle.channel_core.specs.declared.states.Cause.TheVariants.{Own}
use Rattle.channel_core.specs.declared.taking.Taken.{Taken}
use Rattle.channel_core.specs.declared.taking.Taken.TheVariants as taken
use Rattle.client_log.specs.Cached.{cached_value}
use Rattle.client_log.specs.Lessons.{lessons}
use Rattle.tcf_message.specs.Message.{MessageValue, command, not_known, reading}
use Rattle.tcf_message.specs.declared.message.MessageFault.{MessageFault}
use Rattle.tcf_text.specs.declared.log.LogLine.{LogLine}
use Rattle.tcf_text.specs.declared.log.LogLine.TheVariants as lines
use Rattle.tcf_text.specs.declared.log.RefusedWhy.{RefusedWhy}
use Rattle.tcf_text.specs.declared.log.RefusedWhy.TheVariants as refused
use Rattle.client_node.specs.ClientValue.{ClientValue}
use Rattle.client_node.specs.Lines.{end_of, event_line, final_line, hello_line, progress_line, why_of}

-- nothing is opened, sent or taken
abbrev pub new_client : ClientValue
new_client = record { channel = None; log = []; is_spent = false }

abbrev pub with_line : LogLine → ClientValue → ClientValue
with_line line c = record c { log = c.log ++ line ∷ [] }

-- with a line, where there is one
abbrev pub noted : Option LogLine → ClientValue → ClientValue
noted None c = c
noted (Some line) c = with_line line c

abbrev pub with_channel : EndValue ℕ → ClientValue → ClientValue
with_channel e c = record c { channel = Some e }

-- ---- opening: the Hello names the one service of a client

unfoldable pub client_services : List ℕ
client_services = codes "[\"Locator\"]" ++ 0 ∷ []

abbrev pub opened : ClientValue → ClientValue
opened c = record c { channel = Some (new_end client_services None) }

-- ---- sending: before the opening, and on a closed end, the channel isn't open

abbrev pub refused_for : Option RefusedWhy → ClientValue → ClientValue
refused_for None c = c
refused_for (Some why) c = with_line (lines.Refused why) c

-- the command under the next number
abbrev pub accepted_on : EndValue ℕ → List ℕ → List ℕ → List ℕ → ClientValue → ClientValue
accepted_on e service name body c =
    let number = e.last + 1 in
    with_line (lines.Sent number service name body) (with_channel (commanded service name body number None e) c)

abbrev pub sent_or_refused : Option SendRefusal → EndValue ℕ → List ℕ → List ℕ → List ℕ → ClientValue → ClientValue
sent_or_refused None e service name body c = accepted_on e service name body c
sent_or_refused (Some why) e service name body c = refused_for (why_of why) c

abbrev pub sent_by : Option (EndValue ℕ) → List ℕ → List ℕ → List ℕ → ClientValue → ClientValue
sent_by None service name body c = refused_for (Some refused.NotOpen) c
sent_by (Some e) service name body c =
    sent_or_refused (refusal_of (length service + length name + length body) e) e service name body c

abbrev pub sent : List ℕ → List ℕ → List ℕ → ClientValue → ClientValue
sent service name body c = sent_by c.channel service name body c

-- ---- asking the cache: it keeps what the lines of the log teach

abbrev pub asked : CachedWhat → ClientValue → ClientValue
asked what c = with_line (lines.Cached what (cached_value what (lessons c.log))) c

-- ---- what comes

abbrev pub came : List ℕ → Option ℕ → ClientValue → ClientValue
came piece mark c = record c { channel = option_map (delivered piece mark) c.channel }

abbrev pub ended : ClientValue → ClientValue
ended c = record c { channel = option_map (λ e. unless_spent e e (bytes_ended e)) c.channel }

-- ---- a closed end: each command that is pending is closed, in order of issue, and then the channel ends

abbrev pub closed_lines : Cause → List (ℕ × ℕ) → List LogLine
closed_lines cause pending = map (λ row. lines.Closed row.1) pending ++ lines.Ended (end_of cause) ∷ []

abbrev pub closed_for : Cause → EndValue ℕ → ClientValue → ClientValue
closed_for cause e c = record c { channel = Some (record e { pending = [] }); log = c.log ++ closed_lines cause e.pending }

-- ---- taking: a line for each message; a command of the other side isn't recognised, and leaves no line

-- the answer to a command: its token comes back
abbrev pub not_recognised : Result MessageValue MessageFault → EndValue ℕ → EndValue ℕ
not_recognised (Ok (command token service name body)) e = queued (not_known token) None e
not_recognised _ e = e

abbrev pub took : Taken ℕ → EndValue ℕ → ClientValue → ClientValue
took (taken.Hello incoming) e c = noted (hello_line incoming.mark (reading incoming.raw)) (with_channel e c)
took (taken.Event incoming) e c = noted (event_line incoming.mark (reading incoming.raw)) (with_channel e c)
took (taken.Command incoming) e c = with_channel (not_recognised (reading incoming.raw) e) c
took (taken.Progress number incoming) e c = noted (progress_line number incoming.mark (reading incoming.raw)) (with_channel e c)
took (taken.Final number incoming) e c = noted (final_line number incoming.mark (reading incoming.raw)) (with_channel e c)
took (taken.Closed cause) e c = closed_for cause e c

-- whether there was something to take, and what is left
abbrev pub turned_by : Option (Taken ℕ) × EndValue ℕ → ClientValue → Bool × ClientValue
turned_by (None, e) c = (false, c)
turned_by (Some what, e) c = (true, took what e c)

abbrev pub turned_on : Option (EndValue ℕ) → ClientValue → Bool × ClientValue
turned_on None c = (false, c)
turned_on (Some e) c = turned_by (next_taken e) c

abbrev pub turned : ClientValue → Bool × ClientValue
turned c = turned_on c.channel c

-- ---- closing by the client itself

abbrev pub closed_on : Option (EndValue ℕ) → ClientValue → ClientValue
closed_on None c = c
closed_on (Some e) c = if is_closed e.state then c else closed_for Own (closed_own e) c

abbrev pub closed : ClientValue → ClientValue
closed c = closed_on c.channel c

-- ---- what goes out

abbrev pub first_of : Option (EndValue ℕ) → Option Outgoing
first_of None = None
first_of (Some e) = unless_spent e None (slice_get e.queued 0)

abbrev pub without_first : EndValue ℕ → EndValue ℕ
without_first e = unless_spent e e (record e { queued = drop 1 e.queued })

abbrev pub given : ClientValue → Option Outgoing
given c = first_of c.channel

abbrev pub after_giving : ClientValue → ClientValue
after_giving c = record c { channel = option_map without_first c.channel }

-- ---- what can be asked

abbrev pub waiting_on : Option (EndValue ℕ) → ℕ
waiting_on None = 0
waiting_on (Some e) = waiting_in e

abbrev pub pending_on : Option (EndValue ℕ) → ℕ
pending_on None = 0
pending_on (Some e) = length e.pending
