-- A client over any calls, and what holds of it then.
use Rattle.std.specs.Prelude.{ℕ, ◌≡◌, ◌+◌, true, false, Bool, ◌&&◌, List, [], ◌∷◌, ◌++◌, length, bytes_eq, decimal, filter, filter_map, option_to_list, is_some, Option, Some, None, Result, Ok}
use Rattle.std.specs.List.{AllByRecursion, range_with_len}
use Rattle.cached_lines.specs.declared.what.CachedWhat.{CachedWhat}
use Rattle.channel_core.specs.EndValue.{EndValue}
use Rattle.channel_core.specs.Sending.{refusal_of}
use Rattle.channel_core.specs.Taking.{next_taken}
use Rattle.channel_core.specs.Wire.{hello, locator}
use Rattle.channel_core.specs.declared.sending.SendRefusal.{SendRefusal}
use Rattle.channel_core.specs.declared.taking.Taken.{Taken}
use Rattle.channel_core.specs.declared.taking.Taken.TheVariants as taken
use Rattle.tcf_message.specs.Message.{MessageValue, command, event, final, not_known, progress, reading}
use Rattle.tcf_message.specs.declared.message.MessageFault.{MessageFault}
use Rattle.client_log.specs.Shown.{ShowsKept}
use Rattle.tcf_text.specs.Each.{Each}
use Rattle.tcf_text.specs.Lines.{Accepted, accepted, mark_of}
use Rattle.tcf_text.specs.Once.{Once, numbers}
use Rattle.tcf_text.specs.declared.log.LogLine.{LogLine}
use Rattle.client_node.specs.Client.{after_giving, asked, came, closed, ended, new_client, opened, sent, turned}
use Rattle.client_node.specs.ClientValue.{ClientValue}
use Rattle.client_node.specs.Lines.{event_line, final_line, hello_line, progress_line}

-- the calls that change a client
pub data Call : Type 0 where
  opens : Call
  sends : (service name body : List ℕ) → Call
  comes : (piece : List ℕ) (mark : Option ℕ) → Call
  bytes_end : Call
  turns : Call
  closes : Call
  gives : Call
  asks : CachedWhat → Call

-- a client is opened once
abbrev pub opened_from : Option (EndValue ℕ) → ClientValue → ClientValue
opened_from None c = opened c
opened_from (Some e) c = c

abbrev pub called : Call → ClientValue → ClientValue
called opens c = opened_from c.channel c
called (sends service name body) c = sent service name body c
called (comes piece mark) c = came piece mark c
called bytes_end c = ended c
called turns c = (turned c).1
called closes c = closed c
called gives c = after_giving c
called (asks what) c = asked what c

abbrev pub run : List Call → ClientValue → ClientValue
run [] c = c
run (call ∷ calls) c = run calls (called call c)

-- Whatever the calls, and whatever bytes came: each command that was accepted has at most one final answer, its own, and
-- exactly one once the channel has ended.
abbrev pub OnceAfterAnyCalls : Type 0
OnceAfterAnyCalls = (calls : List Call) → Once false (run calls new_client).log

-- Whatever the calls: each line that asks the cache shows what is kept of the messages that the lines before it say.
abbrev pub ShownAfterAnyCalls : Type 0
ShownAfterAnyCalls = (calls : List Call) → Each ShowsKept (run calls new_client).log

-- ---- a client with its past

pub record Past : Type 0 where
  pub client : ClientValue
  pub taken : List (Taken ℕ)  -- what its turns took from the channel, in order
  pub commands : List Accepted  -- the commands that were accepted, in order

abbrev pub no_past : Past
no_past = record { client = new_client; taken = []; commands = [] }

-- what a turn takes
abbrev pub taken_on : Option (EndValue ℕ) → List (Taken ℕ)
taken_on None = []
taken_on (Some e) = option_to_list (next_taken e).0

abbrev pub taken_by : Call → Option (EndValue ℕ) → List (Taken ℕ)
taken_by turns channel = taken_on channel
taken_by call channel = []

-- what the channel accepts, under the next token
abbrev pub unless_refused : Option SendRefusal → Accepted → List Accepted
unless_refused None next = next ∷ []
unless_refused (Some why) next = []

abbrev pub commands_on : Option (EndValue ℕ) → List ℕ → List ℕ → List ℕ → List Accepted
commands_on None service name body = []
commands_on (Some e) service name body =
    unless_refused (refusal_of (length service + length name + length body) e) (record { number = e.last + 1; service = service; name = name; body = body })

abbrev pub commands_in : Call → Option (EndValue ℕ) → List Accepted
commands_in (sends service name body) channel = commands_on channel service name body
commands_in call channel = []

abbrev pub remembered : Call → Past → Past
remembered call p = record {
  client = called call p.client;
  taken = p.taken ++ taken_by call p.client.channel;
  commands = p.commands ++ commands_in call p.client.channel;
}

abbrev pub past_of : List Call → Past → Past
past_of [] p = p
past_of (call ∷ calls) p = past_of calls (remembered call p)

-- ---- what was taken is what its message says: an answer and progress bear the token of the command of their number

abbrev pub is_hello : List ℕ → List ℕ → Bool
is_hello service name = bytes_eq service locator && bytes_eq name hello

-- the event `Locator Hello`, or another one
abbrev pub IsHello : Result MessageValue MessageFault → Type 0
IsHello (Ok (event service name body)) = is_hello service name ≡ true
IsHello _ = ⊥

abbrev pub IsOtherEvent : Result MessageValue MessageFault → Type 0
IsOtherEvent (Ok (event service name body)) = is_hello service name ≡ false
IsOtherEvent _ = ⊥

abbrev pub IsCommand : Result MessageValue MessageFault → Type 0
IsCommand (Ok (command token service name body)) = Unit {0}
IsCommand _ = ⊥

abbrev pub IsProgressOf : ℕ → Result MessageValue MessageFault → Type 0
IsProgressOf number (Ok (progress token body)) = token ≡ decimal number
IsProgressOf number _ = ⊥

abbrev pub IsAnswerTo : ℕ → Result MessageValue MessageFault → Type 0
IsAnswerTo number (Ok (final token body)) = token ≡ decimal number
IsAnswerTo number (Ok (not_known token)) = token ≡ decimal number
IsAnswerTo number _ = ⊥

abbrev pub FitsMessage : Taken ℕ → Type 0
FitsMessage (taken.Hello incoming) = IsHello (reading incoming.raw)
FitsMessage (taken.Event incoming) = IsOtherEvent (reading incoming.raw)
FitsMessage (taken.Command incoming) = IsCommand (reading incoming.raw)
FitsMessage (taken.Progress number incoming) = IsProgressOf number (reading incoming.raw)
FitsMessage (taken.Final number incoming) = IsAnswerTo number (reading incoming.raw)
FitsMessage (taken.Closed cause) = Unit {0}

-- ---- the lines of what was taken

-- the line of a message that was taken; a command of the other side has none
abbrev pub line_of : Taken ℕ → Option LogLine
line_of (taken.Hello incoming) = hello_line incoming.mark (reading incoming.raw)
line_of (taken.Event incoming) = event_line incoming.mark (reading incoming.raw)
line_of (taken.Command incoming) = None
line_of (taken.Progress number incoming) = progress_line number incoming.mark (reading incoming.raw)
line_of (taken.Final number incoming) = final_line number incoming.mark (reading incoming.raw)
line_of (taken.Closed cause) = None

-- a line that tells of a message
abbrev pub tells : LogLine → Bool
tells line = is_some (mark_of line)

-- the log of a client tells its past
pub record TellsPast (c : ClientValue) (p : Past) : Type 0 where
  pub same : p.client ≡ c
  pub messages : filter tells c.log ≡ filter_map line_of p.taken  -- the messages that were taken, in order, with their marks
  pub fitting : AllByRecursion FitsMessage p.taken
  pub commands : accepted c.log ≡ p.commands  -- the `sent` lines
  pub counted : numbers p.commands ≡ range_with_len 1 (length p.commands)  -- 1, 2, 3 and so on

-- Whatever the calls, and whatever bytes came: the log tells what was taken and what was accepted, in order.
abbrev pub LogTellsPast : Type 0
LogTellsPast = (calls : List Call) → TellsPast (run calls new_client) (past_of calls no_past)
