-- What an end queues of its own, and how it closes, after every list of calls.
use Rattle.std.specs.Prelude.{ℕ, ◌≡◌, Bool, true, false, not, ◌||◌, if◌then◌else◌, List, [], ◌∷◌, ◌++◌, filter, Option, None}
use Rattle.std.specs.List.{list_any}
use Rattle.tcf_message.specs.Message.{event}
use Rattle.channel_core.specs.Beginning.{new_end}
use Rattle.channel_core.specs.Closing.{is_closed}
use Rattle.channel_core.specs.EndValue.{EndValue}
use Rattle.channel_core.specs.Runs.{Call, delivering, ending, taking, commanding, sending, putting_out, closing, draining, Run, after_calls, begun, called, message_of}
use Rattle.channel_core.specs.RunLaws.{is_command, is_end, is_flow}
use Rattle.channel_core.specs.Taking.{closes, next_taken}
use Rattle.channel_core.specs.Wire.{hello as hello_word, locator, said}
use Rattle.channel_core.specs.declared.held.Outgoing.{Outgoing}

-- ---- what its node sends, commands aside

-- what a call sends: a closed end sends nothing
abbrev pub sent_by : {T : Type 0} → Call T → EndValue T → List Outgoing
sent_by (sending message mark) e = if is_closed e.state then [] else said (message_of message) mark ∷ []
sent_by _ e = []

abbrev pub sent_in : {T : Type 0} → List (Call T) → EndValue T → List Outgoing
sent_in [] e = []
sent_in (call ∷ calls) e = sent_by call e ++ sent_in calls (called call e)

-- ---- what is queued

-- flow control and the end of the stream aside
abbrev pub is_message : Outgoing → Bool
is_message o = not (is_flow o || is_end o)

-- and commands aside
abbrev pub is_plain : Outgoing → Bool
is_plain o = not (is_flow o || (is_end o || is_command o))

-- flow control, the end of the stream and commands aside, an end's Hello and what is sent are queued, in order, and
-- nothing else is
abbrev pub QueuesWhatIsSent : Type 0 → Type 0
QueuesWhatIsSent T = (hello : List ℕ) (mark : Option ℕ) (calls : List (Call T)) →
    filter is_plain (after_calls calls (begun (new_end hello mark))).past.queued
    ≡ said (event locator hello_word hello) mark ∷ sent_in calls (new_end hello mark)

abbrev pub is_commanding : {T : Type 0} → Call T → Bool
is_commanding (commanding service name body tag mark) = true
is_commanding _ = false

-- where no command is sent, none is queued
abbrev pub QueuesNoCommand : Type 0 → Type 0
QueuesNoCommand T = (hello : List ℕ) (mark : Option ℕ) (calls : List (Call T)) → list_any is_commanding calls ≡ false →
    filter is_command (after_calls calls (begun (new_end hello mark))).past.queued ≡ []

-- so the messages that are queued are the Hello and what is sent
abbrev pub QueuesItsMessages : Type 0 → Type 0
QueuesItsMessages T = (hello : List ℕ) (mark : Option ℕ) (calls : List (Call T)) → list_any is_commanding calls ≡ false →
    filter is_message (after_calls calls (begun (new_end hello mark))).past.queued
    ≡ said (event locator hello_word hello) mark ∷ sent_in calls (new_end hello mark)

-- ---- closing

-- a closed end takes nothing, and stays as it is
abbrev pub TakesNothingClosed : {T : Type 0} → Run T → Type 0
TakesNothingClosed r = is_closed r.end.state ≡ true → next_taken r.end ≡ (None, r.end)

abbrev pub may_close : {T : Type 0} → Call T → Bool
may_close (delivering piece mark) = false
may_close ending = false
may_close taking = true
may_close (commanding service name body tag mark) = false
may_close (sending message mark) = false
may_close putting_out = false
may_close closing = true
may_close draining = false

-- an open end closes with a last entry that is taken, or by its own side, and by nothing else; a closed one stays closed
pub record ClosesOnlySo {T : Type 0} (r : Run T) : Type 0 where
  pub by_taking : is_closed r.end.state ≡ false → is_closed (next_taken r.end).1.state ≡ closes (next_taken r.end).0
  pub by_own : is_closed (called closing r.end).state ≡ true
  pub by_others : (call : Call T) → may_close call ≡ false → is_closed (called call r.end).state ≡ is_closed r.end.state
