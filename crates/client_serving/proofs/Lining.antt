-- The lines of a script leave the channel open, or close it for the client's own closing, and then none is left.
use Rattle.std.proofs.Common.{◌≡◌, ℕ, ◌+◌, Bool, true, false, List, [], ◌∷◌, length, Option, Some, None, refl, ap}
use Rattle.std.specs.Prelude.{if◌then◌else◌}
use Rattle.channel_core.specs.EndValue.{EndValue}
use Rattle.channel_core.specs.Sending.{refusal_of}
use Rattle.channel_core.specs.declared.sending.SendRefusal.{SendRefusal}
use Rattle.channel_core.specs.declared.states.Cause.{Cause}
use Rattle.channel_core.specs.declared.states.Cause.TheVariants.{Own}
use Rattle.client_node.specs.Client.{closed_on, pending_on, refused_for, sent_by, sent_or_refused}
use Rattle.client_node.specs.ClientValue.{ClientValue}
use Rattle.client_node.specs.Lines.{why_of}
use Rattle.tcf_text.specs.declared.log.RefusedWhy.{RefusedWhy}
use Rattle.tcf_schedules.specs.declared.script.ScriptLine.{ScriptLine}
use Rattle.tcf_schedules.specs.declared.script.ScriptLine.TheVariants.{Send, Wait, Cached, Close}
use Rattle.client_serving.specs.Lines.{did, did_lines, is_held}
use Rattle.client_serving.proofs.Standing.{IsOpenEnd, IsShut, closed_then, commanded_open, refused_then}

abbrev pub IsOpenOn : Option (EndValue ℕ) → Type 0
IsOpenOn None = ⊥
IsOpenOn (Some e) = IsOpenEnd e

abbrev pub IsShutOn : Cause → Option (EndValue ℕ) → Type 0
IsShutOn cause None = ⊥
IsShutOn cause (Some e) = IsShut cause e

pub data AfterLine (channel : Option (EndValue ℕ)) : Type 0 where
  stays : IsOpenOn channel → AfterLine channel
  closes : IsShutOn Own channel → AfterLine channel

pub data AfterLines (channel : Option (EndValue ℕ)) (left : List ScriptLine) : Type 0 where
  goes_on : IsOpenOn channel → AfterLines channel left
  is_over : IsShutOn Own channel → left ≡ [] → AfterLines channel left

-- the client with this channel
abbrev on : Option (EndValue ℕ) → ClientValue → ClientValue
on channel c = record c { channel = channel }

-- ---- a command

refused_keeps : (P : Option (EndValue ℕ) → Type 0) (why : Option RefusedWhy) (c : ClientValue) → P c.channel → P (refused_for why c).channel
refused_keeps P None c old = old
refused_keeps P (Some why) c old = old

by_refusal : (refusal : Option SendRefusal) (e : EndValue ℕ) (c : ClientValue) (service name body : List ℕ) → IsOpenEnd e
    → IsOpenOn (sent_or_refused refusal e service name body (on (Some e) c)).channel
by_refusal None e c service name body old = commanded_open service name body (e.last + 1) None e old
by_refusal (Some why) e c service name body old = refused_keeps IsOpenOn (why_of why) (on (Some e) c) old

sent_open : (channel : Option (EndValue ℕ)) (c : ClientValue) (service name body : List ℕ) → IsOpenOn channel → IsOpenOn (sent_by channel service name body (on channel c)).channel
sent_open None c service name body old = absurd old
sent_open (Some e) c service name body old = by_refusal (refusal_of (length service + length name + length body) e) e c service name body old

sent_shut : (cause : Cause) (channel : Option (EndValue ℕ)) (c : ClientValue) (service name body : List ℕ) → IsShutOn cause channel → IsShutOn cause (sent_by channel service name body (on channel c)).channel
sent_shut cause None c service name body old = absurd old
sent_shut cause (Some e) c service name body old = rw (refused_then cause (length service + length name + length body) e old) old

-- ---- closing

pub closed_open : (channel : Option (EndValue ℕ)) (c : ClientValue) → IsOpenOn channel → IsShutOn Own (closed_on channel (on channel c)).channel
closed_open None c old = absurd old
closed_open (Some e) c old = rw old.staying (record { closed = refl; pending = refl })

pub closed_shut : (cause : Cause) (channel : Option (EndValue ℕ)) (c : ClientValue) → IsShutOn cause channel → IsShutOn cause (closed_on channel (on channel c)).channel
closed_shut cause None c old = absurd old
closed_shut cause (Some e) c old = rw (closed_then cause e old) old

-- ---- a line

line_open : (line : ScriptLine) (c : ClientValue) → IsOpenOn c.channel → AfterLine (did line c).channel
line_open (Send service name body) c old = stays (sent_open c.channel c service name body old)
line_open Wait c old = stays old
line_open (Cached what) c old = stays old
line_open Close c old = closes (closed_open c.channel c old)

line_shut : (line : ScriptLine) (c : ClientValue) → IsShutOn Own c.channel → IsShutOn Own (did line c).channel
line_shut (Send service name body) c old = sent_shut Own c.channel c service name body old
line_shut Wait c old = old
line_shut (Cached what) c old = old
line_shut Close c old = closed_shut Own c.channel c old

-- ---- lines, of which a closed channel holds none

pub none_pending : (cause : Cause) (channel : Option (EndValue ℕ)) → IsShutOn cause channel → pending_on channel ≡ 0
none_pending cause None old = absurd old
none_pending cause (Some e) old = ap length old.pending

never_held : (line : ScriptLine) (pending : ℕ) → pending ≡ 0 → is_held line pending ≡ false
never_held (Send service name body) pending none = refl
never_held Wait pending none = rw none refl
never_held (Cached what) pending none = refl
never_held Close pending none = refl

unless_held : (P : ClientValue × List ScriptLine → Type 0) (flag : Bool) (stops goes : ClientValue × List ScriptLine) → flag ≡ false → P goes → P (if flag then stops else goes)
unless_held P true stops goes off old = cc
unless_held P false stops goes off old = old

abbrev AllDone : ClientValue × List ScriptLine → Type 0
AllDone result = IsShutOn Own result.0.channel × (result.1 ≡ [])

lines_shut : (script : List ScriptLine) (c : ClientValue) → IsShutOn Own c.channel → AllDone (did_lines script c)
lines_shut [] c old = (old, refl)
lines_shut (line ∷ later) c old =
    unless_held AllDone (is_held line (pending_on c.channel)) (c, line ∷ later) (did_lines later (did line c))
    (never_held line (pending_on c.channel) (none_pending Own c.channel old)) (lines_shut later (did line c) (line_shut line c old))

abbrev Done : ClientValue × List ScriptLine → Type 0
Done result = AfterLines result.0.channel result.1

by_held : (flag : Bool) (stops goes : ClientValue × List ScriptLine) → Done stops → Done goes → Done (if flag then stops else goes)
by_held true stops goes first second = first
by_held false stops goes first second = second

behind : (later : List ScriptLine) (c : ClientValue) → (IsOpenOn c.channel → Done (did_lines later c)) → AfterLine c.channel → Done (did_lines later c)
behind later c rest (stays p) = rest p
behind later c rest (closes p) = let all = lines_shut later c p in is_over all.0 all.1

pub lines_open : (script : List ScriptLine) (c : ClientValue) → IsOpenOn c.channel → AfterLines (did_lines script c).0.channel (did_lines script c).1
lines_open [] c old = goes_on old
lines_open (line ∷ later) c old =
    by_held (is_held line (pending_on c.channel)) (c, line ∷ later) (did_lines later (did line c)) (goes_on old)
    (behind later (did line c) (lines_open later (did line c)) (line_open line c old))
