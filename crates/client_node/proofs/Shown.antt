-- The lines that ask the cache show what is kept of the messages before them.
use Rattle.std.proofs.Common.{ℕ, ◌+◌, Bool, true, false, List, [], ◌∷◌, ◌++◌, length, map, Option, Some, None, Result, Ok, refl, subst}
use Rattle.std.specs.Prelude.{if◌then◌else◌}
use Rattle.std.proofs.lemmas.List.{append_assoc}
use Rattle.tcf_message.specs.Message.{MessageValue, event, final, not_known, progress, reading}
use Rattle.tcf_message.specs.declared.message.MessageFault.{MessageFault}
use Rattle.tcf_text.specs.Each.{Each}
use Rattle.tcf_text.specs.declared.log.EndWhy.{EndWhy}
use Rattle.tcf_text.specs.declared.log.LogLine.{LogLine}
use Rattle.tcf_text.specs.declared.log.LogLine.TheVariants as lines
use Rattle.tcf_text.specs.declared.log.RefusedWhy.{RefusedWhy}
use Rattle.tcf_text.specs.declared.log.RefusedWhy.TheVariants.{NotOpen}
use Rattle.channel_core.specs.Closing.{closed_own, is_closed}
use Rattle.channel_core.specs.EndValue.{EndValue}
use Rattle.channel_core.specs.Sending.{refusal_of}
use Rattle.channel_core.specs.Taking.{next_taken}
use Rattle.channel_core.specs.declared.sending.SendRefusal.{SendRefusal}
use Rattle.channel_core.specs.declared.states.Cause.{Cause}
use Rattle.channel_core.specs.declared.states.Cause.TheVariants.{Own}
use Rattle.channel_core.specs.declared.taking.Taken.{Taken}
use Rattle.channel_core.specs.declared.taking.Taken.TheVariants as taken
use Rattle.client_log.specs.Cached.{cached_value}
use Rattle.client_log.specs.Lessons.{lessons}
use Rattle.client_log.specs.Shown.{ShowsKept}
use Rattle.client_node.specs.Client.{closed_for, new_client, noted, refused_for, sent_by, sent_or_refused, took, turned_by, turned_on}
use Rattle.client_node.specs.ClientValue.{ClientValue}
use Rattle.client_node.specs.Lines.{end_of, event_line, final_line, hello_line, progress_line, why_of}
use Rattle.client_node.specs.Runs.{Call, ShownAfterAnyCalls, asks, bytes_end, called, closes, comes, gives, opened_from, opens, run, sends, turns}
use Rattle.client_node.proofs.Lists.{each_nothing, each_push}

-- each line that asks the cache shows what is kept then
abbrev Shows : List LogLine → Type 0
Shows log = Each ShowsKept log

pushed : (log : List LogLine) (x : LogLine) → Shows log → ShowsKept log x → Shows (log ++ x ∷ [])
pushed log x old here = each_push ShowsKept log x old here

by_flag : (flag : Bool) (one other : ClientValue) → Shows one.log → Shows other.log → Shows (if flag then one else other).log
by_flag true one other first second = first
by_flag false one other first second = second

-- ---- opening and sending

opens_shown : (channel : Option (EndValue ℕ)) (c : ClientValue) → Shows c.log → Shows (opened_from channel c).log
opens_shown None c old = old
opens_shown (Some e) c old = old

refused_shown : (why : Option RefusedWhy) (c : ClientValue) → Shows c.log → Shows (refused_for why c).log
refused_shown None c old = old
refused_shown (Some why) c old = pushed c.log (lines.Refused why) old tt

sent_shown : (refusal : Option SendRefusal) (e : EndValue ℕ) (service name body : List ℕ) (c : ClientValue) → Shows c.log
    → Shows (sent_or_refused refusal e service name body c).log
sent_shown None e service name body c old = pushed c.log (lines.Sent (e.last + 1) service name body) old tt
sent_shown (Some why) e service name body c old = refused_shown (why_of why) c old

sends_shown : (channel : Option (EndValue ℕ)) (service name body : List ℕ) (c : ClientValue) → Shows c.log → Shows (sent_by channel service name body c).log
sends_shown None service name body c old = refused_shown (Some NotOpen) c old
sends_shown (Some e) service name body c old = sent_shown (refusal_of (length service + length name + length body) e) e service name body c old

-- ---- closing

closing_shown : (rows : List (ℕ × ℕ)) (log : List LogLine) (why : EndWhy) → Shows log
    → Shows (log ++ (map (λ (row : ℕ × ℕ). lines.Closed row.1) rows ++ lines.Ended why ∷ []))
closing_shown [] log why old = pushed log (lines.Ended why) old tt
closing_shown (row ∷ rows) log why old =
    let x : LogLine = lines.Closed row.1 in
    let rest : List LogLine = map (λ (r : ℕ × ℕ). lines.Closed r.1) rows ++ lines.Ended why ∷ [] in
    subst Shows (append_assoc log (x ∷ []) rest) (closing_shown rows (log ++ x ∷ []) why (pushed log x old tt))

closed_shown : (cause : Cause) (e : EndValue ℕ) (c : ClientValue) → Shows c.log → Shows (closed_for cause e c).log
closed_shown cause e c old = closing_shown e.pending c.log (end_of cause) old

closes_shown : (channel : Option (EndValue ℕ)) (log : List LogLine) (spent : Bool) → Shows log
    → Shows (called closes (record { channel = channel; log = log; is_spent = spent })).log
closes_shown None log spent old = old
closes_shown (Some e) log spent old =
    let c : ClientValue = record { channel = Some e; log = log; is_spent = spent } in
    by_flag (is_closed e.state) c (closed_for Own (closed_own e) c) old (closed_shown Own (closed_own e) c old)

-- ---- a turn

-- a line that doesn't ask the cache
abbrev IsUnasked : Option LogLine → Type 0
IsUnasked None = Unit {0}
IsUnasked (Some x) = (before : List LogLine) → ShowsKept before x

noted_shown : (line : Option LogLine) (c : ClientValue) → IsUnasked line → Shows c.log → Shows (noted line c).log
noted_shown None c unasked old = old
noted_shown (Some x) c unasked old = pushed c.log x old (unasked c.log)

hello_unasked : (mark : Option ℕ) (m : Result MessageValue MessageFault) → IsUnasked (hello_line mark m)
hello_unasked mark (Ok (event service name body)) = λ before. tt
hello_unasked mark m = tt

event_unasked : (mark : Option ℕ) (m : Result MessageValue MessageFault) → IsUnasked (event_line mark m)
event_unasked mark (Ok (event service name body)) = λ before. tt
event_unasked mark m = tt

progress_unasked : (number : ℕ) (mark : Option ℕ) (m : Result MessageValue MessageFault) → IsUnasked (progress_line number mark m)
progress_unasked number mark (Ok (progress token body)) = λ before. tt
progress_unasked number mark m = tt

final_unasked : (number : ℕ) (mark : Option ℕ) (m : Result MessageValue MessageFault) → IsUnasked (final_line number mark m)
final_unasked number mark (Ok (final token body)) = λ before. tt
final_unasked number mark (Ok (not_known token)) = λ before. tt
final_unasked number mark m = tt

took_shown : (what : Taken ℕ) (e : EndValue ℕ) (c : ClientValue) → Shows c.log → Shows (took what e c).log
took_shown (taken.Hello incoming) e c old =
    noted_shown _ (record c { channel = Some e }) (hello_unasked incoming.mark (reading incoming.raw)) old
took_shown (taken.Event incoming) e c old =
    noted_shown _ (record c { channel = Some e }) (event_unasked incoming.mark (reading incoming.raw)) old
took_shown (taken.Command incoming) e c old = old
took_shown (taken.Progress number incoming) e c old =
    noted_shown _ (record c { channel = Some e }) (progress_unasked number incoming.mark (reading incoming.raw)) old
took_shown (taken.Final number incoming) e c old =
    noted_shown _ (record c { channel = Some e }) (final_unasked number incoming.mark (reading incoming.raw)) old
took_shown (taken.Closed cause) e c old = closed_shown cause e c old

turned_shown : (what : Option (Taken ℕ)) (e : EndValue ℕ) (c : ClientValue) → Shows c.log → Shows (turned_by (what, e) c).1.log
turned_shown None e c old = old
turned_shown (Some what) e c old = took_shown what e c old

turns_shown : (channel : Option (EndValue ℕ)) (c : ClientValue) → Shows c.log → Shows (turned_on channel c).1.log
turns_shown None c old = old
turns_shown (Some e) c old = turned_shown (next_taken e).0 (next_taken e).1 c old

-- ---- any calls

call_shown : (call : Call) (c : ClientValue) → Shows c.log → Shows (called call c).log
call_shown opens c old = opens_shown c.channel c old
call_shown (sends service name body) c old = sends_shown c.channel service name body c old
call_shown (comes piece mark) c old = old
call_shown bytes_end c old = old
call_shown turns c old = turns_shown c.channel c old
call_shown closes c old = closes_shown c.channel c.log c.is_spent old
call_shown gives c old = old
call_shown (asks what) c old = pushed c.log (lines.Cached what (cached_value what (lessons c.log))) old refl

run_shown : (calls : List Call) (c : ClientValue) → Shows c.log → Shows (run calls c).log
run_shown [] c old = old
run_shown (call ∷ calls) c old = run_shown calls (called call c) (call_shown call c old)

pub shown_after : ShownAfterAnyCalls
shown_after calls = run_shown calls new_client (each_nothing ShowsKept)
