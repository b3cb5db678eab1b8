-- Each call of a client keeps what holds of it.
use Rattle.std.proofs.Common.{◌≡◌, ℕ, ◌+◌, Bool, false, List, [], ◌∷◌, ◌++◌, length, Option, Some, None, Result, Ok, refl, ap, sym, subst}
use Rattle.std.specs.List.{last_or}
use Rattle.cached_lines.specs.declared.what.CachedWhat.{CachedWhat}
use Rattle.tcf_message.specs.Message.{MessageValue, command, event, final, not_known, progress, reading}
use Rattle.tcf_message.specs.declared.message.MessageFault.{MessageFault}
use Rattle.tcf_text.specs.Lines.{accepted_by, final_of}
use Rattle.tcf_text.specs.Once.{AnswersPending, CanStandAfterEnd, IsNoClosed, IsPending, Once, is_end}
use Rattle.tcf_text.specs.declared.log.LogLine.{LogLine}
use Rattle.tcf_text.specs.declared.log.LogLine.TheVariants as lines
use Rattle.tcf_text.specs.declared.log.RefusedWhy.{RefusedWhy}
use Rattle.tcf_text.specs.declared.log.RefusedWhy.TheVariants as refused
use Rattle.channel_core.specs.EndValue.{EndValue}
use Rattle.channel_core.specs.Sending.{refusal_of}
use Rattle.channel_core.specs.Taking.{next_taken}
use Rattle.channel_core.specs.declared.sending.SendRefusal.{SendRefusal}
use Rattle.channel_core.specs.declared.states.Cause.{Cause}
use Rattle.channel_core.specs.declared.states.Cause.TheVariants.{Own}
use Rattle.channel_core.specs.declared.taking.Taken.{Taken}
use Rattle.channel_core.specs.declared.taking.Taken.TheVariants as taken
use Rattle.client_log.specs.Cached.{cached_value}
use Rattle.client_log.specs.Lessons.{lessons}
use Rattle.client_node.specs.Client.{closed_for, closed_lines, new_client, not_recognised, noted, refused_for, sent_or_refused, took, turned_by, with_line}
use Rattle.client_node.specs.ClientValue.{ClientValue}
use Rattle.client_node.specs.Lines.{end_of, event_line, final_line, hello_line, progress_line, why_of}
use Rattle.client_node.specs.Runs.{Call, FitsMessage, IsAnswerTo, OnceAfterAnyCalls, asks, bytes_end, called, closes, comes, gives, opens, run, sends, turns}
use Rattle.client_node.proofs.Ends.{IsEnded, IsOpen, commanded_open, delivered_ended, delivered_open, ended_ended, ended_open, given_ended, given_open, nothing_taken, queued_open, refused_then}
use Rattle.client_node.proofs.Pending.{is_there, rises_without}
use Rattle.client_node.proofs.Standing.{IsAnswer, IsPlain, Over, Standing, answered_push, behind_all, closing, in_order, once_of, over_push, plain_push, sent_push, standing_at_first}
use Rattle.client_node.proofs.Taken.{Closes, Finishes, Leaves, Outcome, next_gives}
use Rattle.list_laws.proofs.Lists.{last_push}

-- ---- what holds of a client

-- no `closed` line is the last, since its channel hasn't ended
pub record GoesOnWith (last : ℕ) (rows : List (ℕ × ℕ)) (log : List LogLine) : Type 0 where
  pub standing : Standing 0 last rows log
  pub unclosed : IsNoClosed (last_or None log)

pub data StandsWith (e : EndValue ℕ) (log : List LogLine) : Type 0 where
  under_way : (last : ℕ) (rows : List (ℕ × ℕ)) → IsOpen last rows e → GoesOnWith last rows log → StandsWith e log
  over : IsEnded e → Over log → StandsWith e log

abbrev pub Stands : Option (EndValue ℕ) → List LogLine → Type 0
Stands None log = GoesOnWith 0 [] log
Stands (Some e) log = StandsWith e log

abbrev pub Holds : ClientValue → Type 0
Holds c = Stands c.channel c.log

abbrev pub client : Option (EndValue ℕ) → List LogLine → Bool → ClientValue
client channel log spent = record { channel = channel; log = log; is_spent = spent }

-- ---- one more line

more : (last : ℕ) (rows : List (ℕ × ℕ)) (log : List LogLine) (x : LogLine) → GoesOnWith last rows log → IsPlain log x → IsNoClosed (Some x) → GoesOnWith last rows (log ++ x ∷ [])
more last rows log x old plain unclosed =
    record { standing = plain_push 0 last rows log x old.standing plain (in_order log x old.unclosed); unclosed = rw (last_push None log x) unclosed }

-- a line that answers nothing
quiet : (log : List LogLine) (x : LogLine) → accepted_by x ≡ [] → final_of x ≡ [] → is_end x ≡ false → AnswersPending log x → IsPlain log x
quiet log x accepts finishes ends answers = record { accepts = accepts; finishes = finishes; ends = ends; answers = answers }

refused_line : (log : List LogLine) (why : RefusedWhy) → IsPlain log (lines.Refused why)
refused_line log why = quiet log (lines.Refused why) refl refl refl tt

cached_line : (log : List LogLine) (what : CachedWhat) (value : Option (List ℕ)) → IsPlain log (lines.Cached what value)
cached_line log what value = quiet log (lines.Cached what value) refl refl refl tt

refused_more : (last : ℕ) (rows : List (ℕ × ℕ)) (log : List LogLine) (why : RefusedWhy) → GoesOnWith last rows log → GoesOnWith last rows (log ++ lines.Refused why ∷ [])
refused_more last rows log why old = more last rows log (lines.Refused why) old (refused_line log why) tt

-- ---- opening and sending

opens_kept : (channel : Option (EndValue ℕ)) (log : List LogLine) (spent : Bool) → Stands channel log → Holds (called opens (client channel log spent))
opens_kept None log spent old = under_way 0 [] (record { pending = refl; last_is = refl; staying = refl; readable = tt }) old
opens_kept (Some e) log spent old = old

refused_kept : (last : ℕ) (rows : List (ℕ × ℕ)) (e : EndValue ℕ) (log : List LogLine) (spent : Bool) (why : Option RefusedWhy) → IsOpen last rows e → GoesOnWith last rows log
    → Holds (refused_for why (client (Some e) log spent))
refused_kept last rows e log spent None open_end old = under_way last rows open_end old
refused_kept last rows e log spent (Some why) open_end old = under_way last rows open_end (refused_more last rows log why old)

sent_kept : (last : ℕ) (rows : List (ℕ × ℕ)) (e : EndValue ℕ) (log : List LogLine) (spent : Bool) (service name body : List ℕ) (refusal : Option SendRefusal)
    → IsOpen last rows e → GoesOnWith last rows log → Holds (sent_or_refused refusal e service name body (client (Some e) log spent))
sent_kept last rows e log spent service name body (Some why) open_end old = refused_kept last rows e log spent (why_of why) open_end old
sent_kept last rows e log spent service name body None open_end old =
    under_way (last + 1) (rows ++ (last + 1, last + 1) ∷ []) (commanded_open last rows service name body e open_end)
    (subst (λ (n : ℕ). GoesOnWith (last + 1) (rows ++ (last + 1, last + 1) ∷ []) (log ++ lines.Sent n service name body ∷ [])) (sym (ap (λ n. n + 1) open_end.last_is))
    (record {
      standing = sent_push 0 last rows log service name body old.standing old.unclosed;
      unclosed = rw (last_push None log (lines.Sent (last + 1) service name body)) tt;
    }))

sends_kept : (channel : Option (EndValue ℕ)) (log : List LogLine) (spent : Bool) (service name body : List ℕ) → Stands channel log
    → Holds (called (sends service name body) (client channel log spent))
sends_kept None log spent service name body old = refused_more 0 [] log refused.NotOpen old
sends_kept (Some e) log spent service name body (under_way last rows open_end old) =
    sent_kept last rows e log spent service name body (refusal_of (length service + length name + length body) e) open_end old
sends_kept (Some e) log spent service name body (over ended old) =
    rw (refused_then (length service + length name + length body) e ended)
    (over ended (over_push log (lines.Refused refused.NotOpen) old (refused_line log refused.NotOpen) refl tt))

-- ---- asking the cache

noted_kept : (channel : Option (EndValue ℕ)) (log : List LogLine) (spent : Bool) (x : LogLine) → IsPlain log x → CanStandAfterEnd x → IsNoClosed (Some x) → Stands channel log
    → Holds (with_line x (client channel log spent))
noted_kept None log spent x plain after unclosed old = more 0 [] log x old plain unclosed
noted_kept (Some e) log spent x plain after unclosed (under_way last rows open_end old) = under_way last rows open_end (more last rows log x old plain unclosed)
noted_kept (Some e) log spent x plain after unclosed (over ended old) = over ended (over_push log x old plain after unclosed)

asks_kept : (channel : Option (EndValue ℕ)) (log : List LogLine) (spent : Bool) (what : CachedWhat) → Stands channel log → Holds (called (asks what) (client channel log spent))
asks_kept channel log spent what old =
    let value = cached_value what (lessons log) in
    noted_kept channel log spent (lines.Cached what value) (cached_line log what value) tt tt old

-- ---- what comes, and what goes out

comes_kept : (channel : Option (EndValue ℕ)) (log : List LogLine) (spent : Bool) (piece : List ℕ) (mark : Option ℕ) → Stands channel log
    → Holds (called (comes piece mark) (client channel log spent))
comes_kept None log spent piece mark old = old
comes_kept (Some e) log spent piece mark (under_way last rows open_end old) = under_way last rows (delivered_open last rows piece mark e open_end) old
comes_kept (Some e) log spent piece mark (over ended old) = over (delivered_ended piece mark e ended) old

bytes_end_kept : (channel : Option (EndValue ℕ)) (log : List LogLine) (spent : Bool) → Stands channel log → Holds (called bytes_end (client channel log spent))
bytes_end_kept None log spent old = old
bytes_end_kept (Some e) log spent (under_way last rows open_end old) = under_way last rows (ended_open last rows e open_end) old
bytes_end_kept (Some e) log spent (over ended old) = over (ended_ended e ended) old

gives_kept : (channel : Option (EndValue ℕ)) (log : List LogLine) (spent : Bool) → Stands channel log → Holds (called gives (client channel log spent))
gives_kept None log spent old = old
gives_kept (Some e) log spent (under_way last rows open_end old) = under_way last rows (given_open last rows e open_end) old
gives_kept (Some e) log spent (over ended old) = over (given_ended e ended) old

-- ---- the channel closes

closed_kept : (last : ℕ) (rows : List (ℕ × ℕ)) (e : EndValue ℕ) (channel : Option (EndValue ℕ)) (log : List LogLine) (spent : Bool) (cause : Cause)
    → Closes rows e → GoesOnWith last rows log → Holds (closed_for cause e (client channel log spent))
closed_kept last rows e channel log spent cause closing_end old =
    over (record { closed = closing_end.ended.closed; inbox = closing_end.ended.inbox; stop = closing_end.ended.stop })
    (subst (λ (rs : List (ℕ × ℕ)). Over (log ++ closed_lines cause rs)) (sym closing_end.pending)
    (closing rows 0 last log (end_of cause) old.standing (behind_all 0 (last_or None log) old.unclosed)))

closes_kept : (channel : Option (EndValue ℕ)) (log : List LogLine) (spent : Bool) → Stands channel log → Holds (called closes (client channel log spent))
closes_kept None log spent old = old
closes_kept (Some e) log spent (under_way last rows open_end old) =
    rw open_end.staying (closed_kept last rows _ (Some e) log spent Own (record { ended = record { closed = refl; inbox = refl; stop = refl }; pending = open_end.pending }) old)
closes_kept (Some e) log spent (over ended old) = rw ended.closed (over ended old)

-- ---- a turn

hello_kept : (last : ℕ) (rows : List (ℕ × ℕ)) (e : EndValue ℕ) (log : List LogLine) (spent : Bool) (mark : Option ℕ) (m : Result MessageValue MessageFault)
    → IsOpen last rows e → GoesOnWith last rows log → Holds (noted (hello_line mark m) (client (Some e) log spent))
hello_kept last rows e log spent mark (Ok (event service name body)) open_end old =
    let x : LogLine = lines.Hello mark body in under_way last rows open_end (more last rows log x old (quiet log x refl refl refl tt) tt)
hello_kept last rows e log spent mark m open_end old = under_way last rows open_end old

event_kept : (last : ℕ) (rows : List (ℕ × ℕ)) (e : EndValue ℕ) (log : List LogLine) (spent : Bool) (mark : Option ℕ) (m : Result MessageValue MessageFault)
    → IsOpen last rows e → GoesOnWith last rows log → Holds (noted (event_line mark m) (client (Some e) log spent))
event_kept last rows e log spent mark (Ok (event service name body)) open_end old =
    let x : LogLine = lines.Event mark service name body in under_way last rows open_end (more last rows log x old (quiet log x refl refl refl tt) tt)
event_kept last rows e log spent mark m open_end old = under_way last rows open_end old

pub command_open : (last : ℕ) (rows : List (ℕ × ℕ)) (e : EndValue ℕ) (m : Result MessageValue MessageFault) → IsOpen last rows e → IsOpen last rows (not_recognised m e)
command_open last rows e (Ok (command token service name body)) open_end = queued_open last rows (not_known token) None e open_end
command_open last rows e m open_end = open_end

progress_kept : (last : ℕ) (rows : List (ℕ × ℕ)) (e : EndValue ℕ) (log : List LogLine) (spent : Bool) (number : ℕ) (mark : Option ℕ) (m : Result MessageValue MessageFault)
    → IsPending log number → IsOpen last rows e → GoesOnWith last rows log → Holds (noted (progress_line number mark m) (client (Some e) log spent))
progress_kept last rows e log spent number mark (Ok (progress token body)) pending open_end old =
    let x : LogLine = lines.Progress number mark body in under_way last rows open_end (more last rows log x old (quiet log x refl refl refl pending) tt)
progress_kept last rows e log spent number mark m pending open_end old = under_way last rows open_end old

-- the line of a final answer
answered_kept : (last : ℕ) (rows : List (ℕ × ℕ)) (number : ℕ) (e : EndValue ℕ) (log : List LogLine) (x : LogLine) → Finishes last rows number e → GoesOnWith last rows log
    → IsAnswer number x → IsNoClosed (Some x) → StandsWith e (log ++ x ∷ [])
answered_kept last rows number e log x done old answer unclosed =
    let standing : Standing 0 last (done.front ++ done.row ∷ done.back) log = subst (λ rs. Standing 0 last rs log) done.whole old.standing in
    let own : IsAnswer done.row.1 x = subst (λ (n : ℕ). IsAnswer n x) (sym done.number_is) answer in
    under_way last (done.front ++ done.back) done.left
    (record {
      standing = answered_push 0 0 last done.front done.back done.row log x standing own (in_order log x old.unclosed) (rises_without 0 last done.front done.back done.row standing.rises);
      unclosed = rw (last_push None log x) unclosed;
    })

final_kept : (last : ℕ) (rows : List (ℕ × ℕ)) (number : ℕ) (e : EndValue ℕ) (log : List LogLine) (spent : Bool) (mark : Option ℕ) (m : Result MessageValue MessageFault)
    → IsAnswerTo number m → Finishes last rows number e → GoesOnWith last rows log → Holds (noted (final_line number mark m) (client (Some e) log spent))
final_kept last rows number e log spent mark (Ok (final token body)) fits done old =
    let x : LogLine = lines.Final number mark body in
    answered_kept last rows number e log x done old (record { accepts = refl; finishes = refl; ends = refl; answers = λ before pending. pending }) tt
final_kept last rows number e log spent mark (Ok (not_known token)) fits done old =
    let x : LogLine = lines.Unknown number mark in
    answered_kept last rows number e log x done old (record { accepts = refl; finishes = refl; ends = refl; answers = λ before pending. pending }) tt
final_kept last rows number e log spent mark m fits done old = absurd fits

took_kept : (last : ℕ) (rows : List (ℕ × ℕ)) (what : Taken ℕ) (e : EndValue ℕ) (channel : Option (EndValue ℕ)) (log : List LogLine) (spent : Bool) → FitsMessage what → Leaves last rows what e
    → GoesOnWith last rows log → Holds (took what e (client channel log spent))
took_kept last rows (taken.Hello incoming) e channel log spent fits left old = hello_kept last rows e log spent incoming.mark (reading incoming.raw) left old
took_kept last rows (taken.Event incoming) e channel log spent fits left old = event_kept last rows e log spent incoming.mark (reading incoming.raw) left old
took_kept last rows (taken.Command incoming) e channel log spent fits left old =
    under_way last rows (command_open last rows e (reading incoming.raw) left) old
took_kept last rows (taken.Progress number incoming) e channel log spent fits left old =
    let standing : Standing 0 last (left.front ++ left.row ∷ left.back) log = subst (λ rs. Standing 0 last rs log) left.whole old.standing in
    let pending : IsPending log left.row.1 = standing.waits left.row.1 (is_there left.front left.back left.row) in
    progress_kept last rows e log spent number incoming.mark (reading incoming.raw) (subst (IsPending log) left.number_is pending) left.left old
took_kept last rows (taken.Final number incoming) e channel log spent fits left old =
    final_kept last rows number e log spent incoming.mark (reading incoming.raw) fits left old
took_kept last rows (taken.Closed cause) e channel log spent fits left old = closed_kept last rows e channel log spent cause left old

turned_kept : (last : ℕ) (rows : List (ℕ × ℕ)) (what : Option (Taken ℕ)) (before e : EndValue ℕ) (log : List LogLine) (spent : Bool) → IsOpen last rows before → Outcome last rows what e
    → GoesOnWith last rows log → Holds (turned_by (what, e) (client (Some before) log spent)).1
turned_kept last rows None before e log spent open_end out old = under_way last rows open_end old
turned_kept last rows (Some what) before e log spent open_end out old = took_kept last rows what e (Some before) log spent out.0 out.1 old

turns_kept : (channel : Option (EndValue ℕ)) (log : List LogLine) (spent : Bool) → Stands channel log → Holds (called turns (client channel log spent))
turns_kept None log spent old = old
turns_kept (Some e) log spent (under_way last rows open_end old) =
    turned_kept last rows (next_taken e).0 e (next_taken e).1 log spent open_end (next_gives last rows old.standing.rises e open_end) old
turns_kept (Some e) log spent (over ended old) =
    subst (λ (p : Option (Taken ℕ) × EndValue ℕ). Holds (turned_by p (client (Some e) log spent)).1) (sym (nothing_taken e ended)) (over ended old)

-- ---- any calls

pub call_kept : (call : Call) (c : ClientValue) → Holds c → Holds (called call c)
call_kept opens c old = opens_kept c.channel c.log c.is_spent old
call_kept (sends service name body) c old = sends_kept c.channel c.log c.is_spent service name body old
call_kept (comes piece mark) c old = comes_kept c.channel c.log c.is_spent piece mark old
call_kept bytes_end c old = bytes_end_kept c.channel c.log c.is_spent old
call_kept turns c old = turns_kept c.channel c.log c.is_spent old
call_kept closes c old = closes_kept c.channel c.log c.is_spent old
call_kept gives c old = gives_kept c.channel c.log c.is_spent old
call_kept (asks what) c old = asks_kept c.channel c.log c.is_spent what old

pub run_kept : (calls : List Call) (c : ClientValue) → Holds c → Holds (run calls c)
run_kept [] c old = old
run_kept (call ∷ calls) c old = run_kept calls (called call c) (call_kept call c old)

pub new_holds : Holds new_client
new_holds = record { standing = standing_at_first; unclosed = tt }

once_held : (channel : Option (EndValue ℕ)) (log : List LogLine) → Stands channel log → Once false log
once_held None log old = once_of 0 log old.standing.numbered old.standing.lawful old.unclosed
once_held (Some e) log (under_way last rows open_end old) = once_of last log old.standing.numbered old.standing.lawful old.unclosed
once_held (Some e) log (over ended old) = old.once

pub once_after : OnceAfterAnyCalls
once_after calls = let c = run calls new_client in once_held c.channel c.log (run_kept calls new_client new_holds)
