-- Each call of a client keeps that the log of a closed channel is finished.
use Rattle.std.proofs.Common.{◌≡◌, ℕ, ◌+◌, Bool, true, false, List, [], ◌∷◌, ◌++◌, length, Option, Some, None, refl, ap, sym, ◌∙◌, subst, inl, inr, ◌⊎◌}
use Rattle.std.specs.Prelude.{if◌then◌else◌}
use Rattle.std.specs.List.{Contains, list_any}
use Rattle.cached_lines.specs.declared.what.CachedWhat.{CachedWhat}
use Rattle.tcf_message.specs.Message.{reading}
use Rattle.tcf_text.specs.Lines.{finals}
use Rattle.tcf_text.specs.Once.{AllAnswered, is_end}
use Rattle.tcf_text.specs.declared.log.LogLine.{LogLine}
use Rattle.tcf_text.specs.declared.log.LogLine.TheVariants as lines
use Rattle.tcf_text.specs.declared.log.RefusedWhy.{RefusedWhy}
use Rattle.tcf_text.specs.declared.log.RefusedWhy.TheVariants as refused
use Rattle.channel_core.specs.Closing.{closed_own, is_closed}
use Rattle.channel_core.specs.EndValue.{EndValue}
use Rattle.channel_core.specs.Sending.{refusal_of}
use Rattle.channel_core.specs.Taking.{next_taken}
use Rattle.channel_core.specs.declared.sending.SendRefusal.{SendRefusal}
use Rattle.channel_core.specs.declared.states.Cause.{Cause}
use Rattle.channel_core.specs.declared.states.Cause.TheVariants.{Own}
use Rattle.channel_core.specs.declared.taking.Taken.{Taken}
use Rattle.channel_core.specs.declared.taking.Taken.TheVariants as taken
use Rattle.client_log.specs.Cached.{cached_value}
use Rattle.client_log.specs.Lessons.{lessons}
use Rattle.client_node.specs.Client.{closed_for, new_client, not_recognised, noted, pending_on, refused_for, sent_or_refused, took, turned_by}
use Rattle.client_node.specs.ClientValue.{ClientValue}
use Rattle.client_node.specs.Lines.{event_line, final_line, hello_line, progress_line, why_of}
use Rattle.client_node.specs.Runs.{Call, asks, bytes_end, called, closes, comes, gives, opens, run, sends, turns}
use Rattle.client_node.proofs.Calls.{Holds, Stands, call_kept, new_holds, over, under_way, client, command_open}
use Rattle.client_node.proofs.Ends.{IsOpen, commanded_open, delivered_open, ended_open, given_open, nothing_taken, refused_then}
use Rattle.client_node.proofs.Standing.{Standing}
use Rattle.client_node.proofs.Taken.{Leaves, Outcome, next_gives}
use Rattle.node_answers.specs.Lacking.{EndsWhereClosed, IsAnsweredWhereNonePends, is_closed_on}
use Rattle.node_answers.proofs.Clients.Finished.{Finished, finished_by, finished_push}
use Rattle.client_node.proofs.Following.{own_pending}
use Rattle.list_laws.proofs.Contained.{none_in}

-- ---- what holds of a client

abbrev pub FinishedWhereClosed : Option (EndValue ℕ) → List LogLine → Type 0
FinishedWhereClosed channel log = is_closed_on channel ≡ true → Finished log

abbrev pub Finishes : ClientValue → Type 0
Finishes c = FinishedWhereClosed c.channel c.log

-- an open end's log needn't be
still_open : (last : ℕ) (rows : List (ℕ × ℕ)) (e : EndValue ℕ) (log : List LogLine) → IsOpen last rows e → FinishedWhereClosed (Some e) log
still_open last rows e log open_end closed = let staying : is_closed e.state ≡ false = open_end.staying in cc

-- ---- opening and sending

opens_finishes : (channel : Option (EndValue ℕ)) (log : List LogLine) (spent : Bool) → FinishedWhereClosed channel log → Finishes (called opens (client channel log spent))
opens_finishes None log spent old = λ closed. cc
opens_finishes (Some e) log spent old = old

refused_finishes : (last : ℕ) (rows : List (ℕ × ℕ)) (e : EndValue ℕ) (log : List LogLine) (spent : Bool) (why : Option RefusedWhy) → IsOpen last rows e
    → Finishes (refused_for why (client (Some e) log spent))
refused_finishes last rows e log spent None open_end = still_open last rows e log open_end
refused_finishes last rows e log spent (Some why) open_end = still_open last rows e (log ++ lines.Refused why ∷ []) open_end

sent_finishes : (last : ℕ) (rows : List (ℕ × ℕ)) (e : EndValue ℕ) (log : List LogLine) (spent : Bool) (service name body : List ℕ) (refusal : Option SendRefusal)
    → IsOpen last rows e → Finishes (sent_or_refused refusal e service name body (client (Some e) log spent))
sent_finishes last rows e log spent service name body (Some why) open_end = refused_finishes last rows e log spent (why_of why) open_end
sent_finishes last rows e log spent service name body None open_end =
    still_open (last + 1) (rows ++ (last + 1, last + 1) ∷ []) _ _ (commanded_open last rows service name body e open_end)

sends_finishes : (channel : Option (EndValue ℕ)) (log : List LogLine) (spent : Bool) (service name body : List ℕ) → Stands channel log → FinishedWhereClosed channel log
    → Finishes (called (sends service name body) (client channel log spent))
sends_finishes None log spent service name body stands old = λ closed. cc
sends_finishes (Some e) log spent service name body (under_way last rows open_end going) old =
    sent_finishes last rows e log spent service name body (refusal_of (length service + length name + length body) e) open_end
sends_finishes (Some e) log spent service name body (over ended done) old =
    rw (refused_then (length service + length name + length body) e ended)
    (λ closed. finished_push log (lines.Refused refused.NotOpen) refl refl (old ended.closed))

-- ---- asking the cache

asks_finishes : (channel : Option (EndValue ℕ)) (log : List LogLine) (spent : Bool) (what : CachedWhat) → FinishedWhereClosed channel log
    → Finishes (called (asks what) (client channel log spent))
asks_finishes channel log spent what old closed = finished_push log (lines.Cached what (cached_value what (lessons log))) refl refl (old closed)

-- ---- what comes, and what goes out

comes_finishes : (channel : Option (EndValue ℕ)) (log : List LogLine) (spent : Bool) (piece : List ℕ) (mark : Option ℕ) → Stands channel log → FinishedWhereClosed channel log
    → Finishes (called (comes piece mark) (client channel log spent))
comes_finishes None log spent piece mark stands old = λ closed. cc
comes_finishes (Some e) log spent piece mark (under_way last rows open_end going) old = still_open last rows _ log (delivered_open last rows piece mark e open_end)
comes_finishes (Some e) log spent piece mark (over ended done) old = λ closed. old ended.closed

bytes_end_finishes : (channel : Option (EndValue ℕ)) (log : List LogLine) (spent : Bool) → Stands channel log → FinishedWhereClosed channel log
    → Finishes (called bytes_end (client channel log spent))
bytes_end_finishes None log spent stands old = λ closed. cc
bytes_end_finishes (Some e) log spent (under_way last rows open_end going) old = still_open last rows _ log (ended_open last rows e open_end)
bytes_end_finishes (Some e) log spent (over ended done) old = λ closed. old ended.closed

gives_finishes : (channel : Option (EndValue ℕ)) (log : List LogLine) (spent : Bool) → Stands channel log → FinishedWhereClosed channel log
    → Finishes (called gives (client channel log spent))
gives_finishes None log spent stands old = λ closed. cc
gives_finishes (Some e) log spent (under_way last rows open_end going) old = still_open last rows _ log (given_open last rows e open_end)
gives_finishes (Some e) log spent (over ended done) old = λ closed. old ended.closed

-- ---- the channel closes

closed_finishes : (last : ℕ) (rows : List (ℕ × ℕ)) (e : EndValue ℕ) (channel : Option (EndValue ℕ)) (log : List LogLine) (spent : Bool) (cause : Cause)
    → e.pending ≡ rows → Standing 0 last rows log → Finishes (closed_for cause e (client channel log spent))
closed_finishes last rows e channel log spent cause pending standing closed = finished_by 0 last rows e.pending log cause pending standing

finishes_by : (flag : Bool) (one other : ClientValue) → Finishes one → Finishes other → Finishes (if flag then one else other)
finishes_by true one other first second = first
finishes_by false one other first second = second

closes_finishes : (channel : Option (EndValue ℕ)) (log : List LogLine) (spent : Bool) → Stands channel log → FinishedWhereClosed channel log
    → Finishes (called closes (client channel log spent))
closes_finishes None log spent stands old = λ closed. cc
closes_finishes (Some e) log spent (under_way last rows open_end going) old =
    let pending : (closed_own e).pending ≡ rows = own_pending (is_closed e.state) e ∙ open_end.pending in
    let c = client (Some e) log spent in
    finishes_by (is_closed e.state) c (closed_for Own (closed_own e) c) old (closed_finishes last rows (closed_own e) (Some e) log spent Own pending going.standing)
closes_finishes (Some e) log spent (over ended done) old = rw ended.closed (λ closed. old ended.closed)

-- ---- a turn

noted_finishes : (last : ℕ) (rows : List (ℕ × ℕ)) (e : EndValue ℕ) (log : List LogLine) (spent : Bool) (line : Option LogLine) → IsOpen last rows e
    → Finishes (noted line (client (Some e) log spent))
noted_finishes last rows e log spent None open_end = still_open last rows e log open_end
noted_finishes last rows e log spent (Some x) open_end = still_open last rows e (log ++ x ∷ []) open_end

took_finishes : (last : ℕ) (rows : List (ℕ × ℕ)) (what : Taken ℕ) (e : EndValue ℕ) (channel : Option (EndValue ℕ)) (log : List LogLine) (spent : Bool) → Leaves last rows what e
    → Standing 0 last rows log → Finishes (took what e (client channel log spent))
took_finishes last rows (taken.Hello incoming) e channel log spent left standing = noted_finishes last rows e log spent (hello_line incoming.mark (reading incoming.raw)) left
took_finishes last rows (taken.Event incoming) e channel log spent left standing = noted_finishes last rows e log spent (event_line incoming.mark (reading incoming.raw)) left
took_finishes last rows (taken.Command incoming) e channel log spent left standing =
    still_open last rows (not_recognised (reading incoming.raw) e) log (command_open last rows e (reading incoming.raw) left)
took_finishes last rows (taken.Progress number incoming) e channel log spent left standing =
    noted_finishes last rows e log spent (progress_line number incoming.mark (reading incoming.raw)) left.left
took_finishes last rows (taken.Final number incoming) e channel log spent left standing =
    noted_finishes last (left.front ++ left.back) e log spent (final_line number incoming.mark (reading incoming.raw)) left.left
took_finishes last rows (taken.Closed cause) e channel log spent left standing = closed_finishes last rows e channel log spent cause left.pending standing

turned_finishes : (last : ℕ) (rows : List (ℕ × ℕ)) (what : Option (Taken ℕ)) (before e : EndValue ℕ) (log : List LogLine) (spent : Bool) → IsOpen last rows before → Outcome last rows what e
    → Standing 0 last rows log → Finishes (turned_by (what, e) (client (Some before) log spent)).1
turned_finishes last rows None before e log spent open_end out standing = still_open last rows before log open_end
turned_finishes last rows (Some what) before e log spent open_end out standing = took_finishes last rows what e (Some before) log spent out.1 standing

turns_finishes : (channel : Option (EndValue ℕ)) (log : List LogLine) (spent : Bool) → Stands channel log → FinishedWhereClosed channel log
    → Finishes (called turns (client channel log spent))
turns_finishes None log spent stands old = λ closed. cc
turns_finishes (Some e) log spent (under_way last rows open_end going) old =
    turned_finishes last rows (next_taken e).0 e (next_taken e).1 log spent open_end (next_gives last rows going.standing.rises e open_end) going.standing
turns_finishes (Some e) log spent (over ended done) old =
    subst (λ (p : Option (Taken ℕ) × EndValue ℕ). Finishes (turned_by p (client (Some e) log spent)).1) (sym (nothing_taken e ended)) old

-- ---- any calls

call_finishes : (call : Call) (c : ClientValue) → Holds c → Finishes c → Finishes (called call c)
call_finishes opens c stands old = opens_finishes c.channel c.log c.is_spent old
call_finishes (sends service name body) c stands old = sends_finishes c.channel c.log c.is_spent service name body stands old
call_finishes (comes piece mark) c stands old = comes_finishes c.channel c.log c.is_spent piece mark stands old
call_finishes bytes_end c stands old = bytes_end_finishes c.channel c.log c.is_spent stands old
call_finishes turns c stands old = turns_finishes c.channel c.log c.is_spent stands old
call_finishes closes c stands old = closes_finishes c.channel c.log c.is_spent stands old
call_finishes gives c stands old = gives_finishes c.channel c.log c.is_spent stands old
call_finishes (asks what) c stands old = asks_finishes c.channel c.log c.is_spent what old

pub record Knows (c : ClientValue) : Type 0 where
  pub holds : Holds c
  pub finishes : Finishes c

pub run_knows : (calls : List Call) (c : ClientValue) → Knows c → Knows (run calls c)
run_knows [] c old = old
run_knows (call ∷ calls) c old =
    run_knows calls (called call c) (record { holds = call_kept call c old.holds; finishes = call_finishes call c old.holds old.finishes })

new_knows : Knows new_client
new_knows = record { holds = new_holds; finishes = λ closed. cc }

-- ---- the laws

ends_so : (channel : Option (EndValue ℕ)) (log : List LogLine) → Stands channel log → FinishedWhereClosed channel log → list_any is_end log ≡ is_closed_on channel
ends_so None log stands finishes = stands.standing.open_yet
ends_so (Some e) log (under_way last rows open_end going) finishes = going.standing.open_yet ∙ sym open_end.staying
ends_so (Some e) log (over ended done) finishes = (finishes ended.closed).ended ∙ sym ended.closed

-- where nothing is pending
all_done : (last : ℕ) (rows : List (ℕ × ℕ)) (log : List LogLine) → Standing 0 last rows log → length rows ≡ 0 → AllAnswered log
all_done last [] log standing none number there = done (standing.accounted number there)
  where
    done : Contains (finals log) number ⊎ Contains [] number → Contains (finals log) number
    done (inl answered) = answered
    done (inr pending) = absurd (none_in number pending)
all_done last (row ∷ rows) log standing none number there = cc

answers_so : (channel : Option (EndValue ℕ)) (log : List LogLine) → Stands channel log → FinishedWhereClosed channel log → pending_on channel ≡ 0 → AllAnswered log
answers_so None log stands finishes none = all_done 0 [] log stands.standing refl
answers_so (Some e) log (under_way last rows open_end going) finishes none = all_done last rows log going.standing (sym (ap length open_end.pending) ∙ none)
answers_so (Some e) log (over ended done) finishes none = (finishes ended.closed).answered

pub ends_where_closed : EndsWhereClosed
ends_where_closed calls =
    let c = run calls new_client in
    let knows : Knows c = run_knows calls new_client new_knows in
    ends_so c.channel c.log knows.holds knows.finishes

pub answered_where_none_pends : IsAnsweredWhereNonePends
answered_where_none_pends calls none =
    let c = run calls new_client in
    let knows : Knows c = run_knows calls new_client new_knows in
    answers_so c.channel c.log knows.holds knows.finishes none
