-- What a call of a hub makes of its upper end: what the calls make that are said of it.
use Rattle.std.proofs.Common.{◌≡◌, ℕ, ◌+◌, ◌==◌, Bool, true, false, cond, List, [], ◌∷◌, length, drop, Option, Some, None, refl, sym, ap, ◌∙◌}
use Rattle.std.specs.Prelude.{Result, Ok, Err}
use Rattle.channel_core.specs.Beginning.{tag_of}
use Rattle.channel_core.specs.Closing.{closed_own}
use Rattle.channel_core.specs.EndValue.{EndValue, unless_spent}
use Rattle.channel_core.specs.Receiving.{ended as end_ended}
use Rattle.channel_core.specs.Runs.{Call as EndCall, closing, commanding, unless_refused}
use Rattle.channel_core.specs.Sending.{commanded, last_token, refusal_to}
use Rattle.channel_core.specs.Taking.{next_taken}
use Rattle.channel_core.specs.Wire.{is_redirect}
use Rattle.channel_core.specs.declared.sending.SendRefusal.{SendRefusal}
use Rattle.channel_core.specs.declared.taking.Taken.{Taken}
use Rattle.channel_core.specs.declared.taking.Taken.TheVariants as taken
use Rattle.tcf_message.specs.Message.{MessageValue, command, event, final, flow, not_known, progress, reading}
use Rattle.tcf_message.specs.declared.message.MessageFault.{MessageFault}
use Rattle.hub_node.specs.Board.{dropped, found, kept}
use Rattle.hub_node.specs.Calls.{bytes_end, gives, turns}
use Rattle.hub_node.specs.Relay.{after_giving_at, all_closed, answered, asked, ended_at, event_told, final_told, finished, forwarded, forwarded_as, found_by, gone, greeted, next_below, progress_told, refused_above, tag_for, took_above, took_any_above, took_any_below, took_below, turned_above, turned_at, waits_as}
use Rattle.hub_node.specs.RelayValue.{RelayValue}
use Rattle.hub_node.specs.Runs.{above_by, asked_above, forwarding, refused_calls, took_above as above_calls}
use Rattle.hub_node.specs.WaitingValue.{WaitingValue}
use Rattle.hub_node.specs.declared.side.HubSide.TheVariants.{Above, Below}
use Rattle.hub_node.specs.declared.waiting.Tag.{Tag}
use Rattle.hub_node.proofs.EndRuns.{ends}
use Rattle.hub_node.proofs.Stepping.{last_refused, lowers_next, next_is}

unspent_is : (e : EndValue Tag) (f : EndValue Tag → EndValue Tag) → e.is_spent ≡ false → unless_spent e e (f e) ≡ f e
unspent_is e f u = ap (λ b. cond b e (f e)) u

pub ended_upper : (r : RelayValue) → r.upper.is_spent ≡ false → (ended_at Above r).upper ≡ ends (above_by (bytes_end Above) r) r.upper
unfolding ended_at
ended_upper r u = unspent_is r.upper end_ended u

pub gave_upper : (r : RelayValue) → r.upper.is_spent ≡ false → (after_giving_at Above r).upper ≡ ends (above_by (gives Above) r) r.upper
unfolding after_giving_at
gave_upper r u = unspent_is r.upper (λ e. record e { queued = drop 1 e.queued }) u

-- ---- what was taken above

heard_upper : (mark : Option ℕ) (m : Result MessageValue MessageFault) (r : RelayValue) → (event_told mark m r).upper ≡ r.upper
unfolding event_told
heard_upper mark (Ok (event service name body)) r = refl
heard_upper mark (Ok (command token service name body)) r = refl
heard_upper mark (Ok (final token body)) r = refl
heard_upper mark (Ok (progress token body)) r = refl
heard_upper mark (Ok (not_known token)) r = refl
heard_upper mark (Ok (flow level)) r = refl
heard_upper mark (Err fault) r = refl

progress_upper : (w : Option WaitingValue) (mark : Option ℕ) (m : Result MessageValue MessageFault) (r : RelayValue) → (progress_told w mark m r).upper ≡ r.upper
unfolding progress_told
progress_upper (Some w) mark (Ok (progress token body)) r = refl
progress_upper (Some w) mark (Ok (command token service name body)) r = refl
progress_upper (Some w) mark (Ok (final token body)) r = refl
progress_upper (Some w) mark (Ok (event service name body)) r = refl
progress_upper (Some w) mark (Ok (not_known token)) r = refl
progress_upper (Some w) mark (Ok (flow level)) r = refl
progress_upper (Some w) mark (Err fault) r = refl
progress_upper None mark m r = refl

final_upper : (w : Option WaitingValue) (mark : Option ℕ) (m : Result MessageValue MessageFault) (r : RelayValue) → (final_told w mark m r).upper ≡ r.upper
unfolding final_told
final_upper (Some w) mark (Ok (final token body)) r = refl
final_upper (Some w) mark (Ok (not_known token)) r = refl
final_upper (Some w) mark (Ok (command token service name body)) r = refl
final_upper (Some w) mark (Ok (progress token body)) r = refl
final_upper (Some w) mark (Ok (event service name body)) r = refl
final_upper (Some w) mark (Ok (flow level)) r = refl
final_upper (Some w) mark (Err fault) r = refl
final_upper None mark m r = refl

refused_upper : (m : Result MessageValue MessageFault) (r : RelayValue) → (refused_above m r).upper ≡ ends (refused_calls m) r.upper
unfolding refused_above
refused_upper (Ok (command token service name body)) r = refl
refused_upper (Ok (final token body)) r = refl
refused_upper (Ok (progress token body)) r = refl
refused_upper (Ok (event service name body)) r = refl
refused_upper (Ok (not_known token)) r = refl
refused_upper (Ok (flow level)) r = refl
refused_upper (Err fault) r = refl

closed_upper : (r : RelayValue) → r.upper.is_spent ≡ false → (all_closed r).upper ≡ closed_own r.upper
unfolding all_closed
closed_upper r u = unspent_is r.upper closed_own u

took_upper : (what : Option (Taken Tag)) (r : RelayValue) → r.upper.is_spent ≡ false → (took_any_above what r).1.upper ≡ ends (above_calls what) r.upper
unfolding took_above greeted finished
took_upper None r u = refl
took_upper (Some (taken.Hello incoming)) r u = by_flag r.is_bound
  where
    by_flag : (bound : Bool) → (cond bound (event_told incoming.mark (reading incoming.raw) r) (record r { is_bound = true })).upper ≡ r.upper
    by_flag true = heard_upper incoming.mark (reading incoming.raw) r
    by_flag false = refl
took_upper (Some (taken.Command incoming)) r u = refused_upper (reading incoming.raw) r
took_upper (Some (taken.Event incoming)) r u = heard_upper incoming.mark (reading incoming.raw) r
took_upper (Some (taken.Progress token incoming)) r u = progress_upper (found_by (tag_of token r.upper.pending) r) incoming.mark (reading incoming.raw) r
took_upper (Some (taken.Final tag incoming)) r u = final_upper (found tag r.board) incoming.mark (reading incoming.raw) (record r { board = dropped tag r.board })
took_upper (Some (taken.Closed cause)) r u = closed_upper r u

pub turned_above_upper : (key : ℕ) (r : RelayValue) → (next_taken r.upper).1.is_spent ≡ false → (turned_at key Above r).1.upper ≡ ends (above_by (turns key Above) r) r.upper
unfolding turned_above
turned_above_upper key r u = let next = next_taken r.upper in took_upper next.0 (record r { upper = next.1 }) u

-- ---- what was taken below

forwarded_upper : (key i : ℕ) (token service name body : List ℕ) (mark : Option ℕ) (r : RelayValue) → r.upper.is_spent ≡ false
    → (forwarded key i token service name body mark r).upper
    ≡ ends (unless_refused (refusal_to service name body r.upper) (closing ∷ []) (commanding service name body (tag_for key r) mark ∷ [])) r.upper
unfolding forwarded
forwarded_upper key i token service name body mark r u = by_flag (r.upper.last == last_token) refl
  where
    why : Option SendRefusal
    why = refusal_to service name body r.upper

    kept_so : RelayValue
    kept_so = record r { board = kept key (waits_as i token r) r.board }

    calls : Option SendRefusal → List (EndCall Tag)
    calls o = unless_refused o (closing ∷ []) (commanding service name body (tag_for key r) mark ∷ [])

    by_why : (o : Option SendRefusal) → why ≡ o
        → (unless_refused o (all_closed kept_so) (forwarded_as key i token service name body mark r)).upper ≡ ends (calls o) r.upper
    by_why None is = sym (ap (λ x. unless_refused x r.upper (commanded service name body (tag_for key r) mark r.upper)) is)
    by_why (Some w) is = closed_upper kept_so u

    by_flag : (flag : Bool) → (r.upper.last == last_token) ≡ flag
        → (cond flag (all_closed r) (unless_refused why (all_closed kept_so) (forwarded_as key i token service name body mark r))).upper ≡ ends (calls why) r.upper
    by_flag true is =
        let closes : List (EndCall Tag) = closing ∷ [] in
        let sends : List (EndCall Tag) = commanding service name body (tag_for key r) mark ∷ [] in
        closed_upper r u ∙ ap (λ cs. ends cs r.upper) (sym (last_refused (length service + length name + length body) r.upper closes sends is))
    by_flag false is = by_why why refl

asked_upper : (key i : ℕ) (mark : Option ℕ) (m : Result MessageValue MessageFault) (r : RelayValue) → r.upper.is_spent ≡ false → (asked key i mark m r).upper ≡ ends (forwarding key mark m r.upper) r.upper
unfolding asked answered
asked_upper key i mark (Ok (command token service name body)) r u = by_flag (is_redirect service name)
  where
    by_flag : (own : Bool) → (cond own (answered i token service name body r) (forwarded key i token service name body mark r)).upper
        ≡ ends (cond own [] (unless_refused (refusal_to service name body r.upper) (closing ∷ []) (commanding service name body (tag_for key r) mark ∷ []))) r.upper
    by_flag true = refl
    by_flag false = forwarded_upper key i token service name body mark r u
asked_upper key i mark (Ok (final token body)) r u = refl
asked_upper key i mark (Ok (progress token body)) r u = refl
asked_upper key i mark (Ok (event service name body)) r u = refl
asked_upper key i mark (Ok (not_known token)) r u = refl
asked_upper key i mark (Ok (flow level)) r u = refl
asked_upper key i mark (Err fault) r u = refl

below_upper : (key i : ℕ) (what : Option (Taken Unit)) (r : RelayValue) → r.upper.is_spent ≡ false → (took_any_below key i what r).1.upper ≡ ends (asked_above key what r.upper) r.upper
unfolding took_below gone
below_upper key i None r u = refl
below_upper key i (Some (taken.Hello incoming)) r u = refl
below_upper key i (Some (taken.Command incoming)) r u = asked_upper key i incoming.mark (reading incoming.raw) r u
below_upper key i (Some (taken.Event incoming)) r u = refl
below_upper key i (Some (taken.Progress token incoming)) r u = refl
below_upper key i (Some (taken.Final tag incoming)) r u = refl
below_upper key i (Some (taken.Closed cause)) r u = refl

pub turned_below_upper : (key i : ℕ) (r : RelayValue) → r.upper.is_spent ≡ false → (turned_at key (Below i) r).1.upper ≡ ends (above_by (turns key (Below i)) r) r.upper
turned_below_upper key i r u =
    ap (λ (x : RelayValue). (took_any_below key i (next_below i r).0 x).1.upper) (next_is i r)
    ∙ below_upper key i (next_below i r).0 (record r { lowers = lowers_next i r }) u
