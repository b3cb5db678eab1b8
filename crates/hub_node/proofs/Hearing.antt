-- What a hub heard is, in order, what it took from above.
use Rattle.std.proofs.Common.{◌≡◌, ℕ, ◌+◌, ◌==◌, Bool, true, false, cond, List, [], ◌∷◌, ◌++◌, Option, Some, None, refl, sym, ap, ◌∙◌, append-nil, append_assoc}
use Rattle.std.specs.Prelude.{Result, Ok, Err}
use Rattle.std.specs.List.{list_any}
use Rattle.std.proofs.lemmas.List.Concat.{flat_map-append}
use Rattle.channel_core.specs.Beginning.{new_end, tag_of}
use Rattle.channel_core.specs.EndValue.{EndValue}
use Rattle.channel_core.specs.Laws.{listed}
use Rattle.channel_core.specs.Runs.{begun, closing, commanding, unless_refused}
use Rattle.channel_core.specs.Sending.{last_token, refusal_to}
use Rattle.channel_core.specs.Taking.{next_taken}
use Rattle.channel_core.specs.Wire.{is_redirect}
use Rattle.channel_core.specs.declared.sending.SendRefusal.{SendRefusal}
use Rattle.channel_core.specs.declared.taking.Taken.{Taken}
use Rattle.channel_core.specs.declared.taking.Taken.TheVariants as taken
use Rattle.tcf_message.specs.Message.{MessageValue, command, event, final, flow, not_known, progress, reading}
use Rattle.tcf_message.specs.declared.message.MessageFault.{MessageFault}
use Rattle.hub_node.specs.Board.{dropped, found, kept}
use Rattle.hub_node.specs.Calls.{Call, opens, comes, bytes_end, turns, gives}
use Rattle.hub_node.specs.Deeds.{Asked, above_deeds, answers, asked_deeds, below_deeds, deeds_by, forwards, heard_by, heard_in, joins, ends as all_ends}
use Rattle.hub_node.specs.HubLaws.{bound_by, heard_from, heard_of}
use Rattle.hub_node.specs.HubValue.{HubValue}
use Rattle.hub_node.specs.Relay.{after_giving_at, all_closed, answered, asked, begun as relay_begun, came_at, ended_at, event_told, final_told, finished, forwarded, forwarded_as, found_by, gone, greeted, is_refused, next_below, opened_at, progress_told, refused_above, took_above, took_any_above, took_any_below, took_below, turned_above, upper_services, waits_as}
use Rattle.hub_node.specs.RelayValue.{RelayValue}
use Rattle.hub_node.specs.Runs.{HubRun, above_by, above_run, after_call, asked_above, forwarding, refused_calls, took_above as above_calls}
use Rattle.hub_node.specs.WaitingValue.{WaitingValue}
use Rattle.hub_node.specs.declared.side.HubSide.TheVariants.{Above, Below}
use Rattle.hub_node.specs.declared.waiting.Tag.{Tag}
use Rattle.hub_node.proofs.Holding.{Holds, hub_called, relay_called}
use Rattle.hub_node.proofs.Stepping.{lowers_next, next_is}
use Rattle.hub_node.proofs.Untaken.{is_taking, taken_in, taken_more, untaken}

-- ---- whether the Hello has come

abbrev bound_after : Bool → List (Taken Tag) → Bool
bound_after bound [] = bound
bound_after bound (entry ∷ entries) = bound_after (bound_by bound entry) entries

bound_more : (bound : Bool) (first second : List (Taken Tag)) → bound_after bound (first ++ second) ≡ bound_after (bound_after bound first) second
bound_more bound [] second = refl
bound_more bound (entry ∷ first) second = bound_more (bound_by bound entry) first second

heard_more : (bound : Bool) (first second : List (Taken Tag)) → heard_from bound (first ++ second) ≡ heard_from bound first ++ heard_from (bound_after bound first) second
heard_more bound [] second = refl
heard_more bound (entry ∷ first) second =
    ap (λ xs. heard_of bound entry ++ xs) (heard_more (bound_by bound entry) first second)
    ∙ sym (append_assoc (heard_of bound entry) (heard_from (bound_by bound entry) first) (heard_from (bound_after (bound_by bound entry) first) second))

told_bound : (mark : Option ℕ) (m : Result MessageValue MessageFault) (r : RelayValue) → (event_told mark m r).is_bound ≡ r.is_bound
unfolding event_told
told_bound mark (Ok (event service name body)) r = refl
told_bound mark (Ok (command token service name body)) r = refl
told_bound mark (Ok (final token body)) r = refl
told_bound mark (Ok (progress token body)) r = refl
told_bound mark (Ok (not_known token)) r = refl
told_bound mark (Ok (flow level)) r = refl
told_bound mark (Err fault) r = refl

progress_bound : (w : Option WaitingValue) (mark : Option ℕ) (m : Result MessageValue MessageFault) (r : RelayValue) → (progress_told w mark m r).is_bound ≡ r.is_bound
unfolding progress_told
progress_bound (Some w) mark (Ok (progress token body)) r = refl
progress_bound (Some w) mark (Ok (command token service name body)) r = refl
progress_bound (Some w) mark (Ok (final token body)) r = refl
progress_bound (Some w) mark (Ok (event service name body)) r = refl
progress_bound (Some w) mark (Ok (not_known token)) r = refl
progress_bound (Some w) mark (Ok (flow level)) r = refl
progress_bound (Some w) mark (Err fault) r = refl
progress_bound None mark m r = refl

final_bound : (w : Option WaitingValue) (mark : Option ℕ) (m : Result MessageValue MessageFault) (r : RelayValue) → (final_told w mark m r).is_bound ≡ r.is_bound
unfolding final_told
final_bound (Some w) mark (Ok (final token body)) r = refl
final_bound (Some w) mark (Ok (not_known token)) r = refl
final_bound (Some w) mark (Ok (command token service name body)) r = refl
final_bound (Some w) mark (Ok (progress token body)) r = refl
final_bound (Some w) mark (Ok (event service name body)) r = refl
final_bound (Some w) mark (Ok (flow level)) r = refl
final_bound (Some w) mark (Err fault) r = refl
final_bound None mark m r = refl

refused_bound : (m : Result MessageValue MessageFault) (r : RelayValue) → (refused_above m r).is_bound ≡ r.is_bound
unfolding refused_above
refused_bound (Ok (command token service name body)) r = refl
refused_bound (Ok (final token body)) r = refl
refused_bound (Ok (progress token body)) r = refl
refused_bound (Ok (event service name body)) r = refl
refused_bound (Ok (not_known token)) r = refl
refused_bound (Ok (flow level)) r = refl
refused_bound (Err fault) r = refl

closed_bound : (r : RelayValue) → (all_closed r).is_bound ≡ r.is_bound
unfolding all_closed
closed_bound r = refl

above_bound : (what : Option (Taken Tag)) (r : RelayValue) → (took_any_above what r).1.is_bound ≡ bound_after r.is_bound (listed what)
unfolding took_above greeted finished
above_bound None r = refl
above_bound (Some (taken.Hello incoming)) r = by_flag r.is_bound refl
  where
    by_flag : (bound : Bool) → r.is_bound ≡ bound → (cond bound (event_told incoming.mark (reading incoming.raw) r) (record r { is_bound = true })).is_bound ≡ true
    by_flag true is = told_bound incoming.mark (reading incoming.raw) r ∙ is
    by_flag false is = refl
above_bound (Some (taken.Command incoming)) r = refused_bound (reading incoming.raw) r
above_bound (Some (taken.Event incoming)) r = told_bound incoming.mark (reading incoming.raw) r
above_bound (Some (taken.Progress token incoming)) r = progress_bound (found_by (tag_of token r.upper.pending) r) incoming.mark (reading incoming.raw) r
above_bound (Some (taken.Final tag incoming)) r = final_bound (found tag r.board) incoming.mark (reading incoming.raw) (record r { board = dropped tag r.board })
above_bound (Some (taken.Closed cause)) r = closed_bound r

forwarded_bound : (key i : ℕ) (token service name body : List ℕ) (mark : Option ℕ) (r : RelayValue) → (forwarded key i token service name body mark r).is_bound ≡ r.is_bound
unfolding forwarded
forwarded_bound key i token service name body mark r = by_flag (r.upper.last == last_token) (refusal_to service name body r.upper)
  where
    kept_so : RelayValue
    kept_so = record r { board = kept key (waits_as i token r) r.board }

    by_flag : (flag : Bool) (o : Option SendRefusal)
        → (cond flag (all_closed r) (unless_refused o (all_closed kept_so) (forwarded_as key i token service name body mark r))).is_bound ≡ r.is_bound
    by_flag true o = closed_bound r
    by_flag false None = refl
    by_flag false (Some why) = closed_bound kept_so

asked_bound : (key i : ℕ) (mark : Option ℕ) (m : Result MessageValue MessageFault) (r : RelayValue) → (asked key i mark m r).is_bound ≡ r.is_bound
unfolding asked answered
asked_bound key i mark (Ok (command token service name body)) r = by_flag (is_redirect service name)
  where
    by_flag : (own : Bool) → (cond own (answered i token service name body r) (forwarded key i token service name body mark r)).is_bound ≡ r.is_bound
    by_flag true = refl
    by_flag false = forwarded_bound key i token service name body mark r
asked_bound key i mark (Ok (final token body)) r = refl
asked_bound key i mark (Ok (progress token body)) r = refl
asked_bound key i mark (Ok (event service name body)) r = refl
asked_bound key i mark (Ok (not_known token)) r = refl
asked_bound key i mark (Ok (flow level)) r = refl
asked_bound key i mark (Err fault) r = refl

below_bound : (key i : ℕ) (what : Option (Taken Unit)) (r : RelayValue) → (took_any_below key i what r).1.is_bound ≡ r.is_bound
unfolding took_below gone
below_bound key i None r = refl
below_bound key i (Some (taken.Hello incoming)) r = refl
below_bound key i (Some (taken.Command incoming)) r = asked_bound key i incoming.mark (reading incoming.raw) r
below_bound key i (Some (taken.Event incoming)) r = refl
below_bound key i (Some (taken.Progress token incoming)) r = refl
below_bound key i (Some (taken.Final tag incoming)) r = refl
below_bound key i (Some (taken.Closed cause)) r = refl

opened_bound : (i : ℕ) (r : RelayValue) → (opened_at i r).1.is_bound ≡ r.is_bound
unfolding opened_at relay_begun
opened_bound i r = by_flag (is_refused i r)
  where
    by_flag : (flag : Bool) → (cond {A = Bool × RelayValue} flag (false, r) (true, relay_begun i r)).1.is_bound ≡ r.is_bound
    by_flag true = refl
    by_flag false = refl

-- what a call takes from above
abbrev takes_above : Call → RelayValue → List (Taken Tag)
takes_above call q = taken_in (above_by call q) q.upper

refused_untaken : (m : Result MessageValue MessageFault) → list_any (is_taking {T = Tag}) (refused_calls m) ≡ false
refused_untaken (Ok (command token service name body)) = refl
refused_untaken (Ok (final token body)) = refl
refused_untaken (Ok (progress token body)) = refl
refused_untaken (Ok (event service name body)) = refl
refused_untaken (Ok (not_known token)) = refl
refused_untaken (Ok (flow level)) = refl
refused_untaken (Err fault) = refl

took_untaken : (what : Option (Taken Tag)) → list_any (is_taking {T = Tag}) (above_calls what) ≡ false
took_untaken None = refl
took_untaken (Some (taken.Hello incoming)) = refl
took_untaken (Some (taken.Command incoming)) = refused_untaken (reading incoming.raw)
took_untaken (Some (taken.Event incoming)) = refl
took_untaken (Some (taken.Progress token incoming)) = refl
took_untaken (Some (taken.Final tag incoming)) = refl
took_untaken (Some (taken.Closed cause)) = refl

forwarding_untaken : (key : ℕ) (mark : Option ℕ) (m : Result MessageValue MessageFault) (upper : EndValue Tag) → list_any (is_taking {T = Tag}) (forwarding key mark m upper) ≡ false
forwarding_untaken key mark (Ok (command token service name body)) upper = by_flag (is_redirect service name) (refusal_to service name body upper)
  where
    by_flag : (own : Bool) (o : Option SendRefusal)
        → list_any (is_taking {T = Tag}) (cond own [] (unless_refused o (closing ∷ []) (commanding service name body (record { key = key; serial = upper.last + 1 }) mark ∷ []))) ≡ false
    by_flag true o = refl
    by_flag false None = refl
    by_flag false (Some why) = refl
forwarding_untaken key mark (Ok (final token body)) upper = refl
forwarding_untaken key mark (Ok (progress token body)) upper = refl
forwarding_untaken key mark (Ok (event service name body)) upper = refl
forwarding_untaken key mark (Ok (not_known token)) upper = refl
forwarding_untaken key mark (Ok (flow level)) upper = refl
forwarding_untaken key mark (Err fault) upper = refl

asked_untaken : (key : ℕ) (what : Option (Taken Unit)) (upper : EndValue Tag) → list_any (is_taking {T = Tag}) (asked_above key what upper) ≡ false
asked_untaken key None upper = refl
asked_untaken key (Some (taken.Hello incoming)) upper = refl
asked_untaken key (Some (taken.Command incoming)) upper = forwarding_untaken key incoming.mark (reading incoming.raw) upper
asked_untaken key (Some (taken.Event incoming)) upper = refl
asked_untaken key (Some (taken.Progress token incoming)) upper = refl
asked_untaken key (Some (taken.Final tag incoming)) upper = refl
asked_untaken key (Some (taken.Closed cause)) upper = refl

above_takes : (key : ℕ) (q : RelayValue) → takes_above (turns key Above) q ≡ listed (next_taken q.upper).0
above_takes key q =
    ap (λ xs. listed (next_taken q.upper).0 ++ xs) (untaken (above_calls (next_taken q.upper).0) (next_taken q.upper).1 (took_untaken (next_taken q.upper).0))
    ∙ append-nil (listed (next_taken q.upper).0)

below_takes : (key i : ℕ) (q : RelayValue) → takes_above (turns key (Below i)) q ≡ []
below_takes key i q = untaken (asked_above key (next_below i q).0 q.upper) q.upper (asked_untaken key (next_below i q).0 q.upper)

-- ---- a call

pub record Hears (call : Call) (q : RelayValue) : Type 0 where
  pub bound : (relay_called call q).is_bound ≡ bound_after q.is_bound (takes_above call q)
  pub heard : heard_in (deeds_by call q) ≡ heard_from q.is_bound (takes_above call q)

heard_deeds : (bound : Bool) (what : Option (Taken Tag)) → heard_in (above_deeds bound what) ≡ heard_from bound (listed what)
heard_deeds bound None = refl
heard_deeds true (Some (taken.Hello incoming)) = refl
heard_deeds false (Some (taken.Hello incoming)) = refl
heard_deeds bound (Some (taken.Command incoming)) = refl
heard_deeds bound (Some (taken.Event incoming)) = refl
heard_deeds bound (Some (taken.Progress token incoming)) = refl
heard_deeds bound (Some (taken.Final tag incoming)) = refl
heard_deeds bound (Some (taken.Closed cause)) = refl

asked_heard : (i : ℕ) (mark : Option ℕ) (m : Result MessageValue MessageFault) (upper : EndValue Tag) → heard_in (asked_deeds i mark m upper) ≡ []
asked_heard i mark (Ok (command token service name body)) upper = by_flag (is_redirect service name) (refusal_to service name body upper)
  where
    c : Asked
    c = record { channel = i; token = token; service = service; name = name; body = body; mark = mark }

    by_flag : (own : Bool) (o : Option SendRefusal) → heard_in (cond own (answers c ∷ []) (unless_refused o all_ends (forwards c) ∷ [])) ≡ []
    by_flag true o = refl
    by_flag false None = refl
    by_flag false (Some why) = refl
asked_heard i mark (Ok (final token body)) upper = refl
asked_heard i mark (Ok (progress token body)) upper = refl
asked_heard i mark (Ok (event service name body)) upper = refl
asked_heard i mark (Ok (not_known token)) upper = refl
asked_heard i mark (Ok (flow level)) upper = refl
asked_heard i mark (Err fault) upper = refl

below_heard : (i : ℕ) (what : Option (Taken Unit)) (upper : EndValue Tag) → heard_in (below_deeds i what upper) ≡ []
below_heard i None upper = refl
below_heard i (Some (taken.Hello incoming)) upper = refl
below_heard i (Some (taken.Command incoming)) upper = asked_heard i incoming.mark (reading incoming.raw) upper
below_heard i (Some (taken.Event incoming)) upper = refl
below_heard i (Some (taken.Progress token incoming)) upper = refl
below_heard i (Some (taken.Final tag incoming)) upper = refl
below_heard i (Some (taken.Closed cause)) upper = refl

joined_heard : (did : Bool) (i : ℕ) → heard_in (cond did (joins i ∷ []) []) ≡ []
joined_heard true i = refl
joined_heard false i = refl

came_hears : (piece : List ℕ) (mark : Option ℕ) (q : RelayValue) → Hears (comes Above piece mark) q
unfolding came_at
came_hears piece mark q = record { bound = refl; heard = refl }

came_below_hears : (i : ℕ) (piece : List ℕ) (mark : Option ℕ) (q : RelayValue) → Hears (comes (Below i) piece mark) q
unfolding came_at
came_below_hears i piece mark q = record { bound = refl; heard = refl }

ended_hears : (q : RelayValue) → Hears (bytes_end Above) q
unfolding ended_at
ended_hears q = record { bound = refl; heard = refl }

ended_below_hears : (i : ℕ) (q : RelayValue) → Hears (bytes_end (Below i)) q
unfolding ended_at
ended_below_hears i q = record { bound = refl; heard = refl }

gave_hears : (q : RelayValue) → Hears (gives Above) q
unfolding after_giving_at
gave_hears q = record { bound = refl; heard = refl }

gave_below_hears : (i : ℕ) (q : RelayValue) → Hears (gives (Below i)) q
unfolding after_giving_at
gave_below_hears i q = record { bound = refl; heard = refl }

turned_hears : (key : ℕ) (q : RelayValue) → Hears (turns key Above) q
unfolding turned_above
turned_hears key q =
    let next = next_taken q.upper in record {
      bound = above_bound next.0 (record q { upper = next.1 }) ∙ ap (bound_after q.is_bound) (sym (above_takes key q));
      heard = heard_deeds q.is_bound next.0 ∙ ap (heard_from q.is_bound) (sym (above_takes key q));
    }

turned_below_hears : (key i : ℕ) (q : RelayValue) → Hears (turns key (Below i)) q
turned_below_hears key i q = record {
  bound = ap (λ (x : RelayValue). (took_any_below key i (next_below i q).0 x).1.is_bound) (next_is i q)
      ∙ below_bound key i (next_below i q).0 (record q { lowers = lowers_next i q }) ∙ ap (bound_after q.is_bound) (sym (below_takes key i q));
  heard = below_heard i (next_below i q).0 q.upper ∙ ap (heard_from q.is_bound) (sym (below_takes key i q));
}

call_hears : (call : Call) (q : RelayValue) → Hears call q
call_hears (opens i) q = record { bound = opened_bound i q; heard = joined_heard (opened_at i q).0 i }
call_hears (comes Above piece mark) q = came_hears piece mark q
call_hears (comes (Below i) piece mark) q = came_below_hears i piece mark q
call_hears (bytes_end Above) q = ended_hears q
call_hears (bytes_end (Below i)) q = ended_below_hears i q
call_hears (turns key Above) q = turned_hears key q
call_hears (turns key (Below i)) q = turned_below_hears key i q
call_hears (gives Above) q = gave_hears q
call_hears (gives (Below i)) q = gave_below_hears i q

-- ---- after any calls

pub record HasHeard (r : HubRun) : Type 0 where
  pub bound : r.hub.relay.is_bound ≡ bound_after false (above_run r).past.taken
  pub heard : heard_in r.deeds ≡ heard_from false (above_run r).past.taken

pub heard_step : (j : ℕ) (call : Call) (r : HubRun) → Holds j r → HasHeard r → HasHeard (after_call j call r)
heard_step j call r h k = record {
  bound = ap (λ (x : HubValue). x.relay.is_bound) (hub_called call r.hub h.unspent) ∙ s.bound ∙ ap (λ b. bound_after b more) k.bound
      ∙ sym (bound_more false (above_run r).past.taken more) ∙ ap (bound_after false) (sym taken_so);
  heard = flat_map-append heard_by r.deeds (deeds_by call q) ∙ ap (λ xs. xs ++ heard_in (deeds_by call q)) k.heard ∙ ap (λ xs. heard_from false (above_run r).past.taken ++ xs) (s.heard ∙ ap (λ b. heard_from b more) k.bound)
      ∙ sym (heard_more false (above_run r).past.taken more) ∙ ap (heard_from false) (sym taken_so);
}
  where
    q : RelayValue
    q = r.hub.relay

    more : List (Taken Tag)
    more = takes_above call q

    s : Hears call q
    s = call_hears call q

    taken_so : (above_run (after_call j call r)).past.taken ≡ (above_run r).past.taken ++ more
    taken_so = taken_more r.above (above_by call q) (begun (new_end upper_services None)) ∙ ap (λ (e : EndValue Tag). (above_run r).past.taken ++ taken_in (above_by call q) e) (sym h.above)
