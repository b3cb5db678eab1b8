-- The commands of a lower channel that a hub sends above are a front of those that it took from that channel.
use Rattle.std.proofs.Common.{◌≡◌, ◌≢◌, ℕ, ◌+◌, ◌==◌, Bool, true, false, cond, ◌&&◌, nat_lt, List, [], ◌∷◌, ◌++◌, length, Option, Some, None, refl, sym, ap, subst, ◌∙◌, append-nil, eqb-true, eq-eqb}
use Rattle.std.specs.Prelude.{Result, Ok, Err, slice_get}
use Rattle.std.specs.List.{filter, flat_map}
use Rattle.std.proofs.lemmas.List.Concat.{flat_map-append}
use Rattle.std.proofs.lemmas.List.Elements.{filter-append}
use Rattle.channel_core.specs.Beginning.{new_end}
use Rattle.channel_core.specs.Closing.{is_closed}
use Rattle.channel_core.specs.EndValue.{EndValue}
use Rattle.channel_core.specs.Holding.{is_live}
use Rattle.channel_core.specs.Laws.{listed}
use Rattle.channel_core.specs.Runs.{Call as EndCall, after_calls, begun, closing, commanding, taking, unless_refused}
use Rattle.channel_core.specs.Sending.{refusal_to}
use Rattle.channel_core.specs.Taking.{next_taken}
use Rattle.channel_core.specs.Wire.{is_redirect}
use Rattle.channel_core.specs.declared.sending.SendRefusal.{SendRefusal}
use Rattle.channel_core.specs.declared.states.EndState.{EndState}
use Rattle.channel_core.specs.declared.states.EndState.TheVariants.{Opening, Live, Reopening, Closed as IsClosed}
use Rattle.channel_core.specs.declared.taking.Taken.{Taken}
use Rattle.channel_core.specs.declared.taking.Taken.TheVariants as taken
use Rattle.channel_core.proofs.TheLaws.{closes_only_so, stays_closed}
use Rattle.channel_list.specs.Channels.{End, channel_at, channel_end, end_in, place_of}
use Rattle.channel_list.specs.declared.channel.Channel.{Channel}
use Rattle.list_laws.specs.Fronts.{IsFront}
use Rattle.list_laws.proofs.Fronts.{front_all, front_more, front_same}
use Rattle.tcf_message.specs.Message.{MessageValue, command, event, final, flow, not_known, progress, reading}
use Rattle.tcf_message.specs.declared.message.MessageFault.{MessageFault}
use Rattle.hub_node.specs.Calls.{Call, opens, comes, bytes_end, turns, gives}
use Rattle.hub_node.specs.Deeds.{Asked, Deed, above_deeds, answers, asked_deeds, below_deeds, deeds_by, forwards, joins, sent_by, sent_in, ends as all_ends}
use Rattle.hub_node.specs.HubLaws.{IsEndOf, asked_by, asked_in, is_of}
use Rattle.hub_node.specs.Relay.{hub_services, next_at, next_below, next_on, opened_at, takes_below, upper_services}
use Rattle.hub_node.specs.RelayValue.{RelayValue}
use Rattle.hub_node.specs.Runs.{HubRun, above_by, above_run, after_call, asked_above, below_by, below_run, calls_of, forwarding, only_if, took_of}
use Rattle.hub_node.specs.declared.side.HubSide.TheVariants.{Above, Below}
use Rattle.hub_node.specs.declared.waiting.Tag.{Tag}
use Rattle.hub_node.proofs.EndRuns.{end_after, end_more, ends}
use Rattle.hub_node.proofs.Holding.{Holds, unopened}
use Rattle.hub_node.proofs.Untaken.{is_taking, above_untaken, below_untaken, delivering_untaken, ending_untaken, putting_untaken, taken_append, taken_in, taken_more, untaken}

-- ---- what a turn below takes

abbrev pub taken_end : Option End → Option (Taken Unit)
taken_end None = None
taken_end (Some e) = (next_taken e).0

what_on : (place : ℕ) (lower : Option Channel) (r : RelayValue) → (next_on place lower r).0 ≡ taken_end (end_in lower)
what_on place None r = refl
what_on place (Some lower) r = refl

what_at : (place : Option ℕ) (r : RelayValue) → (next_at place r).0 ≡ taken_end (end_in (channel_at place r.lowers))
what_at None r = refl
what_at (Some place) r = what_on place (slice_get r.lowers place) r

pub what_is : (i : ℕ) (r : RelayValue) → (next_below i r).0 ≡ cond (takes_below r) (taken_end (channel_end i r.lowers)) None
unfolding next_below
what_is i r = by_flag (takes_below r)
  where
    by_flag : (flag : Bool) → (cond flag (next_at (place_of i r.lowers) r) (None, r)).0 ≡ cond flag (taken_end (channel_end i r.lowers)) None
    by_flag true = what_at (place_of i r.lowers) r
    by_flag false = refl

-- what the end of j takes by a call
abbrev pub takes_by : ℕ → Call → RelayValue → Option End → List (Taken Unit)
takes_by j call q None = []
takes_by j call q (Some e) = taken_in (calls_of e j call q) e

if_taking : (own takes : Bool) (e : End) → taken_in (only_if (own && takes) (taking ∷ [])) e ≡ listed (cond own (cond takes (next_taken e).0 None) None)
if_taking true true e = append-nil (listed (next_taken e).0)
if_taking true false e = refl
if_taking false takes e = refl

turn_takes : (j key i : ℕ) (q : RelayValue) (o : Option End) → takes_by j (turns key (Below i)) q o ≡ listed (cond (i == j) (cond (takes_below q) (taken_end o) None) None)
turn_takes j key i q None = none (i == j) (takes_below q)
  where
    none : (own takes : Bool) → [] ≡ listed (cond own (cond takes (taken_end None) None) None)
    none true true = refl
    none true false = refl
    none false takes = refl
turn_takes j key i q (Some e) =
    let first : List (EndCall Unit) = only_if (i == j && takes_below q) (taking ∷ []) in
    let second : List (EndCall Unit) = took_of (i == j) (next_below i q).0 q.upper in
    taken_append first second e
    ∙ ap (λ xs. taken_in first e ++ xs) (untaken second (ends first e) (below_untaken is_taking (λ message mark. refl) (λ piece mark. refl) refl refl refl (i == j) (next_below i q).0 q.upper))
    ∙ append-nil (taken_in first e) ∙ if_taking (i == j) (takes_below q) e

-- no other call takes anything of it
other_takes : (j : ℕ) (call : Call) (q : RelayValue) (e : End) → ((key i : ℕ) → call ≢ turns key (Below i)) → taken_in (calls_of e j call q) e ≡ []
other_takes j (opens i) q e not = refl
other_takes j (comes Above piece mark) q e not = refl
other_takes j (comes (Below i) piece mark) q e not = untaken (calls_of e j (comes (Below i) piece mark) q) e (delivering_untaken is_taking (λ message mark. refl) (λ piece mark. refl) refl refl refl (i == j) e piece mark)
other_takes j (bytes_end Above) q e not = refl
other_takes j (bytes_end (Below i)) q e not = untaken (calls_of e j (bytes_end (Below i)) q) e (ending_untaken is_taking (λ message mark. refl) (λ piece mark. refl) refl refl refl (i == j))
other_takes j (turns key Above) q e not = untaken (calls_of e j (turns key Above) q) e (above_untaken is_taking (λ message mark. refl) (λ piece mark. refl) refl refl refl j (next_taken q.upper).0 (record q { upper = (next_taken q.upper).1 }))
other_takes j (turns key (Below i)) q e not = absurd (not key i refl)
other_takes j (gives Above) q e not = refl
other_takes j (gives (Below i)) q e not = untaken (calls_of e j (gives (Below i)) q) e (putting_untaken is_taking (λ message mark. refl) (λ piece mark. refl) refl refl refl (i == j))

-- ---- what is sent of it

-- the same commands, or one that was taken is refused, and all is closed
pub data Sends (over : Type 0) (sent asked : List Asked) : Type 0 where
  same : (is : sent ≡ asked) → Sends over sent asked
  refused : (none : sent ≡ []) (closed : over) → Sends over sent asked

abbrev pub IsOver : EndValue Tag → Type 0
IsOver e = is_closed e.state ≡ true

-- where a command is refused, all is closed
abbrev pub Closes : (key : ℕ) → Option (Taken Unit) → EndValue Tag → Type 0
Closes key what upper = asked_above key what upper ≡ closing ∷ []

asked_sends : (key j : ℕ) (mark : Option ℕ) (m : Result MessageValue MessageFault) (upper : EndValue Tag)
    → Sends (forwarding key mark m upper ≡ closing ∷ []) (filter (is_of j) (sent_in (asked_deeds j mark m upper))) (asked_in j mark m)
asked_sends key j mark (Ok (command token service name body)) upper = by_flag (is_redirect service name) refl
  where
    c : Asked
    c = record { channel = j; token = token; service = service; name = name; body = body; mark = mark }

    calls : Option SendRefusal → List (EndCall Tag)
    calls o = unless_refused o (closing ∷ []) (commanding service name body (record { key = key; serial = upper.last + 1 }) mark ∷ [])

    own : filter (is_of j) (c ∷ []) ≡ c ∷ []
    own = ap (λ b. cond b (c ∷ []) []) (eq-eqb j j refl)

    by_why : (o : Option SendRefusal) → refusal_to service name body upper ≡ o
        → Sends (calls (refusal_to service name body upper) ≡ closing ∷ []) (filter (is_of j) (sent_in (unless_refused o all_ends (forwards c) ∷ []))) (c ∷ [])
    by_why None is = same own
    by_why (Some why) is = refused refl (ap calls is)

    by_flag : (redirects : Bool) → is_redirect service name ≡ redirects
        → Sends (cond redirects [] (calls (refusal_to service name body upper)) ≡ closing ∷ [])
        (filter (is_of j) (sent_in (cond redirects (answers c ∷ []) (unless_refused (refusal_to service name body upper) all_ends (forwards c) ∷ []))))
        (cond redirects [] (c ∷ []))
    by_flag true is = same refl
    by_flag false is = by_why (refusal_to service name body upper) refl
asked_sends key j mark (Ok (final token body)) upper = same refl
asked_sends key j mark (Ok (progress token body)) upper = same refl
asked_sends key j mark (Ok (event service name body)) upper = same refl
asked_sends key j mark (Ok (not_known token)) upper = same refl
asked_sends key j mark (Ok (flow level)) upper = same refl
asked_sends key j mark (Err fault) upper = same refl

nothing_more : {over over' : Type 0} {sent asked more : List Asked} → (over → over') → more ≡ asked → Sends over sent asked → Sends over' sent more
nothing_more f is (same so) = same (so ∙ sym is)
nothing_more f is (refused none closed) = refused none (f closed)

what_sends : (key j : ℕ) (what : Option (Taken Unit)) (upper : EndValue Tag) → Sends (Closes key what upper) (filter (is_of j) (sent_in (below_deeds j what upper))) (flat_map (asked_by j) (listed what))
what_sends key j None upper = same refl
what_sends key j (Some (taken.Hello incoming)) upper = same refl
what_sends key j (Some (taken.Command incoming)) upper = nothing_more (λ x. x) (append-nil (asked_in j incoming.mark (reading incoming.raw))) (asked_sends key j incoming.mark (reading incoming.raw) upper)
what_sends key j (Some (taken.Event incoming)) upper = same refl
what_sends key j (Some (taken.Progress token incoming)) upper = same refl
what_sends key j (Some (taken.Final tag incoming)) upper = same refl
what_sends key j (Some (taken.Closed cause)) upper = same refl

-- another channel's

asked_others : (i j : ℕ) (mark : Option ℕ) (m : Result MessageValue MessageFault) (upper : EndValue Tag) → (i == j) ≡ false → filter (is_of j) (sent_in (asked_deeds i mark m upper)) ≡ []
asked_others i j mark (Ok (command token service name body)) upper isnt = by_flag (is_redirect service name) (refusal_to service name body upper)
  where
    c : Asked
    c = record { channel = i; token = token; service = service; name = name; body = body; mark = mark }

    by_flag : (redirects : Bool) (o : Option SendRefusal) → filter (is_of j) (sent_in (cond redirects (answers c ∷ []) (unless_refused o all_ends (forwards c) ∷ []))) ≡ []
    by_flag true o = refl
    by_flag false None = ap (λ b. cond b (c ∷ []) []) isnt
    by_flag false (Some why) = refl
asked_others i j mark (Ok (final token body)) upper isnt = refl
asked_others i j mark (Ok (progress token body)) upper isnt = refl
asked_others i j mark (Ok (event service name body)) upper isnt = refl
asked_others i j mark (Ok (not_known token)) upper isnt = refl
asked_others i j mark (Ok (flow level)) upper isnt = refl
asked_others i j mark (Err fault) upper isnt = refl

what_others : (i j : ℕ) (what : Option (Taken Unit)) (upper : EndValue Tag) → (i == j) ≡ false → filter (is_of j) (sent_in (below_deeds i what upper)) ≡ []
what_others i j None upper isnt = refl
what_others i j (Some (taken.Hello incoming)) upper isnt = refl
what_others i j (Some (taken.Command incoming)) upper isnt = asked_others i j incoming.mark (reading incoming.raw) upper isnt
what_others i j (Some (taken.Event incoming)) upper isnt = refl
what_others i j (Some (taken.Progress token incoming)) upper isnt = refl
what_others i j (Some (taken.Final tag incoming)) upper isnt = refl
what_others i j (Some (taken.Closed cause)) upper isnt = refl

turn_sends : (j key i : ℕ) (q : RelayValue)
    → Sends (above_by (turns key (Below i)) q ≡ closing ∷ []) (filter (is_of j) (sent_in (deeds_by (turns key (Below i)) q)))
    (flat_map (asked_by j) (takes_by j (turns key (Below i)) q (channel_end j q.lowers)))
turn_sends j key i q = by_own (i == j) refl
  where
    so : takes_by j (turns key (Below i)) q (channel_end j q.lowers) ≡ listed (cond (i == j) (cond (takes_below q) (taken_end (channel_end j q.lowers)) None) None)
    so = turn_takes j key i q (channel_end j q.lowers)

    by_own : (own : Bool) → (i == j) ≡ own
        → Sends (above_by (turns key (Below i)) q ≡ closing ∷ []) (filter (is_of j) (sent_in (deeds_by (turns key (Below i)) q))) (flat_map (asked_by j) (takes_by j (turns key (Below i)) q (channel_end j q.lowers)))
    by_own true is =
        let its : i ≡ j = eqb-true i j is in
        let taken_so : takes_by j (turns key (Below i)) q (channel_end j q.lowers) ≡ listed (next_below j q).0 =
        so ∙ ap (λ b. listed (cond b (cond (takes_below q) (taken_end (channel_end j q.lowers)) None) None)) is ∙ ap listed (sym (what_is j q)) in
        let P : ℕ → Type 0 = λ n. Sends (asked_above key (next_below n q).0 q.upper ≡ closing ∷ []) (filter (is_of j) (sent_in (below_deeds n (next_below n q).0 q.upper)))
        (flat_map (asked_by j) (takes_by j (turns key (Below i)) q (channel_end j q.lowers))) in
        subst P (sym its) (nothing_more (λ x. x) (ap (flat_map (asked_by j)) taken_so) (what_sends key j (next_below j q).0 q.upper))
    by_own false isnt =
        same (what_others i j (next_below i q).0 q.upper isnt
        ∙ ap (flat_map (asked_by j)) (sym (so ∙ ap (λ b. listed (cond b (cond (takes_below q) (taken_end (channel_end j q.lowers)) None) None)) isnt)))

-- ---- any call

pub joined_none : (j i : ℕ) (did : Bool) → filter (is_of j) (sent_in (cond did (joins i ∷ []) [])) ≡ []
joined_none j i true = refl
joined_none j i false = refl

pub above_none : (j : ℕ) (bound : Bool) (what : Option (Taken Tag)) → filter (is_of j) (sent_in (above_deeds bound what)) ≡ []
above_none j bound None = refl
above_none j true (Some (taken.Hello incoming)) = refl
above_none j false (Some (taken.Hello incoming)) = refl
above_none j bound (Some (taken.Command incoming)) = refl
above_none j bound (Some (taken.Event incoming)) = refl
above_none j bound (Some (taken.Progress token incoming)) = refl
above_none j bound (Some (taken.Final tag incoming)) = refl
above_none j bound (Some (taken.Closed cause)) = refl

other_sends : (j : ℕ) (call : Call) (q : RelayValue) → filter (is_of j) (sent_in (deeds_by call q)) ≡ [] → ((key i : ℕ) → call ≢ turns key (Below i))
    → Sends (above_by call q ≡ closing ∷ []) (filter (is_of j) (sent_in (deeds_by call q))) (flat_map (asked_by j) (takes_by j call q (channel_end j q.lowers)))
other_sends j call q none not = by_end (channel_end j q.lowers)
  where
    by_end : (o : Option End) → Sends (above_by call q ≡ closing ∷ []) (filter (is_of j) (sent_in (deeds_by call q))) (flat_map (asked_by j) (takes_by j call q o))
    by_end None = same none
    by_end (Some e) = same (none ∙ ap (flat_map (asked_by j)) (sym (other_takes j call q e not)))

call_sends : (j : ℕ) (call : Call) (q : RelayValue)
    → Sends (above_by call q ≡ closing ∷ []) (filter (is_of j) (sent_in (deeds_by call q))) (flat_map (asked_by j) (takes_by j call q (channel_end j q.lowers)))
call_sends j (opens i) q = other_sends j (opens i) q (joined_none j i (opened_at i q).0) (λ key k is. cc)
call_sends j (comes side piece mark) q = other_sends j (comes side piece mark) q refl (λ key k is. cc)
call_sends j (bytes_end side) q = other_sends j (bytes_end side) q refl (λ key k is. cc)
call_sends j (turns key Above) q = other_sends j (turns key Above) q (above_none j q.is_bound (next_taken q.upper).0) (λ k i is. cc)
call_sends j (turns key (Below i)) q = turn_sends j key i q
call_sends j (gives side) q = other_sends j (gives side) q refl (λ key k is. cc)

-- nothing is sent where the upper end is closed

pub not_live : (s : EndState) → is_closed s ≡ true → is_live s ≡ false
not_live Opening is = refl
not_live Live is = let both : false ≡ true = is in absurd cc
not_live Reopening is = refl
not_live (IsClosed cause) is = refl

closed_sends : (j : ℕ) (call : Call) (q : RelayValue) → IsOver q.upper → filter (is_of j) (sent_in (deeds_by call q)) ≡ []
closed_sends j (opens i) q over = joined_none j i (opened_at i q).0
closed_sends j (comes side piece mark) q over = refl
closed_sends j (bytes_end side) q over = refl
closed_sends j (turns key Above) q over = above_none j q.is_bound (next_taken q.upper).0
closed_sends j (turns key (Below i)) q over =
    let none : (next_below i q).0 ≡ None =
    what_is i q ∙ ap (λ b. cond (b && nat_lt (length q.upper.pending) 1024) (taken_end (channel_end i q.lowers)) None) (not_live q.upper.state over) in
    ap (λ what. filter (is_of j) (sent_in (below_deeds i what q.upper))) none
closed_sends j (gives side) q over = refl

-- ---- after any calls

pub data SendsOwn (j : ℕ) (r : HubRun) : Type 0 where
  whole : (all : filter (is_of j) (sent_in r.deeds) ≡ flat_map (asked_by j) (below_run r).past.taken) → SendsOwn j r
  cut : (front : IsFront (filter (is_of j) (sent_in r.deeds)) (flat_map (asked_by j) (below_run r).past.taken)) (over : IsOver (above_run r).end) → SendsOwn j r

sent_more : (j : ℕ) (deeds new : List Deed) → filter (is_of j) (sent_in (deeds ++ new)) ≡ filter (is_of j) (sent_in deeds) ++ filter (is_of j) (sent_in new)
sent_more j deeds new = ap (filter (is_of j)) (flat_map-append sent_by deeds new) ∙ filter-append (is_of j) (sent_in deeds) (sent_in new)

takes_is : (j : ℕ) (call : Call) (r : HubRun) (o : Option End) → IsEndOf o (below_run r) → takes_by j call r.hub.relay o ≡ taken_in (below_by o j call r.hub.relay) (below_run r).end
takes_is j call r None is = refl
takes_is j call r (Some e) is = ap (λ x. taken_in (calls_of e j call r.hub.relay) x) is

-- where the channel wasn't opened nothing is called of its end
unopened_takes : (j : ℕ) (call : Call) (r : HubRun) (o : Option End) → o ≡ None → takes_by j call r.hub.relay o ≡ taken_in (below_by o j call r.hub.relay) (below_run r).end
unopened_takes j call r None is = refl
unopened_takes j call r (Some e) is = absurd (let both : Some e ≡ None = is in cc)

flag_cases : (b : Bool) (P : Type 0) → (b ≡ true → P) → (b ≡ false → P) → P
flag_cases true P first second = first refl
flag_cases false P first second = second refl

taken_so : (j : ℕ) (call : Call) (r : HubRun) → Holds j r
    → (below_run (after_call j call r)).past.taken ≡ (below_run r).past.taken ++ takes_by j call r.hub.relay (channel_end j r.hub.relay.lowers)
taken_so j call r h =
    let o = channel_end j r.hub.relay.lowers in
    taken_more r.below (below_by o j call r.hub.relay) (begun (new_end hub_services None))
    ∙ ap (λ xs. (below_run r).past.taken ++ xs)
    (sym (flag_cases r.is_begun (takes_by j call r.hub.relay o ≡ taken_in (below_by o j call r.hub.relay) (below_run r).end) (λ is. takes_is j call r o (h.below is)) (λ not. unopened_takes j call r o (unopened j r h not))))

asked_so : (j : ℕ) (call : Call) (r : HubRun) → Holds j r
    → flat_map (asked_by j) (below_run (after_call j call r)).past.taken
    ≡ flat_map (asked_by j) (below_run r).past.taken ++ flat_map (asked_by j) (takes_by j call r.hub.relay (channel_end j r.hub.relay.lowers))
asked_so j call r h =
    ap (flat_map (asked_by j)) (taken_so j call r h) ∙ flat_map-append (asked_by j) (below_run r).past.taken (takes_by j call r.hub.relay (channel_end j r.hub.relay.lowers))

-- it stays closed, and is closed where that is called

pub stays_over : (j : ℕ) (call : Call) (r : HubRun) → IsOver (above_run r).end → IsOver (above_run (after_call j call r)).end
stays_over j call r over =
    let s = stays_closed upper_services None r.above (above_by call r.hub.relay) over in
    ap (λ (x : EndValue Tag). is_closed x.state) (end_more r.above (above_by call r.hub.relay) (begun (new_end upper_services None)))
    ∙ ap is_closed (sym (ap (λ x. x.state) (end_more_later r)) ∙ s.state) ∙ over
  where
    end_more_later : (r : HubRun) → (after_calls (above_by call r.hub.relay) (above_run r)).end ≡ ends (above_by call r.hub.relay) (above_run r).end
    end_more_later r = end_after (above_by call r.hub.relay) (above_run r)

pub closes_over : (j : ℕ) (call : Call) (r : HubRun) → above_by call r.hub.relay ≡ closing ∷ [] → IsOver (above_run (after_call j call r)).end
closes_over j call r is =
    let c = closes_only_so upper_services None r.above in
    ap (λ (x : EndValue Tag). is_closed x.state) (end_more r.above (above_by call r.hub.relay) (begun (new_end upper_services None)))
    ∙ ap (λ calls. is_closed (ends calls (above_run r).end).state) is ∙ c.by_own

pub own_step : (j : ℕ) (call : Call) (r : HubRun) → Holds j r → SendsOwn j r → SendsOwn j (after_call j call r)
own_step j call r h (whole all) = by_sends (call_sends j call q)
  where
    q : RelayValue
    q = r.hub.relay

    more : List (Taken Unit)
    more = takes_by j call q (channel_end j q.lowers)

    by_sends : Sends (above_by call q ≡ closing ∷ []) (filter (is_of j) (sent_in (deeds_by call q))) (flat_map (asked_by j) more) → SendsOwn j (after_call j call r)
    by_sends (same is) =
        whole (sent_more j r.deeds (deeds_by call q) ∙ ap (λ xs. xs ++ filter (is_of j) (sent_in (deeds_by call q))) all ∙ ap (λ xs. flat_map (asked_by j) (below_run r).past.taken ++ xs) is ∙ sym (asked_so j call r h))
    by_sends (refused none closed) =
        cut (
          flat_map (asked_by j) more,
          asked_so j call r h ∙ ap (λ xs. xs ++ flat_map (asked_by j) more) (sym all ∙ sym (append-nil (filter (is_of j) (sent_in r.deeds))) ∙ ap (λ xs. filter (is_of j) (sent_in r.deeds) ++ xs) (sym none) ∙ sym (sent_more j r.deeds (deeds_by call q))),
        )
        (closes_over j call r closed)
own_step j call r h (cut front over) =
    let q = r.hub.relay in
    let none = closed_sends j call q (ap (λ (e : EndValue Tag). is_closed e.state) h.above ∙ over) in
    let same_sent : filter (is_of j) (sent_in (r.deeds ++ deeds_by call q)) ≡ filter (is_of j) (sent_in r.deeds) =
    sent_more j r.deeds (deeds_by call q) ∙ ap (λ xs. filter (is_of j) (sent_in r.deeds) ++ xs) none ∙ append-nil (filter (is_of j) (sent_in r.deeds)) in
    cut (subst (λ xs. IsFront xs (flat_map (asked_by j) (below_run (after_call j call r)).past.taken)) (sym same_sent)
    (front_same (filter (is_of j) (sent_in r.deeds)) _ _ (sym (asked_so j call r h)) (front_more (filter (is_of j) (sent_in r.deeds)) (flat_map (asked_by j) (below_run r).past.taken) _ front)))
    (stays_over j call r over)

pub own_front : (j : ℕ) (r : HubRun) → SendsOwn j r → IsFront (filter (is_of j) (sent_in r.deeds)) (flat_map (asked_by j) (below_run r).past.taken)
own_front j r (whole all) = front_same (filter (is_of j) (sent_in r.deeds)) (filter (is_of j) (sent_in r.deeds)) _ all (front_all (filter (is_of j) (sent_in r.deeds)))
own_front j r (cut front over) = front
