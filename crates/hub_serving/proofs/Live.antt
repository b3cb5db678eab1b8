-- No more than 64 lower channels are live, since one that is closed stays so.
use Rattle.std.proofs.Common.{◌≡◌, ℕ, zero, suc, ◌+◌, ◌<◌, ◌≤◌, ◌==◌, Bool, true, false, not, cond, ◌||◌, nat_le, List, [], ◌∷◌, ◌++◌, map, Option, Some, None, refl, sym, ap, ◌∙◌, subst, arith, leb-false}
use Rattle.std.specs.Prelude.{Ok, Err, filter, fold, slice_get, slice_set}
use Rattle.std.specs.List.{AllByRecursion}
use Rattle.std.proofs.lemmas.Bool.{or_parts}
use Rattle.channel_core.proofs.Keeping.{IsTidy, either_keeps}
use Rattle.channel_core.proofs.Tidy.{tidy_called}
use Rattle.channel_core.specs.Closing.{closed_for, closed_own, is_closed}
use Rattle.channel_core.specs.EndValue.{EndValue, unless_spent}
use Rattle.channel_core.specs.Receiving.{delivered as end_delivered, ended as end_ended, is_over, with_last}
use Rattle.channel_core.specs.Runs.{closing, delivering, ending, taking}
use Rattle.channel_core.specs.Sending.{queued}
use Rattle.channel_core.specs.Taking.{next_taken, stop_taken, taken_from}
use Rattle.channel_core.specs.Wire.{said}
use Rattle.channel_core.specs.declared.states.Cause.TheVariants.{Own, Ended}
use Rattle.channel_core.specs.declared.taking.Taken.{Taken}
use Rattle.channel_list.specs.Channels.{End, all_left, changed, changed_at, is_kept, is_open, left, live_count, new_channel, place_of, put_at, told, told_to_all, unless_closed, with_end}
use Rattle.channel_list.specs.Numbers.{has_number}
use Rattle.channel_list.specs.declared.channel.Channel.{Channel}
use Rattle.tcf_message.specs.Message.{MessageValue}
use Rattle.hub_node.specs.Hub.{came, ended, opened, with_relay}
use Rattle.hub_node.specs.HubValue.{HubValue}
use Rattle.hub_node.specs.Relay.{begun, came_at, ended_at, hub_services, is_refused, next_at, next_below, next_on, opened_at, takes_below, took_any_above, took_any_below, turned_above, turned_at, turned_below}
use Rattle.hub_node.specs.RelayValue.{RelayValue}
use Rattle.hub_node.specs.declared.side.HubSide.{HubSide}
use Rattle.hub_node.specs.declared.side.HubSide.TheVariants.{Above, Below}
use Rattle.hub_node.specs.declared.waiting.Tag.{Tag}
use Rattle.serving_wires.proofs.Coming.{ComesTo, comes_then, stands_so}
use Rattle.serving_wires.specs.Process.{Answer, Process, and_then, done}
use Rattle.serving_wires.specs.declared.intake.Came.{Came}
use Rattle.serving_wires.specs.declared.intake.Came.TheVariants.{Piece, End as came_end}
use Rattle.serving_wires.specs.Standing.{Heard, after, standing_in}
use Rattle.tcf_wires.specs.declared.event.WireEvent.{WireEvent}
use Rattle.tcf_wires.specs.declared.event.WireEvent.TheVariants as events
use Rattle.hub_serving.specs.Gathering.{closing as closing_then, emptied, emptied_at, emptied_end, gathered_rows}
use Rattle.hub_serving.specs.Limits.{NoMoreThan64AreLive}
use Rattle.hub_serving.specs.Lines.{came_to, is_live_on}
use Rattle.hub_serving.specs.Numbered.{number_next, turned}
use Rattle.hub_serving.specs.Passing.{Lines}
use Rattle.hub_serving.specs.Serving.{acted, connected, gathered, handled, heard_on, hub_of, live_alone, new_serving, opened_by, opened_on, passed}
use Rattle.hub_serving.specs.ServingValue.{ServingValue}
use Rattle.hub_serving.proofs.Lowers.{Steps, above_by, below_by}
use Rattle.hub_serving.proofs.Passes.{passing_keeps}

-- ---- one end: it stays tidy, and closed

pub record Calmer (e next : End) : Type 0 where
  pub tidy : IsTidy e → IsTidy next
  pub closed : IsTidy e → is_closed e.state ≡ true → is_closed next.state ≡ true

calm_same : (e : End) → Calmer e e
calm_same e = record { tidy = λ i. i; closed = λ i is. is }

calm_either : (flag : Bool) (e one other : End) → Calmer e one → Calmer e other → Calmer e (cond flag one other)
calm_either true e one other first second = first
calm_either false e one other first second = second

-- what changes neither state nor inbox
calm_queue : (e next : End) → next.state ≡ e.state → next.inbox ≡ e.inbox → next.stop ≡ e.stop → Calmer e next
calm_queue e next state inbox stop =
    record {
      tidy = λ i. record {
        emptied = λ is. inbox ∙ i.emptied (sym (ap is_closed state) ∙ is);
        stopped = λ is. stop ∙ i.stopped (sym (ap is_closed state) ∙ is);
      };
      closed = λ i is. ap is_closed state ∙ is;
    }

calm_queued : (message : MessageValue) (mark : Option ℕ) (e : End) → Calmer e (queued message mark e)
calm_queued message mark e =
    calm_either (is_closed e.state) e e (record e { queued = e.queued ++ said message mark ∷ [] }) (calm_same e) (calm_queue e (record e { queued = e.queued ++ said message mark ∷ [] }) refl refl refl)

calm_closed : (e : End) → Calmer e (closed_own e)
calm_closed e = record { tidy = λ i. tidy_called closing e i; closed = λ i is. ap (λ (b : Bool). is_closed (cond b e (closed_for Own e)).state) is ∙ is }

calm_left : (e : End) → Calmer e (unless_spent e e (closed_own e))
calm_left e = calm_either e.is_spent e e (closed_own e) (calm_same e) (calm_closed e)

calm_came : (piece : List ℕ) (mark : Option ℕ) (e : End) → Calmer e (unless_closed (end_delivered piece mark) e)
calm_came piece mark e = by_flag (is_closed e.state) refl
  where
    by_flag : (flag : Bool) → is_closed e.state ≡ flag → Calmer e (cond flag e (end_delivered piece mark e))
    by_flag true is = calm_same e
    by_flag false is =
        record { tidy = λ i. tidy_called (delivering piece mark) e i; closed = λ i shut. absurd (let both : true ≡ false = sym shut ∙ is in cc) }

calm_ended : (e : End) → Calmer e (unless_spent e e (end_ended e))
calm_ended e =
    calm_either e.is_spent e e (end_ended e) (calm_same e)
    (record { tidy = λ i. tidy_called ending e i; closed = λ i is. state_by (is_over e) ∙ is })
  where
    state_by : (flag : Bool) → is_closed (cond flag e (with_last Ended e)).state ≡ is_closed e.state
    state_by true = refl
    state_by false = refl

calm_next : (e : End) → Calmer e (next_taken e).1
calm_next e =
    record {
      tidy = λ i. tidy_called taking e i;
      closed = λ i is.
          ap (λ inbox. is_closed (taken_from inbox e).1.state) (i.emptied is) ∙ ap (λ stop. is_closed (stop_taken stop e).1.state) (i.stopped is) ∙ is;
    }

calm_emptied : (e : End) → Calmer e (emptied_end e)
calm_emptied e = calm_either e.is_spent e e (record e { queued = [] }) (calm_same e) (calm_queue e (record e { queued = [] }) refl refl refl)

-- ---- all lower channels

-- how many are live
abbrev lives : List Channel → ℕ
lives [] = 0
lives (c ∷ cs) = cond (is_open c) (1 + lives cs) (lives cs)

counted_from : (n : ℕ) (cs : List Channel) → fold (λ (a : ℕ) (x : Channel). a + cond (is_open x) 1 0) n cs ≡ n + lives cs
counted_from n [] = omega arith
counted_from n (c ∷ cs) = counted_from (n + cond (is_open c) 1 0) cs ∙ by_flag (is_open c)
  where
    by_flag : (flag : Bool) → n + cond flag 1 0 + lives cs ≡ n + cond flag (1 + lives cs) (lives cs)
    by_flag true = omega arith
    by_flag false = omega arith

counted : (cs : List Channel) → live_count cs ≡ lives cs
counted cs = counted_from 0 cs ∙ zeros
  where
    zeros : 0 + lives cs ≡ lives cs
    zeros = omega arith

abbrev Tidy : List Channel → Type 0
Tidy cs = AllByRecursion (λ c. IsTidy c.end) cs

abbrev Fewer : List Channel → List Channel → Type 0
Fewer cs later = Tidy cs → Tidy later × (lives later ≤ lives cs)

fewer_same : (cs : List Channel) → Fewer cs cs
fewer_same cs = λ tidy. (tidy, omega arith)

fewer_then : (cs mid later : List Channel) → Fewer cs mid → Fewer mid later → Fewer cs later
fewer_then cs mid later first second = λ tidy.
    let one = first tidy in
    let two = second one.0 in
    (two.0, (let a = one.1 in let b = two.1 in omega (arith, a, b)))

-- one of them
one_count : (c : Channel) (end : End) (cs : List Channel) (more : ℕ) → Calmer c.end end → IsTidy c.end → more ≤ lives cs
    → cond (is_open (with_end end c)) (1 + more) more ≤ cond (is_open c) (1 + lives cs) (lives cs)
unfolding is_open
one_count c end cs more calm tidy less = by_flags (is_closed c.end.state) refl (is_closed end.state) refl
  where
    by_flags : (was : Bool) → is_closed c.end.state ≡ was → (now : Bool) → is_closed end.state ≡ now → cond (not now) (1 + more) more ≤ cond (not was) (1 + lives cs) (lives cs)
    by_flags true is true also = less
    by_flags true is false also = absurd (let both : true ≡ false = sym (calm.closed tidy is) ∙ also in cc)
    by_flags false is true also = omega (arith, less)
    by_flags false is false also = omega (arith, less)

set_fewer : (place : ℕ) (c : Channel) (end : End) (cs : List Channel) → slice_get cs place ≡ Some c → Calmer c.end end → Fewer cs (slice_set cs place (with_end end c))
set_fewer place c end [] is calm = absurd cc
set_fewer zero c end (other ∷ cs) is calm =
    let same : other ≡ c = cc in
    subst (λ (x : Channel). Fewer (x ∷ cs) (with_end end c ∷ cs)) (sym same)
    (λ tidy. ((calm.tidy tidy.0, tidy.1), one_count c end cs (lives cs) calm tidy.0 (omega arith)))
set_fewer (suc place) c end (other ∷ cs) is calm = λ tidy.
    let rest = set_fewer place c end cs is calm tidy.1 in
    ((tidy.0, rest.0), by_flag (is_open other) rest.1)
  where
    by_flag : (flag : Bool) → lives (slice_set cs place (with_end end c)) ≤ lives cs
        → cond flag (1 + lives (slice_set cs place (with_end end c))) (lives (slice_set cs place (with_end end c))) ≤ cond flag (1 + lives cs) (lives cs)
    by_flag true less = omega (arith, less)
    by_flag false less = less

put_fewer : (place : ℕ) (change : End → End) (cs : List Channel) (c : Option Channel) → slice_get cs place ≡ c → ((e : End) → Calmer e (change e)) → Fewer cs (put_at place change cs c)
put_fewer place change cs None is calm = fewer_same cs
put_fewer place change cs (Some c) is calm = set_fewer place c (change c.end) cs is (calm c.end)

changed_fewer_at : (place : Option ℕ) (change : End → End) (cs : List Channel) → ((e : End) → Calmer e (change e)) → Fewer cs (changed_at place change cs)
changed_fewer_at None change cs calm = fewer_same cs
changed_fewer_at (Some place) change cs calm = put_fewer place change cs (slice_get cs place) refl calm

changed_fewer : (j : ℕ) (change : End → End) (cs : List Channel) → ((e : End) → Calmer e (change e)) → Fewer cs (changed j change cs)
changed_fewer j change cs calm = changed_fewer_at (place_of j cs) change cs calm

all_fewer : (change : End → End) (cs : List Channel) → ((e : End) → Calmer e (change e)) → Fewer cs (map (λ (c : Channel). with_end (change c.end) c) cs)
all_fewer change [] calm = λ tidy. (tt, omega arith)
all_fewer change (c ∷ cs) calm = λ tidy.
    let rest = all_fewer change cs calm tidy.1 in
    (((calm c.end).tidy tidy.0, rest.0), one_count c (change c.end) cs (lives (map (λ (x : Channel). with_end (change x.end) x) cs)) (calm c.end) tidy.0 rest.1)

steps : Steps Fewer
steps =
    record {
      same = fewer_same;
      told = λ message mark cs. all_fewer (queued message mark) cs (calm_queued message mark);
      one = λ j message mark cs. changed_fewer j (queued message mark) cs (calm_queued message mark);
      left = λ cs. all_fewer (λ e. unless_spent e e (closed_own e)) cs calm_left;
    }

-- ---- calls

above_fewer : (what : Option (Taken Tag)) (r : RelayValue) → Fewer r.lowers (took_any_above what r).1.lowers
above_fewer None r = fewer_same r.lowers
above_fewer (Some what) r = above_by Fewer steps what r

turned_above_fewer : (r : RelayValue) → Fewer r.lowers (turned_above r).1.lowers
unfolding turned_above
turned_above_fewer r = let next = next_taken r.upper in above_fewer next.0 (record r { upper = next.1 })

below_fewer : (key j : ℕ) (what : Option (Taken Unit)) (r : RelayValue) → Fewer r.lowers (took_any_below key j what r).1.lowers
below_fewer key j None r = fewer_same r.lowers
below_fewer key j (Some what) r = below_by Fewer steps key j what r

on_fewer : (place : ℕ) (lower : Option Channel) (r : RelayValue) → slice_get r.lowers place ≡ lower → Fewer r.lowers (next_on place lower r).1.lowers
on_fewer place None r is = fewer_same r.lowers
on_fewer place (Some lower) r is = set_fewer place lower (next_taken lower.end).1 r.lowers is (calm_next lower.end)

at_fewer : (place : Option ℕ) (r : RelayValue) → Fewer r.lowers (next_at place r).1.lowers
at_fewer None r = fewer_same r.lowers
at_fewer (Some place) r = on_fewer place (slice_get r.lowers place) r refl

turned_below_fewer : (key j : ℕ) (r : RelayValue) → Fewer r.lowers (turned_below key j r).1.lowers
unfolding next_below
turned_below_fewer key j r = by_flag (takes_below r)
  where
    next : Option (Taken Unit) × RelayValue
    next = next_at (place_of j r.lowers) r

    by_flag : (flag : Bool) → Fewer r.lowers (took_any_below key j (cond flag next (None, r)).0 (cond flag next (None, r)).1).1.lowers
    by_flag true = fewer_then r.lowers next.1.lowers (took_any_below key j next.0 next.1).1.lowers (at_fewer (place_of j r.lowers) r) (below_fewer key j next.0 next.1)
    by_flag false = fewer_same r.lowers

turn_fewer : (key : ℕ) (side : HubSide) (r : RelayValue) → Fewer r.lowers (turned_at key side r).1.lowers
turn_fewer key Above r = turned_above_fewer r
turn_fewer key (Below j) r = turned_below_fewer key j r

came_fewer : (side : HubSide) (piece : List ℕ) (mark : Option ℕ) (r : RelayValue) → Fewer r.lowers (came_at side piece mark r).lowers
unfolding came_at
came_fewer Above piece mark r = fewer_same r.lowers
came_fewer (Below j) piece mark r = changed_fewer j (unless_closed (end_delivered piece mark)) r.lowers (calm_came piece mark)

ended_fewer : (side : HubSide) (r : RelayValue) → Fewer r.lowers (ended_at side r).lowers
unfolding ended_at
ended_fewer Above r = fewer_same r.lowers
ended_fewer (Below j) r = changed_fewer j (λ end. unless_spent end end (end_ended end)) r.lowers calm_ended

emptied_fewer : (side : HubSide) (r : RelayValue) → Fewer r.lowers (emptied_at side r).lowers
emptied_fewer Above r = fewer_same r.lowers
emptied_fewer (Below j) r = changed_fewer j emptied_end r.lowers calm_emptied

-- ---- a hub

abbrev FewLive : HubValue → Type 0
FewLive h = Tidy h.relay.lowers × (lives h.relay.lowers ≤ 64)

few_by : (r next : RelayValue) (h : HubValue) → Fewer r.lowers next.lowers → Tidy r.lowers × (lives r.lowers ≤ 64) → FewLive (with_relay next h)
few_by r next h fewer few = let f = fewer few.0 in (f.0, (let a = f.1 in let b = few.1 in omega (arith, a, b)))

few_turned : (side : HubSide) (h : HubValue) → FewLive h → FewLive (turned side h).1
few_turned side h few = few_by h.relay (turned_at (number_next h) side h.relay).1 h (turn_fewer (number_next h) side h.relay) few

few_unless : (flag : Bool) (h next : HubValue) → FewLive h → FewLive next → FewLive (cond flag h next)
few_unless true h next few also = few
few_unless false h next few also = also

few_given : (side : HubSide) (what : Came) (h : HubValue) → FewLive h → FewLive (came_to side what h)
few_given side (Piece bytes) h few = few_by h.relay (came_at side bytes None h.relay) h (came_fewer side bytes None h.relay) few
few_given side came_end h few = few_unless h.is_spent h (with_relay (ended_at side h.relay) h) few (few_by h.relay (ended_at side h.relay) h (ended_fewer side h.relay) few)

few_emptied : (side : HubSide) (h : HubValue) → FewLive h → FewLive (emptied side h)
unfolding emptied
few_emptied side h few = few_unless h.is_spent h (with_relay (emptied_at side h.relay) h) few (few_by h.relay (emptied_at side h.relay) h (emptied_fewer side h.relay) few)

-- a channel opens where fewer are live

kept_fewer : (cs : List Channel) → Fewer cs (filter is_kept cs)
kept_fewer [] = λ tidy. (tt, omega arith)
kept_fewer (c ∷ cs) = λ tidy. let rest = kept_fewer cs tidy.1 in by_flag (is_kept c) tidy.0 rest
  where
    both_count : (flag : Bool) → lives (filter is_kept cs) ≤ lives cs → cond flag (1 + lives (filter is_kept cs)) (lives (filter is_kept cs)) ≤ cond flag (1 + lives cs) (lives cs)
    both_count true less = omega (arith, less)
    both_count false less = less

    one_count_more : (flag : Bool) → lives (filter is_kept cs) ≤ lives cs → lives (filter is_kept cs) ≤ cond flag (1 + lives cs) (lives cs)
    one_count_more true less = omega (arith, less)
    one_count_more false less = less

    by_flag : (keeps : Bool) → IsTidy c.end → Tidy (filter is_kept cs) × (lives (filter is_kept cs) ≤ lives cs)
        → Tidy (cond keeps (c ∷ filter is_kept cs) (filter is_kept cs)) × (lives (cond keeps (c ∷ filter is_kept cs) (filter is_kept cs)) ≤ cond (is_open c) (1 + lives cs) (lives cs))
    by_flag true own rest = ((own, rest.0), both_count (is_open c) rest.1)
    by_flag false own rest = (rest.0, one_count_more (is_open c) rest.1)

push_count : (cs : List Channel) (c : Channel) → lives (cs ++ c ∷ []) ≤ lives cs + 1
push_count [] c = by_flag (is_open c)
  where
    by_flag : (flag : Bool) → cond flag (1 + lives []) (lives []) ≤ lives [] + 1
    by_flag true = omega arith
    by_flag false = omega arith
push_count (other ∷ cs) c = let rest = push_count cs c in by_flag (is_open other) rest
  where
    by_flag : (flag : Bool) → lives (cs ++ c ∷ []) ≤ lives cs + 1 → cond flag (1 + lives (cs ++ c ∷ [])) (lives (cs ++ c ∷ [])) ≤ cond flag (1 + lives cs) (lives cs) + 1
    by_flag true less = omega (arith, less)
    by_flag false less = less

push_tidy : (cs : List Channel) (c : Channel) → Tidy cs → IsTidy c.end → Tidy (cs ++ c ∷ [])
push_tidy [] c tidy own = (own, tt)
push_tidy (other ∷ cs) c tidy own = (tidy.0, push_tidy cs c tidy.1 own)

tidy_new : (j : ℕ) (services : List ℕ) → IsTidy (new_channel j services None).end
tidy_new j services = record { emptied = λ is. refl; stopped = λ is. refl }

begun_few : (j : ℕ) (r : RelayValue) → is_refused j r ≡ false → Tidy r.lowers × (lives r.lowers ≤ 64) → Tidy (begun j r).lowers × (lives (begun j r).lowers ≤ 64)
unfolding begun
begun_few j r allowed few =
    let fresh : Channel = new_channel j hub_services None in
    let room = (or_parts (nat_le 64 (live_count r.lowers)) (is_closed r.upper.state) (or_parts (has_number j r.numbers) (nat_le 64 (live_count r.lowers) || is_closed r.upper.state) allowed).1).0 in
    let below : live_count r.lowers < 64 = leb-false 64 (live_count r.lowers) room in
    let same = counted r.lowers in
    let kept = kept_fewer r.lowers few.0 in
    let push = push_count (filter is_kept r.lowers) fresh in
    let less = kept.1 in
    (push_tidy (filter is_kept r.lowers) fresh kept.0 (tidy_new j hub_services), omega (arith, below, push, less, same))

opened_few : (j : ℕ) (r : RelayValue) → Tidy r.lowers × (lives r.lowers ≤ 64) → Tidy (opened_at j r).1.lowers × (lives (opened_at j r).1.lowers ≤ 64)
unfolding opened_at
opened_few j r few = by_flag (is_refused j r) refl
  where
    by_flag : (flag : Bool) → is_refused j r ≡ flag → Tidy (cond {A = Bool × RelayValue} flag (false, r) (true, begun j r)).1.lowers × (lives (cond {A = Bool × RelayValue} flag (false, r) (true, begun j r)).1.lowers ≤ 64)
    by_flag true is = few
    by_flag false is = begun_few j r is few

-- ---- any events

abbrev FewIn : ServingValue → Type 0
FewIn s = FewLive s.hub

closing_comes : (flag : Bool) (channel : ℕ) (p : Process HubValue) → ComesTo FewLive p → ComesTo FewLive (closing_then flag channel p)
closing_comes true channel p comes = comes
closing_comes false channel p comes = comes

rows_come : (rows : Lines) (h : HubValue) → FewLive h → ComesTo FewLive (gathered_rows rows h)
rows_come [] h few = few
rows_come (row ∷ rows) h few =
    closing_comes (not (is_live_on row.item.side h)) row.item.channel (gathered_rows rows (emptied row.item.side h)) (rows_come rows (emptied row.item.side h) (few_emptied row.item.side h few))

gathered_comes : (s : ServingValue) → FewIn s → ComesTo FewIn (gathered s)
gathered_comes s few = comes_then FewLive FewIn (gathered_rows s.lines s.hub) (λ h. done (live_alone s h)) (rows_come s.lines s.hub few) (λ h so. so)

passed_few : (s : ServingValue) → FewIn s → FewIn (passed s)
passed_few s few = passing_keeps FewLive few_turned few_given s.lines s.hub few

opened_comes : (channel : ℕ) (t : Bool × HubValue) (s : ServingValue) → FewLive t.1 → ComesTo FewIn (opened_by channel t s)
opened_comes channel (true, h) s few = few
opened_comes channel (false, h) s few = few

acted_comes : (event : WireEvent) (s : ServingValue) → FewIn s → ComesTo FewIn (acted event s)
unfolding acted heard_on
acted_comes (events.Opened channel) s few = opened_comes channel (opened channel s.hub) s (opened_few channel s.hub.relay few)
acted_comes (events.Piece channel bytes) s few = few
acted_comes (events.Ended channel) s few = few
acted_comes (events.Lost channel) s few = few
acted_comes events.Idle s few = few
acted_comes events.Stop s few = few

handled_comes : (event : WireEvent) (s : ServingValue) → FewIn s → ComesTo FewIn (handled event s)
unfolding handled
handled_comes event s few = comes_then FewIn FewIn (acted event s) (λ next. gathered (passed next)) (acted_comes event s few) (λ next so. gathered_comes (passed next) (passed_few next so))

abbrev Any : Heard → Type 0
Any heard = Unit {0}

any_heard : (heard : List Heard) → AllByRecursion Any heard
any_heard [] = tt
any_heard (h ∷ heard) = (tt, any_heard heard)

first_few : (peer : List ℕ) → FewIn (new_serving peer)
first_few peer = (tt, omega arith)

connected_comes : (peer : List ℕ) (answer : Answer) → ComesTo FewIn (connected answer (new_serving peer))
connected_comes peer (Ok channel) = first_few peer
connected_comes peer (Err refusal) = first_few peer

pub no_more_than_64 : NoMoreThan64AreLive
no_more_than_64 peer heard =
    let few = (stands_so (hub_of peer) FewIn Any (λ event s can few. handled_comes event s few) (first_few peer) (λ answer. connected_comes peer answer) heard (any_heard heard)).1 in
    let same = counted (standing_in (after (hub_of peer) heard)).served.hub.relay.lowers in
    omega (arith, few, same)
