-- The ends of a hub are what their calls made of them, after any calls of the hub.
use Rattle.std.proofs.Common.{◌≡◌, ℕ, ◌≤◌, ◌==◌, Bool, true, false, cond, ◌||◌, ◌&&◌, nat_lt, List, [], ◌∷◌, ◌++◌, length, Option, Some, None, option_map, refl, sym, ap, subst, ◌∙◌, append-nil, arith, eqb-true, ltb-false}
use Rattle.std.specs.List.{filter}
use Rattle.std.proofs.lemmas.Bool.{or_parts, or_from}
use Rattle.channel_core.specs.Beginning.{new_end}
use Rattle.channel_core.specs.Closing.{has_queued, is_closed}
use Rattle.channel_core.specs.EndValue.{EndValue}
use Rattle.channel_core.specs.Runs.{Call as EndCall, Run, after_calls, begun, taking}
use Rattle.channel_core.specs.Taking.{next_taken}
use Rattle.channel_core.specs.declared.held.Outgoing.{Outgoing}
use Rattle.channel_core.proofs.TheLaws.{spends_nothing}
use Rattle.channel_list.specs.Channels.{End, channel_end, end_in, is_kept, is_open, new_channel}
use Rattle.channel_list.specs.Numbers.{has_number}
use Rattle.channel_list.specs.declared.channel.Channel.{Channel}
use Rattle.channel_list.proofs.Differing.{Differ, differ_more, has, has_more}
use Rattle.channel_list.proofs.Numbering.{IsOrdered, with_number_has, with_number_ordered}
use Rattle.channel_list.proofs.Places.{channel_number, found, none_found}
use Rattle.list_laws.proofs.Flags.{not_false, or_false}
use Rattle.hub_node.specs.Calls.{Call, called, opens, comes, bytes_end, turns, gives}
use Rattle.hub_node.specs.HubLaws.{AfterAllCalls, EndsAreRuns, IsEndOf}
use Rattle.hub_node.specs.HubValue.{HubValue}
use Rattle.hub_node.specs.Relay.{after_giving_at, begun as relay_begun, came_at, ended_at, hub_services, is_refused, opened_at, turned_at, upper_services}
use Rattle.hub_node.specs.RelayValue.{RelayValue}
use Rattle.hub_node.specs.Runs.{HubRun, above_by, above_run, after_all, after_call, below_by, below_run, calls_of, is_opening, no_calls}
use Rattle.hub_node.specs.declared.side.HubSide.TheVariants.{Above, Below}
use Rattle.hub_node.specs.declared.waiting.Tag.{Tag}
use Rattle.hub_node.proofs.EndRuns.{end_more, ends}
use Rattle.hub_node.proofs.Lowers.{differ_filtered, end_found, found_kept, found_more, has_filtered, kept_if}
use Rattle.hub_node.proofs.Named.{came_named, ended_named, gave_named, names, same_differ, same_has, turned_above_named, turned_below_named}
use Rattle.hub_node.proofs.Stepping.{IsFresh, came_lowers, ended_lowers, gave_lowers, turned_above_lowers, turned_below_lowers}
use Rattle.hub_node.proofs.Upper.{ended_upper, gave_upper, turned_above_upper, turned_below_upper}

-- ---- a call of the ends of a hub

abbrev pub relay_called : Call → RelayValue → RelayValue
relay_called (opens j) r = (opened_at j r).1
relay_called (comes side piece mark) r = came_at side piece mark r
relay_called (bytes_end side) r = ended_at side r
relay_called (turns key side) r = (turned_at key side r).1
relay_called (gives side) r = after_giving_at side r

-- it is that of the hub, which isn't spent
pub hub_called : (call : Call) (h : HubValue) → h.is_spent ≡ false → called call h ≡ record h { relay = relay_called call h.relay }
hub_called (opens j) h u = refl
hub_called (comes side piece mark) h u = refl
hub_called (bytes_end side) h u = ap (λ b. cond b h (record h { relay = ended_at side h.relay })) u
hub_called (turns key side) h u = refl
hub_called (gives side) h u = ap (λ b. cond b h (record h { relay = after_giving_at side h.relay })) u

-- ---- ends that aren't spent, whatever is called of them

abbrev pub AlwaysFresh : EndValue Tag → Type 0
AlwaysFresh e = (calls : List (EndCall Tag)) → (ends calls e).is_spent ≡ false

pub above_fresh : (r : HubRun) → AlwaysFresh (above_run r).end
above_fresh r calls =
    ap (λ (e : EndValue Tag). e.is_spent) (sym (end_more r.above calls (begun (new_end upper_services None)))) ∙ spends_nothing upper_services None (r.above ++ calls)

below_fresh : (r : HubRun) (calls : List (EndCall Unit)) → (ends calls (below_run r).end).is_spent ≡ false
below_fresh r calls =
    ap (λ (e : End). e.is_spent) (sym (end_more r.below calls (begun (new_end hub_services None)))) ∙ spends_nothing hub_services None (r.below ++ calls)

pub end_fresh : (o : Option End) (r : HubRun) → IsEndOf o (below_run r) → IsFresh o
end_fresh None r is = tt
end_fresh (Some e) r is = λ calls. ap (λ (x : End). (ends calls x).is_spent) is ∙ below_fresh r calls

-- ---- what holds

pub record Holds (j : ℕ) (r : HubRun) : Type 0 where
  pub unspent : r.hub.is_spent ≡ false
  pub above : r.hub.relay.upper ≡ (above_run r).end
  pub differ : Differ channel_number r.hub.relay.lowers
  pub known : (k : ℕ) → has_number k r.hub.relay.numbers ≡ false → has channel_number k r.hub.relay.lowers ≡ false
  pub ordered : IsOrdered r.hub.relay.numbers.latest
  pub is_begun : r.is_begun ≡ has_number j r.hub.relay.numbers
  pub quiet : r.is_begun ≡ false → r.below ≡ []
  pub below : r.is_begun ≡ true → IsEndOf (channel_end j r.hub.relay.lowers) (below_run r)

no_end : (j : ℕ) (cs : List Channel) → has channel_number j cs ≡ false → channel_end j cs ≡ None
no_end j cs none = end_found j cs ∙ ap end_in (none_found j cs none)

-- a channel that wasn't opened has no end
pub unopened : (j : ℕ) (r : HubRun) → Holds j r → r.is_begun ≡ false → channel_end j r.hub.relay.lowers ≡ None
unopened j r h not = no_end j r.hub.relay.lowers (h.known j (sym h.is_begun ∙ not))

flag_cases : (b : Bool) → (P : Type 0) → (b ≡ true → P) → (b ≡ false → P) → P
flag_cases true P yes_so no_so = yes_so refl
flag_cases false P yes_so no_so = no_so refl

pub lower_fresh : (j : ℕ) (r : HubRun) → Holds j r → IsFresh (channel_end j r.hub.relay.lowers)
lower_fresh j r h =
    flag_cases r.is_begun (IsFresh (channel_end j r.hub.relay.lowers)) (λ is. end_fresh (channel_end j r.hub.relay.lowers) r (h.below is))
    (λ not. subst IsFresh (sym (unopened j r h not)) tt)

-- ---- a call that opens no channel

pub record Steps (j : ℕ) (call : Call) (r later : RelayValue) : Type 0 where
  pub upper : later.upper ≡ ends (above_by call r) r.upper
  pub names_are : names later ≡ names r
  pub end : channel_end j later.lowers ≡ option_map (λ e. ends (calls_of e j call r) e) (channel_end j r.lowers)

none_of : (o : Option End) → o ≡ option_map (λ e. ends [] e) o
none_of None = refl
none_of (Some e) = refl

came_steps : (j : ℕ) (piece : List ℕ) (mark : Option ℕ) (r : RelayValue) → Steps j (comes Above piece mark) r (came_at Above piece mark r)
unfolding came_at
came_steps j piece mark r = record { upper = refl; names_are = refl; end = none_of (channel_end j r.lowers) }

came_below_steps : (j i : ℕ) (piece : List ℕ) (mark : Option ℕ) (r : RelayValue) → Differ channel_number r.lowers → Steps j (comes (Below i) piece mark) r (came_at (Below i) piece mark r)
unfolding came_at
came_below_steps j i piece mark r d = record { upper = refl; names_are = came_named i piece mark r d; end = came_lowers j i piece mark r d }

ended_steps : (j : ℕ) (r : RelayValue) → r.upper.is_spent ≡ false → Steps j (bytes_end Above) r (ended_at Above r)
unfolding ended_at
ended_steps j r u = record { upper = ended_upper r u; names_are = refl; end = none_of (channel_end j r.lowers) }

ended_below_steps : (j i : ℕ) (r : RelayValue) → Differ channel_number r.lowers → IsFresh (channel_end j r.lowers) → Steps j (bytes_end (Below i)) r (ended_at (Below i) r)
unfolding ended_at
ended_below_steps j i r d u = record { upper = refl; names_are = ended_named i r d; end = ended_lowers j i r d u }

gave_steps : (j : ℕ) (r : RelayValue) → r.upper.is_spent ≡ false → Steps j (gives Above) r (after_giving_at Above r)
unfolding after_giving_at
gave_steps j r u = record { upper = gave_upper r u; names_are = refl; end = none_of (channel_end j r.lowers) }

gave_below_steps : (j i : ℕ) (r : RelayValue) → Differ channel_number r.lowers → IsFresh (channel_end j r.lowers) → Steps j (gives (Below i)) r (after_giving_at (Below i) r)
unfolding after_giving_at
gave_below_steps j i r d u = record { upper = refl; names_are = gave_named i r d; end = gave_lowers j i r d u }

turned_steps : (j key : ℕ) (r : RelayValue) → Differ channel_number r.lowers → IsFresh (channel_end j r.lowers) → (next_taken r.upper).1.is_spent ≡ false → Steps j (turns key Above) r (turned_at key Above r).1
turned_steps j key r d u v = record { upper = turned_above_upper key r v; names_are = turned_above_named key r d; end = turned_above_lowers j key r d u }

turned_below_steps : (j key i : ℕ) (r : RelayValue) → Differ channel_number r.lowers → IsFresh (channel_end j r.lowers) → r.upper.is_spent ≡ false → Steps j (turns key (Below i)) r (turned_at key (Below i) r).1
turned_below_steps j key i r d u v = record { upper = turned_below_upper key i r v; names_are = turned_below_named key i r d; end = turned_below_lowers j key i r d u }

-- what it makes of the channel's end is what is called of that
end_stepped : (o : Option End) (j : ℕ) (call : Call) (q : RelayValue) (r : HubRun) → IsEndOf o (below_run r)
    → IsEndOf (option_map (λ e. ends (calls_of e j call q) e) o) (after_calls (r.below ++ below_by o j call q) (begun (new_end hub_services None)))
end_stepped None j call q r is =
    let P : List (EndCall Unit) → Type 0 = λ calls. IsEndOf None (after_calls calls (begun (new_end hub_services None))) in
    subst P (sym (append-nil r.below)) is
end_stepped (Some e) j call q r is =
    ap (ends (calls_of e j call q)) is ∙ sym (end_more r.below (calls_of e j call q) (begun (new_end hub_services None)))

none_below : (o : Option End) (j : ℕ) (call : Call) (q : RelayValue) (calls : List (EndCall Unit)) → o ≡ None → calls ≡ [] → calls ++ below_by o j call q ≡ []
none_below o j call q calls none is = ap (λ x. calls ++ below_by x j call q) none ∙ append-nil calls ∙ is

pub holds_step : (j : ℕ) (call : Call) (r : HubRun) → Holds j r → is_opening j call r.hub.relay ≡ false → Steps j call r.hub.relay (relay_called call r.hub.relay) → Holds j (after_call j call r)
holds_step j call r h opens_not s = record {
  unspent = ap (λ (x : HubValue). x.is_spent) so ∙ h.unspent;
  above = ap (λ (x : HubValue). x.relay.upper) so ∙ s.upper ∙ ap (ends (above_by call q)) h.above ∙ sym (end_more r.above (above_by call q) (begun (new_end upper_services None)));
  differ = subst (λ (x : HubValue). Differ channel_number x.relay.lowers) (sym so) (same_differ q.lowers later.lowers (ap (λ n. n.0) s.names_are) h.differ);
  known = λ k none.
      ap (λ (x : HubValue). has channel_number k x.relay.lowers) so ∙ same_has k q.lowers later.lowers (ap (λ n. n.0) s.names_are)
      ∙ h.known k (ap (has_number k) (sym numbers_are) ∙ none);
  ordered = subst (λ n. IsOrdered n.latest) (sym numbers_are) h.ordered;
  is_begun = begins ∙ h.is_begun ∙ ap (has_number j) (sym numbers_are);
  quiet = λ not. let before = sym begins ∙ not in none_below (channel_end j q.lowers) j call q r.below (unopened j r h before) (h.quiet before);
  below = λ is.
      subst (λ (o : Option End). IsEndOf o (below_run (after_call j call r))) (sym (ap (λ (x : HubValue). channel_end j x.relay.lowers) so ∙ s.end))
      (end_stepped (channel_end j q.lowers) j call q r (h.below (sym begins ∙ is)));
}
  where
    q : RelayValue
    q = r.hub.relay

    later : RelayValue
    later = relay_called call q

    so : called call r.hub ≡ record r.hub { relay = later }
    so = hub_called call r.hub h.unspent

    numbers_are : (called call r.hub).relay.numbers ≡ q.numbers
    numbers_are = ap (λ (x : HubValue). x.relay.numbers) so ∙ ap (λ n. n.1) s.names_are

    begins : (r.is_begun || is_opening j call q) ≡ r.is_begun
    begins = ap (λ b. r.is_begun || b) opens_not ∙ or_false r.is_begun

-- ---- a channel opens

nothing_queued : (os : List Outgoing) → nat_lt 0 (length os) ≡ false → os ≡ []
nothing_queued [] none = refl
nothing_queued (o ∷ os) none = let few : length (o ∷ os) ≤ 0 = ltb-false 0 (length (o ∷ os)) none in absurd (omega arith)

-- one that isn't kept is closed, and has nothing to send
kept_end : (o : Option Channel) (r : Run Unit) → IsEndOf (end_in o) r → IsEndOf (end_in (kept_if o)) r
unfolding is_open is_kept
kept_end None r is = is
kept_end (Some c) r is = by_flag (is_kept c) refl
  where
    by_flag : (flag : Bool) → is_kept c ≡ flag → IsEndOf (end_in (cond flag (Some c) None)) r
    by_flag true keeps = is
    by_flag false keeps =
        let parts = or_parts (is_open c) (has_queued c.end) keeps in
        let closed : is_closed c.end.state ≡ true = not_false (is_closed c.end.state) parts.0 in
        let empty : c.end.queued ≡ [] = nothing_queued c.end.queued parts.1 in
        (ap (λ e. is_closed e.state) (sym is) ∙ closed, ap (λ e. e.queued) (sym is) ∙ empty)

pub no_calls_of : (o : Option End) (j i : ℕ) (q : RelayValue) → below_by o j (opens i) q ≡ []
no_calls_of None j i q = refl
no_calls_of (Some e) j i q = refl

and_false : (a : Bool) → (a && false) ≡ false
and_false true = refl
and_false false = refl

and_true : (a : Bool) → (a && true) ≡ a
and_true true = refl
and_true false = refl

pub open_first : (i : ℕ) (q : RelayValue) (flag : Bool) → is_refused i q ≡ flag → opened_at i q ≡ cond flag (false, q) (true, relay_begun i q)
unfolding opened_at
open_first i q flag is = ap (λ b. cond b (false, q) (true, relay_begun i q)) is

-- none where it is refused
holds_refused : (j i : ℕ) (r : HubRun) → Holds j r → opened_at i r.hub.relay ≡ (false, r.hub.relay) → Holds j (after_call j (opens i) r)
holds_refused j i r h is =
    holds_step j (opens i) r h (ap (λ (p : Bool × RelayValue). i == j && p.0) is ∙ and_false (i == j))
    (subst (Steps j (opens i) r.hub.relay) (sym (ap (λ p. p.1) is)) (record { upper = refl; names_are = refl; end = none_of (channel_end j r.hub.relay.lowers) }))

-- the end of a channel, where one more is put behind those that are kept
end_begun : (j i : ℕ) (cs : List Channel) (r : Run Unit) → has channel_number i cs ≡ false → Differ channel_number cs → (i == j) ≡ false → IsEndOf (channel_end j cs) r
    → IsEndOf (channel_end j (filter is_kept cs ++ new_channel i hub_services None ∷ [])) r
end_begun j i cs r none d isnt is =
    let fresh : Channel = new_channel i hub_services None in
    let same : channel_end j (filter is_kept cs ++ fresh ∷ []) ≡ end_in (kept_if (found j cs)) =
    end_found j (filter is_kept cs ++ fresh ∷ [])
    ∙ ap end_in (found_more j (filter is_kept cs) fresh (has_filtered is_kept i cs none) ∙ ap (λ b. cond b (Some fresh) (found j (filter is_kept cs))) isnt ∙ found_kept j cs d) in
    subst (λ (o : Option End). IsEndOf o r) (sym same) (kept_end (found j cs) r (subst (λ (o : Option End). IsEndOf o r) (end_found j cs) is))

own_begun : (j i : ℕ) (cs : List Channel) → has channel_number i cs ≡ false → (i == j) ≡ true
    → channel_end j (filter is_kept cs ++ new_channel i hub_services None ∷ []) ≡ Some (new_end hub_services None)
own_begun j i cs none its =
    let fresh : Channel = new_channel i hub_services None in
    end_found j (filter is_kept cs ++ fresh ∷ [])
    ∙ ap end_in (found_more j (filter is_kept cs) fresh (has_filtered is_kept i cs none) ∙ ap (λ b. cond b (Some fresh) (found j (filter is_kept cs))) its)

holds_begun : (j i : ℕ) (r : HubRun) → Holds j r → has_number i r.hub.relay.numbers ≡ false → opened_at i r.hub.relay ≡ (true, relay_begun i r.hub.relay) → Holds j (after_call j (opens i) r)
unfolding relay_begun
holds_begun j i r h isnew is = record {
  unspent = h.unspent;
  above = ap (λ (x : RelayValue). x.upper) relay_is ∙ h.above ∙ sym (end_more r.above [] (begun (new_end upper_services None)));
  differ = subst (λ (x : RelayValue). Differ channel_number x.lowers) (sym relay_is)
      (differ_more channel_number (filter is_kept q.lowers) fresh (has_filtered is_kept i q.lowers none) (differ_filtered is_kept q.lowers h.differ));
  known = λ k not.
      let parts = or_parts (has_number k q.numbers) (i == k) (sym (with_number_has i k q.numbers h.ordered) ∙ ap (λ (x : RelayValue). has_number k x.numbers) (sym relay_is) ∙ not) in
      ap (λ (x : RelayValue). has channel_number k x.lowers) relay_is ∙ has_more channel_number k (filter is_kept q.lowers) fresh
      ∙ or_from (has channel_number k (filter is_kept q.lowers)) (i == k) (has_filtered is_kept k q.lowers (h.known k parts.0)) parts.1;
  ordered = subst (λ (x : RelayValue). IsOrdered x.numbers.latest) (sym relay_is) (with_number_ordered i q.numbers h.ordered);
  is_begun = begins ∙ ap (λ b. b || (i == j)) h.is_begun ∙ sym (with_number_has i j q.numbers h.ordered) ∙ ap (λ (x : RelayValue). has_number j x.numbers) (sym relay_is);
  quiet = λ not. let parts = or_parts r.is_begun (i == j) (sym begins ∙ not) in calls_are ∙ h.quiet parts.0;
  below = λ its.
      subst (λ (x : RelayValue). IsEndOf (channel_end j x.lowers) (below_run (after_call j (opens i) r))) (sym relay_is)
      (subst (λ (calls : List (EndCall Unit)). IsEndOf (channel_end j (relay_begun i q).lowers) (after_calls calls (begun (new_end hub_services None)))) (sym calls_are)
      (by_own (i == j) refl (sym begins ∙ its)));
}
  where
    q : RelayValue
    q = r.hub.relay

    fresh : Channel
    fresh = new_channel i hub_services None

    none : has channel_number i q.lowers ≡ false
    none = h.known i isnew

    relay_is : (opened_at i q).1 ≡ relay_begun i q
    relay_is = ap (λ p. p.1) is

    begins : (r.is_begun || (i == j && (opened_at i q).0)) ≡ (r.is_begun || (i == j))
    begins = ap (λ b. r.is_begun || b) (ap (λ (p : Bool × RelayValue). i == j && p.0) is ∙ and_true (i == j))

    calls_are : r.below ++ below_by (channel_end j q.lowers) j (opens i) q ≡ r.below
    calls_are = ap (λ calls. r.below ++ calls) (no_calls_of (channel_end j q.lowers) j i q) ∙ append-nil r.below

    by_own : (flag : Bool) → (i == j) ≡ flag → (r.is_begun || (i == j)) ≡ true → IsEndOf (channel_end j (relay_begun i q).lowers) (below_run r)
    by_own true its all =
        let same : i ≡ j = eqb-true i j its in
        let not : r.is_begun ≡ false = h.is_begun ∙ ap (λ n. has_number n q.numbers) (sym same) ∙ isnew in
        subst (λ (o : Option End). IsEndOf o (below_run r)) (sym (own_begun j i q.lowers none its))
        (ap (λ calls. (after_calls calls (begun (new_end hub_services None))).end) (sym (h.quiet not)))
    by_own false isnt all =
        let was : r.is_begun ≡ true = sym (or_false r.is_begun) ∙ ap (λ b. r.is_begun || b) (sym isnt) ∙ all in
        end_begun j i q.lowers (below_run r) none h.differ isnt (h.below was)

holds_opens : (j i : ℕ) (r : HubRun) → Holds j r → Holds j (after_call j (opens i) r)
holds_opens j i r h = by_flag (is_refused i r.hub.relay) refl
  where
    by_flag : (flag : Bool) → is_refused i r.hub.relay ≡ flag → Holds j (after_call j (opens i) r)
    by_flag true is = holds_refused j i r h (open_first i r.hub.relay true is)
    by_flag false is = holds_begun j i r h (or_parts (has_number i r.hub.relay.numbers) _ is).0 (open_first i r.hub.relay false is)

-- ---- any calls

upper_fresh : (j : ℕ) (r : HubRun) → Holds j r → AlwaysFresh r.hub.relay.upper
upper_fresh j r h calls = ap (λ (e : EndValue Tag). (ends calls e).is_spent) h.above ∙ above_fresh r calls

pub holds_call : (j : ℕ) (call : Call) (r : HubRun) → Holds j r → Holds j (after_call j call r)
holds_call j (opens i) r h = holds_opens j i r h
holds_call j (comes Above piece mark) r h = holds_step j (comes Above piece mark) r h refl (came_steps j piece mark r.hub.relay)
holds_call j (comes (Below i) piece mark) r h = holds_step j (comes (Below i) piece mark) r h refl (came_below_steps j i piece mark r.hub.relay h.differ)
holds_call j (bytes_end Above) r h = holds_step j (bytes_end Above) r h refl (ended_steps j r.hub.relay (upper_fresh j r h []))
holds_call j (bytes_end (Below i)) r h = holds_step j (bytes_end (Below i)) r h refl (ended_below_steps j i r.hub.relay h.differ (lower_fresh j r h))
holds_call j (turns key Above) r h = holds_step j (turns key Above) r h refl (turned_steps j key r.hub.relay h.differ (lower_fresh j r h) (upper_fresh j r h (taking ∷ [])))
holds_call j (turns key (Below i)) r h = holds_step j (turns key (Below i)) r h refl (turned_below_steps j key i r.hub.relay h.differ (lower_fresh j r h) (upper_fresh j r h []))
holds_call j (gives Above) r h = holds_step j (gives Above) r h refl (gave_steps j r.hub.relay (upper_fresh j r h []))
holds_call j (gives (Below i)) r h = holds_step j (gives (Below i)) r h refl (gave_below_steps j i r.hub.relay h.differ (lower_fresh j r h))

pub holds_first : (j : ℕ) → Holds j no_calls
holds_first j = record {
  unspent = refl;
  above = refl;
  differ = tt;
  known = λ k none. refl;
  ordered = tt;
  is_begun = refl;
  quiet = λ not. refl;
  below = λ is. let both : false ≡ true = is in absurd cc;
}

pub holds_all : (j : ℕ) (calls : List Call) (r : HubRun) → Holds j r → Holds j (after_all j calls r)
holds_all j [] r h = h
holds_all j (call ∷ calls) r h = holds_all j calls (after_call j call r) (holds_call j call r h)

pub ends_are_runs : AfterAllCalls EndsAreRuns
ends_are_runs calls new j =
    let h = holds_all j calls no_calls (holds_first j) in record { unspent = h.unspent; above = h.above; below = h.below }
