-- The upper end of a value-add begins anew below a hop that is connected.
use Rattle.std.proofs.Common.{◌≡◌, ℕ, zero, suc, ◌+◌, Bool, true, false, cond, List, [], ◌∷◌, ◌++◌, length, map, take, Option, Some, None, refl, sym, ap, ◌∙◌, subst, arith}
use Rattle.std.specs.Prelude.{IfSome, IsSome, not, option_to_list, slice_get, slice_set, unwrap_or}
use Rattle.std.specs.List.{AllByRecursion, list_any}
use Rattle.std.proofs.lemmas.Bool.{and_parts}
use Rattle.channel_core.specs.Arrivals.{bytes_of}
use Rattle.channel_core.specs.Greeting.{is_greeting}
use Rattle.channel_core.specs.ReceivingLaws.{SendsReadable}
use Rattle.channel_core.specs.declared.held.Outgoing.{Outgoing}
use Rattle.value_node.specs.RelayLaws.{IsGivenUp, StandsWell}
use Rattle.value_node.specs.Runs.{Past, UpperCall, above, connects, reconnected, upper_after}
use Rattle.value_node.specs.Value.{awaits, is_free, is_opening}
use Rattle.value_node.specs.declared.relay.Relay.{Relay}
use Rattle.value_node.specs.declared.states.Bind.{Bind}
use Rattle.value_node.specs.declared.states.Bind.TheVariants.{Unbound, Opening, Bound, Closed}
use Rattle.chain_route.specs.Carrying.{IsGoneBy, Made, end_above, end_below, past_of, value_of}
use Rattle.chain_route.specs.Hop.{connected}
use Rattle.chain_route.specs.Making.{fresh_made, opened_hop}
use Rattle.chain_route.specs.Runs.{awaits_of, given_by}
use Rattle.chain_route.specs.declared.hop.Hop.{Hop}
use Rattle.chain_route.proofs.Each.{EachCarries}
use Rattle.chain_route.proofs.Adds.{call_run, facts_of, tip_above, tip_of, with_call}
use Rattle.chain_route.proofs.Anew.{AreDeadBehind, dead_above}
use Rattle.chain_route.proofs.Flows.{HopHolds, Tip, begun_carries, fresh_end, unused_tip, used}
use Rattle.chain_route.proofs.Unsent.{unsent_above}
use Rattle.list_laws.specs.Fronts.{IsFront}

-- ---- The value-add connects: below nothing changes, and above it begins anew

abbrev pub Awaits : Made → Type 0
Awaits m = awaits (value_of m).relay ≡ true

abbrev pub anew : Made → Made
anew m = with_call connects m

pub past_anew : (m : Made) → Awaits m → past_of (anew m) ≡ reconnected (past_of m)
past_anew m waits = ap (λ r. r.past) (call_run connects m) ∙ ap (λ b. cond b (reconnected (past_of m)) (past_of m)) waits

pub below_anew : (m : Made) → Awaits m → end_below (past_of (anew m)) ≡ end_below (past_of m)
below_anew m waits = ap end_below (past_anew m waits)

pub above_anew : (m : Made) → Awaits m → tip_above (anew m) ≡ used fresh_end
above_anew m waits = ap tip_of (past_anew m waits)

pub connected_anew : (m : Made) → Awaits m → IsSome (past_of (anew m)).connection
connected_anew m waits = subst (λ p. IsSome p.connection) (sym (past_anew m waits)) refl

-- ---- Where the value-add at a place waits, the one that was made there does

pub record WaitsIn (made : List Made) (at : ℕ) : Type 0 where
  pub m : Made
  pub there : slice_get made at ≡ Some m
  pub waits : Awaits m

pub waits_in : (at : ℕ) (made : List Made) → awaits_of (slice_get (map value_of made) at) ≡ true → WaitsIn made at
waits_in at [] is = absurd cc
waits_in zero (m ∷ made) is = record { m = m; there = refl; waits = is }
waits_in (suc at) (m ∷ made) is = let rest = waits_in at made is in record { m = rest.m; there = rest.there; waits = rest.waits }

-- ---- One that waits has taken no Hello from above

unbound_by : (bind : Bind) (v : Relay) (p : Past) → is_opening bind ≡ true → StandsWell bind v p → p.is_bound ≡ false
unbound_by Unbound v p is stands = stands.2
unbound_by Opening v p is stands = stands.2
unbound_by Bound v p is stands = absurd cc
unbound_by Closed v p is stands = absurd cc

pub waits_unheard : (m : Made) → Awaits m → list_any is_greeting (above (past_of m)).past.taken ≡ false
waits_unheard m waits =
    let facts = facts_of m in
    let v = (value_of m).relay in
    let opening = (and_parts (is_opening v.bind) (is_free v.upper) waits).0 in
    facts.heard ∙ unbound_by v.bind v (past_of m) opening facts.stands

-- ---- What came to a channel of the agent that is given up

last_of_all : {A : Type 0} → (P : A → Type 0) (xs : List A) (x : A) → AllByRecursion P (xs ++ x ∷ []) → P x
last_of_all P [] x all = all.0
last_of_all P (y ∷ xs) x all = last_of_all P xs x all.1

pub gone_by : (m : Made) → Awaits m → IsSome (past_of m).connection → (got : List Outgoing) → IsFront (bytes_of got) (bytes_of (end_above (past_of m)).gave) → IsGoneBy got
gone_by m waits some got front = by_connection (past_of m).connection refl some
  where
    by_connection : (connection : Option (List UpperCall)) → (past_of m).connection ≡ connection → IsSome connection → IsGoneBy got
    by_connection None is none = absurd cc
    by_connection (Some calls) is none =
        let earlier : (past_of (anew m)).earlier ≡ (past_of m).earlier ++ calls ∷ [] =
        ap (λ p. p.earlier) (past_anew m waits) ∙ ap (λ c. (past_of m).earlier ++ option_to_list c) is in
        let gone : IsGivenUp calls = last_of_all IsGivenUp (past_of m).earlier calls (subst (AllByRecursion IsGivenUp) earlier (facts_of (anew m)).earlier) in
        record {
          calls = calls;
          gone = gone;
          silent = unsent_above m.peer m.calls calls is gone.unheard;
          readable = subst (λ c. IfSome c SendsReadable) is (facts_of m).above_readable;
          front = subst (λ c. IsFront (bytes_of got) (bytes_of (upper_after (unwrap_or c [])).past.given)) is front;
        }

-- ---- The agent is reached by the last value-add

-- where the agent refused, the end of the stream is on its way
pub opened_carries : (did : Bool) → HopHolds (opened_hop did) (used fresh_end) (used (record { gave = given_by did; came = []; is_lost = false; is_refused = not did }))
opened_carries true = record {
  up = λ live free. refl;
  up_front = ([], refl);
  refuses = λ live. refl;
  refused = λ shut. absurd cc;
  down = λ live. refl;
  down_front = ([], refl);
  dead = λ none. absurd cc;
  lasting = λ live. (refl, refl);
  lost = λ none. absurd cc;
  lost_above = λ none. absurd cc;
}
opened_carries false = record {
  up = λ live free. absurd cc;
  up_front = ([], refl);
  refuses = λ live. refl;
  refused = λ shut. (refl, refl);
  down = λ live. refl;
  down_front = (bytes_of (given_by false), refl);
  dead = λ none. absurd cc;
  lasting = λ live. (refl, refl);
  lost = λ none. absurd cc;
  lost_above = λ none. absurd cc;
}

pub reached_all : (at : ℕ) (lower : Tip) (hops : List Hop) (made : List Made) (agent next : Tip) (m m1 : Made) (after : Hop) → slice_get made at ≡ Some m → length hops ≡ at + 2
    → end_below (past_of m1) ≡ end_below (past_of m) → tip_above m1 ≡ used fresh_end → HopHolds after (used fresh_end) next
    → EachCarries lower hops made agent → EachCarries lower (slice_set hops (suc at) after) (slice_set made at m1) next
reached_all at lower [] made agent next m m1 after there size below above carries all = absurd all
reached_all at lower (h ∷ hops) [] agent next m m1 after there size below above carries all = absurd cc
reached_all at lower (h ∷ []) (x ∷ made) agent next m m1 after there size below above carries all = absurd all.1
reached_all zero lower (h ∷ g ∷ f ∷ hops) (x ∷ made) agent next m m1 after there size below above carries all = absurd (omega (arith, size))
reached_all zero lower (h ∷ g ∷ []) (x ∷ y ∷ made) agent next m m1 after there size below above carries all = absurd all.1.1
reached_all zero lower (h ∷ g ∷ []) (x ∷ []) agent next m m1 after there size below above carries all =
    let is : x ≡ m = cc in
    let first : HopHolds h lower (used (end_below (past_of m))) = subst (λ y. HopHolds h lower (used (end_below (past_of y)))) is all.0 in
    (subst (λ e. HopHolds h lower (used e)) (sym below) first, subst (λ e. HopHolds after e next) (sym above) carries)
reached_all (suc at) lower (h ∷ g ∷ hops) (x ∷ made) agent next m m1 after there size below above carries all =
    (all.0, reached_all at (tip_above x) (g ∷ hops) made agent next m m1 after there (omega (arith, size)) below above carries all.1)

-- ---- A value-add connects to one that is made anew

pub turned_anew : (at : ℕ) (peer : List ℕ) (lower : Tip) (hops : List Hop) (made : List Made) (m m1 : Made) → slice_get made at ≡ Some m → AreDeadBehind (suc at) hops
    → end_below (past_of m1) ≡ end_below (past_of m) → tip_above m1 ≡ used fresh_end
    → EachCarries lower hops made unused_tip
    → EachCarries lower (slice_set hops (suc at) (connected [])) (slice_set (take (suc at) made ++ fresh_made peer ∷ []) at m1) unused_tip
turned_anew at peer lower [] made m m1 there dead below above all = absurd all
turned_anew at peer lower (h ∷ hops) [] m m1 there dead below above all = absurd cc
turned_anew at peer lower (h ∷ []) (x ∷ made) m m1 there dead below above all = absurd all.1
turned_anew zero peer lower (h ∷ g ∷ []) (x ∷ made) m m1 there dead below above all = absurd dead
turned_anew zero peer lower (h ∷ g ∷ f ∷ hops) (x ∷ made) m m1 there dead below above all =
    let is : x ≡ m = cc in
    let first : HopHolds h lower (used (end_below (past_of m))) = subst (λ y. HopHolds h lower (used (end_below (past_of y)))) is all.0 in
    (subst (λ e. HopHolds h lower (used e)) (sym below) first, (subst (λ e. HopHolds (connected []) e (used fresh_end)) (sym above) begun_carries, dead_above f hops dead))
turned_anew (suc at) peer lower (h ∷ g ∷ hops) (x ∷ made) m m1 there dead below above all =
    (all.0, turned_anew at peer (tip_above x) (g ∷ hops) made m m1 there dead below above all.1)
