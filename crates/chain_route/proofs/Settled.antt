-- What the value-adds of a way have queued, and which of them wait for a connection, with places at which it may be otherwise
-- while a call goes on.
use Rattle.std.proofs.Common.{◌≡◌, ℕ, ◌+◌, ◌&&◌, Bool, true, false, cond, List, [], ◌∷◌, Option, Some, None, refl, sym, ap, ◌∙◌, subst}
use Rattle.std.specs.Prelude.{option_map}
use Rattle.std.proofs.lemmas.Bool.{and_parts}
use Rattle.channel_core.specs.Receiving.{ended as end_ended, is_over, with_last}
use Rattle.channel_core.specs.EndValue.{EndValue}
use Rattle.channel_core.specs.Closing.{is_closed}
use Rattle.channel_core.specs.declared.held.Outgoing.{Outgoing}
use Rattle.channel_core.specs.declared.states.Cause.TheVariants.{Ended}
use Rattle.value_node.specs.Passing.{Upper}
use Rattle.value_node.specs.Value.{awaits, came as value_came, connected as value_connected, connected_to, ended, ended_at, is_free, is_opening, new_value, with_relay}
use Rattle.value_node.specs.ValueValue.{ValueValue}
use Rattle.value_node.specs.declared.states.Side.{Side}
use Rattle.value_node.specs.declared.states.Side.TheVariants.{Below, Above}
use Rattle.chain_route.specs.Passing.{carried, came, delivered, emptied, emptied_on, pair, parts_came, queue_of, takes, without_queue}
use Rattle.chain_route.specs.Hop.{lane_to}
use Rattle.chain_route.specs.Lane.{arriving}
use Rattle.chain_route.specs.declared.hop.Hop.{Hop}

-- a value-add at a place of a way with so many hops: nothing is queued below it, unless it stands at the first place, nor above
-- it, unless at the second, and it waits only for the agent, unless it stands at the third
pub record Settled (size : ℕ) (low up wait : Option ℕ) (at : ℕ) (v : ValueValue) : Type 0 where
  pub unspent : v.is_spent ≡ false
  pub below : (low ≡ Some at → ⊥) → v.relay.lower.queued ≡ []
  pub above : (up ≡ Some at → ⊥) → queue_of v.relay.upper ≡ []
  pub waits : (wait ≡ Some at → ⊥) → awaits v.relay ≡ true → at + 2 ≡ size

pub nowhere : {at : ℕ} → None ≡ Some at → ⊥
nowhere is = cc

pub same_place : {at place : ℕ} → Some place ≡ Some at → at ≡ place
same_place is = cc

-- ---- More places

pub weaker : (size : ℕ) (low up wait : Option ℕ) (at : ℕ) (v : ValueValue) → Settled size None None None at v → Settled size low up wait at v
weaker size low up wait at v s = record { unspent = s.unspent; below = λ _. s.below nowhere; above = λ _. s.above nowhere; waits = λ _. s.waits nowhere }

-- none that isn't the place
pub without_low : (size : ℕ) (place : ℕ) (up wait : Option ℕ) (at : ℕ) (v : ValueValue) → (at ≡ place → ⊥) → Settled size (Some place) up wait at v → Settled size None up wait at v
without_low size place up wait at v apart s = record { unspent = s.unspent; below = λ _. s.below (λ same. apart (same_place same)); above = s.above; waits = s.waits }

pub without_up : (size : ℕ) (low : Option ℕ) (place : ℕ) (wait : Option ℕ) (at : ℕ) (v : ValueValue) → (at ≡ place → ⊥) → Settled size low (Some place) wait at v → Settled size low None wait at v
without_up size low place wait at v apart s = record { unspent = s.unspent; below = s.below; above = λ _. s.above (λ same. apart (same_place same)); waits = s.waits }

-- the one that waits becomes one with something queued above
pub with_up : (size : ℕ) (low : Option ℕ) (place : ℕ) (at : ℕ) (v : ValueValue) → (at ≡ place → ⊥) → Settled size low None (Some place) at v → Settled size low (Some place) None at v
with_up size low place at v apart s = record { unspent = s.unspent; below = s.below; above = λ _. s.above nowhere; waits = λ _. s.waits (λ same. apart (same_place same)) }

pub with_low : (size : ℕ) (place : ℕ) (wait : Option ℕ) (at : ℕ) (v : ValueValue) → Settled size None None wait at v → Settled size (Some place) None wait at v
with_low size place wait at v s = record { unspent = s.unspent; below = λ _. s.below nowhere; above = s.above; waits = s.waits }

-- ---- What is queued goes out

emptied_is : (side : Side) (v : ValueValue) → v.is_spent ≡ false → emptied side v ≡ record v { relay = emptied_on side v.relay }
emptied_is side v unspent = ap (λ b. cond b v (record v { relay = emptied_on side v.relay })) unspent

pub still_free : (upper : Option Upper) → is_free (option_map without_queue upper) ≡ is_free upper
still_free None = refl
still_free (Some e) = refl

none_queued : (upper : Option Upper) → queue_of (option_map without_queue upper) ≡ []
none_queued None = refl
none_queued (Some e) = refl

pub emptied_below : (size : ℕ) (low up wait : Option ℕ) (at : ℕ) (v : ValueValue) → Settled size low up wait at v → Settled size None up wait at (emptied Below v)
emptied_below size low up wait at v s =
    subst (Settled size None up wait at) (sym (emptied_is Below v s.unspent)) (record { unspent = s.unspent; below = λ _. refl; above = s.above; waits = s.waits })

pub emptied_above : (size : ℕ) (low up wait : Option ℕ) (at : ℕ) (v : ValueValue) → Settled size low up wait at v → Settled size low None wait at (emptied Above v)
emptied_above size low up wait at v s =
    subst (Settled size low None wait at) (sym (emptied_is Above v s.unspent)) (record {
      unspent = s.unspent;
      below = s.below;
      above = λ _. none_queued v.relay.upper;
      waits = λ apart is. s.waits apart (sym (ap (λ b. is_opening v.relay.bind && b) (still_free v.relay.upper)) ∙ is);
    })

-- ---- Bytes come

parts_unspent : (side : Side) (parts : List Outgoing) (v : ValueValue) → (parts_came side parts v).is_spent ≡ v.is_spent
parts_unspent side [] v = refl
parts_unspent side (part ∷ parts) v = parts_unspent side parts (value_came side part.bytes part.mark v)

parts_below : (parts : List Outgoing) (v : ValueValue) → (parts_came Below parts v).relay.upper ≡ v.relay.upper
parts_below [] v = refl
parts_below (part ∷ parts) v = parts_below parts (value_came Below part.bytes part.mark v)

parts_above : (parts : List Outgoing) (v : ValueValue) → (parts_came Above parts v).relay.lower ≡ v.relay.lower
parts_above [] v = refl
parts_above (part ∷ parts) v = parts_above parts (value_came Above part.bytes part.mark v)

parts_settled : (side : Side) (parts : List Outgoing) (size at : ℕ) (v : ValueValue) → awaits (parts_came side parts v).relay ≡ awaits v.relay
    → Settled size None None None at v → Settled size None None None at (emptied side (parts_came side parts v))
parts_settled Below parts size at v same s = emptied_below size (Some at) None None at (parts_came Below parts v) (record {
  unspent = parts_unspent Below parts v ∙ s.unspent;
  below = λ apart. absurd (apart refl);
  above = λ _. ap queue_of (parts_below parts v) ∙ s.above nowhere;
  waits = λ _ is. s.waits nowhere (sym same ∙ is);
})
parts_settled Above parts size at v same s = emptied_above size None (Some at) None at (parts_came Above parts v) (record {
  unspent = parts_unspent Above parts v ∙ s.unspent;
  below = λ _. ap (λ e. e.queued) (parts_above parts v) ∙ s.below nowhere;
  above = λ apart. absurd (apart refl);
  waits = λ _ is. s.waits nowhere (sym same ∙ is);
})

pub delivered_settled : (side : Side) (count size at : ℕ) (v : ValueValue) (hop : Hop) → ((parts : List Outgoing) → awaits (parts_came side parts v).relay ≡ awaits v.relay)
    → Settled size None None None at v → Settled size None None None at (delivered side count (pair v hop)).add
delivered_settled side count size at v hop same s = by_flag (takes side v hop)
  where
    parts : List Outgoing
    parts = arriving count (lane_to side hop)

    by_flag : (flag : Bool) → Settled size None None None at (cond flag (carried side (came side count (pair v hop))) (pair v hop)).add
    by_flag true = parts_settled side parts size at v (same parts) s
    by_flag false = s

-- ---- The bytes have ended

ended_queue : {T : Type 0} → (e : EndValue T) → (end_ended e).queued ≡ e.queued
ended_queue e = by_flag (is_over e)
  where
    by_flag : (flag : Bool) → (cond flag e (with_last Ended e)).queued ≡ e.queued
    by_flag true = refl
    by_flag false = refl

ended_state : {T : Type 0} → (e : EndValue T) → (end_ended e).state ≡ e.state
ended_state e = by_flag (is_over e)
  where
    by_flag : (flag : Bool) → (cond flag e (with_last Ended e)).state ≡ e.state
    by_flag true = refl
    by_flag false = refl

ended_upper : (upper : Option Upper) → (queue_of (option_map end_ended upper) ≡ queue_of upper) × (is_free (option_map end_ended upper) ≡ is_free upper)
ended_upper None = (refl, refl)
ended_upper (Some e) = (ended_queue e, ap is_closed (ended_state e))

ended_by : (side : Side) (size : ℕ) (low up wait : Option ℕ) (at : ℕ) (v : ValueValue) → Settled size low up wait at v → Settled size low up wait at (with_relay (ended_at side v.relay) v)
ended_by Below size low up wait at v s = record { unspent = s.unspent; below = λ apart. ended_queue v.relay.lower ∙ s.below apart; above = s.above; waits = s.waits }
ended_by Above size low up wait at v s = record {
  unspent = s.unspent;
  below = s.below;
  above = λ apart. (ended_upper v.relay.upper).0 ∙ s.above apart;
  waits = λ apart is. s.waits apart (sym (ap (λ b. is_opening v.relay.bind && b) (ended_upper v.relay.upper).1) ∙ is);
}

pub ended_settled : (side : Side) (size : ℕ) (low up wait : Option ℕ) (at : ℕ) (v : ValueValue) → Settled size low up wait at v → Settled size low up wait at (ended side v)
ended_settled side size low up wait at v s = by_flag v.is_spent
  where
    by_flag : (flag : Bool) → Settled size low up wait at (cond flag v (with_relay (ended_at side v.relay) v))
    by_flag true = s
    by_flag false = ended_by side size low up wait at v s

-- ---- It connects, and one is made

pub connected_settled : (size : ℕ) (low : Option ℕ) (at : ℕ) (v : ValueValue) → Settled size low None (Some at) at v → Settled size low (Some at) None at (value_connected v)
connected_settled size low at v s = by_flag (awaits v.relay) refl
  where
    by_flag : (flag : Bool) → awaits v.relay ≡ flag → Settled size low (Some at) None at (cond flag (with_relay (connected_to v.relay) v) v)
    by_flag true is = record {
      unspent = s.unspent;
      below = s.below;
      above = λ apart. absurd (apart refl);
      waits = λ _ waits. let never = (and_parts (is_opening v.relay.bind) false waits).1 in absurd cc;
    }
    by_flag false is = record {
      unspent = s.unspent;
      below = s.below;
      above = λ _. s.above nowhere;
      waits = λ _ waits. let no : true ≡ false = sym waits ∙ is in absurd cc;
    }

pub new_settled : (size : ℕ) (peer : List ℕ) (up wait : Option ℕ) (at : ℕ) → Settled size (Some at) up wait at (new_value peer)
new_settled size peer up wait at = record { unspent = refl; below = λ apart. absurd (apart refl); above = λ _. refl; waits = λ _ is. absurd cc }
