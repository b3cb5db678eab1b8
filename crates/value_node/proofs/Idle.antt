-- Nothing is taken of a side exactly where it isn't taken from, or no entry waits there.
use Rattle.std.proofs.Common.{◌≡◌, ℕ, Bool, true, false, List, Option, Some, None, refl, sym, ap, ◌∙◌, ◌⊎◌, inl, inr}
use Rattle.std.specs.Prelude.{◌↔◌, if◌then◌else◌, Result, Ok, Err}
use Rattle.channel_core.specs.Receiving.{waiting_in}
use Rattle.channel_core.specs.Taking.{next_taken}
use Rattle.channel_core.specs.declared.taking.Taken.{Taken}
use Rattle.channel_core.specs.declared.taking.Taken.TheVariants as taken
use Rattle.channel_core.proofs.Idle.{none_is_taken}
use Rattle.tcf_message.specs.Message.{MessageValue, command, event, final, flow, not_known, progress, reading}
use Rattle.tcf_message.specs.declared.message.MessageFault.{MessageFault}
use Rattle.value_node.specs.ForwardedValue.{ForwardedValue}
use Rattle.value_node.specs.Own.{own_reply}
use Rattle.value_node.specs.Passing.{Upper}
use Rattle.value_node.specs.Value.{TakesNothing, answered, asked, asked_in, takes_above, takes_below, took_any_above, took_any_below, took_below, turned_above, turned_at, turned_below, turned_on, waiting_on, with_lower, with_upper}
use Rattle.value_node.specs.declared.own.Own.{Own}
use Rattle.value_node.specs.declared.own.Own.TheVariants as own
use Rattle.value_node.specs.declared.relay.Relay.{Relay}
use Rattle.value_node.specs.declared.states.Bind.{Bind}
use Rattle.value_node.specs.declared.states.Bind.TheVariants.{Bound, Closed, Opening, Unbound}
use Rattle.value_node.specs.declared.states.Side.{Side}
use Rattle.value_node.specs.declared.states.Side.TheVariants.{Above, Below}
use Rattle.value_node.specs.declared.states.ValueTurn.{ValueTurn}
use Rattle.value_node.specs.declared.states.ValueTurn.TheVariants.{Nothing}

-- ---- what is taken is something

own_is_something : (token : List ℕ) (reply : Own) (v : Relay) → (answered token reply v).0 ≡ Nothing → ⊥
own_is_something token own.Unknown v is = cc
own_is_something token (own.Result body) v is = cc
own_is_something token own.Connect v is = cc

asked_is_something : (bind : Bind) (token service name body : List ℕ) (mark : Option ℕ) (v : Relay) → (asked_in bind token service name body mark v).0 ≡ Nothing → ⊥
asked_is_something Unbound token service name body mark v is = own_is_something token (own_reply v.peer service name body) v is
asked_is_something Opening token service name body mark v is = cc
asked_is_something Bound token service name body mark v is = cc
asked_is_something Closed token service name body mark v is = cc

read_is_something : (m : Result MessageValue MessageFault) (mark : Option ℕ) (v : Relay) → (asked m mark v).0 ≡ Nothing → ⊥
read_is_something (Ok (command token service name body)) mark v is = asked_is_something v.bind token service name body mark v is
read_is_something (Ok (final token body)) mark v is = cc
read_is_something (Ok (progress token body)) mark v is = cc
read_is_something (Ok (not_known token)) mark v is = cc
read_is_something (Ok (event service name body)) mark v is = cc
read_is_something (Ok (flow level)) mark v is = cc
read_is_something (Err fault) mark v is = cc

below_is_something : (what : Taken Unit) (v : Relay) → (took_below what v).0 ≡ Nothing → ⊥
below_is_something (taken.Hello incoming) v is = cc
below_is_something (taken.Command incoming) v is = read_is_something (reading incoming.raw) incoming.mark v is
below_is_something (taken.Event incoming) v is = cc
below_is_something (taken.Progress token incoming) v is = cc
below_is_something (taken.Final tag incoming) v is = cc
below_is_something (taken.Closed cause) v is = cc

none_below : (what : Option (Taken Unit)) (v : Relay) → ((took_any_below what v).0 ≡ Nothing) ↔ (what ≡ None)
none_below None v = (λ is. refl, λ is. refl)
none_below (Some what) v = (λ is. absurd (below_is_something what v is), λ is. cc)

none_above : (what : Option (Taken ForwardedValue)) (v : Relay) → ((took_any_above what v).0 ≡ Nothing) ↔ (what ≡ None)
none_above None v = (λ is. refl, λ is. refl)
none_above (Some what) v = (λ is. cc, λ is. cc)

-- ---- a turn

both_ways : {P Q R : Type 0} → (P ↔ Q) → (Q ↔ R) → (P ↔ R)
both_ways one other = (λ p. other.0 (one.0 p), λ r. one.1 (other.1 r))

nothing_below : (v : Relay) → ((turned_below v).0 ≡ Nothing) ↔ TakesNothing Below v
unfolding turned_below
nothing_below v = by_takes (takes_below v.bind v.upper) refl
  where
    so : ((took_any_below (next_taken v.lower).0 (with_lower (next_taken v.lower).1 v)).0 ≡ Nothing) ↔ (waiting_in v.lower ≡ 0)
    so = both_ways (none_below (next_taken v.lower).0 (with_lower (next_taken v.lower).1 v)) (none_is_taken v.lower)

    by_takes : (flag : Bool) → takes_below v.bind v.upper ≡ flag
        → ((if flag then (took_any_below (next_taken v.lower).0 (with_lower (next_taken v.lower).1 v)) else (Nothing, v)).0 ≡ Nothing)
        ↔ ((takes_below v.bind v.upper ≡ false) ⊎ (waiting_in v.lower ≡ 0))
    by_takes true is = (
      λ nothing. inr (so.0 nothing),
      λ either. elim either as (λ _. (took_any_below (next_taken v.lower).0 (with_lower (next_taken v.lower).1 v)).0 ≡ Nothing) [
        | inl off ↦ let both : true ≡ false = sym is ∙ off in cc
        | inr none ↦ so.1 none
      ],
    )
    by_takes false is = (λ nothing. inl is, λ either. refl)

upper_is_idle : (upper : Option Upper) (v : Relay) → ((turned_on upper v).0 ≡ Nothing) ↔ (waiting_on upper ≡ 0)
upper_is_idle None v = (λ is. refl, λ is. refl)
upper_is_idle (Some e) v = both_ways (none_above (next_taken e).0 (with_upper (next_taken e).1 v)) (none_is_taken e)

nothing_above : (v : Relay) → ((turned_above v).0 ≡ Nothing) ↔ TakesNothing Above v
unfolding turned_above
nothing_above v = by_takes (takes_above v.bind) refl
  where
    by_takes : (flag : Bool) → takes_above v.bind ≡ flag
        → ((if flag then turned_on v.upper v else (Nothing, v)).0 ≡ Nothing) ↔ ((takes_above v.bind ≡ false) ⊎ (waiting_on v.upper ≡ 0))
    by_takes true is = (
      λ nothing. inr ((upper_is_idle v.upper v).0 nothing),
      λ either. elim either as (λ _. (turned_on v.upper v).0 ≡ Nothing) [
        | inl off ↦ let both : true ≡ false = sym is ∙ off in cc
        | inr none ↦ (upper_is_idle v.upper v).1 none
      ],
    )
    by_takes false is = (λ nothing. inl is, λ either. refl)

nothing_at : (side : Side) (v : Relay) → ((turned_at side v).0 ≡ Nothing) ↔ TakesNothing side v
nothing_at Below v = nothing_below v
nothing_at Above v = nothing_above v

-- of what was taken of a value-add that is as it was before
pub when_turn_is_nothing : (turn : ValueTurn) (side : Side) (v begun next : Relay) → begun ≡ v → (turn, next) ≡ turned_at side begun
    → ((turn ≡ Nothing) ↔ TakesNothing side v)
when_turn_is_nothing turn side v begun next same is =
    let here : turn ≡ (turned_at side v).0 = ap (λ t. t.0) is ∙ ap (λ (u : Relay). (turned_at side u).0) same in
    let so = nothing_at side v in
    (λ nothing. so.0 (sym here ∙ nothing), λ either. here ∙ so.1 either)
