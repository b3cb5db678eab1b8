-- Where a chain is quiet no byte is in flight on any hop, and no entry waits at any of its ends.
use Rattle.std.proofs.Common.{◌≡◌, ℕ, ◌+◌, ◌-◌, ◌^◌, ◌==◌, ◌&&◌, Bool, true, List, [], ◌∷◌, length, Option, Some, None, IfSome, is_some, refl, arith, eqb-true}
use Rattle.std.specs.Prelude.{if◌then◌else◌, min}
use Rattle.std.specs.List.{AllByRecursion, list_all}
use Rattle.std.proofs.lemmas.Bool.{and_parts}
use Rattle.agent_node.specs.AgentValue.{AgentValue}
use Rattle.chain_quiet.specs.Stuck.{HopIsStill}
use Rattle.chain_route.specs.Route.{is_add_quiet, is_hop_quiet, is_quiet as is_way_quiet}
use Rattle.chain_route.specs.declared.hop.Hop.{Hop}
use Rattle.chain_world.specs.Chain.{is_last_quiet, is_quiet, none_waits}
use Rattle.chain_world.specs.ChainValue.{ChainValue}
use Rattle.channel_core.specs.EndValue.{EndValue}
use Rattle.channel_core.specs.Receiving.{waiting_in}
use Rattle.channel_core.specs.declared.held.Arrived.{Arrived}
use Rattle.channel_core.specs.declared.states.Cause.{Cause}
use Rattle.client_node.specs.Client.{waiting_on as waiting_on_client}
use Rattle.value_node.specs.Passing.{Upper}
use Rattle.value_node.specs.Value.{waiting_at, waiting_on}
use Rattle.value_node.specs.ValueValue.{ValueValue}
use Rattle.value_node.specs.declared.states.Side.TheVariants.{Above, Below}
use Rattle.list_laws.proofs.AllLists.{all_weaker}

-- ---- An end

-- no entry waits at it
pub record NoneWaits {T : Type 0} (e : EndValue T) : Type 0 where
  pub inbox : e.inbox ≡ []
  pub stop : e.stop ≡ None

none_waiting : (inbox : List Arrived) (stop : Option Cause) → min (length inbox + (if is_some stop then 1 else 0)) (2 ^ 64 - 1) ≡ 0 → (inbox ≡ []) × (stop ≡ None)
none_waiting [] None is = (refl, refl)
none_waiting [] (Some cause) is = absurd (omega arith)
none_waiting (x ∷ inbox) None is = absurd (omega arith)
none_waiting (x ∷ inbox) (Some cause) is = absurd (omega arith)

pub all_taken : {T : Type 0} → (e : EndValue T) → (waiting_in e == 0) ≡ true → NoneWaits e
all_taken e is = let both = none_waiting e.inbox e.stop (eqb-true (waiting_in e) 0 is) in record { inbox = both.0; stop = both.1 }

client_taken : (channel : Option (EndValue ℕ)) → (waiting_on_client channel == 0) ≡ true → IfSome channel NoneWaits
client_taken None is = tt
client_taken (Some e) is = all_taken e is

upper_taken : (upper : Option Upper) → (waiting_on upper == 0) ≡ true → IfSome upper NoneWaits
upper_taken None is = tt
upper_taken (Some e) is = all_taken e is

-- ---- A hop, and a value-add

none_long : {A : Type 0} → (xs : List A) → (length xs == 0) ≡ true → xs ≡ []
none_long [] is = refl
none_long (x ∷ xs) is = let none : length (x ∷ xs) ≡ 0 = eqb-true (length (x ∷ xs)) 0 is in absurd (omega arith)

hop_still : (h : Hop) → is_hop_quiet h ≡ true → HopIsStill h
hop_still h is = let both = and_parts (length h.up == 0) (length h.down == 0) is in record { up = none_long h.up both.0; down = none_long h.down both.1 }

pub record AddTookAll (v : ValueValue) : Type 0 where
  pub lower : NoneWaits v.relay.lower
  pub upper : IfSome v.relay.upper NoneWaits

add_taken : (v : ValueValue) → is_add_quiet v ≡ true → AddTookAll v
add_taken v is =
    let both = and_parts (waiting_at Below v.relay == 0) (waiting_at Above v.relay == 0) is in
    record { lower = all_taken v.relay.lower both.0; upper = upper_taken v.relay.upper both.1 }

-- ---- A chain

all_true : {A : Type 0} → (test : A → Bool) (xs : List A) → list_all test xs ≡ true → AllByRecursion (λ x. test x ≡ true) xs
all_true test [] is = tt
all_true test (x ∷ xs) is = let both = and_parts (test x) (list_all test xs) is in (both.0, all_true test xs both.1)

pub record ChainIsStill (chain : ChainValue) (a : AgentValue) : Type 0 where
  pub hops : AllByRecursion HopIsStill chain.route.hops
  pub adds : AllByRecursion AddTookAll chain.route.adds
  pub client : IfSome chain.client.channel NoneWaits
  pub last : is_last_quiet chain.channel a ≡ true

pub chain_still : (chain : ChainValue) (a : AgentValue) → is_quiet chain a ≡ true → ChainIsStill chain a
chain_still chain a is =
    let ends : Bool = (waiting_on_client chain.client.channel == 0) && (is_last_quiet chain.channel a && list_all (none_waits a) chain.earlier) in
    let both = and_parts (is_way_quiet chain.route) ends is in
    let way = and_parts (list_all is_hop_quiet chain.route.hops) (list_all is_add_quiet chain.route.adds) both.0 in
    let two = and_parts (waiting_on_client chain.client.channel == 0) (is_last_quiet chain.channel a && list_all (none_waits a) chain.earlier) both.1 in
    let three = and_parts (is_last_quiet chain.channel a) (list_all (none_waits a) chain.earlier) two.1 in
    record {
      hops = all_weaker (λ h. is_hop_quiet h ≡ true) HopIsStill chain.route.hops hop_still (all_true is_hop_quiet chain.route.hops way.0);
      adds = all_weaker (λ v. is_add_quiet v ≡ true) AddTookAll chain.route.adds add_taken (all_true is_add_quiet chain.route.adds way.1);
      client = client_taken chain.client.channel two.0;
      last = three.0;
    }
