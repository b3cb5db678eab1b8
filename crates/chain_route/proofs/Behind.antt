-- Where a value-add waits for a connection, nothing is connected behind the hop above it.
use Rattle.std.proofs.Common.{◌≡◌, ℕ, zero, suc, ◌+◌, ◌-◌, ◌<◌, Bool, false, List, [], ◌∷◌, length, Some, None, refl, subst, arith}
use Rattle.std.specs.Prelude.{IsSome, slice_get}
use Rattle.std.proofs.lemmas.Bool.{false_from_ne_true}
use Rattle.channel_core.specs.Arrivals.{bytes_of}
use Rattle.value_node.specs.Runs.{UpperCall}
use Rattle.chain_route.specs.Carrying.{Made, end_above, end_below, past_of}
use Rattle.chain_route.specs.declared.hop.Hop.{Hop}
use Rattle.chain_route.proofs.Each.{EachCarries, IsUnconnected}
use Rattle.chain_route.proofs.Adds.{tip_above}
use Rattle.chain_route.proofs.Anew.{AreDeadBehind}
use Rattle.chain_route.proofs.Flows.{HopHolds, Tip, used}
use Rattle.chain_route.proofs.Reaching.{Awaits, waits_unheard}
use Rattle.chain_route.proofs.Unheard.{unheard_unconnected}
use Rattle.chain_route.proofs.Ways.{Way, way_above}
use Rattle.list_laws.specs.Fronts.{IsFront}

abbrev pub Gave : Made → Made → Type 0
Gave m other = IsFront (end_below (past_of other)).came (bytes_of (end_above (past_of m)).gave)

-- what came to a value-add is a front of what the one below it gave
gave_next : (at : ℕ) (lower : Tip) (hops : List Hop) (made : List Made) (agent : Tip) (m other : Made) → slice_get made at ≡ Some m → slice_get made (suc at) ≡ Some other
    → EachCarries lower hops made agent → Gave m other
gave_next at lower [] made agent m other there next all = absurd all
gave_next at lower (h ∷ hops) [] agent m other there next all = absurd cc
gave_next at lower (h ∷ []) (x ∷ made) agent m other there next all = absurd all.1
gave_next zero lower (h ∷ g ∷ hops) (x ∷ []) agent m other there next all = absurd cc
gave_next zero lower (h ∷ g ∷ hops) (x ∷ y ∷ made) agent m other there next all =
    let is_m : x ≡ m = cc in
    let is_other : y ≡ other = cc in
    let carries : HopHolds g (tip_above x) (used (end_below (past_of y))) = all.1.0 in
    subst (λ a. Gave a other) is_m (subst (λ b. Gave x b) is_other carries.up_front)
gave_next (suc at) lower (h ∷ g ∷ hops) (x ∷ made) agent m other there next all = gave_next at (tip_above x) (g ∷ hops) made agent m other there next all.1

-- the agent wasn't reached, and all hops behind that one are dead
pub record EndsBehind (at : ℕ) (hops : List Hop) (is_reached : Bool) : Type 0 where
  pub unreached : is_reached ≡ false
  pub dead : AreDeadBehind (suc at) hops

some_none : (m : Made) → IsUnconnected m → IsSome (past_of m).connection → ⊥
some_none m none is = let no : IsSome {T = List UpperCall} None = subst IsSome none is in cc

nothing_behind : (at : ℕ) (lower : Tip) (hops : List Hop) (made : List Made) (agent : Tip) (m : Made) → slice_get made at ≡ Some m
    → ((other : Made) → slice_get made (suc at) ≡ Some other → IsUnconnected other) → at + 1 < length hops - 1
    → Way lower hops made agent → EndsBehind at hops agent.is_used
nothing_behind at lower [] made agent m there next more way = absurd way.all
nothing_behind at lower (h ∷ []) made agent m there next more way = absurd (omega (arith, more))
nothing_behind at lower (h ∷ g ∷ []) made agent m there next more way = absurd (omega (arith, more))
nothing_behind at lower (h ∷ g ∷ f ∷ hops) [] agent m there next more way = absurd cc
nothing_behind zero lower (h ∷ g ∷ f ∷ hops) (x ∷ []) agent m there next more way = record {
  unreached = false_from_ne_true agent.is_used (λ is. let size = way.reached is in absurd (omega (arith, size)));
  dead = way.all.1.1;
}
nothing_behind zero lower (h ∷ g ∷ f ∷ []) (x ∷ y ∷ []) agent m there next more way =
    let none : agent.is_used ≡ false = false_from_ne_true agent.is_used (λ is. some_none y (next y refl) (way.connected.1 is)) in
    record { unreached = none; dead = (way.unreached none, tt) }
nothing_behind zero lower (h ∷ g ∷ f ∷ e ∷ hops) (x ∷ y ∷ []) agent m there next more way = record {
  unreached = false_from_ne_true agent.is_used (λ is. some_none y (next y refl) (way.connected.1 is));
  dead = way.all.1.1;
}
nothing_behind zero lower (h ∷ g ∷ f ∷ hops) (x ∷ y ∷ z ∷ made) agent m there next more way = absurd (some_none y (next y refl) way.connected.1.0)
nothing_behind (suc at) lower (h ∷ g ∷ f ∷ hops) (x ∷ []) agent m there next more way = absurd cc
nothing_behind (suc at) lower (h ∷ g ∷ f ∷ hops) (x ∷ y ∷ made) agent m there next more way =
    let rest = nothing_behind at (tip_above x) (g ∷ f ∷ hops) (y ∷ made) agent m there next (omega (arith, more)) (way_above lower h g (f ∷ hops) x y made agent way) in
    record { unreached = rest.unreached; dead = rest.dead }

pub ends_behind : (at : ℕ) (lower : Tip) (hops : List Hop) (made : List Made) (agent : Tip) (m : Made) → slice_get made at ≡ Some m → Awaits m
    → at + 1 < length hops - 1 → Way lower hops made agent → EndsBehind at hops agent.is_used
ends_behind at lower hops made agent m there waits more way =
    nothing_behind at lower hops made agent m there
    (λ other next. unheard_unconnected m other (waits_unheard m waits) (gave_next at lower hops made agent m other there next way.all)) more way
