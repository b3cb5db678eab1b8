-- A value-add is made anew above a hop: beyond it nothing is connected.
use Rattle.std.proofs.Common.{ℕ, zero, suc, List, [], ◌∷◌, refl, sym, subst}
use Rattle.std.specs.List.{AllByRecursion}
use Rattle.chain_route.specs.Carrying.{IsDead}
use Rattle.chain_route.specs.declared.hop.Hop.{Hop}
use Rattle.chain_route.proofs.Each.{EachCarries}
use Rattle.chain_route.proofs.Flows.{HopHolds, unused_tip}

-- there are hops behind this one, and all of them are dead
abbrev pub AreDeadBehind : ℕ → List Hop → Type 0
AreDeadBehind k [] = ⊥
AreDeadBehind zero (hop ∷ []) = ⊥
AreDeadBehind zero (hop ∷ hops) = AllByRecursion IsDead hops
AreDeadBehind (suc k) (hop ∷ hops) = AreDeadBehind k hops

dead_carries : (hop : Hop) → IsDead hop → HopHolds hop unused_tip unused_tip
dead_carries hop dead = subst (λ h. HopHolds h unused_tip unused_tip) (sym dead) (record {
  up = λ live free. refl;
  up_front = ([], refl);
  refuses = λ live. refl;
  refused = λ shut. absurd cc;
  down = λ live. refl;
  down_front = ([], refl);
  dead = λ none. refl;
  lasting = λ live. (refl, refl);
  lost = λ none is. absurd cc;
  lost_above = λ none is. absurd cc;
})

-- the agent wasn't reached
pub dead_above : (hop : Hop) (hops : List Hop) → AllByRecursion IsDead (hop ∷ hops) → EachCarries unused_tip (hop ∷ hops) [] unused_tip
dead_above hop [] dead = dead_carries hop dead.0
dead_above hop (h ∷ hops) dead = dead
