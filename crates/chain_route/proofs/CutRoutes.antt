-- The route, when a hop of it is cut and the value-adds at its ends have ended.
use Rattle.std.proofs.Common.{◌≡◌, ℕ, zero, suc, ◌-◌, ◌==◌, false, cond, List, [], ◌∷◌, Option, Some, None, refl, ap, ◌∙◌, arith, eq-eqb, ne_eqb}
use Rattle.std.specs.Prelude.{slice_get, slice_set}
use Rattle.value_node.specs.Value.{ended}
use Rattle.value_node.specs.ValueValue.{ValueValue}
use Rattle.value_node.specs.declared.states.Side.TheVariants.{Below, Above}
use Rattle.chain_route.specs.Hop.{no_hop}
use Rattle.chain_route.specs.Route.{add_put, ended_below, on_add}
use Rattle.chain_route.specs.RouteValue.{RouteValue}

abbrev pub cut_route : ℕ → RouteValue → RouteValue
cut_route at r = record r { hops = slice_set r.hops at no_hop }

-- a value-add changes

abbrev pub changed_at : {A : Type 0} → (A → A) → ℕ → List A → List A
changed_at change i [] = []
changed_at change zero (x ∷ xs) = change x ∷ xs
changed_at change (suc i) (x ∷ xs) = x ∷ changed_at change i xs

adds_changed : (change : ValueValue → ValueValue) (at : ℕ) (r : RouteValue) → on_add change at r ≡ record r { adds = changed_at change at r.adds }
adds_changed change at r = by_list at r.adds
  where
    P : Option ValueValue → List ValueValue → List ValueValue → ℕ → Type 0
    P add adds next i = add_put change i add (record r { adds = adds }) ≡ record r { adds = next }

    lifted : (i : ℕ) (x : ValueValue) (adds next : List ValueValue) (add : Option ValueValue) → P add adds next i → P add (x ∷ adds) (x ∷ next) (suc i)
    lifted i x adds next None is = ap (λ s. record r { adds = x ∷ s.adds }) is
    lifted i x adds next (Some v) is = ap (λ s. record r { adds = x ∷ s.adds }) is

    by_list : (i : ℕ) (adds : List ValueValue) → P (slice_get adds i) adds (changed_at change i adds) i
    by_list i [] = refl
    by_list zero (x ∷ adds) = refl
    by_list (suc i) (x ∷ adds) = lifted i x adds (changed_at change i adds) (slice_get adds i) (by_list i adds)

-- both that stand at the ends of the hop

abbrev pub ended_at : ℕ → List ValueValue → List ValueValue
ended_at zero adds = changed_at (ended Below) zero adds
ended_at (suc at) adds = changed_at (ended Above) at (changed_at (ended Below) (suc at) adds)

pub both_ended : (at : ℕ) (r : RouteValue) → ended_below at (on_add (ended Below) at r) ≡ record r { adds = ended_at at r.adds }
both_ended zero r =
    let next = on_add (ended Below) zero r in
    ap (λ flag. cond flag next (on_add (ended Above) (zero - 1) next)) (eq-eqb zero 0 refl) ∙ adds_changed (ended Below) zero r
both_ended (suc at) r =
    let next = on_add (ended Below) (suc at) r in
    let some : (suc at == 0) ≡ false = ne_eqb (suc at) 0 (λ is. absurd (omega (arith, is))) in
    let less : suc at - 1 ≡ at = omega arith in
    ap (λ flag. cond flag next (on_add (ended Above) (suc at - 1) next)) some
    ∙ ap (λ k. on_add (ended Above) k next) less
    ∙ ap (on_add (ended Above) at) (adds_changed (ended Below) (suc at) r)
    ∙ adds_changed (ended Above) at (record r { adds = changed_at (ended Below) (suc at) r.adds })
