-- The hops of a new way, one after the other.
use Rattle.std.proofs.Common.{◌≡◌, ℕ, suc, ◌+◌, ◌-◌, ◌<◌, List, [], ◌∷◌, ◌++◌, sym, ap, ◌∙◌, arith, append_assoc}
use Rattle.chain_route.specs.Hop.{no_hop}
use Rattle.chain_route.specs.Route.{more_hops}
use Rattle.chain_route.specs.declared.hop.Hop.{Hop}

pub one_more_hop : (before after : List Hop) (count counter : ℕ) → counter < count → after ≡ before ++ no_hop ∷ [] → after ++ more_hops (count - (counter + 1)) ≡ before ++ more_hops (count - counter)
one_more_hop before after count counter more is =
    let rest = more_hops (count - (counter + 1)) in
    let left : count - counter ≡ suc (count - (counter + 1)) = omega (arith, more) in
    ap (λ xs. xs ++ rest) is ∙ append_assoc before (no_hop ∷ []) rest ∙ ap (λ n. before ++ more_hops n) (sym left)
