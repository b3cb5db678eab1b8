-- A value-add above which a hop is live has connected.
use Rattle.std.proofs.Common.{◌≡◌, ◌||◌, Bool, true, false, List, [], ◌∷◌, ◌∙◌, refl, sym, ap, arith}
use Rattle.std.specs.Prelude.{suc, ◌-◌, IsSome, length, slice_get}
use Rattle.std.specs.List.{AllByRecursion, list_any}
use Rattle.chain_quiet.specs.Stuck.{last_is_live}
use Rattle.chain_route.specs.Carrying.{AllCarry, End, HaveConnected, IsDead, Made, past_of}
use Rattle.chain_route.specs.Route.{is_live, last_of, live_of}
use Rattle.chain_route.specs.RouteValue.{RouteValue}
use Rattle.chain_route.specs.declared.hop.Hop.{Hop}

none_lives : (hops : List Hop) → AllByRecursion IsDead hops → list_any (λ hop. hop.is_live) hops ≡ false
none_lives [] dead = refl
none_lives (hop ∷ hops) dead = ap (λ (h : Hop). h.is_live || list_any (λ hop. hop.is_live) hops) dead.0 ∙ none_lives hops dead.1

alone : (flag : Bool) → flag || false ≡ true → flag ≡ true
alone true is = refl
alone false is = is

pub connected_above : (m : Made) (made : List Made) (hops : List Hop) (lower agent : End) → AllCarry lower hops made agent → HaveConnected (m ∷ made) (last_is_live hops)
    → list_any (λ hop. hop.is_live) hops ≡ true → IsSome (past_of m).connection
connected_above m [] [] lower agent carries connected lives = absurd carries
connected_above m [] (hop ∷ []) lower agent carries connected lives = connected (alone hop.is_live lives)
connected_above m [] (hop ∷ next ∷ hops) lower agent carries connected lives =
    let one : true ≡ false = sym lives ∙ none_lives (hop ∷ next ∷ hops) carries.1 in
    absurd cc
connected_above m (other ∷ made) hops lower agent carries connected lives = connected.0

pub connected_later : (m : Made) (made : List Made) (is_reached : Bool) → HaveConnected (m ∷ made) is_reached → HaveConnected made is_reached
connected_later m [] is_reached connected = tt
connected_later m (other ∷ made) is_reached connected = connected.1

-- ---- What a way carries gives it, up to the last hop that is live

reached_where : (made : List Made) (is_reached lives : Bool) → HaveConnected made is_reached → (lives ≡ true → is_reached ≡ true) → HaveConnected made lives
reached_where [] is_reached lives connected where_live = tt
reached_where (m ∷ []) is_reached lives connected where_live = λ live. connected (where_live live)
reached_where (m ∷ other ∷ made) is_reached lives connected where_live = (connected.0, reached_where (other ∷ made) is_reached lives connected.1 where_live)

pub last_lives : (hops : List Hop) → live_of (slice_get hops (length hops - 1)) ≡ last_is_live hops
last_lives [] = refl
last_lives (hop ∷ []) = refl
last_lives (hop ∷ next ∷ hops) =
    let same : length (hop ∷ next ∷ hops) - 1 ≡ suc (length (next ∷ hops) - 1) = omega arith in
    ap (λ n. live_of (slice_get (hop ∷ next ∷ hops) n)) same ∙ last_lives (next ∷ hops)

pub connected_to_last : (made : List Made) (r : RouteValue) (is_reached : Bool) → HaveConnected made is_reached → (is_reached ≡ false → is_live (last_of r) r ≡ false)
    → HaveConnected made (last_is_live r.hops)
connected_to_last made r is_reached connected unreached = reached_where made is_reached (last_is_live r.hops) connected (by_flag is_reached refl)
  where
    by_flag : (flag : Bool) → is_reached ≡ flag → last_is_live r.hops ≡ true → is_reached ≡ true
    by_flag true is live = is
    by_flag false is live = let one : true ≡ false = sym live ∙ sym (last_lives r.hops) ∙ unreached is in absurd cc
