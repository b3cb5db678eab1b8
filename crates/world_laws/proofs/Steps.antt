-- What the steps of a schedule do to a chain, where its calls tell of it.
use Rattle.std.proofs.Common.{◌≡◌, ℕ, ◌+◌, ◌==◌, ◌&&◌, ◌||◌, Bool, true, false, nat_lt, List, [], ◌∷◌, refl, sym, ◌∙◌, subst, arith, eqb-true, lt-ltb}
use Rattle.std.specs.List.{AllByRecursion, list_any}
use Rattle.std.proofs.lemmas.Bool.{or_left, or_right}
use Rattle.chain_route.specs.Carrying.{AllLoseByCuts, Made, is_cut_of, was_lost_above}
use Rattle.chain_route.specs.Runs.{Call as WayCall, arrives_down, arrives_up, cuts, delivers, joins, reaches, sends_down, sends_up, turns}
use Rattle.chain_world.specs.Standing.{MayHappen, closes_at as closes_there, cuts_at}
use Rattle.tcf_schedules.specs.Plan.{Plan, cached, close, cut, deliver, opens, rounds, send, tick, times, turn}
use Rattle.world_laws.specs.EndLaws.{closes_at, cuts_another, cuts_first}

-- ---- One of a list passes a test

pub any_so : {A : Type 0} → (first second : A → Bool) → ((x : A) → first x ≡ true → second x ≡ true) → (xs : List A) → list_any first xs ≡ true → list_any second xs ≡ true
any_so first second so [] is = absurd cc
any_so first second so (x ∷ xs) is = by_flag (first x) refl is (any_so first second so xs)
  where
    by_flag : (flag : Bool) → first x ≡ flag → (flag || list_any first xs) ≡ true → (list_any first xs ≡ true → list_any second xs ≡ true) → (second x || list_any second xs) ≡ true
    by_flag true here any rest = or_left (second x) (list_any second xs) (so x here)
    by_flag false here any rest = or_right (second x) (list_any second xs) (rest any)

-- what follows of each that passes it follows
pub any_gives : {A : Type 0} → (P : A → Type 0) (test : A → Bool) (G : Type 0) → ((x : A) → P x → test x ≡ true → G) → (xs : List A) → AllByRecursion P xs → list_any test xs ≡ true → G
any_gives P test G gives [] each is = absurd cc
any_gives P test G gives (x ∷ xs) each is = by_flag (test x) refl is (any_gives P test G gives xs each.1)
  where
    by_flag : (flag : Bool) → test x ≡ flag → (flag || list_any test xs) ≡ true → (list_any test xs ≡ true → G) → G
    by_flag true here any rest = gives x each.0 here
    by_flag false here any rest = rest any

-- ---- A step closes the client, or cuts a hop

closes_so : (at : ℕ) (plan : Plan) → closes_there at plan ≡ closes_at at plan
closes_so at (opens chain) = refl
closes_so at (send chain service name body) = refl
closes_so at (deliver chain hop up count) = refl
closes_so at (turn chain node up) = refl
closes_so at (tick thread) = refl
closes_so at (close chain) = refl
closes_so at (cut chain hop) = refl
closes_so at (cached chain what) = refl
closes_so at (rounds count) = refl
closes_so at (times count plan) = closes_so at plan

first_so : (at : ℕ) (plan : Plan) → cuts_at at 0 plan ≡ cuts_first at plan
first_so at (opens chain) = refl
first_so at (send chain service name body) = refl
first_so at (deliver chain hop up count) = refl
first_so at (turn chain node up) = refl
first_so at (tick thread) = refl
first_so at (close chain) = refl
first_so at (cut chain hop) = refl
first_so at (cached chain what) = refl
first_so at (rounds count) = refl
first_so at (times count plan) = first_so at plan

another_so : (at hop : ℕ) (plan : Plan) → cuts_at at (hop + 1) plan ≡ true → cuts_another at plan ≡ true
another_so at hop (opens chain) is = absurd cc
another_so at hop (send chain service name body) is = absurd cc
another_so at hop (deliver chain place up count) is = absurd cc
another_so at hop (turn chain node up) is = absurd cc
another_so at hop (tick thread) is = absurd cc
another_so at hop (close chain) is = absurd cc
another_so at hop (cut chain place) is = by_flag (chain == at) is
  where
    by_flag : (flag : Bool) → (flag && (place == hop + 1)) ≡ true → (flag && nat_lt 0 place) ≡ true
    by_flag true there = let same : place ≡ hop + 1 = eqb-true place (hop + 1) there in lt-ltb 0 place (omega arith)
    by_flag false there = absurd cc
another_so at hop (cached chain what) is = absurd cc
another_so at hop (rounds count) is = absurd cc
another_so at hop (times count plan) is = another_so at hop plan is

module _ (plans : List Plan) (at : ℕ) where
  pub closes_played : list_any (closes_there at) plans ≡ true → list_any (closes_at at) plans ≡ true
  closes_played is = any_so (closes_there at) (closes_at at) (λ plan here. sym (closes_so at plan) ∙ here) plans is

  pub cuts_played : list_any (cuts_at at 0) plans ≡ true → list_any (cuts_first at) plans ≡ true
  cuts_played is = any_so (cuts_at at 0) (cuts_first at) (λ plan here. sym (first_so at plan) ∙ here) plans is

  -- a call of the way that cuts a hop comes of a step that does
  cut_played : (hop : ℕ) (call : WayCall) → MayHappen plans at call → is_cut_of hop call ≡ true → list_any (cuts_at at hop) plans ≡ true
  cut_played hop joins may is = absurd cc
  cut_played hop (reaches did) may is = absurd cc
  cut_played hop (sends_up outs) may is = absurd cc
  cut_played hop (sends_down outs) may is = absurd cc
  cut_played hop (arrives_up count) may is = absurd cc
  cut_played hop (arrives_down count) may is = absurd cc
  cut_played hop (delivers side place count) may is = absurd cc
  cut_played hop (turns side place) may is = absurd cc
  cut_played hop (cuts place) may is = let same : place ≡ hop = eqb-true place hop is in subst (λ n. list_any (cuts_at at n) plans ≡ true) same may

  -- where a value-add lost its upper side a step cuts another hop than the first
  pub lost_played : (ways : List WayCall) → AllByRecursion (MayHappen plans at) ways → (place : ℕ) (made : List Made) → AllLoseByCuts ways place made → list_any was_lost_above made ≡ true → list_any (cuts_another at) plans ≡ true
  lost_played ways may place [] loses is = absurd cc
  lost_played ways may place (m ∷ made) loses is = by_flag (was_lost_above m) refl is (lost_played ways may (place + 1) made loses.1)
    where
      by_flag : (flag : Bool) → was_lost_above m ≡ flag → (flag || list_any was_lost_above made) ≡ true → (list_any was_lost_above made ≡ true → list_any (cuts_another at) plans ≡ true) → list_any (cuts_another at) plans ≡ true
      by_flag true here any rest =
          any_so (cuts_at at (place + 1)) (cuts_another at) (another_so at place) plans
          (any_gives (MayHappen plans at) (is_cut_of (place + 1)) (list_any (cuts_at at (place + 1)) plans ≡ true) (cut_played (place + 1)) ways may (loses.0 here))
      by_flag false here any rest = rest any
