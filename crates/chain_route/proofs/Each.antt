-- What each hop of a way carries, and apart from it what was made last: there the end below the next hop was never used.
use Rattle.std.proofs.Common.{◌≡◌, ◌+◌, ◌<◌, ◌⊎◌, inl, inr, ℕ, zero, suc, Bool, true, false, List, [], ◌∷◌, ◌++◌, length, take, Option, Some, None, refl, ap, subst, arith}
use Rattle.std.specs.Prelude.{is_some, slice_get, slice_set}
use Rattle.std.specs.List.{AllByRecursion}
use Rattle.value_node.specs.Runs.{UpperCall}
use Rattle.chain_route.specs.Carrying.{AllCarry, HopCarries, IsDead, IsUnused, Made, end_above, end_below, past_of}
use Rattle.chain_route.specs.declared.hop.Hop.{Hop}
use Rattle.chain_route.proofs.Adds.{end_of_none, tip_above}
use Rattle.chain_route.proofs.Flows.{HopHolds, Tip, used}

-- ---- Each hop carries, whatever is known of an end that was never used

abbrev pub EachCarries : Tip → List Hop → List Made → Tip → Type 0
EachCarries lower [] made agent = ⊥
EachCarries lower (hop ∷ hops) (m ∷ made) agent = HopHolds hop lower (used (end_below (past_of m))) × EachCarries (tip_above m) hops made agent
EachCarries lower (hop ∷ []) [] agent = HopHolds hop lower agent
EachCarries lower (hop ∷ hops) [] agent = AllByRecursion IsDead (hop ∷ hops)

-- ---- The value-add that was made last hasn't connected

abbrev pub IsUnconnected : Made → Type 0
IsUnconnected m = (past_of m).connection ≡ None

abbrev pub LastUnconnected : List Made → Type 0
LastUnconnected [] = Unit {0}
LastUnconnected (m ∷ []) = IsUnconnected m
LastUnconnected (m ∷ n ∷ made) = LastUnconnected (n ∷ made)

pub last_kept : (i : ℕ) (made : List Made) (m next : Made) → slice_get made i ≡ Some m → (IsUnconnected m → IsUnconnected next) → LastUnconnected made → LastUnconnected (slice_set made i next)
last_kept i [] m next there keeps last = last
last_kept zero (x ∷ []) m next there keeps last = let is : x ≡ m = cc in keeps (subst IsUnconnected is last)
last_kept zero (x ∷ y ∷ made) m next there keeps last = last
last_kept (suc i) (x ∷ []) m next there keeps last = last
last_kept (suc zero) (x ∷ y ∷ made) m next there keeps last = last_kept zero (y ∷ made) m next there keeps last
last_kept (suc (suc i)) (x ∷ y ∷ made) m next there keeps last = last_kept (suc i) (y ∷ made) m next there keeps last

-- one that is made anew is the last
pub last_anew : (at : ℕ) (made : List Made) (m next new : Made) → slice_get made at ≡ Some m → IsUnconnected new → LastUnconnected (slice_set (take (suc at) made ++ new ∷ []) at next)
last_anew at [] m next new there is = absurd cc
last_anew zero (x ∷ made) m next new there is = is
last_anew (suc at) (x ∷ []) m next new there is = absurd cc
last_anew (suc zero) (x ∷ y ∷ made) m next new there is = last_anew zero (y ∷ made) m next new there is
last_anew (suc (suc at)) (x ∷ y ∷ made) m next new there is = last_anew (suc at) (y ∷ made) m next new there is

-- ---- So its end above was never used

unused_above : (m : Made) → IsUnconnected m → IsUnused (end_above (past_of m))
unused_above m none = let is = end_of_none (past_of m) none in (ap (λ e. e.gave) is, ap (λ e. e.came) is)

unused_tip : (m : Made) → is_some (past_of m).connection ≡ false → IsUnused (end_above (past_of m))
unused_tip m none = by_connection (past_of m).connection refl none
  where
    by_connection : (connection : Option (List UpperCall)) → (past_of m).connection ≡ connection → is_some connection ≡ false → IsUnused (end_above (past_of m))
    by_connection None is unused = unused_above m is
    by_connection (Some calls) is unused = absurd cc

-- one hop
carries_of_holds : (hop : Hop) (lower upper : Tip) → (lower.is_used ≡ false → IsUnused lower.end) → (upper.is_used ≡ false → IsUnused upper.end) → HopHolds hop lower upper
    → HopCarries hop lower.end upper.end
carries_of_holds hop lower upper unused idle h = record {
  up = h.up;
  up_front = h.up_front;
  refuses = h.refuses;
  refused = h.refused;
  down = h.down;
  down_front = h.down_front;
  dead = h.dead;
  lasting = h.lasting;
  lost = λ dead. by_flag lower.is_used lower refl unused (h.lost dead);
  lost_above = λ dead. by_flag upper.is_used upper refl idle (h.lost_above dead);
}
  where
    by_flag : (flag : Bool) (tip : Tip) → tip.is_used ≡ flag → (tip.is_used ≡ false → IsUnused tip.end) → (tip.is_used ≡ true → tip.end.is_lost ≡ true) → IsUnused tip.end ⊎ (tip.end.is_lost ≡ true)
    by_flag true tip is none lost = inr (lost is)
    by_flag false tip is none lost = inl (none is)

pub all_carry : (lower : Tip) (hops : List Hop) (made : List Made) (agent : Tip) → (lower.is_used ≡ false → IsUnused lower.end) → (agent.is_used ≡ false → IsUnused agent.end)
    → (length made ≡ 0 → 1 < length hops → IsUnused lower.end) → (length made + 1 < length hops → LastUnconnected made) → EachCarries lower hops made agent → AllCarry lower.end hops made agent.end
all_carry lower [] made agent idle unreached unused last all = absurd all
all_carry lower (hop ∷ []) [] agent idle unreached unused last all = carries_of_holds hop lower agent idle unreached all
all_carry lower (hop ∷ h ∷ hops) [] agent idle unreached unused last all = (unused refl (omega arith), all)
all_carry lower (hop ∷ hops) (m ∷ []) agent idle unreached unused last all = (
  carries_of_holds hop lower (used (end_below (past_of m))) idle (λ none. absurd cc) all.0,
  all_carry (tip_above m) hops [] agent (unused_tip m) unreached (λ none more. unused_above m (last (omega (arith, more)))) (λ more. tt) all.1,
)
all_carry lower (hop ∷ hops) (m ∷ n ∷ made) agent idle unreached unused last all = (
  carries_of_holds hop lower (used (end_below (past_of m))) idle (λ none. absurd cc) all.0,
  all_carry (tip_above m) hops (n ∷ made) agent (unused_tip m) unreached (λ none more. absurd (omega (arith, none))) (λ more. last (omega (arith, more))) all.1,
)
