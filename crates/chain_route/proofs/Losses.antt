-- The bytes above a value-add end only where the hop above it is cut, also where another stands in its place.
use Rattle.std.proofs.Common.{◌≡◌, ℕ, zero, suc, ◌+◌, ◌||◌, Bool, true, false, List, [], ◌∷◌, ◌++◌, take, Some, refl, sym, ap, ◌∙◌, subst, arith}
use Rattle.std.specs.Prelude.{slice_get, slice_set}
use Rattle.std.proofs.lemmas.List.Folds.{list_any-append}
use Rattle.value_node.specs.Runs as value
use Rattle.chain_route.specs.Carrying.{AllLoseByCuts, LosesByCut, Made, loses_above, was_lost_above}
use Rattle.chain_route.specs.Runs.{Call}
use Rattle.chain_route.proofs.Adds.{with_call}
use Rattle.chain_route.specs.Making.{fresh_made}

-- ---- One value-add

nothing_more : (lost : Bool) → (lost || (false || false)) ≡ lost
nothing_more true = refl
nothing_more false = refl

pub lost_same : (call : value.Call) (m : Made) → loses_above call ≡ false → was_lost_above (with_call call m) ≡ was_lost_above m
lost_same call m none =
    list_any-append loses_above m.calls (call ∷ [])
    ∙ ap (λ lost. was_lost_above m || (lost || false)) none ∙ nothing_more (was_lost_above m)

pub loses_same : (calls : List Call) (at : ℕ) (m next : Made) → was_lost_above next ≡ was_lost_above m → LosesByCut calls at m → LosesByCut calls at next
loses_same calls at m next same loses is = loses (sym same ∙ is)

-- ---- All of them

set_from : (calls : List Call) (first at : ℕ) (made : List Made) (m next : Made) → slice_get made at ≡ Some m → (LosesByCut calls (first + at) m → LosesByCut calls (first + at) next)
    → AllLoseByCuts calls first made → AllLoseByCuts calls first (slice_set made at next)
set_from calls first at [] m next there keeps all = all
set_from calls first zero (x ∷ made) m next there keeps all =
    let is : x ≡ m = cc in
    let here : first + 0 ≡ first = omega arith in
    (subst (λ k. LosesByCut calls k m → LosesByCut calls k next) here keeps (subst (LosesByCut calls first) is all.0), all.1)
set_from calls first (suc at) (x ∷ made) m next there keeps all =
    let same : first + suc at ≡ (first + 1) + at = omega arith in
    (all.0, set_from calls (first + 1) at made m next there (subst (λ k. LosesByCut calls k m → LosesByCut calls k next) same keeps) all.1)

pub losses_set : (calls : List Call) (at : ℕ) (made : List Made) (m next : Made) → slice_get made at ≡ Some m → (LosesByCut calls at m → LosesByCut calls at next)
    → AllLoseByCuts calls 0 made → AllLoseByCuts calls 0 (slice_set made at next)
losses_set calls at made m next there keeps all =
    let same : at ≡ 0 + at = omega arith in
    set_from calls 0 at made m next there (subst (λ k. LosesByCut calls k m → LosesByCut calls k next) same keeps) all

-- one that is made anew has lost nothing
pub losses_anew : (calls : List Call) (first k : ℕ) (peer : List ℕ) (made : List Made) → AllLoseByCuts calls first made → AllLoseByCuts calls first (take k made ++ fresh_made peer ∷ [])
losses_anew calls first zero peer made all = (λ is. absurd cc, tt)
losses_anew calls first (suc k) peer [] all = (λ is. absurd cc, tt)
losses_anew calls first (suc k) peer (m ∷ made) all = (all.0, losses_anew calls (first + 1) k peer made all.1)
