-- The chain at a place among all chains, and what becomes of the others where it changes.
use Rattle.std.proofs.Common.{◌≡◌, ℕ, zero, suc, ◌+◌, List, [], ◌∷◌, Some, refl, sym, ap, subst, arith}
use Rattle.std.specs.Prelude.{slice_get, slice_set}
use Rattle.std.specs.List.{Contains}
use Rattle.std.proofs.lemmas.List.Elements.{Contains-append_left, Contains-append_right}
use Rattle.tcf_schedules.specs.Plan.{Plan}
use Rattle.agent_node.specs.Runs.{Past}
use Rattle.chain_world.specs.Chain.{channels_of}
use Rattle.chain_world.specs.ChainValue.{ChainValue}
use Rattle.chain_world.specs.Past.{ChainPast}
use Rattle.chain_world.specs.Standing.{AllDiffer}
use Rattle.chain_world.proofs.Fitting.{AllFit, Fits, Place, place_of}
use Rattle.chain_world.proofs.Keeping.{fits_kept}
use Rattle.chain_world.proofs.Numbers.{all_channels, at_contains, differ_parts}
use Rattle.chain_world.proofs.Pasts.{Keeps}

-- the place behind another
abbrev from_place : ℕ → ℕ → ℕ
from_place from zero = from
from_place from (suc at) = from_place (suc from) at

behind : (from at : ℕ) → from_place from at ≡ from + at
behind from zero = omega arith
behind from (suc at) = let rest = behind (suc from) at in omega (arith, rest)

pub first_place : (plans : List Plan) (at : ℕ) → place_of plans (from_place 0 at) ≡ place_of plans at
first_place plans at =
    let first = behind 0 at in
    let is : from_place 0 at ≡ at = omega (arith, first) in ap (place_of plans) is

-- the one at a place
pub record StandsAt (p : Place) (pasts : List Past) (adds : List ℕ) (kept : List ChainPast) (at : ℕ) (c : ChainValue) : Type 0 where
  pub count : ℕ
  pub own : ChainPast
  pub there : slice_get adds at ≡ Some count
  pub is_kept : slice_get kept at ≡ Some own
  pub fits : Fits p pasts count c own

from_stands : (plans : List Plan) (pasts : List Past) (from : ℕ) (adds : List ℕ) (chains : List ChainValue) (kept : List ChainPast) (at : ℕ) (c : ChainValue) → slice_get chains at ≡ Some c
    → AllFit plans pasts from adds chains kept → StandsAt (place_of plans (from_place from at)) pasts adds kept at c
from_stands plans pasts from [] [] kept at c is all = absurd cc
from_stands plans pasts from [] (x ∷ chains) kept at c is all = absurd all
from_stands plans pasts from (n ∷ adds) [] kept at c is all = absurd all
from_stands plans pasts from (n ∷ adds) (x ∷ chains) [] at c is all = absurd all
from_stands plans pasts from (n ∷ adds) (x ∷ chains) (one ∷ kept) zero c is all =
    let same : x ≡ c = cc in
    let p = place_of plans from in
    record { count = n; own = one; there = refl; is_kept = refl; fits = subst (λ y. Fits p pasts n y one) same all.0 }
from_stands plans pasts from (n ∷ adds) (x ∷ chains) (one ∷ kept) (suc at) c is all =
    let rest = from_stands plans pasts (suc from) adds chains kept at c is all.1 in
    record { count = rest.count; own = rest.own; there = rest.there; is_kept = rest.is_kept; fits = rest.fits }

pub stands_at : (plans : List Plan) (pasts : List Past) (adds : List ℕ) (chains : List ChainValue) (kept : List ChainPast) (at : ℕ) (c : ChainValue) → slice_get chains at ≡ Some c
    → AllFit plans pasts 0 adds chains kept → StandsAt (place_of plans at) pasts adds kept at c
stands_at plans pasts adds chains kept at c is all =
    subst (λ p. StandsAt p pasts adds kept at c) (first_place plans at) (from_stands plans pasts 0 adds chains kept at c is all)

-- all of them, while the agent's channels are the same to them
pub each_kept : (plans : List Plan) (pasts after : List Past) (from : ℕ) (adds : List ℕ) (chains : List ChainValue) (kept : List ChainPast)
    → ((j : ℕ) → Contains (all_channels chains) j → Keeps j pasts after) → AllFit plans pasts from adds chains kept → AllFit plans after from adds chains kept
each_kept plans pasts after from [] [] kept keeps all = tt
each_kept plans pasts after from [] (x ∷ chains) kept keeps all = absurd all
each_kept plans pasts after from (n ∷ adds) [] kept keeps all = absurd all
each_kept plans pasts after from (n ∷ adds) (x ∷ chains) [] keeps all = absurd all
each_kept plans pasts after from (n ∷ adds) (x ∷ chains) (one ∷ kept) keeps all =
    let p = place_of plans from in (
      fits_kept p pasts after n x (λ j has. keeps j (Contains-append_left (channels_of x) (all_channels chains) j has)) all.0,
      each_kept plans pasts after (suc from) adds chains kept (λ j has. keeps j (Contains-append_right (channels_of x) (all_channels chains) j has)) all.1,
    )

-- the one at a place changes, and the agent goes on for it
from_set : (plans : List Plan) (pasts after : List Past) (from : ℕ) (adds : List ℕ) (chains : List ChainValue) (kept : List ChainPast) (at count : ℕ) (c next : ChainValue) (last : ChainPast) → AllDiffer (all_channels chains) → slice_get chains at ≡ Some c
    → slice_get adds at ≡ Some count → ((j : ℕ) → Contains (all_channels chains) j → (Contains (channels_of c) j → ⊥) → Keeps j pasts after) → Fits (place_of plans (from_place from at)) after count next last
    → AllFit plans pasts from adds chains kept → AllFit plans after from adds (slice_set chains at next) (slice_set kept at last)
from_set plans pasts after from [] [] kept at count c next last differ is there keeps f all = tt
from_set plans pasts after from [] (x ∷ chains) kept at count c next last differ is there keeps f all = absurd all
from_set plans pasts after from (n ∷ adds) [] kept at count c next last differ is there keeps f all = absurd all
from_set plans pasts after from (n ∷ adds) (x ∷ chains) [] at count c next last differ is there keeps f all = absurd all
from_set plans pasts after from (n ∷ adds) (x ∷ chains) (one ∷ kept) zero count c next last differ is there keeps f all =
    let same : x ≡ c = cc in
    let counted : count ≡ n = cc in
    let p = place_of plans from in
    let parts = differ_parts (channels_of x) (all_channels chains) differ in (
      subst (λ m. Fits p after m next last) counted f,
      each_kept plans pasts after (suc from) adds chains kept
          (λ j has. keeps j (Contains-append_right (channels_of x) (all_channels chains) j has) (λ own. parts.apart j (subst (λ y. Contains (channels_of y) j) (sym same) own) has)) all.1,
    )
from_set plans pasts after from (n ∷ adds) (x ∷ chains) (one ∷ kept) (suc at) count c next last differ is there keeps f all =
    let p = place_of plans from in
    let parts = differ_parts (channels_of x) (all_channels chains) differ in (
      fits_kept p pasts after n x
          (λ j has. keeps j (Contains-append_left (channels_of x) (all_channels chains) j has) (λ own. parts.apart j has (at_contains chains at c j is own))) all.0,
      from_set plans pasts after (suc from) adds chains kept at count c next last parts.second is there (λ j has apart. keeps j (Contains-append_right (channels_of x) (all_channels chains) j has) apart) f all.1,
    )

pub set_stands : (plans : List Plan) (pasts after : List Past) (adds : List ℕ) (chains : List ChainValue) (kept : List ChainPast) (at count : ℕ) (c next : ChainValue) (last : ChainPast) → AllDiffer (all_channels chains) → slice_get chains at ≡ Some c
    → slice_get adds at ≡ Some count → ((j : ℕ) → Contains (all_channels chains) j → (Contains (channels_of c) j → ⊥) → Keeps j pasts after) → Fits (place_of plans at) after count next last
    → AllFit plans pasts 0 adds chains kept → AllFit plans after 0 adds (slice_set chains at next) (slice_set kept at last)
set_stands plans pasts after adds chains kept at count c next last differ is there keeps f all =
    from_set plans pasts after 0 adds chains kept at count c next last differ is there keeps (subst (λ p. Fits p after count next last) (sym (first_place plans at)) f) all
