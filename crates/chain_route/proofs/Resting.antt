-- A step that each time leaves less in flight, or changes nothing: enough times, it comes to rest.
use Rattle.std.proofs.Common.{◌≡◌, ℕ, zero, suc, ◌+◌, ◌-◌, ◌<◌, ◌≤◌, ◌==◌, Bool, true, false, List, [], ◌∷◌, length, drop, refl, sym, ap, ◌∙◌, arith, inl, inr, ◌⊎◌, ne_eqb}
use Rattle.std.specs.Prelude.{nat_le}
use Rattle.std.proofs.lemmas.Bool.{leb-false}
use Rattle.std.proofs.lemmas.List.{length-drop}
use Rattle.std.proofs.lemmas.List.Sums.{sum_by-cons}
use Rattle.channel_core.specs.declared.held.Outgoing.{Outgoing}
use Rattle.chain_route.specs.Lane.{size_in, staying}

-- ---- A step again and again, of which each changes nothing or leaves fewer

abbrev pub again : {S : Type 0} → (S → S) → ℕ → S → S
again step zero s = s
again step (suc n) s = again step n (step s)

pub rests : {S : Type 0} → (step : S → S) (n : ℕ) (s : S) → step s ≡ s → again step n s ≡ s
rests step zero s same = refl
rests step (suc n) s same = ap (again step n) same ∙ rests step n s same

pub record Fewer {S : Type 0} (step : S → S) (size : S → ℕ) (P : S → Type 0) (s : S) : Type 0 where
  pub keeps : P (step s)
  pub fewer : size (step s) < size s

abbrev pub Goes : {S : Type 0} → (S → S) → (S → ℕ) → (S → Type 0) → Type 0
Goes {S} step size P = (s : S) → P s → (step s ≡ s) ⊎ Fewer step size P s

pub enough : {S : Type 0} → (step : S → S) (size : S → ℕ) (P : S → Type 0) → Goes step size P → (n m : ℕ) (s : S) → P s → size s ≤ n → size s ≤ m → again step n s ≡ again step m s
enough step size P goes zero zero s holds few also = refl
enough {S} step size P goes zero (suc m) s holds few also =
    elim (goes s holds) as (λ _. s ≡ again step (suc m) s) [
      | inl same ↦ sym (rests step (suc m) s same)
      | inr f ↦ absurd (none few f.fewer)
    ]
  where
    none : {n m : ℕ} → n ≤ 0 → m < n → ⊥
    none few less = omega (arith, few, less)
enough {S} step size P goes (suc n) zero s holds few also =
    elim (goes s holds) as (λ _. again step (suc n) s ≡ s) [
      | inl same ↦ rests step (suc n) s same
      | inr f ↦ absurd (none also f.fewer)
    ]
  where
    none : {n m : ℕ} → n ≤ 0 → m < n → ⊥
    none few less = omega (arith, few, less)
enough {S} step size P goes (suc n) (suc m) s holds few also =
    elim (goes s holds) as (λ _. again step (suc n) s ≡ again step (suc m) s) [
      | inl same ↦ rests step (suc n) s same ∙ sym (rests step (suc m) s same)
      | inr f ↦ enough step size P goes n m (step s) f.keeps (less few f.fewer) (less also f.fewer)
    ]
  where
    less : {a b c : ℕ} → a ≤ suc b → c < a → c ≤ b
    less few fewer = omega (arith, few, fewer)

-- ---- What stays in flight is less

pub size_more : (out : Outgoing) (outs : List Outgoing) → size_in (out ∷ outs) ≡ length out.bytes + 1 + size_in outs
size_more out outs = sum_by-cons (λ o. length o.bytes + 1) out outs

pub stays_within : (count : ℕ) (outs : List Outgoing) → size_in (staying count outs) ≤ size_in outs
stays_within count [] = omega arith
stays_within count (out ∷ outs) = by_none (count == 0) refl (stays_within (count - length out.bytes) outs)
  where
    by_size : (fits : Bool) → (count == 0) ≡ false → nat_le (length out.bytes) count ≡ fits → size_in (staying (count - length out.bytes) outs) ≤ size_in outs → size_in (staying count (out ∷ outs)) ≤ size_in (out ∷ outs)
    by_size true some fits rest =
        let is : staying count (out ∷ outs) ≡ staying (count - length out.bytes) outs = rw (some, fits) refl in
        rw is (omega (arith, rest, size_more out outs))
    by_size false some fits rest =
        let is : staying count (out ∷ outs) ≡ record out { bytes = drop count out.bytes } ∷ outs = rw (some, fits) refl in
        rw is (omega (arith, size_more out outs, size_more (record out { bytes = drop count out.bytes }) outs, length-drop count out.bytes))

    by_none : (none : Bool) → (count == 0) ≡ none → size_in (staying (count - length out.bytes) outs) ≤ size_in outs → size_in (staying count (out ∷ outs)) ≤ size_in (out ∷ outs)
    by_none true is rest = let same : staying count (out ∷ outs) ≡ out ∷ outs = rw is refl in rw same (omega arith)
    by_none false is rest = by_size (nat_le (length out.bytes) count) is refl rest

pub stays_fewer : (count : ℕ) (out : Outgoing) (outs : List Outgoing) → 0 < count → size_in (staying count (out ∷ outs)) < size_in (out ∷ outs)
stays_fewer count out outs more = by_size (nat_le (length out.bytes) count) refl
  where
    some : (count == 0) ≡ false
    some = ne_eqb count 0 (λ is. absurd (omega (arith, more, is)))

    by_size : (fits : Bool) → nat_le (length out.bytes) count ≡ fits → size_in (staying count (out ∷ outs)) < size_in (out ∷ outs)
    by_size true fits =
        let is : staying count (out ∷ outs) ≡ staying (count - length out.bytes) outs = rw (some, fits) refl in
        rw is (omega (arith, stays_within (count - length out.bytes) outs, size_more out outs))
    by_size false fits =
        let is : staying count (out ∷ outs) ≡ record out { bytes = drop count out.bytes } ∷ outs = rw (some, fits) refl in
        rw is (omega (arith, more, leb-false (length out.bytes) count fits, size_more out outs, size_more (record out { bytes = drop count out.bytes }) outs, length-drop count out.bytes))
