-- The puts go in rising order of the channels.
use Rattle.std.proofs.Common.{◌≡◌, ℕ, zero, suc, ◌+◌, ◌<◌, ◌≤◌, ◌⊎◌, inl, inr, List, [], ◌∷◌, ◌++◌, ap, ◌∙◌, subst, arith, add-one, append_assoc}
use Rattle.std.specs.Prelude.{fold, slice_index}
use Rattle.std.specs.List.Sorted.{IsStrictlyIncreasing}
use Rattle.std.proofs.lemmas.List.Sums.{fold-append}
use Rattle.tcf_wires.specs.declared.call.WireCall.{WireCall}
use Rattle.serving_wires.specs.Calls.{put_on}

-- channels that rise from a number on
abbrev pub RisesFrom : ℕ → List ℕ → Type 0
RisesFrom low [] = Unit
RisesFrom low (k ∷ ks) = (low ≤ k) × RisesFrom (k + 1) ks

pub rises_lower : (low lower : ℕ) (ks : List ℕ) → lower ≤ low → RisesFrom low ks → RisesFrom lower ks
rises_lower low lower [] less rises = tt
rises_lower low lower (k ∷ ks) less (first, rest) = (omega (arith, less, first), rest)

pub rising : (low : ℕ) (ks : List ℕ) → RisesFrom low ks → IsStrictlyIncreasing ks
rising low [] rises k within = absurd (omega (arith, within))
rising low (x ∷ []) rises k within = absurd (omega (arith, within))
rising low (x ∷ y ∷ ks) (first, rest) zero within = let less : x + 1 ≤ y = rest.0 in omega (arith, less)
rising low (x ∷ y ∷ ks) (first, rest) (suc k) within =
    rw add-one (subst (λ (n : ℕ). slice_index (y ∷ ks) k < slice_index (y ∷ ks) n) (add-one k) (rising (x + 1) (y ∷ ks) rest k (omega (arith, within))))

-- the channels that these calls put on, behind others
pub record PutsRising (low : ℕ) (before : List ℕ) (calls : List WireCall) : Type 0 where
  pub channels : List ℕ
  pub puts : fold put_on before calls ≡ before ++ channels
  pub rises : RisesFrom low channels

pub rising_behind : (low channel : ℕ) (before : List ℕ) (first rest : List WireCall) → low ≤ channel
    → (fold put_on before first ≡ before) ⊎ (fold put_on before first ≡ before ++ channel ∷ []) → PutsRising (channel + 1) (fold put_on before first) rest → PutsRising low before (first ++ rest)
rising_behind low channel before first rest above (inl nothing) p =
    record {
      channels = p.channels;
      puts = fold-append put_on before first rest ∙ p.puts ∙ ap (λ (ks : List ℕ). ks ++ p.channels) nothing;
      rises = rises_lower (channel + 1) low p.channels (omega (arith, above)) p.rises;
    }
rising_behind low channel before first rest above (inr one) p =
    record {
      channels = channel ∷ p.channels;
      puts = fold-append put_on before first rest ∙ p.puts ∙ ap (λ (ks : List ℕ). ks ++ p.channels) one ∙ append_assoc before (channel ∷ []) p.channels;
      rises = (above, p.rises);
    }
