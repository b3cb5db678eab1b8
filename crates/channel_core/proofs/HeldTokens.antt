-- The tokens of what is held don't fall, so only the first of them has to be looked at.
use Rattle.std.proofs.Common.{◌≡◌, ℕ, ◌==◌, ◌+◌, ◌<◌, ◌≤◌, false, List, [], ◌∷◌, ◌++◌, length, drop, refl, ap, arith}
use Rattle.std.specs.Prelude.{slice_index_or}
use Rattle.std.proofs.lemmas.Bool.{eqb-true, false_from_ne_true, or_from}
use Rattle.channel_core.specs.Farewell.{AreRising, AreWithin}
use Rattle.channel_core.specs.Taking.{is_held}
use Rattle.channel_core.specs.declared.held.Held.{Held}

pub none_rising : (low : ℕ) (held : List Held) → held ≡ [] → AreRising low held
none_rising low [] is = tt
none_rising low (h ∷ held) is = absurd cc

pub none_within : (last : ℕ) (held : List Held) → held ≡ [] → AreWithin last held
none_within last [] is = tt
none_within last (h ∷ held) is = absurd cc

-- ---- one more is held

rising_behind : (low last : ℕ) (held : List Held) (h : Held) → h.token ≡ last + 1 → low ≤ last + 1 → AreRising low held → AreWithin last held → AreRising low (held ++ h ∷ [])
rising_behind low last [] h next least rising within = (omega (arith, next), tt)
rising_behind low last (first ∷ held) h next least rising within = (rising.0, rising_behind first.token last held h next within.0 rising.1 within.1)

pub rising_more : (last : ℕ) (held : List Held) (h : Held) → h.token ≡ last + 1 → AreRising 0 held → AreWithin last held → AreRising 0 (held ++ h ∷ [])
rising_more last held h next rising within = rising_behind 0 last held h next (omega arith) rising within

pub within_more : (last : ℕ) (held : List Held) (h : Held) → h.token ≡ last + 1 → AreWithin last held → AreWithin last (held ++ h ∷ [])
within_more last [] h next within = (omega (arith, next), tt)
within_more last (first ∷ held) h next within = (within.0, within_more last held h next within.1)

-- ---- its token is the last one

pub within_next : (last token : ℕ) (held : List Held) → token ≡ last + 1 → AreWithin last held → AreWithin token held
within_next last token [] next within = tt
within_next last token (h ∷ held) next within = (let first = within.0 in omega (arith, next), within_next last token held next within.1)

-- ---- the first one goes out

pub rising_rest : (held : List Held) → AreRising 0 held → AreRising 0 (drop 1 held)
rising_rest [] rising = tt
rising_rest (first ∷ []) rising = tt
rising_rest (first ∷ (h ∷ held)) rising = (omega arith, rising.1.1)

pub within_rest : (last : ℕ) (held : List Held) → AreWithin last held → AreWithin last (drop 1 held)
within_rest last [] within = tt
within_rest last (h ∷ held) within = within.1

-- ---- a token below the first one

none_lower : (token low : ℕ) (held : List Held) → token < low → AreRising low held → is_held token held ≡ false
none_lower token low [] below rising = refl
none_lower token low (h ∷ held) below rising =
    let first = rising.0 in
    or_from (h.token == token) (is_held token held)
    (false_from_ne_true (h.token == token) (λ is. let same = eqb-true h.token token is in omega arith))
    (none_lower token h.token held (omega arith) rising.1)

pub none_below : (token : ℕ) (first : Held) (held : List Held) → first ≡ slice_index_or held 0 first → 0 < length held → token < first.token → AreRising 0 held → is_held token held ≡ false
none_below token first [] is some below rising = absurd (omega arith)
none_below token first (h ∷ held) is some below rising =
    let lower : token < h.token = (let same : first.token ≡ h.token = ap (λ x. x.token) is in omega arith) in
    or_from (h.token == token) (is_held token held)
    (false_from_ne_true (h.token == token) (λ is. let same = eqb-true h.token token is in omega arith))
    (none_lower token h.token held lower rising.1)

pub none_held : (token : ℕ) (held : List Held) → length held ≡ 0 → is_held token held ≡ false
none_held token [] is = refl
none_held token (h ∷ held) is = absurd (omega arith)
