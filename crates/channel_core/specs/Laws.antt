-- Laws of an end.
use Rattle.std.specs.Prelude.{ℕ, zero, suc, ◌≡◌, true, List, [], ◌∷◌, ◌++◌, length, ◌+◌, map, if◌then◌else◌, Option, Some, None}
use Rattle.channel_core.specs.Closing.{after_drain, drained, is_closed}
use Rattle.channel_core.specs.EndValue.{EndValue}
use Rattle.channel_core.specs.Holding.{is_free, released}
use Rattle.channel_core.specs.declared.held.Held.{Held}

abbrev pub listed : {A : Type 0} → Option A → List A
listed None = []
listed (Some x) = x ∷ []

-- the tags that so many calls of drain give
abbrev pub drained_by : {T : Type 0} → ℕ → EndValue T → List T
drained_by zero e = []
drained_by (suc calls) e = listed (drained e) ++ drained_by calls (after_drain e)

-- each pending tag of a closed end is given once, in order of issue, by as many calls as there are, or more
abbrev pub GivesEach : Type 0 → Type 0
GivesEach T = (e : EndValue T) (more : ℕ) → is_closed e.state ≡ true →
    drained_by (length e.pending + more) e ≡ map (λ row. row.1) e.pending

-- ---- commands that are held go out

-- up to and with the first redirect, and what stands behind that
abbrev pub up_to_redirect : List Held → List Held
up_to_redirect [] = []
up_to_redirect (h ∷ held) = h ∷ (if h.is_redirect then [] else up_to_redirect held)

abbrev pub behind_redirect : List Held → List Held
behind_redirect [] = []
behind_redirect (h ∷ held) = if h.is_redirect then held else behind_redirect held

-- where commands go out, those that are held do, in order, up to and with the first redirect; the others stay held
abbrev pub GoesOut : Type 0 → Type 0
GoesOut T = (e : EndValue T) → is_free e ≡ true →
    ((released e).queued ≡ e.queued ++ map (λ h. h.outgoing) (up_to_redirect e.held)) × ((released e).held ≡ behind_redirect e.held)
