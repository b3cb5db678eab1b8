-- Commands that are accepted and not sent yet: they are held before the Hello, after a redirect, and under a level above 0.
use Rattle.std.specs.Prelude.{pos, int_lt, Bool, true, false, not, ◌&&◌, if◌then◌else◌, List, [], ◌∷◌, ◌++◌, Some}
use Rattle.channel_core.specs.EndValue.{EndValue}
use Rattle.channel_core.specs.declared.held.Held.{Held}
use Rattle.channel_core.specs.declared.states.EndState.{EndState}
use Rattle.channel_core.specs.declared.states.EndState.TheVariants.{Opening, Live, Reopening, Closed}

abbrev pub is_live : EndState → Bool
is_live Opening = false
is_live Live = true
is_live Reopening = false
is_live (Closed cause) = false

-- commands go out: the end is Live, and wasn't last told a level above 0
abbrev pub is_free : {T : Type 0} → EndValue T → Bool
is_free e = is_live e.state && not (int_lt (pos 0) e.told)

-- a command goes out; a redirect makes the end Reopening
abbrev pub sent_out : {T : Type 0} → Held → EndValue T → EndValue T
sent_out h e =
    if h.is_redirect
    then record e { queued = e.queued ++ h.outgoing ∷ []; state = Reopening; redirect = Some h.token }
    else record e { queued = e.queued ++ h.outgoing ∷ [] }

-- they go out in order, up to and with the first redirect; the others stay held
abbrev pub let_out : {T : Type 0} → List Held → EndValue T → EndValue T
let_out [] e = record e { held = [] }
let_out (h ∷ held) e =
    let next = sent_out h (record e { held = held }) in
    if h.is_redirect then next else let_out held next

-- what is held goes out, where it may
abbrev pub released : {T : Type 0} → EndValue T → EndValue T
released e = if is_free e then let_out e.held e else e
