-- What a side of a value-add queued goes out, one message after the other.
use Rattle.std.proofs.Common.{◌≡◌, Bool, true, false, List, [], ◌∷◌, Option, Some, None, refl, ap}
use Rattle.std.proofs.lemmas.List.{append-nil, append_assoc}
use Rattle.std.proofs.lemmas.Option.{none-some, same_Some}
use Rattle.channel_core.specs.EndValue.{EndValue}
use Rattle.channel_core.specs.declared.held.Outgoing.{Outgoing}
use Rattle.value_node.specs.Value.{after_giving, given}
use Rattle.value_node.specs.ForwardedValue.{ForwardedValue}
use Rattle.value_node.specs.ValueValue.{ValueValue}
use Rattle.value_node.specs.declared.relay.Relay.{Relay}
use Rattle.value_node.specs.declared.states.Side.{Side}
use Rattle.value_node.specs.declared.states.Side.TheVariants.{Below, Above}
use Rattle.chain_route.specs.Hop.{sent_from}
use Rattle.chain_route.specs.Passing.{emptied, queued_at}
use Rattle.chain_route.specs.declared.hop.Hop.{Hop}

-- ---- a hop

abbrev hop_of : (live shut : Bool) → List Outgoing → List Outgoing → Hop
hop_of live shut up down = record { is_live = live; is_refused = shut; up = up; down = down }

sent_parts : (side : Side) (live shut : Bool) (up down : List Outgoing) (out : Outgoing) (outs : List Outgoing)
    → sent_from side outs (sent_from side (out ∷ []) (hop_of live shut up down)) ≡ sent_from side (out ∷ outs) (hop_of live shut up down)
sent_parts Below true shut up down out outs = ap (λ xs. hop_of true shut up xs) (append_assoc down (out ∷ []) outs)
sent_parts Below false shut up down out outs = refl
sent_parts Above true true up down out outs = refl
sent_parts Above true false up down out outs = ap (λ xs. hop_of true false xs down) (append_assoc up (out ∷ []) outs)
sent_parts Above false shut up down out outs = refl

-- one message and then the others
pub sent_on : (side : Side) (out : Outgoing) (outs : List Outgoing) (hop : Hop) → sent_from side outs (sent_from side (out ∷ []) hop) ≡ sent_from side (out ∷ outs) hop
sent_on side out outs hop = sent_parts side hop.is_live hop.is_refused hop.up hop.down out outs

none_parts : (side : Side) (live shut : Bool) (up down : List Outgoing) → sent_from side [] (hop_of live shut up down) ≡ hop_of live shut up down
none_parts Below true shut up down = ap (λ xs. hop_of true shut up xs) (append-nil down)
none_parts Below false shut up down = refl
none_parts Above true true up down = refl
none_parts Above true false up down = ap (λ xs. hop_of true false xs down) (append-nil up)
none_parts Above false shut up down = refl

pub none_sent : (side : Side) (hop : Hop) → sent_from side [] hop ≡ hop
none_sent side hop = none_parts side hop.is_live hop.is_refused hop.up hop.down

-- ---- a value-add gives the first message that a side has queued

pub record GoesOn (side : Side) (v : ValueValue) (out : Outgoing) : Type 0 where
  pub queue : queued_at side v ≡ out ∷ queued_at side (after_giving side v)
  pub same : emptied side (after_giving side v) ≡ emptied side v

abbrev value_of : Bool → Relay → ValueValue
value_of spent v = record { relay = v; is_spent = spent }

abbrev below_of : List Outgoing → EndValue Unit → Relay → Relay
below_of queue e v = record v { lower = record e { queued = queue } }

abbrev above_of : List Outgoing → EndValue ForwardedValue → Relay → Relay
above_of queue e v = record v { upper = Some (record e { queued = queue }) }

goes_below : (queue : List Outgoing) (e : EndValue Unit) (v : Relay) (out : Outgoing) → given Below (value_of false (below_of queue e v)) ≡ Some out → GoesOn Below (value_of false (below_of queue e v)) out
goes_below [] e v out gives = absurd (none-some out gives)
goes_below (x ∷ xs) e v out gives = record { queue = ap (λ y. y ∷ xs) (same_Some x out gives); same = refl }

goes_queued : (queue : List Outgoing) (e : EndValue ForwardedValue) (v : Relay) (out : Outgoing) → given Above (value_of false (above_of queue e v)) ≡ Some out → GoesOn Above (value_of false (above_of queue e v)) out
goes_queued [] e v out gives = absurd (none-some out gives)
goes_queued (x ∷ xs) e v out gives = record { queue = ap (λ y. y ∷ xs) (same_Some x out gives); same = refl }

goes_above : (upper : Option (EndValue ForwardedValue)) (v : Relay) (out : Outgoing) → given Above (value_of false (record v { upper = upper })) ≡ Some out → GoesOn Above (value_of false (record v { upper = upper })) out
goes_above None v out gives = absurd (none-some out gives)
goes_above (Some e) v out gives = goes_queued e.queued e v out gives

goes_by : (side : Side) (spent : Bool) (v : Relay) (out : Outgoing) → given side (value_of spent v) ≡ Some out → GoesOn side (value_of spent v) out
goes_by side true v out gives = absurd (none-some out gives)
goes_by Below false v out gives = goes_below v.lower.queued v.lower v out gives
goes_by Above false v out gives = goes_above v.upper v out gives

pub add_goes_on : (side : Side) (v : ValueValue) (out : Outgoing) → given side v ≡ Some out → GoesOn side v out
add_goes_on side v out gives = goes_by side v.is_spent v.relay out gives

-- ---- one that gives nothing has nothing queued

abbrev IsEmpty : Side → ValueValue → Type 0
IsEmpty side v = (queued_at side v ≡ []) × (emptied side v ≡ v)

some_none : {A : Type 0} → (x : A) → Some x ≡ None → ⊥
some_none x is = cc

empty_below : (queue : List Outgoing) (e : EndValue Unit) (v : Relay) → given Below (value_of false (below_of queue e v)) ≡ None → IsEmpty Below (value_of false (below_of queue e v))
empty_below [] e v gives = (refl, refl)
empty_below (x ∷ xs) e v gives = absurd (some_none x gives)

empty_queued : (queue : List Outgoing) (e : EndValue ForwardedValue) (v : Relay) → given Above (value_of false (above_of queue e v)) ≡ None → IsEmpty Above (value_of false (above_of queue e v))
empty_queued [] e v gives = (refl, refl)
empty_queued (x ∷ xs) e v gives = absurd (some_none x gives)

empty_above : (upper : Option (EndValue ForwardedValue)) (v : Relay) → given Above (value_of false (record v { upper = upper })) ≡ None → IsEmpty Above (value_of false (record v { upper = upper }))
empty_above None v gives = (refl, refl)
empty_above (Some e) v gives = empty_queued e.queued e v gives

empty_by : (side : Side) (spent : Bool) (v : Relay) → given side (value_of spent v) ≡ None → IsEmpty side (value_of spent v)
empty_by side true v gives = (refl, refl)
empty_by Below false v gives = empty_below v.lower.queued v.lower v gives
empty_by Above false v gives = empty_above v.upper v gives

pub add_is_empty : (side : Side) (v : ValueValue) → given side v ≡ None → IsEmpty side v
add_is_empty side v gives = empty_by side v.is_spent v.relay gives
