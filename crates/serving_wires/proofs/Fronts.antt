-- What was taken on each wire is a front of what is queued for it, also behind more calls in their place, without an event.
use Rattle.std.proofs.Common.{◌≡◌, ℕ, ◌==◌, Bool, true, false, List, [], ◌∷◌, ◌++◌, take, drop, refl, sym, ap, ◌∙◌, subst, append-nil, append_assoc, eqb-true, eq-eqb}
use Rattle.std.specs.Prelude.{if◌then◌else◌}
use Rattle.std.proofs.lemmas.List.{take-append-drop}
use Rattle.tcf_wires.specs.Told.{taken_by, taken_on}
use Rattle.tcf_wires.specs.declared.call.WireCall.{WireCall}
use Rattle.tcf_wires.specs.declared.call.WireCall.TheVariants.{Listened, Connected, Gave, Offered, Shut}
use Rattle.tcf_wires.specs.declared.event.Put.TheVariants.{Took, Lost, NoMemory as NoRoom}
use Rattle.tcf_wires.specs.declared.event.WireEvent.{WireEvent}
use Rattle.serving_wires.specs.Calls.{event_of, events_in}
use Rattle.serving_wires.specs.Following.{IsSplit}
use Rattle.serving_wires.specs.Serving.{AreFronts, EachBehind, IsInPlace, IsOffer, Nodes}
use Rattle.serving_wires.proofs.Spared.{same_events, taken_both}

abbrev pub IsFront : List ℕ → List ℕ → Type 0
IsFront queued taken = (rest : List ℕ) × (queued ≡ taken ++ rest)

-- by what is left
pub own_front : (lost : Bool) (all taken left : List ℕ) → IsSplit lost all taken left → IsFront all taken
own_front false all taken left split = (left, split)
own_front true all taken left split = split.1

-- ---- behind more calls

abbrev FrontWith : Nodes → List WireCall → WireCall → ℕ → Type 0
FrontWith nodes before call channel = IsFront (nodes.served (events_in (before ++ call ∷ [])) channel) (taken_on channel (before ++ call ∷ []))

-- the call takes nothing on the channel
front_as_before : (nodes : Nodes) (before : List WireCall) (call : WireCall) (channel : ℕ) → event_of call ≡ [] → taken_by call channel ≡ [] → AreFronts nodes before
    → FrontWith nodes before call channel
front_as_before nodes before call channel quiet nothing fronts =
    let f = fronts channel in
    let events : events_in (before ++ call ∷ []) ≡ events_in before = same_events before (call ∷ []) (ap (λ (es : List WireEvent). es ++ []) quiet) in
    let taken : taken_on channel (before ++ call ∷ []) ≡ taken_on channel before =
    taken_both channel before (call ∷ []) ∙ ap (λ (bytes : List ℕ). taken_on channel before ++ (bytes ++ [])) nothing ∙ append-nil (taken_on channel before) in
    (f.0, ap (λ (es : List WireEvent). nodes.served es channel) events ∙ f.1 ∙ ap (λ (bytes : List ℕ). bytes ++ f.0) (sym taken))

-- it takes this much of all that is left
front_with_offer : (nodes : Nodes) (before : List WireCall) (channel : ℕ) (piece : List ℕ) (count : ℕ) → IsOffer nodes channel piece before
    → FrontWith nodes before (Offered channel piece (Took count)) channel
front_with_offer nodes before channel piece count offer =
    let call = Offered channel piece (Took count) in
    let events : events_in (before ++ call ∷ []) ≡ events_in before = same_events before (call ∷ []) refl in
    let own : taken_on channel (call ∷ []) ≡ take count piece =
    ap (λ (b : Bool). (if b then take count piece else []) ++ []) (eq-eqb channel channel refl) ∙ append-nil (take count piece) in
    let taken : taken_on channel (before ++ call ∷ []) ≡ taken_on channel before ++ take count piece =
    taken_both channel before (call ∷ []) ∙ ap (λ (bytes : List ℕ). taken_on channel before ++ bytes) own in (
      drop count piece,
      ap (λ (es : List WireEvent). nodes.served es channel) events ∙ sym offer.all ∙ ap (λ (bytes : List ℕ). taken_on channel before ++ bytes) (sym (take-append-drop count piece))
          ∙ sym (append_assoc (taken_on channel before) (take count piece) (drop count piece)) ∙ ap (λ (bytes : List ℕ). bytes ++ drop count piece) (sym taken),
    )

front_with_put : (nodes : Nodes) (before : List WireCall) (number : ℕ) (piece : List ℕ) (count channel : ℕ) (flag : Bool) → (number == channel) ≡ flag → IsOffer nodes number piece before
    → AreFronts nodes before → FrontWith nodes before (Offered number piece (Took count)) channel
front_with_put nodes before number piece count channel true here offer fronts =
    subst (λ (k : ℕ). FrontWith nodes before (Offered number piece (Took count)) k) (eqb-true number channel here) (front_with_offer nodes before number piece count offer)
front_with_put nodes before number piece count channel false away offer fronts =
    front_as_before nodes before (Offered number piece (Took count)) channel refl (ap (λ (b : Bool). if b then take count piece else []) away) fronts

front_with : (nodes : Nodes) (before : List WireCall) (call : WireCall) → IsInPlace nodes before call → event_of call ≡ [] → AreFronts nodes before → AreFronts nodes (before ++ call ∷ [])
front_with nodes before (Listened address answer) place quiet fronts channel = front_as_before nodes before (Listened address answer) channel quiet refl fronts
front_with nodes before (Connected peer answer) place quiet fronts channel = front_as_before nodes before (Connected peer answer) channel quiet refl fronts
front_with nodes before (Gave answer) place quiet fronts channel = front_as_before nodes before (Gave answer) channel quiet refl fronts
front_with nodes before (Shut number) place quiet fronts channel = front_as_before nodes before (Shut number) channel quiet refl fronts
front_with nodes before (Offered number piece (Took count)) place quiet fronts channel =
    front_with_put nodes before number piece count channel (number == channel) refl place fronts
front_with nodes before (Offered number piece Lost) place quiet fronts channel = front_as_before nodes before (Offered number piece Lost) channel quiet refl fronts
front_with nodes before (Offered number piece NoRoom) place quiet fronts channel = front_as_before nodes before (Offered number piece NoRoom) channel quiet refl fronts

pub both_none : (first rest : List WireEvent) → first ++ rest ≡ [] → (first ≡ []) × (rest ≡ [])
both_none [] rest none = (refl, none)
both_none (event ∷ first) rest none = absurd cc

pub fronts_behind : (nodes : Nodes) (calls more : List WireCall) → EachBehind (IsInPlace nodes) calls more → events_in more ≡ [] → AreFronts nodes calls → AreFronts nodes (calls ++ more)
fronts_behind nodes calls [] places quiet fronts = subst (λ (cs : List WireCall). AreFronts nodes cs) (sym (append-nil calls)) fronts
fronts_behind nodes calls (call ∷ more) places quiet fronts =
    let none = both_none (event_of call) (events_in more) quiet in
    let place = subst (λ (cs : List WireCall). IsInPlace nodes cs call) (append-nil calls) (places [] more call refl) in
    subst (λ (cs : List WireCall). AreFronts nodes cs) (append_assoc calls (call ∷ []) more)
    (fronts_behind nodes (calls ++ call ∷ []) more
    (λ before after other is.
    subst (λ (cs : List WireCall). IsInPlace nodes cs other) (sym (append_assoc calls (call ∷ []) before)) (places (call ∷ before) after other (ap (λ (cs : List WireCall). call ∷ cs) is)))
    none.1 (front_with nodes calls call place none.0 fronts))
