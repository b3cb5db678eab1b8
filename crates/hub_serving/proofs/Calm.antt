-- Behind its first connect a hub asks for no connection.
use Rattle.std.proofs.Common.{◌≡◌, ℕ, Bool, true, false, not, List, [], ◌∷◌, ◌++◌, refl, sym, ap, ◌∙◌, subst, append_assoc}
use Rattle.std.specs.Prelude.{Ok, fold}
use Rattle.std.specs.List.{list_any}
use Rattle.std.proofs.lemmas.Bool.{false≢true}
use Rattle.hub_node.specs.Hub.{opened}
use Rattle.hub_node.specs.HubValue.{HubValue}
use Rattle.serving_wires.specs.Process.{Process, and_then, asks, done, tells}
use Rattle.serving_wires.specs.Row.{Row}
use Rattle.serving_wires.specs.Serve.{IsInPlace, Runs}
use Rattle.serving_wires.specs.Serving.{listens, reaches_out}
use Rattle.serving_wires.specs.Standing.{Heard, Standing, State, Wire, after_one, answered, came, heard_in, is_resting, landed, rests, sent_with, state_after, wires_after, wires_with}
use Rattle.tcf_wires.specs.declared.call.WireCall.{WireCall}
use Rattle.tcf_wires.specs.declared.call.WireCall.TheVariants.{Listened, Connected, Gave, Offered, Shut}
use Rattle.tcf_wires.specs.declared.event.WireEvent.{WireEvent}
use Rattle.tcf_wires.specs.declared.event.WireEvent.TheVariants as events
use Rattle.hub_serving.specs.Gathering.{closing, emptied, gathered_rows, sent_then}
use Rattle.hub_serving.specs.Lines.{is_live_on}
use Rattle.hub_serving.specs.Passing.{Lines}
use Rattle.hub_serving.specs.Serving.{acted, connected_on, gathered, handled, hub_of, live_alone, new_serving, opened_by, opened_on, passed}
use Rattle.hub_serving.specs.ServingValue.{ServingValue}
use Rattle.hub_serving.specs.declared.line.Line.{Line}

abbrev pub IsCalm : {A : Type 0} → Process A → Type 0
IsCalm (done a) = Unit {0}
IsCalm (tells order p) = IsCalm p
IsCalm (asks next) = ⊥

pub calm_then : {A B : Type 0} → (p : Process A) (later : A → Process B) → IsCalm p → ((a : A) → IsCalm (later a)) → IsCalm (and_then p later)
calm_then (done a) later calm so = so a
calm_then (tells order p) later calm so = calm_then p later calm so
calm_then (asks next) later calm so = absurd calm

closing_calm : {A : Type 0} → (flag : Bool) (channel : ℕ) (p : Process A) → IsCalm p → IsCalm (closing flag channel p)
closing_calm true channel p calm = calm
closing_calm false channel p calm = calm

rows_calm : (lines : Lines) (h : HubValue) → IsCalm (gathered_rows lines h)
rows_calm [] h = tt
rows_calm (row ∷ rows) h =
    closing_calm (not (is_live_on row.item.side h)) row.item.channel (gathered_rows rows (emptied row.item.side h)) (rows_calm rows (emptied row.item.side h))

gathered_calm : (s : ServingValue) → IsCalm (gathered s)
gathered_calm s = calm_then (gathered_rows s.lines s.hub) (λ h. done (live_alone s h)) (rows_calm s.lines s.hub) (λ h. tt)

opened_calm : (channel : ℕ) (t : Bool × HubValue) (s : ServingValue) → IsCalm (opened_by channel t s)
opened_calm channel (true, h) s = tt
opened_calm channel (false, h) s = tt

pub acted_calm : (event : WireEvent) (s : ServingValue) → IsCalm (acted event s)
unfolding acted
acted_calm (events.Opened channel) s = opened_calm channel (opened channel s.hub) s
acted_calm (events.Piece channel bytes) s = tt
acted_calm (events.Ended channel) s = tt
acted_calm (events.Lost channel) s = tt
acted_calm events.Idle s = tt
acted_calm events.Stop s = tt

pub handled_calm : (event : WireEvent) (s : ServingValue) → IsCalm (handled event s)
unfolding handled
handled_calm event s = calm_then (acted event s) (λ next. gathered (passed next)) (acted_calm event s) (λ next. gathered_calm (passed next))

-- ---- so it rests

pub calm_rests : {A : Type 0} → (a : A) (sent : List (Row Wire)) (p : Process A) → IsCalm p → (s : Standing A) × (landed a sent p ≡ rests s)
calm_rests a sent (done new) calm = (record { served = new; sent = sent }, refl)
calm_rests a sent (tells order p) calm = calm_rests a (sent_with order sent) p calm
calm_rests a sent (asks next) calm = absurd calm

all_rest : (peer : List ℕ) (heard : List Heard) (s : Standing ServingValue) → is_resting (fold (after_one (hub_of peer)) (rests s) heard) ≡ true
all_rest peer [] s = refl
all_rest peer (came event ∷ heard) s =
    let c = calm_rests s.served (wires_with event s.sent) (handled event s.served) (handled_calm event s.served) in
    ap (λ (state : State ServingValue). is_resting (fold (after_one (hub_of peer)) state heard)) c.1 ∙ all_rest peer heard c.0
all_rest peer (answered answer ∷ heard) s = all_rest peer heard s

pub rests_behind : (peer to : List ℕ) (channel : ℕ) (calls : List WireCall) → is_resting (state_after (hub_of peer) (Connected to (Ok channel) ∷ calls)) ≡ true
rests_behind peer to channel calls =
    all_rest peer (heard_in calls) (record { served = connected_on channel (new_serving peer); sent = wires_after (Ok channel) [] })

-- ---- and no call behind it connects, where none listens

abbrev first_call : List ℕ → ℕ → List WireCall
first_call peer channel = Connected peer (Ok channel) ∷ []

abbrev AreInPlace : List ℕ → ℕ → List WireCall → List WireCall → Type 0
AreInPlace peer channel mid calls = (front behind : List WireCall) (call : WireCall) → calls ≡ front ++ call ∷ behind → IsInPlace (hub_of peer) (first_call peer channel ++ (mid ++ front)) call

later_in_place : (peer : List ℕ) (channel : ℕ) (mid calls : List WireCall) (first : WireCall) → AreInPlace peer channel mid (first ∷ calls) → AreInPlace peer channel (mid ++ first ∷ []) calls
later_in_place peer channel mid calls first each = λ front behind call is.
    subst (λ (cs : List WireCall). IsInPlace (hub_of peer) (first_call peer channel ++ cs) call) (sym (append_assoc mid (first ∷ []) front))
    (each (first ∷ front) behind call (ap (λ (cs : List WireCall). first ∷ cs) is))

no_more : (peer : List ℕ) (channel : ℕ) (mid calls : List WireCall) → AreInPlace peer channel mid calls → list_any listens calls ≡ false → list_any reaches_out calls ≡ false
no_more peer channel mid [] each inside = refl
no_more peer channel mid (Listened address answer ∷ calls) each inside = absurd (false≢true (sym inside))
no_more peer channel mid (Connected to answer ∷ calls) each inside =
    let asked = each [] calls (Connected to answer) refl in
    absurd (false≢true (sym asked.waited_for ∙ rests_behind peer peer channel (mid ++ [])))
no_more peer channel mid (Gave answer ∷ calls) each inside = no_more peer channel (mid ++ Gave answer ∷ []) calls (later_in_place peer channel mid calls (Gave answer) each) inside
no_more peer channel mid (Offered on piece answer ∷ calls) each inside =
    no_more peer channel (mid ++ Offered on piece answer ∷ []) calls (later_in_place peer channel mid calls (Offered on piece answer) each) inside
no_more peer channel mid (Shut on ∷ calls) each inside = no_more peer channel (mid ++ Shut on ∷ []) calls (later_in_place peer channel mid calls (Shut on) each) inside

pub never_again : (peer : List ℕ) (channel : ℕ) (mid calls : List WireCall) → ((before behind : List WireCall) (call : WireCall) → first_call peer channel ++ (mid ++ calls) ≡ before ++ call ∷ behind → IsInPlace (hub_of peer) before call)
    → list_any listens calls ≡ false → list_any reaches_out calls ≡ false
never_again peer channel mid calls serves inside =
    no_more peer channel mid calls
    (λ front behind call is.
    serves (first_call peer channel ++ (mid ++ front)) behind call
    (ap (λ (cs : List WireCall). first_call peer channel ++ cs) (ap (λ (cs : List WireCall). mid ++ cs) is ∙ sym (append_assoc mid front (call ∷ behind)))))
    inside
