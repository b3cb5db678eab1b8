-- A hub connects first, then it listens, and is served from there.
use Rattle.std.proofs.Common.{◌≡◌, ◌⊎◌, inl, inr, ℕ, ◌+◌, ◌≤◌, List, [], ◌∷◌, ◌++◌, refl, sym, ap, ◌∙◌, subst, arith}
use Rattle.std.specs.Prelude.{Err, Ok}
use Rattle.tcf_outside.specs.Faults.{Rose}
use Rattle.tcf_wires.specs.Told.{WiresSeen, noted}
use Rattle.tcf_wires.specs.declared.call.WireCall.{WireCall}
use Rattle.tcf_wires.specs.declared.call.WireCall.TheVariants.{Connected, Listened}
use Rattle.tcf_wires.specs.declared.event.WireRefusal.{WireRefusal}
use Rattle.tcf_wires.specs.declared.event.WireRefusal.TheVariants as refusals
use Rattle.serving_wires.proofs.Leading.{Rows}
use Rattle.serving_wires.proofs.Making.{makes_both, makes_none, makes_nothing, makes_one, makes_so}
use Rattle.serving_wires.proofs.Opening.{not_listening, not_opened, opened_listening}
use Rattle.serving_wires.proofs.Rising.{rose_raised}
use Rattle.serving_wires.proofs.Turns.{heard, listened, unheard}
use Rattle.serving_wires.specs.Calls.{Makes}
use Rattle.serving_wires.specs.Ends.{end_of}
use Rattle.serving_wires.specs.Going.{answered, here}
use Rattle.serving_wires.specs.Process.{Answer, done}
use Rattle.serving_wires.specs.Sending.{begun}
use Rattle.serving_wires.specs.Serve.{GoesOn, IsOpened, Runs}
use Rattle.serving_wires.specs.Serving.{ListensOnce}
use Rattle.serving_wires.specs.Standing.{heard_in}
use Rattle.serving_wires.specs.Turn.{Now}
use Rattle.serving_wires.specs.WireLaws.{WireLaws}
use Rattle.serving_wires.specs.declared.end.ServeEnd.{ServeEnd}
use Rattle.serving_wires.specs.declared.end.ServeEnd.TheVariants.{NoMemory, WireFault}
use Rattle.hub_serving.specs.Serve.{ConnectsThenListens, ServesHub, served, unbegun, unconnected}
use Rattle.hub_serving.specs.Served.{ServedIsAHub}
use Rattle.hub_serving.specs.Serving.{behaviour, connected, connected_on, connecting, hub_of, new_serving}
use Rattle.hub_serving.specs.ServingValue.{ServingValue}
use Rattle.hub_serving.proofs.Calm.{never_again}

-- ---- before it listens

pub not_begun : (peer address : List ℕ) (turns : ℕ) (seen : WiresSeen) → Makes (ServesHub peer address turns NoMemory) seen seen
not_begun peer address turns seen = makes_none (ServesHub peer address turns NoMemory) seen (unbegun refl refl)

pub not_connected : (refusal : WireRefusal) (peer address : List ℕ) (turns : ℕ) (seen seen1 : WiresSeen)
    → seen1 ≡ noted {A = ℕ} (Err refusal) (Connected peer (Err refusal)) seen
    → Makes (ServesHub peer address turns (end_of (Err refusal))) seen seen1
not_connected refusals.Failed peer address turns seen seen1 fails =
    makes_one (ServesHub peer address turns WireFault) (Connected peer (Err refusals.Failed)) seen seen1 (unconnected refl refl) fails
not_connected refusals.NoMemory peer address turns seen seen1 fails =
    makes_nothing (ServesHub peer address turns NoMemory) seen seen1 (unbegun refl refl) fails

pub connect_rose : (refusal : WireRefusal) (peer : List ℕ) (seen seen_then : WiresSeen) → seen_then ≡ noted {A = ℕ} (Err refusal) (Connected peer (Err refusal)) seen
    → end_of (Err refusal) ≡ WireFault → Rose seen.faults seen_then.faults
connect_rose refusals.Failed peer seen seen_then fails ends =
    subst (λ (n : ℕ). Rose seen.faults n) (sym (ap (λ (s : WiresSeen). s.faults) fails)) (rose_raised seen.faults seen.faults (inl (omega arith)))
connect_rose refusals.NoMemory peer seen seen_then fails ends = absurd cc

pub rose_behind : (peer : List ℕ) (channel : ℕ) (Ends : Type 0) (seen seen1 seen2 : WiresSeen) → seen1 ≡ noted {A = ℕ} (Ok channel) (Connected peer (Ok channel)) seen
    → (Ends → Rose seen1.faults seen2.faults) → Ends → Rose seen.faults seen2.faults
rose_behind peer channel Ends seen seen1 seen2 connects rose = λ ends. subst (λ (n : ℕ). Rose n seen2.faults) (ap (λ (s : WiresSeen). s.faults) connects) (rose ends)

-- ---- it has connected

abbrev now_of : List ℕ → ℕ → Now ServingValue
now_of peer channel = record { served = connected_on channel (new_serving peer); sending = begun channel [] }

abbrev first_call : List ℕ → ℕ → List WireCall
first_call peer channel = Connected peer (Ok channel) ∷ []

is_open : (peer : List ℕ) (channel n : ℕ) → n ≤ channel → IsOpened (hub_of peer) (now_of peer channel) (channel + 1) (first_call peer channel)
is_open peer channel n fits =
    record {
      peer = refl;
      earlier = n;
      connects = first_call peer channel;
      goes = answered n (channel + 1) (Ok channel) (λ answer. connected answer (new_serving peer)) (done (connected_on channel (new_serving peer))) [] (begun channel []) [] fits
          (here (channel + 1) (done (connected_on channel (new_serving peer))) (begun channel []));
      addresses = [];
      listened = refl;
      called = refl;
    }

-- what is served is a hub, since no two wires have the same channel
served_so : ServedIsAHub → (peer address : List ℕ) (turns : ℕ) (end : ServeEnd) (calls : List WireCall) → ConnectsThenListens peer address end calls → Runs (hub_of peer) turns end calls
    → ServesHub peer address turns end calls
served_so is_hub peer address turns end calls opens runs = served opens runs (is_hub peer (heard_in calls) runs.apart)

connected_alone : WireLaws → ServedIsAHub → (peer address : List ℕ) (channel n turns : ℕ) → n ≤ channel → ServesHub peer address turns NoMemory (first_call peer channel)
connected_alone laws is_hub peer address channel n turns fits =
    served_so is_hub peer address turns NoMemory (first_call peer channel) (record { channel = channel; later = []; connects = refl; listens = inr (refl, refl) })
    (not_opened laws (hub_of peer) (now_of peer channel) (channel + 1) turns (first_call peer channel) (is_open peer channel n fits))

-- the connect, and what comes of it
abbrev IsConnected : List ℕ → ℕ → List WireCall → Type 0
IsConnected peer channel calls = calls ≡ first_call peer channel

connects_one : (peer : List ℕ) (channel : ℕ) (seen seen1 : WiresSeen) → seen1 ≡ noted {A = ℕ} (Ok channel) (Connected peer (Ok channel)) seen
    → Makes (IsConnected peer channel) seen seen1
connects_one peer channel seen seen1 connects = makes_one (IsConnected peer channel) (Connected peer (Ok channel)) seen seen1 refl connects

pub not_started : WireLaws → ServedIsAHub → (peer address : List ℕ) (channel n turns : ℕ) (seen seen1 : WiresSeen) → n ≤ channel
    → seen1 ≡ noted {A = ℕ} (Ok channel) (Connected peer (Ok channel)) seen
    → Makes (ServesHub peer address turns NoMemory) seen seen1
not_started laws is_hub peer address channel n turns seen seen1 fits connects =
    makes_one (ServesHub peer address turns NoMemory) (Connected peer (Ok channel)) seen seen1 (connected_alone laws is_hub peer address channel n turns fits) connects

-- the address couldn't be listened on
not_listened_by : (refusal : WireRefusal) → WireLaws → ServedIsAHub → (peer address : List ℕ) (channel n turns : ℕ) (seen1 seen2 : WiresSeen) → n ≤ channel
    → seen2 ≡ noted (unheard refusal) (Listened address (unheard refusal)) seen1
    → Makes (λ calls. ServesHub peer address turns (end_of (Err refusal)) (first_call peer channel ++ calls)) seen1 seen2
unfolding is_open
not_listened_by refusals.Failed laws is_hub peer address channel n turns seen1 seen2 fits fails =
    makes_one (λ calls. ServesHub peer address turns WireFault (first_call peer channel ++ calls)) (Listened address (Err refusals.Failed)) seen1 seen2
    (served_so is_hub peer address turns WireFault (first_call peer channel ++ listened address (Err refusals.Failed))
    (record { channel = channel; later = listened address (Err refusals.Failed); connects = refl; listens = inl (record { answer = Err refusals.Failed; later = []; first = refl; once = refl }) })
    (not_listening laws (hub_of peer) (now_of peer channel) (channel + 1) turns (first_call peer channel) address (is_open peer channel n fits) refl))
    fails
not_listened_by refusals.NoMemory laws is_hub peer address channel n turns seen1 seen2 fits fails =
    makes_nothing (λ calls. ServesHub peer address turns NoMemory (first_call peer channel ++ calls)) seen1 seen2 (connected_alone laws is_hub peer address channel n turns fits) fails

pub not_listened : (refusal : WireRefusal) → WireLaws → ServedIsAHub → (peer address : List ℕ) (channel n turns : ℕ) (seen seen1 seen2 : WiresSeen) → n ≤ channel
    → seen1 ≡ noted {A = ℕ} (Ok channel) (Connected peer (Ok channel)) seen
    → seen2 ≡ noted (unheard refusal) (Listened address (unheard refusal)) seen1
    → Makes (ServesHub peer address turns (end_of (Err refusal))) seen seen2
not_listened refusal laws is_hub peer address channel n turns seen seen1 seen2 fits connects fails =
    makes_both (IsConnected peer channel) (λ calls. ServesHub peer address turns (end_of (Err refusal)) (first_call peer channel ++ calls)) (ServesHub peer address turns (end_of (Err refusal)))
    seen seen1 seen2
    (λ first rest is serves. subst (λ (cs : List WireCall). ServesHub peer address turns (end_of (Err refusal)) (cs ++ rest)) (sym is) serves)
    (connects_one peer channel seen seen1 connects) (not_listened_by refusal laws is_hub peer address channel n turns seen1 seen2 fits fails)

-- ---- the calls of the loop come behind the listening

goes_behind : ServedIsAHub → (answer : Unit {0}) (peer address : List ℕ) (channel n turns : ℕ) (end : ServeEnd) (calls : List WireCall) → n ≤ channel
    → GoesOn behaviour (now_of peer channel) (channel + 1) turns end calls → ServesHub peer address turns end (first_call peer channel ++ (listened address (Ok answer) ++ calls))
goes_behind is_hub answer peer address channel n turns end calls fits g =
    let runs : Runs (hub_of peer) turns end (first_call peer channel ++ (listened address (Ok answer) ++ calls)) =
    g.runs (new_serving peer) (connecting (new_serving peer)) (first_call peer channel ++ listened address (Ok answer))
    (opened_listening (hub_of peer) (now_of peer channel) (channel + 1) (first_call peer channel) address answer (is_open peer channel n fits)) in
    served_so is_hub peer address turns end (first_call peer channel ++ (listened address (Ok answer) ++ calls))
    (record {
      channel = channel;
      later = listened address (Ok answer) ++ calls;
      connects = refl;
      listens = inl (record { answer = Ok answer; later = calls; first = refl; once = never_again peer channel (listened address (Ok answer)) calls runs.serves g.inside });
    })
    runs

pub served_behind : ServedIsAHub → (answer : Unit {0}) (peer address : List ℕ) (channel n turns : ℕ) (end : ServeEnd) (real : ServingValue) (rows : Rows) (seen seen1 seen2 seen3 : WiresSeen) → n ≤ channel
    → real ≡ connected_on channel (new_serving peer) → rows ≡ begun channel []
    → seen1 ≡ noted {A = ℕ} (Ok channel) (Connected peer (Ok channel)) seen
    → seen2 ≡ noted (heard answer) (Listened address (heard answer)) seen1
    → Makes (GoesOn behaviour (record { served = real; sending = rows }) seen2.unused turns end) seen2 seen3 → Makes (ServesHub peer address turns end) seen seen3
served_behind is_hub answer peer address channel n turns end real rows seen seen1 seen2 seen3 fits fresh empty connects listens goes =
    let Second : List WireCall → Type 0 = λ cs. cs ≡ listened address (Ok answer) in
    let P : ServingValue → Rows → ℕ → Type 0 = λ v rs m. Makes (GoesOn behaviour (record { served = v; sending = rs }) m turns end) seen2 seen3 in
    let numbers : seen2.unused ≡ channel + 1 = ap (λ (s : WiresSeen). s.unused) listens ∙ ap (λ (s : WiresSeen). s.unused) connects in
    let begun_so : P (connected_on channel (new_serving peer)) (begun channel []) (channel + 1) =
    subst (P (connected_on channel (new_serving peer)) (begun channel [])) numbers
    (subst (λ (rs : Rows). P (connected_on channel (new_serving peer)) rs seen2.unused) empty (subst (λ (v : ServingValue). P v rows seen2.unused) fresh goes)) in
    makes_both (IsConnected peer channel) (λ calls. ServesHub peer address turns end (first_call peer channel ++ calls)) (ServesHub peer address turns end) seen seen1 seen3
    (λ first rest is serves. subst (λ (cs : List WireCall). ServesHub peer address turns end (cs ++ rest)) (sym is) serves)
    (connects_one peer channel seen seen1 connects)
    (makes_both Second (GoesOn behaviour (now_of peer channel) (channel + 1) turns end) (λ calls. ServesHub peer address turns end (first_call peer channel ++ calls)) seen1 seen2 seen3
    (λ first rest is g.
    subst (λ (cs : List WireCall). ServesHub peer address turns end (first_call peer channel ++ (cs ++ rest))) (sym is) (goes_behind is_hub answer peer address channel n turns end rest fits g))
    (makes_one Second (Listened address (Ok answer)) seen1 seen2 refl listens) begun_so)
