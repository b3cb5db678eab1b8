-- Value-adds listen first, and are served from there.
use Rattle.std.proofs.Common.{◌≡◌, ◌⊎◌, inl, inr, ℕ, List, [], ◌++◌, refl, sym, subst}
use Rattle.std.specs.Prelude.{Err, Ok}
use Rattle.tcf_wires.specs.Told.{WiresSeen, noted}
use Rattle.tcf_wires.specs.declared.call.WireCall.{WireCall}
use Rattle.tcf_wires.specs.declared.call.WireCall.TheVariants.{Listened}
use Rattle.tcf_wires.specs.declared.event.WireRefusal.{WireRefusal}
use Rattle.tcf_wires.specs.declared.event.WireRefusal.TheVariants as refusals
use Rattle.serving_wires.proofs.Leading.{Rows}
use Rattle.serving_wires.proofs.Making.{makes_both, makes_none, makes_nothing, makes_one}
use Rattle.serving_wires.proofs.Opening.{not_listening, not_opened, opened_at_once, opened_listening}
use Rattle.serving_wires.proofs.Turns.{heard, listened, unheard}
use Rattle.serving_wires.specs.Calls.{Makes}
use Rattle.serving_wires.specs.Ends.{end_of}
use Rattle.serving_wires.specs.Process.{done}
use Rattle.serving_wires.specs.Serve.{GoesOn, IsOpened, Runs}
use Rattle.serving_wires.specs.Serving.{ListensFirst}
use Rattle.serving_wires.specs.Standing.{heard_in}
use Rattle.serving_wires.specs.Turn.{Now}
use Rattle.serving_wires.specs.WireLaws.{WireLaws}
use Rattle.serving_wires.specs.declared.end.ServeEnd.{ServeEnd}
use Rattle.serving_wires.specs.declared.end.ServeEnd.TheVariants.{NoMemory, WireFault}
use Rattle.value_serving.proofs.ServedAdds.{serves_value_adds}
use Rattle.value_serving.specs.Serve.{ServesValueAdds}
use Rattle.value_serving.specs.Serving.{behaviour, new_serving, value_adds}
use Rattle.value_serving.specs.ServingValue.{ServingValue}

-- what is served are value-adds, since no two wires have the same channel
served_so : (peer address : List ℕ) (turns : ℕ) (end : ServeEnd) (calls : List WireCall) → ListensFirst address calls ⊎ ((calls ≡ []) × (end ≡ NoMemory)) → Runs (value_adds peer) turns end calls
    → ServesValueAdds peer address turns end calls
served_so peer address turns end calls listens runs = record { listens = listens; runs = runs; served = serves_value_adds peer (heard_in calls) runs.apart }

abbrev first_of : List ℕ → Now ServingValue
first_of peer = record { served = new_serving peer; sending = [] }

abbrev is_open : (peer : List ℕ) (unused : ℕ) → IsOpened (value_adds peer) (first_of peer) unused []
is_open peer unused = opened_at_once behaviour (new_serving peer) unused

nothing_yet : WireLaws → (peer address : List ℕ) (turns : ℕ) → ServesValueAdds peer address turns NoMemory []
nothing_yet laws peer address turns = served_so peer address turns NoMemory [] (inr (refl, refl)) (not_opened laws (value_adds peer) (first_of peer) 0 turns [] (is_open peer 0))

pub not_begun : WireLaws → (peer address : List ℕ) (turns : ℕ) (seen : WiresSeen) → Makes (ServesValueAdds peer address turns NoMemory) seen seen
not_begun laws peer address turns seen = makes_none (ServesValueAdds peer address turns NoMemory) seen (nothing_yet laws peer address turns)

pub not_listened : (refusal : WireRefusal) → WireLaws → (peer address : List ℕ) (turns : ℕ) (seen seen_then : WiresSeen)
    → seen_then ≡ noted (unheard refusal) (Listened address (unheard refusal)) seen
    → Makes (ServesValueAdds peer address turns (end_of (Err refusal))) seen seen_then
not_listened refusals.Failed laws peer address turns seen seen_then fails =
    makes_one (ServesValueAdds peer address turns WireFault) (Listened address (Err refusals.Failed)) seen seen_then
    (served_so peer address turns WireFault (listened address (Err refusals.Failed)) (inl (record { answer = Err refusals.Failed; later = []; first = refl; once = refl }))
    (not_listening laws (value_adds peer) (first_of peer) 0 turns [] address (is_open peer 0) refl))
    fails
not_listened refusals.NoMemory laws peer address turns seen seen_then fails =
    makes_nothing (ServesValueAdds peer address turns NoMemory) seen seen_then (nothing_yet laws peer address turns) fails

-- the calls of the loop come behind the listening
goes_behind : (answer : Unit {0}) (peer address : List ℕ) (unused turns : ℕ) (end : ServeEnd) (calls : List WireCall) → GoesOn behaviour (first_of peer) unused turns end calls
    → ServesValueAdds peer address turns end (listened address (Ok answer) ++ calls)
goes_behind answer peer address unused turns end calls g =
    served_so peer address turns end (listened address (Ok answer) ++ calls) (inl (record { answer = Ok answer; later = calls; first = refl; once = g.inside }))
    (g.runs (new_serving peer) (done (new_serving peer)) (listened address (Ok answer)) (opened_listening (value_adds peer) (first_of peer) unused [] address answer (is_open peer unused)))

pub served_behind : (answer : Unit {0}) (peer address : List ℕ) (unused turns : ℕ) (end : ServeEnd) (real : ServingValue) (rows : Rows) (seen seen1 seen2 : WiresSeen)
    → real ≡ new_serving peer → rows ≡ [] → seen1 ≡ noted (heard answer) (Listened address (heard answer)) seen
    → Makes (GoesOn behaviour (record { served = real; sending = rows }) unused turns end) seen1 seen2 → Makes (ServesValueAdds peer address turns end) seen seen2
served_behind answer peer address unused turns end real rows seen seen1 seen2 fresh empty listens goes =
    let First : List WireCall → Type 0 = λ cs. cs ≡ listened address (Ok answer) in
    let begun = subst (λ (r : Rows). Makes (GoesOn behaviour (record { served = new_serving peer; sending = r }) unused turns end) seen1 seen2) empty
    (subst (λ (v : ServingValue). Makes (GoesOn behaviour (record { served = v; sending = rows }) unused turns end) seen1 seen2) fresh goes) in
    makes_both First (GoesOn behaviour (first_of peer) unused turns end) (ServesValueAdds peer address turns end) seen seen1 seen2
    (λ first rest is g. subst (λ (cs : List WireCall). ServesValueAdds peer address turns end (cs ++ rest)) (sym is) (goes_behind answer peer address unused turns end rest g))
    (makes_one First (Listened address (Ok answer)) seen seen1 refl listens) begun
