-- An agent listens first, and is served from there.
use Rattle.std.proofs.Common.{◌≡◌, ◌⊎◌, inl, inr, ℕ, Bool, ◌||◌, List, [], ◌++◌, refl, sym, ap, subst}
use Rattle.std.specs.Prelude.{Err, Ok, is_err}
use Rattle.std.specs.List.{IsDistinct, list_any}
use Rattle.target_contexts.specs.declared.process.Image.{Image}
use Rattle.tcf_wires.specs.Told.{WiresSeen, noted}
use Rattle.tcf_wires.specs.declared.call.WireCall.{WireCall}
use Rattle.tcf_wires.specs.declared.call.WireCall.TheVariants.{Listened}
use Rattle.tcf_wires.specs.declared.event.WireRefusal.{WireRefusal}
use Rattle.tcf_wires.specs.declared.event.WireRefusal.TheVariants as refusals
use Rattle.serving_wires.proofs.Leading.{Rows}
use Rattle.serving_wires.proofs.Making.{makes_both, makes_none, makes_nothing, makes_one}
use Rattle.serving_wires.proofs.Opening.{not_listening, opened_at_once, opened_listening}
use Rattle.serving_wires.proofs.Placing.{each_none}
use Rattle.serving_wires.proofs.Turns.{heard, listened, unheard}
use Rattle.serving_wires.proofs.Holding.{fails_so, never_reaches}
use Rattle.serving_wires.specs.Calls.{Makes}
use Rattle.serving_wires.specs.Ends.{end_of}
use Rattle.serving_wires.specs.Process.{done}
use Rattle.serving_wires.specs.Serve.{GoesOn, IsInPlace, IsOpened, Runs}
use Rattle.serving_wires.specs.Serving.{ListensOnce, breaks, fails}
use Rattle.serving_wires.specs.Turn.{Now}
use Rattle.serving_wires.specs.WireLaws.{WireLaws}
use Rattle.serving_wires.specs.declared.end.ServeEnd.{ServeEnd}
use Rattle.serving_wires.specs.declared.end.ServeEnd.TheVariants.{NoMemory, WireFault}
use Rattle.agent_serving.proofs.ServedSo.{always_rests, behind_wires}
use Rattle.agent_serving.specs.Serve.{ServesAgent}
use Rattle.agent_serving.specs.Serving.{behaviour, new_serving, served_agent}
use Rattle.agent_serving.specs.ServingValue.{ServingValue}

-- what is served is an agent, since no two wires have the same channel
served_so : (images : List Image) (address : List ℕ) (turns : ℕ) (end : ServeEnd) (calls : List WireCall) → ListensOnce address calls ⊎ ((calls ≡ []) × (end ≡ NoMemory)) → Runs (served_agent images) turns end calls
    → ServesAgent images address turns end calls
served_so images address turns end calls listens runs = record { listens = listens; runs = runs; agent = behind_wires images calls runs.apart runs.fronts }

abbrev first_of : List Image → Now ServingValue
first_of images = record { served = new_serving images; sending = [] }

abbrev is_open : (images : List Image) (unused : ℕ) → IsOpened (served_agent images) (first_of images) unused []
is_open images unused = opened_at_once behaviour (new_serving images) unused

-- with no call at all
pub none_served : (images : List Image) (address : List ℕ) (turns : ℕ) → ServesAgent images address turns NoMemory []
unfolding IsDistinct
none_served images address turns =
    served_so images address turns NoMemory [] (inr (refl, refl))
    (record {
      serves = each_none (IsInPlace (served_agent images)) [];
      fronts = λ channel. ([], refl);
      apart = tt;
      rests = λ other. absurd (other refl);
      settled = λ other some. absurd (other refl);
      ends = refl;
    })

pub not_begun : (images : List Image) (address : List ℕ) (turns : ℕ) (seen : WiresSeen) → Makes (ServesAgent images address turns NoMemory) seen seen
not_begun images address turns seen = makes_none (ServesAgent images address turns NoMemory) seen (none_served images address turns)

pub not_listened : (refusal : WireRefusal) → WireLaws → (images : List Image) (address : List ℕ) (turns : ℕ) (seen seen_then : WiresSeen)
    → seen_then ≡ noted (unheard refusal) (Listened address (unheard refusal)) seen
    → Makes (ServesAgent images address turns (end_of (Err refusal))) seen seen_then
not_listened refusals.Failed laws images address turns seen seen_then fails =
    makes_one (ServesAgent images address turns WireFault) (Listened address (Err refusals.Failed)) seen seen_then
    (served_so images address turns WireFault (listened address (Err refusals.Failed)) (inl (record { answer = Err refusals.Failed; later = []; first = refl; once = refl }))
    (not_listening laws (served_agent images) (first_of images) 0 turns [] address (is_open images 0) refl))
    fails
not_listened refusals.NoMemory laws images address turns seen seen_then fails =
    makes_nothing (ServesAgent images address turns NoMemory) seen seen_then (none_served images address turns) fails

-- the calls of the loop come behind the listening, and none of them connects
goes_behind : (answer : Unit {0}) (images : List Image) (address : List ℕ) (unused turns : ℕ) (end : ServeEnd) (calls : List WireCall) → GoesOn behaviour (first_of images) unused turns end calls
    → ServesAgent images address turns end (listened address (Ok answer) ++ calls)
goes_behind answer images address unused turns end calls g =
    let first : List WireCall = listened address (Ok answer) in
    let runs = g.runs (new_serving images) (done (new_serving images)) first (opened_listening (served_agent images) (first_of images) unused [] address answer (is_open images unused)) in
    served_so images address turns end (first ++ calls)
    (inl (record { answer = Ok answer; later = calls; first = refl; once = never_reaches (served_agent images) (always_rests images) first calls runs.serves g.inside })) runs

pub served_behind : (answer : Unit {0}) (images : List Image) (address : List ℕ) (unused turns : ℕ) (end : ServeEnd) (real : ServingValue) (rows : Rows) (seen seen1 seen2 : WiresSeen)
    → real ≡ new_serving images → rows ≡ [] → seen1 ≡ noted (heard answer) (Listened address (heard answer)) seen
    → Makes (GoesOn behaviour (record { served = real; sending = rows }) unused turns end) seen1 seen2 → Makes (ServesAgent images address turns end) seen seen2
served_behind answer images address unused turns end real rows seen seen1 seen2 fresh empty listens goes =
    let First : List WireCall → Type 0 = λ cs. cs ≡ listened address (Ok answer) in
    let begun = subst (λ (r : Rows). Makes (GoesOn behaviour (record { served = new_serving images; sending = r }) unused turns end) seen1 seen2) empty
    (subst (λ (v : ServingValue). Makes (GoesOn behaviour (record { served = v; sending = rows }) unused turns end) seen1 seen2) fresh goes) in
    makes_both First (GoesOn behaviour (first_of images) unused turns end) (ServesAgent images address turns end) seen seen1 seen2
    (λ first rest is g. subst (λ (cs : List WireCall). ServesAgent images address turns end (cs ++ rest)) (sym is) (goes_behind answer images address unused turns end rest g))
    (makes_one First (Listened address (Ok answer)) seen seen1 refl listens) begun

-- since none of its calls connects, each that fails breaks the run
pub fails_as_breaks : (images : List Image) (address : List ℕ) (turns : ℕ) (end : ServeEnd) (calls : List WireCall) → ServesAgent images address turns end calls → list_any fails calls ≡ list_any breaks calls
fails_as_breaks images address turns end calls served = elim served.listens as (λ _. list_any fails calls ≡ list_any breaks calls) [
  | inl l ↦ rw l.first (ap (λ (b : Bool). is_err l.answer || b) (fails_so l.later l.once))
  | inr none ↦ rw none.0 refl
]
