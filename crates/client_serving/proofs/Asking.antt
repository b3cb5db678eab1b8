-- A served client asks for no connection but its first, and stands behind its wires as the events alone make it.
use Rattle.std.proofs.Common.{◌≡◌, ℕ, true, false, List, [], ◌∷◌, Option, Some, None, refl, sym, ap, ◌∙◌, subst}
use Rattle.std.specs.Prelude.{Ok, Err, fold}
use Rattle.std.specs.List.{list_any}
use Rattle.std.proofs.lemmas.Bool.{false≢true}
use Rattle.channel_core.specs.declared.held.Outgoing.{Outgoing}
use Rattle.channel_core.specs.declared.states.Cause.{Cause}
use Rattle.tcf_schedules.specs.declared.script.ScriptLine.{ScriptLine}
use Rattle.tcf_wires.specs.declared.call.WireCall.{WireCall}
use Rattle.tcf_wires.specs.declared.call.WireCall.TheVariants.{Listened, Connected, Gave, Offered, Shut}
use Rattle.tcf_wires.specs.declared.event.WireEvent.{WireEvent}
use Rattle.serving_wires.specs.Calls.{events_in}
use Rattle.serving_wires.specs.Process.{Process}
use Rattle.serving_wires.specs.Serving.{reaches_out}
use Rattle.serving_wires.specs.Standing.{State, after_one, came, heard_in, is_resting, landed, rests, standing_in, state_after, waits, wires_with, with_wire}
use Rattle.serving_wires.proofs.Coming.{ComesTo}
use Rattle.serving_wires.proofs.Holding.{NeverAsks, goes_comes, landed_rests, landed_so}
use Rattle.serving_wires.proofs.Leading.{Rows}
use Rattle.serving_wires.proofs.Wires.{Wires}
use Rattle.client_serving.specs.Begun.{Tells}
use Rattle.client_serving.specs.Serving.{acted, after_all, after_event, after_events, all_gathered, begun, cause_of, closed_for, handled, opened_with, queue_of, sends, served_client, told, told_on, unconnected, went_on}
use Rattle.client_serving.specs.ServingValue.{ServingValue}
use Rattle.client_serving.proofs.Keeping.{went_on_keeps}

-- ---- it never asks

sends_never : (channel : ℕ) (outs : List Outgoing) (next : Process ServingValue) → NeverAsks next → NeverAsks (sends channel outs next)
sends_never channel [] next never = never
sends_never channel (out ∷ outs) next never = sends_never channel outs next never

close_never : (cause : Option Cause) (channel : ℕ) (s : ServingValue) → NeverAsks (closed_for cause channel s)
close_never None channel s = tt
close_never (Some cause) channel s = tt

on_never : (at : Option ℕ) (outs : List Outgoing) (s : ServingValue) → NeverAsks (told_on at outs s)
on_never None outs s = tt
on_never (Some channel) outs s = sends_never channel outs (closed_for (cause_of s.client.channel) channel s) (close_never (cause_of s.client.channel) channel s)

pub told_never : (s : ServingValue) → NeverAsks (told s)
unfolding told
told_never s = on_never s.channel (queue_of s.client.channel) (all_gathered s)

pub handled_never : (event : WireEvent) (s : ServingValue) → NeverAsks (handled event s)
unfolding handled
handled_never event s = told_never (acted event s)

-- ---- and it comes to this

abbrev IsDoneAs : ServingValue → ServingValue → Type 0
IsDoneAs s a = a ≡ s

sends_come : (channel : ℕ) (outs : List Outgoing) (next : Process ServingValue) (s : ServingValue) → ComesTo (IsDoneAs s) next → ComesTo (IsDoneAs s) (sends channel outs next)
sends_come channel [] next s comes = comes
sends_come channel (out ∷ outs) next s comes = sends_come channel outs next s comes

close_comes : (cause : Option Cause) (channel : ℕ) (s : ServingValue) → ComesTo (IsDoneAs s) (closed_for cause channel s)
close_comes None channel s = refl
close_comes (Some cause) channel s = refl

on_comes : (at : Option ℕ) (outs : List Outgoing) (s : ServingValue) → ComesTo (IsDoneAs s) (told_on at outs s)
on_comes None outs s = refl
on_comes (Some channel) outs s = sends_come channel outs (closed_for (cause_of s.client.channel) channel s) s (close_comes (cause_of s.client.channel) channel s)

told_comes : (s : ServingValue) → ComesTo (IsDoneAs (all_gathered s)) (told s)
unfolding told
told_comes s = on_comes s.channel (queue_of s.client.channel) (all_gathered s)

pub tells_stands : (s new : ServingValue) (olds news : Rows) → Tells s new olds news → new ≡ all_gathered s
tells_stands s new olds news tells = goes_comes (IsDoneAs (all_gathered s)) [] 0 0 (told s) new olds news [] (tells [] 0) (told_comes s)

pub begun_peer : (address : List ℕ) (channel : ℕ) (script : List ScriptLine) → (begun address channel script).peer ≡ address
unfolding all_gathered
begun_peer address channel script = went_on_keeps (λ t. t.peer ≡ address) (record { calls = λ call none nor t old. old; apart = λ left end t old. old }) (opened_with address channel script) refl

handled_comes : (event : WireEvent) (s : ServingValue) → ComesTo (IsDoneAs (after_event event s)) (handled event s)
unfolding handled after_event
handled_comes event s = told_comes (acted event s)

-- ---- so behind the wires

record RestsAt (s : ServingValue) (state : State ServingValue) : Type 0 where
  resting : is_resting state ≡ true
  served : (standing_in state).served ≡ s

rests_at : (s a : ServingValue) (sent : Wires) (p : Process ServingValue) → NeverAsks p → ComesTo (IsDoneAs s) p → RestsAt s (landed a sent p)
rests_at s a sent p never comes = record { resting = landed_rests a sent p never; served = landed_so (IsDoneAs s) a sent p never comes }

event_at : (address : List ℕ) (script : List ScriptLine) (event : WireEvent) (s : ServingValue) (state : State ServingValue) → RestsAt s state
    → RestsAt (after_event event s) (after_one (served_client address script) state (came event))
event_at address script event s (rests r) at =
    let next = rests_at (after_event event r.served) r.served (wires_with event r.sent) (handled event r.served) (handled_never event r.served) (handled_comes event r.served) in
    record { resting = next.resting; served = next.served ∙ ap (after_event event) at.served }
event_at address script event s (waits r next) at = absurd (false≢true at.resting)

all_at : (address : List ℕ) (script : List ScriptLine) (calls : List WireCall) → list_any reaches_out calls ≡ false → (s : ServingValue) (state : State ServingValue) → RestsAt s state
    → (standing_in (fold (after_one (served_client address script)) state (heard_in calls))).served ≡ after_all (events_in calls) s
all_at address script [] inside s state at = at.served
all_at address script (Listened to answer ∷ calls) inside s state at = absurd (false≢true (sym inside))
all_at address script (Connected to answer ∷ calls) inside s state at = absurd (false≢true (sym inside))
all_at address script (Gave (Ok event) ∷ calls) inside s state at =
    all_at address script calls inside (after_event event s) (after_one (served_client address script) state (came event)) (event_at address script event s state at)
all_at address script (Gave (Err refusal) ∷ calls) inside s state at = all_at address script calls inside s state at
all_at address script (Offered channel piece answer ∷ calls) inside s state at = all_at address script calls inside s state at
all_at address script (Shut channel ∷ calls) inside s state at = all_at address script calls inside s state at

-- over one connection
pub served_after : (address : List ℕ) (channel : ℕ) (script : List ScriptLine) (calls later : List WireCall) → calls ≡ Connected address (Ok channel) ∷ later → list_any reaches_out later ≡ false
    → (standing_in (state_after (served_client address script) calls)).served ≡ after_events address channel script (events_in calls)
served_after address channel script calls later first alone =
    let program = served_client address script in
    let started = went_on (opened_with address channel script) in
    subst (λ (cs : List WireCall). (standing_in (state_after program cs)).served ≡ after_events address channel script (events_in cs)) (sym first)
    (all_at address script later alone (begun address channel script) _
    (rests_at (begun address channel script) (unconnected address script) (with_wire channel []) (told started) (told_never started) (told_comes started)))
