-- The law of the ends of a client's run.
use Rattle.std.proofs.Common.{◌≡◌, ℕ, Bool, true, false, ◌||◌, List, [], ◌∷◌, Option, Some, None, refl, sym, subst}
use Rattle.std.specs.List.{list_any}
use Rattle.client_node.specs.Client.{client_services}
use Rattle.channel_core.specs.Beginning.{new_end}
use Rattle.tcf_schedules.specs.declared.script.ScriptLine.{ScriptLine}
use Rattle.tcf_wires.specs.declared.event.WireEvent.{WireEvent}
use Rattle.channel_core.specs.declared.states.Cause.TheVariants.{Own}
use Rattle.serving_wires.specs.Serving.{is_stop}
use Rattle.client_serving.specs.Run.{EndsSaySo, HasCause, SaysSo}
use Rattle.client_serving.specs.Serving.{after_all, after_event, after_events, begun, opened_with, went_on}
use Rattle.client_serving.specs.ServingValue.{ServingValue}
use Rattle.client_serving.specs.declared.end.ClientEnd.{ClientEnd}
use Rattle.client_serving.specs.declared.end.ClientEnd.TheVariants.{Done, Ended, Turns}
use Rattle.client_serving.proofs.Standing.{IsOpenEnd}
use Rattle.client_serving.proofs.Lining.{none_pending}
use Rattle.client_serving.proofs.Ending.{Stands, StandsAt, by_channel, by_stop, event_stands, gathered_stands, open_cause, shut_cause, went_on_stands}
use Rattle.list_laws.proofs.Flags.{or_false}

new_is_open : (body : List ℕ) (mark : Option ℕ) → IsOpenEnd (new_end body mark)
new_is_open body mark = record { pending = refl; staying = refl; stop = tt }

pub first_stands : (address : List ℕ) (channel : ℕ) (script : List ScriptLine) → Stands (went_on (opened_with address channel script)) false
first_stands address channel script = went_on_stands (opened_with address channel script) (new_is_open client_services None)

pub begun_stands : (address : List ℕ) (channel : ℕ) (script : List ScriptLine) → Stands (begun address channel script) false
begun_stands address channel script = gathered_stands (went_on (opened_with address channel script)) false (first_stands address channel script)

or_both : (a b c : Bool) → ((a || b) || c) ≡ (a || (b || c))
or_both true b c = refl
or_both false b c = refl

all_stand : (events : List WireEvent) (s : ServingValue) (is_stopped : Bool) → Stands s is_stopped → Stands (after_all events s) (is_stopped || list_any is_stop events)
all_stand [] s is_stopped old = subst (Stands s) (sym (or_false is_stopped)) old
all_stand (event ∷ events) s is_stopped old =
    subst (Stands (after_all events (after_event event s))) (or_both is_stopped (is_stop event) (list_any is_stop events))
    (all_stand events (after_event event s) (is_stopped || is_stop event) (event_stands event s is_stopped old))

says : (end : Option ClientEnd) (s : ServingValue) (events : List WireEvent) → StandsAt end s.left s.client.channel (list_any is_stop events) → SaysSo end s events
says None s events old = (open_cause s.client.channel old.open_yet, old.undone, old.unstopped)
says (Some Done) s events old = (old.none, none_pending Own s.client.channel old.shut, shut_cause Own s.client.channel old.shut)
says (Some (Ended cause)) s events (by_channel shut other) =
    subst (λ found. HasCause cause found events) (sym (shut_cause cause s.client.channel shut)) (refl, other)
says (Some (Ended cause)) s events (by_stop open_yet is on) =
    subst (λ found. HasCause cause found events) (sym (open_cause s.client.channel open_yet)) (is, on)
says (Some Turns) s events old = old

pub ends_say_so : EndsSaySo
ends_say_so address channel script events =
    let last = after_events address channel script events in
    says last.end last events (all_stand events (begun address channel script) false (begun_stands address channel script))
