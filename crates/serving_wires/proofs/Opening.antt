-- How a run opens, and what it comes to where it goes no further.
use Rattle.std.proofs.Common.{◌≡◌, ℕ, Bool, true, false, ◌&&◌, List, [], ◌∷◌, ◌++◌, length, refl, ap, ◌∙◌, append_assoc}
use Rattle.std.specs.Prelude.{Err, Ok}
use Rattle.std.specs.List.{list_all, list_any}
use Rattle.std.proofs.lemmas.Bool.{and_parts}
use Rattle.tcf_wires.specs.declared.call.WireCall.{WireCall}
use Rattle.tcf_wires.specs.declared.call.WireCall.TheVariants.{Listened}
use Rattle.tcf_wires.specs.declared.event.WireEvent.{WireEvent}
use Rattle.tcf_wires.specs.declared.event.WireRefusal.TheVariants as refusals
use Rattle.serving_wires.specs.Calls.{events_in}
use Rattle.serving_wires.specs.Ends.{no_listening}
use Rattle.serving_wires.specs.Going.{here}
use Rattle.serving_wires.specs.Process.{done}
use Rattle.serving_wires.specs.Program.{Behaviour, Program, program_of}
use Rattle.serving_wires.specs.Serve.{IsInPlace, IsOpened, Runs, has_listened}
use Rattle.serving_wires.specs.Serving.{listens}
use Rattle.serving_wires.specs.Turn.{Now}
use Rattle.serving_wires.specs.WireLaws.{WireLaws}
use Rattle.serving_wires.specs.declared.end.ServeEnd.TheVariants.{NoMemory, WireFault}
use Rattle.serving_wires.proofs.Apart.{rests_apart}
use Rattle.serving_wires.proofs.Finishing.{nothing_more}
use Rattle.serving_wires.proofs.Inside.{goes_inside}
use Rattle.serving_wires.proofs.Landed.{holds_more}
use Rattle.serving_wires.proofs.Placed.{state_stays}
use Rattle.serving_wires.proofs.Placing.{each_more, each_one}
use Rattle.serving_wires.proofs.Running.{Resting, rests_fronts, rests_so, starts}
use Rattle.serving_wires.proofs.Spared.{none_of_both, same_events}
use Rattle.serving_wires.proofs.Turns.{listened}

-- a program that does nothing before the first event is open at once
abbrev pub opened_at_once : {A : Type 0} → (b : Behaviour A) (first : A) (unused : ℕ) → IsOpened (program_of b first (done first)) (record { served = first; sending = [] }) unused []
opened_at_once b first unused =
    record { peer = refl; earlier = unused; connects = []; goes = here unused (done first) []; addresses = []; listened = refl; called = refl }

all_listened : (calls more : List WireCall) → list_all has_listened calls ≡ true → list_all has_listened more ≡ true → list_all has_listened (calls ++ more) ≡ true
all_listened [] more first rest = rest
all_listened (call ∷ calls) more first rest =
    let parts = and_parts (has_listened call) (list_all has_listened calls) first in
    ap (λ (b : Bool). b && list_all has_listened (calls ++ more)) parts.0 ∙ all_listened calls more parts.1 rest

-- and then it listens
pub opened_listening : {A : Type 0} → (program : Program A) (now : Now A) (unused : ℕ) (calls : List WireCall) (address : List ℕ) (answer : Unit {0}) → IsOpened program now unused calls
    → IsOpened program now unused (calls ++ listened address (Ok answer))
opened_listening program now unused calls address answer o =
    record {
      peer = o.peer;
      earlier = o.earlier;
      connects = o.connects;
      goes = o.goes;
      addresses = o.addresses ++ listened address (Ok answer);
      listened = all_listened o.addresses (listened address (Ok answer)) o.listened refl;
      called = ap (λ (cs : List WireCall). cs ++ listened address (Ok answer)) o.called ∙ append_assoc o.connects o.addresses (listened address (Ok answer));
    }

-- memory was wanting
pub not_opened : {A : Type 0} → WireLaws → (program : Program A) (now : Now A) (unused turns : ℕ) (calls : List WireCall) → IsOpened program now unused calls → Runs program turns NoMemory calls
not_opened laws program now unused turns calls o = nothing_more laws program turns 0 now unused calls (starts laws program now unused calls o)

no_events : (events : List WireEvent) → length events ≡ 0 → events ≡ []
no_events [] is = refl
no_events (event ∷ events) is = absurd cc

-- the address couldn't be listened on
pub not_listening : {A : Type 0} → WireLaws → (program : Program A) (now : Now A) (unused turns : ℕ) (calls : List WireCall) (address : List ℕ) → (o : IsOpened program now unused calls)
    → o.addresses ≡ [] → Runs program turns WireFault (calls ++ listened address (Err refusals.Failed))
not_listening laws program now unused turns calls address o none =
    let r = starts laws program now unused calls o in
    let last : List WireCall = listened address (Err refusals.Failed) in
    let quiet : events_in calls ≡ [] = no_events (events_in calls) r.counted in
    let inside : list_any listens calls ≡ false =
    ap (list_any listens) o.called
    ∙ none_of_both listens o.connects o.addresses (goes_inside _ _ _ _ _ _ _ o.connects o.goes) (ap (list_any listens) none) in
    let stands : Resting program now.served now.sending unused (calls ++ last) =
    record {
      sent = r.stands.sent;
      state = state_stays program calls last refl ∙ r.stands.state;
      holds = holds_more laws unused calls last r.stands.sent now.sending (λ channel. refl) r.stands.holds;
    } in
    record {
      serves = each_more (IsInPlace program) calls last r.serves (each_one (IsInPlace program) calls (Listened address (Err refusals.Failed)) quiet);
      fronts = rests_fronts laws program now.served now.sending unused (calls ++ last) stands;
      apart = rests_apart program now.served now.sending unused (calls ++ last) stands;
      rests = λ other. rests_so program now.served now.sending unused (calls ++ last) stands;
      settled = λ other some. absurd (some (same_events calls last refl ∙ quiet));
      ends = record {
        earlier = calls;
        last = Listened address (Err refusals.Failed);
        split = refl;
        fails_last = no_listening address quiet inside;
        goes_on = r.goes_on;
        sound = r.sound;
      };
    }
