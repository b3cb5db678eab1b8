-- How a run comes to its end.
use Rattle.std.proofs.Common.{◌≡◌, ℕ, ◌+◌, ◌<◌, true, false, List, [], ◌∷◌, ◌++◌, refl, sym, ap, ◌∙◌, subst, arith, append-nil, append_assoc}
use Rattle.std.specs.Prelude.{Ok, Err, IsTrue}
use Rattle.std.specs.List.{list_any}
use Rattle.std.specs.List.Sorted.{IsStrictlyIncreasing}
use Rattle.std.proofs.lemmas.List.Sums.{fold-append}
use Rattle.tcf_wires.specs.Event.{can_come, unused_after_next}
use Rattle.tcf_wires.specs.declared.call.WireCall.{WireCall}
use Rattle.tcf_wires.specs.declared.call.WireCall.TheVariants.{Gave}
use Rattle.tcf_wires.specs.declared.event.WireEvent.{WireEvent}
use Rattle.tcf_wires.specs.declared.event.WireRefusal.TheVariants as refusals
use Rattle.serving_wires.specs.Calls.{events_in, put_on}
use Rattle.serving_wires.specs.OutboxValue.{OutboxValue}
use Rattle.serving_wires.specs.Row.{Row}
use Rattle.serving_wires.specs.Serving.{AreFronts, breaks}
use Rattle.serving_wires.proofs.Placing.{each_more}
use Rattle.serving_wires.specs.Flushing.{GivesUpAll, its_own}
use Rattle.serving_wires.specs.Going.{BreaksOff, Goes}
use Rattle.serving_wires.specs.Process.{done}
use Rattle.serving_wires.specs.Sending.{opened_by}
use Rattle.serving_wires.specs.Serve.{IsInPlace, Runs, Serves}
use Rattle.serving_wires.specs.Program.{Program, peer_of}
use Rattle.serving_wires.specs.Standing.{AreApart, State, nodes_in, sent_in, state_after}
use Rattle.serving_wires.specs.Turn.{IsCutShort, IsTurn, Now, at_event, at_puts, before_event}
use Rattle.serving_wires.specs.WireLaws.{WireLaws}
use Rattle.serving_wires.specs.declared.end.ServeEnd.TheVariants.{NoMemory, Stopped, Turns, WireFault}
use Rattle.serving_wires.proofs.Spared.{none_of_both, same_events}
use Rattle.serving_wires.proofs.Turns.{gave, one_longer, is_the_stop, failed}
use Rattle.serving_wires.proofs.Fronts.{fronts_behind}
use Rattle.serving_wires.specs.Ends.{no_event}
use Rattle.serving_wires.proofs.Flushed.{flushed_more, gives_up}
use Rattle.serving_wires.proofs.Landed.{event_keeps, goes_keeps, holds_more, landed_fronts}
use Rattle.serving_wires.proofs.Placed.{ArePuts, puts_heard, puts_placed, state_stays}
use Rattle.serving_wires.proofs.Running.{Heeding, Resting, Running, event_in_place, heeded, heeding, heeds_more, no_breaking_in, rests_fronts, rests_so, runs_fronts, served_so, settled, settles, turn_split, turned, with_event}
use Rattle.serving_wires.proofs.Apart.{landed_apart, rests_apart}
use Rattle.serving_wires.proofs.Ordered.{by_wires, wires_keep}

pub stopped : {A : Type 0} → WireLaws → (program : Program A) (turns count : ℕ) (real new : Now A) (unused unused_then : ℕ) (calls more : List WireCall) → count < turns
    → Running program count real unused calls → IsTurn program.behaviour real new unused unused_then true more → Runs program turns (Stopped (count + 1)) (calls ++ more)
stopped laws program turns count real new unused unused_then calls more within r t =
    let then = turned laws program count real new unused unused_then true calls more r t in
    record {
      serves = then.serves;
      fronts = rests_fronts laws program new.served new.sending unused_then (calls ++ more) then.stands;
      apart = rests_apart program new.served new.sending unused_then (calls ++ more) then.stands;
      rests = λ other. rests_so program new.served new.sending unused_then (calls ++ more) then.stands;
      settled = λ other some. settled laws program new.served new.sending unused_then (calls ++ more) then.stands then.flushed then.rises;
      ends = record {
        earlier = events_in calls;
        last = then.came ∙ ap (λ (e : WireEvent). events_in calls ++ e ∷ []) (is_the_stop t.event (sym t.last));
        first_stop = r.goes_on;
        counted = sym (one_longer (events_in calls) (events_in (calls ++ more)) t.event count then.came r.counted);
        within = omega (arith, within);
        sound = then.sound;
      };
    }

pub all_taken : {A : Type 0} → WireLaws → (program : Program A) (turns count : ℕ) (real : Now A) (unused : ℕ) (calls : List WireCall) → count ≡ turns
    → Running program count real unused calls → Runs program turns Turns calls
all_taken laws program turns count real unused calls all r =
    record {
      serves = r.serves;
      fronts = runs_fronts laws program count real unused calls r;
      apart = rests_apart program real.served real.sending unused calls r.stands;
      rests = λ other. rests_so program real.served real.sending unused calls r.stands;
      settled = λ other some. settles laws program count real unused calls r some;
      ends = record { counted = r.counted ∙ all; goes_on = r.goes_on; sound = r.sound };
    }

pub broken : {A : Type 0} → WireLaws → (program : Program A) (turns count : ℕ) (real : Now A) (unused : ℕ) (calls : List WireCall) → count < turns
    → Running program count real unused calls → Runs program turns WireFault (calls ++ failed)
broken laws program turns count real unused calls within r =
    let now : List WireCall = calls ++ failed in
    let quiet : events_in now ≡ events_in calls = same_events calls failed refl in
    let stands : Resting program real.served real.sending unused now =
    record {
      sent = r.stands.sent;
      state = state_stays program calls failed refl ∙ r.stands.state;
      holds = holds_more laws unused calls failed r.stands.sent real.sending (λ channel. refl) r.stands.holds;
    } in
    record {
      serves = each_more (IsInPlace program) calls failed r.serves (event_in_place laws program count real unused calls (Err refusals.Failed) r);
      fronts = rests_fronts laws program real.served real.sending unused now stands;
      apart = rests_apart program real.served real.sending unused now stands;
      rests = λ other. rests_so program real.served real.sending unused now stands;
      settled = λ other some.
          settled laws program real.served real.sending unused now stands
          (flushed_more its_own laws calls failed real.sending (λ channel. refl) refl (r.flushed (λ none. some (quiet ∙ none))))
          (subst (λ (ks : List ℕ). IsStrictlyIncreasing ks) (sym (fold-append put_on [] calls failed)) r.rises);
      ends = record {
        earlier = calls;
        last = Gave (Err refusals.Failed);
        split = refl;
        fails_last = no_event (omega (arith, within, r.counted));
        goes_on = r.goes_on;
        sound = r.sound;
      };
    }

-- ---- memory was wanting

wanting : {A : Type 0} → (program : Program A) (turns : ℕ) (event : WireEvent) (calls now : List WireCall) → Heeding program event calls now → AreFronts (nodes_in (state_after program now)) now
    → AreApart (sent_in (state_after program now)) → Runs program turns NoMemory now
wanting program turns event calls now h fronts apart =
    record {
      serves = h.serves;
      fronts = fronts;
      apart = apart;
      rests = λ other. absurd (other refl);
      settled = λ other some. absurd (other refl);
      ends = h.sound;
    }

pub nothing_more : {A : Type 0} → WireLaws → (program : Program A) (turns count : ℕ) (real : Now A) (unused : ℕ) (calls : List WireCall) → Running program count real unused calls
    → Runs program turns NoMemory calls
nothing_more laws program turns count real unused calls r =
    record {
      serves = r.serves;
      fronts = runs_fronts laws program count real unused calls r;
      apart = rests_apart program real.served real.sending unused calls r.stands;
      rests = λ other. absurd (other refl);
      settled = λ other some. absurd (other refl);
      ends = r.sound;
    }

cut_at_event : {A : Type 0} → WireLaws → (program : Program A) (turns count : ℕ) (real : Now A) (unused : ℕ) (calls : List WireCall) (event : WireEvent) (connects : List WireCall) → IsTrue (can_come unused event)
    → Running program count real unused calls → BreaksOff (peer_of program) (unused_after_next (Ok event) unused) (program.behaviour.handled event real.served) (opened_by event real.sending) connects
    → Runs program turns NoMemory (with_event calls event connects)
cut_at_event laws program turns count real unused calls event connects can r b =
    let at : List WireCall = calls ++ gave event ∷ [] in
    let h = goes_keeps laws program real.served (unused_after_next (Ok event) unused) b.later (program.behaviour.handled event real.served) b.to (opened_by event real.sending) b.news at connects b.goes
    (event_keeps laws program real.served r.stands.sent real.sending unused calls event can r.stands.state r.stands.holds) in
    wanting program turns event calls (with_event calls event connects)
    (heeds_more program event calls at connects h.in_place h.no_event h.sound h.puts (heeding laws program count real unused calls event r))
    (landed_fronts laws program real.served b.news b.later (with_event calls event connects) b.to h.landed)
    (landed_apart program real.served b.news b.later (with_event calls event connects) b.to h.landed)

-- in the puts
pub record PutsInPart {A : Type 0} (program : Program A) (now : List WireCall) : Type 0 where
  pub serves : Serves program now
  pub fronts : AreFronts (nodes_in (state_after program now)) now
  pub apart : AreApart (sent_in (state_after program now))
  pub sound : list_any breaks now ≡ false

pub puts_in_part : {A : Type 0} → WireLaws → (program : Program A) (served : A) (sending : List (Row OutboxValue)) (unused : ℕ) (at puts : List WireCall)
    → Serves program at → list_any breaks at ≡ false → Resting program served sending unused at → GivesUpAll its_own sending puts → PutsInPart program (at ++ puts)
puts_in_part {A = A} laws program served sending unused at puts serves sound st up =
    let nodes = nodes_in (state_after program at) in
    let u = gives_up by_wires (wires_keep laws) nodes at puts 0 st.sent sending (served_so program served sending unused at st) st.holds.lines up in
    let are : ArePuts puts = record { no_event = u.no_event; sound = u.sound; inside = u.inside } in
    record {
      serves = each_more (IsInPlace program) at puts serves (puts_placed program at puts are (rests_so program served sending unused at st) u.in_place);
      fronts = subst (λ (s : State A). AreFronts (nodes_in s) (at ++ puts)) (sym (state_stays program at puts (puts_heard puts are)))
          (fronts_behind nodes at puts u.in_place u.no_event (rests_fronts laws program served sending unused at st));
      apart = subst (λ (s : State A). AreApart (sent_in s)) (sym (state_stays program at puts (puts_heard puts are))) (rests_apart program served sending unused at st);
      sound = none_of_both breaks at puts sound (no_breaking_in puts u.sound);
    }

given_up : {A : Type 0} → (program : Program A) (turns : ℕ) (now : List WireCall) → PutsInPart program now → Runs program turns NoMemory now
given_up program turns now p =
    record { serves = p.serves; fronts = p.fronts; apart = p.apart; rests = λ other. absurd (other refl); settled = λ other some. absurd (other refl); ends = p.sound }

pub cut_short : {A : Type 0} → WireLaws → (program : Program A) (turns count : ℕ) (real : Now A) (unused : ℕ) (calls more : List WireCall)
    → Running program count real unused calls → IsCutShort program.behaviour real unused more → Runs program turns NoMemory (calls ++ more)
cut_short laws program turns count real unused calls more r (before_event nothing) =
    subst (λ (cs : List WireCall). Runs program turns NoMemory cs) (sym (ap (λ (cs : List WireCall). calls ++ cs) nothing ∙ append-nil calls))
    (nothing_more laws program turns count real unused calls r)
cut_short laws program turns count real unused calls more r (at_event event connects can b called) =
    subst (λ (cs : List WireCall). Runs program turns NoMemory cs)
    (append_assoc calls (gave event ∷ []) connects ∙ ap (λ (cs : List WireCall). calls ++ cs) (sym called))
    (cut_at_event laws program turns count real unused calls event connects can r
    (subst (λ (p : List ℕ). BreaksOff p (unused_after_next (Ok event) unused) (program.behaviour.handled event real.served) (opened_by event real.sending) connects) r.peer_is b))
cut_short laws program turns count real unused calls more r (at_puts event later served sending connects puts can goes up called) =
    let goes_so = subst (λ (p : List ℕ). Goes p (unused_after_next (Ok event) unused) later (program.behaviour.handled event real.served) (done served) (opened_by event real.sending) sending connects) r.peer_is goes in
    let h = heeded laws program count real unused later calls event served sending connects can r goes_so in
    subst (λ (cs : List WireCall). Runs program turns NoMemory cs) (turn_split calls event connects puts more called)
    (given_up program turns ((with_event calls event connects) ++ puts)
    (puts_in_part laws program served sending later (with_event calls event connects) puts h.heeding.serves h.heeding.sound h.stands up))
