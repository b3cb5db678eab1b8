-- The calls of a run, turn by turn.
use Rattle.std.proofs.Common.{◌≡◌, ℕ, ◌+◌, ◌<◌, ◌≤◌, Bool, List, [], ◌++◌, Some, None, Result, Ok, Err, refl, sym, ap, ◌∙◌, subst, arith, append-nil, append_assoc}
use Rattle.tcf_schedules.specs.declared.script.ScriptLine.{ScriptLine}
use Rattle.tcf_wires.specs.Told.{WiresSeen, noted}
use Rattle.tcf_wires.specs.declared.call.WireCall.{WireCall}
use Rattle.tcf_wires.specs.declared.call.WireCall.TheVariants.{Connected}
use Rattle.tcf_wires.specs.declared.event.WireRefusal.{WireRefusal}
use Rattle.tcf_wires.specs.declared.event.WireRefusal.TheVariants.{Failed, NoMemory}
use Rattle.client_node.specs.ClientValue.{ClientValue}
use Rattle.serving_wires.specs.Calls.{Makes}
use Rattle.serving_wires.specs.Flushing.{FlushesKept, GivesUpAll, its_own}
use Rattle.serving_wires.specs.Going.{Goes, answered}
use Rattle.serving_wires.specs.Process.{done}
use Rattle.serving_wires.specs.Sending.{begun as begun_on}
use Rattle.serving_wires.specs.Turn.{Now, TakesTurn}
use Rattle.serving_wires.specs.WireLaws.{WireLaws}
use Rattle.serving_wires.proofs.Leading.{Rows}
use Rattle.serving_wires.proofs.Making.{makes_both, makes_none, makes_nothing, makes_one, makes_so}
use Rattle.client_serving.specs.Begun.{IsBegun, RunsOn, Tells, ended_as}
use Rattle.client_serving.specs.Run.{RunsClient, no_calls, not_connected}
use Rattle.client_serving.specs.Serving.{begun, behaviour, connected_as, opened_with, went_on}
use Rattle.client_serving.specs.ServingValue.{ServingValue}
use Rattle.client_serving.specs.declared.end.ClientEnd.{ClientEnd}
use Rattle.client_serving.specs.declared.end.ClientEnd.TheVariants.{Turns}
use Rattle.client_serving.specs.declared.end.ClientRun.{ClientRun}
use Rattle.client_serving.proofs.Asking.{begun_peer, tells_stands}
use Rattle.client_serving.proofs.Running.{Waits, connect, ends_cut, ends_put, ends_turns, ends_unbegun, put_first, turn_put, unput_first, waits_again, waits_first}

-- whoever has begun: so many events came, and the next one is waited for
abbrev pub WaitsSo : Now ServingValue → ℕ → ℕ → Now ServingValue → ℕ → List WireCall → Type 0
WaitsSo start unused count now later calls = (script : List ScriptLine) (address : List ℕ) (before : List WireCall)
    → IsBegun script address start unused before → Waits address script count now later (before ++ calls)

module _ (laws : WireLaws) (start : Now ServingValue) (unused : ℕ) where
  -- ---- the script ends the run

  pub ends_at_once : (turns : ℕ) (last : ClientEnd) (sending : Rows) (seen seen_then : WiresSeen) → start.served.end ≡ Some last → Makes (FlushesKept its_own start.sending sending) seen seen_then
      → Makes (RunsOn turns (Ok last) start start.served unused) seen seen_then
  ends_at_once turns last sending seen seen_then is =
      makes_so (FlushesKept its_own start.sending sending) (RunsOn turns (Ok last) start start.served unused) seen seen_then
      (λ calls flushes script address before b.
      ends_put laws address script turns 0 last (record { served = start.served; sending = sending }) unused (before ++ calls)
      (put_first laws address script last start sending unused before calls b is flushes) (omega arith) is)

  pub unput_at_once : (turns : ℕ) (last : ClientEnd) (new : ServingValue) (seen seen_then : WiresSeen) → start.served.end ≡ Some last → Makes (GivesUpAll its_own start.sending) seen seen_then
      → Makes (RunsOn turns (Err NoMemory) start new unused) seen seen_then
  unput_at_once turns last new seen seen_then is =
      makes_so (GivesUpAll its_own start.sending) (RunsOn turns (Err NoMemory) start new unused) seen seen_then
      (λ calls up script address before b. unput_first laws address script turns last start unused before calls b is up)

  -- ---- turns

  pub no_turn_yet : (seen : WiresSeen) → start.served.end ≡ None → Makes (WaitsSo start unused 0 start unused) seen seen
  no_turn_yet seen going =
      makes_none (WaitsSo start unused 0 start unused) seen
      (λ script address before b.
      subst (λ (cs : List WireCall). Waits address script 0 start unused cs) (sym (append-nil before)) (waits_first laws address script start unused before b going))

  module _ (count : ℕ) (real new : Now ServingValue) (n m : ℕ) (seen seen_mid seen_then : WiresSeen) (so_far : Makes (WaitsSo start unused count real n) seen seen_mid) where
    pub one_more_turn : (is_last : Bool) → new.served.end ≡ None → Makes (TakesTurn behaviour real new n m (Ok is_last)) seen_mid seen_then → Makes (WaitsSo start unused (count + 1) new m) seen seen_then
    one_more_turn is_last going =
        makes_both (WaitsSo start unused count real n) (TakesTurn behaviour real new n m (Ok is_last)) (WaitsSo start unused (count + 1) new m) seen seen_mid seen_then
        (λ calls more w t script address before b.
        subst (λ (cs : List WireCall). Waits address script (count + 1) new m cs) (append_assoc before calls more)
        (waits_again laws address script (count + 1) new m ((before ++ calls) ++ more)
        (turn_put laws address script count real new n m is_last (before ++ calls) more (w script address before b) t) going)) so_far

    pub last_turn : (turns : ℕ) (is_last : Bool) (last : ClientEnd) → count < turns → new.served.end ≡ Some last → Makes (TakesTurn behaviour real new n m (Ok is_last)) seen_mid seen_then
        → Makes (RunsOn turns (Ok last) start new.served unused) seen seen_then
    last_turn turns is_last last within is =
        makes_both (WaitsSo start unused count real n) (TakesTurn behaviour real new n m (Ok is_last)) (RunsOn turns (Ok last) start new.served unused) seen seen_mid seen_then
        (λ calls more w t script address before b.
        subst (λ (cs : List WireCall). RunsClient script address turns (Ok (record { end = last; client = new.served.client })) cs) (append_assoc before calls more)
        (ends_put laws address script turns (count + 1) last new m ((before ++ calls) ++ more)
        (turn_put laws address script count real new n m is_last (before ++ calls) more (w script address before b) t) (omega (arith, within)) is)) so_far

    pub cut_turn : (turns : ℕ) (refusal : WireRefusal) → count < turns → Makes (TakesTurn behaviour real new n m (Err refusal)) seen_mid seen_then
        → Makes (RunsOn turns (Err refusal) start new.served unused) seen seen_then
    cut_turn turns refusal within =
        makes_both (WaitsSo start unused count real n) (TakesTurn behaviour real new n m (Err refusal)) (RunsOn turns (Err refusal) start new.served unused) seen seen_mid seen_then
        (λ calls more w t script address before b.
        subst (λ (cs : List WireCall). RunsClient script address turns (Err refusal) cs) (append_assoc before calls more)
        (ends_cut laws address script refusal turns count real new n m (before ++ calls) more (w script address before b) within t)) so_far

  pub no_more_turns : (turns count : ℕ) (real : Now ServingValue) (n : ℕ) (seen seen_then : WiresSeen) → count ≡ turns → Makes (WaitsSo start unused count real n) seen seen_then
      → Makes (RunsOn turns (Ok Turns) start real.served unused) seen seen_then
  no_more_turns turns count real n seen seen_then all =
      makes_so (WaitsSo start unused count real n) (RunsOn turns (Ok Turns) start real.served unused) seen seen_then
      (λ calls w script address before b. ends_turns laws address script turns count real n (before ++ calls) (w script address before b) all)

-- ---- it connects

pub run_unconnected : (refusal : WireRefusal) (script : List ScriptLine) (address : List ℕ) (turns : ℕ) (seen seen_then : WiresSeen)
    → seen_then ≡ noted {A = ℕ} (Err refusal) (Connected address (Err refusal)) seen → Makes (RunsClient script address turns (Err refusal)) seen seen_then
run_unconnected Failed script address turns seen seen_then fails =
    makes_one (RunsClient script address turns (Err Failed)) (Connected address (Err Failed)) seen seen_then (not_connected refl refl) fails
run_unconnected NoMemory script address turns seen seen_then fails =
    makes_nothing (RunsClient script address turns (Err NoMemory)) seen seen_then (no_calls refl refl) fails

pub run_unbegun : WireLaws → (channel unused : ℕ) (script : List ScriptLine) (address : List ℕ) (turns : ℕ) (seen seen_then : WiresSeen)
    → unused ≤ channel → seen_then ≡ noted {A = ℕ} (Ok channel) (Connected address (Ok channel)) seen → Makes (RunsClient script address turns (Err NoMemory)) seen seen_then
run_unbegun laws channel unused script address turns seen seen_then fits connects =
    makes_one (RunsClient script address turns (Err NoMemory)) (Connected address (Ok channel)) seen seen_then (ends_unbegun laws address script channel turns unused fits) connects

-- it has begun, and goes on to its end
pub run_on : (result : Result ClientEnd WireRefusal) (channel unused : ℕ) (script : List ScriptLine) (address : List ℕ) (turns : ℕ) (s new : ServingValue) (olds rows : Rows) (seen seen_mid seen_then : WiresSeen)
    → olds ≡ [] → unused ≤ channel → seen_mid ≡ noted {A = ℕ} (Ok channel) (Connected address (Ok channel)) seen
    → Tells (went_on (opened_with address channel script)) s (begun_on channel olds) rows → Makes (RunsOn turns result (record { served = s; sending = rows }) new seen_mid.unused) seen_mid seen_then
    → Makes (RunsClient script address turns (ended_as result new)) seen seen_then
run_on result channel unused script address turns s new olds rows seen seen_mid seen_then none fits connects tells =
    makes_both (λ calls. calls ≡ connect channel address) (RunsOn turns result (record { served = s; sending = rows }) new seen_mid.unused) (RunsClient script address turns (ended_as result new)) seen seen_mid seen_then
    (λ first more is runs. runs script address first (subst (IsBegun script address (record { served = s; sending = rows }) seen_mid.unused) (sym is) begins))
    (makes_one (λ calls. calls ≡ connect channel address) (Connected address (Ok channel)) seen seen_mid refl connects)
  where
    numbers : seen_mid.unused ≡ channel + 1
    numbers = ap (λ (w : WiresSeen). w.unused) connects

    stands : s ≡ begun address channel script
    stands = tells_stands (went_on (opened_with address channel script)) s (begun_on channel olds) rows tells

    begins : IsBegun script address (record { served = s; sending = rows }) seen_mid.unused (connect channel address)
    begins = record {
      channel = channel;
      connects = refl;
      begins = stands;
      opened = record {
        peer = ap (λ (t : ServingValue). t.peer) stands ∙ begun_peer address channel script;
        earlier = unused;
        connects = connect channel address;
        goes = answered unused seen_mid.unused (Ok channel) (λ answer. connected_as answer address script) (done s) [] rows [] fits
            (subst (λ (n : ℕ). Goes address n seen_mid.unused (connected_as (Ok channel) address script) (done s) (begun_on channel []) rows []) numbers
            (subst (λ (rs : Rows). Goes address seen_mid.unused seen_mid.unused (connected_as (Ok channel) address script) (done s) (begun_on channel rs) rows []) none (tells address seen_mid.unused)));
        addresses = [];
        listened = refl;
        called = refl;
      };
    }

-- ---- what a run is made of

pub run_is : (run : ClientRun) (last : ClientEnd) (client : ClientValue) → run.end ≡ last → run.client ≡ client → record { end = last; client = client } ≡ run
run_is run last client ends same =
    subst (λ (e : ClientEnd). record { end = e; client = client } ≡ run) ends
    (subst (λ (k : ClientValue). record { end = run.end; client = k } ≡ run) same refl)
