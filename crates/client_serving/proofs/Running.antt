-- A run over one connection, as its calls so far have left it, and what it comes to.
use Rattle.std.proofs.Common.{◌≡◌, ◌≢◌, ℕ, ◌+◌, ◌<◌, ◌≤◌, Bool, true, false, ◌⊎◌, List, [], ◌∷◌, ◌++◌, length, Option, Some, None, refl, sym, ap, ◌∙◌, inl, inr, subst, arith, append-nil, append_assoc}
use Rattle.std.specs.Prelude.{IsSome, Ok, Err, Result}
use Rattle.std.specs.List.{list_any}
use Rattle.std.specs.List.Sorted.{IsStrictlyIncreasing}
use Rattle.std.proofs.lemmas.Bool.{false≢true}
use Rattle.list_laws.proofs.Lists.{none_last}
use Rattle.tcf_schedules.specs.declared.script.ScriptLine.{ScriptLine}
use Rattle.tcf_wires.specs.declared.call.WireCall.{WireCall}
use Rattle.tcf_wires.specs.declared.call.WireCall.TheVariants.{Listened, Connected, Gave, Offered, Shut}
use Rattle.tcf_wires.specs.declared.event.WireEvent.{WireEvent}
use Rattle.tcf_wires.specs.declared.event.WireRefusal.{WireRefusal}
use Rattle.tcf_wires.specs.declared.event.WireRefusal.TheVariants.{Failed, NoMemory}
use Rattle.serving_wires.specs.Calls.{channels_put, events_in}
use Rattle.serving_wires.specs.Flushing.{FlushesKept, GivesUpAll, its_own}
use Rattle.serving_wires.specs.Going.{Goes, answered, here}
use Rattle.serving_wires.specs.Sending.{begun as begun_on}
use Rattle.serving_wires.specs.Serve.{IsInPlace, IsSettled, Serves}
use Rattle.serving_wires.specs.Serving.{AreFronts, Each, EachBehind, breaks, fails, is_stop, reaches_out}
use Rattle.serving_wires.specs.Standing.{AreApart, State, heard_in, nodes_in, sent_in, standing_in, state_after}
use Rattle.serving_wires.specs.Turn.{IsTurn, Now, TakesTurn}
use Rattle.serving_wires.specs.WireLaws.{WireLaws}
use Rattle.serving_wires.proofs.Apart.{landed_apart, rests_apart}
use Rattle.serving_wires.proofs.Finishing.{broken, cut_short, puts_in_part}
use Rattle.serving_wires.proofs.Flushed.{AllFlushed}
use Rattle.serving_wires.proofs.Holding.{IsEventAndPuts, cut_puts, fails_so, turn_puts}
use Rattle.serving_wires.proofs.Inside.{flushes_are, given_up_are}
use Rattle.serving_wires.proofs.Landed.{Landed, goes_keeps, landed_fronts}
use Rattle.serving_wires.proofs.Leading.{Rows}
use Rattle.serving_wires.proofs.Placed.{ArePuts, IsPut as IsPutCall, put_there, puts_before}
use Rattle.serving_wires.proofs.Placing.{each_more, each_none, each_one}
use Rattle.serving_wires.proofs.Running.{Resting, Running, put_on, rests_fronts, settled, settles, starts, turned}
use Rattle.serving_wires.proofs.Spared.{none_of_both, same_events}
use Rattle.serving_wires.proofs.Standing.{none}
use Rattle.serving_wires.proofs.Turns.{events_then, failed, gave, one_longer}
use Rattle.client_serving.specs.Begun.{IsBegun}
use Rattle.client_serving.specs.Run.{EndsBy, EndsSo, IsInRun, PutsInRun, RunsClient, SaysSo, connected}
use Rattle.client_serving.specs.Serving.{after_events, begun, behaviour, connected_as, served_client}
use Rattle.client_serving.specs.ServingValue.{ServingValue}
use Rattle.client_serving.specs.declared.end.ClientEnd.{ClientEnd}
use Rattle.client_serving.specs.declared.end.ClientEnd.TheVariants.{Done, Ended, Turns}
use Rattle.client_serving.specs.declared.end.ClientRun.{ClientRun}
use Rattle.client_serving.proofs.Asking.{handled_never, served_after}
use Rattle.client_serving.proofs.Saying.{ends_say_so}
use Rattle.client_serving.proofs.Served.{serves_a_client}

abbrev pub connect : ℕ → List ℕ → List WireCall
connect channel address = Connected address (Ok channel) ∷ []

ends_by : (turns : ℕ) (last : ClientEnd) (s : ServingValue) (events : List WireEvent) → s.end ≡ Some last → SaysSo s.end s events → length events ≤ turns → EndsBy turns last s.end events
ends_by turns Done s events is says within = (is, within)
ends_by turns (Ended cause) s events is says within = (is, within)
ends_by turns Turns s events is says within = absurd (subst (λ end. SaysSo end s events) is says)

-- a run that has no end wasn't stopped
unstopped : (end : Option ClientEnd) (s : ServingValue) (events : List WireEvent) → SaysSo end s events → end ≡ None → list_any is_stop events ≡ false
unstopped None s events says going = says.2
unstopped (Some end) s events says going = absurd cc

pub some_then : (end : Option ClientEnd) (last : ClientEnd) → end ≡ Some last → IsSome end
some_then None last is = cc
some_then (Some end) last is = refl

module _ (address : List ℕ) (script : List ScriptLine) where
  -- the calls, one by one
  pub record IsCalled (channel : ℕ) (calls : List WireCall) : Type 0 where
    pub later : List WireCall
    pub first : calls ≡ Connected address (Ok channel) ∷ later
    pub alone : list_any reaches_out later ≡ false
    pub in_run : Each (IsInRun address channel script) calls

  -- so many events came, and the next one is waited for; or all is put
  pub record Waits (count : ℕ) (now : Now ServingValue) (unused : ℕ) (calls : List WireCall) : Type 0 where
    pub channel : ℕ
    pub called : IsCalled channel calls
    pub running : Running (served_client address script) count now unused calls
    pub goes_on : now.served.end ≡ None

  pub record IsPut (count : ℕ) (now : Now ServingValue) (unused : ℕ) (calls : List WireCall) : Type 0 where
    pub channel : ℕ
    pub called : IsCalled channel calls
    pub serves : Serves (served_client address script) calls
    pub peer : now.served.peer ≡ address
    pub stands : Resting (served_client address script) now.served now.sending unused calls
    pub flushed : AllFlushed its_own calls now.sending
    pub rises : IsStrictlyIncreasing (channels_put calls)
    pub counted : length (events_in calls) ≡ count
    pub sound : list_any breaks calls ≡ false

module _ (laws : WireLaws) (address : List ℕ) (script : List ScriptLine) where
  -- ---- the calls, one by one

  connect_called : (channel : ℕ) → IsCalled address script channel (connect channel address)
  connect_called channel = record { later = []; first = refl; alone = refl; in_run = each_one (IsInRun address channel script) [] (Connected address (Ok channel)) tt }

  more_called : (channel : ℕ) (calls more : List WireCall) → list_any reaches_out more ≡ false → EachBehind (IsInRun address channel script) calls more → IsCalled address script channel calls
      → IsCalled address script channel (calls ++ more)
  more_called channel calls more inside each old = record {
    later = old.later ++ more;
    first = ap (λ (cs : List WireCall). cs ++ more) old.first;
    alone = none_of_both reaches_out old.later more old.alone inside;
    in_run = each_more (IsInRun address channel script) calls more old.in_run each;
  }

  put_in_run : (channel : ℕ) (before : List WireCall) (call : WireCall) → IsPutCall call → PutsInRun address channel script before → IsInRun address channel script before call
  put_in_run channel before (Listened to answer) put can = tt
  put_in_run channel before (Connected to answer) put can = tt
  put_in_run channel before (Gave (Ok event)) put can = absurd (let no = put.no_event in cc)
  put_in_run channel before (Gave (Err refusal)) put can = absurd (false≢true (sym put.sound))
  put_in_run channel before (Offered number piece answer) put can = can
  put_in_run channel before (Shut number) put can = can

  puts_called : (channel : ℕ) (calls puts : List WireCall) → ArePuts puts → PutsInRun address channel script calls → IsCalled address script channel calls → IsCalled address script channel (calls ++ puts)
  puts_called channel calls puts are can old =
      more_called channel calls puts are.inside
      (λ before behind call split.
      let so = subst ArePuts split are in
      put_in_run channel (calls ++ before) call (put_there before call behind so) (λ nothing. can (sym (same_events calls before (puts_before before call behind so).no_event) ∙ nothing))) old

  event_called : (channel : ℕ) (calls more : List WireCall) (event : WireEvent) → IsEventAndPuts event more → (after_events address channel script (events_in calls)).end ≡ None → IsCalled address script channel calls
      → IsCalled address script channel (calls ++ more)
  event_called channel calls more event e going old =
      let at : List WireCall = calls ++ gave event ∷ [] in
      subst (IsCalled address script channel) (append_assoc calls (gave event ∷ []) e.puts ∙ ap (λ (cs : List WireCall). calls ++ cs) (sym e.called))
      (puts_called channel at e.puts e.are (λ nothing. absurd (none_last (events_in calls) event (sym (events_then calls event) ∙ nothing)))
      (more_called channel calls (gave event ∷ []) refl (each_one (IsInRun address channel script) calls (gave event) going) old))

  -- ---- what a run comes to

  comes_to : (channel turns : ℕ) (result : Result ClientRun WireRefusal) (calls : List WireCall) → IsCalled address script channel calls → Serves (served_client address script) calls
      → AreFronts (nodes_in (state_after (served_client address script) calls)) calls → AreApart (sent_in (state_after (served_client address script) calls))
      → EndsSo address channel script turns result calls → RunsClient script address turns result calls
  comes_to channel turns result calls c serves fronts apart ends =
      connected channel c.later c.first c.alone
      (record {
        serves = serves;
        fronts = fronts;
        client = serves_a_client address script (heard_in calls) apart;
        stands = served_after address channel script calls c.later c.first c.alone;
        in_run = c.in_run;
        ends = ends;
      })

  none_fails : (channel : ℕ) (calls : List WireCall) → IsCalled address script channel calls → list_any breaks calls ≡ false → list_any fails calls ≡ false
  none_fails channel calls c sound = ap (list_any fails) c.first ∙ fails_so c.later c.alone ∙ sym (ap (list_any breaks) c.first) ∙ sound

  same_served : (channel : ℕ) (now : Now ServingValue) (unused : ℕ) (calls : List WireCall) → IsCalled address script channel calls → Resting (served_client address script) now.served now.sending unused calls
      → now.served ≡ after_events address channel script (events_in calls)
  same_served channel now unused calls c stands =
      sym (ap (λ (st : State ServingValue). (standing_in st).served) stands.state) ∙ served_after address channel script calls c.later c.first c.alone

  -- ---- so many events came

  ended : (channel : ℕ) (now : Now ServingValue) (unused : ℕ) (calls : List WireCall) → IsCalled address script channel calls → Resting (served_client address script) now.served now.sending unused calls
      → (after_events address channel script (events_in calls)).end ≡ now.served.end
  ended channel now unused calls c stands = ap (λ (s : ServingValue). s.end) (sym (same_served channel now unused calls c stands))

  -- the run begins
  begins : (now : Now ServingValue) (unused : ℕ) (calls : List WireCall) → (b : IsBegun script address now unused calls) → IsCalled address script b.channel calls
  begins now unused calls b = subst (IsCalled address script b.channel) (sym b.connects) (connect_called b.channel)

  pub waits_first : (now : Now ServingValue) (unused : ℕ) (calls : List WireCall) → IsBegun script address now unused calls → now.served.end ≡ None → Waits address script 0 now unused calls
  waits_first now unused calls b going =
      record { channel = b.channel; called = begins now unused calls b; running = starts laws (served_client address script) now unused calls b.opened; goes_on = going }

  -- the script ends it at once
  can_put : (last : ClientEnd) (now : Now ServingValue) (unused : ℕ) (calls : List WireCall) → (b : IsBegun script address now unused calls) → now.served.end ≡ Some last → PutsInRun address b.channel script calls
  can_put last now unused calls b is = λ nothing. some_then (begun address b.channel script).end last (sym (ap (λ (s : ServingValue). s.end) b.begins) ∙ is)

  no_puts : (now : Now ServingValue) (unused : ℕ) (calls : List WireCall) → IsBegun script address now unused calls → channels_put calls ≡ []
  no_puts now unused calls b = ap channels_put b.connects

  pub put_first : (last : ClientEnd) (now : Now ServingValue) (sending : Rows) (unused : ℕ) (calls puts : List WireCall) → IsBegun script address now unused calls → now.served.end ≡ Some last
      → FlushesKept its_own now.sending sending puts → IsPut address script 0 (record { served = now.served; sending = sending }) unused (calls ++ puts)
  put_first last now sending unused calls puts b is flushes =
      let r = starts laws (served_client address script) now unused calls b.opened in
      let p = put_on laws (served_client address script) (record { served = now.served; sending = sending }) now.sending unused calls puts r.serves r.stands (no_puts now unused calls b) r.sound flushes in
      record {
        channel = b.channel;
        called = puts_called b.channel calls puts (flushes_are laws its_own now.sending flushes.flushed puts flushes.flushes) (can_put last now unused calls b is) (begins now unused calls b);
        serves = p.serves;
        peer = r.peer_is;
        stands = p.stands;
        flushed = p.flushed;
        rises = p.rises;
        counted = ap length p.came ∙ r.counted;
        sound = p.sound;
      }

  pub unput_first : (turns : ℕ) (last : ClientEnd) (now : Now ServingValue) (unused : ℕ) (calls puts : List WireCall) → IsBegun script address now unused calls → now.served.end ≡ Some last
      → GivesUpAll its_own now.sending puts → RunsClient script address turns (Err NoMemory) (calls ++ puts)
  unput_first turns last now unused calls puts b is up =
      let r = starts laws (served_client address script) now unused calls b.opened in
      let p = puts_in_part laws (served_client address script) now.served now.sending unused calls puts r.serves r.sound r.stands up in
      let c = puts_called b.channel calls puts (given_up_are laws its_own now.sending puts up) (can_put last now unused calls b is) (begins now unused calls b) in
      comes_to b.channel turns (Err NoMemory) (calls ++ puts) c p.serves p.fronts p.apart (none_fails b.channel (calls ++ puts) c p.sound)

  -- a turn
  pub turn_put : (count : ℕ) (old new : Now ServingValue) (n m : ℕ) (is_last : Bool) (calls more : List WireCall) → Waits address script count old n calls → IsTurn behaviour old new n m is_last more
      → IsPut address script (count + 1) new m (calls ++ more)
  turn_put count old new n m is_last calls more w t =
      let then = turned laws (served_client address script) count old new n m is_last calls more w.running t in
      record {
        channel = w.channel;
        called = event_called w.channel calls more t.event (turn_puts laws behaviour handled_never old new n m is_last more t)
            (ended w.channel old n calls w.called w.running.stands ∙ w.goes_on) w.called;
        serves = then.serves;
        peer = t.peer ∙ w.running.peer_is;
        stands = then.stands;
        flushed = then.flushed;
        rises = then.rises;
        counted = one_longer (events_in calls) (events_in (calls ++ more)) t.event count then.came w.running.counted;
        sound = then.sound;
      }

  pub waits_again : (count : ℕ) (now : Now ServingValue) (unused : ℕ) (calls : List WireCall) → IsPut address script count now unused calls → now.served.end ≡ None → Waits address script count now unused calls
  waits_again count now unused calls p going =
      let s = after_events address p.channel script (events_in calls) in
      record {
        channel = p.channel;
        called = p.called;
        running = record {
          serves = p.serves;
          peer_is = p.peer;
          stands = p.stands;
          flushed = λ some. p.flushed;
          rises = p.rises;
          counted = p.counted;
          goes_on = unstopped s.end s (events_in calls) (ends_say_so address p.channel script (events_in calls)) (ended p.channel now unused calls p.called p.stands ∙ going);
          sound = p.sound;
        };
        goes_on = going;
      }

  -- ---- its ends

  pub ends_put : (turns count : ℕ) (last : ClientEnd) (now : Now ServingValue) (unused : ℕ) (calls : List WireCall) → IsPut address script count now unused calls → count ≤ turns → now.served.end ≡ Some last
      → RunsClient script address turns (Ok (record { end = last; client = now.served.client })) calls
  ends_put turns count last now unused calls p within is =
      let program = served_client address script in
      let s = after_events address p.channel script (events_in calls) in
      comes_to p.channel turns _ calls p.called p.serves (rests_fronts laws program now.served now.sending unused calls p.stands) (rests_apart program now.served now.sending unused calls p.stands)
      (record {
        client = ap (λ (t : ServingValue). t.client) (same_served p.channel now unused calls p.called p.stands);
        ends = ends_by turns last s (events_in calls) (ended p.channel now unused calls p.called p.stands ∙ is) (ends_say_so address p.channel script (events_in calls)) (omega (arith, p.counted, within));
        settled = λ some. settled laws program now.served now.sending unused calls p.stands p.flushed p.rises;
        sound = none_fails p.channel calls p.called p.sound;
      })

  pub ends_turns : (turns count : ℕ) (now : Now ServingValue) (unused : ℕ) (calls : List WireCall) → Waits address script count now unused calls → count ≡ turns
      → RunsClient script address turns (Ok (record { end = Turns; client = now.served.client })) calls
  ends_turns turns count now unused calls w all =
      let program = served_client address script in
      let stands = w.running.stands in
      comes_to w.channel turns _ calls w.called w.running.serves (rests_fronts laws program now.served now.sending unused calls stands) (rests_apart program now.served now.sending unused calls stands)
      (record {
        client = ap (λ (t : ServingValue). t.client) (same_served w.channel now unused calls w.called stands);
        ends = (ended w.channel now unused calls w.called stands ∙ w.goes_on, w.running.counted ∙ all);
        settled = settled_by;
        sound = none_fails w.channel calls w.called w.running.sound;
      })
    where
      settled_by : (Turns ≢ Turns) ⊎ (events_in calls ≢ []) → IsSettled (served_client address script) calls
      settled_by (inl other) = absurd (other refl)
      settled_by (inr some) = settles laws (served_client address script) count now unused calls w.running some

  -- no event came, or memory was wanting
  pub ends_cut : (refusal : WireRefusal) (turns count : ℕ) (old new : Now ServingValue) (n m : ℕ) (calls more : List WireCall) → Waits address script count old n calls → count < turns
      → TakesTurn behaviour old new n m (Err refusal) more → RunsClient script address turns (Err refusal) (calls ++ more)
  ends_cut Failed turns count old new n m calls more w within is =
      let program = served_client address script in
      let r = broken laws program turns count old n calls within w.running in
      let going = ended w.channel old n calls w.called w.running.stands ∙ w.goes_on in
      subst (λ (cs : List WireCall). RunsClient script address turns (Err Failed) (calls ++ cs)) (sym is)
      (comes_to w.channel turns (Err Failed) (calls ++ failed)
      (more_called w.channel calls failed refl (each_one (IsInRun address w.channel script) calls (Gave (Err Failed)) going) w.called) r.serves r.fronts r.apart
      (record { earlier = calls; split = refl; within = omega (arith, within, w.running.counted); goes_on = going; sound = none_fails w.channel calls w.called w.running.sound }))
  ends_cut NoMemory turns count old new n m calls more w within cut =
      let r = cut_short laws (served_client address script) turns count old n calls more w.running cut in
      let c = cut_called (cut_puts laws behaviour handled_never old n more cut) in
      comes_to w.channel turns (Err NoMemory) (calls ++ more) c r.serves r.fronts r.apart (none_fails w.channel (calls ++ more) c r.ends)
    where
      cut_called : (more ≡ []) ⊎ ((event : WireEvent) × IsEventAndPuts event more) → IsCalled address script w.channel (calls ++ more)
      cut_called (inl nothing) = subst (IsCalled address script w.channel) (sym (ap (λ (cs : List WireCall). calls ++ cs) nothing ∙ append-nil calls)) w.called
      cut_called (inr (event, e)) = event_called w.channel calls more event e (ended w.channel old n calls w.called w.running.stands ∙ w.goes_on) w.called

  -- memory was wanting before the client had begun
  pub ends_unbegun : (channel turns unused : ℕ) → unused ≤ channel → RunsClient script address turns (Err NoMemory) (connect channel address)
  ends_unbegun channel turns unused fits =
      let program = served_client address script in
      let begins_as = connected_as (Ok channel) address script in
      let rows : Rows = begun_on channel [] in
      let goes : Goes address unused (channel + 1) program.begins begins_as [] rows (connect channel address) =
      answered unused (channel + 1) (Ok channel) (λ answer. connected_as answer address script) begins_as [] rows [] fits (here (channel + 1) begins_as rows) in
      let at_first : Landed program program.first [] unused [] program.begins =
      record { sent = []; state = refl; holds = record { lines = none 0; below = tt; spares = λ k missing. refl } } in
      let h = goes_keeps laws program program.first unused (channel + 1) program.begins begins_as [] rows [] (connect channel address) goes at_first in
      comes_to channel turns (Err NoMemory) (connect channel address) (connect_called channel)
      (each_more (IsInPlace program) [] (connect channel address) (each_none (IsInPlace program) []) h.in_place)
      (landed_fronts laws program program.first rows (channel + 1) (connect channel address) begins_as h.landed)
      (landed_apart program program.first rows (channel + 1) (connect channel address) begins_as h.landed) refl
