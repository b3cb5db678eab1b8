-- A serving command ends in one way, by its calls.
use Rattle.std.proofs.Common.{◌≡◌, ℕ, ◌<◌, Bool, true, false, ◌||◌, List, [], ◌∷◌, ◌++◌, length, refl, sym, ap, ◌∙◌, subst, inl, inr, arith}
use Rattle.std.specs.Prelude.{Option, None, Some, Result, Ok, Err, IfSome}
use Rattle.std.specs.List.{list_any}
use Rattle.std.proofs.lemmas.Bool.{false≢true, or_parts}
use Rattle.tcf_outside.specs.Files.{FilesSeen, content_of}
use Rattle.tcf_outside.specs.Sink.{SinkSeen}
use Rattle.tcf_outside.specs.declared.files.HeldFile.{HeldFile}
use Rattle.tcf_schedules.specs.Refusal.{BadLine}
use Rattle.tcf_schedules.specs.Script.{script_of}
use Rattle.tcf_schedules.specs.declared.script.ScriptLine.{ScriptLine}
use Rattle.tcf_wires.specs.Told.{WiresSeen}
use Rattle.tcf_wires.specs.declared.call.WireCall.{WireCall}
use Rattle.tcf_wires.specs.declared.call.WireCall.TheVariants.{Connected, Gave, Listened}
use Rattle.tcf_wires.specs.declared.event.WireEvent.{WireEvent}
use Rattle.tcf_wires.specs.declared.event.WireEvent.TheVariants as events
use Rattle.tcf_wires.specs.declared.event.WireRefusal.{WireRefusal}
use Rattle.tcf_wires.specs.declared.event.WireRefusal.TheVariants as refusals
use Rattle.serving_wires.specs.Calls.{Makes, events_in}
use Rattle.serving_wires.specs.Serving.{breaks, is_stop, listens, stops}
use Rattle.serving_wires.specs.Ends.{AreTaken, EndsSo, IsBroken, IsLastCall, IsStopped, no_listening, no_event}
use Rattle.serving_wires.proofs.Making.{makes_so}
use Rattle.serving_wires.proofs.Spared.{same_events}
use Rattle.serving_wires.specs.declared.end.ServeEnd.{ServeEnd}
use Rattle.serving_wires.specs.declared.end.ServeEnd.TheVariants as serve_ends
use Rattle.hub_serving.specs.Serve.{ServesHub}
use Rattle.hub_serving.specs.Serve as hubs
use Rattle.client_serving.specs.Run.{EndsBy, RunsClient, ServesClient, no_calls, not_connected, connected, HasRun as RunHas, IsBroken as RunBreaks}
use Rattle.client_serving.specs.Serving.{after_events}
use Rattle.client_serving.specs.declared.end.ClientEnd.{ClientEnd}
use Rattle.client_serving.specs.declared.end.ClientEnd.TheVariants as client_ends
use Rattle.client_serving.specs.declared.end.ClientRun.{ClientRun}
use Rattle.tcf_app.specs.declared.exit.Exit.{Exit}
use Rattle.tcf_app.specs.declared.exit.Exit.TheVariants.{Done, NoMemory, Turns}
use Rattle.tcf_app.specs.Words.{OrderValue, chain, show, load, agent, value, client, hub, journal, check, names_of}
use Rattle.tcf_app.specs.Heard.{Heard, Hears, whole, longer, failed}
use Rattle.tcf_app.specs.Ending.{Ending, Ends, IsEnding, IsRanEnding, exit_of, ran_ending, served_ending}
use Rattle.tcf_app.proofs.Hearing.{content_is}
use Rattle.tcf_app.specs.Run.{BeginsConnected, BeginsListening, ComesTo, EndsOnly, IsOneEnd, IsEndOfRun, IsEndOfScript, IsEndOfServing, RunsBy}

-- ---- the exit of an ending, or given up

at_ending : (ending : Ending) (exit wanted : Exit) (before after : SinkSeen) → Ends ending exit before after → ending.exit ≡ wanted → EndsOnly wanted exit
at_ending ending exit wanted before after e is = elim e.which as (λ _. EndsOnly wanted exit) [
  | inl same ↦ inl (same ∙ is)
  | inr up ↦ inr up
]

-- an ending for want of memory
at_wanting : (ending : Ending) (exit wanted : Exit) (before after : SinkSeen) → Ends ending exit before after → ending.exit ≡ NoMemory → EndsOnly wanted exit
at_wanting ending exit wanted before after e is = elim e.which as (λ _. EndsOnly wanted exit) [
  | inl same ↦ inr (inr (same ∙ is))
  | inr up ↦ inr up
]

-- ---- an agent, value-adds and a hub

stop_last : (earlier : List WireEvent) → list_any is_stop (earlier ++ events.Stop ∷ []) ≡ true
stop_last [] = refl
stop_last (event ∷ earlier) = behind (is_stop event) (stop_last earlier)
  where
    behind : (b : Bool) {c : Bool} → c ≡ true → (b || c) ≡ true
    behind true is = refl
    behind false is = is

stopped_stops : (ends_run : WireCall → Bool) (turns count : ℕ) (calls : List WireCall) → IsStopped ends_run turns count calls → stops calls ≡ true
stopped_stops ends_run turns count calls s = ap (list_any is_stop) s.last ∙ stop_last s.earlier

-- the call that failed gave no event
quiet_last : {last : WireCall} → (turns : ℕ) (earlier : List WireCall) → IsLastCall turns earlier last → events_in (last ∷ []) ≡ []
quiet_last turns earlier (no_listening address quiet never) = refl
quiet_last turns earlier (no_event within) = refl

broken_events : (ends_run : WireCall → Bool) (turns : ℕ) (calls : List WireCall) (b : IsBroken ends_run turns calls) → events_in calls ≡ events_in b.earlier
broken_events ends_run turns calls b = ap events_in b.split ∙ same_events b.earlier (b.last ∷ []) (quiet_last turns b.earlier b.fails_last)

-- no address was listened on before the first one that was
listened_before : (address elsewhere : List ℕ) (earlier later calls : List WireCall) → list_any listens earlier ≡ false → calls ≡ earlier ++ Listened elsewhere (Err refusals.Failed) ∷ []
    → calls ≡ Listened address (Ok tt) ∷ later → ⊥
listened_before address elsewhere [] later calls never split first = absurd cc
listened_before address elsewhere (call ∷ earlier) later calls never split first =
    let same : call ≡ Listened address (Ok tt) = cc in absurd (false≢true (sym never ∙ ap (λ (c : WireCall). listens c || list_any listens earlier) same))

-- where the calls begin so, no listening failed
abbrev Excludes : (List WireCall → Type 0) → Type 0
Excludes Begins = (elsewhere : List ℕ) (earlier calls : List WireCall) → list_any listens earlier ≡ false → calls ≡ earlier ++ Listened elsewhere (Err refusals.Failed) ∷ []
    → Begins calls → ⊥

listening_excludes : (address : List ℕ) → Excludes (BeginsListening address)
listening_excludes address elsewhere earlier calls never split begins = listened_before address elsewhere earlier begins.0 calls never split begins.1

connected_excludes : (peer address : List ℕ) → Excludes (BeginsConnected peer address)
connected_excludes peer address elsewhere [] calls never split begins =
    let both : Listened elsewhere (Err refusals.Failed) ∷ [] ≡ Connected peer (Ok begins.0) ∷ Listened address (Ok tt) ∷ begins.1.0 = sym split ∙ begins.1.1 in cc
connected_excludes peer address elsewhere (call ∷ earlier) calls never split begins =
    let both : call ∷ (earlier ++ Listened elsewhere (Err refusals.Failed) ∷ []) ≡ Connected peer (Ok begins.0) ∷ Listened address (Ok tt) ∷ begins.1.0 = sym split ∙ begins.1.1 in
    let rest : earlier ++ Listened elsewhere (Err refusals.Failed) ∷ [] ≡ Listened address (Ok tt) ∷ begins.1.0 = cc in
    listened_before address elsewhere earlier begins.1.0 (earlier ++ Listened elsewhere (Err refusals.Failed) ∷ []) (or_parts (listens call) (list_any listens earlier) never).1 refl rest

-- where the calls begin so, and a later call failed, not all turns were taken
broken_within : {last : WireCall} → (turns : ℕ) (Begins : List WireCall → Type 0) → Excludes Begins → (earlier calls : List WireCall) → IsLastCall turns earlier last
    → calls ≡ earlier ++ last ∷ [] → Begins calls → length (events_in earlier) < turns
broken_within turns Begins excludes earlier calls (no_listening elsewhere quiet never) split begins = absurd (excludes elsewhere earlier calls never split begins)
broken_within turns Begins excludes earlier calls (no_event within) split begins = within

served_out : (ends_run : WireCall → Bool) (Begins : List WireCall → Type 0) → Excludes Begins → (turns : ℕ) (calls : List WireCall) (end : ServeEnd) (ending : Ending) (exit : Exit) (before after : SinkSeen)
    → EndsSo ends_run turns end calls → ending ≡ served_ending turns end → Ends ending exit before after → IsEndOfServing Begins turns exit calls
served_out ends_run Begins excludes turns calls (serve_ends.Stopped count) ending exit before after so is e =
    let s : IsStopped ends_run turns count calls = so in
    record {
      stopped = λ stop. at_ending ending exit Done before after e (ap (λ (x : Ending). x.exit) is);
      taken = λ begins none counted. let both : true ≡ false = sym (stopped_stops ends_run turns count calls s) ∙ none in cc;
    }
served_out ends_run Begins excludes turns calls serve_ends.Turns ending exit before after so is e =
    let t : AreTaken ends_run turns calls = so in
    record {
      stopped = λ stop. let both : true ≡ false = sym stop ∙ t.goes_on in cc;
      taken = λ begins none counted. at_ending ending exit Turns before after e (ap (λ (x : Ending). x.exit) is);
    }
served_out ends_run Begins excludes turns calls serve_ends.WireFault ending exit before after so is e =
    let b : IsBroken ends_run turns calls = so in
    let same = broken_events ends_run turns calls b in
    record {
      stopped = λ stop. let both : true ≡ false = sym stop ∙ ap (list_any is_stop) same ∙ b.goes_on in cc;
      taken = λ begins none counted.
          let within = broken_within turns Begins excludes b.earlier calls b.fails_last b.split begins in
          absurd (omega (arith, within, sym (ap (λ (es : List WireEvent). length es) same) ∙ counted));
    }
served_out ends_run Begins excludes turns calls serve_ends.NoMemory ending exit before after so is e = record {
  stopped = λ stop. at_wanting ending exit Done before after e (ap (λ (x : Ending). x.exit) is);
  taken = λ begins none counted. at_wanting ending exit Turns before after e (ap (λ (x : Ending). x.exit) is);
}

-- no call was made
nothing_served : (Begins : List WireCall → Type 0) (turns : ℕ) (exit : Exit) (calls : List WireCall) → calls ≡ [] → (Begins [] → ⊥) → IsEndOfServing Begins turns exit calls
nothing_served Begins turns exit calls none never = record {
  stopped = λ stop. let both : true ≡ false = sym stop ∙ ap stops none in cc;
  taken = λ begins quiet counted. absurd (never (subst Begins none begins));
}

listening_calls : (address : List ℕ) → BeginsListening address [] → ⊥
listening_calls address begins = let first = begins.1 in cc

connected_calls : (peer address : List ℕ) → BeginsConnected peer address [] → ⊥
connected_calls peer address begins = let first = begins.1.1 in cc

hub_out : (peer address : List ℕ) (turns : ℕ) (calls : List WireCall) (end : ServeEnd) (ending : Ending) (exit : Exit) (before after : SinkSeen)
    → ServesHub peer address turns end calls → ending ≡ served_ending turns end → Ends ending exit before after → IsEndOfServing (BeginsConnected peer address) turns exit calls
hub_out peer address turns calls end ending exit before after (hubs.unbegun none is) e_is e =
    nothing_served (BeginsConnected peer address) turns exit calls none (connected_calls peer address)
hub_out peer address turns calls end ending exit before after (hubs.unconnected called is) e_is e = record {
  stopped = λ stop. let both : true ≡ false = sym stop ∙ ap stops called in cc;
  taken = λ begins quiet counted. let both : Connected peer (Ok begins.0) ∷ Listened address (Ok tt) ∷ begins.1.0 ≡ Connected peer (Err refusals.Failed) ∷ [] = sym begins.1.1 ∙ called in cc;
}
hub_out peer address turns calls end ending exit before after (hubs.served c runs its) e_is e =
    served_out breaks (BeginsConnected peer address) (connected_excludes peer address) turns calls end ending exit before after runs.ends e_is e

-- ---- a client

same_channel : (address : List ℕ) (channel other : ℕ) (calls later more : List WireCall)
    → calls ≡ Connected address (Ok channel) ∷ later → calls ≡ Connected address (Ok other) ∷ more → other ≡ channel
same_channel address channel other calls later more first also = cc

-- the end that the run has by what came, over the channel that it has
end_on : (script : List ScriptLine) (address : List ℕ) (channel : ℕ) (calls later : List WireCall) (end : Option ClientEnd)
    → calls ≡ Connected address (Ok channel) ∷ later → ComesTo script address end calls → (after_events address channel script (events_in calls)).end ≡ end
end_on script address channel calls later end first c =
    ap (λ k. (after_events address k script (events_in calls)).end) (sym (same_channel address channel c.channel calls later c.later first c.connects)) ∙ c.end_is

ends_by : (turns : ℕ) (ran : ClientEnd) (end : Option ClientEnd) (found : Option ClientEnd) (happened : List WireEvent) → EndsBy turns ran end happened → end ≡ found
    → ((it : ClientEnd) → found ≡ Some it → ran ≡ it) × (found ≡ None → ran ≡ client_ends.Turns)
ends_by turns client_ends.Done end found happened by is =
    let so : found ≡ Some client_ends.Done = sym is ∙ by.0 in (λ it some. cc, λ none. cc)
ends_by turns (client_ends.Ended cause) end found happened by is =
    let so : found ≡ Some (client_ends.Ended cause) = sym is ∙ by.0 in (λ it some. cc, λ none. cc)
ends_by turns client_ends.Turns end found happened by is =
    let so : found ≡ None = sym is ∙ by.0 in (λ it some. cc, λ none. refl)

broken_run_events : (address : List ℕ) (channel : ℕ) (script : List ScriptLine) (turns : ℕ) (calls : List WireCall) (b : RunBreaks address channel script turns calls) → events_in calls ≡ events_in b.earlier
broken_run_events address channel script turns calls b = ap events_in b.split ∙ same_events b.earlier (Gave (Err refusals.Failed) ∷ []) refl

module _ (script : List ScriptLine) (address : List ℕ) (turns : ℕ) (calls : List WireCall) (ending : Ending) (exit : Exit) (before after : SinkSeen) (e : Ends ending exit before after) where
  run_out_on : (channel : ℕ) (later : List WireCall) (result : Result ClientRun WireRefusal) → calls ≡ Connected address (Ok channel) ∷ later
      → ServesClient address channel script turns result calls → ending ≡ ran_ending result → IsEndOfRun script address turns exit calls
  run_out_on channel later (Ok run) first served is =
      let has : RunHas address channel script turns run calls = served.ends in
      let own = (after_events address channel script (events_in calls)).end in
      let exit_is : ending.exit ≡ exit_of run.end = ap (λ (x : Ending). x.exit) is in
      record {
        ended = λ end c.
            let by = ends_by turns run.end own (Some end) (events_in calls) has.ends (end_on script address channel calls later (Some end) first c) in
            at_ending ending exit (exit_of end) before after e (exit_is ∙ ap exit_of (by.0 end refl));
        taken = λ c counted.
            let by = ends_by turns run.end own None (events_in calls) has.ends (end_on script address channel calls later None first c) in
            at_ending ending exit Turns before after e (exit_is ∙ ap exit_of (by.1 refl));
      }
  run_out_on channel later (Err refusals.Failed) first served is =
      let b : RunBreaks address channel script turns calls = served.ends in
      let same = broken_run_events address channel script turns calls b in
      record {
        ended = λ end c.
            let both : Some end ≡ None = sym (end_on script address channel calls later (Some end) first c) ∙ ap (λ es. (after_events address channel script es).end) same ∙ b.goes_on in cc;
        taken = λ c counted. absurd (omega (arith, b.within, sym (ap (λ (es : List WireEvent). length es) same) ∙ counted));
      }
  run_out_on channel later (Err refusals.NoMemory) first served is = record {
    ended = λ end c. at_wanting ending exit (exit_of end) before after e (ap (λ (x : Ending). x.exit) is);
    taken = λ c counted. at_wanting ending exit Turns before after e (ap (λ (x : Ending). x.exit) is);
  }

  -- where it didn't connect there is nothing to say
  unconnected : ((channel : ℕ) (later : List WireCall) → calls ≡ Connected address (Ok channel) ∷ later → ⊥) → IsEndOfRun script address turns exit calls
  unconnected never = record {
    ended = λ end c. absurd (never c.channel c.later c.connects);
    taken = λ c counted. absurd (never c.channel c.later c.connects);
  }

  run_out : (result : Result ClientRun WireRefusal) → RunsClient script address turns result calls → ending ≡ ran_ending result → IsEndOfRun script address turns exit calls
  run_out result (no_calls is none) e_is = unconnected (λ channel later first. cc)
  run_out result (not_connected is called) e_is = unconnected (λ channel later first. cc)
  run_out result (connected channel later first alone served) e_is = run_out_on channel later result first served e_is

-- by what the file says
ran_out : (said : Result (List ScriptLine) BadLine) (script : List ScriptLine) (address : List ℕ) (turns : ℕ) (calls : List WireCall) (ending : Ending) (exit : Exit) (before after : SinkSeen)
    → said ≡ Ok script → IsRanEnding said address turns calls ending → Ends ending exit before after → IsEndOfRun script address turns exit calls
ran_out (Err bad) script address turns calls ending exit before after is its e = cc
ran_out (Ok found) script address turns calls ending exit before after is its e =
    let same : found ≡ script = cc in
    subst (λ s. IsEndOfRun s address turns exit calls) same (run_out found address turns calls ending exit before after e its.result its.runs its.its)

-- no call was made
nothing_run : (script : List ScriptLine) (address : List ℕ) (turns : ℕ) (exit : Exit) (calls : List WireCall) → calls ≡ [] → IsEndOfRun script address turns exit calls
nothing_run script address turns exit calls none = record {
  ended = λ end c. let both : [] ≡ Connected address (Ok c.channel) ∷ c.later = sym none ∙ c.connects in cc;
  taken = λ c counted. let both : [] ≡ Connected address (Ok c.channel) ∷ c.later = sym none ∙ c.connects in cc;
}

-- ---- any order

-- what a client's file says, where the files are told
client_out : (address name file : List ℕ) (turns : ℕ) (files files' : FilesSeen) (calls : List WireCall) (ending : Ending) (exit : Exit) (before after : SinkSeen)
    → Hears (name ∷ []) files files' (whole (file ∷ [])) → IsRanEnding (script_of file) address turns calls ending → Ends ending exit before after
    → IsOneEnd (Some (client address name turns)) files exit calls
client_out address name file turns files files' calls ending exit before after hears its e = by_held files.held (content_is name file files files' hears)
  where
    by_held : (held : Option (List HeldFile)) → IfSome held (λ fs. file ≡ content_of name fs) → IfSome held (λ fs. IsEndOfScript (content_of name fs) address turns exit calls)
    by_held None is = tt
    by_held (Some fs) is = λ script says. ran_out (script_of file) script address turns calls ending exit before after (ap script_of is ∙ says) its e

silent_client : (address name : List ℕ) (turns : ℕ) (files : FilesSeen) (calls : List WireCall) (exit : Exit) → calls ≡ [] → IsOneEnd (Some (client address name turns)) files exit calls
silent_client address name turns files calls exit none = by_held files.held
  where
    by_held : (held : Option (List HeldFile)) → IfSome held (λ fs. IsEndOfScript (content_of name fs) address turns exit calls)
    by_held None = tt
    by_held (Some fs) = λ script says. nothing_run script address turns exit calls none

silent_out : (order : OrderValue) (files : FilesSeen) (calls : List WireCall) (exit : Exit) → calls ≡ [] → IsOneEnd (Some order) files exit calls
silent_out (chain name) files calls exit none = tt
silent_out (show name) files calls exit none = tt
silent_out (load number) files calls exit none = tt
silent_out (agent address turns images) files calls exit none = nothing_served (BeginsListening address) turns exit calls none (listening_calls address)
silent_out (value address peer turns) files calls exit none = nothing_served (BeginsListening address) turns exit calls none (listening_calls address)
silent_out (hub address peer turns) files calls exit none = nothing_served (BeginsConnected peer address) turns exit calls none (connected_calls peer address)
silent_out (client address name turns) files calls exit none = silent_client address name turns files calls exit none
silent_out (journal name head) files calls exit none = tt
silent_out (check name) files calls exit none = tt

is_out : (order : Option OrderValue) (heard : Heard) (files files' : FilesSeen) (calls : List WireCall) (ending : Ending) (exit : Exit) (before after : SinkSeen)
    → Hears (names_of order) files files' heard → IsEnding order heard calls ending → Ends ending exit before after → IsOneEnd order files exit calls
is_out None heard files files' calls ending exit before after hears its e = tt
is_out (Some order) (longer count) files files' calls ending exit before after hears its e = silent_out order files calls exit its.0
is_out (Some order) (failed count) files files' calls ending exit before after hears its e = silent_out order files calls exit its.0
is_out (Some (chain name)) (whole contents) files files' calls ending exit before after hears its e = tt
is_out (Some (show name)) (whole contents) files files' calls ending exit before after hears its e = tt
is_out (Some (load number)) (whole contents) files files' calls ending exit before after hears its e = tt
is_out (Some (agent address turns images)) (whole contents) files files' calls ending exit before after hears its e =
    served_out breaks (BeginsListening address) (listening_excludes address) turns calls its.0 ending exit before after its.1.runs.ends its.2 e
is_out (Some (value address peer turns)) (whole []) files files' calls ending exit before after hears its e =
    served_out breaks (BeginsListening address) (listening_excludes address) turns calls its.0 ending exit before after its.1.runs.ends its.2 e
is_out (Some (hub address peer turns)) (whole []) files files' calls ending exit before after hears its e =
    hub_out peer address turns calls its.0 ending exit before after its.1 its.2 e
is_out (Some (hub address peer turns)) (whole (file ∷ more)) files files' calls ending exit before after hears its e = absurd its
is_out (Some (value address peer turns)) (whole (file ∷ more)) files files' calls ending exit before after hears its e = absurd its
is_out (Some (client address name turns)) (whole []) files files' calls ending exit before after hears its e = absurd its
is_out (Some (client address name turns)) (whole (file ∷ [])) files files' calls ending exit before after hears its e =
    client_out address name file turns files files' calls ending exit before after hears its e
is_out (Some (client address name turns)) (whole (file ∷ other ∷ more)) files files' calls ending exit before after hears its e = absurd its
is_out (Some (journal name head)) (whole contents) files files' calls ending exit before after hears its e = tt
is_out (Some (check name)) (whole contents) files files' calls ending exit before after hears its e = tt

pub out_of : (order : Option OrderValue) (exit : Exit) (files files' : FilesSeen) (wires wires' : WiresSeen) (before after : SinkSeen)
    → Makes (RunsBy order exit files files' before after) wires wires' → Makes (IsOneEnd order files exit) wires wires'
out_of order exit files files' wires wires' before after made =
    makes_so (RunsBy order exit files files' before after) (IsOneEnd order files exit) wires wires'
    (λ calls r. is_out order r.heard files files' calls r.ends.0 exit before after r.hears r.ends.1 r.ends.2)
    made
