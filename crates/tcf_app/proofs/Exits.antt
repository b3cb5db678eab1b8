-- What the exit of a run tells, from the run as a whole.
use Rattle.std.proofs.Common.{◌≡◌, ℕ, Bool, true, false, List, [], ◌∷◌, refl, sym, ap, ◌∙◌, subst, inl, inr, ◌⊎◌, arith}
use Rattle.std.specs.Prelude.{◌||◌, Option, None, Some, Result, Ok, Err, IfSome, is_err}
use Rattle.std.specs.List.{list_any}
use Rattle.tcf_outside.specs.Faults.{Rose}
use Rattle.tcf_outside.specs.Files.{FilesSeen}
use Rattle.tcf_outside.specs.Sink.{SinkSeen}
use Rattle.tcf_outside.specs.declared.files.HeldFile.{HeldFile}
use Rattle.tcf_schedules.specs.Refusal.{BadLine}
use Rattle.tcf_schedules.specs.Script.{script_of}
use Rattle.tcf_schedules.specs.declared.script.ScriptLine.{ScriptLine}
use Rattle.tcf_wires.specs.Told.{WiresSeen, with_calls}
use Rattle.tcf_wires.specs.declared.call.WireCall.{WireCall}
use Rattle.tcf_wires.specs.declared.event.WireRefusal.{WireRefusal}
use Rattle.tcf_wires.specs.declared.event.WireRefusal.TheVariants as refusals
use Rattle.serving_wires.specs.Calls.{Makes}
use Rattle.serving_wires.specs.Serving.{fails, breaks}
use Rattle.serving_wires.proofs.Making.{makes_so, seen_none}
use Rattle.serving_wires.proofs.Rising.{rose_raised}
use Rattle.serving_wires.specs.Ends.{AreTaken, EndsSo, IsStopped}
use Rattle.serving_wires.specs.declared.end.ServeEnd.{ServeEnd}
use Rattle.serving_wires.specs.declared.end.ServeEnd.TheVariants as serve_ends
use Rattle.agent_serving.proofs.Opening.{fails_as_breaks}
use Rattle.hub_serving.specs.Serve.{ServesHub}
use Rattle.hub_serving.specs.Serve as hubs
use Rattle.serving_wires.proofs.Holding.{fails_so}
use Rattle.client_serving.specs.Run.{RunsClient, no_calls, not_connected, connected, HasRun as RunHas}
use Rattle.client_serving.specs.declared.end.ClientEnd.{ClientEnd}
use Rattle.client_serving.specs.declared.end.ClientEnd.TheVariants as client_ends
use Rattle.client_serving.specs.declared.end.ClientRun.{ClientRun}
use Rattle.tcf_app.specs.declared.exit.Exit.{Exit}
use Rattle.tcf_app.specs.declared.exit.Exit.TheVariants.{Usage, SinkFault, NoMemory}
use Rattle.tcf_app.specs.Exit.{IsGivenUp, TellsFault, faults_by}
use Rattle.tcf_app.specs.Words.{OrderValue, chain, show, load, agent, value, client, hub, journal, check, names_of}
use Rattle.tcf_app.specs.Heard.{Heard, whole, longer, failed, Agrees, Hears, heard_in}
use Rattle.tcf_app.specs.Ending.{Ending, Ends, IsEnding, IsRanEnding, images_with, served_ending, exit_of, ran_ending, wire_ending}
use Rattle.tcf_app.specs.Run.{RunsBy, serves_peers, is_early, SparesWires, ends_run, AreHeeded, IsReadHeeded, PutsFront, IsFrontPut, ExitsOver, IsDecided}
use Rattle.tcf_app.proofs.Hearing.{heard_of_held, fails_last}
use Rattle.tcf_app.proofs.Tells.{Seen, Tells, given_up_tells, ending_tells}

-- ---- where no call is made

-- the ending comes before the wires are used
abbrev Early : Option OrderValue → Ending → Type 0
Early order ending = (serves_peers order ≡ false) ⊎ (is_early ending.exit ≡ true)

served_calls : (turns : ℕ) (calls : List WireCall) (end : ServeEnd) (ending : Ending) → ending ≡ served_ending turns end → is_early ending.exit ≡ true → calls ≡ []
served_calls turns calls end ending is early = by_end end (sym (ap (λ (e : Ending). is_early e.exit) is) ∙ early)
  where
    by_end : (e : ServeEnd) → is_early (served_ending turns e).exit ≡ true → calls ≡ []
    by_end (serve_ends.Stopped events) e = cc
    by_end serve_ends.Turns e = cc
    by_end serve_ends.WireFault e = cc
    by_end serve_ends.NoMemory e = cc

ran_calls : (said : Result (List ScriptLine) BadLine) (address : List ℕ) (turns : ℕ) (calls : List WireCall) (ending : Ending) → IsRanEnding said address turns calls ending → is_early ending.exit ≡ true → calls ≡ []
ran_calls (Err bad) address turns calls ending its early = its.0
ran_calls (Ok script) address turns calls ending its early = by_result its.result (sym (ap (λ (e : Ending). is_early e.exit) its.its) ∙ early)
  where
    by_end : (end : ClientEnd) → is_early (exit_of end) ≡ true → calls ≡ []
    by_end client_ends.Done e = cc
    by_end (client_ends.Ended cause) e = cc
    by_end client_ends.Turns e = cc

    by_result : (result : Result ClientRun WireRefusal) → is_early (ran_ending result).exit ≡ true → calls ≡ []
    by_result (Ok run) e = by_end run.end e
    by_result (Err refusals.Failed) e = cc
    by_result (Err refusals.NoMemory) e = cc

early_calls : (order : Option OrderValue) (heard : Heard) (calls : List WireCall) (ending : Ending) → IsEnding order heard calls ending → Early order ending → calls ≡ []
early_calls None heard calls ending its early = its.0
early_calls (Some order) (longer count) calls ending its early = its.0
early_calls (Some order) (failed count) calls ending its early = its.0
early_calls (Some (chain name)) (whole []) calls ending its early = absurd its
early_calls (Some (chain name)) (whole (file ∷ [])) calls ending its early = its.0
early_calls (Some (chain name)) (whole (file ∷ other ∷ more)) calls ending its early = absurd its
early_calls (Some (show name)) (whole []) calls ending its early = absurd its
early_calls (Some (show name)) (whole (file ∷ [])) calls ending its early = its.0
early_calls (Some (show name)) (whole (file ∷ other ∷ more)) calls ending its early = absurd its
early_calls (Some (load number)) (whole []) calls ending its early = its.0
early_calls (Some (load number)) (whole (file ∷ more)) calls ending its early = absurd its
early_calls (Some (agent address turns images)) (whole contents) calls ending its (inl none) = cc
early_calls (Some (agent address turns images)) (whole contents) calls ending its (inr early) = served_calls turns calls its.0 ending its.2 early
early_calls (Some (value address peer turns)) (whole []) calls ending its (inl none) = cc
early_calls (Some (value address peer turns)) (whole []) calls ending its (inr early) = served_calls turns calls its.0 ending its.2 early
early_calls (Some (value address peer turns)) (whole (file ∷ more)) calls ending its early = absurd its
early_calls (Some (hub address peer turns)) (whole []) calls ending its (inl none) = cc
early_calls (Some (hub address peer turns)) (whole []) calls ending its (inr early) = served_calls turns calls its.0 ending its.2 early
early_calls (Some (hub address peer turns)) (whole (file ∷ more)) calls ending its early = absurd its
early_calls (Some (client address name turns)) (whole []) calls ending its early = absurd its
early_calls (Some (client address name turns)) (whole (file ∷ [])) calls ending its (inl none) = cc
early_calls (Some (client address name turns)) (whole (file ∷ [])) calls ending its (inr early) = ran_calls (script_of file) address turns calls ending its early
early_calls (Some (client address name turns)) (whole (file ∷ other ∷ more)) calls ending its early = absurd its
early_calls (Some (journal name head)) (whole []) calls ending its early = absurd its
early_calls (Some (journal name head)) (whole (file ∷ [])) calls ending its early = its.0
early_calls (Some (journal name head)) (whole (file ∷ other ∷ more)) calls ending its early = absurd its
early_calls (Some (check name)) (whole []) calls ending its early = absurd its
early_calls (Some (check name)) (whole (file ∷ [])) calls ending its early = its.0
early_calls (Some (check name)) (whole (file ∷ other ∷ more)) calls ending its early = absurd its

-- an early exit is that of the ending
not_given_up : (exit : Exit) → is_early exit ≡ true → IsGivenUp exit → ⊥
not_given_up exit early (inl is) = let e : is_early SinkFault ≡ true = sym (ap is_early is) ∙ early in cc
not_given_up exit early (inr is) = let e : is_early NoMemory ≡ true = sym (ap is_early is) ∙ early in cc

spared_calls : (order : Option OrderValue) (exit : Exit) (files files' : FilesSeen) (before after : SinkSeen) (calls : List WireCall)
    → RunsBy order exit files files' before after calls → SparesWires order exit → calls ≡ []
spared_calls order exit files files' before after calls r (inl none) = early_calls order r.heard calls r.ends.0 r.ends.1 (inl none)
spared_calls order exit files files' before after calls r (inr early) = by_which r.ends.2.which
  where
    by_which : (exit ≡ r.ends.0.exit) ⊎ IsGivenUp exit → calls ≡ []
    by_which (inl same) = early_calls order r.heard calls r.ends.0 r.ends.1 (inr (sym (ap is_early same) ∙ early))
    by_which (inr up) = absurd (not_given_up exit early up)

-- ---- where a call failed

served_heeded : (ends_run : WireCall → Bool) (turns : ℕ) (calls : List WireCall) (end : ServeEnd) (ending : Ending) → EndsSo ends_run turns end calls → ending ≡ served_ending turns end
    → (list_any ends_run calls ≡ false) ⊎ (ending ≡ wire_ending)
served_heeded ends_run turns calls (serve_ends.Stopped events) ending ends is = let stopped : IsStopped ends_run turns events calls = ends in inl stopped.sound
served_heeded ends_run turns calls serve_ends.Turns ending ends is = let taken : AreTaken ends_run turns calls = ends in inl taken.sound
served_heeded ends_run turns calls serve_ends.WireFault ending ends is = inr is
served_heeded ends_run turns calls serve_ends.NoMemory ending ends is = inl ends

-- a hub connects once, and by that call the run ends where it failed
hub_heeded : (peer address : List ℕ) (turns : ℕ) (calls : List WireCall) (end : ServeEnd) (ending : Ending) → ServesHub peer address turns end calls → ending ≡ served_ending turns end
    → (list_any fails calls ≡ false) ⊎ (ending ≡ wire_ending)
hub_heeded peer address turns calls end ending (hubs.unbegun none is) e = inl (ap (list_any fails) none)
hub_heeded peer address turns calls end ending (hubs.unconnected called is) e = inr (e ∙ ap (served_ending turns) is)
hub_heeded peer address turns calls end ending (hubs.served c runs its) e =
    let later : list_any fails c.later ≡ list_any breaks c.later = elim c.listens as (λ _. list_any fails c.later ≡ list_any breaks c.later) [
      | inl l ↦ rw l.first (ap (λ (b : Bool). is_err l.answer || b) (fails_so l.later l.once))
      | inr none ↦ rw none.0 refl
    ] in
    let same : list_any fails calls ≡ list_any breaks calls = rw c.connects later in
    elim (served_heeded breaks turns calls end ending runs.ends e) as (λ _. (list_any fails calls ≡ false) ⊎ (ending ≡ wire_ending)) [
      | inl none ↦ inl (same ∙ none)
      | inr is ↦ inr is
    ]

ran_heeded : (said : Result (List ScriptLine) BadLine) (address : List ℕ) (turns : ℕ) (calls : List WireCall) (ending : Ending) → IsRanEnding said address turns calls ending
    → (list_any fails calls ≡ false) ⊎ (ending ≡ wire_ending)
ran_heeded (Err bad) address turns calls ending its = inl (ap (list_any fails) its.0)
ran_heeded (Ok script) address turns calls ending its = by_result its.result its.runs its.its
  where
    by_result : (result : Result ClientRun WireRefusal) → RunsClient script address turns result calls → ending ≡ ran_ending result → (list_any fails calls ≡ false) ⊎ (ending ≡ wire_ending)
    by_result (Ok run) (no_calls is none) e = inl (ap (list_any fails) none)
    by_result (Ok run) (not_connected is called) e = cc
    by_result (Ok run) (connected channel later first alone served) e = let has : RunHas address channel script turns run calls = served.ends in inl has.sound
    by_result (Err refusals.Failed) r e = inr e
    by_result (Err refusals.NoMemory) (no_calls is none) e = inl (ap (list_any fails) none)
    by_result (Err refusals.NoMemory) (not_connected is called) e = cc
    by_result (Err refusals.NoMemory) (connected channel later first alone served) e = inl served.ends

heeded : (order : Option OrderValue) (heard : Heard) (calls : List WireCall) (ending : Ending) → IsEnding order heard calls ending → (list_any (ends_run order) calls ≡ false) ⊎ (ending ≡ wire_ending)
heeded None heard calls ending its = inl (ap (list_any fails) its.0)
heeded (Some order) (longer count) calls ending its = inl (ap (list_any (ends_run (Some order))) its.0)
heeded (Some order) (failed count) calls ending its = inl (ap (list_any (ends_run (Some order))) its.0)
heeded (Some (chain name)) (whole []) calls ending its = absurd its
heeded (Some (chain name)) (whole (file ∷ [])) calls ending its = inl (ap (list_any fails) its.0)
heeded (Some (chain name)) (whole (file ∷ other ∷ more)) calls ending its = absurd its
heeded (Some (show name)) (whole []) calls ending its = absurd its
heeded (Some (show name)) (whole (file ∷ [])) calls ending its = inl (ap (list_any fails) its.0)
heeded (Some (show name)) (whole (file ∷ other ∷ more)) calls ending its = absurd its
heeded (Some (load number)) (whole []) calls ending its = inl (ap (list_any fails) its.0)
heeded (Some (load number)) (whole (file ∷ more)) calls ending its = absurd its
heeded (Some (agent address turns images)) (whole contents) calls ending its =
    let same = fails_as_breaks (images_with images contents) address turns its.0 calls its.1 in
    elim (served_heeded breaks turns calls its.0 ending its.1.runs.ends its.2) as (λ _. (list_any fails calls ≡ false) ⊎ (ending ≡ wire_ending)) [
      | inl none ↦ inl (same ∙ none)
      | inr is ↦ inr is
    ]
heeded (Some (value address peer turns)) (whole []) calls ending its = served_heeded breaks turns calls its.0 ending its.1.runs.ends its.2
heeded (Some (value address peer turns)) (whole (file ∷ more)) calls ending its = absurd its
heeded (Some (hub address peer turns)) (whole []) calls ending its = hub_heeded peer address turns calls its.0 ending its.1 its.2
heeded (Some (hub address peer turns)) (whole (file ∷ more)) calls ending its = absurd its
heeded (Some (client address name turns)) (whole []) calls ending its = absurd its
heeded (Some (client address name turns)) (whole (file ∷ [])) calls ending its = ran_heeded (script_of file) address turns calls ending its
heeded (Some (client address name turns)) (whole (file ∷ other ∷ more)) calls ending its = absurd its
heeded (Some (journal name head)) (whole []) calls ending its = absurd its
heeded (Some (journal name head)) (whole (file ∷ [])) calls ending its = inl (ap (list_any fails) its.0)
heeded (Some (journal name head)) (whole (file ∷ other ∷ more)) calls ending its = absurd its
heeded (Some (check name)) (whole []) calls ending its = absurd its
heeded (Some (check name)) (whole (file ∷ [])) calls ending its = inl (ap (list_any fails) its.0)
heeded (Some (check name)) (whole (file ∷ other ∷ more)) calls ending its = absurd its

-- ---- where a read failed

reads_heeded : (order : Option OrderValue) (exit : Exit) (files files' : FilesSeen) (before after : SinkSeen) (heard : Heard) (calls : List WireCall) (ending : Ending)
    → Hears (names_of order) files files' heard → IsEnding order heard calls ending → Ends ending exit before after
    → IsReadHeeded (names_of order) exit files files' before after
reads_heeded order exit files files' before after (whole contents) calls ending hears its e = inl hears.counts
reads_heeded order exit files files' before after (longer count) calls ending hears its e = inl hears.counts
reads_heeded None exit files files' before after (failed count) calls ending hears its e = absurd (omega (arith, hears.is_of))
reads_heeded (Some order) exit files files' before after (failed count) calls ending hears its e =
    inr (fails_last (names_of (Some order)) count files files' hears, subst (λ x. Ends x exit before after) its.1 e)

-- ---- what is heard where no read fails

calm_heard : (names : List (List ℕ)) (held : List HeldFile) (files files' : FilesSeen) (heard : Heard) → files.held ≡ Some held → Hears names files files' heard
    → (Rose files.faults files'.faults → ⊥) → heard ≡ heard_in names held
calm_heard names held files files' (whole contents) is hears calm = heard_of_held names (whole contents) held (subst (λ h. IfSome h (Agrees names (whole contents))) is hears.agrees) tt
calm_heard names held files files' (longer count) is hears calm = heard_of_held names (longer count) held (subst (λ h. IfSome h (Agrees names (longer count))) is hears.agrees) tt
calm_heard names held files files' (failed count) is hears calm =
    absurd (calm (subst (Rose files.faults) (sym hears.counts) (rose_raised files.faults files.faults (inl (omega arith)))))

-- ---- each clause

module _ (order : Option OrderValue) (exit : Exit) (files files' : FilesSeen) (wires wires' : WiresSeen) (before after : SinkSeen) (made : Makes (RunsBy order exit files files' before after) wires wires') where
  pub told_of : Tells (record { files = files; files_after = files'; wires = wires; wires_after = wires'; before = before; after = after }) order exit
  told_of =
      let s : Seen = record { files = files; files_after = files'; wires = wires; wires_after = wires'; before = before; after = after } in
      let r = made.fits in
      elim r.ends.2.which as (λ _. Tells s order exit) [
        | inl same ↦ subst (Tells s order) (sym same) (ending_tells s order r.heard made.calls r.ends.0 r.hears made.seen r.ends.1 (r.ends.2.whole same))
        | inr up ↦ given_up_tells s order exit up
      ]

  pub tells_at : (other : Exit) → exit ≡ other → Tells (record { files = files; files_after = files'; wires = wires; wires_after = wires'; before = before; after = after }) order other
  tells_at other is =
      subst (Tells (record { files = files; files_after = files'; wires = wires; wires_after = wires'; before = before; after = after }) order) is told_of

  pub usage_only_of : order ≡ None → (exit ≡ Usage) ⊎ IsGivenUp exit
  usage_only_of is = by_order order is made.fits
    where
      by_order : (o : Option OrderValue) → o ≡ None → RunsBy o exit files files' before after made.calls → (exit ≡ Usage) ⊎ IsGivenUp exit
      by_order None none r = elim r.ends.2.which as (λ _. (exit ≡ Usage) ⊎ IsGivenUp exit) [
        | inl same ↦ inl (same ∙ ap (λ (e : Ending). e.exit) r.ends.1.1)
        | inr up ↦ inr up
      ]
      by_order (Some o) none r = cc

  pub files_unharmed_of : IsReadHeeded (names_of order) exit files files' before after
  files_unharmed_of = let r = made.fits in reads_heeded order exit files files' before after r.heard made.calls r.ends.0 r.hears r.ends.1 r.ends.2

  pub heeded_of : Makes (AreHeeded order exit before after) wires wires'
  heeded_of =
      makes_so (RunsBy order exit files files' before after) (AreHeeded order exit before after) wires wires'
      (λ calls r. elim (heeded order r.heard calls r.ends.0 r.ends.1) as (λ _. AreHeeded order exit before after calls) [
        | inl none ↦ inl none
        | inr is ↦ inr (subst (λ x. Ends x exit before after) is r.ends.2)
      ])
      made

  pub spared_of : SparesWires order exit → wires' ≡ wires
  spared_of spares =
      let none = spared_calls order exit files files' before after made.calls made.fits spares in
      made.seen ∙ ap (λ cs. with_calls cs wires) none ∙ sym (seen_none wires)

  pub front_of : IsFrontPut order files files' wires wires' before after
  front_of =
      makes_so (RunsBy order exit files files' before after) (PutsFront order files files' before after) wires wires'
      (λ calls r. record { heard = r.heard; hears = r.hears; ending = r.ends.0; its = r.ends.1; front = r.ends.2.front })
      made

  -- the files are told
  complete_over : (held : List HeldFile) → files.held ≡ Some held → (exit ≡ SinkFault → Rose before.faults after.faults)
      → (Rose files.faults files'.faults → ⊥) → (Rose before.faults after.faults → ⊥) → Makes (ExitsOver order held exit) wires wires'
  complete_over held is fault calm quiet =
      makes_so (RunsBy order exit files files' before after) (ExitsOver order held exit) wires wires'
      (λ calls r. elim r.ends.2.which as (λ _. ExitsOver order held exit calls) [
        | inl same ↦
            let heard_is = calm_heard (names_of order) held files files' r.heard is r.hears calm in
            inl (r.ends.0, subst (λ h. IsEnding order h calls r.ends.0) heard_is r.ends.1, same)
        | inr up ↦ elim up as (λ _. ExitsOver order held exit calls) [ inl broken ↦ absurd (quiet (fault broken)) | inr wanting ↦ inr wanting ]
      ])
      made

  pub complete_of : TellsFault exit before after → IsDecided order exit files files' wires wires' before after
  complete_of tells = by_held files.held refl
    where
      fault : exit ≡ SinkFault → Rose before.faults after.faults
      fault is = subst (Rose before.faults) (sym (tells ∙ ap (λ (e : Exit). faults_by e before.faults) is)) (rose_raised before.faults before.faults (inl (omega arith)))

      by_held : (held : Option (List HeldFile)) → files.held ≡ held
          → IfSome held (λ h. (Rose files.faults files'.faults → ⊥) → (Rose before.faults after.faults → ⊥) → Makes (ExitsOver order h exit) wires wires')
      by_held None is = tt
      by_held (Some held) is = λ calm quiet. complete_over held is fault calm quiet
