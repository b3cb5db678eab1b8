-- How runs end.
use Rattle.std.proofs.Common.{◌≡◌, ℕ, List, [], ◌++◌, length, append_assoc, refl, ap, sym, subst, ◌∙◌, inl, inr, arith}
use Rattle.std.proofs.lemmas.List.{append-nil, take_all}
use Rattle.std.specs.Prelude.{Option, None, Some, Result, Ok, Err, IfOk, OnErr}
use Rattle.tcf_outside.specs.Sink.{SinkSeen, Took, added}
use Rattle.tcf_app.specs.declared.exit.Exit.{Exit}
use Rattle.tcf_app.specs.declared.exit.Exit.TheVariants.{Done, Usage, BadText, FileFault, SinkFault, WireFault, Turns, NoMemory, BadStream, Ended, TooLong, Differs}
use Rattle.tcf_app.specs.Exit.{IsGivenUp, faults_by}
use Rattle.tcf_app.specs.Ending.{Ending, Ends, wanting_ending}

-- all of the text was told
pub ends_whole : (ending : Ending) (before after : SinkSeen) → Took ending.text before after → Ends ending ending.exit before after
ends_whole ending before after told =
    record {
      which = inl refl;
      whole = λ e. told;
      front = (length ending.text, told ∙ ap (λ (t : List ℕ). added t before.told) (sym (take_all (length ending.text) ending.text (omega arith))));
    }

pub added_nothing : (told : Option (List ℕ)) → added [] told ≡ told
added_nothing None = refl
added_nothing (Some before) = ap Some (append-nil before)

-- one text after the other was told
pub added_twice : (first second : List ℕ) (told : Option (List ℕ)) → added second (added first told) ≡ added (first ++ second) told
added_twice first second None = refl
added_twice first second (Some before) = ap Some (append_assoc before first second)

-- nothing was told, since memory was wanting
pub ends_early : (ending : Ending) (sink : SinkSeen) → (NoMemory ≡ ending.exit → ⊥) → Ends ending NoMemory sink sink
ends_early ending sink other =
    record {
      which = inr (inr refl);
      whole = λ e. absurd (other e);
      front = (0, sym (added_nothing sink.told));
    }

-- and nothing was to be told
pub ends_wanting : (sink : SinkSeen) → Ends wanting_ending NoMemory sink sink
ends_wanting sink =
    record {
      which = inl refl;
      whole = λ e. sym (added_nothing sink.told);
      front = (0, sym (added_nothing sink.told));
    }

-- a text that was made was put, or memory was wanting for it
pub made_ends : {E : Type 0} (made : Result (List ℕ) E) (text : List ℕ) (exit result : Exit) (before after : SinkSeen) → (NoMemory ≡ exit → ⊥)
    → IfOk made (λ t. t ≡ text) → IfOk made (λ t. Ends (record { exit = exit; text = t }) result before after) → OnErr made ((result ≡ NoMemory) × (after ≡ before))
    → Ends (record { exit = exit; text = text }) result before after
made_ends (Ok t) text exit result before after other is ends wanting = subst (λ (x : List ℕ). Ends (record { exit = exit; text = x }) result before after) is ends
made_ends (Err e) text exit result before after other is ends wanting =
    let ending : Ending = record { exit = exit; text = text } in
    subst (λ (x : Exit). Ends ending x before after) (sym wanting.0) (subst (λ (t : SinkSeen). Ends ending NoMemory before t) (sym wanting.1) (ends_early ending before other))

-- where all was put no put was a fault
pub no_fault : (exit : Exit) (count : ℕ) → (IsGivenUp exit → ⊥) → faults_by exit count ≡ count
no_fault Done count own = refl
no_fault Usage count own = refl
no_fault (BadText line what) count own = refl
no_fault FileFault count own = refl
no_fault SinkFault count own = absurd (own (inl refl))
no_fault WireFault count own = refl
no_fault Turns count own = refl
no_fault NoMemory count own = refl
no_fault (BadStream offset what) count own = refl
no_fault (Ended cause) count own = refl
no_fault (TooLong word) count own = refl
no_fault (Differs rule) count own = refl
