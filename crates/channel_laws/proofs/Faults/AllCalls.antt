-- After every call the causes for which an end closes are fine, where those are that the calls may bring.
use Rattle.std.proofs.Common.{◌≡◌, ℕ, List, [], ◌∷◌, ◌++◌, Some, zero, suc, ◌<◌, length, refl, sym, ap, ◌∙◌, subst, arith, ⊎_elim}
use Rattle.std.specs.Prelude.{slice_index_or}
use Rattle.std.specs.List.{AllByRecursion, flat_map}
use Rattle.std.proofs.lemmas.Grind.{flat_map-append}
use Rattle.channel_core.specs.Closing.{closed_for, is_closed}
use Rattle.channel_core.specs.EndValue.{EndValue}
use Rattle.channel_core.specs.Laws.{listed}
use Rattle.channel_core.specs.Receiving.{is_over}
use Rattle.channel_core.specs.ReceivingLaws.{EndsFor, incoming_of}
use Rattle.channel_core.specs.Runs.{Call, Run, after_call, after_calls, closing, commanding, delivering, draining, ending, putting_out, sending, taking}
use Rattle.channel_core.specs.Taking.{next_taken}
use Rattle.channel_core.specs.declared.states.Cause.{Cause}
use Rattle.channel_core.specs.declared.states.Cause.TheVariants.{Ended, Own}
use Rattle.channel_core.specs.declared.states.EndState.TheVariants.{Opening}
use Rattle.channel_core.specs.declared.taking.Taken.{Taken}
use Rattle.channel_core.specs.declared.taking.Taken.TheVariants.{Closed}
use Rattle.channel_laws.proofs.Faults.Following.{AreFine, Follows, StateIs, StopIs, alike, command_came, either, piece_came}
use Rattle.channel_laws.proofs.Faults.Taking.{IsFine, MayTake, TakenIs, taken_next}
use Rattle.list_laws.proofs.AllLists.{all_append}
use Rattle.channel_core.specs.Sending.{refusal_to}

-- the causes that a call may bring
abbrev pub MayBring : {T : Type 0} → (Cause → Type 0) → Call T → EndValue T → Type 0
MayBring Fine (delivering piece mark) e = AreFine Fine
MayBring Fine ending e = Fine Ended
MayBring Fine taking e = MayTake Fine e.inbox e
MayBring Fine (commanding service name body tag mark) e = Unit {0}
MayBring Fine (sending message mark) e = Unit {0}
MayBring Fine putting_out e = Unit {0}
MayBring Fine closing e = Fine Own
MayBring Fine draining e = Unit {0}

-- all causes are fine, and where the end is still opening no message was taken
pub record IsFineRun {T : Type 0} (Fine : Cause → Type 0) (r : Run T) : Type 0 where
  pub fine : IsFine Fine r.end
  pub taken : AllByRecursion (TakenIs Fine) r.past.taken
  pub opening : r.end.state ≡ Opening → flat_map incoming_of r.past.taken ≡ []

-- nothing is taken
followed : {T : Type 0} → (Fine : Cause → Type 0) (r next : Run T) → next.past.taken ≡ r.past.taken → Follows Fine r.end next.end → IsFineRun Fine r → IsFineRun Fine next
followed {T = T} Fine r next same f i = record {
  fine = record { stop = f.stop i.fine.stop; state = f.state i.fine.state };
  taken = subst (λ (ts : List (Taken T)). AllByRecursion (TakenIs Fine) ts) (sym same) i.taken;
  opening = λ is. ap (λ (ts : List (Taken T)). flat_map incoming_of ts) same ∙ i.opening (f.opening is);
}

took : {T : Type 0} → (Fine : Cause → Type 0) (r : Run T) → MayTake Fine r.end.inbox r.end → IsFineRun Fine r → IsFineRun Fine (after_call taking r)
took Fine r may i =
    let next = next_taken r.end in
    let n = taken_next Fine r.end.inbox r.end may i.fine in
    record {
      fine = record { stop = n.stop; state = n.state };
      taken = all_append (TakenIs Fine) r.past.taken (listed next.0) i.taken n.taken;
      opening = λ is. let o = n.opening is in flat_map-append incoming_of r.past.taken (listed next.0) ∙ ap (λ ms. ms ++ flat_map incoming_of (listed next.0)) (i.opening o.0) ∙ o.1;
    }

ends : {T : Type 0} → (Fine : Cause → Type 0) (e : EndValue T) → Fine Ended → Follows Fine e (record e { stop = Some Ended })
ends Fine e fine = record { stop = λ s. fine; state = λ s. s; opening = λ is. is }

closes : {T : Type 0} → (Fine : Cause → Type 0) (e : EndValue T) → Fine Own → Follows Fine e (closed_for Own e)
closes Fine e fine = record { stop = λ s. tt; state = λ s. fine; opening = λ is. absurd cc }

fine_called : {T : Type 0} → (Fine : Cause → Type 0) (call : Call T) (r : Run T) → MayBring Fine call r.end → IsFineRun Fine r → IsFineRun Fine (after_call call r)
fine_called Fine (delivering piece mark) r may i = followed Fine r (after_call (delivering piece mark) r) refl (piece_came Fine may piece mark r.end) i
fine_called Fine ending r may i =
    followed Fine r (after_call ending r) refl (either Fine (is_over r.end) r.end r.end _ (alike Fine r.end r.end refl refl) (ends Fine r.end may)) i
fine_called Fine taking r may i = took Fine r may i
fine_called Fine (commanding service name body tag mark) r may i =
    followed Fine r (after_call (commanding service name body tag mark) r) refl (command_came Fine (refusal_to service name body r.end) service name body tag mark r.end) i
fine_called Fine (sending message mark) r may i =
    followed Fine r (after_call (sending message mark) r) refl (either Fine (is_closed r.end.state) r.end r.end _ (alike Fine r.end r.end refl refl) (alike Fine r.end _ refl refl)) i
fine_called Fine putting_out r may i = followed Fine r (after_call putting_out r) refl (alike Fine r.end _ refl refl) i
fine_called Fine closing r may i =
    followed Fine r (after_call closing r) refl (either Fine (is_closed r.end.state) r.end r.end _ (alike Fine r.end r.end refl refl) (closes Fine r.end may)) i
fine_called Fine draining r may i =
    followed Fine r (after_call draining r) refl (either Fine (is_closed r.end.state) r.end _ r.end (alike Fine r.end _ refl refl) (alike Fine r.end r.end refl refl)) i

-- each call, behind those before it
abbrev pub MayBringAll : {T : Type 0} → (Cause → Type 0) → List (Call T) → Run T → Type 0
MayBringAll {T} Fine calls r = (first rest : List (Call T)) (call : Call T) → calls ≡ first ++ call ∷ rest → MayBring Fine call (after_calls first r).end

pub fine_after : {T : Type 0} → (Fine : Cause → Type 0) (calls : List (Call T)) (r : Run T) → MayBringAll Fine calls r → IsFineRun Fine r → IsFineRun Fine (after_calls calls r)
fine_after Fine [] r may i = i
fine_after Fine (call ∷ calls) r may i =
    fine_after Fine calls (after_call call r) (λ first rest other is. may (call ∷ first) rest other (ap (λ cs. call ∷ cs) is)) (fine_called Fine call r (may [] calls call refl) i)

-- ---- The cause for which it ends is fine

among_taken : {T : Type 0} → (Fine : Cause → Type 0) (taken : List (Taken T)) (cause : Cause) (place : ℕ) → place < length taken → slice_index_or taken place (Closed cause) ≡ Closed cause
    → AllByRecursion (TakenIs Fine) taken → Fine cause
among_taken Fine [] cause place within is all = absurd (omega arith)
among_taken {T = T} Fine (t ∷ taken) cause zero within is all = subst (λ (x : Taken T). TakenIs Fine x) is all.0
among_taken Fine (t ∷ taken) cause (suc place) within is all = among_taken Fine taken cause place (omega arith) is all.1

pub ends_fine : {T : Type 0} → (Fine : Cause → Type 0) (r : Run T) (cause : Cause) → IsFineRun Fine r → EndsFor r cause → Fine cause
ends_fine Fine r cause i ends_for = ⊎_elim
    (λ is. subst (StopIs Fine) is i.fine.stop)
    (λ other. ⊎_elim (λ is. subst (StateIs Fine) is i.fine.state) (λ among. among_taken Fine r.past.taken cause among.0 among.1 among.2 i.taken) other)
    ends_for
