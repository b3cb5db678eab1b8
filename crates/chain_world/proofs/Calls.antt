-- Calls of an end that neither bring or end its bytes nor give out what is queued, and calls that give all of it out.
use Rattle.std.proofs.Common.{◌≡◌, false, ◌||◌, List, [], ◌∷◌, ◌++◌, drop, map, refl, sym, ap, ◌∙◌, append_assoc, append-nil}
use Rattle.std.specs.Prelude.{slice_get}
use Rattle.std.specs.List.{list_any}
use Rattle.channel_core.specs.Arrivals.{arrived}
use Rattle.channel_core.specs.Laws.{listed}
use Rattle.channel_core.specs.Runs.{Call, Run, after_call, after_calls, closing, commanding, delivering, draining, ending, putting_out, sending, taking}
use Rattle.channel_core.specs.declared.held.Outgoing.{Outgoing}
use Rattle.channel_laws.specs.Faults.{is_ending}
use Rattle.list_laws.proofs.Flags.{or_assoc}
use Rattle.chain_route.proofs.EndCalls.{IsIdle, AreIdle}

-- ---- Whether its bytes have ended

idle_one : {T : Type 0} → (call : Call T) → IsIdle call → is_ending call ≡ false
idle_one (delivering piece mark) idle = absurd idle
idle_one ending idle = absurd idle
idle_one taking idle = refl
idle_one (commanding service name body tag mark) idle = refl
idle_one (sending message mark) idle = refl
idle_one putting_out idle = absurd idle
idle_one closing idle = refl
idle_one draining idle = refl

pub idle_endless : {T : Type 0} → (calls : List (Call T)) → AreIdle calls → list_any is_ending calls ≡ false
idle_endless [] idle = refl
idle_endless (call ∷ calls) idle = ap (λ b. b || list_any is_ending calls) (idle_one call idle.0) ∙ idle_endless calls idle.1

pub endings_more : {T : Type 0} → (calls more : List (Call T)) → list_any is_ending (calls ++ more) ≡ (list_any is_ending calls || list_any is_ending more)
endings_more [] more = refl
endings_more (call ∷ calls) more =
    ap (λ b. is_ending call || b) (endings_more calls more) ∙ or_assoc (is_ending call) (list_any is_ending calls) (list_any is_ending more)

-- ---- All that is queued is given out

abbrev pub putting : {T : Type 0} → List Outgoing → List (Call T)
putting queue = map (λ o. putting_out) queue

pub all_put : {T : Type 0} → (queue : List Outgoing) (r : Run T) → r.end.queued ≡ queue → (after_calls (putting queue) r).past.given ≡ r.past.given ++ queue
all_put [] r is = sym (append-nil r.past.given)
all_put (o ∷ queue) r is =
    all_put queue (after_call putting_out r) (ap (drop 1) is)
    ∙ ap (λ os. (r.past.given ++ listed (slice_get os 0)) ++ queue) is
    ∙ append_assoc r.past.given (o ∷ []) queue

pub putting_arrived : (T : Type 0) (queue : List Outgoing) → arrived {T = T} (putting queue) ≡ []
putting_arrived T [] = refl
putting_arrived T (o ∷ queue) = putting_arrived T queue

pub putting_endless : (T : Type 0) (queue : List Outgoing) → list_any is_ending (putting {T = T} queue) ≡ false
putting_endless T [] = refl
putting_endless T (o ∷ queue) = putting_endless T queue
