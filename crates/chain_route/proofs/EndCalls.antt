-- Calls of an end that neither bring bytes, nor end them, nor give out what is queued, and one call that does.
use Rattle.std.proofs.Common.{◌≡◌, ℕ, Bool, true, false, ◌||◌, List, [], ◌∷◌, ◌++◌, Option, refl, ap, ◌∙◌, append-nil}
use Rattle.std.specs.Prelude.{slice_get}
use Rattle.std.specs.List.{AllByRecursion, list_any}
use Rattle.std.proofs.lemmas.List.Concat.{flat_map-append}
use Rattle.std.proofs.lemmas.List.Folds.{list_any-append}
use Rattle.channel_core.specs.Arrivals.{Marked, arrived, arrived_in, marked}
use Rattle.channel_core.specs.EndValue.{EndValue}
use Rattle.channel_core.specs.Laws.{listed}
use Rattle.channel_core.specs.Runs.{Call, Run, after_call, after_calls, begun, closing, commanding, delivering, draining, ending, putting_out, sending, taking}
use Rattle.channel_core.specs.declared.held.Outgoing.{Outgoing}
use Rattle.channel_laws.specs.Faults.{is_ending}
use Rattle.chain_route.specs.Carrying.{End}
use Rattle.chain_route.proofs.Flows.{came_more, gave_more, losing}
use Rattle.list_laws.proofs.Flags.{or_false, or_true}

abbrev pub IsIdle : {T : Type 0} → Call T → Type 0
IsIdle (delivering piece mark) = ⊥
IsIdle ending = ⊥
IsIdle putting_out = ⊥
IsIdle _ = Unit {0}

abbrev pub AreIdle : {T : Type 0} → List (Call T) → Type 0
AreIdle calls = AllByRecursion IsIdle calls

pub calls_more : {T : Type 0} → (calls more : List (Call T)) (r : Run T) → after_calls (calls ++ more) r ≡ after_calls more (after_calls calls r)
calls_more [] more r = refl
calls_more (call ∷ calls) more r = calls_more calls more (after_call call r)

pub idle_gave : {T : Type 0} → (call : Call T) (r : Run T) → IsIdle call → (after_call call r).past.given ≡ r.past.given
idle_gave (delivering piece mark) r idle = absurd idle
idle_gave ending r idle = absurd idle
idle_gave taking r idle = refl
idle_gave (commanding service name body tag mark) r idle = refl
idle_gave (sending message mark) r idle = refl
idle_gave putting_out r idle = absurd idle
idle_gave closing r idle = refl
idle_gave draining r idle = refl

pub idle_given : {T : Type 0} → (calls : List (Call T)) (r : Run T) → AreIdle calls → (after_calls calls r).past.given ≡ r.past.given
idle_given [] r idle = refl
idle_given (call ∷ calls) r idle = idle_given calls (after_call call r) idle.1 ∙ idle_gave call r idle.0

pub idle_arrived : {T : Type 0} → (calls : List (Call T)) → AreIdle calls → arrived calls ≡ []
idle_arrived [] idle = refl
idle_arrived (delivering piece mark ∷ calls) idle = absurd idle.0
idle_arrived (ending ∷ calls) idle = absurd idle.0
idle_arrived (taking ∷ calls) idle = idle_arrived calls idle.1
idle_arrived (commanding service name body tag mark ∷ calls) idle = idle_arrived calls idle.1
idle_arrived (sending message mark ∷ calls) idle = idle_arrived calls idle.1
idle_arrived (putting_out ∷ calls) idle = absurd idle.0
idle_arrived (closing ∷ calls) idle = idle_arrived calls idle.1
idle_arrived (draining ∷ calls) idle = idle_arrived calls idle.1

-- nor do they end the bytes
idle_lost : {T : Type 0} → (calls : List (Call T)) → AreIdle calls → list_any is_ending calls ≡ false
idle_lost [] idle = refl
idle_lost (delivering piece mark ∷ calls) idle = absurd idle.0
idle_lost (ending ∷ calls) idle = absurd idle.0
idle_lost (taking ∷ calls) idle = idle_lost calls idle.1
idle_lost (commanding service name body tag mark ∷ calls) idle = idle_lost calls idle.1
idle_lost (sending message mark ∷ calls) idle = idle_lost calls idle.1
idle_lost (putting_out ∷ calls) idle = absurd idle.0
idle_lost (closing ∷ calls) idle = idle_lost calls idle.1
idle_lost (draining ∷ calls) idle = idle_lost calls idle.1

lost_more : {T : Type 0} → (calls more : List (Call T)) (flag : Bool) → list_any is_ending more ≡ flag → list_any is_ending (calls ++ more) ≡ (list_any is_ending calls || flag)
lost_more calls more flag is = list_any-append is_ending calls more ∙ ap (λ b. list_any is_ending calls || b) is

pub arrived_more : {T : Type 0} → (calls more : List (Call T)) → arrived (calls ++ more) ≡ arrived calls ++ arrived more
arrived_more calls more = flat_map-append arrived_in calls more

-- ---- What an end gave, and what came to it, by its calls

abbrev pub end_by : {T : Type 0} → EndValue T → List (Call T) → End
end_by e calls = record { gave = (after_calls calls (begun e)).past.given; came = arrived calls; is_lost = list_any is_ending calls; is_refused = false }

abbrev ends : List Outgoing → List Marked → Bool → End
ends gave came lost = record { gave = gave; came = came; is_lost = lost; is_refused = false }

end_is : (gave also : List Outgoing) (came too : List Marked) (lost as_well : Bool) → gave ≡ also → came ≡ too → lost ≡ as_well → ends gave came lost ≡ ends also too as_well
end_is gave also came too lost as_well p q l = ap (λ x. ends x came lost) p ∙ ap (λ x. ends also x lost) q ∙ ap (ends also too) l

-- idle calls change nothing of it
pub idle_end : {T : Type 0} → (e : EndValue T) (calls more : List (Call T)) → AreIdle more → end_by e (calls ++ more) ≡ end_by e calls
idle_end e calls more idle =
    let r = after_calls calls (begun e) in
    end_is (after_calls (calls ++ more) (begun e)).past.given r.past.given (arrived (calls ++ more)) (arrived calls)
    (list_any is_ending (calls ++ more)) (list_any is_ending calls)
    (ap (λ x. x.past.given) (calls_more calls more (begun e)) ∙ idle_given more r idle)
    (arrived_more calls more ∙ ap (λ bs. arrived calls ++ bs) (idle_arrived more idle) ∙ append-nil (arrived calls))
    (lost_more calls more false (idle_lost more idle) ∙ or_false (list_any is_ending calls))

-- the first message that is queued goes out
pub put_end : {T : Type 0} → (e : EndValue T) (calls : List (Call T)) (out : Outgoing) (rest : List Outgoing) → (after_calls calls (begun e)).end.queued ≡ out ∷ rest
    → end_by e (calls ++ putting_out ∷ []) ≡ gave_more (out ∷ []) (end_by e calls)
put_end {T = T} e calls out rest is =
    let more : List (Call T) = putting_out ∷ [] in
    let r = after_calls calls (begun e) in
    end_is (after_calls (calls ++ more) (begun e)).past.given (r.past.given ++ out ∷ []) (arrived (calls ++ more)) (arrived calls)
    (list_any is_ending (calls ++ more)) (list_any is_ending calls)
    (ap (λ x. x.past.given) (calls_more calls more (begun e)) ∙ ap (λ os. r.past.given ++ listed (slice_get os 0)) is)
    (arrived_more calls more ∙ append-nil (arrived calls))
    (lost_more calls more false refl ∙ or_false (list_any is_ending calls))

-- a piece comes
pub come_end : {T : Type 0} → (e : EndValue T) (calls : List (Call T)) (piece : List ℕ) (mark : Option ℕ) → end_by e (calls ++ delivering piece mark ∷ []) ≡ came_more (marked piece mark) (end_by e calls)
come_end {T = T} e calls piece mark =
    let more : List (Call T) = delivering piece mark ∷ [] in
    let r = after_calls calls (begun e) in
    end_is (after_calls (calls ++ more) (begun e)).past.given r.past.given (arrived (calls ++ more)) (arrived calls ++ marked piece mark)
    (list_any is_ending (calls ++ more)) (list_any is_ending calls)
    (ap (λ x. x.past.given) (calls_more calls more (begun e)))
    (arrived_more calls more ∙ ap (λ bs. arrived calls ++ bs) (append-nil (marked piece mark)))
    (lost_more calls more false refl ∙ or_false (list_any is_ending calls))

-- its bytes end
pub lost_end : {T : Type 0} → (e : EndValue T) (calls : List (Call T)) → end_by e (calls ++ ending ∷ []) ≡ losing (end_by e calls)
lost_end {T = T} e calls =
    let more : List (Call T) = ending ∷ [] in
    let r = after_calls calls (begun e) in
    end_is (after_calls (calls ++ more) (begun e)).past.given r.past.given (arrived (calls ++ more)) (arrived calls)
    (list_any is_ending (calls ++ more)) true
    (ap (λ x. x.past.given) (calls_more calls more (begun e)))
    (arrived_more calls more ∙ append-nil (arrived calls))
    (lost_more calls more true refl ∙ or_true (list_any is_ending calls))
