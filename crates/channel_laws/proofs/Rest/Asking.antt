-- An end whose node sends no command has none pending and holds none.
use Rattle.std.proofs.Common.{◌≡◌, ℕ, false, not, List, [], ◌∷◌, map, refl, sym, ap, ◌∙◌}
use Rattle.std.specs.List.{filter, list_any}
use Rattle.channel_core.specs.Beginning.{new_end}
use Rattle.channel_core.specs.QueueLaws.{is_commanding}
use Rattle.channel_core.specs.RunLaws.{CountsAnswers, SendsInOrder, is_answered, row_of, sent_of}
use Rattle.channel_core.specs.Runs.{Call, Issued, Run, after_call, after_calls, begun, closing, commanding, delivering, draining, ending, putting_out, sending, taking}
use Rattle.channel_core.proofs.Running.{all_counted, all_sent_in_order}
use Rattle.channel_laws.specs.Asking.{AsksNothingWaitsForNothing}
use Rattle.list_laws.proofs.Lists.{none_behind}

-- a call that is no command has none accepted
none_called : {T : Type 0} → (call : Call T) (calls : List (Call T)) (r : Run T) → list_any is_commanding (call ∷ calls) ≡ false → r.past.accepted ≡ []
    → ((after_call call r).past.accepted ≡ []) × (list_any is_commanding calls ≡ false)
none_called (delivering piece mark) calls r asks none = (none, asks)
none_called ending calls r asks none = (none, asks)
none_called taking calls r asks none = (none, asks)
none_called (commanding service name body tag mark) calls r asks none = absurd cc
none_called (sending message mark) calls r asks none = (none, asks)
none_called putting_out calls r asks none = (none, asks)
none_called closing calls r asks none = (none, asks)
none_called draining calls r asks none = (none, asks)

none_accepted : {T : Type 0} → (calls : List (Call T)) (r : Run T) → list_any is_commanding calls ≡ false → r.past.accepted ≡ [] → (after_calls calls r).past.accepted ≡ []
none_accepted [] r asks none = none
none_accepted (call ∷ calls) r asks none = let next = none_called call calls r asks none in none_accepted calls (after_call call r) next.1 next.0

pub all_wait_for_nothing : {T : Type 0} → AsksNothingWaitsForNothing T
all_wait_for_nothing {T = T} hello mark calls asks =
    let r = after_calls calls (begun (new_end {T = T} hello mark)) in
    let none : r.past.accepted ≡ [] = none_accepted calls (begun (new_end {T = T} hello mark)) asks refl in
    let counted : CountsAnswers r = all_counted hello mark calls in
    let ordered : SendsInOrder r = all_sent_in_order hello mark calls in
    record {
      pending = none_behind counted.drained r.end.pending (sym counted.pending ∙ ap (λ (xs : List (Issued T)). filter (λ (row : ℕ × T). not (is_answered r.past.taken row.0)) (map row_of xs)) none);
      held = none_behind (map (λ (i : Issued T). i.command) (sent_of r)) r.end.held (sym ordered.are_held ∙ ap (λ (xs : List (Issued T)). map (λ (i : Issued T). i.command) xs) none);
    }
