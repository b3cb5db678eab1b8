-- What the laws say of an end that closes by its own side: it was called so while it was open.
use Rattle.std.proofs.Common.{◌≡◌, ℕ, Bool, true, false, cond, inl, inr, List, [], ◌∷◌, ◌++◌, Option, Some, refl, sym, ap, ◌∙◌, subst}
use Rattle.std.specs.Prelude.{Contains}
use Rattle.std.specs.List.{list_any}
use Rattle.std.proofs.lemmas.Bool.{or_from}
use Rattle.std.proofs.lemmas.List.Elements.{Contains-push}
use Rattle.std.proofs.lemmas.List.Folds.{list_any-append}
use Rattle.channel_core.specs.Beginning.{new_end}
use Rattle.channel_core.specs.Closing.{closed_for, closed_own, is_closed}
use Rattle.channel_core.specs.EndValue.{EndValue}
use Rattle.channel_core.specs.Laws.{listed}
use Rattle.channel_core.specs.QueueLaws.{ClosesOnlySo}
use Rattle.channel_core.specs.ReceivingLaws.{EndsFor}
use Rattle.channel_core.specs.RunLaws.{StaysClosed}
use Rattle.channel_core.specs.Runs.{Call, Run, after_call, after_calls, begun, closing, commanding, delivering, draining, ending, putting_out, sending, taking}
use Rattle.channel_core.specs.Taking.{closes, next_taken}
use Rattle.channel_core.specs.declared.states.Cause.{Cause}
use Rattle.channel_core.specs.declared.states.Cause.TheVariants.{Own}
use Rattle.channel_core.specs.declared.states.EndState.TheVariants.{Closed as IsClosed}
use Rattle.channel_core.specs.declared.taking.Taken.{Taken}
use Rattle.channel_core.specs.declared.taking.Taken.TheVariants.{Closed}
use Rattle.channel_laws.specs.Faults.{is_closing}
use Rattle.chain_route.proofs.EndCalls.{calls_more}
use Rattle.channel_core.proofs.TheLaws.{stays_closed}
use Rattle.channel_laws.proofs.TheLaws.{ends_by_its_calls}

-- ---- An end whose side closed it is closed

own_closed : {T : Type 0} → (e : EndValue T) → is_closed (closed_own e).state ≡ true
own_closed {T = T} e = by_flag (is_closed e.state) refl
  where
    by_flag : (flag : Bool) → is_closed e.state ≡ flag → is_closed (cond flag e (closed_for Own e)).state ≡ true
    by_flag true is = is
    by_flag false is = refl

closed_called : {T : Type 0} → (calls : List (Call T)) (r : Run T) → ((more : List (Call T)) → StaysClosed (after_calls more r)) → list_any is_closing calls ≡ true → is_closed (after_calls calls r).end.state ≡ true
closed_called [] r stays is = absurd cc
closed_called (closing ∷ calls) r stays is = let closed = own_closed r.end in ap is_closed (stays (closing ∷ []) calls closed).state ∙ closed
closed_called (delivering piece mark ∷ calls) r stays is = closed_called calls (after_call (delivering piece mark) r) (λ more. stays (delivering piece mark ∷ more)) is
closed_called (ending ∷ calls) r stays is = closed_called calls (after_call ending r) (λ more. stays (ending ∷ more)) is
closed_called (taking ∷ calls) r stays is = closed_called calls (after_call taking r) (λ more. stays (taking ∷ more)) is
closed_called (commanding service name body tag mark ∷ calls) r stays is =
    closed_called calls (after_call (commanding service name body tag mark) r) (λ more. stays (commanding service name body tag mark ∷ more)) is
closed_called (sending message mark ∷ calls) r stays is = closed_called calls (after_call (sending message mark) r) (λ more. stays (sending message mark ∷ more)) is
closed_called (putting_out ∷ calls) r stays is = closed_called calls (after_call putting_out r) (λ more. stays (putting_out ∷ more)) is
closed_called (draining ∷ calls) r stays is = closed_called calls (after_call draining r) (λ more. stays (draining ∷ more)) is

-- ---- What an open end takes

module _ {T : Type 0} (services : List ℕ) (mark : Option ℕ) (calls : List (Call T)) where
  abbrev now : Run T
  now = after_calls calls (begun (new_end services mark))

  pub uncalled : is_closed now.end.state ≡ false → list_any is_closing calls ≡ false
  uncalled opened = by_flag (list_any is_closing calls) refl
    where
      by_flag : (flag : Bool) → list_any is_closing calls ≡ flag → list_any is_closing calls ≡ false
      by_flag true is = let closed : is_closed now.end.state ≡ true = closed_called calls (begun (new_end services mark)) (stays_closed services mark) is in absurd cc
      by_flag false is = is

  -- by what it takes it doesn't end by its own side
  not_own : is_closed now.end.state ≡ false → EndsFor (after_call taking now) Own → ⊥
  not_own opened ends_for =
      let more : after_calls (calls ++ taking ∷ []) (begun (new_end services mark)) ≡ after_call taking now = calls_more calls (taking ∷ []) (begun (new_end services mark)) in
      let some : list_any is_closing (calls ++ taking ∷ []) ≡ true = (ends_by_its_calls services mark (calls ++ taking ∷ [])).own (subst (λ (x : Run T). EndsFor x Own) (sym more) ends_for) in
      let none : list_any is_closing (calls ++ taking ∷ []) ≡ false = list_any-append is_closing calls (taking ∷ []) ∙ or_from (list_any is_closing calls) false (uncalled opened) refl in
      absurd cc

  pub takes_no_own : is_closed now.end.state ≡ false → (cause : Cause) → (next_taken now.end).0 ≡ Some (Closed cause) → cause ≡ Own → ⊥
  takes_no_own opened cause took is =
      let what : (next_taken now.end).0 ≡ Some (Closed Own) = took ∙ ap (λ c. Some (Closed c)) is in
      let among : Contains (now.past.taken ++ listed (next_taken now.end).0) (Closed Own) = subst (λ (x : Option (Taken T)). Contains (now.past.taken ++ listed x) (Closed Own)) (sym what) (Contains-push now.past.taken (Closed Own)) in
      not_own opened (inr (inr among))

  -- it is closed by the last entry that it takes, whatever is called then
  pub takes_closing : ClosesOnlySo now → is_closed now.end.state ≡ false → (cause : Cause) → (next_taken now.end).0 ≡ Some (Closed cause) → (rest : List (Call T)) → (after_calls (taking ∷ rest) now).end.state ≡ IsClosed Own → ⊥
  takes_closing only opened cause took rest own =
      let next = after_call taking now in
      let closed : is_closed next.end.state ≡ true = only.by_taking opened ∙ ap (λ (x : Option (Taken T)). closes x) took in
      let stays_so : StaysClosed next = subst (λ (x : Run T). StaysClosed x) (calls_more calls (taking ∷ []) (begun (new_end services mark))) (stays_closed services mark (calls ++ taking ∷ [])) in
      not_own opened (inr (inl (sym (stays_so rest closed).state ∙ own)))
