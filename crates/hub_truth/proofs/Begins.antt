-- What a legal history tells a channel begins with its Hello.
use Rattle.std.proofs.Common.{◌≡◌, ℕ, ◌+◌, ◌==◌, Bool, true, false, not, cond, ◌||◌, ◌&&◌, List, [], ◌∷◌, ◌++◌, length, refl, sym, ap, ap₂, subst, ◌∙◌, append_assoc, eqb-true}
use Rattle.std.proofs.lemmas.List.Folds.{list_any-append}
use Rattle.list_laws.proofs.Flags.{and_first, not_both, or_or_false}
use Rattle.target_contexts.specs.declared.process.Image.{Image}
use Rattle.target_hub.specs.History.{IsAllowed, IsLegal, closes, input_after, inputs_after, is_live, opens, was_closed, was_opened}
use Rattle.target_hub.specs.HubValue.{new_target}
use Rattle.target_hub.specs.Sent.{Told, agent_services, hello_at, sent, sent_after, told_by}
use Rattle.target_hub.specs.declared.input.Input.{Input}
use Rattle.target_hub.specs.declared.input.Input.TheVariants.{Opened, Executed, Ticked, Closed}
use Rattle.run_control.specs.TargetValue.{TargetValue}

-- nothing, or a Hello and more
pub data Begins (told : List Told) : Type 0 where
  nothing_told : (none : told ≡ []) → Begins told
  hello_told : (position : ℕ) (body : List ℕ) (rest : List Told) (is : told ≡ hello_at position body ∷ rest) → Begins told

opened_push : (k : ℕ) (before : List Input) (input : Input) → was_opened k (before ++ input ∷ []) ≡ (was_opened k before || opens k input)
opened_push k before input = list_any-append (opens k) before (input ∷ []) ∙ or_or_false (was_opened k before) (opens k input)

closed_push : (k : ℕ) (before : List Input) (input : Input) → was_closed k (before ++ input ∷ []) ≡ (was_closed k before || closes k input)
closed_push k before input = list_any-append (closes k) before (input ∷ []) ∙ or_or_false (was_closed k before) (closes k input)

-- a channel that wasn't opened isn't closed
closes_not : (k : ℕ) (before : List Input) (target : TargetValue) (input : Input) → IsAllowed before target input → was_opened k before ≡ false → closes k input ≡ false
closes_not k before target (Opened channel) allowed none = refl
closes_not k before target (Executed channel reading service name) allowed none = refl
closes_not k before target (Ticked thread) allowed none = refl
closes_not k before target (Closed channel) allowed none = by_flag (channel == k) refl
  where
    by_flag : (flag : Bool) → (channel == k) ≡ flag → flag ≡ false
    by_flag false is = refl
    by_flag true is =
        absurd (not_both (and_first (was_opened channel before) (not (was_closed channel before)) allowed) (subst (λ n. was_opened n before ≡ false) (sym (eqb-true channel k is)) none))

-- one input more, by whether it opens the channel
silent : (k position : ℕ) (target : TargetValue) (input : Input) (live : Bool) → live ≡ false → cond live (told_by k position target input) [] ≡ []
silent k position target input live is = ap (λ b. cond b (told_by k position target input) []) is

hello_first : (k position channel : ℕ) (live : Bool) → live ≡ true → (channel == k) ≡ true → cond live (cond (channel == k) (hello_at position agent_services ∷ []) []) [] ≡ hello_at position agent_services ∷ []
hello_first k position channel live is own = ap (λ b. cond b (cond (channel == k) (hello_at position agent_services ∷ []) []) []) is ∙ ap (λ b. cond b (hello_at position agent_services ∷ []) []) own

opening : (k : ℕ) (input : Input) → opens k input ≡ true → (channel : ℕ) × (input ≡ Opened channel) × ((channel == k) ≡ true)
opening k (Opened channel) is = (channel, refl, is)
opening k (Executed channel reading service name) is = absurd cc
opening k (Ticked thread) is = absurd cc
opening k (Closed channel) is = absurd cc

more_inputs : (before : List Input) (input : Input) (target : TargetValue) → inputs_after (before ++ input ∷ []) target ≡ input_after input (inputs_after before target)
more_inputs [] input target = refl
more_inputs (first ∷ before) input target = more_inputs before input (input_after first target)

begins_after : (k : ℕ) (images : List Image) (history before inputs : List Input) → IsLegal images history → history ≡ before ++ inputs → was_opened k before ≡ false → was_closed k before ≡ false
    → Begins (sent_after k before (inputs_after before (new_target images)) inputs)
begins_after k images history before [] legal parts unopened unclosed = nothing_told refl
begins_after k images history before (input ∷ inputs) legal parts unopened unclosed =
    by_flag (opens k input) refl (begins_after k images history (before ++ input ∷ []) inputs legal (parts ∙ sym (append_assoc before (input ∷ []) inputs)))
  where
    target : TargetValue
    target = inputs_after before (new_target images)

    position : ℕ
    position = length before + 1

    live : Bool
    live = is_live k (before ++ input ∷ [])

    more : List Told
    more = sent_after k (before ++ input ∷ []) (input_after input target) inputs

    shut : was_closed k (before ++ input ∷ []) ≡ false
    shut = closed_push k before input ∙ ap₂ (λ a b. a || b) unclosed (closes_not k before target input (legal before input inputs parts) unopened)

    target_so : inputs_after (before ++ input ∷ []) (new_target images) ≡ input_after input target
    target_so = more_inputs before input (new_target images)

    by_flag : (flag : Bool) → opens k input ≡ flag
        → (was_opened k (before ++ input ∷ []) ≡ false → was_closed k (before ++ input ∷ []) ≡ false → Begins (sent_after k (before ++ input ∷ []) (inputs_after (before ++ input ∷ []) (new_target images)) inputs))
        → Begins (cond live (told_by k position target input) [] ++ more)
    by_flag true is rest =
        let o = opening k input is in
        let now : live ≡ true = ap₂ (λ a b. a && not b) (opened_push k before input ∙ ap₂ (λ a b. a || b) unopened is) shut in
        hello_told position agent_services more
        (ap (λ (i : Input). cond live (told_by k position target i) [] ++ more) o.1 ∙ ap (λ ts. ts ++ more) (hello_first k position o.0 live now o.2))
    by_flag false isnt rest =
        let still : was_opened k (before ++ input ∷ []) ≡ false = opened_push k before input ∙ ap₂ (λ a b. a || b) unopened isnt in
        let off : live ≡ false = ap (λ b. b && not (was_closed k (before ++ input ∷ []))) still in
        subst Begins (sym (ap (λ ts. ts ++ more) (silent k position target input live off)))
        (subst (λ (t : TargetValue). Begins (sent_after k (before ++ input ∷ []) t inputs)) target_so (rest still shut))

pub begins : (images : List Image) (history : List Input) (k : ℕ) → IsLegal images history → Begins (sent images k history)
begins images history k legal = begins_after k images history [] history legal refl refl refl
