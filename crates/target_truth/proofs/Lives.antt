-- Which channels are live after an input, and which part of a list a message stands in.
use Rattle.std.proofs.Common.{◌≡◌, ℕ, ◌==◌, ◌&&◌, ◌||◌, ◌⊎◌, Bool, true, false, true≢false, not, List, [], ◌∷◌, ◌++◌, inl, inr, refl, sym, ◌∙◌, ap, subst}
use Rattle.std.proofs.lemmas.Bool.{cases_Bool, cond-false, eqb-true}
use Rattle.std.proofs.lemmas.List.Folds.{list_any-append}
use Rattle.target_hub.specs.History.{IsAllowed, closes, is_live, opens, was_closed, was_opened}
use Rattle.target_hub.specs.Sent.{Told, executed_by}
use Rattle.target_hub.specs.declared.input.Input.{Input}
use Rattle.target_hub.specs.declared.input.Input.TheVariants.{Opened, Executed, Ticked, Closed}
use Rattle.run_control.specs.TargetValue.{TargetValue}

-- ---- live channels

live_after : (k : ℕ) (before : List Input) (input : Input)
    → is_live k (before ++ input ∷ []) ≡ ((was_opened k before || (opens k input || false)) && not (was_closed k before || (closes k input || false)))
live_after k before input =
    ap (λ o. o && not (was_closed k (before ++ input ∷ []))) (list_any-append (opens k) before (input ∷ []))
    ∙ ap (λ c. (was_opened k before || (opens k input || false)) && not c) (list_any-append (closes k) before (input ∷ []))

live_by : (opened opens closed closes : Bool) → opens ≡ false → ((opened || (opens || false)) && not (closed || (closes || false))) ≡ true → (opened && not closed) ≡ true
live_by opened true closed closes other is = absurd (true≢false other)
live_by true false true closes other is = absurd cc
live_by true false false closes other is = refl
live_by false false closed closes other is = absurd cc

-- a channel that is live after an input that doesn't open it was live before it
pub was_live : (k : ℕ) (before : List Input) (input : Input) → opens k input ≡ false → is_live k (before ++ input ∷ []) ≡ true → is_live k before ≡ true
was_live k before input other is =
    live_by (was_opened k before) (opens k input) (was_closed k before) (closes k input) other (sym (live_after k before input) ∙ is)

by_live : (opened opens closed closes : Bool) → closes ≡ false → (opened && not closed) ≡ true → ((opened || (opens || false)) && not (closed || (closes || false))) ≡ true
by_live opened opens closed true other is = absurd (true≢false other)
by_live true opens true false other is = absurd cc
by_live true opens false false other is = refl
by_live false opens closed false other is = absurd cc

stays_live : (k : ℕ) (before : List Input) (input : Input) → closes k input ≡ false → is_live k before ≡ true → is_live k (before ++ input ∷ []) ≡ true
stays_live k before input other is =
    live_after k before input ∙ by_live (was_opened k before) (opens k input) (was_closed k before) (closes k input) other is

-- a channel that isn't live after an input executes nothing by it
pub executes_none : (k : ℕ) (before : List Input) (target : TargetValue) (input : Input) → IsAllowed before target input → is_live k (before ++ input ∷ []) ≡ false
    → executed_by k input ≡ []
executes_none k before target (Opened channel) allowed gone = refl
executes_none k before target (Executed channel reading service name) allowed gone =
    elim (cases_Bool (channel == k)) [
      | inl own ↦
          let lives : is_live k before ≡ true = subst (λ n. is_live n before ≡ true) (eqb-true channel k own) allowed.0 in
          absurd (true≢false (sym (stays_live k before (Executed channel reading service name) refl lives) ∙ gone))
      | inr other ↦ cond-false _ _ _ other
    ]
executes_none k before target (Ticked thread) allowed gone = refl
executes_none k before target (Closed channel) allowed gone = refl

-- ---- a message of two lists

pub nowhere : (front rest : List Told) (last : Told) → [] ≡ front ++ last ∷ rest → ⊥
nowhere [] rest last is = cc
nowhere (told ∷ front) rest last is = cc

pub in_part : (some more front rest : List Told) (last : Told) → some ++ more ≡ front ++ last ∷ rest
    → ((left : List Told) × (some ≡ front ++ last ∷ left) × (left ++ more ≡ rest)) ⊎ ((later : List Told) × (front ≡ some ++ later) × (more ≡ later ++ last ∷ rest))
in_part [] more front rest last is = inr (front, refl, is)
in_part (told ∷ some) more [] rest last is = inl (some, cc, cc)
in_part (told ∷ some) more (first ∷ front) rest last is =
    let tails : some ++ more ≡ front ++ last ∷ rest = cc in
    elim (in_part some more front rest last tails) [
      | inl found ↦ let there = found.1 in inl (found.0, cc, found.2)
      | inr found ↦ let there = found.1 in inr (found.0, cc, found.2)
    ]
