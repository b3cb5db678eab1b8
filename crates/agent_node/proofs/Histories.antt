-- One more input of a history.
use Rattle.std.proofs.Common.{◌≡◌, ℕ, ◌+◌, Bool, true, false, not, cond, ◌&&◌, ◌||◌, List, [], ◌∷◌, ◌++◌, length, refl, sym, ap, ◌∙◌, subst, inl, inr, ◌⊎◌, append_assoc, append-nil, length-append}
use Rattle.std.proofs.lemmas.Bool.{or_parts}
use Rattle.std.proofs.lemmas.List.Folds.{list_any-append}
use Rattle.target_contexts.specs.declared.process.Image.{Image}
use Rattle.target_hub.specs.History.{IsAllowed, IsLegal, closes, input_after, inputs_after, is_live, opens, was_closed, was_opened}
use Rattle.target_hub.specs.HubValue.{TargetValue, new_target}
use Rattle.target_hub.specs.Ordered.{OpensAt}
use Rattle.target_hub.specs.Sent.{Told, executed_by, executed_on, sent, sent_after, told_by, told_while_live}
use Rattle.target_hub.specs.declared.input.Input.{Input}
use Rattle.target_hub.specs.declared.input.Input.TheVariants.{Opened}
use Rattle.list_laws.proofs.Flags.{or_or_false, or_false}

-- ---- What it makes of the target

pub inputs_more : (before : List Input) (input : Input) (target : TargetValue) → inputs_after (before ++ input ∷ []) target ≡ input_after input (inputs_after before target)
inputs_more [] input target = refl
inputs_more (x ∷ before) input target = inputs_more before input (input_after x target)

-- ---- What was opened and closed

pub opened_more : (k : ℕ) (before : List Input) (input : Input) → was_opened k (before ++ input ∷ []) ≡ (was_opened k before || opens k input)
opened_more k before input = list_any-append (opens k) before (input ∷ []) ∙ or_or_false (was_opened k before) (opens k input)

pub closed_more : (k : ℕ) (before : List Input) (input : Input) → was_closed k (before ++ input ∷ []) ≡ (was_closed k before || closes k input)
closed_more k before input = list_any-append (closes k) before (input ∷ []) ∙ or_or_false (was_closed k before) (closes k input)

-- an input that neither opens nor closes it
pub live_same : (k : ℕ) (before : List Input) (input : Input) → opens k input ≡ false → closes k input ≡ false → is_live k (before ++ input ∷ []) ≡ is_live k before
live_same k before input opened shut =
    let first = opened_more k before input ∙ ap (λ b. was_opened k before || b) opened ∙ or_false (was_opened k before) in
    let second = closed_more k before input ∙ ap (λ b. was_closed k before || b) shut ∙ or_false (was_closed k before) in
    ap (λ b. b && not (was_closed k (before ++ input ∷ []))) first ∙ ap (λ b. was_opened k before && not b) second

-- it closes it
pub live_closed : (k : ℕ) (before : List Input) (input : Input) → closes k input ≡ true → is_live k (before ++ input ∷ []) ≡ false
live_closed k before input shut =
    let second = closed_more k before input ∙ ap (λ b. was_closed k before || b) shut in by_flags (was_opened k (before ++ input ∷ [])) (was_closed k before) (was_closed k (before ++ input ∷ [])) second
  where
    by_flags : (opened was now : Bool) → now ≡ (was || true) → (opened && not now) ≡ false
    by_flags true true now is = ap not is
    by_flags true false now is = ap not is
    by_flags false was now is = refl

-- ---- What it tells and executes

sent_after_more : (k : ℕ) (before : List Input) (target : TargetValue) (inputs : List Input) (input : Input)
    → sent_after k before target (inputs ++ input ∷ []) ≡ sent_after k before target inputs ++ told_while_live k (before ++ inputs) (inputs_after inputs target) input
sent_after_more k before target [] input =
    append-nil (told_while_live k before target input) ∙ ap (λ bs. told_while_live k bs target input) (sym (append-nil before))
sent_after_more k before target (x ∷ inputs) input =
    ap (λ ts. told_while_live k before target x ++ ts)
    (sent_after_more k (before ++ x ∷ []) (input_after x target) inputs input
    ∙ ap (λ bs. sent_after k (before ++ x ∷ []) (input_after x target) inputs ++ told_while_live k bs (inputs_after inputs (input_after x target)) input) (append_assoc before (x ∷ []) inputs))
    ∙ sym (append_assoc (told_while_live k before target x) (sent_after k (before ++ x ∷ []) (input_after x target) inputs) (told_while_live k (before ++ x ∷ inputs) (inputs_after inputs (input_after x target)) input))

pub sent_more : (images : List Image) (k : ℕ) (history : List Input) (input : Input)
    → sent images k (history ++ input ∷ []) ≡ sent images k history ++ told_while_live k history (inputs_after history (new_target images)) input
sent_more images k history input = sent_after_more k [] (new_target images) history input

pub executed_more : (k : ℕ) (history : List Input) (input : Input) → executed_on k (history ++ input ∷ []) ≡ executed_on k history ++ executed_by k input
executed_more k [] input = append-nil (executed_by k input)
executed_more k (x ∷ history) input =
    ap (λ cs. executed_by k x ++ cs) (executed_more k history input) ∙ sym (append_assoc (executed_by k x) (executed_on k history) (executed_by k input))

-- what a channel is told by an input, by whether it is live then
pub told_live : (k : ℕ) (before : List Input) (target : TargetValue) (input : Input) (told : List Told) (live : Bool) → is_live k (before ++ input ∷ []) ≡ live → told_by k (length before + 1) target input ≡ told
    → told_while_live k before target input ≡ cond live told []
told_live k before target input told live is same = ap (λ b. cond b (told_by k (length before + 1) target input) []) is ∙ ap (λ ts. cond live ts []) same

-- one that wasn't opened is told nothing
nothing_by : (opened shut : Bool) (told : List Told) → opened ≡ false → cond (opened && not shut) told [] ≡ []
nothing_by true shut told is = absurd cc
nothing_by false shut told is = refl

nothing_after : (k : ℕ) (before : List Input) (target : TargetValue) (inputs : List Input) → was_opened k (before ++ inputs) ≡ false → sent_after k before target inputs ≡ []
nothing_after k before target [] none = refl
nothing_after k before target (input ∷ inputs) none =
    let together : was_opened k ((before ++ input ∷ []) ++ inputs) ≡ false = ap (was_opened k) (append_assoc before (input ∷ []) inputs) ∙ none in
    let parts = or_parts (was_opened k (before ++ input ∷ [])) (was_opened k inputs) (sym (list_any-append (opens k) (before ++ input ∷ []) inputs) ∙ together) in
    ap (λ ts. ts ++ sent_after k (before ++ input ∷ []) (input_after input target) inputs)
    (nothing_by (was_opened k (before ++ input ∷ [])) (was_closed k (before ++ input ∷ [])) (told_by k (length before + 1) target input) parts.0)
    ∙ nothing_after k (before ++ input ∷ []) (input_after input target) inputs together

pub nothing_sent : (images : List Image) (k : ℕ) (history : List Input) → was_opened k history ≡ false → sent images k history ≡ []
nothing_sent images k history none = nothing_after k [] (new_target images) history none

-- ---- It is legal

pub record IsLast (h before : List Input) (last input : Input) : Type 0 where
  pub same : h ≡ before
  pub is : last ≡ input

pub record IsWithin (h before : List Input) (input : Input) : Type 0 where
  pub rest : List Input
  pub is : h ≡ before ++ input ∷ rest

split_more : (h before : List Input) (last input : Input) (rest : List Input) → h ++ last ∷ [] ≡ before ++ input ∷ rest → IsLast h before last input ⊎ IsWithin h before input
split_more [] [] last input rest is = let first : last ≡ input = cc in inl (record { same = refl; is = first })
split_more [] (b ∷ []) last input rest is = absurd cc
split_more [] (b ∷ c ∷ before) last input rest is = absurd cc
split_more (x ∷ h) [] last input rest is = let first : x ≡ input = cc in inr (record { rest = h; is = ap (λ y. y ∷ h) first })
split_more (x ∷ h) (b ∷ before) last input rest is =
    let first : x ≡ b = cc in
    let others : h ++ last ∷ [] ≡ before ++ input ∷ rest = cc in
    elim (split_more h before last input rest others) [
      | inl l ↦ inl (record { same = ap (λ ys. x ∷ ys) l.same ∙ ap (λ y. y ∷ before) first; is = l.is })
      | inr w ↦ inr (record { rest = w.rest; is = ap (λ ys. x ∷ ys) w.is ∙ ap (λ y. y ∷ (before ++ input ∷ w.rest)) first })
    ]

pub legal_more : (images : List Image) (history : List Input) (last : Input) → IsLegal images history → IsAllowed history (inputs_after history (new_target images)) last → IsLegal images (history ++ last ∷ [])
legal_more images history last legal allowed before input rest is =
    elim (split_more history before last input rest is) [
      | inl l ↦ subst (λ h. IsAllowed h (inputs_after h (new_target images)) input) l.same (subst (λ i. IsAllowed history (inputs_after history (new_target images)) i) l.is allowed)
      | inr w ↦ legal before input w.rest w.is
    ]

no_split : (before : List Input) (input : Input) (rest : List Input) → [] ≡ before ++ input ∷ rest → ⊥
no_split [] input rest is = cc
no_split (x ∷ before) input rest is = cc

pub legal_none : (images : List Image) → IsLegal images []
legal_none images before input rest is = absurd (no_split before input rest is)

-- ---- Where it opens a channel

pub opens_more : (history : List Input) (position k : ℕ) (input : Input) → OpensAt history position k → OpensAt (history ++ input ∷ []) position k
opens_more history position k input o = record {
  before = o.before;
  after = o.after ++ input ∷ [];
  split = ap (λ h. h ++ input ∷ []) o.split ∙ append_assoc o.before (Opened k ∷ o.after) (input ∷ []);
  place = o.place;
}

pub opens_last : (history : List Input) (k : ℕ) → OpensAt (history ++ Opened k ∷ []) (length history + 1) k
opens_last history k = record { before = history; after = []; split = refl; place = refl }

pub length_more : (history : List Input) (input : Input) → length (history ++ input ∷ []) ≡ length history + 1
length_more history input = length-append history (input ∷ [])
