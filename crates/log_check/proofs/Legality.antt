-- Inputs, one by one, each of which can come after those before it.
use Rattle.std.proofs.Common.{◌≡◌, ℕ, ◌||◌, ◌&&◌, not, Bool, true, false, List, [], ◌∷◌, ◌++◌, refl, sym, ◌∙◌, ap, subst, append_assoc, append-nil, inl, inr, ◌⊎◌}
use Rattle.std.specs.Prelude.{◌↔◌}
use Rattle.std.specs.BTreeSet.{BTreeSet, contains}
use Rattle.std.specs.List.{list_any, AllByRecursion}
use Rattle.std.specs.Ordering.{nat_cmp}
use Rattle.std.proofs.lemmas.Bool.{false≢true}
use Rattle.std.proofs.lemmas.List.Folds.{list_any-append}
use Rattle.target_contexts.specs.declared.process.Image.{Image}
use Rattle.target_hub.specs.History.{IsAllowed, IsLegal, closes, input_after, inputs_after, is_live, opens, was_closed, was_opened}
use Rattle.target_hub.specs.HubValue.{HubValue, new_target, usable, TargetValue}
use Rattle.target_hub.specs.declared.input.Input.{Input}
use Rattle.target_hub.specs.declared.input.Input.TheVariants.{Opened, Executed, Ticked, Closed}
use Rattle.journal_text.specs.Inputs.{InputIsRead}
use Rattle.log_check.specs.Seen.{IsRunning, IsSeen, admits}
use Rattle.list_laws.proofs.Lists.{nothing_there}

pub or_nothing : (set : BTreeSet ℕ) (q : ℕ) → contains nat_cmp set q ≡ (contains nat_cmp set q || false)
or_nothing set q = by_flag (contains nat_cmp set q)
  where
    by_flag : (flag : Bool) → flag ≡ (flag || false)
    by_flag true = refl
    by_flag false = refl

-- ---- One input more

record IsLast (h before : List Input) (last input : Input) : Type 0 where
  pub same : h ≡ before
  pub is : last ≡ input

record IsWithin (h before : List Input) (input : Input) : Type 0 where
  pub rest : List Input
  pub is : h ≡ before ++ input ∷ rest

split_more : (h before : List Input) (last input : Input) (rest : List Input) → h ++ last ∷ [] ≡ before ++ input ∷ rest → IsLast h before last input ⊎ IsWithin h before input
split_more [] [] last input rest is = let first : last ≡ input = cc in inl (record { same = refl; is = first })
split_more [] (b ∷ []) last input rest is = absurd cc
split_more [] (b ∷ c ∷ before) last input rest is = absurd cc
split_more (x ∷ h) [] last input rest is = let first : x ≡ input = cc in inr (record { rest = h; is = ap (λ y. y ∷ h) first })
split_more (x ∷ h) (b ∷ before) last input rest is =
    let first : x ≡ b = cc in
    let others : h ++ last ∷ [] ≡ before ++ input ∷ rest = cc in
    elim (split_more h before last input rest others) [
      | inl l ↦ inl (record { same = ap (λ ys. x ∷ ys) l.same ∙ ap (λ y. y ∷ before) first; is = l.is })
      | inr w ↦ inr (record { rest = w.rest; is = ap (λ ys. x ∷ ys) w.is ∙ ap (λ y. y ∷ (before ++ input ∷ w.rest)) first })
    ]

legal_more : (images : List Image) (history : List Input) (last : Input) → IsLegal images history → IsAllowed history (inputs_after history (new_target images)) last → IsLegal images (history ++ last ∷ [])
legal_more images history last legal allowed before input rest is =
    elim (split_more history before last input rest is) [
      | inl l ↦ subst (λ h. IsAllowed h (inputs_after h (new_target images)) input) l.same (subst (λ i. IsAllowed history (inputs_after history (new_target images)) i) l.is allowed)
      | inr w ↦ legal before input w.rest w.is
    ]

pub after_more : (before : List Input) (input : Input) (target : TargetValue) → inputs_after (before ++ input ∷ []) target ≡ input_after input (inputs_after before target)
after_more [] input target = refl
after_more (b ∷ before) input target = after_more before input (input_after b target)

or_false : (a b : Bool) → (a || (b || false)) ≡ (a || b)
or_false true true = refl
or_false true false = refl
or_false false true = refl
or_false false false = refl

pub any_more : (f : Input → Bool) (before : List Input) (input : Input) → list_any f (before ++ input ∷ []) ≡ (list_any f before || f input)
any_more f before input = list_any-append f before (input ∷ []) ∙ or_false (list_any f before) (f input)

-- ---- Whether an input is allowed

not_true : (flag : Bool) → not flag ≡ true → flag ≡ false
not_true true e = absurd cc
not_true false e = refl

not_false : (flag : Bool) → flag ≡ false → not flag ≡ true
not_false true e = absurd cc
not_false false e = refl

pub allowed_by : (opened closed : BTreeSet ℕ) (before : List Input) (target : TargetValue) (input : Input)
    → IsSeen opened (λ k. was_opened k before) → IsSeen closed (λ k. was_closed k before) → InputIsRead input
    → ((admits opened closed input ≡ true) × IsRunning input target) ↔ IsAllowed before target input
allowed_by opened closed before target (Opened channel) o c read =
    ((λ p. sym (o channel) ∙ not_true (contains nat_cmp opened channel) p.0), (λ a. (not_false (contains nat_cmp opened channel) (o channel ∙ a), tt)))
allowed_by opened closed before target (Executed channel reading service name) o c read =
    let live : (contains nat_cmp opened channel && not (contains nat_cmp closed channel)) ≡ is_live channel before = ap (λ b. b && not (contains nat_cmp closed channel)) (o channel) ∙ ap (λ b. was_opened channel before && not b) (c channel) in
    ((λ p. (sym live ∙ p.0, read)), (λ a. (live ∙ a.0, tt)))
allowed_by opened closed before target (Ticked thread) o c read = ((λ p. p.1), (λ a. (refl, a)))
allowed_by opened closed before target (Closed channel) o c read =
    let live : (contains nat_cmp opened channel && not (contains nat_cmp closed channel)) ≡ is_live channel before = ap (λ b. b && not (contains nat_cmp closed channel)) (o channel) ∙ ap (λ b. was_opened channel before && not b) (c channel) in
    ((λ p. sym live ∙ p.0), (λ a. (live ∙ a, tt)))

-- ---- The inputs so far

-- so many inputs were done, and each was allowed
pub record LegalBefore (images : List Image) (inputs left : List Input) (opened closed : BTreeSet ℕ) (hub : HubValue) : Type 0 where
  pub before : List Input
  pub whole : inputs ≡ before ++ left
  pub seen_open : IsSeen opened (λ k. was_opened k before)
  pub seen_shut : IsSeen closed (λ k. was_closed k before)
  pub target : hub ≡ usable (inputs_after before (new_target images))
  pub legal : IsLegal images before
  pub read : AllByRecursion InputIsRead left

pub legal_first : (images : List Image) (inputs : List Input) (opened closed : BTreeSet ℕ) (hub : HubValue) → hub ≡ usable (new_target images) → IsSeen opened (λ k. false) → IsSeen closed (λ k. false)
    → AllByRecursion InputIsRead inputs → LegalBefore images inputs inputs opened closed hub
legal_first images inputs opened closed hub is o c read =
    record {
      before = [];
      whole = refl;
      seen_open = o;
      seen_shut = c;
      target = is;
      legal = λ before input rest e. absurd (nothing_there before rest input e);
      read = read;
    }

first_read : (left after : List Input) (input : Input) → left ≡ input ∷ after → AllByRecursion InputIsRead left → InputIsRead input × AllByRecursion InputIsRead after
first_read left after input is all = subst (AllByRecursion InputIsRead) is all

-- the target of the inputs so far
target_is : (images : List Image) (inputs left : List Input) (opened closed : BTreeSet ℕ) (hub : HubValue) (s : LegalBefore images inputs left opened closed hub)
    → hub.target ≡ inputs_after s.before (new_target images)
target_is images inputs left opened closed hub s = ap (λ (h : HubValue). h.target) s.target

allowed_here : (images : List Image) (inputs left after : List Input) (opened closed : BTreeSet ℕ) (hub : HubValue) (input : Input) (s : LegalBefore images inputs left opened closed hub)
    → left ≡ input ∷ after → ((admits opened closed input ≡ true) × IsRunning input hub.target) ↔ IsAllowed s.before (inputs_after s.before (new_target images)) input
allowed_here images inputs left after opened closed hub input s is =
    subst (λ t. ((admits opened closed input ≡ true) × IsRunning input t) ↔ IsAllowed s.before (inputs_after s.before (new_target images)) input) (sym (target_is images inputs left opened closed hub s))
    (allowed_by opened closed s.before (inputs_after s.before (new_target images)) input s.seen_open s.seen_shut (first_read left after input is s.read).0)

pub legal_next : (images : List Image) (inputs left after : List Input) (opened closed opened' closed' : BTreeSet ℕ) (hub hub' : HubValue) (input : Input) (runs : Bool)
    → LegalBefore images inputs left opened closed hub → left ≡ input ∷ after → admits opened closed input ≡ true → runs ≡ true → (runs ≡ true) ↔ IsRunning input hub.target
    → hub' ≡ usable (input_after input hub.target)
    → ((q : ℕ) → contains nat_cmp opened' q ≡ (contains nat_cmp opened q || opens q input)) → ((q : ℕ) → contains nat_cmp closed' q ≡ (contains nat_cmp closed q || closes q input))
    → LegalBefore images inputs after opened' closed' hub'
legal_next images inputs left after opened closed opened' closed' hub hub' input runs s is admitted is_set running next o c =
    record {
      before = s.before ++ input ∷ [];
      whole = s.whole ∙ (ap (λ l. s.before ++ l) is ∙ sym (append_assoc s.before (input ∷ []) after));
      seen_open = λ q. o q ∙ (ap (λ b. b || opens q input) (s.seen_open q) ∙ sym (any_more (opens q) s.before input));
      seen_shut = λ q. c q ∙ (ap (λ b. b || closes q input) (s.seen_shut q) ∙ sym (any_more (closes q) s.before input));
      target = next ∙ (ap (λ t. usable (input_after input t)) (target_is images inputs left opened closed hub s) ∙ ap usable (sym (after_more s.before input (new_target images))));
      legal = legal_more images s.before input s.legal ((allowed_here images inputs left after opened closed hub input s is).0 (admitted, running.0 is_set));
      read = (first_read left after input is s.read).1;
    }

no_flag : {A : Type 0} → (A → ⊥) → (false ≡ true) ↔ A
no_flag not = ((λ is. absurd (false≢true is)), (λ a. absurd (not a)))

not_allowed : (images : List Image) (inputs left after : List Input) (opened closed : BTreeSet ℕ) (hub : HubValue) (input : Input) (s : LegalBefore images inputs left opened closed hub)
    → left ≡ input ∷ after → IsLegal images inputs → (admits opened closed input ≡ true) × IsRunning input hub.target
not_allowed images inputs left after opened closed hub input s is legal =
    (allowed_here images inputs left after opened closed hub input s is).1 (legal s.before input after (s.whole ∙ ap (λ l. s.before ++ l) is))

-- its channel doesn't let the input come
pub legal_refused : (images : List Image) (inputs left after : List Input) (opened closed : BTreeSet ℕ) (hub : HubValue) (input : Input) → LegalBefore images inputs left opened closed hub
    → left ≡ input ∷ after → admits opened closed input ≡ false → (false ≡ true) ↔ IsLegal images inputs
legal_refused images inputs left after opened closed hub input s is refused =
    no_flag (λ legal. false≢true (sym refused ∙ (not_allowed images inputs left after opened closed hub input s is legal).0))

-- its thread doesn't run
pub legal_idle : (images : List Image) (inputs left after : List Input) (opened closed : BTreeSet ℕ) (hub : HubValue) (input : Input) (runs : Bool) → LegalBefore images inputs left opened closed hub
    → left ≡ input ∷ after → runs ≡ false → (runs ≡ true) ↔ IsRunning input hub.target → (false ≡ true) ↔ IsLegal images inputs
legal_idle images inputs left after opened closed hub input runs s is isnt running =
    no_flag (λ legal. false≢true (sym isnt ∙ running.1 (not_allowed images inputs left after opened closed hub input s is legal).1))

pub legal_last : (images : List Image) (inputs left : List Input) (opened closed : BTreeSet ℕ) (hub : HubValue) → LegalBefore images inputs left opened closed hub → left ≡ []
    → (true ≡ true) ↔ IsLegal images inputs
legal_last images inputs left opened closed hub s is =
    ((λ is_set. subst (IsLegal images) (sym (s.whole ∙ (ap (λ l. s.before ++ l) is ∙ append-nil s.before))) s.legal), (λ legal. refl))
