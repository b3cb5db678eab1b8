-- What a channel owns, while others command and go.
use Rattle.std.proofs.Common.{◌≡◌, ◌≢◌, ℕ, ◌==◌, Bool, true, false, cond, not, List, [], ◌∷◌, filter, refl, sym, ◌∙◌, ap, subst, eqb-true}
use Rattle.tcf_values.specs.declared.command.Command.{Command}
use Rattle.breakpoints.specs.declared.rows.Placed.{Placed}
use Rattle.breakpoints.specs.Changes.{after}
use Rattle.breakpoints.specs.Laws.{command}
use Rattle.breakpoints.specs.Rows.{others, owned_by}
use Rattle.breakpoints.proofs.TheLaws.{gone_owns_nothing}

none_by : {A : Type 0} → (b : Bool) (x : A) (xs fs gs : List A) → cond b (x ∷ fs) fs ≡ [] → (fs ≡ [] → gs ≡ xs) → cond (not b) (x ∷ gs) gs ≡ x ∷ xs
none_by true x xs fs gs none given = absurd cc
none_by false x xs fs gs none given = ap (λ ys. x ∷ ys) (given none)

-- where none passes a test, all fail it
none_pass : {A : Type 0} → (p : A → Bool) (xs : List A) → filter p xs ≡ [] → filter (λ x. not (p x)) xs ≡ xs
none_pass p [] none = refl
none_pass p (x ∷ xs) none = none_by (p x) x xs (filter p xs) (filter (λ y. not (p y)) xs) none (none_pass p xs)

rest_none : {A : Type 0} → (b : Bool) (x : A) (fs : List A) → cond b (x ∷ fs) fs ≡ [] → fs ≡ []
rest_none true x fs none = absurd cc
rest_none false x fs none = none

first_fails : {A : Type 0} → (b : Bool) (x : A) (fs : List A) → cond b (x ∷ fs) fs ≡ [] → b ≡ false
first_fails true x fs none = absurd cc
first_fails false x fs none = refl

part_by : {A : Type 0} → (p : A → Bool) (b : Bool) (x : A) (ys : List A) → p x ≡ false → filter p ys ≡ [] → filter p (cond b (x ∷ ys) ys) ≡ []
part_by p true x ys fails none = ap (λ c. cond c (x ∷ filter p ys) (filter p ys)) fails ∙ none
part_by p false x ys fails none = none

-- nor does one of a part
part_none : {A : Type 0} → (p q : A → Bool) (xs : List A) → filter p xs ≡ [] → filter p (filter q xs) ≡ []
part_none p q [] none = refl
part_none p q (x ∷ xs) none =
    part_by p (q x) x (filter q xs) (first_fails (p x) x (filter p xs) none) (part_none p q xs (rest_none (p x) x (filter p xs) none))

-- a command of another channel gives it nothing
pub silent_owns : (channel other : ℕ) (c : Command) (rows : List Placed) → other ≢ channel → owned_by channel rows ≡ [] → owned_by channel (after other c rows) ≡ []
silent_owns channel other c rows differ none =
    let same : others channel rows ≡ rows = none_pass (λ (row : Placed). row.channel == channel) rows none in
    subst (λ rs. owned_by channel (after other c rs) ≡ []) same (gone_owns_nothing channel rows (command other c ∷ []) (differ, tt))

-- nor does the going of one
pub going_owns : (channel other : ℕ) (rows : List Placed) → owned_by channel rows ≡ [] → owned_by channel (others other rows) ≡ []
going_owns channel other rows none = part_none (λ (row : Placed). row.channel == channel) (λ (row : Placed). not (row.channel == other)) rows none

-- its own going takes all
pub gone_owns : (channel other : ℕ) (rows : List Placed) → (other == channel) ≡ true → owned_by channel (others other rows) ≡ []
gone_owns channel other rows is =
    subst (λ (n : ℕ). owned_by channel (others n rows) ≡ []) (sym (eqb-true other channel is)) (gone_owns_nothing channel rows [] tt)
