-- Sets of numbers.
use Rattle.std.proofs.Common.{◌≡◌, ℕ, ◌==◌, ◌||◌, ◌&&◌, not, Bool, true, false, cond, List, [], ◌∷◌, length, refl, sym, ◌∙◌, ap, arith, inl, inr, Equal, Greater, Less}
use Rattle.std.specs.Prelude.{nat_lt}
use Rattle.std.specs.List.{list_any}
use Rattle.std.specs.BTreeSet.{BTreeSet, btree_set_len, contains, Updates}
use Rattle.std.specs.Ordering.{nat_cmp, is_eq}
use Rattle.std.proofs.lemmas.Bool.{cases_Bool, false≢true, ltb-true, ne_eqb, eq-eqb}

eq_by : (flag : Bool) → is_eq (cond flag Equal Greater) ≡ flag
eq_by true = refl
eq_by false = refl

same_number : (k q : ℕ) → is_eq (nat_cmp k q) ≡ (k == q)
same_number k q =
    elim (cases_Bool (nat_lt k q)) [
      | inl e ↦ ap (λ b. is_eq (cond b Less (cond (k == q) Equal Greater))) e ∙ sym (ne_eqb k q (λ is. let below = ltb-true k q e in omega (arith, is, below)))
      | inr e ↦ ap (λ b. is_eq (cond b Less (cond (k == q) Equal Greater))) e ∙ eq_by (k == q)
    ]

or_of : (b x : Bool) → cond b true x ≡ (x || b)
or_of true true = refl
or_of true false = refl
or_of false true = refl
or_of false false = refl

pub seen_more : (set new : BTreeSet ℕ) (number : ℕ) → Updates nat_cmp set new number true → (q : ℕ) → contains nat_cmp new q ≡ (contains nat_cmp set q || (number == q))
seen_more set new number updates q =
    updates.0 q ∙ (ap (λ b. cond b true (contains nat_cmp set q)) (same_number number q) ∙ or_of (number == q) (contains nat_cmp set q))

and_of : (b x : Bool) → cond b false x ≡ (x && not b)
and_of true true = refl
and_of true false = refl
and_of false true = refl
and_of false false = refl

pub seen_less : (set new : BTreeSet ℕ) (number : ℕ) → Updates nat_cmp set new number false → (q : ℕ) → contains nat_cmp new q ≡ (contains nat_cmp set q && not (number == q))
seen_less set new number updates q =
    updates.0 q ∙ (ap (λ b. cond b false (contains nat_cmp set q)) (same_number number q) ∙ and_of (number == q) (contains nat_cmp set q))

-- a set without a key has no number, and one that has no number has no key
none_in : (keys : List ℕ) → length keys ≡ 0 → (q : ℕ) → list_any (λ k. is_eq (nat_cmp q k)) keys ≡ false
none_in [] is q = refl
none_in (k ∷ keys) is q = absurd (omega (arith, is))

in_none : (keys : List ℕ) → ((q : ℕ) → list_any (λ k. is_eq (nat_cmp q k)) keys ≡ false) → length keys ≡ 0
in_none [] none = refl
in_none (k ∷ keys) none =
    absurd (false≢true (sym (none k) ∙ ap (λ b. b || list_any (λ q. is_eq (nat_cmp k q)) keys) (same_number k k ∙ eq-eqb k k refl)))

pub none_seen : (set : BTreeSet ℕ) → btree_set_len set ≡ 0 → (q : ℕ) → contains nat_cmp set q ≡ false
none_seen set is q = none_in set.keys is q

pub no_number : (set : BTreeSet ℕ) → ((q : ℕ) → contains nat_cmp set q ≡ false) → btree_set_len set ≡ 0
no_number set none = in_none set.keys none
