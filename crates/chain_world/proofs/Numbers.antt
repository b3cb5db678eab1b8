-- The numbers of the channels of chains: no two are the same, and the next one is new.
use Rattle.std.proofs.Common.{◌≡◌, ℕ, zero, suc, ◌+◌, ◌<◌, List, [], ◌∷◌, ◌++◌, Some, refl, sym, ap, ◌∙◌, subst, arith, inl, inr, ◌⊎◌}
use Rattle.std.specs.Prelude.{slice_get, slice_set}
use Rattle.std.specs.List.{AllByRecursion, Contains, flat_map}
use Rattle.std.proofs.lemmas.List.Elements.{All-contains, All-from_recursion, Contains-append_cases, Contains-append_left, Contains-append_right, Contains-push, Contains-push_cases}
use Rattle.chain_world.specs.Chain.{channels_of}
use Rattle.chain_world.specs.ChainValue.{ChainValue}
use Rattle.chain_world.specs.Standing.{AllDiffer}
use Rattle.list_laws.proofs.Contained.{contains_first, contains_cases, none_in}
use Rattle.list_laws.proofs.AllLists.{all_contained}

-- ---- What a list contains

pub later : {A : Type 0} → (x : A) (xs : List A) (y : A) → Contains xs y → Contains (x ∷ xs) y
later x xs y c = Contains-append_right (x ∷ []) xs y c

one_only : {A : Type 0} → (x y : A) → Contains (x ∷ []) y → x ≡ y
one_only x y c = elim (Contains-push_cases [] x y c) as (λ _. x ≡ y) [
  | inl none ↦ absurd (none_in y none)
  | inr same ↦ same
]

pub each_all : {A : Type 0} → (P : A → Type 0) (xs : List A) → AllByRecursion P xs → (x : A) → Contains xs x → P x
each_all P xs all x c = All-contains P xs x (All-from_recursion P xs all) c

-- ---- Two lists that differ

abbrev pub AreApart : List ℕ → List ℕ → Type 0
AreApart xs ys = (k : ℕ) → Contains xs k → Contains ys k → ⊥

pub record DifferBoth (xs ys : List ℕ) : Type 0 where
  pub first : AllDiffer xs
  pub second : AllDiffer ys
  pub apart : AreApart xs ys

pub differ_parts : (xs ys : List ℕ) → AllDiffer (xs ++ ys) → DifferBoth xs ys
differ_parts [] ys differ = record { first = tt; second = differ; apart = λ k one other. none_in k one }
differ_parts (x ∷ xs) ys differ =
    let rest = differ_parts xs ys differ.1 in
    record {
      first = (λ c. differ.0 (Contains-append_left xs ys x c), rest.first);
      second = rest.second;
      apart = λ k one other. elim (contains_cases x xs k one) as (λ _. ⊥) [
        | inl same ↦ differ.0 (Contains-append_right xs ys x (subst (Contains ys) (sym same) other))
        | inr more ↦ rest.apart k more other
      ];
    }

pub differ_join : (xs ys : List ℕ) → AllDiffer xs → AllDiffer ys → AreApart xs ys → AllDiffer (xs ++ ys)
differ_join [] ys first second apart = second
differ_join (x ∷ xs) ys first second apart = (
  λ c. elim (Contains-append_cases xs ys x c) as (λ _. ⊥) [
    | inl one ↦ first.0 one
    | inr other ↦ apart x (contains_first x xs) other
  ],
  differ_join xs ys first.1 second (λ k one other. apart k (later x xs k one) other),
)

-- ---- The channels of chains

abbrev pub all_channels : List ChainValue → List ℕ
all_channels chains = flat_map channels_of chains

pub at_contains : (chains : List ChainValue) (at : ℕ) (c : ChainValue) (k : ℕ) → slice_get chains at ≡ Some c → Contains (channels_of c) k → Contains (all_channels chains) k
at_contains [] at c k is has = absurd cc
at_contains (x ∷ chains) zero c k is has =
    let same : x ≡ c = cc in Contains-append_left (channels_of x) (all_channels chains) k (subst (λ y. Contains (channels_of y) k) (sym same) has)
at_contains (x ∷ chains) (suc at) c k is has = Contains-append_right (channels_of x) (all_channels chains) k (at_contains chains at c k is has)

pub at_differ : (chains : List ChainValue) (at : ℕ) (c : ChainValue) → slice_get chains at ≡ Some c → AllDiffer (all_channels chains) → AllDiffer (channels_of c)
at_differ [] at c is differ = absurd cc
at_differ (x ∷ chains) zero c is differ = let same : x ≡ c = cc in subst (λ y. AllDiffer (channels_of y)) same (differ_parts (channels_of x) (all_channels chains) differ).first
at_differ (x ∷ chains) (suc at) c is differ = at_differ chains at c is (differ_parts (channels_of x) (all_channels chains) differ).second

pub set_channels : (chains : List ChainValue) (at : ℕ) (c next : ChainValue) → slice_get chains at ≡ Some c → channels_of next ≡ channels_of c → all_channels (slice_set chains at next) ≡ all_channels chains
set_channels [] at c next is same = refl
set_channels (x ∷ chains) zero c next is same = let first : x ≡ c = cc in ap (λ ks. ks ++ all_channels chains) (same ∙ ap channels_of (sym first))
set_channels (x ∷ chains) (suc at) c next is same = ap (λ ks. channels_of x ++ ks) (set_channels chains at c next is same)

-- ---- A chain has one channel more

module _ (k : ℕ) where
  abbrev pub HasMore : ChainValue → ChainValue → Type 0
  HasMore c next = channels_of next ≡ channels_of c ++ k ∷ []

  pub set_contains : (chains : List ChainValue) (at : ℕ) (c next : ChainValue) (j : ℕ) → slice_get chains at ≡ Some c → HasMore c next → Contains (all_channels chains) j → Contains (all_channels (slice_set chains at next)) j
  set_contains [] at c next j is more has = has
  set_contains (x ∷ chains) zero c next j is more has =
      let same : x ≡ c = cc in
      elim (Contains-append_cases (channels_of x) (all_channels chains) j has) as (λ _. Contains (all_channels (next ∷ chains)) j) [
        | inl one ↦ Contains-append_left (channels_of next) (all_channels chains) j
            (subst (λ ks. Contains ks j) (sym more) (Contains-append_left (channels_of c) (k ∷ []) j (subst (λ y. Contains (channels_of y) j) same one)))
        | inr rest ↦ Contains-append_right (channels_of next) (all_channels chains) j rest
      ]
  set_contains (x ∷ chains) (suc at) c next j is more has =
      elim (Contains-append_cases (channels_of x) (all_channels chains) j has) as (λ _. Contains (all_channels (x ∷ slice_set chains at next)) j) [
        | inl one ↦ Contains-append_left (channels_of x) (all_channels (slice_set chains at next)) j one
        | inr rest ↦ Contains-append_right (channels_of x) (all_channels (slice_set chains at next)) j (set_contains chains at c next j is more rest)
      ]

  pub set_new : (chains : List ChainValue) (at : ℕ) (c next : ChainValue) → slice_get chains at ≡ Some c → HasMore c next → Contains (all_channels (slice_set chains at next)) k
  set_new [] at c next is more = absurd cc
  set_new (x ∷ chains) zero c next is more =
      Contains-append_left (channels_of next) (all_channels chains) k (subst (λ ks. Contains ks k) (sym more) (Contains-push (channels_of c) k))
  set_new (x ∷ chains) (suc at) c next is more = Contains-append_right (channels_of x) (all_channels (slice_set chains at next)) k (set_new chains at c next is more)

  -- and nothing else is in it
  pub set_cases : (chains : List ChainValue) (at : ℕ) (c next : ChainValue) (j : ℕ) → slice_get chains at ≡ Some c → HasMore c next → Contains (all_channels (slice_set chains at next)) j
      → Contains (all_channels chains) j ⊎ (k ≡ j)
  set_cases [] at c next j is more has = absurd (none_in j has)
  set_cases (x ∷ chains) zero c next j is more has =
      let same : x ≡ c = cc in
      elim (Contains-append_cases (channels_of next) (all_channels chains) j has) as (λ _. Contains (all_channels (x ∷ chains)) j ⊎ (k ≡ j)) [
        | inl one ↦ elim (Contains-push_cases (channels_of c) k j (subst (λ ks. Contains ks j) more one)) as (λ _. Contains (all_channels (x ∷ chains)) j ⊎ (k ≡ j)) [
          | inl old ↦ inl (Contains-append_left (channels_of x) (all_channels chains) j (subst (λ y. Contains (channels_of y) j) (sym same) old))
          | inr new ↦ inr new
        ]
        | inr rest ↦ inl (Contains-append_right (channels_of x) (all_channels chains) j rest)
      ]
  set_cases (x ∷ chains) (suc at) c next j is more has =
      elim (Contains-append_cases (channels_of x) (all_channels (slice_set chains at next)) j has) as (λ _. Contains (all_channels (x ∷ chains)) j ⊎ (k ≡ j)) [
        | inl one ↦ inl (Contains-append_left (channels_of x) (all_channels chains) j one)
        | inr rest ↦ elim (set_cases chains at c next j is more rest) as (λ _. Contains (all_channels (x ∷ chains)) j ⊎ (k ≡ j)) [
          | inl old ↦ inl (Contains-append_right (channels_of x) (all_channels chains) j old)
          | inr new ↦ inr new
        ]
      ]

  -- the number is above all that there were
  below_apart : (ks : List ℕ) → AllByRecursion (λ j. j < k) ks → Contains ks k → ⊥
  below_apart ks below has = let less : k < k = each_all (λ j. j < k) ks below k has in absurd (omega (arith, less))

  first_below : (x : ChainValue) (chains : List ChainValue) → AllByRecursion (λ j. j < k) (all_channels (x ∷ chains)) → AllByRecursion (λ j. j < k) (channels_of x)
  first_below x chains below = all_contained (λ j. j < k) (channels_of x) (λ j has. each_all (λ j. j < k) (all_channels (x ∷ chains)) below j (Contains-append_left (channels_of x) (all_channels chains) j has))

  rest_below : (x : ChainValue) (chains : List ChainValue) → AllByRecursion (λ j. j < k) (all_channels (x ∷ chains)) → AllByRecursion (λ j. j < k) (all_channels chains)
  rest_below x chains below = all_contained (λ j. j < k) (all_channels chains) (λ j has. each_all (λ j. j < k) (all_channels (x ∷ chains)) below j (Contains-append_right (channels_of x) (all_channels chains) j has))

  more_differ : (ks : List ℕ) → AllByRecursion (λ j. j < k) ks → AllDiffer ks → AllDiffer (ks ++ k ∷ [])
  more_differ ks below differ =
      differ_join ks (k ∷ []) differ (λ c. none_in k c, tt) (λ j one other. below_apart ks below (subst (Contains ks) (sym (one_only k j other)) one))

  pub set_differ : (chains : List ChainValue) (at : ℕ) (c next : ChainValue) → slice_get chains at ≡ Some c → HasMore c next → AllByRecursion (λ j. j < k) (all_channels chains)
      → AllDiffer (all_channels chains) → AllDiffer (all_channels (slice_set chains at next))
  set_differ [] at c next is more below differ = differ
  set_differ (x ∷ chains) zero c next is more below differ =
      let same : x ≡ c = cc in
      let parts = differ_parts (channels_of x) (all_channels chains) differ in
      let all : AllDiffer (channels_of x ++ k ∷ []) = more_differ (channels_of x) (first_below x chains below) parts.first in
      let is_more : channels_of next ≡ channels_of x ++ k ∷ [] = more ∙ ap (λ y. channels_of y ++ k ∷ []) (sym same) in
      differ_join (channels_of next) (all_channels chains) (subst AllDiffer (sym is_more) all) parts.second
      (λ j one other. elim (Contains-push_cases (channels_of x) k j (subst (λ ks. Contains ks j) is_more one)) as (λ _. ⊥) [
        | inl old ↦ parts.apart j old other
        | inr new ↦ below_apart (all_channels chains) (rest_below x chains below) (subst (Contains (all_channels chains)) (sym new) other)
      ])
  set_differ (x ∷ chains) (suc at) c next is more below differ =
      let parts = differ_parts (channels_of x) (all_channels chains) differ in
      differ_join (channels_of x) (all_channels (slice_set chains at next)) parts.first (set_differ chains at c next is more (rest_below x chains below) parts.second)
      (λ j one other. elim (set_cases chains at c next j is more other) as (λ _. ⊥) [
        | inl old ↦ parts.apart j one old
        | inr new ↦ below_apart (channels_of x) (first_below x chains below) (subst (Contains (channels_of x)) (sym new) one)
      ])

  pub set_below : (chains : List ChainValue) (at : ℕ) (c next : ChainValue) → slice_get chains at ≡ Some c → HasMore c next → AllByRecursion (λ j. j < k) (all_channels chains)
      → AllByRecursion (λ j. j < k + 1) (all_channels (slice_set chains at next))
  set_below chains at c next is more below =
      all_contained (λ j. j < k + 1) (all_channels (slice_set chains at next))
      (λ j has. elim (set_cases chains at c next j is more has) as (λ _. j < k + 1) [
        | inl old ↦ up (each_all (λ i. i < k) (all_channels chains) below j old)
        | inr new ↦ equal new
      ])
    where
      up : {j : ℕ} → j < k → j < k + 1
      up less = omega (arith, less)

      equal : {j : ℕ} → k ≡ j → j < k + 1
      equal same = omega (arith, same)
