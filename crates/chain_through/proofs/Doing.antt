-- What a bound value-add does: the commands that it was asked and sent, until it first answers one from its store and behind that.
use Rattle.std.proofs.Common.{◌≡◌, ℕ, ◌+◌, ◌≤◌, Bool, true, inl, inr, List, [], ◌∷◌, ◌++◌, length, map, refl, sym, ap, ◌∙◌, subst, arith, append_assoc}
use Rattle.std.specs.List.{AllByRecursion}
use Rattle.list_laws.specs.Fronts.{IsFront}
use Rattle.value_node.specs.Asked.{Asked}
use Rattle.value_node.specs.Deeds.{Deed, answers, asked_in, forwards, hears, sent_in}
use Rattle.chain_told.specs.Told.{is_storable, numbered}
use Rattle.chain_told.specs.TellsOn.{IsWithoutSome}
use Rattle.chain_through.specs.Through.{content, is_storable_content}

-- ---- The commands that were sent are among those that were asked

pub all_sent : (P : Asked → Type 0) (deeds : List Deed) → AllByRecursion P (asked_in deeds) → AllByRecursion P (sent_in deeds)
all_sent P [] each = tt
all_sent P (forwards c ∷ deeds) each = (each.0, all_sent P deeds each.1)
all_sent P (answers c reply mark ∷ deeds) each = all_sent P deeds each.1
all_sent P (hears incoming ∷ deeds) each = all_sent P deeds each

pub few_sent : (deeds : List Deed) → length (sent_in deeds) ≤ length (asked_in deeds)
few_sent [] = omega arith
few_sent (forwards c ∷ deeds) = let few = few_sent deeds in omega arith
few_sent (answers c reply mark ∷ deeds) = let few = few_sent deeds in omega arith
few_sent (hears incoming ∷ deeds) = few_sent deeds

pub content_numbered : (n : ℕ) (commands : List Asked) → map content (numbered n commands) ≡ map content commands
content_numbered n [] = refl
content_numbered n (c ∷ commands) = ap (λ xs. content c ∷ xs) (content_numbered (n + 1) commands)

-- ---- Until the first answer from the store

abbrev pub IsNoAnswer : Deed → Type 0
IsNoAnswer (forwards c) = Unit {0}
IsNoAnswer (answers c reply mark) = ⊥
IsNoAnswer (hears incoming) = Unit {0}

-- they begin with an answer, or there are none
abbrev pub AnswersFirst : List Deed → Type 0
AnswersFirst [] = Unit {0}
AnswersFirst (forwards c ∷ deeds) = ⊥
AnswersFirst (answers c reply mark ∷ deeds) = Unit {0}
AnswersFirst (hears incoming ∷ deeds) = ⊥

pub record AreFirst (deeds : List Deed) : Type 0 where
  pub first : List Deed
  pub others : List Deed
  pub are : deeds ≡ first ++ others
  pub free : AllByRecursion IsNoAnswer first
  pub then : AnswersFirst others

first_more : (deed : Deed) (deeds : List Deed) → IsNoAnswer deed → AreFirst deeds → AreFirst (deed ∷ deeds)
first_more deed deeds none p = record { first = deed ∷ p.first; others = p.others; are = ap (λ ds. deed ∷ ds) p.are; free = (none, p.free); then = p.then }

pub until_answer : (deeds : List Deed) → AreFirst deeds
until_answer [] = record { first = []; others = []; are = refl; free = tt; then = tt }
until_answer (forwards c ∷ deeds) = first_more (forwards c) deeds tt (until_answer deeds)
until_answer (answers c reply mark ∷ deeds) = record { first = []; others = answers c reply mark ∷ deeds; are = refl; free = tt; then = tt }
until_answer (hears incoming ∷ deeds) = first_more (hears incoming) deeds tt (until_answer deeds)

pub free_same : (deeds : List Deed) → AllByRecursion IsNoAnswer deeds → sent_in deeds ≡ asked_in deeds
free_same [] free = refl
free_same (forwards c ∷ deeds) free = ap (λ cs. c ∷ cs) (free_same deeds free.1)
free_same (answers c reply mark ∷ deeds) free = absurd free.0
free_same (hears incoming ∷ deeds) free = free_same deeds free.1

-- ---- A list without some of its elements

pub without_same : {A : Type 0} → (kind : A → Bool) (xs : List A) → IsWithoutSome kind xs xs
without_same kind [] = tt
without_same kind (x ∷ xs) = inl (refl, without_same kind xs)

pub without_one : {A : Type 0} → (kind : A → Bool) (xs ys : List A) (y : A) → kind y ≡ true → IsWithoutSome kind xs ys → IsWithoutSome kind xs (y ∷ ys)
without_one kind [] ys y is w = (is, w)
without_one kind (x ∷ xs) ys y is w = inr (is, w)

pub without_behind : {A : Type 0} → (kind : A → Bool) (first xs ys : List A) → IsWithoutSome kind xs ys → IsWithoutSome kind (first ++ xs) (first ++ ys)
without_behind kind [] xs ys w = w
without_behind kind (x ∷ first) xs ys w = inl (refl, without_behind kind first xs ys w)

pub without_then : {A : Type 0} → (kind : A → Bool) (xs ys zs : List A) → IsWithoutSome kind xs ys → IsWithoutSome kind ys zs → IsWithoutSome kind xs zs
without_then kind [] [] [] one two = tt
without_then kind (x ∷ xs) [] zs one two = absurd one
without_then kind xs (y ∷ ys) [] one two = absurd two
without_then kind [] [] (z ∷ zs) one two = two
without_then kind [] (y ∷ ys) (z ∷ zs) one (inl both) = (subst (λ a. kind a ≡ true) both.0 one.0, without_then kind [] ys zs one.1 both.1)
without_then kind [] (y ∷ ys) (z ∷ zs) one (inr both) = (both.0, without_then kind [] (y ∷ ys) zs one both.1)
without_then kind (x ∷ xs) (y ∷ ys) (z ∷ zs) (inl here) (inl both) = inl (here.0 ∙ both.0, without_then kind xs ys zs here.1 both.1)
without_then kind (x ∷ xs) (y ∷ ys) (z ∷ zs) (inr here) (inl both) = inr (subst (λ a. kind a ≡ true) both.0 here.0, without_then kind (x ∷ xs) ys zs here.1 both.1)
without_then kind (x ∷ xs) (y ∷ ys) (z ∷ zs) one (inr both) = inr (both.0, without_then kind (x ∷ xs) (y ∷ ys) zs one both.1)

-- a front of it is a front without some
pub record IsFrontOf {A : Type 0} (kind : A → Bool) (front ys : List A) : Type 0 where
  pub all : List A
  pub is_front : IsFront all ys
  pub without : IsWithoutSome kind front all

front_one : {A : Type 0} → (kind : A → Bool) (front next ys : List A) (y : A) (p : IsFrontOf kind front ys) → ((all : List A) → IsWithoutSome kind front all → IsWithoutSome kind next (y ∷ all)) → IsFrontOf kind next (y ∷ ys)
front_one kind front next ys y p grows = record { all = y ∷ p.all; is_front = (p.is_front.0, ap (λ l. y ∷ l) p.is_front.1); without = grows p.all p.without }

pub without_front : {A : Type 0} → (kind : A → Bool) (front more ys : List A) → IsWithoutSome kind (front ++ more) ys → IsFrontOf kind front ys
without_front kind [] more ys w = record { all = []; is_front = (ys, refl); without = tt }
without_front kind (x ∷ front) more [] w = absurd w
without_front kind (x ∷ front) more (y ∷ ys) (inl both) =
    front_one kind front (x ∷ front) ys y (without_front kind front more ys both.1) (λ all w. inl (both.0, w))
without_front kind (x ∷ front) more (y ∷ ys) (inr both) =
    front_one kind (x ∷ front) (x ∷ front) ys y (without_front kind (x ∷ front) more ys both.1) (λ all w. inr (both.0, w))

pub without_content : (xs ys : List Asked) → IsWithoutSome is_storable xs ys → IsWithoutSome is_storable_content (map content xs) (map content ys)
without_content [] [] w = tt
without_content (x ∷ xs) [] w = absurd w
without_content [] (y ∷ ys) w = (w.0, without_content [] ys w.1)
without_content (x ∷ xs) (y ∷ ys) (inl both) = inl (ap content both.0, without_content xs ys both.1)
without_content (x ∷ xs) (y ∷ ys) (inr both) = inr (both.0, without_content (x ∷ xs) ys both.1)

-- ---- Those that were sent are the ones that were asked, without some that were answered

-- each command that is answered is storable
abbrev pub AnswersStorable : Deed → Type 0
AnswersStorable (forwards c) = Unit {0}
AnswersStorable (answers c reply mark) = is_storable c ≡ true
AnswersStorable (hears incoming) = Unit {0}

pub sent_without : (deeds : List Deed) → AllByRecursion AnswersStorable deeds → IsWithoutSome is_storable (sent_in deeds) (asked_in deeds)
sent_without [] each = tt
sent_without (forwards c ∷ deeds) each = inl (refl, sent_without deeds each.1)
sent_without (answers c reply mark ∷ deeds) each = without_one is_storable (sent_in deeds) (asked_in deeds) c each.0 (sent_without deeds each.1)
sent_without (hears incoming ∷ deeds) each = sent_without deeds each.1

-- ---- What holds of each place holds of each deed

pub each_deed : (P : Deed → Type 0) (before rest all : List Deed) → all ≡ before ++ rest → ((front back : List Deed) (d : Deed) → all ≡ front ++ d ∷ back → P d) → AllByRecursion P rest
each_deed P before [] all are each = tt
each_deed P before (d ∷ rest) all are each = (each before rest d are, each_deed P (before ++ d ∷ []) rest all (are ∙ sym (append_assoc before (d ∷ []) rest)) each)

pub all_first : {A : Type 0} → (P : A → Type 0) (first more : List A) → AllByRecursion P (first ++ more) → AllByRecursion P first × AllByRecursion P more
all_first P [] more each = (tt, each)
all_first P (x ∷ first) more each = let rest = all_first P first more each.1 in ((each.0, rest.0), rest.1)
