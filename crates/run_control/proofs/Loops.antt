-- Loops over the threads of a process.
use Rattle.std.proofs.Common.{◌≡◌, ℕ, zero, suc, ◌+◌, ◌-◌, ◌<◌, ◌==◌, Bool, true, false, cond, List, [], ◌∷◌, ◌++◌, length, map, take, drop, slice_get, slice_set, Option, Some, None, refl, sym, ◌∙◌, ap, arith}
use Rattle.std.specs.List.{flat_map}
use Rattle.std.proofs.lemmas.Bool.{ne_eqb}
use Rattle.tcf_values.specs.declared.event.EventData.{EventData}
use Rattle.target_contexts.specs.ThreadList.{changed_numbered, changed_numbered_at, numbered}
use Rattle.target_contexts.specs.Threads.{numbers_to}
use Rattle.target_contexts.specs.declared.process.ThreadState.{ThreadState}
use Rattle.target_contexts.specs.declared.threads.Thread.{Thread}
use Rattle.run_control.specs.Naming.{thread_id}
use Rattle.run_control.specs.Steering.{with_state}
use Rattle.run_control.specs.Telling.{suspended_events}
use Rattle.target_contexts.proofs.Ranges.{flat_more, mapped_more}

-- one ID more
pub ids_more : (number place : ℕ) (ids new : List (List ℕ)) (id : List ℕ) → id ≡ thread_id number (place + 1) → new ≡ ids ++ id ∷ [] → ids ≡ map (thread_id number) (numbers_to place)
    → new ≡ map (thread_id number) (numbers_to (place + 1))
ids_more number place ids new id is grown so_far = mapped_more (thread_id number) 1 place (place + 1) [] ids new id (omega arith) is grown so_far

-- what is told of one thread more
pub stops_more : (number place : ℕ) (threads : List Thread) (before events new : List EventData) → new ≡ events ++ suspended_events number (place + 1) (numbered (place + 1) threads)
    → events ≡ before ++ flat_map (λ n. suspended_events number n (numbered n threads)) (numbers_to place)
    → new ≡ before ++ flat_map (λ n. suspended_events number n (numbered n threads)) (numbers_to (place + 1))
stops_more number place threads before events new grown so_far =
    flat_more (λ n. suspended_events number n (numbered n threads)) 1 place (place + 1) before events new (omega arith) grown so_far

-- ---- one thread more that has another state

get_next : {A : Type 0} → (f : A → A) (xs : List A) (i : ℕ) → slice_get (map f (take i xs) ++ drop i xs) i ≡ slice_get xs i
get_next f [] zero = refl
get_next f [] (suc i) = refl
get_next f (x ∷ xs) zero = refl
get_next f (x ∷ xs) (suc i) = get_next f xs i

put_next : {A : Type 0} → (f : A → A) (xs : List A) (i : ℕ) (x : A) → slice_get xs i ≡ Some x → slice_set (map f (take i xs) ++ drop i xs) i (f x) ≡ map f (take (suc i) xs) ++ drop (suc i) xs
put_next f [] i x is = absurd cc
put_next f (y ∷ xs) zero x is = let same : x ≡ y = cc in ap (λ z. f z ∷ xs) same
put_next f (y ∷ xs) (suc i) x is = ap (λ ys. f y ∷ ys) (put_next f xs i x is)

get_some : {A : Type 0} → (xs : List A) (i : ℕ) → i < length xs → (x : A) × (slice_get xs i ≡ Some x)
get_some [] i inside = absurd (omega arith)
get_some (x ∷ xs) zero inside = (x, refl)
get_some (x ∷ xs) (suc i) inside = get_some xs i (omega arith)

-- by whether the number is 0, which it isn't, and its place
put_by : (is_zero : Bool) (place i : ℕ) (state : ThreadState) (xs : List Thread) (x : Thread) → is_zero ≡ false → place ≡ i → slice_get xs i ≡ Some x
    → cond is_zero (map (with_state state) (take i xs) ++ drop i xs) (slice_set (map (with_state state) (take i xs) ++ drop i xs) place (with_state state x))
    ≡ map (with_state state) (take (suc i) xs) ++ drop (suc i) xs
put_by true place i state xs x is same there = absurd cc
put_by false place i state xs x is same there =
    ap (λ p. slice_set (map (with_state state) (take i xs) ++ drop i xs) p (with_state state x)) same ∙ put_next (with_state state) xs i x there

found_by : (is_zero : Bool) (place i : ℕ) (state : ThreadState) (xs : List Thread) (x : Thread) → is_zero ≡ false → place ≡ i → slice_get xs i ≡ Some x
    → cond is_zero None (slice_get (map (with_state state) (take i xs) ++ drop i xs) place) ≡ Some x
found_by true place i state xs x is same there = absurd cc
found_by false place i state xs x is same there =
    ap (λ p. slice_get (map (with_state state) (take i xs) ++ drop i xs) p) same ∙ get_next (with_state state) xs i ∙ there

pub states_more : (state given : ThreadState) (i : ℕ) (all threads new : List Thread) → i < length all → given ≡ state → new ≡ changed_numbered (with_state given) (i + 1) threads
    → threads ≡ map (with_state state) (take i all) ++ drop i all → new ≡ map (with_state state) (take (i + 1) all) ++ drop (i + 1) all
states_more state given i all threads new inside same put so_far =
    let done : List Thread = map (with_state state) (take i all) ++ drop i all in
    let there = get_some all i inside in
    let zero_not = ne_eqb (i + 1) 0 (λ e. omega arith) in
    let place : i + 1 - 1 ≡ i = omega arith in
    let found : numbered (i + 1) done ≡ Some there.0 = found_by (i + 1 == 0) (i + 1 - 1) i state all there.0 zero_not place there.1 in
    let on : i + 1 ≡ suc i = omega arith in
    put ∙ ap (λ s. changed_numbered (with_state s) (i + 1) threads) same ∙ ap (changed_numbered (with_state state) (i + 1)) so_far
    ∙ ap (λ (o : Option Thread). changed_numbered_at (with_state state) (i + 1) o done) found
    ∙ put_by (i + 1 == 0) (i + 1 - 1) i state all there.0 zero_not place there.1
    ∙ ap (λ k. map (with_state state) (take k all) ++ drop k all) (sym on)
