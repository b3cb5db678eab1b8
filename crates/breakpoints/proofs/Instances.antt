-- A hit is an instance of the status.
use Rattle.std.proofs.Common.{◌≡◌, ◌≢◌, ℕ, ◌<◌, ◌^◌, nat_eq, Bool, true, false, cond, ◌||◌, ◌&&◌, List, [], ◌∷◌, map, filter, refl, sym, ap, ◌∙◌, arith, eqb-true}
use Rattle.std.specs.Prelude.{bytes_eq, decimal}
use Rattle.std.specs.List.{AllByRecursion, list_any}
use Rattle.std.proofs.lemmas.Bool.{eq-eqb, false_from_ne_true}
use Rattle.std.proofs.lemmas.Fmt.{decimal_injective}
use Rattle.std.proofs.lemmas.Slice.Eq.{bytes_eq-Decides}
use Rattle.tcf_values.specs.Spelling.{context_spelling}
use Rattle.tcf_values.specs.declared.ids.ContextId.TheVariants as contexts
use Rattle.tcf_values.specs.declared.values.BpProps.{BpProps}
use Rattle.breakpoints.specs.Laws.{HitsAreInstances, is_instance_at}
use Rattle.breakpoints.specs.Rows.{ids_of}
use Rattle.breakpoints.specs.Status.{instance_of, instances_of, is_at, is_for, is_hit, place_of}
use Rattle.breakpoints.specs.Placed.{Placed}

-- two processes have two IDs
other_id : (n process : ℕ) → n < 2 ^ 32 → process < 2 ^ 32 → n ≢ process → bytes_eq (context_spelling (contexts.Process n)) (context_spelling (contexts.Process process)) ≡ false
other_id n process small few differ = false_from_ne_true _ (λ e.
    let spelled : context_spelling (contexts.Process n) ≡ context_spelling (contexts.Process process) = (bytes_eq-Decides _ _).0 e in
    let digits : decimal n ≡ decimal process = cc in
    differ (decimal_injective n process (omega arith) (omega arith) digits))

same_id : (process : ℕ) → bytes_eq (context_spelling (contexts.Process process)) (context_spelling (contexts.Process process)) ≡ true
same_id process = let id : List ℕ = context_spelling (contexts.Process process) in (bytes_eq-Decides id id).1 refl

-- ---- the instances in the attached processes, one after another

abbrev among : ℕ → List ℕ → Bool
among process attached = list_any (λ number. nat_eq number process) attached

here_by : (f a m : Bool) (rest : Bool) → rest ≡ (m && (f && a)) → (cond f (a || rest) rest) ≡ (f && a)
here_by true true m rest e = refl
here_by true false true rest e = e
here_by true false false rest e = e
here_by false a true rest e = e
here_by false a false rest e = e

abbrev found_in : BpProps → List (ℕ × ℕ) → ℕ → ℕ → List ℕ → Bool
found_in props counts process pc attached = list_any (is_instance_at process pc) (map (instance_of props counts) (filter (is_for props.contexts) attached))

one_more : (props : BpProps) (counts : List (ℕ × ℕ)) (process pc n : ℕ) (ns : List ℕ) (b : Bool) →
    list_any (is_instance_at process pc) (map (instance_of props counts) (cond b (n ∷ filter (is_for props.contexts) ns) (filter (is_for props.contexts) ns)))
    ≡ cond b ((bytes_eq (context_spelling (contexts.Process n)) (context_spelling (contexts.Process process)) && is_at pc (place_of props.location)) || found_in props counts process pc ns) (found_in props counts process pc ns)
one_more props counts process pc n ns true = refl
one_more props counts process pc n ns false = refl

both_same : (b : Bool) (x : Bool) → cond b x x ≡ x
both_same true x = refl
both_same false x = refl

step_by : (props : BpProps) (counts : List (ℕ × ℕ)) (process pc n : ℕ) (ns : List ℕ) (same : Bool) → nat_eq n process ≡ same → n < 2 ^ 32 → process < 2 ^ 32
    → found_in props counts process pc ns ≡ (among process ns && (is_for props.contexts process && is_at pc (place_of props.location)))
    → cond (is_for props.contexts n) ((bytes_eq (context_spelling (contexts.Process n)) (context_spelling (contexts.Process process)) && is_at pc (place_of props.location)) || found_in props counts process pc ns) (found_in props counts process pc ns)
    ≡ ((same || among process ns) && (is_for props.contexts process && is_at pc (place_of props.location)))
step_by props counts process pc n ns true is small few rest =
    let one : n ≡ process = eqb-true n process is in
    ap (λ k. cond (is_for props.contexts k) ((bytes_eq (context_spelling (contexts.Process k)) (context_spelling (contexts.Process process)) && is_at pc (place_of props.location)) || found_in props counts process pc ns) (found_in props counts process pc ns)) one
    ∙ ap (λ b. cond (is_for props.contexts process) ((b && is_at pc (place_of props.location)) || found_in props counts process pc ns) (found_in props counts process pc ns)) (same_id process)
    ∙ here_by (is_for props.contexts process) (is_at pc (place_of props.location)) (among process ns) (found_in props counts process pc ns) rest
step_by props counts process pc n ns false is small few rest =
    let differ : n ≢ process = λ e. let yes : nat_eq n process ≡ true = eq-eqb n process e in cc in
    ap (λ b. cond (is_for props.contexts n) ((b && is_at pc (place_of props.location)) || found_in props counts process pc ns) (found_in props counts process pc ns)) (other_id n process small few differ)
    ∙ both_same (is_for props.contexts n) (found_in props counts process pc ns) ∙ rest

found_all : (props : BpProps) (counts : List (ℕ × ℕ)) (process pc : ℕ) (attached : List ℕ) → AllByRecursion (λ n. n < 2 ^ 32) attached → process < 2 ^ 32
    → found_in props counts process pc attached ≡ (among process attached && (is_for props.contexts process && is_at pc (place_of props.location)))
found_all props counts process pc [] small few = refl
found_all props counts process pc (n ∷ ns) small few =
    one_more props counts process pc n ns (is_for props.contexts n)
    ∙ step_by props counts process pc n ns (nat_eq n process) refl small.0 few (found_all props counts process pc ns small.1 few)

small_by : (process n : ℕ) (ns : List ℕ) (b : Bool) → nat_eq n process ≡ b → (b || among process ns) ≡ true → n < 2 ^ 32 → (among process ns ≡ true → process < 2 ^ 32) → process < 2 ^ 32
small_by process n ns true e there small rest = let one : n ≡ process = eqb-true n process e in omega arith
small_by process n ns false e there small rest = rest there

small_among : (process : ℕ) (attached : List ℕ) → AllByRecursion (λ n. n < 2 ^ 32) attached → among process attached ≡ true → process < 2 ^ 32
small_among process [] small there = cc
small_among process (n ∷ ns) small there = small_by process n ns (nat_eq n process) refl there small.0 (small_among process ns small.1)

hit_by : (b : Bool) (a : Bool) → (cond b (a || false) false) ≡ (b && a)
hit_by true true = refl
hit_by true false = refl
hit_by false a = refl

pub one_by : (props : BpProps) (counts : List (ℕ × ℕ)) (process pc : ℕ) (b : Bool) → list_any (λ instance. is_at pc instance.place) (map (instance_of props counts) (cond b (process ∷ []) [])) ≡ (b && is_at pc (place_of props.location))
one_by props counts process pc true = hit_by true (is_at pc (place_of props.location))
one_by props counts process pc false = refl

enabled_by : (props : BpProps) (counts : List (ℕ × ℕ)) (attached : List ℕ) (process pc : ℕ) (enabled : Bool) → AllByRecursion (λ n. n < 2 ^ 32) attached → among process attached ≡ true
    → list_any (λ instance. is_at pc instance.place) (cond enabled (map (instance_of props []) (filter (is_for props.contexts) (process ∷ []))) [])
    ≡ list_any (is_instance_at process pc) (cond enabled (map (instance_of props counts) (filter (is_for props.contexts) attached)) [])
enabled_by props counts attached process pc false small there = refl
enabled_by props counts attached process pc true small there =
    one_by props [] process pc (is_for props.contexts process)
    ∙ ap (λ b. b && (is_for props.contexts process && is_at pc (place_of props.location))) (sym there)
    ∙ sym (found_all props counts process pc attached small (small_among process attached small there))

-- ---- all breakpoints

pub filter_same : (p q : Placed → Bool) → ((row : Placed) → p row ≡ q row) → (rows : List Placed) → filter p rows ≡ filter q rows
filter_same p q same [] = refl
filter_same p q same (row ∷ rows) =
    ap (λ b. cond b (row ∷ filter p rows) (filter p rows)) (same row) ∙ ap (λ rest. cond (q row) (row ∷ rest) rest) (filter_same p q same rows)

pub hits_are_instances : HitsAreInstances
hits_are_instances rows attached process pc small there =
    ap ids_of (filter_same (λ row. is_hit process pc row.props) (λ row. list_any (is_instance_at process pc) (instances_of row.props row.counts attached))
    (λ row. enabled_by row.props row.counts attached process pc row.props.enabled small there) rows)
