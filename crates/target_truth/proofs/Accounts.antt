-- The changes that each event tells account for what a process was and is.
use Rattle.std.proofs.Common.{◌≡◌, ◌≢◌, ℕ, zero, suc, ◌+◌, ◌≤◌, ◌<◌, ◌==◌, ◌&&◌, ◌⊎◌, Bool, true, true≢false, List, [], ◌∷◌, ◌++◌, length, Option, Some, None, inl, inr, refl, sym, ap, ◌∙◌, arith}
use Rattle.std.specs.Prelude.{bytes_eq, option_map, slice_get}
use Rattle.std.specs.List.{AllByRecursion, list_any}
use Rattle.std.proofs.lemmas.Bool.{and_from, and_parts, cases_Bool, cond-true, eq-eqb, eqb-false, eqb-true, ltb-true, or_left}
use Rattle.std.proofs.lemmas.List.{length-map}
use Rattle.std.proofs.lemmas.Option.{none-some, same_Some}
use Rattle.data_services.specs.Bytes.{with_part}
use Rattle.knowledge.specs.Changes.{Change, bytes_gone, context_gone, context_told, is_byte, is_within, register_gone, registers_gone, state_gone, state_told, statuses_gone, thread_joined, thread_registers_gone, threads_gone, threads_stale}
use Rattle.knowledge.specs.Facts.{Fact, byte_is, context_is, register_is, state_is}
use Rattle.knowledge.specs.declared.state.StateFact.{StateFact}
use Rattle.knowledge.specs.declared.state.StateFact.TheVariants as told
use Rattle.run_control.specs.Naming.{process_id, thread_id, thread_ids}
use Rattle.target_contexts.specs.Contexts.{process_data, thread_data}
use Rattle.target_contexts.specs.Named.{runs}
use Rattle.target_contexts.specs.ProcessValue.{ProcessValue}
use Rattle.target_contexts.specs.Threads.{thread_at, thread_count}
use Rattle.target_contexts.specs.declared.process.ThreadState.{ThreadState}
use Rattle.target_contexts.specs.declared.process.ThreadState.TheVariants.{Running, Suspended}
use Rattle.target_contexts.specs.declared.threads.Thread.{Thread}
use Rattle.target_truth.specs.Holds.{listed, state_fact}
use Rattle.target_truth.proofs.Agree.{Accounts, IsTouched}
use Rattle.target_truth.proofs.Changes.{touches}
use Rattle.target_truth.proofs.KeptBytes.{kept_outside}
use Rattle.target_truth.proofs.Origins.{list_after, list_append}
use Rattle.target_truth.proofs.Ranged.{any_left, any_right, ranged, ranged_all, ranged_any, ranged_quiet}
use Rattle.target_truth.proofs.Seen.{byte_seen, number_of, threads_seen}
use Rattle.target_truth.proofs.ThreadIds.{one_joins, one_text, process_named, thread_named}
use Rattle.target_truth.proofs.Threads.{has_within, held_kept, held_there, not_standing, numbered_within, same_count, same_state, stands, state_told as state_in, states_of}
use Rattle.tcf_values.specs.Ids.{context_of}
use Rattle.tcf_values.specs.Spelling.{IsNumber}
use Rattle.tcf_values.specs.declared.ids.ContextId.{ContextId}
use Rattle.tcf_values.specs.declared.ids.ContextId.TheVariants as contexts
use Rattle.tcf_values.specs.declared.values.ContextData.{ContextData}
use Rattle.list_laws.proofs.AllLists.{all_append}
use Rattle.list_laws.proofs.Lists.{equal_bytes}
use Rattle.list_laws.proofs.Numbers.{number_itself}

-- ---- tests that hold

its_thread : (number n : ℕ) → ((number == number) && (n == n)) ≡ true
its_thread number n = and_from (number == number) (n == n) (number_itself number) (number_itself n)

-- two texts that are read as one ID are one
pub same_text : (a b : List ℕ) (id : ContextId) → context_of a ≡ Some id → context_of b ≡ Some id → bytes_eq a b ≡ true
same_text a b id one two = equal_bytes a b (one_text a b id one two)

-- ---- the threads that there are

state_within : (n : ℕ) (process : ProcessValue) (x : StateFact) (found : Option Thread) → thread_at n process ≡ found → state_in found ≡ Some x → (1 ≤ n) × (n ≤ thread_count process)
state_within n process x None there knows = absurd (none-some x knows)
state_within n process x (Some thread) there knows = numbered_within n process.threads thread there

number_within : (n index : ℕ) (process : ProcessValue) (x : ℕ) (found : Option Thread) → thread_at n process ≡ found → number_of index found ≡ Some x → (1 ≤ n) × (n ≤ thread_count process)
number_within n index process x None there knows = absurd (none-some x knows)
number_within n index process x (Some thread) there knows = numbered_within n process.threads thread there

-- a process of which a byte could be known has a thread
byte_within : (addr x : ℕ) (process : ProcessValue) → byte_seen addr x (Some process) ≡ true → 1 ≤ thread_count process
byte_within addr x process knows =
    let standing = (and_parts (stands (states_of process)) _ knows).0 in
    let some : 0 < length (states_of process) = ltb-true 0 (length (states_of process)) (and_parts _ _ standing).0 in
    let long : length (states_of process) ≡ thread_count process = length-map process.threads (λ (t : Thread). t.state) in
    omega (arith, some, long)

-- ---- behind other changes

pub behind_accounts : (number : ℕ) (was is : Option ProcessValue) (front changes : List Change) → ((list : Option (List (List ℕ))) → list_after number front list ≡ list)
    → Accounts number was is changes → Accounts number was is (front ++ changes)
behind_accounts number was is front changes quiet accounts = record {
  process = λ id x named knows. more (context_is id x) (accounts.process id x named knows);
  thread = λ id n x named knows. more (context_is id x) (accounts.thread id n x named knows);
  threads = λ ids told.
      accounts.threads ids (sym (list_append number front changes (threads_seen number was) ∙ ap (list_after number changes) (quiet (threads_seen number was))) ∙ told);
  state = λ n x knows. more (state_is number n x) (accounts.state n x knows);
  register = λ n index x few knows. more (register_is number n index x) (accounts.register n index x few knows);
  byte = λ addr x knows. more (byte_is number addr x) (accounts.byte addr x knows);
}
  where
    more : {P : Type 0} (fact : Fact) → P ⊎ IsTouched changes fact → P ⊎ IsTouched (front ++ changes) fact
    more fact (inl kept) = inl kept
    more fact (inr touched) = inr (any_right (touches fact) front changes touched)

-- ---- processes that come

pub none_accounts : (number : ℕ) (is : Option ProcessValue) (changes : List Change)
    → ((ids : List (List ℕ)) → list_after number changes None ≡ Some ids → threads_seen number is ≡ Some ids) → Accounts number None is changes
none_accounts number is changes lists = record {
  process = λ id x named knows. absurd (none-some x knows);
  thread = λ id n x named knows. absurd (none-some x knows);
  threads = lists;
  state = λ n x knows. absurd (none-some x knows);
  register = λ n index x few knows. absurd (none-some x knows);
  byte = λ addr x knows. absurd (true≢false (sym knows));
}

-- ---- processes that go

abbrev pub goes : ℕ → ℕ → List Change
goes number n = context_gone (thread_id number n) ∷ state_gone number n ∷ thread_registers_gone number n ∷ bytes_gone number ∷ threads_gone number ∷ []

abbrev pub process_goes : ℕ → List Change
process_goes number = context_gone (process_id number) ∷ bytes_gone number ∷ threads_gone number ∷ []

-- so many threads, and their process
abbrev pub changes_gone : ℕ → ℕ → List Change
changes_gone number count = (ranged (goes number) 1 count ++ process_goes number) ++ statuses_gone ∷ []

gone_touched : (number count n : ℕ) (fact : Fact) → (1 ≤ n) × (n ≤ count) → list_any (touches fact) (goes number n) ≡ true → IsTouched (changes_gone number count) fact
gone_touched number count n fact within is =
    any_left (touches fact) (ranged (goes number) 1 count ++ process_goes number) (statuses_gone ∷ [])
    (any_left (touches fact) (ranged (goes number) 1 count) (process_goes number)
    (ranged_any (touches fact) (goes number) 1 count n within.0 (omega (arith, within.1)) is))

process_touched : (number count : ℕ) (fact : Fact) → list_any (touches fact) (process_goes number) ≡ true → IsTouched (changes_gone number count) fact
process_touched number count fact is =
    any_left (touches fact) (ranged (goes number) 1 count ++ process_goes number) (statuses_gone ∷ [])
    (any_right (touches fact) (ranged (goes number) 1 count) (process_goes number) is)

no_threads : (number count : ℕ) (list : Option (List (List ℕ))) → list_after number (changes_gone number count) list ≡ None
no_threads number count list =
    list_append number (ranged (goes number) 1 count ++ process_goes number) (statuses_gone ∷ []) list
    ∙ list_append number (ranged (goes number) 1 count) (process_goes number) list
    ∙ cond-true (number == number) None (list_after number (ranged (goes number) 1 count) list) (number_itself number)

pub gone_accounts : (number count : ℕ) (was is : Option ProcessValue) → IsNumber number → count ≤ 8 → ((process : ProcessValue) → was ≡ Some process → thread_count process ≤ count)
    → Accounts number was is (changes_gone number count)
gone_accounts number count None is one few most =
    none_accounts number is (changes_gone number count) (λ ids is_told. absurd (none-some ids (sym (no_threads number count None) ∙ is_told)))
gone_accounts number count (Some old) is one few most =
    let all = most old refl in
    record {
      process = λ id x named knows.
          inr (process_touched number count (context_is id x) (or_left (bytes_eq (process_id number) id) _ (same_text (process_id number) id (contexts.Process number) (process_named number one) named)));
      thread = λ id n x named knows.
          let within = has_within n old (held_there number n old x knows).0 in
          inr (gone_touched number count n (context_is id x) (within.0, omega (arith, within.1, all))
          (or_left (bytes_eq (thread_id number n) id) _ (same_text (thread_id number n) id (contexts.Thread number n) (thread_named number n one (within.0, omega (arith, within.1, all, few))) named)));
      threads = λ ids is_told. absurd (none-some ids (sym (no_threads number count (threads_seen number (Some old))) ∙ is_told));
      state = λ n x knows.
          let within = state_within n old x (thread_at n old) refl knows in
          inr (gone_touched number count n (state_is number n x) (within.0, omega (arith, within.1, all)) (or_left ((number == number) && (n == n)) _ (its_thread number n)));
      register = λ n index x small knows.
          let within = number_within n index old x (thread_at n old) refl knows in
          inr (gone_touched number count n (register_is number n index x) (within.0, omega (arith, within.1, all)) (or_left ((number == number) && (n == n)) _ (its_thread number n)));
      byte = λ addr x knows. inr (process_touched number count (byte_is number addr x) (or_left (number == number) _ (number_itself number)));
    }

-- ---- a process that stays

kept_process : (number : ℕ) (old new : ProcessValue) (x : ContextData) → new.name ≡ old.name → option_map (λ p. process_data number p) (Some old) ≡ Some x
    → option_map (λ p. process_data number p) (Some new) ≡ Some x
kept_process number old new x name knows = ap (λ n. Some (process_data number (record old { name = n }))) name ∙ knows

kept_list : (number : ℕ) (old new : ProcessValue) (changes : List Change) (ids : List (List ℕ)) → thread_count new ≡ thread_count old
    → list_after number changes (Some (listed number old)) ≡ Some (listed number old)
    → list_after number changes (threads_seen number (Some old)) ≡ Some ids → threads_seen number (Some new) ≡ Some ids
kept_list number old new changes ids count quiet told = ap (λ n. Some (thread_ids number n)) count ∙ sym quiet ∙ told

-- ---- whose threads are all told to be others

abbrev pub switches : ℕ → ProcessValue → ℕ → List Change
switches number process n =
    context_told (thread_id number n) (thread_data number n process) ∷ state_gone number n ∷ thread_registers_gone number n ∷ bytes_gone number ∷ []

abbrev pub changes_switched : ℕ → ProcessValue → List Change
changes_switched number process = ranged (switches number process) 1 (thread_count process) ++ statuses_gone ∷ []

switched_touched : (number n : ℕ) (process : ProcessValue) (fact : Fact) → (1 ≤ n) × (n ≤ thread_count process) → list_any (touches fact) (switches number process n) ≡ true
    → IsTouched (changes_switched number process) fact
switched_touched number n process fact within is =
    any_left (touches fact) (ranged (switches number process) 1 (thread_count process)) (statuses_gone ∷ [])
    (ranged_any (touches fact) (switches number process) 1 (thread_count process) n within.0 (omega (arith, within.1)) is)

pub switched_accounts : (number : ℕ) (old new : ProcessValue) → IsNumber number → thread_count new ≤ 8 → thread_count new ≡ thread_count old → new.name ≡ old.name
    → Accounts number (Some old) (Some new) (changes_switched number new)
switched_accounts number old new one few count name = record {
  process = λ id x named knows. inl (kept_process number old new x name knows);
  thread = λ id n x named knows.
      let within = has_within n old (held_there number n old x knows).0 in
      inr (switched_touched number n new (context_is id x) (within.0, omega (arith, within.1, count))
      (or_left (bytes_eq (thread_id number n) id) _ (same_text (thread_id number n) id (contexts.Thread number n) (thread_named number n one (within.0, omega (arith, within.1, count, few))) named)));
  threads = λ ids told. kept_list number old new (changes_switched number new) ids count
      (list_append number (ranged (switches number new) 1 (thread_count new)) (statuses_gone ∷ []) (Some (listed number old))
      ∙ ranged_quiet number (switches number new) 1 (thread_count new) (Some (listed number old)) (λ n known. refl)) told;
  state = λ n x knows.
      let within = state_within n old x (thread_at n old) refl knows in
      inr (switched_touched number n new (state_is number n x) (within.0, omega (arith, within.1, count)) (or_left ((number == number) && (n == n)) _ (its_thread number n)));
  register = λ n index x small knows.
      let within = number_within n index old x (thread_at n old) refl knows in
      inr (switched_touched number n new (register_is number n index x) (within.0, omega (arith, within.1, count)) (or_left ((number == number) && (n == n)) _ (its_thread number n)));
  byte = λ addr x knows.
      let some = byte_within addr x old knows in
      inr (switched_touched number 1 new (byte_is number addr x) (omega arith, omega (arith, some, count)) (or_left (number == number) _ (number_itself number)));
}

-- ---- with threads that are new: those before may have run

abbrev pub tells : ℕ → ProcessValue → ℕ → List Change
tells number process n = context_told (thread_id number n) (thread_data number n process) ∷ []

abbrev pub unsettles : ℕ → List Change
unsettles number = threads_stale number ∷ bytes_gone number ∷ []

abbrev pub joins : ℕ → ℕ → List Change
joins number n = thread_joined number (thread_id number n) ∷ []

-- the four kinds of changes, each with what it tells of the process, where that is new too
abbrev pub changes_added : List Change → List Change → List Change → ℕ → ProcessValue → ℕ → ℕ → List Change
changes_added told stale begun number process a count =
    (told ++ ranged (tells number process) a count)
    ++ ((stale ++ ranged (λ n. unsettles number) a count) ++ ((begun ++ ranged (λ n. []) a count) ++ (ranged (joins number) a count ++ statuses_gone ∷ [])))

pub added_all : (P : Change → Type 0) (front stale begun : List Change) (number : ℕ) (process : ProcessValue) (a count : ℕ)
    → AllByRecursion P front → AllByRecursion P stale → AllByRecursion P begun
    → ((n : ℕ) → a ≤ n → n < a + count → P (context_told (thread_id number n) (thread_data number n process))) → P (threads_stale number) → P (bytes_gone number)
    → ((n : ℕ) → P (thread_joined number (thread_id number n))) → P statuses_gone → AllByRecursion P (changes_added front stale begun number process a count)
added_all P front stale begun number process a count of_front of_stale of_begun of_told of_states of_bytes of_joined of_statuses =
    all_append P (front ++ ranged (tells number process) a count) _
    (all_append P front (ranged (tells number process) a count) of_front (ranged_all P (tells number process) a count (λ n low high. (of_told n low high, tt))))
    (all_append P (stale ++ ranged (λ n. unsettles number) a count) _
    (all_append P stale (ranged (λ n. unsettles number) a count) of_stale (ranged_all P (λ n. unsettles number) a count (λ n low high. (of_states, (of_bytes, tt)))))
    (all_append P (begun ++ ranged (λ n. []) a count) _
    (all_append P begun (ranged (λ n. []) a count) of_begun (ranged_all P (λ n. []) a count (λ n low high. tt)))
    (all_append P (ranged (joins number) a count) (statuses_gone ∷ []) (ranged_all P (joins number) a count (λ n low high. (of_joined n, tt))) (of_statuses, tt))))

-- the list has all of them in the end
joined_ids : (number before count : ℕ) → IsNumber number → before + count ≤ 8
    → list_after number (ranged (joins number) (1 + before) count) (Some (thread_ids number before)) ≡ Some (thread_ids number (before + count))
joined_ids number before zero one few = let same : before ≡ before + 0 = omega arith in ap (λ n. Some (thread_ids number n)) same
joined_ids number before (suc count) one few =
    let next : 1 + before + 1 ≡ 1 + suc before = omega arith in
    let all : suc before + count ≡ before + suc count = omega arith in
    ap (list_after number (ranged (joins number) (1 + before + 1) count))
    (cond-true (number == number) _ (Some (thread_ids number before)) (number_itself number) ∙ ap (λ ids. Some ids) (one_joins number before one (omega (arith, few))))
    ∙ ap (λ a. list_after number (ranged (joins number) a count) (Some (thread_ids number (suc before)))) next
    ∙ joined_ids number (suc before) count one (omega (arith, few))
    ∙ ap (λ n. Some (thread_ids number n)) all

pub added_ids : (front stale begun : List Change) (number before count : ℕ) (process : ProcessValue) (list : Option (List (List ℕ))) → IsNumber number → before + count ≤ 8
    → ((known : Option (List (List ℕ))) → list_after number front known ≡ known) → ((known : Option (List (List ℕ))) → list_after number stale known ≡ known)
    → list_after number begun list ≡ Some (thread_ids number before)
    → list_after number (changes_added front stale begun number process (1 + before) count) list ≡ Some (thread_ids number (before + count))
added_ids front stale begun number before count process list one few of_front of_stale of_begun =
    let a = 1 + before in
    let told = ranged (tells number process) a count in
    let unsettled = ranged (λ n. unsettles number) a count in
    let nothing = ranged (λ n. []) a count in
    let joined = ranged (joins number) a count in
    list_append number (front ++ told) ((stale ++ unsettled) ++ ((begun ++ nothing) ++ (joined ++ statuses_gone ∷ []))) list
    ∙ ap (list_after number ((stale ++ unsettled) ++ ((begun ++ nothing) ++ (joined ++ statuses_gone ∷ []))))
    (list_append number front told list ∙ ap (list_after number told) (of_front list) ∙ ranged_quiet number (tells number process) a count list (λ n known. refl))
    ∙ list_append number (stale ++ unsettled) ((begun ++ nothing) ++ (joined ++ statuses_gone ∷ [])) list
    ∙ ap (list_after number ((begun ++ nothing) ++ (joined ++ statuses_gone ∷ [])))
    (list_append number stale unsettled list ∙ ap (list_after number unsettled) (of_stale list) ∙ ranged_quiet number (λ n. unsettles number) a count list (λ n known. refl))
    ∙ list_append number (begun ++ nothing) (joined ++ statuses_gone ∷ []) list
    ∙ ap (list_after number (joined ++ statuses_gone ∷ []))
    (list_append number begun nothing list ∙ ap (list_after number nothing) of_begun ∙ ranged_quiet number (λ n. []) a count (Some (thread_ids number before)) (λ n known. refl))
    ∙ list_append number joined (statuses_gone ∷ []) (Some (thread_ids number before))
    ∙ joined_ids number before count one few

abbrev pub changes_joined : ℕ → ProcessValue → ℕ → ℕ → List Change
changes_joined number process a count = changes_added [] [] [] number process a count

joined_touched : (number : ℕ) (process : ProcessValue) (a count : ℕ) (fact : Fact) → 1 ≤ count → list_any (touches fact) (unsettles number) ≡ true
    → IsTouched (changes_joined number process a count) fact
joined_touched number process a count fact some is =
    any_right (touches fact) (ranged (tells number process) a count) _
    (any_left (touches fact) (ranged (λ n. unsettles number) a count) _
    (ranged_any (touches fact) (λ n. unsettles number) a count a (omega arith) (omega (arith, some)) is))

pub joined_accounts : (number before count : ℕ) (old new : ProcessValue) → IsNumber number → thread_count old ≡ before → thread_count new ≡ before + count → 1 ≤ count → before + count ≤ 8
    → new.name ≡ old.name → new.attached ≡ old.attached → Accounts number (Some old) (Some new) (changes_joined number new (1 + before) count)
joined_accounts number before count old new one was is some few name attached = record {
  process = λ id x named knows. inl (kept_process number old new x name knows);
  thread = λ id n x named knows. inl (held_kept number n old new x (omega (arith, was, is)) attached knows);
  threads = λ ids told.
      ap (λ n. Some (thread_ids number n)) is
      ∙ sym (added_ids [] [] [] number before count new (Some (listed number old)) one few (λ known. refl) (λ known. refl) (ap (λ n. Some (thread_ids number n)) was)) ∙ told;
  state = λ n x knows. inr (joined_touched number new (1 + before) count (state_is number n x) some (or_left (number == number) _ (number_itself number)));
  register = λ n index x small knows. inr (joined_touched number new (1 + before) count (register_is number n index x) some (or_left (number == number) _ (number_itself number)));
  byte = λ addr x knows. inr (joined_touched number new (1 + before) count (byte_is number addr x) some (or_left (number == number) _ (number_itself number)));
}

-- ---- one of whose threads stops or goes on

-- the others are as they were
pub record OthersStand (n : ℕ) (old new : ProcessValue) : Type 0 where
  pub others : (other : ℕ) → other ≢ n → thread_at other new ≡ thread_at other old
  pub count : thread_count new ≡ thread_count old

abbrev pub changes_moved : ℕ → ℕ → StateFact → List Change → List Change
changes_moved number n state rest = bytes_gone number ∷ thread_registers_gone number n ∷ state_told number n state ∷ rest

pub moved_accounts : (number n : ℕ) (old new : ProcessValue) (state : StateFact) (rest : List Change) → new.name ≡ old.name → new.attached ≡ old.attached → OthersStand n old new
    → ((list : Option (List (List ℕ))) → list_after number rest list ≡ list) → Accounts number (Some old) (Some new) (changes_moved number n state rest)
moved_accounts number n old new state rest name attached stand quiet = record {
  process = λ id x named knows. inl (kept_process number old new x name knows);
  thread = λ id m x named knows. inl (held_kept number m old new x (omega (arith, stand.count)) attached knows);
  threads = λ ids told. kept_list number old new (changes_moved number n state rest) ids stand.count (quiet (Some (listed number old))) told;
  state = λ m x knows.
      elim (cases_Bool (n == m)) [
        | inl e ↦ inr (or_left ((number == number) && (n == m)) _ (and_from (number == number) (n == m) (number_itself number) e))
        | inr e ↦ inl (ap state_in (stand.others m (λ same. eqb-false n m e (sym same))) ∙ knows)
      ];
  register = λ m index x small knows.
      elim (cases_Bool (n == m)) [
        | inl e ↦ inr (or_left ((number == number) && (n == m)) _ (and_from (number == number) (n == m) (number_itself number) e))
        | inr e ↦ inl (ap (number_of index) (stand.others m (λ same. eqb-false n m e (sym same))) ∙ knows)
      ];
  byte = λ addr x knows. inr (or_left (number == number) _ (number_itself number));
}

-- ---- one of whose threads ran, and runs on

runs_fact : (s : ThreadState) → runs s ≡ true → state_fact s ≡ told.Running
runs_fact (Running left) is = refl
runs_fact (Suspended reason hits) is = absurd (true≢false (sym is))

-- a thread that runs
pub record IsRunningAt (n : ℕ) (process : ProcessValue) : Type 0 where
  pub thread : Thread
  pub there : thread_at n process ≡ Some thread
  pub on : runs thread.state ≡ true

running_state : (n : ℕ) (process : ProcessValue) → IsRunningAt n process → state_in (thread_at n process) ≡ Some told.Running
running_state n process is = ap state_in is.there ∙ ap (λ s. Some s) (runs_fact is.thread.state is.on)

running_number : (n index : ℕ) (process : ProcessValue) → IsRunningAt n process → number_of index (thread_at n process) ≡ None
running_number n index process is = ap (number_of index) is.there ∙ cond-true (runs is.thread.state) None _ is.on

pub running_accounts : (number n : ℕ) (old new : ProcessValue) (changes : List Change) → new.name ≡ old.name → new.attached ≡ old.attached → OthersStand n old new
    → IsRunningAt n old → IsRunningAt n new → ((list : Option (List (List ℕ))) → list_after number changes list ≡ list) → Accounts number (Some old) (Some new) changes
running_accounts number n old new changes name attached stand ran run quiet = record {
  process = λ id x named knows. inl (kept_process number old new x name knows);
  thread = λ id m x named knows. inl (held_kept number m old new x (omega (arith, stand.count)) attached knows);
  threads = λ ids told. kept_list number old new changes ids stand.count (quiet (Some (listed number old))) told;
  state = λ m x knows.
      elim (cases_Bool (m == n)) [
        | inl e ↦
            let same : m ≡ n = eqb-true m n e in
            inl (ap (λ k. state_in (thread_at k new)) same ∙ running_state n new run ∙ sym (ap (λ k. state_in (thread_at k old)) same ∙ running_state n old ran) ∙ knows)
        | inr e ↦ inl (ap state_in (stand.others m (eqb-false m n e)) ∙ knows)
      ];
  register = λ m index x small knows.
      elim (cases_Bool (m == n)) [
        | inl e ↦ absurd (none-some x (sym (ap (λ k. number_of index (thread_at k old)) (eqb-true m n e) ∙ running_number n index old ran) ∙ knows))
        | inr e ↦ inl (ap (number_of index) (stand.others m (eqb-false m n e)) ∙ knows)
      ];
  byte = λ addr x knows.
      absurd (true≢false (sym (and_parts (stands (states_of old)) _ knows).0 ∙ not_standing n old ran.thread ran.there ran.on));
}

-- ---- memory and registers

byte_by : (number addr x : ℕ) (first : ℕ) (bytes memory : List ℕ) (standing : Bool) (changes : List Change) → first ≤ length memory
    → (is_within first (length bytes) addr ≡ true → IsTouched changes (byte_is number addr x))
    → (standing && is_byte x (slice_get memory addr)) ≡ true
    → ((standing && is_byte x (slice_get (with_part first bytes memory) addr)) ≡ true) ⊎ IsTouched changes (byte_is number addr x)
byte_by number addr x first bytes memory standing changes fits touched knows =
    elim (cases_Bool (is_within first (length bytes) addr)) [
      | inl e ↦ inr (touched e)
      | inr e ↦ inl (ap (λ o. standing && is_byte x o) (kept_outside first bytes memory addr fits e) ∙ knows)
    ]

pub memory_accounts : (number : ℕ) (old : ProcessValue) (first : ℕ) (bytes : List ℕ) (changes : List Change) → first ≤ length old.memory
    → ((addr x : ℕ) → is_within first (length bytes) addr ≡ true → IsTouched changes (byte_is number addr x))
    → ((list : Option (List (List ℕ))) → list_after number changes list ≡ list)
    → Accounts number (Some old) (Some (record old { memory = with_part first bytes old.memory })) changes
memory_accounts number old first bytes changes fits touched quiet = record {
  process = λ id x named knows. inl knows;
  thread = λ id n x named knows.
      let same : thread_count old ≤ thread_count old = omega arith in
      inl (held_kept number n old (record old { memory = with_part first bytes old.memory }) x same refl knows);
  threads = λ ids told. sym (quiet (Some (listed number old))) ∙ told;
  state = λ n x knows. inl knows;
  register = λ n index x few knows. inl knows;
  byte = λ addr x knows. byte_by number addr x first bytes old.memory (stands (states_of old)) changes fits (touched addr x) knows;
}

-- the same threads in the same states, and the same memory: only registers may be others
pub record ButRegisters (old new : ProcessValue) : Type 0 where
  pub name : new.name ≡ old.name
  pub attached : new.attached ≡ old.attached
  pub states : states_of new ≡ states_of old
  pub memory : new.memory ≡ old.memory

same_byte : (addr x : ℕ) (old new : ProcessValue) → ButRegisters old new → byte_seen addr x (Some old) ≡ true → byte_seen addr x (Some new) ≡ true
same_byte addr x old new same knows =
    ap (λ states. stands states && is_byte x (slice_get new.memory addr)) same.states
    ∙ ap (λ memory. stands (states_of old) && is_byte x (slice_get memory addr)) same.memory ∙ knows

pub register_accounts : (number n at : ℕ) (old new : ProcessValue) → ButRegisters old new
    → ((m index : ℕ) → index ≤ 32 → (m ≡ n → index ≡ at → ⊥) → number_of index (thread_at m new) ≡ number_of index (thread_at m old))
    → Accounts number (Some old) (Some new) (register_gone number n at ∷ [])
register_accounts number n at old new but same = record {
  process = λ id x named knows. inl (kept_process number old new x but.name knows);
  thread = λ id m x named knows. inl (held_kept number m old new x (omega (arith, same_count old new but.states)) but.attached knows);
  threads = λ ids told. kept_list number old new (register_gone number n at ∷ []) ids (same_count old new but.states) refl told;
  state = λ m x knows. inl (same_state m old new but.states ∙ knows);
  register = λ m index x few knows.
      elim (cases_Bool ((n == m) && (at == index))) [
        | inl e ↦
            let both = and_parts (n == m) (at == index) e in
            inr (or_left ((number == number) && (n == m) && (at == index)) _ (and_from _ _ (and_from (number == number) (n == m) (number_itself number) both.0) both.1))
        | inr e ↦
            inl (same m index few (λ one two. true≢false (sym (and_from (n == m) (at == index) (eq-eqb n m (sym one)) (eq-eqb at index (sym two))) ∙ e)) ∙ knows)
      ];
  byte = λ addr x knows. inl (same_byte addr x old new but knows);
}

-- a process without its registers
abbrev pub without_cpus : ProcessValue → List ℕ × (List ThreadState × List ℕ)
without_cpus process = (process.name, (states_of process, process.memory))

pub cpu_accounts : (number : ℕ) (was is : Option ProcessValue) → option_map without_cpus is ≡ option_map without_cpus was
    → option_map (λ p. p.attached) is ≡ option_map (λ p. p.attached) was → Accounts number was is (registers_gone ∷ [])
cpu_accounts number None is same attached = none_accounts number is (registers_gone ∷ []) (λ ids told. absurd (none-some ids told))
cpu_accounts number (Some old) None same attached = absurd (none-some (without_cpus old) same)
cpu_accounts number (Some old) (Some new) same attached =
    let all : without_cpus new ≡ without_cpus old = same_Some (without_cpus new) (without_cpus old) same in
    let but : ButRegisters old new = record {
      name = ap (λ t. t.0) all;
      attached = same_Some new.attached old.attached attached;
      states = ap (λ t. t.1.0) all;
      memory = ap (λ t. t.1.1) all;
    } in
    record {
      process = λ id x named knows. inl (kept_process number old new x but.name knows);
      thread = λ id m x named knows. inl (held_kept number m old new x (omega (arith, same_count old new but.states)) but.attached knows);
      threads = λ ids told. kept_list number old new (registers_gone ∷ []) ids (same_count old new but.states) refl told;
      state = λ m x knows. inl (same_state m old new but.states ∙ knows);
      register = λ m index x few knows. inr refl;
      byte = λ addr x knows. inl (same_byte addr x old new but knows);
    }
