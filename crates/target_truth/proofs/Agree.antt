-- When what could be known of one target could be known of another, or is touched by the changes that are told: process
-- by process.
use Rattle.std.proofs.Common.{◌≡◌, ℕ, ◌≤◌, ◌==◌, ◌⊎◌, true, false, List, Option, Some, None, inl, inr, refl, sym, ap, ◌∙◌, subst}
use Rattle.std.specs.Prelude.{nat_le, option_and_then, option_map}
use Rattle.std.specs.List.{AllByRecursion, list_any}
use Rattle.std.proofs.lemmas.Bool.{cases_Bool, cond-true, cond-false, eqb-true, eqb-false, leb-true}
use Rattle.std.proofs.lemmas.Option.{none-some}
use Rattle.breakpoints.specs.Rows.{props_of}
use Rattle.breakpoints.specs.Status.{status_of}
use Rattle.knowledge.specs.Changes.{Change, after_all}
use Rattle.knowledge.specs.Facts.{Fact, IsPart, Knows, context_is, threads_are, state_is, register_is, byte_is, properties_are, status_is}
use Rattle.knowledge.specs.declared.state.StateFact.{StateFact}
use Rattle.target_contexts.specs.Contexts.{process_data, thread_data, context_of as data_of}
use Rattle.target_contexts.specs.Laws.{AgreeBut}
use Rattle.target_contexts.specs.Named.{attached_in}
use Rattle.target_contexts.specs.ProcessValue.{ProcessValue}
use Rattle.target_contexts.specs.Threads.{holding}
use Rattle.run_control.specs.Laws.{uncounted}
use Rattle.run_control.specs.TargetValue.{TargetValue}
use Rattle.target_hub.proofs.Points.{props_like}
use Rattle.target_truth.specs.Holds.{data_in, process_in}
use Rattle.target_truth.proofs.Changes.{IsSaid, covered, is_bytes, touches}
use Rattle.target_truth.proofs.Origins.{IsPlain, ListsOne, list_after, other_lists}
use Rattle.target_truth.proofs.Seen.{byte_seen, number_seen, seen, state_seen, threads_seen}
use Rattle.tcf_values.specs.Ids.{context_of}
use Rattle.tcf_values.specs.declared.ids.ContextId.{ContextId}
use Rattle.tcf_values.specs.declared.ids.ContextId.TheVariants as contexts
use Rattle.tcf_values.specs.declared.values.BpProps.{BpProps}
use Rattle.tcf_values.specs.declared.values.BpStatus.{BpStatus}
use Rattle.tcf_values.specs.declared.values.ContextData.{ContextData}

-- one of the changes drops the fact, or tells it anew
abbrev pub IsTouched : List Change → Fact → Type 0
IsTouched changes fact = list_any (touches fact) changes ≡ true

-- ---- one process, as it was and as it is

-- what there was of it, and of each of its threads, is so still, or is touched; and the list of its threads grows by the
-- changes as it did
pub record Accounts (number : ℕ) (was is : Option ProcessValue) (changes : List Change) : Type 0 where
  pub process : (id : List ℕ) (x : ContextData) → context_of id ≡ Some (contexts.Process number) → option_map (λ p. process_data number p) was ≡ Some x
      → (option_map (λ p. process_data number p) is ≡ Some x) ⊎ IsTouched changes (context_is id x)
  pub thread : (id : List ℕ) (n : ℕ) (x : ContextData) → context_of id ≡ Some (contexts.Thread number n) → option_map (λ p. thread_data number n p) (holding n was) ≡ Some x
      → (option_map (λ p. thread_data number n p) (holding n is) ≡ Some x) ⊎ IsTouched changes (context_is id x)
  pub threads : (ids : List (List ℕ)) → list_after number changes (threads_seen number was) ≡ Some ids → threads_seen number is ≡ Some ids
  pub state : (n : ℕ) (x : StateFact) → state_seen n was ≡ Some x → (state_seen n is ≡ Some x) ⊎ IsTouched changes (state_is number n x)
  pub register : (n index x : ℕ) → index ≤ 32 → number_seen n index was ≡ Some x → (number_seen n index is ≡ Some x) ⊎ IsTouched changes (register_is number n index x)
  pub byte : (addr x : ℕ) → byte_seen addr x was ≡ true → (byte_seen addr x is ≡ true) ⊎ IsTouched changes (byte_is number addr x)

-- a process that is as it was, where the changes don't speak of its threads
pub same_accounts : (number : ℕ) (process : Option ProcessValue) (changes : List Change) → ((list : Option (List (List ℕ))) → list_after number changes list ≡ list)
    → Accounts number process process changes
same_accounts number process changes quiet = record {
  process = λ id x named knows. inl knows;
  thread = λ id n x named knows. inl knows;
  threads = λ ids is. sym (quiet (threads_seen number process)) ∙ is;
  state = λ n x knows. inl knows;
  register = λ n index x few knows. inl knows;
  byte = λ addr x knows. inl knows;
}

-- ---- contexts, by what the ID names

pub data_named : (id : List ℕ) (context : ContextId) (target : TargetValue) → context_of id ≡ Some context → data_in id target ≡ data_of context target.contexts.processes
data_named id context target named = ap (option_and_then (λ c. data_of c target.contexts.processes)) named

context_by : (before now : TargetValue) (changes : List Change) → ((p : ℕ) → Accounts p (process_in p before) (process_in p now) changes)
    → (id : List ℕ) (x : ContextData) (found : Option ContextId) → context_of id ≡ found → option_and_then (λ c. data_of c before.contexts.processes) found ≡ Some x
    → (option_and_then (λ c. data_of c now.contexts.processes) found ≡ Some x) ⊎ IsTouched changes (context_is id x)
context_by before now changes each id x None named knows = absurd (none-some x knows)
context_by before now changes each id x (Some (contexts.Process number)) named knows = (each number).process id x named knows
context_by before now changes each id x (Some (contexts.Thread number n)) named knows = (each number).thread id n x named knows

-- ---- all facts

pub led : (before now : TargetValue) (changes : List Change) → AllByRecursion (IsSaid now) changes → list_any is_bytes changes ≡ false
    → ((p : ℕ) → Accounts p (process_in p before) (process_in p now) changes)
    → ((id : List ℕ) (x : BpProps) → props_of id before.breakpoints ≡ Some x → (props_of id now.breakpoints ≡ Some x) ⊎ IsTouched changes (properties_are id x))
    → ((id : List ℕ) (x : BpStatus) → status_of id (attached_in before.contexts.processes) before.breakpoints ≡ Some x
    → (status_of id (attached_in now.contexts.processes) now.breakpoints ≡ Some x) ⊎ IsTouched changes (status_is id x))
    → IsPart (after_all changes (seen before)) (seen now)
led before now changes so none each properties statuses = covered before now changes so none by_kind (λ p. (each p).threads)
  where
    by_kind : (fact : Fact) → IsPlain fact → Knows (seen before) fact → Knows (seen now) fact ⊎ (list_any (touches fact) changes ≡ true)
    by_kind (context_is id x) plain knows = context_by before now changes each id x (context_of id) refl knows
    by_kind (threads_are p x) plain knows = absurd plain
    by_kind (state_is p t x) plain knows = (each p).state t x knows
    by_kind (register_is p t i x) plain knows =
        elim (cases_Bool (nat_le i 32)) [
          | inl e ↦
              elim ((each p).register t i x (leb-true i 32 e) (sym (cond-true (nat_le i 32) _ _ e) ∙ knows)) [
                | inl k ↦ inl (cond-true (nat_le i 32) _ _ e ∙ k)
                | inr k ↦ inr k
              ]
          | inr e ↦ absurd (none-some x (sym (cond-false (nat_le i 32) _ _ e) ∙ knows))
        ]
    by_kind (byte_is p addr x) plain knows = (each p).byte addr x knows
    by_kind (properties_are id x) plain knows = properties id x knows
    by_kind (status_is id x) plain knows = statuses id x knows

-- ---- where one process may be another

each_but : (number : ℕ) (before now : TargetValue) (changes : List Change) → AgreeBut number before.contexts.processes now.contexts.processes
    → AllByRecursion (ListsOne number) changes → Accounts number (process_in number before) (process_in number now) changes
    → (p : ℕ) → Accounts p (process_in p before) (process_in p now) changes
each_but number before now changes others lists here p =
    elim (cases_Bool (p == number)) [
      | inl e ↦ subst (λ n. Accounts n (process_in n before) (process_in n now) changes) (sym (eqb-true p number e)) here
      | inr e ↦
          subst (λ o. Accounts p (process_in p before) o changes) (sym (others p (eqb-false p number e)))
          (same_accounts p (process_in p before) changes (λ list. other_lists number p changes list lists (eqb-false p number e)))
    ]

pub led_at : (number : ℕ) (before now : TargetValue) (was is : Option ProcessValue) (changes : List Change) → AllByRecursion (IsSaid now) changes → list_any is_bytes changes ≡ false
    → AllByRecursion (ListsOne number) changes → AgreeBut number before.contexts.processes now.contexts.processes → uncounted now.breakpoints ≡ uncounted before.breakpoints
    → process_in number before ≡ was → process_in number now ≡ is → Accounts number was is changes
    → ((id : List ℕ) (x : BpStatus) → status_of id (attached_in before.contexts.processes) before.breakpoints ≡ Some x
    → (status_of id (attached_in now.contexts.processes) now.breakpoints ≡ Some x) ⊎ IsTouched changes (status_is id x))
    → IsPart (after_all changes (seen before)) (seen now)
led_at number before now was is changes so none lists others breakpoints was_is is_is accounts statuses =
    led before now changes so none
    (each_but number before now changes others lists
    (subst (λ o. Accounts number o (process_in number now) changes) (sym was_is) (subst (λ o. Accounts number was o changes) (sym is_is) accounts)))
    (λ id x knows. inl (props_like now.breakpoints before.breakpoints breakpoints id ∙ knows)) statuses
