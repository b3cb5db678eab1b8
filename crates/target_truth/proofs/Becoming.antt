-- One process becomes another, and all others stay as they are.
use Rattle.std.proofs.Common.{◌≡◌, ℕ, ◌≤◌, nat_eq, List, [], length, Option, Some, option_map, refl, sym, ◌∙◌, ap, subst, inl, inr}
use Rattle.std.proofs.lemmas.Bool.{cases_Bool, eqb-false, eqb-true}
use Rattle.std.proofs.lemmas.List.{length-map}
use Rattle.target_contexts.specs.Changes.{with_change, with_change_at}
use Rattle.target_contexts.specs.Laws.{AgreeBut}
use Rattle.target_contexts.specs.Live.{IsOrderly, Rise, numbers_of, process_of}
use Rattle.target_contexts.specs.Named.{is_attached}
use Rattle.target_contexts.specs.TargetsValue.{TargetsValue}
use Rattle.target_contexts.specs.ProcessValue.{ProcessValue}
use Rattle.run_control.specs.Laws.{uncounted}
use Rattle.run_control.specs.TargetValue.{TargetValue}
use Rattle.target_truth.specs.Holds.{process_in}
use Rattle.target_contexts.specs.Threads.{in_thread, thread_at}
use Rattle.target_contexts.specs.declared.threads.Thread.{Thread}
use Rattle.target_contexts.proofs.TheLaws.{changes_one, changes_one_thread}
use Rattle.target_truth.proofs.First.{OthersStand, StatusesStay, Stays, StaysAttached}
use Rattle.target_truth.proofs.Silent.{attached_same}
use Rattle.data_services.proofs.PartSteps.{live_found}

-- ---- a change

pub record Becomes (number : ℕ) (old new : TargetsValue) (process : ProcessValue) : Type 0 where
  pub found : process_of number new.processes ≡ Some process
  pub others : AgreeBut number old.processes new.processes
  pub numbers : numbers_of new.processes ≡ numbers_of old.processes
  pub next : new.next ≡ old.next

pub changed : (change : ProcessValue → ProcessValue) (number : ℕ) (targets : TargetsValue) (process : ProcessValue) → process_of number targets.processes ≡ Some process
    → Becomes number targets (with_change change number targets) (change process)
changed change number targets process found =
    let is = changes_one targets.processes number (change process) (live_found number targets.processes process found) in
    subst (λ (o : Option ProcessValue). Becomes number targets (with_change_at change number o targets) (change process)) (sym found)
    (record { found = is.0; others = is.1; numbers = is.2; next = refl })

pub twice : (number : ℕ) (one two three : TargetsValue) (process last : ProcessValue) → Becomes number one two process → Becomes number two three last → Becomes number one three last
twice number one two three process last first second = record {
  found = second.found;
  others = λ other differ. second.others other differ ∙ first.others other differ;
  numbers = second.numbers ∙ first.numbers;
  next = second.next ∙ first.next;
}

-- the numbers stay in order
pub orderly : (number : ℕ) (old new : TargetsValue) (process : ProcessValue) → Becomes number old new process → IsOrderly old.processes old.next → IsOrderly new.processes new.next
orderly number old new process becomes was =
    let counted : length new.processes ≡ length old.processes =
    sym (length-map new.processes (λ (row : ℕ × ProcessValue). row.0)) ∙ ap length becomes.numbers ∙ length-map old.processes (λ (row : ℕ × ProcessValue). row.0) in
    record {
      few = subst (λ n. n ≤ 64) (sym counted) was.few;
      rising = subst (λ n. Rise 0 (numbers_of new.processes) n) (sym becomes.next) (subst (λ ns. Rise 0 ns old.next) (sym becomes.numbers) was.rising);
      bounded = subst (λ n. n ≤ 4294967296) (sym becomes.next) was.bounded;
    }

-- ---- the target with other processes

abbrev pub with_contexts : TargetsValue → TargetValue → TargetValue
with_contexts contexts target = record target { contexts = contexts }

-- and with other counts of hits
pub stays : (number : ℕ) (target now : TargetValue) (old new : ProcessValue) → process_in number target ≡ Some old → Becomes number target.contexts now.contexts new → new.name ≡ old.name
    → uncounted now.breakpoints ≡ uncounted target.breakpoints → Stays number target now old new
stays number target now old new was becomes name same = record {
  differs = record { others = becomes.others; breakpoints = same };
  was = was;
  is = becomes.found;
  name = name;
}

-- a process that stays attached, or not
attached_by : (number : ℕ) (target : TargetValue) (contexts : TargetsValue) (old new : ProcessValue) → process_in number target ≡ Some old → Becomes number target.contexts contexts new → new.attached ≡ old.attached
    → (n : ℕ) → is_attached (process_of n contexts.processes) ≡ is_attached (process_of n target.contexts.processes)
attached_by number target contexts old new was becomes attached n =
    elim (cases_Bool (nat_eq n number)) [
      | inl e ↦
          let same : n ≡ number = eqb-true n number e in
          let at : process_of n contexts.processes ≡ Some new = ap (λ m. process_of m contexts.processes) same ∙ becomes.found in
          let before : process_of n target.contexts.processes ≡ Some old = ap (λ m. process_of m target.contexts.processes) same ∙ was in
          ap is_attached at ∙ attached ∙ sym (ap is_attached before)
      | inr e ↦ ap is_attached (becomes.others n (eqb-false n number e))
    ]

pub stays_attached : (touched : List (List ℕ)) (number : ℕ) (target now : TargetValue) (old new : ProcessValue) → process_in number target ≡ Some old → Becomes number target.contexts now.contexts new → new.name ≡ old.name
    → new.attached ≡ old.attached → uncounted now.breakpoints ≡ uncounted target.breakpoints → StatusesStay touched target.breakpoints now.breakpoints → StaysAttached touched number target now old new
stays_attached touched number target now old new was becomes name attached same points = record {
  stays = stays number target now old new was becomes name same;
  attached = attached;
  all = attached_same target.contexts.processes now.contexts.processes becomes.numbers (attached_by number target now.contexts old new was becomes attached);
  points = points;
}

-- the live process of a number is changed
pub change_stays : (change : ProcessValue → ProcessValue) (number : ℕ) (target : TargetValue) (old : ProcessValue) → process_in number target ≡ Some old → (change old).name ≡ old.name → (change old).attached ≡ old.attached
    → StaysAttached [] number target (with_contexts (with_change change number target.contexts) target) old (change old)
change_stays change number target old was name attached =
    stays_attached [] number target (with_contexts (with_change change number target.contexts) target) old (change old) was (changed change number target.contexts old was) name attached refl (λ id none. refl)

-- what stays as it is
pub rests : (touched : List (List ℕ)) (number : ℕ) (target : TargetValue) (process : ProcessValue) → process_in number target ≡ Some process → StaysAttached touched number target target process process
rests touched number target process there = record {
  stays = record {
    differs = record { others = λ other differ. refl; breakpoints = refl };
    was = there;
    is = there;
    name = refl;
  };
  attached = refl;
  all = refl;
  points = λ id none. refl;
}

-- ---- one of its threads is changed

pub changed_at : (change : Thread → Thread) (n : ℕ) (process : ProcessValue) (thread : Thread) → thread_at n process ≡ Some thread → thread_at n (in_thread change n process) ≡ Some (change thread)
changed_at change n process thread there = (changes_one_thread change n process).0 ∙ ap (option_map change) there

pub others_stand : (change : Thread → Thread) (n : ℕ) (process : ProcessValue) → OthersStand n process (in_thread change n process)
others_stand change n process = record { others = (changes_one_thread change n process).1.others; count = (changes_one_thread change n process).2 }

-- none is
pub none_changed : (n : ℕ) (process : ProcessValue) → OthersStand n process process
none_changed n process = record { others = λ other differ. refl; count = refl }
