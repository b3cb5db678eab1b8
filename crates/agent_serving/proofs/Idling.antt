-- While nothing comes all instructions are executed that may be, or no thread runs any more, or the agent is full.
use Rattle.std.proofs.Common.{◌≡◌, ℕ, zero, suc, ◌+◌, ◌-◌, ◌≤◌, ◌<◌, ◌==◌, ◌⊎◌, inl, inr, Bool, true, false, cond, List, [], ◌∷◌, Option, Some, None, refl, sym, ap, ◌∙◌, subst, arith, eqb-true}
use Rattle.std.specs.Prelude.{filter, is_some}
use Rattle.std.proofs.lemmas.Bool.{eqb-false, false≢true}
use Rattle.tcf_values.specs.declared.event.EventData.{EventData}
use Rattle.tcf_values.specs.declared.ids.ContextId.{ContextId}
use Rattle.tcf_values.specs.declared.ids.ContextId.TheVariants as ids
use Rattle.target_contexts.specs.Named.{is_running, thread_at_pair, thread_for, threads_in}
use Rattle.target_hub.specs.Passing.{running_in, tick_told}
use Rattle.target_hub.specs.HubValue.{TargetValue}
use Rattle.agent_node.specs.Agent.{after_input, instruction_tells, is_full, ticked, ticked_by}
use Rattle.agent_node.specs.AgentValue.{AgentValue}
use Rattle.tcf_wires.specs.declared.event.WireEvent.TheVariants.{Idle}
use Rattle.serving_wires.specs.Process.{done}
use Rattle.serving_wires.proofs.Coming.{ComesTo, comes_then}
use Rattle.serving_wires.proofs.Holding.{landed_so}
use Rattle.agent_serving.specs.Gathering.{all_gathered}
use Rattle.agent_serving.specs.Left.{GoesOnWhileIdle, HasGoneOn}
use Rattle.agent_serving.specs.Serving.{acted, handled, told}
use Rattle.agent_serving.specs.ServingValue.{ServingValue}
use Rattle.agent_serving.specs.Ticking.{after_pass, after_passes, idled, left_by_pass, less_one, threads_of}
use Rattle.agent_serving.proofs.ServedSo.{event_never}
use Rattle.agent_serving.proofs.Told.{IsSame, all_come, all_emptied, all_same, same_full}
use Rattle.agent_serving.proofs.Passes.{one_pass, passes_of_none, passes_over_none}

-- ---- a tick is one input, and a thread that runs has one where the agent isn't full

record IsTick (result : Bool × AgentValue) (a : AgentValue) : Type 0 where
  counted : result.1.position ≡ a.position + cond result.0 1 0
  idle : result.0 ≡ false → result.1 ≡ a

told_tick : (thread : ContextId) (told : Option (List EventData)) (a : AgentValue) → IsTick (ticked_by thread told a) a
unfolding after_input
told_tick thread None a = record { counted = omega arith; idle = λ is. refl }
told_tick thread (Some told) a = record { counted = refl; idle = λ is. absurd (false≢true (sym is)) }

tick_by : (full : Bool) (thread : ContextId) (a : AgentValue) → IsTick (cond full (false, a) (ticked_by thread (instruction_tells thread a.target) a)) a
tick_by true thread a = record { counted = omega arith; idle = λ is. refl }
tick_by false thread a = told_tick thread (instruction_tells thread a.target) a

is_tick : (thread : ContextId) (a : AgentValue) → IsTick (ticked thread a) a
unfolding ticked
is_tick thread a = tick_by (is_full a) thread a

some_told : (thread : ContextId) (told : Option (List EventData)) (a : AgentValue) → is_some told ≡ true → (ticked_by thread told a).0 ≡ true
some_told thread None a some = absurd (false≢true some)
some_told thread (Some events) a some = refl

tick_done : (thread : ContextId) (a : AgentValue) → is_full a ≡ false → is_some (tick_told thread a.target) ≡ true → (ticked thread a).0 ≡ true
unfolding ticked instruction_tells
tick_done thread a opens_still some =
    ap (λ (b : Bool). (cond b (false, a) (ticked_by thread (instruction_tells thread a.target) a)).0) opens_still ∙ some_told thread (tick_told thread a.target) a some

-- full: nothing happens
tick_full : (thread : ContextId) (a : AgentValue) → is_full a ≡ true → ticked thread a ≡ (false, a)
unfolding ticked
tick_full thread a full = ap (λ (b : Bool). cond b (false, a) (ticked_by thread (instruction_tells thread a.target) a)) full

-- ---- a thread that runs

first_kept : {A : Type 0} → (keep : A → Bool) (item : A) (items rest : List A) → filter keep items ≡ item ∷ rest → keep item ≡ true
first_kept keep item [] rest is = cc
first_kept keep item (x ∷ items) rest is = by_flag (keep x) refl is (first_kept keep item items rest)
  where
    by_flag : (flag : Bool) → keep x ≡ flag → cond flag (x ∷ filter keep items) (filter keep items) ≡ item ∷ rest → (filter keep items ≡ item ∷ rest → keep item ≡ true) → keep item ≡ true
    by_flag true kept both later = let same : x ≡ item = cc in ap keep (sym same) ∙ kept
    by_flag false left there later = later there

runs_so : (thread : ContextId) (target : TargetValue) → is_running (thread_at_pair (thread_for thread) target.contexts.processes) ≡ true → is_some (tick_told thread target) ≡ true
runs_so (ids.Process number) target is = absurd (false≢true is)
runs_so (ids.Thread number n) target is = rw is refl

first_runs : (thread : ContextId) (threads : List ContextId) (target : TargetValue) → running_in target.contexts.processes ≡ thread ∷ threads → is_some (tick_told thread target) ≡ true
first_runs thread threads target are =
    runs_so thread target (first_kept (λ id. is_running (thread_at_pair (thread_for id) target.contexts.processes)) thread (threads_in target.contexts.processes) threads are)

-- ---- a pass

record IsPass (threads : List ContextId) (left : ℕ) (a : AgentValue) : Type 0 where
  counted : (after_pass threads left a).position + left_by_pass threads left a ≡ a.position + left
  fewer : left_by_pass threads left a ≤ left

less_counts : (did : Bool) (left position now : ℕ) → (left == 0) ≡ false → now ≡ position + cond did 1 0 → now + less_one did left ≡ position + left
less_counts true left position now some is = let isnt : left ≡ 0 → ⊥ = eqb-false left 0 some in rw is (omega (arith, isnt))
less_counts false left position now some is = rw is (omega arith)

less_fewer : (did : Bool) (left : ℕ) → less_one did left ≤ left
less_fewer true left = omega arith
less_fewer false left = omega arith

is_pass : (threads : List ContextId) (left : ℕ) (a : AgentValue) → IsPass threads left a
is_pass [] left a = record { counted = refl; fewer = omega arith }
is_pass (thread ∷ threads) left a = by_flag (left == 0) refl (is_pass threads (less_one (ticked thread a).0 left) (ticked thread a).1)
  where
    by_flag : (flag : Bool) → (left == 0) ≡ flag → IsPass threads (less_one (ticked thread a).0 left) (ticked thread a).1
        → IsPass (thread ∷ threads) left a
    by_flag true none rest =
        let zero_left : left ≡ 0 = eqb-true left 0 none in
        record {
          counted = ap (λ (n : ℕ). (after_pass (thread ∷ threads) n a).position + left_by_pass (thread ∷ threads) n a) zero_left ∙ ap (λ (n : ℕ). a.position + n) (sym zero_left);
          fewer = rw none (omega arith);
        }
    by_flag false some rest =
        let did = (ticked thread a).0 in
        let next = (ticked thread a).1 in
        record {
          counted = ap (λ (b : Bool). (cond b a (after_pass threads (less_one did left) next)).position + cond b 0 (left_by_pass threads (less_one did left) next)) some
              ∙ rest.counted ∙ less_counts did left a.position next.position some (is_tick thread a).counted;
          fewer = let less = less_fewer did left in
              let most : left_by_pass threads (less_one did left) next ≤ less_one did left = rest.fewer in
              rw some (omega (arith, less, most));
        }

-- its first thread runs
some_executed : (thread : ContextId) (threads : List ContextId) (left : ℕ) (a : AgentValue) → (left == 0) ≡ false → (ticked thread a).0 ≡ true → left_by_pass (thread ∷ threads) left a < left
some_executed thread threads left a some did =
    let isnt : left ≡ 0 → ⊥ = eqb-false left 0 some in
    let rest : left_by_pass threads (less_one (ticked thread a).0 left) (ticked thread a).1 ≤ less_one (ticked thread a).0 left = (is_pass threads (less_one (ticked thread a).0 left) (ticked thread a).1).fewer in
    let one : less_one (ticked thread a).0 left ≡ left - 1 = ap (λ (b : Bool). less_one b left) did in
    rw some (omega (arith, isnt, rest, one))

-- where the agent is full it stays as it is
pass_full : (threads : List ContextId) (left : ℕ) (a : AgentValue) → is_full a ≡ true → after_pass threads left a ≡ a
pass_full [] left a full = refl
pass_full (thread ∷ threads) left a full = by_flag (left == 0) (pass_full threads left a full)
  where
    by_flag : (flag : Bool) → after_pass threads left a ≡ a → cond flag a (after_pass threads (less_one (ticked thread a).0 left) (ticked thread a).1) ≡ a
    by_flag true rest = refl
    by_flag false rest = ap (λ (p : Bool × AgentValue). after_pass threads (less_one p.0 left) p.1) (tick_full thread a full) ∙ rest

pub passes_full : (passes left : ℕ) (a : AgentValue) → is_full a ≡ true → is_full (after_passes passes left a) ≡ true
unfolding after_passes
passes_full zero left a full = full
passes_full (suc passes) left a full =
    passes_full passes (left_by_pass (threads_of a) left a) (after_pass (threads_of a) left a) (ap is_full (pass_full (threads_of a) left a full) ∙ full)

-- ---- all passes

abbrev Ends : ℕ → AgentValue → AgentValue → Type 0
Ends left a after = (after.position ≡ a.position + left) ⊎ (threads_of after ≡ []) ⊎ (is_full after ≡ true)

none_to_do : (passes left : ℕ) (a : AgentValue) → left ≡ 0 → Ends left a (after_passes passes left a)
none_to_do passes left a none =
    inl (ap (λ (n : ℕ). (after_passes passes n a).position) none ∙ ap (λ (x : AgentValue). x.position) (passes_of_none passes a) ∙ omega (arith, none))

ends_then : (left left_then : ℕ) (a next after : AgentValue) → next.position + left_then ≡ a.position + left → Ends left_then next after → Ends left a after
ends_then left left_then a next after counted (inl all) = inl (all ∙ counted)
ends_then left left_then a next after counted (inr rest) = inr rest

all_passes : (passes left : ℕ) (a : AgentValue) → left ≤ passes → Ends left a (after_passes passes left a)
all_passes zero left a few = none_to_do zero left a (omega (arith, few))
all_passes (suc passes) left a few = by_left (left == 0) refl (λ left_then next less. all_passes passes left_then next less)
  where
    Later : Type 0
    Later = (left_then : ℕ) (next : AgentValue) → left_then ≤ passes → Ends left_then next (after_passes passes left_then next)

    one_more : (thread : ContextId) (threads : List ContextId) → threads_of a ≡ thread ∷ threads → (left == 0) ≡ false → is_full a ≡ false → Later → Ends left a (after_passes (suc passes) left a)
    one_more thread threads are some opens_still later =
        let runs = first_runs thread threads a.target are in
        let did = tick_done thread a opens_still runs in
        let fewer : left_by_pass (threads_of a) left a < left = subst (λ (ts : List ContextId). left_by_pass ts left a < left) (sym are) (some_executed thread threads left a some did) in
        let next = after_pass (threads_of a) left a in
        let left_then = left_by_pass (threads_of a) left a in
        subst (λ (x : AgentValue). Ends left a x) (sym (one_pass passes left a))
        (ends_then left left_then a next (after_passes passes left_then next) (is_pass (threads_of a) left a).counted (later left_then next (omega (arith, fewer, few))))

    by_threads : (threads : List ContextId) → threads_of a ≡ threads → (left == 0) ≡ false → is_full a ≡ false → Later → Ends left a (after_passes (suc passes) left a)
    by_threads [] none some opens_still later = inr (inl (ap threads_of (passes_over_none (suc passes) left a none) ∙ none))
    by_threads (thread ∷ threads) are some opens_still later = one_more thread threads are some opens_still later

    by_full : (full : Bool) → is_full a ≡ full → (left == 0) ≡ false → Later → Ends left a (after_passes (suc passes) left a)
    by_full true is some later = inr (inr (passes_full (suc passes) left a is))
    by_full false is some later = by_threads (threads_of a) refl some is later

    by_left : (flag : Bool) → (left == 0) ≡ flag → Later → Ends left a (after_passes (suc passes) left a)
    by_left true none later = none_to_do (suc passes) left a (eqb-true left 0 none)
    by_left false some later = by_full (is_full a) refl some later

-- ---- and then what the agent tells is queued, which changes neither

idle_ends : (before after told_now : AgentValue) → IsSame after told_now → Ends 256 before after → HasGoneOn before told_now
idle_ends before after told_now same (inl all) = inl (same.position ∙ all)
idle_ends before after told_now same (inr (inl none)) = inr (inl (ap (λ (t : TargetValue). running_in t.contexts.processes) same.target ∙ none))
idle_ends before after told_now same (inr (inr full)) = inr (inr (same_full after told_now same ∙ full))

idle_comes : (s : ServingValue) → ComesTo (λ (next : ServingValue). HasGoneOn s.agent next.agent) (handled Idle s)
unfolding handled acted told idled
idle_comes s =
    let after = after_passes 256 256 s.agent in
    let Next : AgentValue → Type 0 = λ a. HasGoneOn s.agent a in
    comes_then Next (λ (next : ServingValue). HasGoneOn s.agent next.agent) (all_gathered s.lines after) (λ a. done (record { agent = a; lines = s.lines }))
    (all_come Next s.lines after (idle_ends s.agent after (all_emptied s.lines after) (all_same s.lines after) (all_passes 256 256 s.agent (omega arith))))
    (λ a so. so)

pub goes_on_while_idle : GoesOnWhileIdle
goes_on_while_idle images s =
    landed_so (λ (next : ServingValue). HasGoneOn s.served.agent next.agent) s.served s.sent (handled Idle s.served) (event_never Idle s.served) (idle_comes s.served)
