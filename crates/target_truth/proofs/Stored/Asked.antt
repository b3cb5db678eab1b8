-- Contexts, states and breakpoints: what is answered of them is what the target answers.
use Rattle.std.proofs.Common.{◌≡◌, ℕ, List, [], ◌∷◌, Option, Some, None, is_none, option_map, option_and_then, refl, sym, ◌∙◌, ap}
use Rattle.std.proofs.lemmas.Option.{none-some, same_Some}
use Rattle.breakpoints.specs.Rows.{props_of, row_of}
use Rattle.breakpoints.specs.Status.{status_of}
use Rattle.breakpoints.specs.declared.rows.Placed.{Placed}
use Rattle.data_services.specs.Parts.{number_in}
use Rattle.knowledge.specs.Facts.{Facts, context_is, properties_are, register_is, state_is, status_is}
use Rattle.knowledge.specs.Reply.{context_reply, context_state_reply, properties_reply, state_reply, status_reply, thread_reply}
use Rattle.knowledge.specs.declared.state.StateFact.{StateFact}
use Rattle.knowledge.specs.declared.state.StateFact.TheVariants as told
use Rattle.run_control.specs.Asking.{context_answer, run_state, state_answer}
use Rattle.target_truth.proofs.Differs.{status_by}
use Rattle.target_truth.proofs.Stored.Found.{mapped}
use Rattle.target_contexts.specs.Named.{attached_in, thread_at_pair, thread_for}
use Rattle.target_contexts.specs.declared.threads.Thread.{Thread}
use Rattle.target_contexts.specs.declared.process.ThreadState.{ThreadState}
use Rattle.target_contexts.specs.declared.process.ThreadState.TheVariants.{Running, Suspended}
use Rattle.target_hub.specs.BreakpointsRows.{props_answer, status_answer}
use Rattle.target_hub.specs.Execution.{exec_effect}
use Rattle.run_control.specs.TargetValue.{TargetValue}
use Rattle.target_truth.specs.Holds.{Holds, data_in, state_fact, thread_in}
use Rattle.tcf_values.specs.Effects.{effect_by, gives}
use Rattle.tcf_values.specs.Faults.{first_fault}
use Rattle.tcf_values.specs.Ids.{context_of}
use Rattle.tcf_values.specs.declared.answer.Answer.{Answer}
use Rattle.tcf_values.specs.declared.answer.Answer.TheVariants as answers
use Rattle.tcf_values.specs.declared.command.Command.TheVariants as commands
use Rattle.tcf_values.specs.declared.faults.Fault.{Fault}
use Rattle.tcf_values.specs.declared.faults.Fault.TheVariants as faults
use Rattle.tcf_values.specs.declared.ids.ContextId.{ContextId}
use Rattle.tcf_values.specs.declared.ids.ContextId.TheVariants as ids
use Rattle.tcf_values.specs.declared.values.BpStatus.{BpStatus}
use Rattle.tcf_values.specs.declared.values.RunState.TheVariants as run

-- the answer to a command whose one check is that something is there
abbrev checked : {A : Type 0} → Fault → (Option A → Answer) → Option A → Answer
checked fault answer found = (effect_by (first_fault ((is_none found, fault) ∷ [])) (gives (answer found))).answer

-- ---- contexts

pub context_alike : (channel : ℕ) (id : List ℕ) (target : TargetValue) (known : Facts) (answer : Answer) → Holds known target → context_reply id known ≡ Some answer
    → answer ≡ (exec_effect channel (commands.GetContext id) target).answer
unfolding exec_effect
context_alike channel id target known answer holds is =
    let found = mapped answers.Context (known.contexts id) answer is in
    let there : data_in id target ≡ Some found.0 = holds.facts (context_is id found.0) found.1 in
    sym found.2 ∙ ap (checked faults.BadContext context_answer) (sym there)

-- ---- states

running : (pc : ℕ) (state : ThreadState) → state_fact state ≡ told.Running → run_state pc state ≡ run.Running
running pc (Running left) is = refl
running pc (Suspended reason hits) is = cc

suspended : (pc value : ℕ) (state : ThreadState) (reason : List ℕ) (hits : List (List ℕ)) → state_fact state ≡ told.Suspended reason hits → pc ≡ value
    → run_state pc state ≡ run.Suspended value reason hits
suspended pc value (Running left) reason hits is same = cc
suspended pc value (Suspended r h) reason hits is same = cc

running_found : (found : Option Thread) → option_map (λ t. state_fact t.state) found ≡ Some told.Running
    → answers.State run.Running ≡ checked faults.BadContext state_answer found
running_found None is = absurd (none-some told.Running is)
running_found (Some thread) is = ap answers.State (sym (running thread.cpu.pc thread.state (same_Some _ _ is)))

suspended_found : (found : Option Thread) (value : ℕ) (reason : List ℕ) (hits : List (List ℕ)) → option_map (λ t. state_fact t.state) found ≡ Some (told.Suspended reason hits)
    → option_map (λ t. number_in 32 t.cpu) found ≡ Some value → answers.State (run.Suspended value reason hits) ≡ checked faults.BadContext state_answer found
suspended_found None value reason hits is number = absurd (none-some value number)
suspended_found (Some thread) value reason hits is number =
    ap answers.State (sym (suspended thread.cpu.pc value thread.state reason hits (same_Some _ _ is) (same_Some _ _ number)))

thread_by : (target : TargetValue) (known : Facts) (number n : ℕ) (answer : Answer) → Holds known target → (state : Option StateFact) (pc : Option ℕ)
    → known.states number n ≡ state → known.registers number n 32 ≡ pc → thread_reply state pc ≡ Some answer
    → answer ≡ checked faults.BadContext state_answer (thread_in number n target)
thread_by target known number n answer holds None pc knows knows_pc is = absurd (none-some answer is)
thread_by target known number n answer holds (Some told.Running) pc knows knows_pc is =
    sym (same_Some _ answer is) ∙ running_found (thread_in number n target) (holds.facts (state_is number n told.Running) knows)
thread_by target known number n answer holds (Some (told.Suspended reason hits)) None knows knows_pc is = absurd (none-some answer is)
thread_by target known number n answer holds (Some (told.Suspended reason hits)) (Some value) knows knows_pc is =
    sym (same_Some _ answer is)
    ∙ suspended_found (thread_in number n target) value reason hits (holds.facts (state_is number n (told.Suspended reason hits)) knows)
    (holds.facts (register_is number n 32 value) knows_pc).1

state_by : (target : TargetValue) (known : Facts) (answer : Answer) → Holds known target → (context : Option ContextId) → context_state_reply known context ≡ Some answer
    → answer ≡ checked faults.BadContext state_answer (thread_at_pair (option_and_then thread_for context) target.contexts.processes)
state_by target known answer holds None is = absurd (none-some answer is)
state_by target known answer holds (Some (ids.Process number)) is = absurd (none-some answer is)
state_by target known answer holds (Some (ids.Thread number n)) is =
    thread_by target known number n answer holds (known.states number n) (known.registers number n 32) refl refl is

pub state_alike : (channel : ℕ) (id : List ℕ) (target : TargetValue) (known : Facts) (answer : Answer) → Holds known target → state_reply id known ≡ Some answer
    → answer ≡ (exec_effect channel (commands.GetState id) target).answer
unfolding exec_effect
state_alike channel id target known answer holds is = state_by target known answer holds (context_of id) is

-- ---- breakpoints

pub properties_alike : (channel : ℕ) (id : List ℕ) (target : TargetValue) (known : Facts) (answer : Answer) → Holds known target → properties_reply id known ≡ Some answer
    → answer ≡ (exec_effect channel (commands.BpProperties id) target).answer
unfolding exec_effect
properties_alike channel id target known answer holds is =
    let found = mapped answers.Bp (known.properties id) answer is in
    let there : props_of id target.breakpoints ≡ Some found.0 = holds.facts (properties_are id found.0) found.1 in
    sym found.2 ∙ ap (checked faults.Other props_answer) (sym there)

-- that of a breakpoint, whose properties are looked for first
abbrev status_reply_by : List ℕ → Option Placed → Answer
status_reply_by attached found =
    (effect_by (first_fault ((is_none (option_map (λ (row : Placed). row.props) found), faults.Other) ∷ [])) (gives (status_answer (status_by attached found)))).answer

status_found : (attached : List ℕ) (found : Option Placed) (status : BpStatus) → status_by attached found ≡ Some status → answers.Status status ≡ status_reply_by attached found
status_found attached None status is = absurd (none-some status is)
status_found attached (Some row) status is = sym (ap status_answer is)

pub status_alike : (channel : ℕ) (id : List ℕ) (target : TargetValue) (known : Facts) (answer : Answer) → Holds known target → status_reply id known ≡ Some answer
    → answer ≡ (exec_effect channel (commands.BpGetStatus id) target).answer
unfolding exec_effect
status_alike channel id target known answer holds is =
    let attached = attached_in target.contexts.processes in
    let found = mapped answers.Status (known.statuses id) answer is in
    let there : status_of id attached target.breakpoints ≡ Some found.0 = holds.facts (status_is id found.0) found.1 in
    sym found.2 ∙ status_found attached (row_of id target.breakpoints) found.0 there
