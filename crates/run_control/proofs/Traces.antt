-- A trace, one instruction after the other.
use Rattle.std.proofs.Common.{◌≡◌, ℕ, suc, ℤ, ◌+◌, ◌-◌, ◌<◌, Bool, false, cond, not, List, [], ◌∷◌, ◌++◌, length, Option, Some, None, refl, sym, ap, ◌∙◌, arith, append_assoc, append-nil, inl, inr, ◌⊎◌}
use Rattle.std.proofs.Math.Dec.{eqb, eqb-suc-suc, eqb-zero-suc}
use Rattle.std.specs.Option.{option_map_or}
use Rattle.breakpoints.specs.declared.rows.Placed.{Placed}
use Rattle.target_contexts.specs.ProcessValue.{ProcessValue}
use Rattle.target_contexts.specs.Threads.{thread_at}
use Rattle.run_control.specs.Executing.{executed_of, halt_at, hits_at, pc_at, stepped}
use Rattle.run_control.specs.Naming.{is_empty}
use Rattle.run_control.specs.Tracing.{Trace, addresses_of, last_hits, last_of, next_of, run_from, states_of, stop_by, stop_of, trace_by, trace_of, up_to_hit}
use Rattle.run_control.specs.declared.executing.Executed.{Executed}
use Rattle.run_control.specs.declared.executing.Executed.TheVariants.{Plain, Hit, Exit, Exception}
use Rattle.run_control.proofs.Steps.{exception_stays, exit_stays, hit_goes_on, hit_hits, hit_some, plain_goes_on, plain_hits_none}

-- a trace, behind the addresses of what was executed before it
abbrev pub behind : List ℕ → Trace → Trace
behind front trace = record trace { addresses = front ++ trace.addresses }

pub behind_twice : (front : List ℕ) (pc : ℕ) (trace : Trace) → behind (front ++ pc ∷ []) trace ≡ behind front (behind (pc ∷ []) trace)
behind_twice front pc trace = ap (λ (ns : List ℕ). record trace { addresses = ns }) (append_assoc front (pc ∷ []) trace.addresses)

-- ---- the states

run_next : (n count : ℕ) (process next : ProcessValue) → next_of n process ≡ Some next → run_from n (suc count) process ≡ next ∷ run_from n count next
run_next n count process next goes = ap (λ (o : Option ProcessValue). option_map_or (λ q. q ∷ run_from n count q) o []) goes

run_none : (n count : ℕ) (process : ProcessValue) → next_of n process ≡ None → run_from n (suc count) process ≡ []
run_none n count process stays = ap (λ (o : Option ProcessValue). option_map_or (λ q. q ∷ run_from n count q) o []) stays

states_next : (bps : List Placed) (number n count : ℕ) (process next : ProcessValue) → next_of n process ≡ Some next → hits_at bps number n next ≡ [] → states_of bps number n (suc count) process ≡ next ∷ states_of bps number n count next
states_next bps number n count process next goes none =
    ap (λ (states : List ProcessValue). up_to_hit bps number n states) (run_next n count process next goes)
    ∙ ap (λ (hits : List (List ℕ)). next ∷ cond (is_empty hits) (up_to_hit bps number n (run_from n count next)) []) none

states_hit : (bps : List Placed) (number n count : ℕ) (process next : ProcessValue) → next_of n process ≡ Some next → is_empty (hits_at bps number n next) ≡ false → states_of bps number n (suc count) process ≡ next ∷ []
states_hit bps number n count process next goes some =
    ap (λ (states : List ProcessValue). up_to_hit bps number n states) (run_next n count process next goes)
    ∙ ap (λ b. next ∷ cond b (up_to_hit bps number n (run_from n count next)) []) some

states_none : (bps : List Placed) (number n count : ℕ) (process : ProcessValue) → next_of n process ≡ None → states_of bps number n (suc count) process ≡ []
states_none bps number n count process stays = ap (λ (states : List ProcessValue). up_to_hit bps number n states) (run_none n count process stays)

-- ---- why it stops: a state more in front changes nothing of that

hits_next : (bps : List Placed) (number n : ℕ) (process next : ProcessValue) (states : List ProcessValue) → hits_at bps number n next ≡ [] → last_hits bps number n process (next ∷ states) ≡ last_hits bps number n next states
hits_next bps number n process next [] none = none
hits_next bps number n process next (state ∷ states) none = refl

stop_next : (bps : List Placed) (number n count : ℕ) (process next : ProcessValue) (states : List ProcessValue) → hits_at bps number n next ≡ [] → stop_of bps number n (suc count) process (next ∷ states) ≡ stop_of bps number n count next states
stop_next bps number n count process next states none =
    ap (λ (hits : List (List ℕ)). stop_by hits (eqb (suc (length states)) (suc count)) n (last_of next states)) (hits_next bps number n process next states none)
    ∙ ap (λ b. stop_by (last_hits bps number n next states) b n (last_of next states)) (eqb-suc-suc (length states) count)

by_next : (bps : List Placed) (number n count : ℕ) (process next : ProcessValue) (states : List ProcessValue) → hits_at bps number n next ≡ [] → trace_by bps number n (suc count) process (next ∷ states) ≡ behind (pc_at n process ∷ []) (trace_by bps number n count next states)
by_next bps number n count process next states none =
    ap (λ (stop : Executed). record { process = last_of next states; addresses = pc_at n process ∷ addresses_of n next states stop; stop = stop })
    (stop_next bps number n count process next states none)

-- ---- one instruction, and the rest of the trace

pub plain_step : (bps : List Placed) (number n count : ℕ) (process : ProcessValue) → executed_of bps number n process ≡ Plain → trace_of bps number n (suc count) process ≡ behind (pc_at n process ∷ []) (trace_of bps number n count (stepped n process))
plain_step bps number n count process plain =
    let none = plain_hits_none bps number n process plain in
    ap (λ (states : List ProcessValue). trace_by bps number n (suc count) process states) (states_next bps number n count process (stepped n process) (plain_goes_on bps number n process plain) none)
    ∙ by_next bps number n count process (stepped n process) (states_of bps number n count (stepped n process)) none

-- ---- the last instruction

pub no_step : (bps : List Placed) (number n : ℕ) (process : ProcessValue) → trace_of bps number n 0 process ≡ record { process = process; addresses = []; stop = Plain }
no_step bps number n process = refl

stop_hit : (hits : List (List ℕ)) (all : Bool) (n : ℕ) (last : ProcessValue) → is_empty hits ≡ false → stop_by hits all n last ≡ Hit hits
stop_hit hits all n last some = ap (λ b. cond (not b) (Hit hits) (cond all Plain (halt_at (thread_at n last) last))) some

pub hit_step : (bps : List Placed) (number n count : ℕ) (process : ProcessValue) (hits : List (List ℕ)) → executed_of bps number n process ≡ Hit hits → trace_of bps number n (suc count) process ≡ record { process = stepped n process; addresses = pc_at n process ∷ []; stop = Hit hits }
hit_step bps number n count process hits hit =
    let next : ProcessValue = stepped n process in
    let found = hit_hits bps number n process hits hit in
    let some = ap is_empty found ∙ hit_some bps number n process hits hit in
    ap (λ (states : List ProcessValue). trace_by bps number n (suc count) process states) (states_hit bps number n count process next (hit_goes_on bps number n process hits hit) some)
    ∙ ap (λ (stop : Executed). record { process = next; addresses = addresses_of n process (next ∷ []) stop; stop = stop })
    (stop_hit (hits_at bps number n next) (eqb 1 (suc count)) n next some ∙ ap Hit found)

pub exit_step : (bps : List Placed) (number n count : ℕ) (process : ProcessValue) (code : ℤ) → executed_of bps number n process ≡ Exit code → trace_of bps number n (suc count) process ≡ record { process = stepped n process; addresses = pc_at n process ∷ []; stop = Exit code }
exit_step bps number n count process code exit =
    let stays = exit_stays bps number n process code exit in
    ap (λ (states : List ProcessValue). trace_by bps number n (suc count) process states) (states_none bps number n count process stays.0)
    ∙ ap (λ (stop : Executed). record { process = process; addresses = addresses_of n process [] stop; stop = stop })
    (ap (λ b. cond b Plain (halt_at (thread_at n process) process)) (eqb-zero-suc count) ∙ stays.2)
    ∙ ap (λ (p : ProcessValue). record { process = p; addresses = pc_at n process ∷ []; stop = Exit code }) (sym stays.1)

pub exception_step : (bps : List Placed) (number n count : ℕ) (process : ProcessValue) → executed_of bps number n process ≡ Exception → trace_of bps number n (suc count) process ≡ record { process = stepped n process; addresses = []; stop = Exception }
exception_step bps number n count process exception =
    let stays = exception_stays bps number n process exception in
    ap (λ (states : List ProcessValue). trace_by bps number n (suc count) process states) (states_none bps number n count process stays.0)
    ∙ ap (λ (stop : Executed). record { process = process; addresses = addresses_of n process [] stop; stop = stop })
    (ap (λ b. cond b Plain (halt_at (thread_at n process) process)) (eqb-zero-suc count) ∙ stays.2)
    ∙ ap (λ (p : ProcessValue). record { process = p; addresses = []; stop = Exception }) (sym stays.1)

-- ---- a loop over the instructions: what is executed so far stands in front

left_one : (bps : List Placed) (number n count i : ℕ) (front : List ℕ) (process : ProcessValue) (all rest : Trace) → i < count → behind front (trace_of bps number n (count - i) process) ≡ all → trace_of bps number n (suc (count - (i + 1))) process ≡ rest → all ≡ behind front rest
left_one bps number n count i front process all rest within before next =
    let one : count - i ≡ suc (count - (i + 1)) = omega arith in
    sym before ∙ ap (λ c. behind front (trace_of bps number n c process)) one ∙ ap (behind front) next

pub loop_plain : (bps : List Placed) (number n count i : ℕ) (front : List ℕ) (process next : ProcessValue) (all : Trace) → i < count → executed_of bps number n process ≡ Plain → next ≡ stepped n process → behind front (trace_of bps number n (count - i) process) ≡ all → behind (front ++ pc_at n process ∷ []) (trace_of bps number n (count - (i + 1)) next) ≡ all
loop_plain bps number n count i front process next all within plain goes before =
    ap (λ (p : ProcessValue). behind (front ++ pc_at n process ∷ []) (trace_of bps number n (count - (i + 1)) p)) goes
    ∙ behind_twice front (pc_at n process) (trace_of bps number n (count - (i + 1)) (stepped n process))
    ∙ sym (left_one bps number n count i front process all _ within before (plain_step bps number n (count - (i + 1)) process plain))

pub loop_hit : (bps : List Placed) (number n count i : ℕ) (front : List ℕ) (process next : ProcessValue) (hits : List (List ℕ)) (all : Trace) → i < count → executed_of bps number n process ≡ Hit hits → next ≡ stepped n process → behind front (trace_of bps number n (count - i) process) ≡ all → all ≡ record { process = next; addresses = front ++ pc_at n process ∷ []; stop = Hit hits }
loop_hit bps number n count i front process next hits all within hit goes before =
    left_one bps number n count i front process all _ within before (hit_step bps number n (count - (i + 1)) process hits hit)
    ∙ ap (λ (p : ProcessValue). record { process = p; addresses = front ++ pc_at n process ∷ []; stop = Hit hits }) (sym goes)

pub loop_exit : (bps : List Placed) (number n count i : ℕ) (front : List ℕ) (process next : ProcessValue) (code : ℤ) (all : Trace) → i < count → executed_of bps number n process ≡ Exit code → next ≡ stepped n process → behind front (trace_of bps number n (count - i) process) ≡ all → all ≡ record { process = next; addresses = front ++ pc_at n process ∷ []; stop = Exit code }
loop_exit bps number n count i front process next code all within exit goes before =
    left_one bps number n count i front process all _ within before (exit_step bps number n (count - (i + 1)) process code exit)
    ∙ ap (λ (p : ProcessValue). record { process = p; addresses = front ++ pc_at n process ∷ []; stop = Exit code }) (sym goes)

pub loop_exception : (bps : List Placed) (number n count i : ℕ) (front : List ℕ) (process next : ProcessValue) (all : Trace) → i < count → executed_of bps number n process ≡ Exception → next ≡ stepped n process → behind front (trace_of bps number n (count - i) process) ≡ all → all ≡ record { process = next; addresses = front; stop = Exception }
loop_exception bps number n count i front process next all within exception goes before =
    left_one bps number n count i front process all _ within before (exception_step bps number n (count - (i + 1)) process exception)
    ∙ ap (λ (ns : List ℕ). record { process = stepped n process; addresses = ns; stop = Exception }) (append-nil front)
    ∙ ap (λ (p : ProcessValue). record { process = p; addresses = front; stop = Exception }) (sym goes)

-- a hit, or an exit
pub loop_stop : (bps : List Placed) (number n count i : ℕ) (front : List ℕ) (process next : ProcessValue) (executed : Executed) (all : Trace) → i < count → executed_of bps number n process ≡ executed → ((hits : List (List ℕ)) × (executed ≡ Hit hits)) ⊎ ((code : ℤ) × (executed ≡ Exit code)) → next ≡ stepped n process → behind front (trace_of bps number n (count - i) process) ≡ all → all ≡ record { process = next; addresses = front ++ pc_at n process ∷ []; stop = executed }
loop_stop bps number n count i front process next executed all within is (inl hit) goes before =
    loop_hit bps number n count i front process next hit.0 all within (is ∙ hit.1) goes before
    ∙ ap (λ (stop : Executed). record { process = next; addresses = front ++ pc_at n process ∷ []; stop = stop }) (sym hit.1)
loop_stop bps number n count i front process next executed all within is (inr exit) goes before =
    loop_exit bps number n count i front process next exit.0 all within (is ∙ exit.1) goes before
    ∙ ap (λ (stop : Executed). record { process = next; addresses = front ++ pc_at n process ∷ []; stop = stop }) (sym exit.1)
