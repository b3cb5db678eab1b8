-- An end is told once, and a tick touches one process.
use Rattle.std.proofs.Common.{◌≡◌, ℕ, ℤ, List, [], ◌∷◌, Option, Some, None, refl, ◌∙◌, ap}
use Rattle.std.specs.Option.{option_map_or}
use Rattle.breakpoints.specs.declared.rows.Placed.{Placed}
use Rattle.breakpoints.specs.Statuses.{statuses_of}
use Rattle.target_contexts.specs.Laws.{AgreeBut}
use Rattle.target_contexts.specs.Live.{IsOrderly, process_of}
use Rattle.target_contexts.specs.Named.{attached_in}
use Rattle.target_contexts.specs.ProcessValue.{ProcessValue}
use Rattle.target_contexts.specs.Threads.{in_thread}
use Rattle.run_control.specs.Ending.{end_after}
use Rattle.run_control.specs.Executing.{settled, stepped}
use Rattle.run_control.specs.Laws.{AreSound, EndsOnce, TicksKeepSound, TouchesOne, exits_in}
use Rattle.run_control.specs.Naming.{process_id}
use Rattle.run_control.specs.Steering.{with_state}
use Rattle.run_control.specs.TargetValue.{TargetValue}
use Rattle.run_control.specs.Ticking.{executed_after, running_pair, tick_fate, ticked, ticked_at}
use Rattle.run_control.specs.declared.executing.Fate.{Fate}
use Rattle.run_control.specs.declared.executing.Fate.TheVariants.{Ends, Lives}
use Rattle.target_contexts.proofs.TheLaws.{ends_one}
use Rattle.run_control.proofs.Changed.{orderly_change, others_stay}
use Rattle.run_control.proofs.Soundness.{ticked_sound}

-- statuses tell of no exit
statuses_none : (attached : List ℕ) (bps : List Placed) → exits_in (statuses_of attached bps) ≡ []
statuses_none attached [] = refl
statuses_none attached (row ∷ bps) = statuses_none attached bps

pub ends_once : EndsOnce
ends_once number count code target orderly =
    let after : TargetValue = end_after number target in
    let gone = ends_one target.contexts.processes target.contexts.next number orderly in
    (ap (λ (rest : List (List ℕ × ℤ)). (process_id number, code) ∷ rest) (statuses_none (attached_in after.contexts.processes) after.breakpoints), gone.0, gone.1)

settled_touches : (number n : ℕ) (fate : Fate) (target : TargetValue) → IsOrderly target.contexts.processes target.contexts.next → AgreeBut number target.contexts.processes (settled number n fate target).contexts.processes
settled_touches number n (Ends code) target orderly = (ends_one target.contexts.processes target.contexts.next number orderly).1
settled_touches number n (Lives state hits) target orderly = λ other differ. others_stay (in_thread (with_state state) n) number other target.contexts differ

touches_at : (number n : ℕ) (target : TargetValue) (found : Option ProcessValue) → IsOrderly target.contexts.processes target.contexts.next → AgreeBut number target.contexts.processes (ticked_at number n found target).contexts.processes
touches_at number n target None orderly = λ other differ. refl
touches_at number n target (Some process) orderly = λ other differ.
    settled_touches number n (tick_fate target.breakpoints number n process) (executed_after number n process target) (orderly_change (stepped n) number target.contexts orderly) other differ
    ∙ others_stay (stepped n) number other target.contexts differ

pub touches_one : TouchesOne
touches_one number n target orderly = touches_at number n target (process_of number target.contexts.processes) orderly

tick_named : (target : TargetValue) (pair : Option (ℕ × ℕ)) → IsOrderly target.contexts.processes target.contexts.next → AreSound target.contexts.processes → AreSound (option_map_or (λ p. ticked p.0 p.1 target) pair target).contexts.processes
tick_named target None orderly sound = sound
tick_named target (Some pair) orderly sound = ticked_sound pair.0 pair.1 target orderly sound

pub ticks_sound : TicksKeepSound
ticks_sound thread target orderly sound = tick_named target (running_pair thread target.contexts.processes) orderly sound
