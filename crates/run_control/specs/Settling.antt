-- What becomes of a process is settled in two steps: its thread gets its state, and then what is left is done and told.
use Rattle.std.specs.Prelude.{ℕ, List, ◌++◌, Some}
use Rattle.tcf_values.specs.declared.event.EventData.{EventData}
use Rattle.target_contexts.specs.Named.{runs}
use Rattle.target_contexts.specs.ProcessValue.{ProcessValue}
use Rattle.target_contexts.specs.Threads.{in_thread, thread_at}
use Rattle.run_control.specs.Ending.{end_after, end_events}
use Rattle.run_control.specs.Steering.{with_state}
use Rattle.run_control.specs.TargetValue.{TargetValue}
use Rattle.run_control.specs.Telling.{hit_events, made_events, suspended_events}
use Rattle.run_control.specs.declared.executing.Fate.{Fate}
use Rattle.run_control.specs.declared.executing.Fate.TheVariants as fates
use Rattle.run_control.specs.declared.executing.Settled.{Settled}
use Rattle.run_control.specs.declared.executing.Settled.TheVariants as settled

-- the process with its thread n in the state that it is to have
abbrev pub settled_in : ℕ → Fate → ProcessValue → ProcessValue
settled_in n (fates.Ends code) process = process
settled_in n (fates.Lives state hits) process = in_thread (with_state state) n process

-- what is told of the process as it is then, which had so many threads before the input, and what is left to be told
abbrev pub settled_as : ℕ → ℕ → ℕ → Fate → ProcessValue → Settled
settled_as number n before (fates.Ends code) process = settled.Ends code before
settled_as number n before (fates.Lives state hits) process =
    settled.Lives (made_events number before (Some process) ++ suspended_events number n (thread_at n process)) (runs state) hits

abbrev pub finished : ℕ → Settled → TargetValue → TargetValue
finished number (settled.Ends code count) target = end_after number target
finished number (settled.Lives events runs hits) target = target

abbrev pub finished_events : ℕ → Settled → TargetValue → List EventData
finished_events number (settled.Ends code count) target = end_events number count code target
finished_events number (settled.Lives events runs hits) target = events ++ hit_events runs hits target
