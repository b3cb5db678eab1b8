-- What an ID names among the live processes (TCF services Memory and Registers).
use Rattle.std.specs.Prelude.{ℕ, List, Option, option_and_then}
use Rattle.tcf_values.specs.Ids.{register_of}
use Rattle.tcf_values.specs.declared.ids.RegisterId.{RegisterId}
use Rattle.target_contexts.specs.Named.{holder_named}
use Rattle.target_contexts.specs.ProcessValue.{ProcessValue}
use Rattle.target_contexts.specs.Threads.{thread_of}
use Rattle.target_contexts.specs.declared.threads.Thread.{Thread}

-- the live process that a text stands for
abbrev pub process_named : List ℕ → List (ℕ × ProcessValue) → Option ProcessValue
process_named id rows = holder_named id rows

-- the thread of a live process that has the register
abbrev pub thread_with : List (ℕ × ProcessValue) → RegisterId → Option Thread
thread_with rows register = thread_of register.process register.thread rows

-- the thread of a live process that has the register of this text
abbrev pub holder_of : List ℕ → List (ℕ × ProcessValue) → Option Thread
holder_of id rows = option_and_then (thread_with rows) (register_of id)
