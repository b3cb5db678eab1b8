-- The thread that has the register that an ID names, and its process.
use Rattle.std.proofs.Common.{◌≡◌, ℕ, ◌≤◌, false, List, is_none, Option, Some, None, option_and_then, refl, sym, ◌∙◌, ap}
use Rattle.data_services.specs.Named.{holder_of, thread_with}
use Rattle.rv32i_core.specs.Laws.{IsCpu}
use Rattle.target_contexts.specs.Named.{is_running, runs}
use Rattle.target_contexts.specs.ProcessValue.{ProcessValue}
use Rattle.target_contexts.specs.Threads.{thread_at}
use Rattle.target_contexts.specs.declared.threads.Thread.{Thread}
use Rattle.run_control.specs.TargetValue.{TargetValue}
use Rattle.target_truth.specs.Holds.{process_in}
use Rattle.tcf_values.proofs.TheLaws.{register_round_trip}
use Rattle.target_truth.proofs.FitRun.{cpu_found}
use Rattle.target_truth.proofs.Whole.{IsGood}
use Rattle.tcf_values.specs.Ids.{register_of}
use Rattle.tcf_values.specs.declared.ids.RegisterId.{RegisterId}

pub record IsHolder (target : TargetValue) (id : List ℕ) (register : RegisterId) (process : ProcessValue) (thread : Thread) : Type 0 where
  pub read : register_of id ≡ Some register
  pub there : process_in register.process target ≡ Some process
  pub at : thread_at register.thread process ≡ Some thread
  pub holder : holder_of id target.contexts.processes ≡ Some thread

-- the register, the process and the thread
pub record Holder (target : TargetValue) (id : List ℕ) : Type 0 where
  pub register : RegisterId
  pub process : ProcessValue
  pub thread : Thread
  pub is : IsHolder target id register process thread

thread_found : (target : TargetValue) (id : List ℕ) (register : RegisterId) (process : ProcessValue) (found : Option Thread) → register_of id ≡ Some register
    → process_in register.process target ≡ Some process → thread_at register.thread process ≡ found → is_none found ≡ false → Holder target id
thread_found target id register process None read there at some = absurd cc
thread_found target id register process (Some thread) read there at some = record {
  register = register;
  process = process;
  thread = thread;
  is = record {
    read = read;
    there = there;
    at = at;
    holder = ap (option_and_then (thread_with target.contexts.processes)) read ∙ ap (option_and_then (thread_at register.thread)) there ∙ at;
  };
}

found_at : (target : TargetValue) (id : List ℕ) (register : RegisterId) (found : Option ProcessValue) → register_of id ≡ Some register → process_in register.process target ≡ found
    → is_none (option_and_then (thread_at register.thread) found) ≡ false → Holder target id
found_at target id register None read there some = absurd cc
found_at target id register (Some process) read there some = thread_found target id register process (thread_at register.thread process) read there refl some

named_by : (target : TargetValue) (id : List ℕ) (named : Option RegisterId) → register_of id ≡ named → is_none (option_and_then (thread_with target.contexts.processes) named) ≡ false → Holder target id
named_by target id None read some = absurd cc
named_by target id (Some register) read some = found_at target id register (process_in register.process target) read refl some

pub holder_found : (target : TargetValue) (id : List ℕ) → is_none (holder_of id target.contexts.processes) ≡ false → Holder target id
holder_found target id some = named_by target id (register_of id) refl some

-- the index of a register that is read is at most 32
pub index_small : (id : List ℕ) (register : RegisterId) → register_of id ≡ Some register → register.index ≤ 32
index_small id register read = ((register_round_trip id register).0 read).0.2

-- ---- where it is suspended

pub record IsHeld (target : TargetValue) (id : List ℕ) (register : RegisterId) (process : ProcessValue) (thread : Thread) : Type 0 where
  pub holder : IsHolder target id register process thread
  pub stopped : runs thread.state ≡ false
  pub index : register.index ≤ 32
  pub cpu : IsCpu thread.cpu

pub record Held (target : TargetValue) (id : List ℕ) : Type 0 where
  pub register : RegisterId
  pub process : ProcessValue
  pub thread : Thread
  pub is : IsHeld target id register process thread

pub held_found : (target : TargetValue) (id : List ℕ) → IsGood target → is_none (holder_of id target.contexts.processes) ≡ false → is_running (holder_of id target.contexts.processes) ≡ false
    → Held target id
held_found target id good some stopped =
    let found = holder_found target id some in
    record {
      register = found.register;
      process = found.process;
      thread = found.thread;
      is = record {
        holder = found.is;
        stopped = sym (ap is_running found.is.holder) ∙ stopped;
        index = index_small id found.register found.is.read;
        cpu = cpu_found found.register.thread found.process found.thread found.is.at (good.whole found.register.process found.process found.is.there);
      };
    }
