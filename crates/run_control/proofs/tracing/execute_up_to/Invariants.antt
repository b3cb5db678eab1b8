use Rattle.std.proofs.Common.{◌≡◌, ◌-◌, ◌≤◌, length}
use Rattle.run_control.specs.Tracing.{trace_of}
use Rattle.run_control.proofs.Traces.{behind}
use Rattle.run_control.proofs.tracing.execute_up_to.Given as goal

-- the trace is what is executed so far, and a trace of what is left
abbrev pub invariant-loop-step : goal.invariant-loop-step
invariant-loop-step l = record {
  same : behind l.addresses (trace_of l.bps l.number l.n (l.count - l._step) l.process.seen) ≡ trace_of l.bps l.number l.n l.count l.initial.process.seen;
  few : length l.addresses ≤ l._step;
}
