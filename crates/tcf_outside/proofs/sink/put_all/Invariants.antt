use Rattle.std.proofs.Common.{◌≡◌, ◌≤◌, ◌-◌, length, take}
use Rattle.tcf_outside.specs.Sink.{Took}
use Rattle.tcf_outside.proofs.sink.put_all.Given as goal

-- what was taken so far is the front of the bytes, and no put was a fault
abbrev pub invariant-loop-done : goal.invariant-loop-done
invariant-loop-done g l =
    record {
      within : l.done ≤ length l.bytes;
      told : Took (take l.done l.bytes) (g.S.Sink.seen l.fn.sink) (g.S.Sink.seen l.sink);
      unharmed : (g.S.Sink.seen l.sink).faults ≡ (g.S.Sink.seen l.fn.sink).faults;
    }

abbrev pub decreases-loop-done : goal.decreases-loop-done
decreases-loop-done g l = length l.bytes - l.done
