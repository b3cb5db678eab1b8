use Rattle.std.proofs.Common.{◌≤◌, ◌-◌, length, take, Ok}
use Rattle.stream_escape.specs.Feeding.{Takes}
use Rattle.stream_escape.proofs.progress.Progress.read.Given as goal

-- the front of the piece is read
abbrev pub invariant-loop-index : goal.invariant-loop-index
invariant-loop-index l =
    record {
      within : l.index ≤ length l.piece;
      takes : Takes l.start l.fn.self (take l.index l.piece) l.fn.items.items l.items.items (Ok tt) l.self;
    }

abbrev pub decreases-loop-index : goal.decreases-loop-index
decreases-loop-index l = length l.piece - l.index
