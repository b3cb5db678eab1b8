use Rattle.std.proofs.Common.{◌≡◌, ◌++◌, length, map}
use Rattle.tcf_text.specs.declared.log.LogLine.TheVariants.{Closed}
use Rattle.client_node.proofs.client.drain.Given as goal

-- the lines so far and those of what is pending yet are those of all, and the end is the same but for what is pending
abbrev pub invariant-loop-number : goal.invariant-loop-number
invariant-loop-number l = record {
  lines : l.log ++ map (λ row. Closed row.1) l.end.pending ≡ l.initial.log ++ map (λ row. Closed row.1) l.initial.end.pending;
  same : record l.end { pending = l.initial.end.pending } ≡ l.initial.end;
}

abbrev pub decreases-loop-number : goal.decreases-loop-number
decreases-loop-number l = length l.end.pending
