use Rattle.std.proofs.Common.{◌≡◌, ◌++◌, drop, map}
use Rattle.breakpoints.specs.Counting.{listed}
use Rattle.breakpoints.proofs.breakpoints.Breakpoints.props_of.Given as goal

-- those so far, and those of the breakpoints whose IDs are left
abbrev pub invariant-loop-id : goal.invariant-loop-id
invariant-loop-id l =
    l.list ++ map (λ row. row.props) (listed (drop l.id-index l.ids) l.self) ≡ map (λ row. row.props) (listed l.ids l.self)
