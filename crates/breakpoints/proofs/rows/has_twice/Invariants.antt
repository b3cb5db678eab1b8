use Rattle.std.proofs.Common.{◌≡◌, length, map}
use Rattle.breakpoints.specs.Changes.{has_twice}
use Rattle.breakpoints.proofs.rows.has_twice.Given as goal

-- the answer for those that are left is the answer
abbrev pub invariant-loop-first : goal.invariant-loop-first
invariant-loop-first l = has_twice (map (λ props. props.id) l.rest) ≡ has_twice (map (λ props. props.id) l.fn.list)

abbrev pub decreases-loop-first : goal.decreases-loop-first
decreases-loop-first l = length l.rest
