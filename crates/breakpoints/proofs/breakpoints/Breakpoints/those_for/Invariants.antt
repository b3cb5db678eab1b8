use Rattle.std.proofs.Common.{◌≡◌, ◌++◌, drop, filter}
use Rattle.breakpoints.specs.Indexed.{is_named_for}
use Rattle.breakpoints.proofs.breakpoints.Breakpoints.those_for.Given as goal

-- those so far, and those among the IDs that are left
abbrev pub invariant-loop-id : goal.invariant-loop-id
invariant-loop-id l = l.made ++ filter (is_named_for l.process l.self) (drop l.id-index l.ids) ≡ filter (is_named_for l.process l.self) l.ids
