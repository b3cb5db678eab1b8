use Rattle.std.proofs.Common.{◌≡◌}
use Rattle.hub_serving.specs.Passing.{first_to_give}
use Rattle.hub_serving.proofs.Searching.{first_from}
use Rattle.hub_serving.proofs.passing.first_to_give.Given as goal

-- it isn't before this place
abbrev pub invariant-loop-place : goal.invariant-loop-place
invariant-loop-place l = first_to_give l.hub l.lines ≡ first_from l.place l.hub l.lines
