use Rattle.std.proofs.Common.{◌≡◌}
use Rattle.value_serving.specs.Serving.{above_of}
use Rattle.value_serving.proofs.Searching.{above_from}
use Rattle.value_serving.proofs.serving.above_of.Given as goal

-- it isn't before this place
abbrev pub invariant-loop-place : goal.invariant-loop-place
invariant-loop-place l = above_of l.channel l.adds ≡ above_from l.place l.channel l.adds
