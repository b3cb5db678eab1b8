use Rattle.std.proofs.Common.{◌≡◌}
use Rattle.hub_serving.proofs.Taking.{from_place}
use Rattle.hub_serving.proofs.passing.turn_from.Given as goal

-- none before this place had a message
abbrev pub invariant-loop-place : goal.invariant-loop-place
invariant-loop-place l = from_place l.first l.lines l.initial.hub ≡ from_place l.place l.lines l.hub
