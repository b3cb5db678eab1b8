use Rattle.std.proofs.Common.{◌≡◌}
use Rattle.target_contexts.proofs.image.kept_images.Given as goal

abbrev pub invariant-loop-image : goal.invariant-loop-image
invariant-loop-image l = l.kept.items ≡ l.yielded
