use Rattle.std.proofs.Common.{◌≡◌, take}
use Rattle.chain_world.specs.World.{images_of}
use Rattle.chain_world.proofs.world.images_of.Given as goal

abbrev pub invariant-loop-image : goal.invariant-loop-image
invariant-loop-image l = l.images.items ≡ images_of (take l.image-index l.named)
