-- What the type of images says of their bytes, where a law ranges over all numbers: each is below 256.
use Rattle.std.specs.Prelude.{List}
use Rattle.std.specs.List.{AllByRecursion}
use Rattle.command_tables.specs.Canonical.{AreBytes}
use Rattle.target_contexts.specs.declared.process.Image.{Image}

abbrev pub AreTyped : List Image → Type 0
AreTyped images = AllByRecursion (λ image. AreBytes image.bytes) images
