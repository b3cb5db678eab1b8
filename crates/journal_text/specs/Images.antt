-- Images as a target has them.
use Rattle.std.specs.Prelude.{List, map}
use Rattle.target_contexts.specs.declared.process.Image.{Image}
use Rattle.tcf_schedules.specs.declared.schedule.NamedImage.{NamedImage}

abbrev pub image_as : NamedImage → Image
image_as named = record { name = named.name; bytes = named.bytes }

abbrev pub images_as : List NamedImage → List Image
images_as named = map image_as named
