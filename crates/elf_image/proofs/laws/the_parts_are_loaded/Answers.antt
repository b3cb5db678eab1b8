use Rattle.elf_image.proofs.TheLaws.{parts_are_loaded}
use Rattle.elf_image.proofs.laws.the_parts_are_loaded.Goals as goal

pub returns : goal.returns
returns c = parts_are_loaded
