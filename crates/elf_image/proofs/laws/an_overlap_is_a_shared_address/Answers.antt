use Rattle.elf_image.proofs.TheLaws.{overlap_is_shared}
use Rattle.elf_image.proofs.laws.an_overlap_is_a_shared_address.Goals as goal

pub returns : goal.returns
returns c = overlap_is_shared
