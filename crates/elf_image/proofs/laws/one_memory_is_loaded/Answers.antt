use Rattle.elf_image.proofs.TheLaws.{loaded_once}
use Rattle.elf_image.proofs.laws.one_memory_is_loaded.Goals as goal

pub returns : goal.returns
returns c = loaded_once
