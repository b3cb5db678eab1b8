use Rattle.std.proofs.Common.{◌≡◌, take}
use Rattle.elf_image.proofs.program.Parts.copy.Given as goal

abbrev pub invariant-loop-part : goal.invariant-loop-part
invariant-loop-part l = l.twin ≡ take l.part-index l.part-items
