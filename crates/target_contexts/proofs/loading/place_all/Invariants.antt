use Rattle.std.proofs.Common.{◌≡◌, drop, length}
use Rattle.elf_image.specs.Image.{placed}
use Rattle.target_contexts.proofs.loading.place_all.Given as goal

-- with the parts that are left it becomes the memory of all
abbrev pub invariant-loop-part : goal.invariant-loop-part
invariant-loop-part l = (length l.memory ≡ 65536) × (placed (drop l.part-index l.parts) l.memory ≡ placed l.parts l.initial.memory)
