use Rattle.std.proofs.Common.{◌≡◌, ◌-◌, ◌++◌}
use Rattle.std.specs.List.{filter_map, range_with_len}
use Rattle.elf_image.specs.Image.{part_at}
use Rattle.elf_image.proofs.reading.parts.Given as goal

-- the parts so far, and those of the program headers that are left
abbrev pub invariant-loop-index : goal.invariant-loop-index
invariant-loop-index l =
    l.parts ++ filter_map (part_at l.file) (range_with_len l.index (l.count - l.index)) ≡ filter_map (part_at l.file) (range_with_len 0 l.count)
