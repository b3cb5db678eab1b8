use Rattle.std.proofs.Common.{◌≡◌, ◌-◌}
use Rattle.std.specs.List.{find, range_with_len}
use Rattle.elf_image.specs.Segments.{overlaps_earlier}
use Rattle.elf_image.proofs.segments.overlapping_segment.Given as goal

-- the first of those that are left is the first of all
abbrev pub invariant-loop-index : goal.invariant-loop-index
invariant-loop-index l =
    find (overlaps_earlier l.file) (range_with_len l.index (l.count - l.index)) ≡ find (overlaps_earlier l.file) (range_with_len 0 l.count)
