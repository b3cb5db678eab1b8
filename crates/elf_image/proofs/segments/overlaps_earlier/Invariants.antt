use Rattle.std.proofs.Common.{◌≡◌, ◌-◌}
use Rattle.std.specs.List.{list_any, range_with_len}
use Rattle.elf_image.specs.Segments.{overlap_at}
use Rattle.elf_image.proofs.segments.overlaps_earlier.Given as goal

-- one of those that are left overlaps where one of all does
abbrev pub invariant-loop-earlier : goal.invariant-loop-earlier
invariant-loop-earlier l =
    list_any (overlap_at l.file l.index) (range_with_len l.earlier (l.index - l.earlier)) ≡ list_any (overlap_at l.file l.index) (range_with_len 0 l.index)
