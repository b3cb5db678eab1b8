use Rattle.std.proofs.Common.{ℕ, sym, ap, ◌∙◌}
use Rattle.std.specs.List.{find, range_with_len}
use Rattle.elf_image.specs.Segments.{overlapping_segment, overlaps_earlier}
use Rattle.elf_image.proofs.Ranges.{found_here, found_later, found_nowhere}
use Rattle.elf_image.proofs.segments.overlapping_segment.Goals as goal

pub returns-then-overlaps_earlier : goal.returns-then-overlaps_earlier
unfolding overlapping_segment
returns-then-overlaps_earlier c =
    let p = overlaps_earlier c.args.file.now in
    let count = c.header_count-count.result in
    found_here p count c.loop-index.index (find p (range_with_len 0 count)) c.loop-index.invariant c.loop-index-test.true (sym c.overlaps_earlier.ensures ∙ c.if-overlaps_earlier.true)
    ∙ ap (λ (n : ℕ). find p (range_with_len 0 n)) c.header_count-count.ensures.count

pub loop-index-preserved : goal.loop-index-preserved
loop-index-preserved c =
    let p = overlaps_earlier c.args.file.now in
    let count = c.header_count-count.result in
    found_later p count c.loop-index.index (find p (range_with_len 0 count)) c.loop-index.invariant c.loop-index-test.true (sym c.overlaps_earlier.ensures ∙ c.if-overlaps_earlier.false)

pub returns : goal.returns
unfolding overlapping_segment
returns c =
    let p = overlaps_earlier c.args.file.now in
    let count = c.header_count-count.result in
    found_nowhere p count c.loop-index.index (find p (range_with_len 0 count)) c.loop-index.invariant c.loop-index-test.false
    ∙ ap (λ (n : ℕ). find p (range_with_len 0 n)) c.header_count-count.ensures.count
