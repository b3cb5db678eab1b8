use Rattle.std.proofs.Common.{ℕ, sym, ap, ◌∙◌}
use Rattle.std.specs.List.{find, range_with_len}
use Rattle.elf_image.specs.Segments.{is_misplaced_at, misplaced_segment}
use Rattle.elf_image.proofs.Ranges.{found_here, found_later, found_nowhere}
use Rattle.elf_image.proofs.segments.misplaced_segment.Goals as goal

pub returns-then-is_misplaced_at : goal.returns-then-is_misplaced_at
unfolding misplaced_segment
returns-then-is_misplaced_at c =
    let p = is_misplaced_at c.args.file.now in
    let count = c.header_count-count.result in
    found_here p count c.loop-index.index (find p (range_with_len 0 count)) c.loop-index.invariant c.loop-index-test.true (sym c.is_misplaced_at.ensures ∙ c.if-is_misplaced_at.true)
    ∙ ap (λ (n : ℕ). find p (range_with_len 0 n)) c.header_count-count.ensures.count

pub loop-index-preserved : goal.loop-index-preserved
loop-index-preserved c =
    let p = is_misplaced_at c.args.file.now in
    let count = c.header_count-count.result in
    found_later p count c.loop-index.index (find p (range_with_len 0 count)) c.loop-index.invariant c.loop-index-test.true (sym c.is_misplaced_at.ensures ∙ c.if-is_misplaced_at.false)

pub returns : goal.returns
unfolding misplaced_segment
returns c =
    let p = is_misplaced_at c.args.file.now in
    let count = c.header_count-count.result in
    found_nowhere p count c.loop-index.index (find p (range_with_len 0 count)) c.loop-index.invariant c.loop-index-test.false
    ∙ ap (λ (n : ℕ). find p (range_with_len 0 n)) c.header_count-count.ensures.count
