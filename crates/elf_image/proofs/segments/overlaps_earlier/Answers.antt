use Rattle.std.proofs.Common.{sym, ◌∙◌}
use Rattle.std.specs.List.{list_any, range_with_len}
use Rattle.elf_image.specs.Segments.{overlap_at, overlaps_earlier}
use Rattle.elf_image.proofs.Ranges.{one_here, one_later, one_nowhere}
use Rattle.elf_image.proofs.segments.overlaps_earlier.Goals as goal

pub returns-then-overlap_at : goal.returns-then-overlap_at
unfolding overlaps_earlier
returns-then-overlap_at c =
    let p = overlap_at c.args.file.now c.args.index in
    one_here p c.args.index c.loop-earlier.earlier (list_any p (range_with_len 0 c.args.index)) c.loop-earlier.invariant c.loop-earlier-test.true (sym c.overlap_at.ensures ∙ c.if-overlap_at.true)

pub loop-earlier-preserved : goal.loop-earlier-preserved
loop-earlier-preserved c =
    let p = overlap_at c.args.file.now c.args.index in
    one_later p c.args.index c.loop-earlier.earlier (list_any p (range_with_len 0 c.args.index)) c.loop-earlier.invariant c.loop-earlier-test.true (sym c.overlap_at.ensures ∙ c.if-overlap_at.false)

pub returns : goal.returns
unfolding overlaps_earlier
returns c =
    let p = overlap_at c.args.file.now c.args.index in
    one_nowhere p c.args.index c.loop-earlier.earlier (list_any p (range_with_len 0 c.args.index)) c.loop-earlier.invariant c.loop-earlier-test.false
