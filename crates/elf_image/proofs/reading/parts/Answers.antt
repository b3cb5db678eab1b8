use Rattle.std.proofs.Common.{ℕ, ap, ◌∙◌, arith}
use Rattle.std.specs.List.{filter_map, range_with_len}
use Rattle.elf_image.specs.Image.{part_at, parts_of}
use Rattle.elf_image.proofs.Ranges.{parts_end, parts_go_on}
use Rattle.elf_image.proofs.reading.parts.Goals as goal

pub add_part-requires-clause-bytes : goal.add_part-requires-clause-bytes
add_part-requires-clause-bytes c = c.requires.bytes c.loop-index.index (omega (arith, c.loop-index-test.true, c.header_count-count.ensures.count))

pub loop-index-preserved : goal.loop-index-preserved
loop-index-preserved c =
    let file = c.args.file.now in
    let count = c.header_count-count.result in
    parts_go_on file count c.loop-index.index c.loop-index.parts c.add_part.new.parts (filter_map (part_at file) (range_with_len 0 count)) c.loop-index-test.true c.in_ok-add_part.ensures c.loop-index.invariant

pub returns : goal.returns
unfolding parts_of
returns c =
    let file = c.args.file.now in
    let count = c.header_count-count.result in
    parts_end file count c.loop-index.index c.loop-index.parts (filter_map (part_at file) (range_with_len 0 count)) c.loop-index-test.false c.loop-index.invariant
    ∙ ap (λ (n : ℕ). filter_map (part_at file) (range_with_len 0 n)) c.header_count-count.ensures.count
