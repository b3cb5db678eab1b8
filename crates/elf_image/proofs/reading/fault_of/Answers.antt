use Rattle.std.proofs.Common.{sym, ap, ◌∙◌, arith}
use Rattle.elf_image.specs.Fault.{is_entry}
use Rattle.elf_image.proofs.Order.{does_overlap, headers_inside, is_misplaced, no_entry, no_fault, no_table, other_field, too_short}
use Rattle.elf_image.proofs.reading.fault_of.Goals as goal

pub misplaced_segment-requires : goal.misplaced_segment-requires
misplaced_segment-requires c = headers_inside c.args.file.now (omega arith) (sym c.has_table.ensures ∙ c.if-not-has_table.false)

pub overlapping_segment-requires : goal.overlapping_segment-requires
overlapping_segment-requires c = headers_inside c.args.file.now (omega arith) (sym c.has_table.ensures ∙ c.if-not-has_table.false)

pub returns-then-file-lt-FILE_HEADER-clause-fault :
    goal.returns-then-file-lt-FILE_HEADER-clause-fault
returns-then-file-lt-FILE_HEADER-clause-fault c = sym (too_short c.args.file.now c.if-file-lt-FILE_HEADER.true)

pub returns-in-Some-clause-fault : goal.returns-in-Some-clause-fault
returns-in-Some-clause-fault c =
    sym (other_field c.args.file.now c.in-Some.place c.if-file-lt-FILE_HEADER.false (sym c.header_fault.ensures ∙ c.in-Some.is))

pub returns-then-not-has_table-clause-fault : goal.returns-then-not-has_table-clause-fault
returns-then-not-has_table-clause-fault c =
    sym (no_table c.args.file.now c.if-file-lt-FILE_HEADER.false (sym c.header_fault.ensures ∙ c.in_default.is) (sym c.has_table.ensures ∙ c.if-not-has_table.true))

pub returns-in-Some-misplaced_segment-clause-fault :
    goal.returns-in-Some-misplaced_segment-clause-fault
returns-in-Some-misplaced_segment-clause-fault c =
    sym (is_misplaced c.args.file.now c.in-Some-misplaced_segment.index c.if-file-lt-FILE_HEADER.false (sym c.header_fault.ensures ∙ c.in_default.is)
    (sym c.has_table.ensures ∙ c.if-not-has_table.false) (sym c.misplaced_segment.ensures ∙ c.in-Some-misplaced_segment.is))

pub returns-in-Some-overlapping_segment-clause-fault :
    goal.returns-in-Some-overlapping_segment-clause-fault
returns-in-Some-overlapping_segment-clause-fault c =
    sym (does_overlap c.args.file.now c.in-Some-overlapping_segment.index c.if-file-lt-FILE_HEADER.false (sym c.header_fault.ensures ∙ c.in_default.is)
    (sym c.has_table.ensures ∙ c.if-not-has_table.false) (sym c.misplaced_segment.ensures ∙ c.in_default-misplaced_segment.is)
    (sym c.overlapping_segment.ensures ∙ c.in-Some-overlapping_segment.is))

pub returns-then-not-is_entry-clause-fault : goal.returns-then-not-is_entry-clause-fault
returns-then-not-is_entry-clause-fault c =
    sym (no_entry c.args.file.now c.if-file-lt-FILE_HEADER.false (sym c.header_fault.ensures ∙ c.in_default.is)
    (sym c.has_table.ensures ∙ c.if-not-has_table.false) (sym c.misplaced_segment.ensures ∙ c.in_default-misplaced_segment.is)
    (sym c.overlapping_segment.ensures ∙ c.in_default-overlapping_segment.is) (sym (c.is_entry.ensures ∙ ap is_entry c.entry.ensures) ∙ c.if-not-is_entry.true))

pub returns-clause-fault : goal.returns-clause-fault
returns-clause-fault c =
    sym (no_fault c.args.file.now c.if-file-lt-FILE_HEADER.false (sym c.header_fault.ensures ∙ c.in_default.is)
    (sym c.has_table.ensures ∙ c.if-not-has_table.false) (sym c.misplaced_segment.ensures ∙ c.in_default-misplaced_segment.is)
    (sym c.overlapping_segment.ensures ∙ c.in_default-overlapping_segment.is) (sym (c.is_entry.ensures ∙ ap is_entry c.entry.ensures) ∙ c.if-not-is_entry.false))
