use Rattle.std.proofs.Common.{◌≡◌, ◌+◌, ◌≤◌, true, length, sym, subst, ◌∙◌}
use Rattle.std.proofs.lemmas.Result.{on_ok_weaker}
use Rattle.elf_image.specs.Segments.{has_bytes}
use Rattle.elf_image.specs.declared.segments.ProgramHeader.{ProgramHeader}
use Rattle.elf_image.proofs.Ranges.{none_added, one_added}
use Rattle.elf_image.proofs.reading.add_part.Goals as goal

pub returns-then-not-has_bytes : goal.returns-then-not-has_bytes
returns-then-not-has_bytes c =
    none_added c.args.file.now c.args.index c.program_header-header.result c.args.parts.now c.program_header-header.ensures
    (sym c.has_bytes.ensures ∙ c.if-not-has_bytes.true)

pub bytes_part-requires : goal.bytes_part-requires
bytes_part-requires c =
    subst (λ (header : ProgramHeader). has_bytes header ≡ true → header.offset + header.file_size ≤ length c.args.file.now) (sym c.program_header-header.ensures) c.requires.bytes
    (sym c.has_bytes.ensures ∙ c.if-not-has_bytes.false)

pub returns : goal.returns
returns c =
    on_ok_weaker c.push.result
    (λ pushed. pushed ∙ one_added c.args.file.now c.args.index c.program_header-header.result c.args.parts.now c.in_ok-bytes_part.field-0 c.program_header-header.ensures
    (sym c.has_bytes.ensures ∙ c.if-not-has_bytes.false) c.in_ok-bytes_part.ensures)
    c.push.ensures.ok
