use Rattle.std.proofs.Common.{sym, ◌∙◌}
use Rattle.elf_image.proofs.Answered.{refuses_own}
use Rattle.elf_image.proofs.Order.{headers_inside, sound_file}
use Rattle.elf_image.proofs.Standing.{bytes_lie, standing_file}
use Rattle.elf_image.proofs.reading.program.Goals as goal

pub returns-in-Some : goal.returns-in-Some
returns-in-Some c = refuses_own c.args.file.now c.in-Some.fault (sym c.fault_of.ensures.fault ∙ c.in-Some.is) c.in-Some.ensures.own

pub entry-requires : goal.entry-requires
entry-requires c = (sound_file c.args.file.now (sym c.fault_of.ensures.fault ∙ c.in-None.is)).long

pub parts-requires-clause-headers : goal.parts-requires-clause-headers
parts-requires-clause-headers c =
    let sound = sound_file c.args.file.now (sym c.fault_of.ensures.fault ∙ c.in-None.is) in
    headers_inside c.args.file.now sound.long sound.table

pub parts-requires-clause-bytes : goal.parts-requires-clause-bytes
parts-requires-clause-bytes c = bytes_lie c.args.file.now (standing_file c.args.file.now (sound_file c.args.file.now (sym c.fault_of.ensures.fault ∙ c.in-None.is)))
