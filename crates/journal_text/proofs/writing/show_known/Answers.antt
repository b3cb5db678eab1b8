use Rattle.std.proofs.Common.{sym, ◌∙◌, ap, subst}
use Rattle.std.specs.List.{AllByRecursion}
use Rattle.std.proofs.lemmas.Result.{on_ok_weaker}
use Rattle.command_tables.specs.Reading.{reading_of}
use Rattle.tcf_text.specs.Said.{IsByte}
use Rattle.journal_text.proofs.Growing.{grows_not}
use Rattle.journal_text.proofs.InputsBack.{known_back, known_by_name}
use Rattle.journal_text.proofs.writing.show_known.Goals as goal

pub write_command-requires : goal.write_command-requires
write_command-requires c = (c.readings_are_legal.ensures.known c.args.service.now c.args.name.now c.args.command.now c.requires).1

pub returns-clause-reads_back : goal.returns-clause-reads_back
returns-clause-reads_back c =
    let written = c.in_ok-written.written in
    let reads = known_by_name c.readings_are_legal.ensures.known c.args.service.now c.args.name.now written.service written.name written.body c.args.command.now c.requires
    c.in_ok-written.ensures.reads_back in
    on_ok_weaker c.show_command.result
    (λ bytes. known_back c.args.channel c.args.service.now c.args.name.now c.args.command.now (subst (AllByRecursion IsByte) (c.as_slice.ensures ∙ c.in_ok-written.ensures.body) bytes)
    (ap (reading_of c.args.service.now c.args.name.now) (sym c.in_ok-written.ensures.body) ∙ reads)) c.show_command.ensures.bytes

pub returns-in_err-written-clause-part : goal.returns-in_err-written-clause-part
returns-in_err-written-clause-part c = grows_not c.from_residual.result c.args.out.now
