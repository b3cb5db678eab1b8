use Rattle.std.proofs.Common.{sym, subst}
use Rattle.std.proofs.lemmas.Result.{on_ok_weaker}
use Rattle.command_tables.specs.Reading.{IsReading}
use Rattle.command_tables.specs.declared.reading.Reading.{Reading}
use Rattle.target_hub.specs.declared.input.Input.TheVariants.{Executed}
use Rattle.journal_text.specs.Written.{IsInputBack}
use Rattle.journal_text.proofs.InputsBack.{bad_back, unknown_back}
use Rattle.journal_text.proofs.writing.show_executed.Goals as goal

pub returns-in-Unknown-clause-reads_back : goal.returns-in-Unknown-clause-reads_back
returns-in-Unknown-clause-reads_back c =
    let given = subst (IsReading c.args.service.now c.args.name.now) c.in-Unknown.is c.requires in
    on_ok_weaker c.show_unknown.result
    (λ shown. subst (λ (r : Reading). IsInputBack (Executed c.args.channel r c.args.service.now c.args.name.now)) (sym c.in-Unknown.is) (unknown_back c.args.channel c.args.service.now c.args.name.now given))
    c.show_unknown.ensures.shown

pub returns-in-Bad-clause-reads_back : goal.returns-in-Bad-clause-reads_back
returns-in-Bad-clause-reads_back c =
    let given = subst (IsReading c.args.service.now c.args.name.now) c.in-Bad.is c.requires in
    on_ok_weaker c.show_bad.result
    (λ shown. subst (λ (r : Reading). IsInputBack (Executed c.args.channel r c.args.service.now c.args.name.now)) (sym c.in-Bad.is) (bad_back c.args.channel c.in-Bad.index c.in-Bad.code c.args.service.now c.args.name.now given))
    c.show_bad.ensures.shown
