use Rattle.std.proofs.lemmas.Result.{on_ok_weaker}
use Rattle.journal_text.proofs.Back.{read_back}
use Rattle.journal_text.proofs.writing.push_journal.Goals as goal

pub returns-clause-reads_back : goal.returns-clause-reads_back
returns-clause-reads_back c =
    on_ok_weaker c.write_lines.result (λ shown. read_back c.args.images.now c.args.inputs.now c.args.lines.now c.in_ok-show_inputs.ensures.reads_back) c.write_lines.ensures.ok
