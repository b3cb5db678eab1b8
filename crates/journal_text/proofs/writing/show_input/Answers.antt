use Rattle.std.proofs.Common.{sym, subst}
use Rattle.std.proofs.lemmas.Result.{on_ok_weaker}
use Rattle.journal_text.specs.Written.{IsInputBack}
use Rattle.journal_text.proofs.InputsBack.{closed_back, opened_back, ticked_back}
use Rattle.journal_text.proofs.writing.show_input.Goals as goal

pub returns-in-Opened-clause-reads_back : goal.returns-in-Opened-clause-reads_back
returns-in-Opened-clause-reads_back c = on_ok_weaker c.show_channel.result (λ shown. subst IsInputBack (sym c.in-Opened.is) (opened_back c.in-Opened.channel)) c.show_channel.ensures.shown

pub returns-in_ok-extend-in-Ticked-clause-reads_back : goal.returns-in_ok-extend-in-Ticked-clause-reads_back
returns-in_ok-extend-in-Ticked-clause-reads_back c =
    on_ok_weaker c.show_thread.result (λ shown. subst IsInputBack (sym c.in-Ticked.is) (ticked_back c.in-Ticked.thread)) c.show_thread.ensures.shown

pub returns-in-Closed-clause-reads_back : goal.returns-in-Closed-clause-reads_back
returns-in-Closed-clause-reads_back c =
    on_ok_weaker c.show_channel-in-Closed.result (λ shown. subst IsInputBack (sym c.in-Closed.is) (closed_back c.in-Closed.channel)) c.show_channel-in-Closed.ensures.shown
