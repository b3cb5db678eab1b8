use Rattle.std.specs.Prelude.{None, Some}
use Rattle.tcf_app.specs.declared.exit.Exit.TheVariants.{Differs}
use Rattle.tcf_app.specs.Texts.{differs_text, ok_text}
use Rattle.tcf_app.proofs.Endings.{made_ends}
use Rattle.tcf_app.proofs.Judging.{verdict_ends, wants_anyhow}
use Rattle.tcf_app.proofs.journal.check_file.Goals as goal

pub returns-in-Ok-None-clause-ends : goal.returns-in-Ok-None-clause-ends
unfolding ok_text
returns-in-Ok-None-clause-ends g c = verdict_ends _ c.in-Ok.journal None _ _ _ c.in-Ok.ensures.ok (rw c.in-Ok-None.field-0-is at c.in-Ok-None.ensures) c.finish.ensures.ends

pub returns-in-Ok-Some-clause-ends : goal.returns-in-Ok-Some-clause-ends
returns-in-Ok-Some-clause-ends g c =
    verdict_ends _ c.in-Ok.journal (Some c.in-Ok-Some.rule) _ _ _ c.in-Ok.ensures.ok (rw c.in-Ok-Some.field-0-is at c.in-Ok-Some.ensures)
    (made_ends c.differs.result (differs_text c.in-Ok-Some.rule) (Differs c.in-Ok-Some.rule) _ _ _ (λ e. cc) c.differs.ensures c.finish_made.ensures.ends c.finish_made.ensures.wanting)

pub returns-in-Ok-clause-ends : goal.returns-in-Ok-clause-ends
returns-in-Ok-clause-ends g c = wants_anyhow _ _

pub returns-clause-ends : goal.returns-clause-ends
returns-clause-ends g c = wants_anyhow _ _
