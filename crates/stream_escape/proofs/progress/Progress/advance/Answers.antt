use Rattle.std.proofs.Common.{arith, ◌∙◌, ap, sym}
use Rattle.std.proofs.lemmas.Result.{err_from_is_err_and}
use Rattle.stream_escape.specs.Progress.{ending_of}
use Rattle.stream_escape.proofs.Steps.{blocked_end, blocked_escape, advance_escape, advance_run, blocked_run}
use Rattle.stream_escape.proofs.progress.Progress.advance.Goals as goal

pub returns-in_err-self-inside-in-InEscape-clause-blocked : goal.returns-in_err-self-inside-in-InEscape-clause-blocked
returns-in_err-self-inside-in-InEscape-clause-blocked c =
    let p = err_from_is_err_and c.from_residual.result c.from_residual.ensures.1 in
    rw (p.1, p.2) (blocked_escape c.args.offset c.args.self.now c.self.inside.part c.args.bytes.now c.in_err-self-inside-in-InEscape.field-0.0 (omega arith) (sym c.self.view_is ∙ ap (λ p. ending_of p c.self.inside.part) c.in-InEscape.is) c.in_err-self-inside-in-InEscape.ensures.blocked)

pub returns-in-InMessage-clause-ok : goal.returns-in-InMessage-clause-ok
returns-in-InMessage-clause-ok c =
    advance_escape c.args.self.now c.self.inside.part c.args.bytes.now c.args.items.now.items (omega arith) (omega arith)
    (sym c.self.view_is ∙ ap (λ p. ending_of p c.self.inside.part) c.in-InMessage.is)

pub returns-in-InMessage-2-clause-ok : goal.returns-in-InMessage-2-clause-ok
returns-in-InMessage-2-clause-ok c =
    advance_run c.take_run.result c.args.self.now (ending_of c.self.inside.place c.take_run.new.part) c.self.inside.part c.take_run.new.part c.args.bytes.now c.args.items.now.items
    (sym c.self.view_is ∙ ap (λ p. ending_of p c.self.inside.part) c.in-InMessage.is) (ap (λ p. ending_of p c.take_run.new.part) c.in-InMessage.is) c.take_run.ensures.run c.take_run.ensures.ok c.take_run.ensures.room

pub returns-in-InMessage-2-clause-blocked : goal.returns-in-InMessage-2-clause-blocked
returns-in-InMessage-2-clause-blocked c =
    blocked_run c.take_run.result c.args.offset c.args.self.now c.self.inside.part c.args.bytes.now (omega arith) (omega arith)
    (sym c.self.view_is ∙ ap (λ p. ending_of p c.self.inside.part) c.in-InMessage.is) c.take_run.ensures.full c.take_run.ensures.limit

pub returns-in-AtEnd-clause-blocked : goal.returns-in-AtEnd-clause-blocked
returns-in-AtEnd-clause-blocked c =
    blocked_end c.args.offset c.args.self.now c.args.bytes.now (omega arith) (sym c.self.view_is ∙ ap (λ p. ending_of p c.self.inside.part) c.in-AtEnd.is)
