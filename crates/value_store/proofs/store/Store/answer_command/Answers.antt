use Rattle.std.proofs.Common.{ap, sym, ◌∙◌}
use Rattle.value_store.specs.Learning.{data_of}
use Rattle.value_store.proofs.Answered.{always, found_is, known_answer, told_as, used_store, within_used}
use Rattle.value_store.proofs.store.Store.answer_command.Goals as goal

pub invariant_of-self-2 : goal.invariant_of-self-2
invariant_of-self-2 c = within_used c.args.command.now c.self.inside.cache c.reply.new.self c.in_ok-answer.field-0 c.in_ok-answer.ensures.answer c.self.invariant

pub returns-clause-answer : goal.returns-clause-answer
returns-clause-answer c =
    told_as c.data_of.result _ _
    (ap (data_of c.args.command.now) (sym c.in-Some.is)
    ∙ found_is c.args.command.now c.self.inside.cache c.reply.new.self c.in_ok-answer.field-0 c.self.inside.mark c.args.self.now c.self.view_is
    c.in_ok-answer.ensures.answer)
    c.data_of.ensures.value

pub returns-clause-used : goal.returns-clause-used
returns-clause-used c =
    always c.data_of.result
    (used_store c.args.command.now c.self.inside.cache c.reply.new.self c.in_ok-answer.field-0 c.self.inside.mark c.args.self.now c.self.view_is
    c.in_ok-answer.ensures.answer)

pub returns-in_default-clause-answer : goal.returns-in_default-clause-answer
returns-in_default-clause-answer c =
    sym (ap (data_of c.args.command.now) c.in_default.is)
    ∙ found_is c.args.command.now c.self.inside.cache c.reply.new.self c.in_ok-answer.field-0 c.self.inside.mark c.args.self.now c.self.view_is
    c.in_ok-answer.ensures.answer

pub returns-in_default-clause-used : goal.returns-in_default-clause-used
returns-in_default-clause-used c =
    used_store c.args.command.now c.self.inside.cache c.reply.new.self c.in_ok-answer.field-0 c.self.inside.mark c.args.self.now c.self.view_is
    c.in_ok-answer.ensures.answer

pub data_of-requires : goal.data_of-requires
data_of-requires c =
    known_answer c.args.command.now c.self.inside.cache c.reply.new.self c.in-Some.answer (ap (λ found. (found, c.reply.new.self)) (sym c.in-Some.is) ∙ c.in_ok-answer.ensures.answer) c.self.invariant
