use Rattle.std.proofs.Common.{◌≡◌, ap, sym, ◌∙◌, subst}
use Rattle.std.specs.Prelude.{OnOk}
use Rattle.cache_learning.specs.Lessons.{answer_message}
use Rattle.value_store.specs.Learning.{lesson_of, taught}
use Rattle.value_store.proofs.Learned.{heard_is, heard_nothing, store_of}
use Rattle.value_store.proofs.store.Store.hear_answer.Goals as goal

pub returns-in-Some : goal.returns-in-Some
returns-in-Some c =
    subst (λ command. OnOk c.hear_answer.result (store_of c.hear_answer.new.cache c.self.inside.mark ≡ taught (lesson_of command c.args.body.now) c.args.self.now)) (sym c.in-Some.is)
    (heard_is c.hear_answer.result
    (answer_message c.in-Some.command c.args.body.now) c.self.inside.cache c.hear_answer.new.cache c.self.inside.mark c.args.self.now c.self.view_is
    c.hear_answer.ensures.learned)

pub returns-in-None : goal.returns-in-None
returns-in-None c =
    heard_nothing c.self.inside.cache c.self.inside.mark c.args.self.now c.self.view_is ∙ ap (λ command. taught (lesson_of command c.args.body.now) c.args.self.now) (sym c.in-None.is)
