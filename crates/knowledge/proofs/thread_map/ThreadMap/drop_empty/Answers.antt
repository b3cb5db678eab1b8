use Rattle.std.proofs.Common.{◌∙◌}
use Rattle.knowledge.proofs.Keys.{empty_gone}
use Rattle.knowledge.proofs.thread_map.ThreadMap.drop_empty.Goals as goal

pub returns-then-is_empty_at : goal.returns-then-is_empty_at
returns-then-is_empty_at g c = λ p t.
    c.drop_process.ensures p t ∙ empty_gone c.args.process c.args.self.now (c.is_empty_at.ensures c.if-is_empty_at.true) p t
