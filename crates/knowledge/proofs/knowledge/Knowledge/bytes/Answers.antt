use Rattle.std.proofs.Common.{ap, ◌∙◌}
use Rattle.block_store.specs.Store.{covered}
use Rattle.knowledge.specs.KnowledgeValue.{KnowledgeValue}
use Rattle.knowledge.proofs.Blocks.{read_known}
use Rattle.knowledge.proofs.knowledge.Knowledge.bytes.Goals as goal

pub returns-clause-known : goal.returns-clause-known
returns-clause-known c =
    read_known c.args.process c.args.addr c.args.size c.args.self.now.blocks c.cover.result
    (c.cover.ensures.value ∙ ap (λ (value : KnowledgeValue). covered c.args.process c.args.addr c.args.size value.blocks) c.self.view_is)
