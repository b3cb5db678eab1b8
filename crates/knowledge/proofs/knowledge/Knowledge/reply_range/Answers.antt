use Rattle.std.proofs.Common.{rules, ◌≡◌, List, None, ap, sym}
use Rattle.block_store.specs.Store.{covered}
use Rattle.block_store.specs.declared.block.Block.{Block}
use Rattle.knowledge.specs.KnowledgeValue.{KnowledgeValue}
use Rattle.knowledge.proofs.Replies.{unused}
use Rattle.knowledge.proofs.knowledge.Knowledge.reply_range.Goals as goal

pub returns-in-None-clause-used : goal.returns-in-None-clause-used
returns-in-None-clause-used c =
    let value : KnowledgeValue = c.args.self.now in
    let none : covered c.args.asked.process c.args.asked.addr c.args.asked.size value.blocks ≡ None = search rules in
    sym (ap (λ (blocks : List Block). record value { blocks = blocks }) (unused c.args.asked value.blocks none))
