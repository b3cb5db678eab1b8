use Rattle.knowledge.proofs.Replies.{cache_either}
use Rattle.knowledge.proofs.knowledge.Knowledge.reply.Goals as goal

pub returns-in-MemGet-clause-cache : goal.returns-in-MemGet-clause-cache
returns-in-MemGet-clause-cache c = λ messages cache.
    cache_either messages _ c.args.self.now c.reply_memory.new.self c.reply_memory.result c.reply_memory.ensures.used c.reply_memory.ensures.same cache
