use Rattle.std.proofs.Common.{arith, rules}
use Rattle.knowledge.specs.KnowledgeValue.{IsAfter}
use Rattle.knowledge.specs.Rows.{joined}
use Rattle.knowledge.proofs.Steps.{each_done, each_next}
use Rattle.knowledge.proofs.knowledge.Knowledge.join_contexts.Goals as goal

pub loop-context-preserved : goal.loop-context-preserved
loop-context-preserved c =
    let done : IsAfter (joined c.context-item.result) c.loop-context.self c.join.new.self = search rules in
    each_next joined c.args.list.now c.loop-context.context-index c.context-item.result c.context-item.result (omega arith) c.context-item.is done c.loop-context.invariant

pub returns : goal.returns
returns c = each_done joined c.args.list.now c.loop-context.context-index (omega arith) c.loop-context.invariant
