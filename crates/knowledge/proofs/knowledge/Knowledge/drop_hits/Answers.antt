use Rattle.std.proofs.Common.{arith, rules}
use Rattle.knowledge.specs.KnowledgeValue.{IsAfter}
use Rattle.knowledge.specs.Rows.{hit_breakpoint}
use Rattle.knowledge.proofs.Steps.{each_done, each_next}
use Rattle.knowledge.proofs.knowledge.Knowledge.drop_hits.Goals as goal

pub loop-id-preserved : goal.loop-id-preserved
loop-id-preserved c =
    let done : IsAfter (hit_breakpoint c.id-item.result) c.loop-id.self c.drop_status.new.self = search rules in
    each_next hit_breakpoint c.args.hits.now c.loop-id.id-index c.id-item.result c.id-item.result (omega arith) c.id-item.is done c.loop-id.invariant

pub returns : goal.returns
returns c = each_done hit_breakpoint c.args.hits.now c.loop-id.id-index (omega arith) c.loop-id.invariant
