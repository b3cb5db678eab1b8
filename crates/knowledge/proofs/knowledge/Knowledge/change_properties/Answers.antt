use Rattle.std.proofs.Common.{arith, rules}
use Rattle.knowledge.specs.KnowledgeValue.{IsAfter}
use Rattle.knowledge.specs.Rows.{told_properties}
use Rattle.knowledge.proofs.Steps.{each_done, each_next}
use Rattle.knowledge.proofs.knowledge.Knowledge.change_properties.Goals as goal

pub loop-properties-preserved : goal.loop-properties-preserved
loop-properties-preserved c =
    let done : IsAfter (told_properties c.properties-item.result) c.loop-properties.self c.drop_status.new.self = search rules in
    each_next told_properties c.args.list.now c.loop-properties.properties-index c.properties-item.result c.properties-item.result (omega arith) c.properties-item.is done c.loop-properties.invariant

pub returns : goal.returns
returns c = each_done told_properties c.args.list.now c.loop-properties.properties-index (omega arith) c.loop-properties.invariant
