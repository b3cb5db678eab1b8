use Rattle.std.proofs.Common.{get_or, pos, arith, refl}
use Rattle.tcf_values.specs.declared.values.Range.{Range}
use Rattle.knowledge.specs.Rows.{changed_range}
use Rattle.knowledge.proofs.Steps.{each_done, each_next}
use Rattle.knowledge.proofs.knowledge.Knowledge.change_ranges.Goals as goal

pub loop-range-preserved : goal.loop-range-preserved
loop-range-preserved c =
    let none : Range = record { addr = pos 0; size = pos 0 } in
    let item : Range = get_or c.args.list.now c.loop-range.range-index none in
    each_next (changed_range c.args.process) c.args.list.now c.loop-range.range-index item none (omega arith) refl c.change_range.ensures c.loop-range.invariant

pub returns : goal.returns
returns c = each_done (changed_range c.args.process) c.args.list.now c.loop-range.range-index (omega arith) c.loop-range.invariant
