use Rattle.tcf_message.proofs.WholeLaws.{found_is, only_is, fault_is, first_is}
use Rattle.tcf_message.proofs.reading.read.Goals as goal

pub returns-clause-found : goal.returns-clause-found
returns-clause-found c = found_is c.args.bytes.now c.whole.result c.whole.ensures

pub returns-clause-only : goal.returns-clause-only
returns-clause-only c = only_is c.args.bytes.now c.whole.result c.whole.ensures

pub returns-clause-fault : goal.returns-clause-fault
returns-clause-fault c = fault_is c.args.bytes.now c.whole.result c.whole.ensures

pub returns-clause-first : goal.returns-clause-first
returns-clause-first c = first_is c.args.bytes.now c.whole.result c.whole.ensures
