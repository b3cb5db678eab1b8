use Rattle.rv32i_core.proofs.Owned.{one_becomes}
use Rattle.rv32i_core.proofs.ram.Memory.set_byte.Goals as goal

pub returns-clause-pages : goal.returns-clause-pages
returns-clause-pages c = one_becomes _ _ _ c.put.ensures.kinds c.put.ensures.spare
