use Rattle.rv32i_core.proofs.Joined.{whole_size, whole_written}
use Rattle.rv32i_core.proofs.ram.Memory.put_own.Goals as goal

pub invariant_of-self : goal.invariant_of-self
invariant_of-self c = whole_written _ _ _ c.self.invariant c.put.ensures.wide

pub returns-clause-size : goal.returns-clause-size
returns-clause-size c = whole_size _ (whole_written _ _ _ c.self.invariant c.put.ensures.wide)
