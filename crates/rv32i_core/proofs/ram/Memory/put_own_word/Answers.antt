use Rattle.rv32i_core.proofs.Joined.{whole_written}
use Rattle.rv32i_core.proofs.ram.Memory.put_own_word.Goals as goal

pub invariant_of-self : goal.invariant_of-self
invariant_of-self c = whole_written _ _ _ c.self.invariant c.put_word.ensures.wide
