use Rattle.std.proofs.Common.{arith}
use Rattle.link_pool.proofs.Indexing.{indexed_issued}
use Rattle.link_pool.proofs.pending.Pending.issue.Goals as goal

pub invariant_of-self-in-Ok : goal.invariant_of-self-in-Ok
invariant_of-self-in-Ok g c =
    indexed_issued c.self.inside.pool.lists c.push.new.self.lists c.self.inside.keys c.reserve.new.self c.insert.new.self c.args.token c.in-Ok.key c.args.item c.insert.result c.unwrap.result
    c.self.invariant (rw c.self.view_is c.requires) c.in-Ok.ensures.pushed c.in-Ok.ensures.lists c.reserve.ensures.entries c.unwrap.ensures c.insert.ensures.old c.insert.ensures.updates c.insert.ensures.len
    (omega (arith, c.len.ensures.len, c.if-len-ge-MOST.false))
