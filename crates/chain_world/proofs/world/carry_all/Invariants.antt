use Rattle.std.proofs.Common.{◌≡◌, ◌++◌, drop, take}
use Rattle.chain_world.specs.World.{all_carried}
use Rattle.chain_world.proofs.world.carry_all.Given as goal

-- those before the index are done, and those from it on come to the same
abbrev pub invariant-loop-chain : goal.invariant-loop-chain
invariant-loop-chain l =
    let rest = all_carried (drop l.chain-index l.chain-items) l.agent in
    let all = all_carried l.initial.chain-items l.initial.agent in
    record {
      chains : take l.chain-index l.chain-items ++ rest.chains ≡ all.chains;
      agent : rest.agent ≡ all.agent;
    }
