use Rattle.std.proofs.Common.{rules, ◌≡◌, ◌+◌, ◌<◌, ◌≤◌, length, arith}
use Rattle.std.specs.Prelude.{◌^◌, sum_by}
use Rattle.agent_node.specs.Agent.{channel_of, waiting_at}
use Rattle.chain_world.proofs.Counted.{sum_fits}
use Rattle.chain_world.proofs.chain.Chain.waiting_up.Goals as goal

pub overflow_add-result : goal.overflow_add-result
overflow_add-result c =
    let earlier = c.args.self.now.earlier in
    let all : c.sum-before.result ≡ sum_by (λ k. waiting_at (channel_of k c.args.agent.now)) earlier = search rules in
    let few : length earlier < 18446744073709551616 = search rules in
    let one : c.match-self.last ≤ 18446744073709551615 = omega arith in
    let fits : c.sum-before.result + c.match-self.last < 2 ^ 128 = sum_fits c.args.agent.now earlier c.sum-before.result c.match-self.last all few one in
    omega (arith, fits)
