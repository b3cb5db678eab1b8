use Rattle.std.proofs.Common.{◌≡◌, length}
use Rattle.chain_world.specs.Chain.{client_emptied, queue_of}
use Rattle.chain_route.specs.Route.{sent_up}
use Rattle.chain_world.proofs.chain.carry_from_client.Given as goal

-- what is queued yet and then all come to the same, and the client without its queue is the same
abbrev pub invariant-loop-out : goal.invariant-loop-out
invariant-loop-out l = record {
  client : client_emptied l.client ≡ client_emptied l.initial.client;
  route : sent_up (queue_of l.client.channel) l.route ≡ sent_up (queue_of l.initial.client.channel) l.initial.route;
}

abbrev pub decreases-loop-out : goal.decreases-loop-out
decreases-loop-out l = length (queue_of l.client.channel)
