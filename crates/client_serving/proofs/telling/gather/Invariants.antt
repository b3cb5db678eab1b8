use Rattle.std.proofs.Common.{◌≡◌, length}
use Rattle.client_serving.specs.Begun.{all_queued}
use Rattle.client_serving.specs.Serving.{client_emptied, queue_of}
use Rattle.client_serving.proofs.telling.gather.Given as goal

-- what the client still has and then all come to the same, and the client without it is the same
abbrev pub invariant-loop-outgoing : goal.invariant-loop-outgoing
invariant-loop-outgoing l = record {
  client : client_emptied l.client ≡ client_emptied l.initial.client;
  queue : all_queued l.channel (queue_of l.client.channel) l.sending ≡ all_queued l.channel (queue_of l.initial.client.channel) l.initial.sending;
}

abbrev pub decreases-loop-outgoing : goal.decreases-loop-outgoing
decreases-loop-outgoing l = length (queue_of l.client.channel)
