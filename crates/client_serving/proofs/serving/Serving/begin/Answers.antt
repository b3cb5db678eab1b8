use Rattle.std.proofs.Common.{None, Some, ap}
use Rattle.client_node.specs.Client.{opened}
use Rattle.client_node.specs.ClientValue.{ClientValue}
use Rattle.serving_wires.specs.Sending.{begun as begun_on}
use Rattle.client_serving.specs.Serving.{opened_with, went_on}
use Rattle.client_serving.proofs.Heeding.{tells_of}
use Rattle.client_serving.proofs.serving.Serving.begin.Goals as goal

pub returns : goal.returns
returns c =
    tells_of (went_on (opened_with c.args.peer.now c.args.channel c.args.script.now)) _ c.open.new.self (begun_on c.args.channel c.args.sending.now) c.begin.new.self c.open.new.sending
    (ap (λ (k : ClientValue). went_on (record { peer = c.args.peer.now; channel = Some c.args.channel; client = opened k; left = c.args.script.now; end = None })) c.in_ok-new.ensures)
    c.in_ok-begin.ensures c.in_ok-open.ensures
