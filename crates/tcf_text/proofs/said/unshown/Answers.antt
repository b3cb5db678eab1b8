use Rattle.tcf_text.proofs.Read.{read_on}
use Rattle.tcf_text.proofs.said.unshown.Goals as goal

pub loop-rest-preserved : goal.loop-rest-preserved
loop-rest-preserved c = read_on c.args.text.now c.loop-rest.rest.now c.in-Some.after.now c.loop-rest.out c.push.new.self c.in-Some.byte c.loop-rest.invariant c.in-Some.ensures c.in_ok-push-in-Some.ensures.ok
