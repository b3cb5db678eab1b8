use Rattle.std.proofs.Common.{ap, sym, ◌∙◌}
use Rattle.agent_node.specs.Agent.{channel_of}
use Rattle.agent_node.specs.Channels.{end_in}
use Rattle.chain_world.specs.Chain.{queue_of}
use Rattle.chain_route.specs.Route.{sent_down}
use Rattle.chain_world.proofs.Queued.{agent_goes_on, agent_is_done}
use Rattle.chain_world.proofs.Routes.{sent_down_on}
use Rattle.chain_world.proofs.chain.carry_from_agent.Goals as goal

pub loop-out-smaller : goal.loop-out-smaller
loop-out-smaller c =
    let goes = agent_goes_on c.args.k c.loop-out.agent c.take_out.new.self c.in-Some.out (sym c.in-Some.ensures.given) c.in-Some.ensures.after in
    goes.fewer

pub loop-out-preserved : goal.loop-out-preserved
loop-out-preserved c =
    let goes = agent_goes_on c.args.k c.loop-out.agent c.take_out.new.self c.in-Some.out (sym c.in-Some.ensures.given) c.in-Some.ensures.after in
    let left = queue_of (end_in (channel_of c.args.k c.take_out.new.self)) in
    record {
      agent = goes.same ∙ c.loop-out.invariant.agent;
      route =
          ap (sent_down left) c.in_ok-send_down.ensures ∙ sent_down_on c.in-Some.out left c.loop-out.route
          ∙ ap (λ outs. sent_down outs c.loop-out.route) (sym goes.queue) ∙ c.loop-out.invariant.route;
    }

pub returns-clause-agent : goal.returns-clause-agent
returns-clause-agent c =
    let done = agent_is_done c.args.k c.loop-out.agent c.take_out.new.self (sym c.take_out.ensures.given ∙ c.in_default.is) c.take_out.ensures.after in
    done.same ∙ c.loop-out.invariant.agent
