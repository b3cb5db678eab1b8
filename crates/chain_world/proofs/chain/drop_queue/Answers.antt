use Rattle.std.proofs.Common.{◌≡◌, true, false, sym, ◌∙◌}
use Rattle.std.specs.Prelude.{is_some}
use Rattle.chain_world.proofs.Queued.{agent_gives, agent_gives_none}
use Rattle.chain_world.proofs.chain.drop_queue.Goals as goal

pub loop-smaller : goal.loop-smaller
loop-smaller c =
    let some : is_some c.take_out.result ≡ true = sym c.is_some.ensures ∙ c.if-is_some.true in
    let gives = agent_gives c.args.k c.loop.agent c.take_out.new.self c.take_out.result c.take_out.ensures.given c.take_out.ensures.after some in
    gives.fewer

pub loop-preserved : goal.loop-preserved
loop-preserved c =
    let some : is_some c.take_out.result ≡ true = sym c.is_some.ensures ∙ c.if-is_some.true in
    let gives = agent_gives c.args.k c.loop.agent c.take_out.new.self c.take_out.result c.take_out.ensures.given c.take_out.ensures.after some in
    gives.same ∙ c.loop.invariant

pub returns : goal.returns
returns c =
    let none : is_some c.take_out.result ≡ false = sym c.is_some.ensures ∙ c.if-is_some.false in
    let done = agent_gives_none c.args.k c.loop.agent c.take_out.new.self c.take_out.result c.take_out.ensures.given c.take_out.ensures.after none in
    done.same ∙ c.loop.invariant
