use Rattle.std.proofs.Common.{refl, sym}
use Rattle.agent_serving.proofs.Given.{given_on}
use Rattle.agent_serving.proofs.passing.pass_on.Goals as goal

pub loop-came-preserved-in_ok-is_over-2 : goal.loop-came-preserved-in_ok-is_over-2
loop-came-preserved-in_ok-is_over-2 c =
    given_on c.args.channel c.waiting.result c.loop-came.is_over c.in_ok-is_over-2.field-0 _ c.loop-came.intake c.next.new.self c.in-Some.came c.loop-came.agent c.give.new.agent c.make_room-in-Some.new.agent _
    c.waiting.ensures (sym c.in-Some.ensures.next) c.next.ensures.left c.in_ok-give.ensures c.in_ok-is_over-2.ensures.agent c.in_ok-is_over-2.ensures.over refl c.loop-came.invariant
