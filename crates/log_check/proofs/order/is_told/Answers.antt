use Rattle.std.proofs.Common.{◌+◌, List, ap, arith, length, refl, subst}
use Rattle.std.specs.Prelude.{Option, option_map}
use denote.Ref.{Bor}
use Rattle.tcf_text.specs.declared.log.LogLine.{LogLine}
use Rattle.log_check.specs.Heard.{Heard, given_by, told_if, told_of_gift}
use Rattle.log_check.specs.Sorts.{as_accepted}
use Rattle.log_check.proofs.Standing.{stands_first, stands_last, stands_next, stands_not}
use Rattle.log_check.proofs.order.is_told.Goals as goal

pub loop-input-init : goal.loop-input-init
loop-input-init c =
    record {
      stands = stands_first c.args.images.now c.args.listener.channel (as_accepted c.args.listener.commands.now) c.args.inputs.now c.args.lines.now c.in_ok-hub.hub c.in_ok-hub.ensures c.requires.read;
      counted = omega arith;
    }

pub loop-input-preserved : goal.loop-input-preserved
loop-input-preserved c =
    let gift = told_of_gift c.args.listener.channel (c.loop-input.position + 1) (given_by c.in-Some.input.now c.loop-input.hub.target) in
    let hears = subst (λ (r : Option (Bor (List LogLine))). Heard (as_accepted c.args.listener.commands.now) (told_if c.is_live-live.result gift) c.loop-input.rest.now (option_map (λ (b : Bor (List LogLine)). b.now) r)) c.in-Some-2.is c.in_ok-next.ensures.heard in
    let longer = ap length c.in-Some.ensures.some in
    record {
      stands = stands_next c.args.images.now c.args.listener.channel (as_accepted c.args.listener.commands.now) c.args.inputs.now c.loop-input.left.now c.in-Some.after.now c.args.lines.now c.loop-input.rest.now c.in-Some-2.next.now
          c.loop-input.opened c.loop-input.closed c.was_opened-opened.result c.was_closed-closed.result c.is_live-live.result c.loop-input.position (c.loop-input.position + 1) c.loop-input.hub _ c.in-Some.input.now
          c.loop-input.invariant.stands c.in-Some.ensures.some c.was_opened-opened.ensures c.was_closed-closed.ensures c.is_live-live.ensures refl c.in_ok-next.ensures.after hears;
      counted = omega (arith, longer, c.loop-input.invariant.counted);
    }

pub returns-in-None : goal.returns-in-None
returns-in-None c =
    let gift = told_of_gift c.args.listener.channel (c.loop-input.position + 1) (given_by c.in-Some.input.now c.loop-input.hub.target) in
    let mishears = subst (λ (r : Option (Bor (List LogLine))). Heard (as_accepted c.args.listener.commands.now) (told_if c.is_live-live.result gift) c.loop-input.rest.now (option_map (λ (b : Bor (List LogLine)). b.now) r)) c.in-None.is c.in_ok-next.ensures.heard in
    stands_not c.args.images.now c.args.listener.channel (as_accepted c.args.listener.commands.now) c.args.inputs.now c.loop-input.left.now c.in-Some.after.now c.args.lines.now c.loop-input.rest.now
    c.loop-input.opened c.loop-input.closed c.was_opened-opened.result c.was_closed-closed.result c.is_live-live.result c.loop-input.position (c.loop-input.position + 1) c.loop-input.hub c.in-Some.input.now
    c.loop-input.invariant.stands c.in-Some.ensures.some c.was_opened-opened.ensures c.was_closed-closed.ensures c.is_live-live.ensures refl mishears

pub returns : goal.returns
returns c =
    stands_last c.args.images.now c.args.listener.channel (as_accepted c.args.listener.commands.now) c.args.inputs.now c.loop-input.left.now c.args.lines.now c.loop-input.rest.now c.loop-input.opened
    c.loop-input.closed c.loop-input.position c.loop-input.hub c.is_none_owed.result c.loop-input.invariant.stands c.in_default.ensures.none c.is_none_owed.ensures
