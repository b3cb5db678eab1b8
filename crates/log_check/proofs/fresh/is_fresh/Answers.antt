use Rattle.std.proofs.Common.{subst, sym}
use Rattle.log_check.specs.Barriers.{AreBarriers}
use Rattle.log_check.specs.Sorts.{AreOfLog}
use Rattle.log_check.proofs.Freshness.{fresh_nowhere, fresh_whole}
use Rattle.log_check.proofs.Options.{ok_then}
use Rattle.log_check.proofs.fresh.is_fresh.Goals as goal

pub returns-in_default : goal.returns-in_default
returns-in_default c = fresh_nowhere c.args.images.now c.args.inputs.now c.args.lines.now c.requires.placed c.in_default.ensures.none

pub returns : goal.returns
returns c =
    let of = subst (AreOfLog c.args.lines.now) (sym c.as_slice-commands.ensures.value) c.in_ok-found.ensures in
    ok_then c.are_fresh.result _ _
    (λ flag tells.
    fresh_whole c.args.images.now c.args.inputs.now c.args.lines.now c.as_slice-commands.result.now c.as_slice.result.now c.in-Some.channel c.in_ok-hub.hub flag c.in_ok-hub.ensures of
    c.in-Some.ensures.some (λ l is. subst (AreBarriers l c.args.inputs.now c.in-Some.channel) (sym c.as_slice.ensures.value) (c.in_ok-barriers.ensures l is)) c.requires.placed tells)
    c.are_fresh.ensures
