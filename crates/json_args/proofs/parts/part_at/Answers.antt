use Rattle.std.proofs.Common.{◌≡◌, ◌-◌, slice_get, sym, ◌∙◌, ap, arith}
use Rattle.json_args.specs.Parts.{parts_of}
use Rattle.json_args.proofs.Splits.{first_part}
use Rattle.json_args.proofs.parts.part_at.Goals as goal

pub returns : goal.returns
returns c =
    let all_passed : c.args.index - c.loop-step._step ≡ 0 = omega arith in
    sym (c.loop-step.invariant.1 ∙ (ap (slice_get (parts_of c.loop-step.rest.now)) all_passed ∙ first_part _ _ _ c.in_ok-cut_at.ensures.cut))
