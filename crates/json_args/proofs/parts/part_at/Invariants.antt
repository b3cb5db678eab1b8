use Rattle.std.proofs.Common.{◌≡◌, ◌-◌, slice_get}
use Rattle.json_args.specs.Parts.{Parts, parts_of}
use Rattle.json_args.proofs.parts.part_at.Given as goal

abbrev pub invariant-loop-step : goal.invariant-loop-step
invariant-loop-step l =
    Parts (parts_of l.rest) l.rest × (slice_get (parts_of l.initial.rest) l.index ≡ slice_get (parts_of l.rest) (l.index - l._step))
