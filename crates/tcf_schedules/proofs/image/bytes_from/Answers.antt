use Rattle.std.proofs.Common.{◌≡◌, false, inl, inr}
use Rattle.std.specs.Prelude.{bytes_eq}
use Rattle.tcf_schedules.specs.Words.{dash_word}
use Rattle.tcf_schedules.proofs.Images.{digits_decode}
use Rattle.tcf_schedules.proofs.image.bytes_from.Goals as goal

pub unreachable-requires : goal.unreachable-requires
unreachable-requires c =
    let some : bytes_eq c.args.digits.now dash_word ≡ false = cc in
    elim c.in-Err.ensures.err [
      | inl memory ↦ c.in_default.not-OutOfMemory memory
      | inr fault ↦ digits_decode c.args.digits.now c.in-Err.fault c.requires some fault
    ]
