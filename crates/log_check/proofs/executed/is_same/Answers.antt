use Rattle.std.proofs.Common.{arith}
use Rattle.log_check.proofs.Options.{ok_then}
use Rattle.log_check.proofs.Running.{same_read}
use Rattle.log_check.proofs.executed.is_same.Goals as goal

pub returns : goal.returns
returns c =
    let alike = c.if-not-is_named_alike.false in
    ok_then c.is_same_reading.result _ _
    (λ flag same. same_read c.args.sent.now c.args.executed c.in_ok-reading.reading c.is_named_alike.result flag c.is_named_alike.ensures (grind (arith, alike)) c.in_ok-reading.ensures.reading same)
    c.is_same_reading.ensures
