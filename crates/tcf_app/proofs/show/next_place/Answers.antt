use Rattle.std.proofs.Common.{arith, ap, ◌==◌, count_by}
use Rattle.tcf_app.proofs.Frames.{length_framed}
use Rattle.tcf_app.proofs.show.next_place.Goals as goal

pub returns-in-Message : goal.returns-in-Message
returns-in-Message c =
    rw c.in-Message.is (omega (arith, length_framed c.in-Message.bytes, ap (λ bytes. count_by (λ byte. byte == 3) bytes) c.as_slice.ensures))
