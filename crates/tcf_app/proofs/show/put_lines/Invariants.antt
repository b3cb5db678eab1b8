use Rattle.std.proofs.Common.{◌≡◌, length}
use Rattle.tcf_app.proofs.Stands.{Standing}
use Rattle.tcf_app.proofs.show.put_lines.Given as goal

abbrev pub invariant-loop-rest : goal.invariant-loop-rest
invariant-loop-rest g l =
    record {
      stands : Standing l.file l.rest l.shower.unescape l.shower.place (g.S.Sink.seen l.initial.out) (g.S.Sink.seen l.out);
      calm : (g.S.Sink.seen l.out).faults ≡ (g.S.Sink.seen l.initial.out).faults;
    }

abbrev pub decreases-loop-rest : goal.decreases-loop-rest
decreases-loop-rest g l = length l.rest
