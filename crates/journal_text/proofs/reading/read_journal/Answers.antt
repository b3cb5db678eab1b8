use Rattle.std.proofs.Common.{arith}
use Rattle.journal_text.proofs.Reaching.{reached_next}
use Rattle.journal_text.proofs.reading.read_journal.Goals as goal

pub loop-rest-preserved : goal.loop-rest-preserved
loop-rest-preserved c =
    record {
      reached = reached_next c.args.file.now c.loop-rest.rest.now c.cut_line.result.0.now c.cut_line.result.1.now c.loop-rest.number c.loop-rest.reading c.take_line.new.self
          c.loop-rest.invariant.reached c.cut_line.ensures.lines c.in_ok-take_line.ensures.ok;
      counted = omega arith;
    }
