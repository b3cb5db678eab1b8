use Rattle.std.proofs.Common.{arith}
use Rattle.stream_escape.proofs.Scan.{run_within}
use Rattle.stream_escape.proofs.progress.take_run.Goals as goal

pub returns-clause-run : goal.returns-clause-run
returns-clause-run c =
    run_within c.args.bytes.now c.min-room.result c.unwrap_or-count.result c.first_escape.result c.requires.plain (omega arith) (omega arith) c.first_escape.ensures c.unwrap_or-count.ensures
