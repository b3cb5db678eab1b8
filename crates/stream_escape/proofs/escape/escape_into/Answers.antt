use Rattle.stream_escape.proofs.Scan.{written_plain}
use Rattle.stream_escape.proofs.escape.escape_into.Goals as goal

pub returns-then-is_none-clause-ok : goal.returns-then-is_none-clause-ok
returns-then-is_none-clause-ok c =
    written_plain c.extend.result c.first_escape.result c.is_none.result c.args.out.now c.extend.new.self c.args.message.now c.first_escape.ensures c.is_none.ensures c.if-is_none.true c.extend.ensures.ok
