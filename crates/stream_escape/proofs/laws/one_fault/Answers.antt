use Rattle.stream_escape.proofs.TheLaws.{not_both, one_fault}
use Rattle.stream_escape.proofs.laws.one_fault.Goals as goal

pub returns : goal.returns
returns c = record { one = one_fault; unread = not_both }
