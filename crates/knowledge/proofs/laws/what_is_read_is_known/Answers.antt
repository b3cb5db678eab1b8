use Rattle.knowledge.proofs.TheLaws.{read_is_known}
use Rattle.knowledge.proofs.laws.what_is_read_is_known.Goals as goal

pub returns : goal.returns
returns c = read_is_known
