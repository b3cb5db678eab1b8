use Rattle.tcf_app.proofs.Noting.{reads_either}
use Rattle.tcf_app.proofs.reading.read_file.Goals as goal

pub returns-clause-reads : goal.returns-clause-reads
returns-clause-reads g c = reads_either c.read_next.result _ _ _ c.read_next.ensures.noted c.read_next.ensures.part_noted
