use Rattle.channel_laws.proofs.TheLaws.{ends_by_its_calls, faults_are_there}
use Rattle.channel_laws.proofs.laws.an_end_closes_by_a_fault_only_so.Goals as goal

pub returns-clause-faults : goal.returns-clause-faults
returns-clause-faults g c = faults_are_there

pub returns-clause-calls : goal.returns-clause-calls
returns-clause-calls g c = ends_by_its_calls
