use Rattle.data_services.proofs.TheLaws.{order_stays, threads_stay}
use Rattle.data_services.proofs.laws.threads_stay.Goals as goal

pub returns-clause-threads : goal.returns-clause-threads
returns-clause-threads c = threads_stay

pub returns-clause-order : goal.returns-clause-order
returns-clause-order c = order_stays
