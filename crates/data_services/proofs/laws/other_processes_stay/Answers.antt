use Rattle.data_services.proofs.Lawful.{other_threads_stay, others_stay}
use Rattle.data_services.proofs.laws.other_processes_stay.Goals as goal

pub returns : goal.returns
returns c = record { processes = others_stay; threads = other_threads_stay }
