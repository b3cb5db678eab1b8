-- The laws of commands on data, as terms.
use Rattle.data_services.specs.Laws.{FailureChangesNothing, OrderStays, ThreadsStay}
use Rattle.data_services.specs.Short.{ShortStays}
use Rattle.data_services.proofs.Lawful as lawful
use Rattle.data_services.proofs.Short as short
use Rattle.data_services.proofs.Threads as threads

pub failure_changes_nothing : FailureChangesNothing
failure_changes_nothing = lawful.failure_changes_nothing

pub threads_stay : ThreadsStay
threads_stay = threads.threads_stay

pub order_stays : OrderStays
order_stays = threads.order_stays

pub short_stays : ShortStays
short_stays = short.short_stays
