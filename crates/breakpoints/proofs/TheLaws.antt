-- The laws of the list, as terms.
use Rattle.breakpoints.specs.Laws.{CountsTellHits, DropsOne, GoneOwnsNothing, HitsAreListed, RaisesOne, StaysOrderly, StepsKeepOrder}
use Rattle.breakpoints.proofs.Counting as counting
use Rattle.breakpoints.proofs.Raising as raising
use Rattle.breakpoints.proofs.Runs as runs
use Rattle.breakpoints.proofs.Tests as tests

pub list_stays_orderly : StaysOrderly
list_stays_orderly = runs.stays_orderly

pub steps_keep_order : StepsKeepOrder
steps_keep_order = runs.orderly_step

pub gone_owns_nothing : GoneOwnsNothing
gone_owns_nothing = runs.gone_owns_nothing

pub hits_are_listed : HitsAreListed
hits_are_listed = counting.hits_are_listed

pub raises_one : RaisesOne
raises_one = raising.raises_one

pub drops_one : DropsOne
drops_one = raising.drops_one

pub counts_tell_hits : CountsTellHits
counts_tell_hits = tests.counts_tell_hits
