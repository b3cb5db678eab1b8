-- The laws of contexts, as terms.
use Rattle.target_contexts.specs.Laws.{BeginsOneThread, ChangeStaysOrderly, ChangesOne, ChangesOneThread, EndStaysOrderly, EndsOne, PutBackChangesNothing, StartStaysOrderly, StartsOne, ThreadPutBack}
use Rattle.target_contexts.specs.Loaded.{FileIsLoaded, OthersStandAtZero, RegistersAreZero}
use Rattle.target_contexts.specs.Short.{BeginStaysShort, ChangeStaysShort, EndStaysShort, FoundIsShort, StartStaysShort, ThreadStaysShort}
use Rattle.target_contexts.specs.Whole.{BeginStaysWhole, StartIsWhole, StartStands}
use Rattle.target_contexts.proofs.Begun as begun
use Rattle.target_contexts.proofs.Lookup as lookup
use Rattle.target_contexts.proofs.Orderly.{change_orderly, end_orderly, start_orderly}
use Rattle.target_contexts.proofs.PutBack as back
use Rattle.target_contexts.proofs.Short as short
use Rattle.target_contexts.proofs.ThreadLists as threads
use Rattle.target_contexts.proofs.Whole as whole

pub starts_one : StartsOne
starts_one = lookup.starts_one

pub changes_one : ChangesOne
changes_one = lookup.changes_one

pub put_back : PutBackChangesNothing
put_back = back.put_back

pub ends_one : EndsOne
ends_one = lookup.ends_one

pub start_stays_orderly : StartStaysOrderly
start_stays_orderly = start_orderly

pub change_stays_orderly : ChangeStaysOrderly
change_stays_orderly = change_orderly

pub end_stays_orderly : EndStaysOrderly
end_stays_orderly = end_orderly

pub found_is_short : FoundIsShort
found_is_short = short.found_is_short

pub start_stays_short : StartStaysShort
start_stays_short = short.start_stays_short

pub change_stays_short : ChangeStaysShort
change_stays_short = short.change_stays_short

pub end_stays_short : EndStaysShort
end_stays_short = short.end_stays_short

pub start_is_whole : StartIsWhole
start_is_whole = whole.start_whole

pub start_stands : StartStands
start_stands = whole.start_stands

pub file_is_loaded : FileIsLoaded
file_is_loaded = begun.file_loaded

pub others_stand_at_zero : OthersStandAtZero
others_stand_at_zero = begun.others_at_zero

pub registers_are_zero : RegistersAreZero
registers_are_zero = begun.registers_zero

pub changes_one_thread : ChangesOneThread
changes_one_thread = threads.changes_one_thread

pub begins_one_thread : BeginsOneThread
begins_one_thread = threads.begins_one_thread

pub thread_put_back : ThreadPutBack
thread_put_back = threads.thread_back

pub begin_stays_short : BeginStaysShort
begin_stays_short = short.begin_stays_short

pub thread_stays_short : ThreadStaysShort
thread_stays_short = short.thread_stays_short

pub begin_stays_whole : BeginStaysWhole
begin_stays_whole = whole.begin_whole
