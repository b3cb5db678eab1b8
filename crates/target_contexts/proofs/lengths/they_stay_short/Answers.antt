use Rattle.target_contexts.proofs.TheLaws.{begin_stays_short, change_stays_short, end_stays_short, found_is_short, start_stays_short, thread_stays_short}
use Rattle.target_contexts.proofs.lengths.they_stay_short.Goals as goal

pub returns : goal.returns
returns c = record {
  found = found_is_short;
  start = start_stays_short;
  change = change_stays_short;
  end = end_stays_short;
  begin = begin_stays_short;
  thread = thread_stays_short;
}
