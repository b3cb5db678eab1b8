use Rattle.target_contexts.proofs.TheLaws.{begins_one_thread, changes_one_thread, thread_put_back}
use Rattle.target_contexts.proofs.laws.a_thread_changes_alone.Goals as goal

pub returns : goal.returns
returns c = record {
  change = changes_one_thread;
  back = thread_put_back;
  begin = begins_one_thread;
}
