use Rattle.std.proofs.Common.{add-one, ◌∙◌}
use Rattle.indexmap.proofs.CallerLemmas.{index_map_len-with_value_at}
use Rattle.breakpoints.proofs.Written.{step_written}
use Rattle.breakpoints.proofs.tally.forget.Goals as goal

-- one more is changed
pub loop-index-preserved : goal.loop-index-preserved
loop-index-preserved c = record {
  changed = rw (c.forget.ensures, add-one) (step_written _ c.loop-index.rows.entries c.loop-index.index c.index_mut.result.now c.index_mut.ensures.value ∙ c.loop-index.invariant.changed);
  same = index_map_len-with_value_at c.loop-index.rows c.loop-index.index _ ∙ c.loop-index.invariant.same;
}
