-- What the laws say of each value-add.
use Rattle.std.proofs.Common.{List, [], ◌++◌, None}
use Rattle.std.specs.Prelude.{unwrap_or}
use Rattle.channel_core.specs.ReceivingLaws.{CanBeRead}
use Rattle.value_node.specs.Deeds.{Deed, deeds_from}
use Rattle.value_node.specs.RelayLaws.{EndsAreRuns}
use Rattle.value_node.specs.Runs.{UpperCall, above, below, no_calls}
use Rattle.value_node.specs.Value.{value_services}
use Rattle.chain_route.proofs.Unheard.{readable_by, value_hello}
use Rattle.chain_route.specs.Carrying.{Made, past_of}
use Rattle.chain_route.proofs.Adds.{run_of}
use Rattle.channel_core.proofs.TheLaws.{queues_readable}
use Rattle.value_node.proofs.TheLaws.{ends_are_runs}

-- ---- A value-add that was made

-- what it has done since it was bound
abbrev pub deeds_of : Made → List Deed
deeds_of m = deeds_from m.calls (no_calls m.peer)

-- the calls of its upper end since its last connection
abbrev pub calls_above : Made → List UpperCall
calls_above m = unwrap_or (past_of m).connection []

module _ (m : Made) where
  pub facts_of : EndsAreRuns (run_of m)
  facts_of = ends_are_runs m.peer m.calls

  -- what its ends queue can be read
  pub below_read : CanBeRead (below (past_of m))
  below_read = queues_readable value_services None ((past_of m).until_bound ++ (past_of m).since_bound) value_hello facts_of.below_readable

  pub above_read : CanBeRead (above (past_of m))
  above_read = queues_readable value_services None (calls_above m) value_hello (readable_by (past_of m).connection facts_of.above_readable)
