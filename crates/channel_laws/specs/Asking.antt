-- An end whose node sends no command.
use Rattle.std.specs.Prelude.{ℕ, ◌≡◌, false, List, [], Option}
use Rattle.std.specs.List.{list_any}
use Rattle.channel_core.specs.Beginning.{new_end}
use Rattle.channel_core.specs.QueueLaws.{is_commanding}
use Rattle.channel_core.specs.Runs.{Call, Run, after_calls, begun}

-- no command is pending, and none is held
pub record WaitsForNothing {T : Type 0} (r : Run T) : Type 0 where
  pub pending : r.end.pending ≡ []
  pub held : r.end.held ≡ []

abbrev pub AsksNothingWaitsForNothing : Type 0 → Type 0
AsksNothingWaitsForNothing T = (hello : List ℕ) (mark : Option ℕ) (calls : List (Call T)) → list_any is_commanding calls ≡ false → WaitsForNothing (after_calls calls (begun (new_end hello mark)))
