-- What is shown of the end below a way, and of all that is above it.
use Rattle.std.proofs.Common.{◌≡◌, false, true, List}
use Rattle.std.specs.List.{list_any}
use Rattle.channel_core.specs.Closing.{is_closed}
use Rattle.channel_core.specs.Greeting.{is_greeting}
use Rattle.channel_laws.specs.Meeting.{Side, run_of}
use Rattle.chain_quiet.specs.Stuck.{IsStill, IsUnstuck}
use Rattle.chain_route.specs.Carrying.{Made}
use Rattle.chain_route.specs.Runs.{Talk}

-- where it is open it also took a Hello
pub record Rests {T : Type 0} (s : Side T) (made : List Made) (talk : Talk) : Type 0 where
  pub unstuck : IsUnstuck s made talk
  pub greeted : IsStill (run_of s) → is_closed (run_of s).end.state ≡ false → list_any is_greeting (run_of s).past.taken ≡ true
