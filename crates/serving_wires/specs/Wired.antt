-- An end of a channel, and its wire.
use Rattle.std.specs.Prelude.{ℕ, ◌≡◌, ◌++◌, Bool, true, List, [], Some}
use Rattle.serving_wires.specs.Changes.{item_on}
use Rattle.serving_wires.specs.Intake.{bytes_in}
use Rattle.serving_wires.specs.Row.{Row}
use Rattle.serving_wires.specs.Standing.{Wire}
use Rattle.serving_wires.specs.declared.intake.Came.{Came}

-- All that was ever queued for the wire is what the end gave out since the wire opened. All that came on the wire is what the end
-- got since then, and behind it what waits for the end, and behind that, while the answer of a connect is waited for, what the
-- last event brought.
pub record IsWired (channel : ℕ) (wires : List (Row Wire)) (got gave : List ℕ) (waiting : List Came) (is_resting : Bool) : Type 0 where
  pub wire : Wire
  pub there : item_on channel wires ≡ Some wire
  pub queued : wire.queued ≡ gave
  pub unheard : List ℕ
  pub came : wire.came ≡ got ++ (bytes_in waiting ++ unheard)
  pub all : is_resting ≡ true → unheard ≡ []
