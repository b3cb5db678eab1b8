-- How many lower channels are live.
use Rattle.std.specs.Prelude.{ℕ, ◌≤◌, List}
use Rattle.channel_list.specs.Channels.{live_count}
use Rattle.serving_wires.specs.Standing.{Heard, after, standing_in}
use Rattle.hub_serving.specs.Serving.{hub_of}

-- Whatever came, no more than 64 are.
abbrev pub NoMoreThan64AreLive : Type 0
NoMoreThan64AreLive = (peer : List ℕ) (heard : List Heard) → live_count (standing_in (after (hub_of peer) heard)).served.hub.relay.lowers ≤ 64
