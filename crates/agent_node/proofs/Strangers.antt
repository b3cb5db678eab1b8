-- An agent has no channel that it didn't open.
use Rattle.std.proofs.Common.{ap, ◌∙◌}
use Rattle.agent_node.specs.Channels.{end_in}
use Rattle.agent_node.specs.Runs.{after_all, no_calls}
use Rattle.agent_node.specs.Strangers.{NoStrangersAfterAnyCalls}
use Rattle.agent_node.proofs.Places.{none_found, place_found}
use Rattle.agent_node.proofs.Standing.{none_stands}
use Rattle.agent_node.proofs.Truth.{holds_all, holds_first}

pub no_strangers : NoStrangersAfterAnyCalls
no_strangers images calls k none =
    let r = after_all calls (no_calls images) in
    let h = holds_all images calls (no_calls images) (holds_first images) in
    ap end_in (place_found k r.agent.channels ∙ none_found k r.agent.channels (none_stands k h.stands none))
