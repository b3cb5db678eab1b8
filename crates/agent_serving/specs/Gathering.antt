-- What the agent has for a channel is queued for its wire.
use Rattle.std.specs.Prelude.{ℕ, List, [], ◌∷◌, Option, None, Some}
use Rattle.std.specs.List.{flat_map}
use Rattle.channel_core.specs.EndValue.{unless_spent}
use Rattle.channel_core.specs.declared.held.Outgoing.{Outgoing}
use Rattle.agent_node.specs.Agent.{channel_of}
use Rattle.agent_node.specs.AgentValue.{AgentValue}
use Rattle.agent_node.specs.Channels.{End, changed, end_in}
use Rattle.serving_wires.specs.Order.{queues}
use Rattle.serving_wires.specs.Process.{Process, and_then, done, tells}
use Rattle.serving_wires.specs.Row.{Row}
use Rattle.serving_wires.specs.declared.intake.Came.{Came}

abbrev pub queue_of : Option End → List Outgoing
queue_of None = []
queue_of (Some e) = unless_spent e [] e.queued

abbrev pub emptied : End → End
emptied e = unless_spent e e (record e { queued = [] })

abbrev pub agent_emptied : ℕ → AgentValue → AgentValue
agent_emptied k a = record a { channels = changed k emptied a.channels }

-- what the agent has for the channel
abbrev pub queue_on : ℕ → AgentValue → List Outgoing
queue_on k a = queue_of (end_in (channel_of k a))

abbrev pub bytes_of : List Outgoing → List ℕ
bytes_of outs = flat_map (λ out. out.bytes) outs

-- each of these goes behind what is queued
abbrev pub sends : ℕ → List Outgoing → AgentValue → Process AgentValue
sends k [] a = done a
sends k (out ∷ outs) a = tells (queues k out.bytes) (sends k outs a)

-- all that it has for one channel
abbrev pub gathered : ℕ → AgentValue → Process AgentValue
gathered k a = sends k (queue_on k a) (agent_emptied k a)

-- and for each of these
abbrev pub all_gathered : List (Row (List Came)) → AgentValue → Process AgentValue
all_gathered [] a = done a
all_gathered (line ∷ lines) a = and_then (gathered line.channel a) (λ next. all_gathered lines next)
