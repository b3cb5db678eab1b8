-- What a served agent does with each event.
use Rattle.std.specs.Prelude.{ℕ, Bool, true, false, List, [], ◌∷◌, ◌++◌, Option, None, Some, remove}
use Rattle.target_contexts.specs.declared.process.Image.{Image}
use Rattle.tcf_wires.specs.declared.event.WireEvent.{WireEvent}
use Rattle.tcf_wires.specs.declared.event.WireEvent.TheVariants as events
use Rattle.agent_node.specs.Agent.{new_agent, opened}
use Rattle.agent_node.specs.AgentValue.{AgentValue}
use Rattle.serving_wires.specs.Order.{closes, queues}
use Rattle.serving_wires.specs.Process.{Process, done, tells, and_then}
use Rattle.serving_wires.specs.Program.{Behaviour, Program, program_of}
use Rattle.serving_wires.specs.Rows.{item_at, place_of, with_item_at}
use Rattle.serving_wires.specs.declared.intake.Came.{Came}
use Rattle.serving_wires.specs.declared.intake.Came.TheVariants.{Piece, End}
use Rattle.agent_serving.specs.Gathering.{all_gathered, gathered}
use Rattle.agent_serving.specs.Passing.{Passed, passed_on}
use Rattle.agent_serving.specs.ServingValue.{ServingValue}
use Rattle.agent_serving.specs.Ticking.{idled}

abbrev pub new_serving : List Image → ServingValue
new_serving images = record { agent = new_agent images; lines = [] }

-- ---- a peer connected: the agent opens the channel; for one that it refuses the end of the stream is all that is sent

abbrev pub opened_as : ℕ → Bool × AgentValue → ServingValue → Process ServingValue
opened_as channel (true, a) s = done (record { agent = a; lines = s.lines ++ (record { channel = channel; item = [] }) ∷ [] })
opened_as channel (false, a) s = tells (queues channel (3 ∷ 2 ∷ [])) (tells (closes channel) (done (record s { agent = a })))

unfoldable pub opened_on : ℕ → ServingValue → Process ServingValue
opened_on channel s = opened_as channel (opened channel s.agent) s

-- ---- something came on a channel, and goes to the agent; on an unknown one it is dropped

abbrev pub with_passed : ℕ → Passed → ServingValue → Bool × ServingValue
with_passed place p s = (p.is_over, record { agent = p.agent; lines = with_item_at place p.waiting s.lines })

-- whether the channel's end was taken, and what is served then
abbrev pub passed_by : ℕ → ℕ → Came → Option (List Came) → ServingValue → Bool × ServingValue
passed_by place channel came None s = (false, s)
passed_by place channel came (Some waiting) s = with_passed place (passed_on channel (waiting ++ came ∷ []) s.agent) s

abbrev pub passed_at : ℕ → ℕ → Came → ServingValue → Bool × ServingValue
passed_at place channel came s = passed_by place channel came (item_at place s.lines) s

-- behind its end, what is still queued for it is the last
abbrev pub unless_over : ℕ → ℕ → Bool × ServingValue → Process ServingValue
unless_over place channel (false, s) = done s
unless_over place channel (true, s) = and_then (gathered channel s.agent) (λ a. tells (closes channel) (done (record { agent = a; lines = remove s.lines place })))

abbrev pub heard_at : Option ℕ → ℕ → Came → ServingValue → Process ServingValue
heard_at None channel came s = done s
heard_at (Some place) channel came s = unless_over place channel (passed_at place channel came s)

unfoldable pub heard_on : ℕ → Came → ServingValue → Process ServingValue
heard_on channel came s = heard_at (place_of channel s.lines) channel came s

-- ---- an event goes to the agent, and then what it tells is queued; an end in good order and a broken connection are one

unfoldable pub acted : WireEvent → ServingValue → Process ServingValue
acted (events.Opened channel) s = opened_on channel s
acted (events.Piece channel bytes) s = heard_on channel (Piece bytes) s
acted (events.Ended channel) s = heard_on channel End s
acted (events.Lost channel) s = heard_on channel End s
acted events.Idle s = done (record s { agent = idled s.agent })
acted events.Stop s = done s

unfoldable pub told : ServingValue → Process ServingValue
told s = and_then (all_gathered s.lines s.agent) (λ a. done (record s { agent = a }))

unfoldable pub handled : WireEvent → ServingValue → Process ServingValue
handled event s = and_then (acted event s) told

-- ---- so it is a program, which connects to nobody, and does nothing before the first event

abbrev pub behaviour : Behaviour ServingValue
behaviour = record { peer = λ s. []; handled = handled }

abbrev pub served_agent : List Image → Program ServingValue
served_agent images = program_of behaviour (new_serving images) (done (new_serving images))
