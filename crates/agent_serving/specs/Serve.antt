-- The run of a served agent, by its calls of the wires.
use Rattle.std.specs.Prelude.{ℕ, ◌≡◌, ◌⊎◌, List, []}
use Rattle.target_contexts.specs.declared.process.Image.{Image}
use Rattle.tcf_wires.specs.declared.call.WireCall.{WireCall}
use Rattle.serving_wires.specs.Serve.{Runs}
use Rattle.serving_wires.specs.Serving.{ListensOnce}
use Rattle.agent_serving.specs.Served.{IsBehindWires}
use Rattle.agent_serving.specs.Serving.{served_agent}
use Rattle.serving_wires.specs.declared.end.ServeEnd.{ServeEnd}
use Rattle.serving_wires.specs.declared.end.ServeEnd.TheVariants.{NoMemory}

-- The agent that has these images is served at this address, and the serving ends so. Want of memory may come before the
-- address is listened on, and before all is put. Behind the wires stands an agent: what they took of each is a
-- front of what it gave out there.
pub record ServesAgent (images : List Image) (address : List ℕ) (turns : ℕ) (end : ServeEnd) (calls : List WireCall) : Type 0 where
  pub listens : ListensOnce address calls ⊎ ((calls ≡ []) × (end ≡ NoMemory))
  pub runs : Runs (served_agent images) turns end calls
  pub agent : IsBehindWires images calls
