-- The run of a served hub, by its calls of the wires.
use Rattle.std.specs.Prelude.{ℕ, ◌≡◌, ◌⊎◌, List, [], ◌∷◌, Ok, Err}
use Rattle.tcf_wires.specs.declared.call.WireCall.{WireCall}
use Rattle.tcf_wires.specs.declared.call.WireCall.TheVariants.{Connected}
use Rattle.tcf_wires.specs.declared.event.WireRefusal.TheVariants as refusals
use Rattle.serving_wires.specs.Serve.{Runs}
use Rattle.serving_wires.specs.Serving.{ListensOnce}
use Rattle.serving_wires.specs.Standing.{heard_in, state_after}
use Rattle.serving_wires.specs.declared.end.ServeEnd.{ServeEnd}
use Rattle.serving_wires.specs.declared.end.ServeEnd.TheVariants.{NoMemory, WireFault}
use Rattle.hub_serving.specs.Served.{IsServedHub}
use Rattle.hub_serving.specs.Serving.{hub_of}

-- First it connects to the peer, then it listens on the address, and neither again. Want of memory may come in between.
pub record ConnectsThenListens (peer address : List ℕ) (end : ServeEnd) (calls : List WireCall) : Type 0 where
  pub channel : ℕ
  pub later : List WireCall
  pub connects : calls ≡ Connected peer (Ok channel) ∷ later
  pub listens : ListensOnce address later ⊎ ((later ≡ []) × (end ≡ NoMemory))

-- A hub is served at this address that connects to this peer, and the serving ends so. Want of memory may come before the
-- connect, before the address is listened on, and before all is put.
pub data ServesHub (peer address : List ℕ) (turns : ℕ) (end : ServeEnd) (calls : List WireCall) : Type 0 where
  unbegun : calls ≡ [] → end ≡ NoMemory → ServesHub peer address turns end calls
  -- the peer couldn't be reached
  unconnected : calls ≡ Connected peer (Err refusals.Failed) ∷ [] → end ≡ WireFault → ServesHub peer address turns end calls
  -- what is served is a hub, and what is queued for its wires is what it gave out
  served : ConnectsThenListens peer address end calls → Runs (hub_of peer) turns end calls → IsServedHub (heard_in calls) (state_after (hub_of peer) calls)
      → ServesHub peer address turns end calls
