-- The run of served value-adds, by its calls of the wires.
use Rattle.std.specs.Prelude.{ℕ, ◌≡◌, ◌⊎◌, List, []}
use Rattle.tcf_wires.specs.declared.call.WireCall.{WireCall}
use Rattle.serving_wires.specs.Serve.{Runs}
use Rattle.serving_wires.specs.Serving.{ListensFirst}
use Rattle.serving_wires.specs.Standing.{state_after}
use Rattle.serving_wires.specs.declared.end.ServeEnd.{ServeEnd}
use Rattle.serving_wires.specs.declared.end.ServeEnd.TheVariants.{NoMemory}
use Rattle.value_serving.specs.Served.{AreValueAdds}
use Rattle.value_serving.specs.Serving.{value_adds}

-- Value-adds of this peer are served at this address, and the serving ends so. Want of memory may come before the address is
-- listened on, before a connect is answered, and before all is put.
pub record ServesValueAdds (peer address : List ℕ) (turns : ℕ) (end : ServeEnd) (calls : List WireCall) : Type 0 where
  pub listens : ListensFirst address calls ⊎ ((calls ≡ []) × (end ≡ NoMemory))
  pub runs : Runs (value_adds peer) turns end calls
  -- what is served are value-adds, and what is queued for their wires is what they gave out
  pub served : AreValueAdds peer (state_after (value_adds peer) calls)
