-- Value-adds of a way that are bound, and that took all that was said above them.
use Rattle.std.specs.Prelude.{◌≡◌, true, List, [], ◌∷◌, filter}
use Rattle.std.specs.List.{AllByRecursion, flat_map}
use Rattle.channel_core.specs.Arrivals.{AreSpoken, Spoken, all_heard, all_said}
use Rattle.channel_core.specs.QueueLaws.{is_message}
use Rattle.channel_core.specs.ReceivingLaws.{incoming_of}
use Rattle.channel_core.specs.Runs.{Run}
use Rattle.value_node.specs.Runs.{above, below}
use Rattle.chain_route.specs.Carrying.{Made, past_of}

abbrev pub AreBound : List Made → Type 0
AreBound made = AllByRecursion (λ m. (past_of m).is_bound ≡ true) made

-- an end took all these messages
abbrev pub TakesAll : {T : Type 0} → Run T → List Spoken → Type 0
TakesAll r spoken = flat_map incoming_of r.past.taken ≡ all_heard spoken

-- it took all that the first of these value-adds said below, in whatever messages that is written; or all that the agent says
abbrev pub TakesAllOf : {T : Type 0} → Run T → List Made → List Spoken → Type 0
TakesAllOf r [] said = TakesAll r said
TakesAllOf r (m ∷ made) said = (spoken : List Spoken) → AreSpoken spoken → filter is_message (below (past_of m)).past.queued ≡ all_said spoken → TakesAll r spoken

-- each value-add took all that was said above it
abbrev pub AllTakeAll : List Made → List Spoken → Type 0
AllTakeAll [] said = Unit {0}
AllTakeAll (m ∷ made) said = TakesAllOf (above (past_of m)) made said × AllTakeAll made said
