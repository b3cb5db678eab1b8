-- What is done with what came, by the calls of the wires.
use Rattle.std.specs.Prelude.{ℕ, List}
use Rattle.serving_wires.specs.Going.{Does, DoesAlone, DoesPart}
use Rattle.serving_wires.specs.OutboxValue.{OutboxValue}
use Rattle.serving_wires.specs.Row.{Row}
use Rattle.serving_wires.specs.Sending.{begun}
use Rattle.serving_wires.specs.declared.intake.Came.{Came}
use Rattle.tcf_wires.specs.Told.{WiresSeen}
use Rattle.value_serving.specs.Serving.{heard_on, opened, with_adds}
use Rattle.value_serving.specs.ServingValue.{ServingValue}

-- the value-adds do with what came on a channel what they do, or a part of it
abbrev pub HeedsOn : ℕ → Came → ServingValue → ServingValue → List (Row OutboxValue) → List (Row OutboxValue) → WiresSeen → WiresSeen → Type 0
HeedsOn channel came old new olds news before after =
    Does old.peer (with_adds old (heard_on channel came old.adds)) new olds news before after

abbrev pub HeedsPartOn : ℕ → Came → ServingValue → List (Row OutboxValue) → WiresSeen → WiresSeen → Type 0
HeedsPartOn channel came old olds before after = DoesPart old.peer (with_adds old (heard_on channel came old.adds)) olds before after

-- and with a connection that came, for which no call is made
abbrev pub HeedsOpening : ℕ → ServingValue → ServingValue → List (Row OutboxValue) → List (Row OutboxValue) → Type 0
HeedsOpening channel old new olds news = DoesAlone old.peer (with_adds old (opened old.peer channel old.adds)) new (begun channel olds) news
