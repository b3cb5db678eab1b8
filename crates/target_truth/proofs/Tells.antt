-- What the events of an input tell: the first of them what has changed, and the others what is so.
use Rattle.std.proofs.Common.{List, [], ◌∷◌}
use Rattle.std.specs.List.{AllByRecursion}
use Rattle.knowledge.specs.Facts.{IsPart}
use Rattle.reply_tables.specs.Events.{IsEvent, IsTypedEvent}
use Rattle.run_control.specs.TargetValue.{TargetValue}
use Rattle.target_truth.proofs.First.{Leads}
use Rattle.target_truth.proofs.Seen.{seen}
use Rattle.tcf_values.specs.declared.event.EventData.{EventData}

-- an event that is within the limits of what is read
pub record IsTold (before now : TargetValue) (event : EventData) : Type 0 where
  pub limits : IsEvent event
  pub typed : IsTypedEvent event
  pub leads : Leads before now event

abbrev pub Tell : TargetValue → TargetValue → List EventData → Type 0
Tell before now [] = IsPart (seen before) (seen now)
Tell before now (event ∷ events) = IsTold before now event × AllByRecursion (IsTold now now) events
