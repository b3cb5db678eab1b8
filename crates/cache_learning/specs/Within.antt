-- What is known of contexts and of breakpoints is within the limits of their kinds, as what is read is.
use Rattle.std.specs.Prelude.{◌≡◌, ℕ, true, List, Some}
use Rattle.json_values.specs.Contexts.{IsContext}
use Rattle.json_values.specs.Props.{is_bp}
use Rattle.json_values.specs.Statuses.{IsStatus}
use Rattle.knowledge.specs.Facts.{Facts}
use Rattle.tcf_values.specs.declared.values.BpProps.{BpProps}
use Rattle.tcf_values.specs.declared.values.BpStatus.{BpStatus}
use Rattle.tcf_values.specs.declared.values.ContextData.{ContextData}

pub record AreWithin (known : Facts) : Type 0 where
  pub contexts : (id : List ℕ) (context : ContextData) → known.contexts id ≡ Some context → IsContext context
  pub properties : (id : List ℕ) (properties : BpProps) → known.properties id ≡ Some properties → is_bp properties ≡ true
  pub statuses : (id : List ℕ) (status : BpStatus) → known.statuses id ≡ Some status → IsStatus status
