use Rattle.std.proofs.Common.{◌≡◌, take}
use Rattle.std.specs.Prelude.{map}
use Rattle.json_values.specs.Statuses.{instance_json}
use Rattle.serde_json.specs.View.{view}
use Rattle.json_values.proofs.statuses.instance_values.Given as goal

abbrev pub invariant-loop-instance : goal.invariant-loop-instance
invariant-loop-instance l = map view l.values.items ≡ map instance_json (take l.instance-index l.instances)
