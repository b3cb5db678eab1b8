use Rattle.std.proofs.Common.{◌≡◌, ◌++◌, drop, length, All}
use Rattle.data_services.specs.Parts.{IsInside, parts_named}
use Rattle.data_services.specs.RegisterRows.{locations_fault}
use Rattle.data_services.proofs.locations.parts_to_get.Given as goal

-- the locations so far have no fault, and the parts that they name
abbrev pub invariant-loop-location : goal.invariant-loop-location
invariant-loop-location l = record {
  parts : l.parts.items ++ parts_named (drop l.location-index l.list) ≡ parts_named l.list;
  inside : All IsInside l.parts.items;
  count : length l.parts.items ≡ l.location-index;
  fault : locations_fault l.targets.seen.processes (drop l.location-index l.list) ≡ locations_fault l.targets.seen.processes l.list;
}
