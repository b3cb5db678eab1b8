use Rattle.std.proofs.Common.{◌≡◌, ◌++◌, drop}
use Rattle.data_services.specs.Parts.{bytes_of}
use Rattle.data_services.proofs.parts.bytes_of.Given as goal

-- the bytes so far and those of the parts that are left are all
abbrev pub invariant-loop-part : goal.invariant-loop-part
invariant-loop-part l =
    l.bytes ++ bytes_of l.targets.seen.processes (drop l.part-index l.parts) ≡ bytes_of l.targets.seen.processes l.parts
