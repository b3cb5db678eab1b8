use Rattle.std.proofs.Common.{◌≡◌, drop}
use Rattle.data_services.specs.Parts.{names_off, with_parts}
use Rattle.data_services.proofs.parts.names_off_after.Given as goal

-- the answer for the parts that are left is the answer
abbrev pub invariant-loop-part : goal.invariant-loop-part
invariant-loop-part l =
    let rows = (with_parts l.parts l.bytes l.targets.seen).processes in
    names_off rows (drop l.part-index l.parts) ≡ names_off rows l.parts
