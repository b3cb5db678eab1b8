use Rattle.std.proofs.Common.{◌≡◌, drop, length}
use Rattle.data_services.specs.Parts.{sizes, with_parts}
use Rattle.data_services.proofs.parts.put_parts.Given as goal

-- what is left of the bytes is for the parts that are left
abbrev pub invariant-loop-part : goal.invariant-loop-part
invariant-loop-part l = record {
  same : with_parts (drop l.part-index l.parts) l.rest l.targets.seen ≡ with_parts l.parts l.initial.rest l.initial.targets.seen;
  size : sizes (drop l.part-index l.parts) ≡ length l.rest;
}
