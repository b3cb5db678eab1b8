use Rattle.std.proofs.Common.{◌≡◌, drop, length}
use Rattle.data_services.specs.Parts.{sizes, cpu_after}
use Rattle.data_services.proofs.parts.cpu_after.Given as goal

-- what is left of the bytes is for the parts that are left
abbrev pub invariant-loop-part : goal.invariant-loop-part
invariant-loop-part l = record {
  same : cpu_after l.process l.thread (drop l.part-index l.parts) l.rest l.after ≡ cpu_after l.process l.thread l.parts l.initial.rest l.initial.after;
  size : sizes (drop l.part-index l.parts) ≡ length l.rest;
}
