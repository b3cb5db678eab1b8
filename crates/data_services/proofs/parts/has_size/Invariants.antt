use Rattle.std.proofs.Common.{◌≡◌, drop, nat_eq}
use Rattle.data_services.specs.Parts.{sizes}
use Rattle.data_services.proofs.parts.has_size.Given as goal

-- the answer for the parts that are left and what is left of the size is the answer
abbrev pub invariant-loop-part : goal.invariant-loop-part
invariant-loop-part l =
    nat_eq (sizes (drop l.part-index l.parts)) l.left ≡ nat_eq (sizes l.parts) l.initial.left
