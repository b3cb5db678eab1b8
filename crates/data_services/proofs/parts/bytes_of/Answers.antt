use Rattle.std.proofs.Common.{get_or}
use Rattle.std.proofs.lemmas.List.{drop_more}
use Rattle.data_services.specs.declared.parts.Part.{Part}
use Rattle.data_services.proofs.PartSteps.{bytes_step}
use Rattle.data_services.proofs.parts.bytes_of.Goals as goal

-- one part more
pub loop-part-preserved : goal.loop-part-preserved
loop-part-preserved c =
    let none : Part = record { register = record { process = 0; thread = 0; index = 0 }; offset = 0; size = 0 } in
    let parts = c.args.parts.now in
    let i = c.loop-part.part-index in
    bytes_step c.args.targets.now.seen.processes parts i (get_or parts i none) c.loop-part.bytes c.add_bytes.new.bytes _
    (drop_more parts i none c.loop-part-test.true) c.in_ok-add_bytes.ensures c.loop-part.invariant
