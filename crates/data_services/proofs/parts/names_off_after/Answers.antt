use Rattle.std.proofs.Common.{get_or, sym, ◌∙◌}
use Rattle.std.proofs.lemmas.Bool.{eq-eqb}
use Rattle.std.proofs.lemmas.List.{drop_more}
use Rattle.data_services.specs.Parts.{with_parts}
use Rattle.data_services.specs.declared.parts.Part.{Part}
use Rattle.data_services.proofs.PartSteps.{names_found}
use Rattle.data_services.proofs.parts.names_off_after.Goals as goal

-- this part is of a pc that is off
pub returns-then-is_off_after : goal.returns-then-is_off_after
returns-then-is_off_after c =
    let none : Part = record { register = record { process = 0; thread = 0; index = 0 }; offset = 0; size = 0 } in
    let parts = c.args.parts.now in
    let i = c.loop-part.part-index in
    let part : Part = get_or parts i none in
    let rows = (with_parts parts c.args.bytes.now c.args.targets.now.seen).processes in
    sym (names_found rows parts i part (drop_more parts i none c.loop-part-test.true) (eq-eqb part.register.index 32 c.if-part-eq-PC.true) c.if-is_off_after.ensures)
    ∙ c.loop-part.invariant
