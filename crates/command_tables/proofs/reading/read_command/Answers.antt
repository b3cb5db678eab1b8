use Rattle.std.proofs.Common.{◌≡◌, sym, ◌∙◌, ap, Err, Some}
use Rattle.json_args.specs.Parts.{IsUnended}
use Rattle.service_names.specs.Commands.{name_in}
use Rattle.command_tables.specs.Reading.{bad_of, reading_by, reading_of}
use Rattle.command_tables.specs.Rows.{row_of}
use Rattle.command_tables.proofs.Endings.{ended_is, ended_reading, unended_reading, fault_reading}
use Rattle.command_tables.proofs.Legal.{fault_legal}
use Rattle.command_tables.proofs.reading.read_command.Goals as goal

pub returns-in-Ok-read_arguments-clause-reading : goal.returns-in-Ok-read_arguments-clause-reading
returns-in-Ok-read_arguments-clause-reading c =
    let named : name_in c.args.service.now c.args.name.now ≡ Some c.in-Some.command = sym c.command_named.ensures ∙ c.in-Some.is in
    let ended : IsUnended c.args.body.now → ⊥ = λ some. let err = c.split.ensures.unended.1 some in let ok = c.in-Ok.is in cc in
    sym (ended_reading c.args.service.now c.args.name.now c.args.body.now c.in-Some.command named ended
    ∙ ap reading_by (ap (row_of c.in-Some.command 0) (sym c.in-Ok.ensures.value) ∙ c.in-Ok-read_arguments.ensures.ok))

pub returns-in-Err-read_arguments-clause-reading : goal.returns-in-Err-read_arguments-clause-reading
returns-in-Err-read_arguments-clause-reading c =
    let named : name_in c.args.service.now c.args.name.now ≡ Some c.in-Some.command = sym c.command_named.ensures ∙ c.in-Some.is in
    let ended : IsUnended c.args.body.now → ⊥ = λ some. let err = c.split.ensures.unended.1 some in let ok = c.in-Ok.is in cc in
    fault_reading c.bad.result c.in-Err-read_arguments.fault (reading_of c.args.service.now c.args.name.now c.args.body.now) c.bad.ensures.ok c.bad.ensures.known
    (λ known. ended_reading c.args.service.now c.args.name.now c.args.body.now c.in-Some.command named ended
    ∙ ap reading_by (ap (row_of c.in-Some.command 0) (sym c.in-Ok.ensures.value) ∙ c.in-Err-read_arguments.ensures.fault known))

pub returns-in-Err-read_arguments-clause-unended : goal.returns-in-Err-read_arguments-clause-unended
returns-in-Err-read_arguments-clause-unended c = λ unended.
    let ended : IsUnended c.args.body.now → ⊥ = λ some. let err = c.split.ensures.unended.1 some in let ok = c.in-Ok.is in cc in
    let here = ended_is c.args.body.now ended in cc

pub returns-in-Err-clause-reading : goal.returns-in-Err-clause-reading
returns-in-Err-clause-reading c =
    let named : name_in c.args.service.now c.args.name.now ≡ Some c.in-Some.command = sym c.command_named.ensures ∙ c.in-Some.is in
    let some : IsUnended c.args.body.now = c.split.ensures.unended.0 (c.in-Err.is ∙ ap (λ f. Err f) c.in-Err.ensures.refusal) in
    fault_reading c.bad-in-Err.result c.in-Err.unended (reading_of c.args.service.now c.args.name.now c.args.body.now) c.bad-in-Err.ensures.ok c.bad-in-Err.ensures.known
    (λ known. unended_reading c.args.service.now c.args.name.now c.args.body.now c.in-Some.command named some ∙ sym (ap bad_of c.in-Err.ensures.refusal))

pub returns-in-Ok-read_arguments-clause-legal : goal.returns-in-Ok-read_arguments-clause-legal
returns-in-Ok-read_arguments-clause-legal c =
    let named : name_in c.args.service.now c.args.name.now ≡ Some c.in-Some.command = sym c.command_named.ensures ∙ c.in-Some.is in
    let ended : IsUnended c.args.body.now → ⊥ = λ some. let err = c.split.ensures.unended.1 some in let ok = c.in-Ok.is in cc in (
      c.args.body.now,
      ended_reading c.args.service.now c.args.name.now c.args.body.now c.in-Some.command named ended
          ∙ ap reading_by (ap (row_of c.in-Some.command 0) (sym c.in-Ok.ensures.value) ∙ c.in-Ok-read_arguments.ensures.ok),
    )

pub returns-in-Err-read_arguments-clause-legal : goal.returns-in-Err-read_arguments-clause-legal
returns-in-Err-read_arguments-clause-legal c =
    let named : name_in c.args.service.now c.args.name.now ≡ Some c.in-Some.command = sym c.command_named.ensures ∙ c.in-Some.is in
    fault_legal c.bad.result c.args.service.now c.args.name.now c.in-Some.command c.in-Err-read_arguments.fault named c.bad.ensures.ok

pub returns-in-Err-clause-legal : goal.returns-in-Err-clause-legal
returns-in-Err-clause-legal c =
    let named : name_in c.args.service.now c.args.name.now ≡ Some c.in-Some.command = sym c.command_named.ensures ∙ c.in-Some.is in
    fault_legal c.bad-in-Err.result c.args.service.now c.args.name.now c.in-Some.command c.in-Err.unended named c.bad-in-Err.ensures.ok
