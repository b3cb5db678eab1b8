use Rattle.std.proofs.Common.{◌≡◌, sym, ap}
use Rattle.std.specs.Prelude.{Some, is_some}
use Rattle.service_names.specs.Commands.{name_in}
use Rattle.journal_text.proofs.Codes.{code_fault}
use Rattle.journal_text.proofs.inputs.bad_said.Goals as goal

pub returns-in-Some-command_named-clause-read : goal.returns-in-Some-command_named-clause-read
returns-in-Some-command_named-clause-read c =
    let there : name_in c.in-Some-2.field-0.service c.in-Some-2.field-0.name ≡ Some c.in-Some-command_named.field-0 = cc in
    (ap is_some there, code_fault c.in-Some-first-2.code.now c.in-Some-long_number-2.index c.in-Some-code_said.code (sym c.in-Some-code_said.ensures))
