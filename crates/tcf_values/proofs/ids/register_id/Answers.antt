use Rattle.std.proofs.Common.{rules, ◌≡◌}
use Rattle.tcf_values.specs.Ids.{register_of}
use Rattle.tcf_values.proofs.Registers.{register_read, register_unread}
use Rattle.tcf_values.proofs.ids.register_id.Goals as goal

pub returns-clause-found : goal.returns-clause-found
returns-clause-found c =
    let value : c.register_numbers.result ≡ register_of c.args.text.now = search rules in register_read c.args.text.now c.register_numbers.result value

pub returns-clause-none : goal.returns-clause-none
returns-clause-none c =
    let value : c.register_numbers.result ≡ register_of c.args.text.now = search rules in register_unread c.args.text.now c.register_numbers.result value
