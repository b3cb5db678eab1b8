use Rattle.std.proofs.Common.{rules, ◌≡◌}
use Rattle.tcf_values.specs.Ids.{context_of}
use Rattle.tcf_values.proofs.Contexts.{context_read, context_unread}
use Rattle.tcf_values.proofs.ids.context_id.Goals as goal

pub returns-clause-found : goal.returns-clause-found
returns-clause-found c =
    let value : c.context_numbers.result ≡ context_of c.args.text.now = search rules in context_read c.args.text.now c.context_numbers.result value

pub returns-clause-none : goal.returns-clause-none
returns-clause-none c =
    let value : c.context_numbers.result ≡ context_of c.args.text.now = search rules in context_unread c.args.text.now c.context_numbers.result value
