use Rattle.channel_core.proofs.Naming.{read_as, read_once, utf8_of_decimal}
use Rattle.channel_core.proofs.taking.number_in.Goals as goal

pub returns-in-Err-clause-none : goal.returns-in-Err-clause-none
returns-in-Err-clause-none c = λ n small is. c.in-Err.ensures.cases.0 (utf8_of_decimal _ n small is)

pub returns-in_default-clause-none : goal.returns-in_default-clause-none
returns-in_default-clause-none c = λ n small is.
    read_once c.parse.result c.in-Ok-parse.number n c.args.digits.now c.in-Ok-parse.is
    (read_as c.parse.result c.in-Ok.text.now c.args.digits.now n c.parse.ensures.value.0 c.in-Ok.ensures.cases.0 small is) is cc

pub returns-in_default-2-clause-none : goal.returns-in_default-2-clause-none
returns-in_default-2-clause-none c = λ n small is.
    let read = read_as c.parse.result c.in-Ok.text.now c.args.digits.now n c.parse.ensures.value.0 c.in-Ok.ensures.cases.0 small is in cc
