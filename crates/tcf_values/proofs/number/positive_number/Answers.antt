use Rattle.std.proofs.Common.{◌≡◌, get_or, true}
use Rattle.std.specs.Int.{is_in_range}
use Rattle.tcf_values.specs.NumberLaws.{front_of_decimal, read_found, read_none, utf8_of_decimal}
use Rattle.tcf_values.proofs.number.positive_number.Goals as goal

pub returns-then-not-has_plain_front-clause-none : goal.returns-then-not-has_plain_front-clause-none
returns-then-not-has_plain_front-clause-none c = λ n low small is. let front = front_of_decimal _ n low small is in cc

pub returns-in-Err-clause-none : goal.returns-in-Err-clause-none
returns-in-Err-clause-none c = λ n low small is. c.in-Err.ensures.cases.0 (utf8_of_decimal _ n small is)

pub returns-in-Ok-clause-found : goal.returns-in-Ok-clause-found
returns-in-Ok-clause-found c =
    let front : is_in_range 49 57 (get_or c.args.digits.now 0 0) ≡ true = cc in
    rw c.ok.ensures.value (read_found c.args.digits.now c.parse.result (rw c.in-Ok.ensures.cases.0 at c.parse.ensures.value.0) front)

pub returns-in-Ok-clause-none : goal.returns-in-Ok-clause-none
returns-in-Ok-clause-none c =
    rw c.ok.ensures.value (read_none c.args.digits.now c.parse.result (rw c.in-Ok.ensures.cases.0 at c.parse.ensures.value.0))
