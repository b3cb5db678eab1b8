use Rattle.log_check.specs.Matching.{read_as}
use Rattle.log_check.proofs.Ending.{one_of}
use Rattle.log_check.proofs.fresh.goes_by.Goals as goal

pub returns-in-Some-clause-one : goal.returns-in-Some-clause-one
returns-in-Some-clause-one c =
    λ on. one_of c.args.channel c.args.input.now (read_as c.in-Some.executed) c.is_through.result c.in-Some.ensures.some c.is_through.ensures on
