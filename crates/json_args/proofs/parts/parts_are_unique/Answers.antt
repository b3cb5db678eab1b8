use Rattle.json_args.proofs.Splits.{one_reading}
use Rattle.json_args.proofs.parts.parts_are_unique.Goals as goal

pub returns : goal.returns
returns c = one_reading
