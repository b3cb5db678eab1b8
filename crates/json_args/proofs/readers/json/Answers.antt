use Rattle.std.proofs.Common.{sym, ◌∙◌}
use Rattle.std.proofs.lemmas.Bool.{eqb-true}
use Rattle.json_args.proofs.Json.{json_empty}
use Rattle.json_args.proofs.readers.json.Goals as goal

pub returns-then-is_empty : goal.returns-then-is_empty
returns-then-is_empty c = json_empty c.args.part.now (eqb-true _ _ (sym c.is_empty.ensures ∙ c.if-is_empty.true))
