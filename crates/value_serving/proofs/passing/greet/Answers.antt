use Rattle.std.proofs.Common.{subst}
use Rattle.value_serving.specs.declared.add.Add.{Add}
use Rattle.serving_wires.specs.Going.{DoesAlone}
use Rattle.value_serving.specs.Passing.{gathered}
use Rattle.value_serving.proofs.passing.greet.Goals as goal

pub returns : goal.returns
returns c = λ any.
    subst (λ (a : Add). DoesAlone any (gathered a) c.gather.new.add c.args.sending.now c.gather.new.sending) c.in_ok-add.ensures (c.in_ok-gather.ensures any)
