use Rattle.log_check.proofs.Opening.{channel_isnt}
use Rattle.log_check.proofs.Options.{none_then}
use Rattle.log_check.proofs.channel.channel_of.Goals as goal

pub returns-in-Some-clause-none : goal.returns-in-Some-clause-none
returns-in-Some-clause-none c =
    none_then c.channel_at.result _ _ (λ never. channel_isnt c.args.inputs.now c.args.lines.now c.in-Some.position c.in-Some.ensures never) c.channel_at.ensures.none
