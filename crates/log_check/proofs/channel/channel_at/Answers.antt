use Rattle.std.proofs.Common.{◌-◌, refl}
use Rattle.std.proofs.lemmas.Option.{slice_get_read}
use Rattle.log_check.proofs.Opening.{opens_at_get}
use Rattle.log_check.proofs.Options.{some_then}
use Rattle.log_check.proofs.channel.channel_at.Goals as goal

pub returns-in-Some-clause-some : goal.returns-in-Some-clause-some
returns-in-Some-clause-some c =
    let there = slice_get_read c.args.inputs.now _ (c.args.position - 1) c.in-Some.input.now refl c.in-Some.ensures.lookup.3.0 c.in-Some.ensures.lookup.1 in
    some_then c.opened_by.result _ _ (λ k is. opens_at_get c.args.inputs.now c.args.position k c.in-Some.input.now c.if-position-eq0.false there is) c.opened_by.ensures.some
