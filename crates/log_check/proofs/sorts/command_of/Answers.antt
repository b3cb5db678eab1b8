use Rattle.std.proofs.Common.{◌-◌, refl, sym}
use Rattle.std.proofs.lemmas.Bool.{ltb-false}
use Rattle.std.proofs.lemmas.Option.{slice_get_past, slice_get_read}
use Rattle.log_check.proofs.Sorting.{command_there, none_there, zero_is_none}
use Rattle.log_check.proofs.sorts.command_of.Goals as goal

pub returns-then-number-eq0-clause-none : goal.returns-then-number-eq0-clause-none
returns-then-number-eq0-clause-none c = zero_is_none c.args.commands.now c.args.number c.requires c.if-number-eq0.true

pub returns-in-Some-clause-some : goal.returns-in-Some-clause-some
returns-in-Some-clause-some c =
    command_there c.args.commands.now c.args.number c.in-Some.command.now c.requires c.if-number-eq0.false
    (slice_get_read c.args.commands.now _ (c.args.number - 1) c.in-Some.command.now refl c.in-Some.ensures.lookup.3.0 c.in-Some.ensures.lookup.1)

pub returns-in-None-clause-none : goal.returns-in-None-clause-none
returns-in-None-clause-none c =
    none_there c.args.commands.now c.args.number c.requires (slice_get_past c.args.commands.now (c.args.number - 1) (ltb-false _ _ (sym c.in-None.ensures.lookup.0)))
