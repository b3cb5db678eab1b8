use Rattle.std.proofs.Common.{◌≡◌, subst}
use Rattle.std.specs.Prelude.{IfSome}
use Rattle.std.specs.BTreeSet.{contains}
use Rattle.std.specs.Ordering.{nat_cmp}
use Rattle.log_check.specs.Sorts.{IsCommandIn}
use Rattle.log_check.specs.declared.sorts.Command.{Command}
use Rattle.log_check.proofs.Sorting.{of_one, of_other_by}
use Rattle.log_check.proofs.sorts.commands_in.Goals as goal

pub loop-line-preserved-in_ok-push : goal.loop-line-preserved-in_ok-push
loop-line-preserved-in_ok-push c =
    of_one c.args.lines.now c.loop-line.left.now c.in-Some.after.now c.in-Some.line.now c.loop-line.commands.items c.push.new.self.items c.in-Some-2.command c.in_ok-bare.bare c.loop-line.invariant
    c.in-Some.ensures.some (subst (IsCommandIn c.in-Some.line.now) c.in-Some-2.is c.in_ok-command.ensures.command)
    (subst (λ o. IfSome o (λ (d : Command). d.is_bare ≡ contains nat_cmp c.in_ok-bare.bare d.number)) c.in-Some-2.is c.in_ok-command.ensures.bare) c.in_ok-bare.ensures c.in_ok-push.ensures.items

pub loop-line-preserved : goal.loop-line-preserved
loop-line-preserved c =
    of_other_by c.args.lines.now c.loop-line.left.now c.in-Some.after.now c.in-Some.line.now c.loop-line.commands.items c.in_ok-command.field-0 c.loop-line.invariant c.in-Some.ensures.some
    c.in_ok-command.ensures.command c.in_default-2.not-Some
