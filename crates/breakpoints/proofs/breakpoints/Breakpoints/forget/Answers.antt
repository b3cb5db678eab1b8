use Rattle.breakpoints.specs.Counting.{row_without}
use Rattle.breakpoints.proofs.Counting.{changed_indexed, values_changed, without_keeps, without_props}
use Rattle.breakpoints.proofs.breakpoints.Breakpoints.forget.Goals as goal

-- each stays where it stands
pub invariant_of-self : goal.invariant_of-self
invariant_of-self c =
    changed_indexed (row_without c.args.process) (without_keeps c.args.process) (without_props c.args.process) _ _ _ c.self.invariant c.forget.ensures

pub returns : goal.returns
returns c = values_changed (row_without c.args.process) _ _ _ c.self.view_is c.forget.ensures
