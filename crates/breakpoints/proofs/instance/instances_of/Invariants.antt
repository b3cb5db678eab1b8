use Rattle.std.proofs.Common.{◌≡◌, ◌++◌, map, filter, drop}
use Rattle.breakpoints.specs.Status.{instance_of, is_for}
use Rattle.breakpoints.proofs.instance.instances_of.Given as goal

-- the instances so far, and those in the processes that are left
abbrev pub invariant-loop-number : goal.invariant-loop-number
invariant-loop-number l =
    l.instances ++ map (instance_of l.props l.counts) (filter (is_for l.props.contexts) (drop l.number-index l.attached))
    ≡ map (instance_of l.props l.counts) (filter (is_for l.props.contexts) l.attached)
