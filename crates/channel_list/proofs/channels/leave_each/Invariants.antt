use Rattle.std.proofs.Common.{◌≡◌, ◌++◌, drop, map, take}
use Rattle.channel_list.specs.Channels.{left}
use Rattle.channel_list.proofs.channels.leave_each.Given as goal

-- those before the index are closed, and those from it on aren't yet
abbrev pub invariant-loop-channel : goal.invariant-loop-channel
invariant-loop-channel l =
    take l.channel-index l.channel-items ++ map left (drop l.channel-index l.channel-items) ≡ map left l.initial.channel-items
