use Rattle.std.proofs.Common.{◌≡◌, ◌++◌, drop, map, take}
use Rattle.tcf_message.specs.Message.{event}
use Rattle.channel_list.specs.Channels.{told}
use Rattle.channel_list.proofs.channels.tell_each.Given as goal

-- those before the index have heard it, and those from it on haven't yet
abbrev pub invariant-loop-channel : goal.invariant-loop-channel
invariant-loop-channel l =
    take l.channel-index l.channel-items ++ map (told (event l.service l.name l.body) l.mark) (drop l.channel-index l.channel-items)
    ≡ map (told (event l.service l.name l.body) l.mark) l.initial.channel-items
