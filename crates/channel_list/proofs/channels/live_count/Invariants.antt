use Rattle.std.proofs.Common.{◌≡◌, ◌≤◌, count_by, take}
use Rattle.channel_list.specs.Channels.{is_open}
use Rattle.channel_list.proofs.channels.live_count.Given as goal

-- those before the index are counted
abbrev pub invariant-loop-channel : goal.invariant-loop-channel
invariant-loop-channel l = record {
  counted : l.live ≡ count_by is_open (take l.channel-index l.channels);
  few : l.live ≤ l.channel-index;
}
