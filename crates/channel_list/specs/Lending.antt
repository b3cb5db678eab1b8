-- A channel that is lent, and the channels after that.
use Rattle.std.specs.Prelude.{ℕ, List, Option}
use Rattle.std.specs.Borrow.{Fml, LendsIf, MutBor}
use Rattle.channel_list.specs.Channels.{place_of, with_channel_at}
use Rattle.channel_list.specs.declared.channel.Channel.{Channel}
use Rattle.channel_list.specs.contracts.channel.Channel.{the_row as channel_row}
use Rattle.channel_list.specs.contracts.channels.Channels.{the_row}

-- the channel of this number ends as the last value written through r, and the others stay
abbrev pub LendsChannel : MutBor (List Channel) → ℕ → Option (MutBor Channel) → Fml
LendsChannel channels number r = LendsIf the_row channel_row channels r
    (λ channel. with_channel_at (place_of number channels.now) channel channels.now)
    channels.now
