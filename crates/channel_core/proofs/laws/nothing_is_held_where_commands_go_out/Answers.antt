use Rattle.channel_core.proofs.TheLaws.{holds_none_where_free}
use Rattle.channel_core.proofs.laws.nothing_is_held_where_commands_go_out.Goals as goal

pub returns : goal.returns
returns g c = holds_none_where_free
