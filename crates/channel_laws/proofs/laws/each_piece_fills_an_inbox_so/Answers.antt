use Rattle.channel_laws.proofs.TheLaws.{each_piece_fills_so}
use Rattle.channel_laws.proofs.laws.each_piece_fills_an_inbox_so.Goals as goal

pub returns : goal.returns
returns g c = each_piece_fills_so
