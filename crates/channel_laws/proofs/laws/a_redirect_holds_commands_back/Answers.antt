use Rattle.channel_laws.proofs.TheLaws.{holds_behind_redirects}
use Rattle.channel_laws.proofs.laws.a_redirect_holds_commands_back.Goals as goal

pub returns : goal.returns
returns g c = holds_behind_redirects
