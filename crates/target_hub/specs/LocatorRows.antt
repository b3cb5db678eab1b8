-- The commands of the service Locator, on an agent (TCF service Locator): it knows no peers.
use Rattle.std.specs.Prelude.{ℕ, []}
use Rattle.tcf_values.specs.Errors.{report_of}
use Rattle.tcf_values.specs.declared.answer.Answer.{Answer}
use Rattle.tcf_values.specs.declared.answer.Answer.TheVariants.{Failed, Nothing, Peers}
use Rattle.tcf_values.specs.declared.command.Command.{Command}
use Rattle.tcf_values.specs.declared.command.Command.TheVariants.{Sync, GetPeers, Redirect}

-- the code of a redirect to a peer that isn't known
abbrev pub unknown_peer : ℕ
unknown_peer = 7

abbrev pub locator_answer : Command → Answer
locator_answer Sync = Nothing
locator_answer GetPeers = Peers []
locator_answer (Redirect peer) = Failed (report_of unknown_peer)
locator_answer _ = Nothing
