-- What is answered from facts that hold of a target is what the target answers.
use Rattle.std.proofs.Common.{ap}
use Rattle.std.proofs.lemmas.Option.{none-some}
use Rattle.reply_tables.specs.Written.{answer_data}
use Rattle.target_truth.specs.StoredLaws.{IsAnsweredAlike, IsWrittenAt}
use Rattle.target_truth.proofs.Stored.Asked.{context_alike, properties_alike, state_alike, status_alike}
use Rattle.target_truth.proofs.Stored.Memory.{memory_alike}
use Rattle.target_truth.proofs.Stored.Registers.{register_alike, registers_alike}
use Rattle.target_hub.specs.Fresh.{target_at}
use Rattle.tcf_values.specs.declared.command.Command.TheVariants as commands

pub alike : IsAnsweredAlike
alike target channel (commands.GetContext id) answer known blocks holds are is = context_alike channel id target known answer holds is
alike target channel (commands.GetState id) answer known blocks holds are is = state_alike channel id target known answer holds is
alike target channel (commands.BpProperties id) answer known blocks holds are is = properties_alike channel id target known answer holds is
alike target channel (commands.BpGetStatus id) answer known blocks holds are is = status_alike channel id target known answer holds is
alike target channel (commands.RegGet id) answer known blocks holds are is = register_alike channel id target known answer holds is
alike target channel (commands.RegGetm list) answer known blocks holds are is = registers_alike channel list target known answer holds is
alike target channel (commands.MemGet id addr word size mode) answer known blocks holds are is =
    memory_alike channel id addr word size mode target known blocks answer holds are is
alike target channel _ answer known blocks holds are is = absurd (none-some answer is)

pub written_at : IsWrittenAt
written_at images history position command answer known blocks holds are is =
    ap (answer_data command) (alike (target_at images history position) 0 command answer known blocks holds are is)
