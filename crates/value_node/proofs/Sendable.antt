-- What an unbound value-add answers itself can be sent.
use Rattle.std.proofs.Common.{ℕ, Bool, true, false, List, [], Option, Some}
use Rattle.std.specs.Prelude.{if◌then◌else◌}
use Rattle.command_tables.specs.Reading.{reading_of}
use Rattle.command_tables.specs.declared.reading.Reading.{Reading}
use Rattle.command_tables.specs.declared.reading.Reading.TheVariants.{Known, Unknown as IsUnknown, Bad}
use Rattle.reply_tables.specs.Rows.{row_named}
use Rattle.reply_tables.specs.Written.{answer_data}
use Rattle.service_names.specs.Commands.{name_in}
use Rattle.service_names.specs.declared.commands.CommandName.{CommandName}
use Rattle.service_names.specs.declared.commands.CommandName.TheVariants as service
use Rattle.tcf_message.specs.Message.{reading}
use Rattle.tcf_values.specs.Errors.{report_of}
use Rattle.tcf_values.specs.declared.answer.Answer.TheVariants.{Failed, Nothing}
use Rattle.tcf_values.specs.declared.command.Command.{Command}
use Rattle.tcf_values.specs.declared.command.Command.TheVariants.{Sync, GetPeers, Redirect}
use Rattle.value_node.specs.Own.{Fits, IsSendable, channel_closed, is_peer, own_by as own_of, own_named, own_reply, own_to, redirect_done, redirect_failed, unknown_peer}
use Rattle.value_node.specs.declared.own.Own.{Own}
use Rattle.value_node.specs.declared.own.Own.TheVariants as own
use Rattle.reply_tables.proofs.TheLaws.{answers_fit, refusals_fit, reports_are_small}
use Rattle.value_node.proofs.Fitting.{peers_fit}

sendable_if : (flag : Bool) (one other : Own) → IsSendable one → IsSendable other → IsSendable (if flag then one else other)
sendable_if true one other first second = first
sendable_if false one other first second = second

sendable_to : (peer : List ℕ) (c : Command) → IsSendable (own_to peer c)
unfolding own_to
sendable_to peer Sync = answers_fit Sync Nothing tt
sendable_to peer GetPeers = peers_fit peer
sendable_to peer (Redirect id) =
    sendable_if (is_peer peer id) own.Connect (own.Result (answer_data (Redirect id) (Failed (report_of unknown_peer)))) tt
    (answers_fit (Redirect id) (Failed (report_of unknown_peer)) (reports_are_small unknown_peer))
sendable_to peer c = tt

sendable_by : (peer : List ℕ) (name : CommandName) (reading : Reading) → IsSendable (own_of peer name reading)
unfolding own_of
sendable_by peer name (Known c) = sendable_to peer c
sendable_by peer name IsUnknown = tt
sendable_by peer name (Bad index code) = refusals_fit (row_named name) code

sendable_named : (peer : List ℕ) (name : Option CommandName) (reading : Reading) → IsSendable (own_named peer name reading)
sendable_named peer (Some (service.Locator name)) reading = sendable_by peer (service.Locator name) reading
sendable_named peer name reading = tt

pub reply_sendable : (peer service name body : List ℕ) → IsSendable (own_reply peer service name body)
unfolding own_reply
reply_sendable peer service name body = sendable_named peer (name_in service name) (reading_of service name body)

pub done_fits : Fits redirect_done
unfolding redirect_done
done_fits = answers_fit (Redirect []) Nothing tt

pub failed_fits : Fits redirect_failed
unfolding redirect_failed
failed_fits = answers_fit (Redirect []) (Failed (report_of channel_closed)) (reports_are_small channel_closed)
