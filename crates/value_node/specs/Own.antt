-- What an unbound value-add does with a command: those of the service Locator it answers itself, and to no other it has an
-- answer (TCF service Locator; that it has one peer, and the codes, are this profile's).
use Rattle.std.specs.Prelude.{ℕ, ◌≤◌, nat_le, Bool, ◌&&◌, if◌then◌else◌, List, [], ◌∷◌, length, bytes_eq, Option, Some}
use Rattle.command_tables.specs.Reading.{reading_of}
use Rattle.command_tables.specs.declared.reading.Reading.{Reading}
use Rattle.command_tables.specs.declared.reading.Reading.TheVariants.{Known, Unknown as IsUnknown, Bad}
use Rattle.reply_tables.specs.Rows.{row_named}
use Rattle.reply_tables.specs.Written.{answer_data, refusal_data}
use Rattle.service_names.specs.Commands.{name_in}
use Rattle.service_names.specs.declared.commands.CommandName.{CommandName}
use Rattle.service_names.specs.declared.commands.CommandName.TheVariants as service
use Rattle.tcf_message.specs.Message.{most_body}
use Rattle.tcf_values.specs.Errors.{report_of}
use Rattle.tcf_values.specs.declared.answer.Answer.TheVariants.{Failed, Nothing, Peers}
use Rattle.tcf_values.specs.declared.command.Command.{Command}
use Rattle.tcf_values.specs.declared.command.Command.TheVariants.{Sync, GetPeers, Redirect}
use Rattle.value_node.specs.declared.own.Own.{Own}
use Rattle.value_node.specs.declared.own.Own.TheVariants.{Unknown, Result, Connect}

-- the code of a redirect to another peer, and that of a redirect to a peer that can't be reached
abbrev pub unknown_peer : ℕ
unknown_peer = 7

abbrev pub channel_closed : ℕ
channel_closed = 5

-- a name of more than 65,536 bytes is listed by no answer, and matched by no argument
abbrev pub is_name : List ℕ → Bool
is_name peer = nat_le (length peer) 65536

abbrev pub peers_of : List ℕ → List (List ℕ)
peers_of peer = if is_name peer then peer ∷ [] else []

abbrev pub is_peer : List ℕ → List ℕ → Bool
is_peer peer id = is_name peer && bytes_eq id peer

-- what is done with a command of Locator that is read; the peer comes first
unfoldable pub own_to : List ℕ → Command → Own
own_to peer Sync = Result (answer_data Sync Nothing)
own_to peer GetPeers = Result (answer_data GetPeers (Peers (peers_of peer)))
own_to peer (Redirect id) = if is_peer peer id then Connect else Result (answer_data (Redirect id) (Failed (report_of unknown_peer)))
own_to peer _ = Unknown

-- an argument that can't be read is answered by its code
unfoldable pub own_by : List ℕ → CommandName → Reading → Own
own_by peer name (Known command) = own_to peer command
own_by peer name IsUnknown = Unknown
own_by peer name (Bad index code) = Result (refusal_data (row_named name) code)

abbrev pub own_named : List ℕ → Option CommandName → Reading → Own
own_named peer (Some (service.Locator name)) reading = own_by peer (service.Locator name) reading
own_named peer _ reading = Unknown

-- what is done with a command of this service, this name and this data
unfoldable pub own_reply : List ℕ → List ℕ → List ℕ → List ℕ → Own
own_reply peer service name body = own_named peer (name_in service name) (reading_of service name body)

-- the data of a redirect's answer, which is the same whatever the peer's name: without an error, and with code 5
unfoldable pub redirect_done : List ℕ
redirect_done = answer_data (Redirect []) Nothing

unfoldable pub redirect_failed : List ℕ
redirect_failed = answer_data (Redirect []) (Failed (report_of channel_closed))

-- an answer that can be sent
abbrev pub Fits : List ℕ → Type 0
Fits body = length body ≤ most_body

abbrev pub IsSendable : Own → Type 0
IsSendable Unknown = Unit {0}
IsSendable (Result body) = Fits body
IsSendable Connect = Unit {0}
