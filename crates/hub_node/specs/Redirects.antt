-- A redirect is answered by the hub itself, with an error (TCF service Locator; that it is, and the code of a peer that isn't
-- known, are this profile's).
use Rattle.std.specs.Prelude.{ℕ, List}
use Rattle.command_tables.specs.Reading.{reading_of}
use Rattle.command_tables.specs.declared.reading.Reading.{Reading}
use Rattle.command_tables.specs.declared.reading.Reading.TheVariants.{Bad}
use Rattle.reply_tables.specs.Rows.{row_named}
use Rattle.reply_tables.specs.Written.{refusal_data}
use Rattle.service_names.specs.declared.commands.CommandName.TheVariants.{Locator}
use Rattle.service_names.specs.declared.commands.LocatorCommand.TheVariants.{Redirect}

-- a hub knows no peer to which it could be redirected
abbrev pub unknown_peer : ℕ
unknown_peer = 7

-- the code of an argument that can't be read, or else that of the peer
abbrev pub redirect_code : Reading → ℕ
redirect_code (Bad index code) = code
redirect_code reading = unknown_peer

-- the data of a redirect's answer with the error of this code
unfoldable pub redirect_data : ℕ → List ℕ
redirect_data code = refusal_data (row_named (Locator Redirect)) code

unfoldable pub redirect_reply : List ℕ → List ℕ → List ℕ → List ℕ
redirect_reply service name body = redirect_data (redirect_code (reading_of service name body))
