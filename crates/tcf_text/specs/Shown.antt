-- How a message of the TCF specification's protocol page is shown: its type letter, and then its token, service,
-- name and data as the lines of a log show words and parts.
use Rattle.std.specs.Prelude.{ℕ, List, [], ◌∷◌, ◌++◌, codes}
use Rattle.std.specs.Fmt.{signed_decimal}
use Rattle.tcf_message.specs.Message.{MessageValue, command, final, progress, not_known, event, flow}
use Rattle.tcf_text.specs.Log.{word_text, args_text, named_text}
use Rattle.tcf_text.specs.declared.log.Showing.TheVariants.{Plain}

-- a message's line without its end
abbrev pub message_words : MessageValue → List ℕ
message_words (command token service name body) = codes "C" ++ word_text Plain token ++ named_text Plain service name body
message_words (final token body) = codes "R" ++ word_text Plain token ++ args_text Plain body
message_words (progress token body) = codes "P" ++ word_text Plain token ++ args_text Plain body
message_words (not_known token) = codes "N" ++ word_text Plain token
message_words (event service name body) = codes "E" ++ named_text Plain service name body
message_words (flow level) = codes "F " ++ signed_decimal level

-- a message's line, which byte 10 ends
abbrev pub message_line : MessageValue → List ℕ
message_line message = message_words message ++ 10 ∷ []
