-- What a peer learns from what the history tells its channel.
use Rattle.std.specs.Prelude.{ℕ, List, [], ◌∷◌, codes, drop, slice_get, Option, option_map}
pub use Rattle.cache_learning.specs.Lessons.{message_by, event_message, answer_by, answer_message, final_message}
use Rattle.command_tables.specs.declared.reading.Reading.{Reading}
use Rattle.knowledge.specs.Learning.{Message, other_taken}
use Rattle.target_hub.specs.Sent.{ReadCommand, Told, hello_at, event_at, progress_at, final_at, unknown_at}

-- the reading of the command that is answered next, of those that have no answer yet
abbrev pub next_of : List ReadCommand → Option Reading
next_of commands = option_map (λ c. c.reading) (slice_get commands 0)

-- what is taken as what; the Hello is the event Locator.Hello
abbrev pub message_of : List ReadCommand → Told → Message
message_of commands (hello_at position body) = event_message (codes "Locator") (codes "Hello") body
message_of commands (event_at position service name body) = event_message service name body
message_of commands (progress_at position body) = other_taken
message_of commands (final_at position through body) = final_message (next_of commands) body
message_of commands (unknown_at position through) = other_taken

-- the commands that have no answer yet after a message
abbrev pub open_after : Told → List ReadCommand → List ReadCommand
open_after (hello_at position body) commands = commands
open_after (event_at position service name body) commands = commands
open_after (progress_at position body) commands = commands
open_after (final_at position through body) commands = drop 1 commands
open_after (unknown_at position through) commands = drop 1 commands

-- what is taken of all that is told, where these commands are answered in order
abbrev pub taught : List ReadCommand → List Told → List Message
taught commands [] = []
taught commands (told ∷ rest) = message_of commands told ∷ taught (open_after told commands) rest

-- the position of a message
abbrev pub position_of : Told → ℕ
position_of (hello_at position body) = position
position_of (event_at position service name body) = position
position_of (progress_at position body) = position
position_of (final_at position through body) = position
position_of (unknown_at position through) = position
