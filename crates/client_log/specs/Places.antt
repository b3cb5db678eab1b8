-- Where the accepted commands of a log stand.
use Rattle.std.specs.Prelude.{ℕ, ◌+◌, List, [], ◌∷◌, ◌++◌, Option, Some, None}
use Rattle.tcf_text.specs.Lines.{Accepted}
use Rattle.tcf_text.specs.declared.log.LogLine.{LogLine}
use Rattle.tcf_text.specs.declared.log.LogLine.TheVariants.{Sent}

abbrev pub place_of : ℕ → LogLine → List ℕ
place_of at (Sent number service name body) = at ∷ []
place_of at line = []

abbrev pub places_from : ℕ → List LogLine → List ℕ
places_from at [] = []
places_from at (line ∷ lines) = place_of at line ++ places_from (at + 1) lines

-- the places of the `sent` lines, in order
abbrev pub sent_places : List LogLine → List ℕ
sent_places log = places_from 0 log

-- the command that a line says was accepted
abbrev pub command_of : LogLine → Option Accepted
command_of (Sent number service name body) = Some (record { number = number; service = service; name = name; body = body })
command_of line = None
