-- Where the accepted commands of a log stand.
use Rattle.std.proofs.Common.{◌≡◌, ℕ, zero, suc, ◌+◌, refl, sym, List, [], ◌∷◌, ◌++◌, length, append_assoc, arith, Option, Some, None}
use Rattle.std.specs.Prelude.{slice_get, option_and_then}
use Rattle.std.proofs.lemmas.List.{append-nil, length_push}
use Rattle.tcf_text.specs.Lines.{Accepted, accepted, accepted_by}
use Rattle.tcf_text.specs.declared.log.LogLine.{LogLine}
use Rattle.tcf_text.specs.declared.log.LogLine.TheVariants.{Sent, Refused, Hello, Event, Progress, Final, Unknown, Closed, Ended, Cached}
use Rattle.client_log.specs.Places.{command_of, place_of, places_from, sent_places}

places_later : (at : ℕ) (lines : List LogLine) (line : LogLine)
    → places_from at (lines ++ line ∷ []) ≡ places_from at lines ++ place_of (at + length lines) line
places_later at [] line = let e : at + 0 ≡ at = omega arith in rw (append-nil (place_of at line), e)
places_later at (first ∷ lines) line =
    let e : (at + 1) + length lines ≡ at + suc (length lines) = omega arith in
    rw (places_later (at + 1) lines line, e, append_assoc (place_of at first))

-- the place of one more line stands behind those of the lines before it
pub places_behind : (lines : List LogLine) (line : LogLine) → sent_places (lines ++ line ∷ []) ≡ sent_places lines ++ place_of (length lines) line
places_behind lines line = let e : 0 + length lines ≡ length lines = omega arith in rw e at (places_later 0 lines line)

-- a line either has no command, or has the one that it says
data IsLine (line : LogLine) : Type 0 where
  other : command_of line ≡ None → accepted_by line ≡ [] → ((at : ℕ) → place_of at line ≡ []) → IsLine line
  command : (a : Accepted) → command_of line ≡ Some a → accepted_by line ≡ a ∷ [] → ((at : ℕ) → place_of at line ≡ at ∷ []) → IsLine line

kind_of : (line : LogLine) → IsLine line
kind_of (Sent number service name body) = command (record { number = number; service = service; name = name; body = body }) refl refl (λ at. refl)
kind_of (Refused why) = other refl refl (λ at. refl)
kind_of (Hello mark body) = other refl refl (λ at. refl)
kind_of (Event mark service name body) = other refl refl (λ at. refl)
kind_of (Progress number mark body) = other refl refl (λ at. refl)
kind_of (Final number mark body) = other refl refl (λ at. refl)
kind_of (Unknown number mark) = other refl refl (λ at. refl)
kind_of (Closed number) = other refl refl (λ at. refl)
kind_of (Ended why) = other refl refl (λ at. refl)
kind_of (Cached what value) = other refl refl (λ at. refl)

-- a line that isn't of the one kind has no command
pub no_command : (line : LogLine) → ((number : ℕ) (service name body : List ℕ) → line ≡ Sent number service name body → ⊥)
    → command_of line ≡ None
no_command (Sent number service name body) unsent = absurd (unsent number service name body refl)
no_command (Refused why) unsent = refl
no_command (Hello mark body) unsent = refl
no_command (Event mark service name body) unsent = refl
no_command (Progress number mark body) unsent = refl
no_command (Final number mark body) unsent = refl
no_command (Unknown number mark) unsent = refl
no_command (Closed number) unsent = refl
no_command (Ended why) unsent = refl
no_command (Cached what value) unsent = refl

-- the command of the line at a place
abbrev pub command_at : List LogLine → ℕ → Option Accepted
command_at lines place = option_and_then command_of (slice_get lines place)

at_seam : (front : List LogLine) (line : LogLine) (lines : List LogLine) → slice_get (front ++ line ∷ lines) (length front) ≡ Some line
at_seam [] line lines = refl
at_seam (first ∷ front) line lines = at_seam front line lines

-- the places of these lines, which stand behind others, are those of their commands
abbrev AreLocated : List LogLine → Type 0
AreLocated lines = (front : List LogLine) (k : ℕ)
    → option_and_then (command_at (front ++ lines)) (slice_get (places_from (length front) lines) k) ≡ slice_get (accepted lines) k

located_later : (front : List LogLine) (line : LogLine) (lines : List LogLine) (k : ℕ) → AreLocated lines
    → option_and_then (command_at (front ++ line ∷ lines)) (slice_get (places_from (length front + 1) lines) k) ≡ slice_get (accepted lines) k
located_later front line lines k located = rw (append_assoc front (line ∷ []) lines, length_push front line) at (located (front ++ line ∷ []) k)

located_line : (front : List LogLine) (line : LogLine) (lines : List LogLine) (k : ℕ) → AreLocated lines → IsLine line
    → option_and_then (command_at (front ++ line ∷ lines)) (slice_get (places_from (length front) (line ∷ lines)) k)
    ≡ slice_get (accepted (line ∷ lines)) k
located_line front line lines k located (other is says places) = rw (places (length front), says) (located_later front line lines k located)
located_line front line lines zero located (command a is says places) = rw (places (length front), says, at_seam front line lines) is
located_line front line lines (suc k) located (command a is says places) = rw (places (length front), says) (located_later front line lines k located)

located : (lines : List LogLine) → AreLocated lines
located [] front k = refl
located (line ∷ lines) front k = located_line front line lines k (located lines) (kind_of line)

-- the command of a number stands at the place that is noted for it
pub command_found : (lines : List LogLine) (sent : List ℕ) (k : ℕ) (place : Option ℕ) → sent ≡ sent_places lines → place ≡ slice_get sent k
    → option_and_then (command_at lines) place ≡ slice_get (accepted lines) k
command_found lines sent k place of_log of_sent = rw (of_sent, of_log) (located lines [] k)

-- the places are those of the log with one more line
pub places_kept : (sent now : List ℕ) (lines later : List LogLine) (line : LogLine) (count : ℕ) → sent ≡ sent_places lines → count ≡ length lines
    → now ≡ sent ++ place_of count line → later ≡ lines ++ line ∷ [] → now ≡ sent_places later
places_kept sent now lines later line count of_log of_lines noted pushed = rw (noted, pushed, of_log, of_lines) (sym (places_behind lines line))
