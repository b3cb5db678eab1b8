-- What calls of the wires say, in order.
use Rattle.std.specs.Prelude.{ℕ, ◌≡◌, ◌==◌, Bool, false, List, [], ◌∷◌, ◌++◌, count_by, fold, length, nat_lt, Ok, if◌then◌else◌}
use Rattle.std.specs.List.{flat_map, list_any}
use Rattle.tcf_wires.specs.Told.{WiresSeen, with_calls}
use Rattle.tcf_wires.specs.declared.call.WireCall.{WireCall}
use Rattle.tcf_wires.specs.declared.call.WireCall.TheVariants.{Gave, Offered, Shut}
use Rattle.tcf_wires.specs.declared.event.Put.TheVariants.{Took, Lost}
use Rattle.tcf_wires.specs.declared.event.WireEvent.{WireEvent}

-- the events that came, in order
abbrev pub event_of : WireCall → List WireEvent
event_of (Gave (Ok event)) = event ∷ []
event_of call = []

abbrev pub events_in : List WireCall → List WireEvent
events_in calls = flat_map event_of calls

-- a put on this channel was lost
abbrev pub loses_on : ℕ → WireCall → Bool
loses_on channel (Offered number piece Lost) = number == channel
loses_on channel call = false

abbrev pub was_lost : ℕ → List WireCall → Bool
was_lost channel calls = list_any (loses_on channel) calls

-- how often this channel was shut
abbrev pub shuts : ℕ → WireCall → Bool
shuts channel (Shut number) = number == channel
shuts channel call = false

abbrev pub shut_count : ℕ → List WireCall → ℕ
shut_count channel calls = count_by (shuts channel) calls

-- the last put on this channel since the last event took less than it was offered
abbrev pub falls_short : ℕ → Bool → WireCall → Bool
falls_short channel was_short (Gave (Ok event)) = false
falls_short channel was_short (Offered number piece (Took count)) = if number == channel then nat_lt count (length piece) else was_short
falls_short channel was_short call = was_short

abbrev pub is_short : ℕ → List WireCall → Bool
is_short channel calls = fold (falls_short channel) false calls

-- the channels of the puts since the last event, in order
abbrev pub put_on : List ℕ → WireCall → List ℕ
put_on channels (Gave (Ok event)) = []
put_on channels (Offered channel piece answer) = channels ++ channel ∷ []
put_on channels call = channels

abbrev pub channels_put : List WireCall → List ℕ
channels_put calls = fold put_on [] calls

-- Calls were made that fit: what is seen of the wires is what was seen before, and these calls.
pub record Makes (Fits : List WireCall → Type 0) (before after : WiresSeen) : Type 0 where
  pub calls : List WireCall
  pub fits : Fits calls
  pub seen : after ≡ with_calls calls before
