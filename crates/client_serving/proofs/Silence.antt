-- A run that has an end, with a closed channel and nothing to send, stays so.
use Rattle.std.proofs.Common.{◌≡◌, ℕ, zero, suc, Bool, true, false, [], Option, Some, None, refl, sym, subst}
use Rattle.std.specs.Prelude.{if◌then◌else◌, option_map}
use Rattle.channel_core.specs.Closing.{is_closed}
use Rattle.channel_core.specs.EndValue.{EndValue}
use Rattle.channel_core.specs.declared.states.Cause.{Cause}
use Rattle.channel_core.specs.declared.states.EndState.{EndState}
use Rattle.channel_core.specs.declared.states.EndState.TheVariants.{Closed, Live, Opening, Reopening}
use Rattle.client_node.specs.Client.{waiting_on}
use Rattle.client_node.specs.ClientValue.{ClientValue}
use Rattle.tcf_wires.specs.declared.event.WireEvent.{WireEvent}
use Rattle.tcf_wires.specs.declared.event.WireEvent.TheVariants as events
use Rattle.serving_wires.specs.declared.intake.Came.{Came}
use Rattle.serving_wires.specs.declared.intake.Came.TheVariants.{Piece, End}
use Rattle.client_serving.specs.Serving.{acted, all_gathered, all_taken, came_to, cause_in, cause_of, emptied, heard_on, is_its, one_taken, queue_of, stopped, taken_so_many}
use Rattle.client_serving.specs.ServingValue.{ServingValue}
use Rattle.client_serving.specs.declared.end.ClientEnd.{ClientEnd}
use Rattle.client_serving.proofs.Standing.{IsSilent, delivered_silent, emptied_silent, ended_silent}

abbrev pub SilentOn : Option (EndValue ℕ) → Type 0
SilentOn None = ⊥
SilentOn (Some e) = IsSilent e

pub record IsOver (s : ServingValue) : Type 0 where
  pub end : ClientEnd
  pub is : s.end ≡ Some end
  pub silent : SilentOn s.client.channel

none_on : (channel : Option (EndValue ℕ)) → SilentOn channel → queue_of channel ≡ []
none_on None silent = refl
none_on (Some e) silent = silent.none

pub over_sends_none : (s : ServingValue) → IsOver s → queue_of s.client.channel ≡ []
over_sends_none s old = none_on s.client.channel old.silent

-- a closed channel of which all was taken out
pub emptied_over : (channel : Option (EndValue ℕ)) (cause : Cause) → cause_of (option_map emptied channel) ≡ Some cause → SilentOn (option_map emptied channel)
emptied_over None cause is = absurd cc
emptied_over (Some e) cause is = emptied_silent e (by_flag e.is_spent is)
  where
    closed_by : (state : EndState) → cause_in state ≡ Some cause → is_closed state ≡ true
    closed_by Opening is = absurd cc
    closed_by Live is = absurd cc
    closed_by Reopening is = absurd cc
    closed_by (Closed found) is = refl

    by_flag : (spent : Bool) → cause_in (emptied (record e { is_spent = spent })).state ≡ Some cause → is_closed e.state ≡ true
    by_flag true is = closed_by e.state is
    by_flag false is = closed_by e.state is

pub gathered_over : (s : ServingValue) → IsOver s → IsOver (all_gathered s)
unfolding all_gathered
gathered_over s old = record { end = old.end; is = old.is; silent = by_channel s.client.channel old.silent }
  where
    by_channel : (channel : Option (EndValue ℕ)) → SilentOn channel → SilentOn (option_map emptied channel)
    by_channel None silent = silent
    by_channel (Some e) silent = emptied_silent e silent.closed

-- ---- an event

taken_stays : (count : ℕ) (end : ClientEnd) (s : ServingValue) → taken_so_many count (record s { end = Some end }) ≡ record s { end = Some end }
unfolding one_taken
taken_stays zero end s = refl
taken_stays (suc count) end s = taken_stays count end s

came_silent : (what : Came) (channel : Option (EndValue ℕ)) (c : ClientValue) → SilentOn channel → SilentOn (came_to what (record c { channel = channel })).channel
came_silent what None c silent = absurd silent
came_silent (Piece bytes) (Some e) c silent = delivered_silent bytes None e silent
came_silent End (Some e) c silent = ended_silent e silent

over_by : (end : Option ClientEnd) (s : ServingValue) (count : ℕ) → IsOver (record s { end = end }) → IsOver (taken_so_many count (record s { end = end }))
over_by None s count old = absurd (let no = old.is in cc)
over_by (Some end) s count old = subst IsOver (sym (taken_stays count end s)) old

heard_over : (channel : ℕ) (what : Came) (s : ServingValue) → IsOver s → IsOver (heard_on channel what s)
heard_over channel what s old = by_flag (is_its channel s.channel)
  where
    next : ServingValue
    next = record s { client = came_to what s.client }

    by_flag : (flag : Bool) → IsOver (if flag then all_taken next else s)
    by_flag true = over_by s.end next (waiting_on next.client.channel) (record { end = old.end; is = old.is; silent = came_silent what s.client.channel s.client old.silent })
    by_flag false = old

stopped_over : (end : Option ClientEnd) (s : ServingValue) → IsOver (record s { end = end }) → IsOver (stopped (record s { end = end }))
stopped_over None s old = absurd (let no = old.is in cc)
stopped_over (Some end) s old = old

pub acted_over : (event : WireEvent) (s : ServingValue) → IsOver s → IsOver (acted event s)
unfolding acted
acted_over (events.Opened channel) s old = old
acted_over (events.Piece channel bytes) s old = heard_over channel (Piece bytes) s old
acted_over (events.Ended channel) s old = heard_over channel End s old
acted_over (events.Lost channel) s old = heard_over channel End s old
acted_over events.Idle s old = old
acted_over events.Stop s old = stopped_over s.end s old
