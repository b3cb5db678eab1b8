-- A way at one moment at which nothing is under way on it.
use Rattle.std.specs.Prelude.{◌≡◌, ◌⊎◌, Bool, true, false, List, [], ◌∷◌, ◌++◌, filter, map, unwrap_or, None, IfSome}
use Rattle.std.specs.List.{AllByRecursion, list_any}
use Rattle.chain_route.specs.Carrying.{AllCarry, End, Made, agent_end, past_of, value_of}
use Rattle.chain_route.specs.Runs.{Talk}
use Rattle.chain_route.specs.declared.hop.Hop.{Hop}
use Rattle.chain_route.specs.Taking.{AllTakeAll, AreBound, TakesAllOf}
use Rattle.channel_core.specs.Arrivals.{AreSpoken, Marked, Spoken, arrived, bytes_of, all_said}
use Rattle.channel_core.specs.Closing.{is_closed}
use Rattle.channel_core.specs.QueueLaws.{is_message}
use Rattle.channel_core.specs.ReceivingLaws.{SendsReadable}
use Rattle.channel_core.specs.Runs.{Run}
use Rattle.channel_core.specs.Wire.{end_of_stream, hello as hello_word, locator}
use Rattle.channel_core.specs.declared.held.Outgoing.{Outgoing}
use Rattle.channel_laws.specs.Faults.{is_ending}
use Rattle.channel_laws.specs.Meeting.{AnswersAll, IsFree, Side, run_of}
use Rattle.channel_laws.specs.Numbering.{TakesNumbered}
use Rattle.tcf_message.specs.Message.{IsWellFormed, event}
use Rattle.value_node.specs.ForwardedValue.{ForwardedValue}
use Rattle.value_node.specs.Runs.{above, below, upper_after}
use Rattle.value_node.specs.Value.{awaits, value_services}
use Rattle.list_laws.specs.Fronts.{IsFront}

-- ---- an end

-- as a hop sees it
abbrev pub end_of_side : {T : Type 0} → Side T → End
end_of_side s = record { gave = (run_of s).past.given; came = arrived s.calls; is_lost = list_any is_ending s.calls; is_refused = false }

-- the two sides of a value-add
abbrev pub side_below : Made → Side Unit
side_below m = record { hello = value_services; mark = None; calls = (past_of m).until_bound ++ (past_of m).since_bound }

abbrev pub side_above : Made → Side ForwardedValue
side_above m = record { hello = value_services; mark = None; calls = unwrap_or (past_of m).connection [] }

-- what it sends can be read
pub record IsReadable {T : Type 0} (s : Side T) : Type 0 where
  pub formed : IsWellFormed (event locator hello_word s.hello)
  pub readable : SendsReadable s.calls

-- all that it queued was given out, and no entry waits
pub record IsStill {T : Type 0} (r : Run T) : Type 0 where
  pub queued : r.end.queued ≡ []
  pub inbox : r.end.inbox ≡ []
  pub stop : r.end.stop ≡ None

-- ---- hops and value-adds

pub record HopIsStill (hop : Hop) : Type 0 where
  pub up : hop.up ≡ []
  pub down : hop.down ≡ []

-- and it waits for no connection
pub record AddIsStill (m : Made) : Type 0 where
  pub lower : IsStill (below (past_of m))
  pub upper : IfSome (past_of m).connection (λ calls. IsStill (upper_after calls))
  pub awaits_none : awaits (value_of m).relay ≡ false

-- ---- the agent's side

-- bytes without the marks beside their messages
abbrev pub unmarked : List Outgoing → List Marked
unmarked outs = bytes_of (map (λ (out : Outgoing). record out { mark = None }) outs)

-- the end of a channel that it opened
pub record IsChannel (a : Side Unit) (talk : Talk) : Type 0 where
  pub opened : talk.is_refused ≡ false
  pub gave : talk.gave ≡ (run_of a).past.given
  pub given : (run_of a).end.queued ≡ []
  pub came : is_closed (run_of a).end.state ≡ false → unmarked talk.got ≡ arrived a.calls
  pub front : IsFront (arrived a.calls) (unmarked talk.got)
  pub lost : talk.is_lost ≡ list_any is_ending a.calls
  pub sends : IsReadable a
  pub answers : TakesNumbered (run_of a) → (spoken : List Spoken) × AnswersAll (run_of a) spoken

-- on which it has answered what it took
pub record IsServed (a : Side Unit) (talk : Talk) : Type 0 where
  pub channel : IsChannel a talk
  pub still : IsStill (run_of a)

-- or one that it refused
abbrev pub IsServedOrRefused : Talk → Type 0
IsServedOrRefused talk = ((a : Side Unit) × IsServed a talk) ⊎ (talk.gave ≡ end_of_stream ∷ [])

-- ---- the whole way

abbrev pub last_is_live : List Hop → Bool
last_is_live [] = false
last_is_live (hop ∷ []) = hop.is_live
last_is_live (hop ∷ hops) = last_is_live hops

-- the end of the client, or one of which nothing was called, and all that is above it
pub record IsWayStill {T : Type 0} (s : Side T) (hops : List Hop) (made : List Made) (talk : Talk) : Type 0 where
  pub sends : IsReadable s
  pub hops_are : AllByRecursion HopIsStill hops
  pub adds : AllByRecursion AddIsStill made
  pub carries : AllCarry (end_of_side s) hops made (agent_end talk)
  pub served : last_is_live hops ≡ true → IsServedOrRefused talk

-- the upper end of a value-add, where it is open, has no command that isn't answered, and holds none
abbrev pub IsFreeAbove : Made → Type 0
IsFreeAbove m = is_closed (above (past_of m)).end.state ≡ false → IfSome (past_of m).connection (λ calls. IsFree (upper_after calls))

-- Neither has the client. And where all value-adds are bound and the client's end is open, it took all that was said above it,
-- and so did each value-add.
pub record IsUnstuck {T : Type 0} (s : Side T) (made : List Made) (talk : Talk) : Type 0 where
  pub adds : AllByRecursion IsFreeAbove made
  pub free : IsStill (run_of s) → is_closed (run_of s).end.state ≡ false → IsFree (run_of s)
  pub all_taken : IsStill (run_of s) → is_closed (run_of s).end.state ≡ false → AreBound made → (said : List Spoken) → AreSpoken said → filter is_message talk.gave ≡ all_said said
      → TakesAllOf (run_of s) made said × AllTakeAll made said

abbrev pub StillWaysAreUnstuck : Type 0 → Type 0
StillWaysAreUnstuck T = (s : Side T) (hops : List Hop) (made : List Made) (talk : Talk) → IsWayStill s hops made talk → IsUnstuck s made talk
