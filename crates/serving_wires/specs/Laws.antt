-- What holds of each wire of a serving command.
use Rattle.std.specs.Prelude.{ℕ, ◌≡◌, ◌≢◌, ◌⊎◌, true, false, List, [], ◌∷◌, ◌++◌, fold}
use Rattle.std.specs.List.{list_any}
use Rattle.tcf_wires.specs.declared.call.WireCall.{WireCall}
use Rattle.serving_wires.specs.Calls.{events_in, put_on}
use Rattle.serving_wires.specs.Following.{AreOn, Follows, IsFlushed, Spares}
use Rattle.serving_wires.specs.Outbox.{Flushes, IsGivenUp, closed, queued, unused_outbox}
use Rattle.serving_wires.specs.OutboxValue.{OutboxValue}
use Rattle.serving_wires.specs.Serving.{EachBehind, IsCarried, IsInPlace, Nodes, fails, reaches_out}

-- ---- an outbox goes on following

-- on a wire that no call spoke of nothing was put yet
abbrev pub BeginsToFollow : Type 0
BeginsToFollow = (channel : ℕ) (calls : List WireCall) → Spares channel calls → Follows (unused_outbox channel) (unused_outbox channel) calls

-- the same bytes are queued; none where nothing more is to be
abbrev pub FollowsQueueing : Type 0
FollowsQueueing = (bytes : List ℕ) (all now : OutboxValue) (calls : List WireCall) → (all.is_closed ≡ true → bytes ≡ [])
    → Follows all now calls → Follows (queued bytes all) (queued bytes now) calls

abbrev pub FollowsClosing : Type 0
FollowsClosing = (all now : OutboxValue) (calls : List WireCall) → Follows all now calls → Follows (closed all) (closed now) calls

-- calls that aren't on the wire change nothing
abbrev pub FollowsOthers : Type 0
FollowsOthers = (all now : OutboxValue) (calls more : List WireCall) → Spares all.channel more → Follows all now calls → Follows all now (calls ++ more)

abbrev pub FollowsFlushing : Type 0
FollowsFlushing = (all old new : OutboxValue) (calls more : List WireCall) → Flushes old new more → Follows all old calls → Follows all new (calls ++ more)

-- ---- all is put that can be, and so the wire is carried

abbrev pub FlushesAll : Type 0
FlushesAll = (all old new : OutboxValue) (calls more : List WireCall) → Flushes old new more → Follows all old calls → IsFlushed new (calls ++ more)

-- a wire that was shut stays so, also behind the next event
abbrev pub ShutIsFlushed : Type 0
ShutIsFlushed = (all now : OutboxValue) (calls : List WireCall) → now.is_shut ≡ true → Follows all now calls → IsFlushed now calls

-- calls that aren't on the wire change nothing, until an event comes
abbrev pub StaysFlushed : Type 0
StaysFlushed = (now : OutboxValue) (calls more : List WireCall) → Spares now.channel more → events_in more ≡ [] → IsFlushed now calls → IsFlushed now (calls ++ more)

abbrev pub FlushedIsCarried : Type 0
FlushedIsCarried = (all now : OutboxValue) (calls : List WireCall) → Follows all now calls → IsFlushed now calls
    → IsCarried all.queued all.is_closed all.channel calls

-- a wire for which nothing is queued, and that no call spoke of
abbrev pub UnusedIsCarried : Type 0
UnusedIsCarried = (channel : ℕ) (calls : List WireCall) → Spares channel calls → IsCarried [] false channel calls

-- ---- each put and each shutting is in its place

abbrev pub FlushesInPlace : Type 0
FlushesInPlace = (nodes : Nodes) (all old new : OutboxValue) (calls more : List WireCall) → nodes.served (events_in calls) all.channel ≡ all.queued
    → Follows all old calls → Flushes old new more → EachBehind (IsInPlace nodes) calls more

abbrev pub GivesUpInPlace : Type 0
GivesUpInPlace = (nodes : Nodes) (all old : OutboxValue) (calls more : List WireCall) → nodes.served (events_in calls) all.channel ≡ all.queued
    → Follows all old calls → IsGivenUp old more → EachBehind (IsInPlace nodes) calls more

-- ---- they are on that wire, and nothing else is called

abbrev pub FlushesOneWire : Type 0
FlushesOneWire = (old new : OutboxValue) (calls : List WireCall) → Flushes old new calls → AreOn old.channel calls

abbrev pub GivesUpOneWire : Type 0
GivesUpOneWire = (old : OutboxValue) (calls : List WireCall) → IsGivenUp old calls → AreOn old.channel calls

pub record AreAside (channel : ℕ) (calls : List WireCall) : Type 0 where
  pub spares : (other : ℕ) → other ≢ channel → Spares other calls
  pub no_event : events_in calls ≡ []
  pub sound : list_any fails calls ≡ false
  pub inside : list_any reaches_out calls ≡ false

abbrev pub OneWireAlone : Type 0
OneWireAlone = (channel : ℕ) (calls : List WireCall) → AreOn channel calls → AreAside channel calls

-- one put at most
abbrev pub PutsOnce : Type 0
PutsOnce = (old new : OutboxValue) (calls : List WireCall) (before : List ℕ) → Flushes old new calls
    → (fold put_on before calls ≡ before) ⊎ (fold put_on before calls ≡ before ++ old.channel ∷ [])
