-- What is queued for a wire is put on it, all in one put, and the wire is shut once.
use Rattle.std.specs.Prelude.{ℕ, ◌≡◌, ◌<◌, ◌≤◌, ◌==◌, Bool, true, false, ◌&&◌, not, List, [], ◌∷◌, ◌++◌, drop, length, if◌then◌else◌}
use Rattle.tcf_wires.specs.declared.call.WireCall.{WireCall}
use Rattle.tcf_wires.specs.declared.call.WireCall.TheVariants.{Offered, Shut}
use Rattle.tcf_wires.specs.declared.event.Put.TheVariants.{Took, Lost}
use Rattle.serving_wires.specs.OutboxValue.{OutboxValue}

abbrev pub unused_outbox : ℕ → OutboxValue
unused_outbox channel = record { channel = channel; queued = []; is_lost = false; is_closed = false; is_shut = false }

-- what is queued for a lost wire is dropped
abbrev pub queued : List ℕ → OutboxValue → OutboxValue
queued bytes o = if o.is_lost then o else record o { queued = o.queued ++ bytes }

abbrev pub closed : OutboxValue → OutboxValue
closed o = record o { is_closed = true }

-- nothing is queued, nor ever will be; a wire that was shut stays so
abbrev pub left_behind : OutboxValue → OutboxValue
left_behind o = if o.is_shut then o else closed (unused_outbox o.channel)

abbrev pub nothing_left : OutboxValue → Bool
nothing_left o = length o.queued == 0

-- One put of all that is queued, and none where nothing is. What is taken stays queued no more, and neither does anything
-- where the put is lost.
pub data Puts (old new : OutboxValue) (calls : List WireCall) : Type 0 where
  none : old.queued ≡ [] → new ≡ old → calls ≡ [] → Puts old new calls
  taken : (count : ℕ) → 0 < length old.queued → count ≤ length old.queued
      → new ≡ record old { queued = drop count old.queued } → calls ≡ Offered old.channel old.queued (Took count) ∷ []
      → Puts old new calls
  lost : 0 < length old.queued
      → new ≡ record old { queued = []; is_lost = true } → calls ≡ Offered old.channel old.queued Lost ∷ []
      → Puts old new calls

-- the wire is to be shut: nothing more will be queued, nothing is left, and it wasn't shut before
abbrev pub is_due : OutboxValue → Bool
is_due o = o.is_closed && (nothing_left o && not o.is_shut)

pub record Shuts (old new : OutboxValue) (calls : List WireCall) : Type 0 where
  pub shut : new ≡ (if is_due old then record old { is_shut = true } else old)
  pub called : calls ≡ (if is_due old then Shut old.channel ∷ [] else [])

-- a put, and then the shutting
pub record Flushes (old new : OutboxValue) (calls : List WireCall) : Type 0 where
  pub mid : OutboxValue
  pub puts : List WireCall
  pub put : Puts old mid puts
  pub shuts : List WireCall
  pub shut : Shuts mid new shuts
  pub called : calls ≡ puts ++ shuts

-- memory was wanting for the put, or for the shutting behind it
pub data IsGivenUp (old : OutboxValue) (calls : List WireCall) : Type 0 where
  before_put : calls ≡ [] → IsGivenUp old calls
  before_shut : (mid : OutboxValue) → Puts old mid calls → IsGivenUp old calls
