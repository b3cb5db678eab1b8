-- One wire, by an outbox of which nothing was ever put and by the calls so far.
use Rattle.std.specs.Prelude.{ℕ, ◌≡◌, ◌==◌, Bool, true, false, ◌&&◌, List, [], ◌++◌, if◌then◌else◌}
use Rattle.std.specs.List.{list_all, list_any}
use Rattle.tcf_wires.specs.Told.{taken_on}
use Rattle.tcf_wires.specs.declared.call.WireCall.{WireCall}
use Rattle.tcf_wires.specs.declared.call.WireCall.TheVariants.{Listened, Connected, Gave, Offered, Shut}
use Rattle.serving_wires.specs.Calls.{is_short, shut_count, was_lost}
use Rattle.serving_wires.specs.Outbox.{is_due, nothing_left}
use Rattle.serving_wires.specs.OutboxValue.{OutboxValue}

-- a put on this channel, or its shutting
abbrev pub is_on : ℕ → WireCall → Bool
is_on channel (Listened address answer) = false
is_on channel (Connected peer answer) = false
is_on channel (Gave answer) = false
is_on channel (Offered number piece answer) = number == channel
is_on channel (Shut number) = number == channel

-- none of the calls is on this channel
abbrev pub Spares : ℕ → List WireCall → Type 0
Spares channel calls = list_any (is_on channel) calls ≡ false

-- each is
abbrev pub AreOn : ℕ → List WireCall → Type 0
AreOn channel calls = list_all (is_on channel) calls ≡ true

-- of all bytes these were taken and these are left; where a put was lost the others were dropped
abbrev pub IsSplit : Bool → List ℕ → List ℕ → List ℕ → Type 0
IsSplit false all taken left = all ≡ taken ++ left
IsSplit true all taken left = (left ≡ []) × ((dropped : List ℕ) × (all ≡ taken ++ dropped))

-- An outbox as the calls have left it, where `all` is the same outbox with nothing ever put.
pub record Follows (all now : OutboxValue) (calls : List WireCall) : Type 0 where
  pub channel : now.channel ≡ all.channel
  pub closed : now.is_closed ≡ all.is_closed
  pub kept : all.is_lost ≡ false
  pub lost : was_lost all.channel calls ≡ now.is_lost
  pub split : IsSplit now.is_lost all.queued (taken_on all.channel calls) now.queued
  pub shut : shut_count all.channel calls ≡ (if now.is_shut then 1 else 0)
  pub over : now.is_shut ≡ true → now.is_closed && nothing_left now ≡ true

-- All is put that can be: what is left was offered since the last event, and the wire was shut if it was to be.
pub record IsFlushed (now : OutboxValue) (calls : List WireCall) : Type 0 where
  pub offered : is_short now.channel calls ≡ false → now.queued ≡ []
  pub shut : is_due now ≡ false
