-- The message with which an end closes by a fault of its other side.
use Rattle.std.specs.Prelude.{ℕ, ◌≡◌, ◌≢◌, ◌⊎◌, Bool, true, false, List, [], ◌∷◌, ◌++◌, decimal, Option}
use Rattle.std.specs.List.{Contains, flat_map, list_any}
use Rattle.channel_core.specs.Arrivals.{Marked, Spoken, messages_in}
use Rattle.channel_core.specs.Beginning.{new_end}
use Rattle.channel_core.specs.ReceivingLaws.{EndsFor, incoming_of}
use Rattle.channel_core.specs.RunLaws.{is_answered, sent_of}
use Rattle.channel_core.specs.Runs.{Call, Issued, Run, after_calls, begun, closing, commanding, delivering, draining, ending, putting_out, sending, taking}
use Rattle.channel_core.specs.Wire.{Said, answers, goes_on, greets, said_in}
use Rattle.channel_core.specs.declared.held.Incoming.{Incoming}
use Rattle.channel_core.specs.declared.states.Cause.TheVariants.{Ended, Own, Protocol}
use Rattle.channel_core.specs.declared.states.Reason.{Reason}
use Rattle.channel_core.specs.declared.states.Reason.TheVariants.{Early, Grammar, Token}

-- progress, or a final answer, under this token
abbrev pub IsUnder : List ℕ → Said → Type 0
IsUnder token said = (said ≡ goes_on token) ⊎ ((done : Bool) × (said ≡ answers token done))

-- a command with this token was sent, and isn't answered among what was taken
pub record IsAwaited {T : Type 0} (token : List ℕ) (r : Run T) : Type 0 where
  pub command : Issued T
  pub sent : Contains (sent_of r) command
  pub token_is : token ≡ decimal command.command.token
  pub unanswered : is_answered r.past.taken command.command.token ≡ false

abbrev pub IsUnawaited : {T : Type 0} → List ℕ → Run T → Type 0
IsUnawaited token r = IsAwaited token r → ⊥

-- the message is the fault; one that can't be read never comes
abbrev pub IsFault : {T : Type 0} → Reason → Incoming → Run T → Type 0
IsFault (Grammar fault) incoming r = ⊥
IsFault Early incoming r = (flat_map incoming_of r.past.taken ≡ []) × (said_in incoming.raw ≢ greets)
IsFault Token incoming r = (token : List ℕ) × IsUnder token (said_in incoming.raw) × IsUnawaited token r

-- it stands behind those that were taken
pub record IsThere {T : Type 0} (reason : Reason) (spoken : List Spoken) (r : Run T) : Type 0 where
  pub faulty : Incoming
  pub behind : List Incoming
  pub place : messages_in spoken ≡ flat_map incoming_of r.past.taken ++ faulty ∷ behind
  pub fault : IsFault reason faulty r

abbrev pub FaultsAreThere : {T : Type 0} → List Spoken → Bool → List Marked → Run T → Type 0
FaultsAreThere spoken is_ended bytes r = (number : ℕ) (reason : Reason) → EndsFor r (Protocol number reason) → IsThere reason spoken r

-- ---- the other causes

abbrev pub is_closing : {T : Type 0} → Call T → Bool
is_closing (delivering piece mark) = false
is_closing ending = false
is_closing taking = false
is_closing (commanding service name body tag mark) = false
is_closing (sending message mark) = false
is_closing putting_out = false
is_closing closing = true
is_closing draining = false

abbrev pub is_ending : {T : Type 0} → Call T → Bool
is_ending ending = true
is_ending _ = false

-- by its own side, and since the bytes have ended, only where it was called so
pub record IsCalledSo {T : Type 0} (calls : List (Call T)) (r : Run T) : Type 0 where
  pub own : EndsFor r Own → list_any is_closing calls ≡ true
  pub ended : EndsFor r Ended → list_any is_ending calls ≡ true

abbrev pub EndsByItsCalls : Type 0 → Type 0
EndsByItsCalls T = (hello : List ℕ) (mark : Option ℕ) (calls : List (Call T)) → IsCalledSo calls (after_calls calls (begun (new_end hello mark)))
