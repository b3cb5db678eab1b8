-- What a value-add hasn't answered yet of what it was asked from below.
use Rattle.std.specs.Prelude.{ℕ, ◌≡◌, true, false, List, [], map, filter, Contains, Option, None, Some, IfSome}
use Rattle.std.specs.List.{flat_map}
use Rattle.channel_core.specs.Arrivals.{AreSpoken, Spoken, all_said}
use Rattle.channel_core.specs.Closing.{is_closed}
use Rattle.channel_core.specs.QueueLaws.{is_message}
use Rattle.channel_core.specs.ReceivingLaws.{incoming_of}
use Rattle.channel_core.specs.Runs.{Run}
use Rattle.channel_core.specs.declared.states.EndState.TheVariants.{Reopening}
use Rattle.channel_laws.specs.Meeting.{answers_among, lacks_hello_behind, redirects_among}
use Rattle.channel_laws.specs.Numbering.{TakesNumbered, tokens_among}
use Rattle.value_node.specs.Passing.{Upper}
use Rattle.value_node.specs.Runs.{ValueRun, below}
use Rattle.value_node.specs.declared.relay.Relay.{Relay}
use Rattle.value_node.specs.declared.states.Bind.{Bind}
use Rattle.value_node.specs.declared.states.Bind.TheVariants.{Unbound, Opening, Bound, Closed}

-- a command with this token was taken, and has no final answer among these messages
pub record Lacks {T : Type 0} (r : Run T) (spoken : List Spoken) (token : List ℕ) : Type 0 where
  pub taken : Contains (tokens_among (flat_map incoming_of r.past.taken)) token
  pub unanswered : answers_among token spoken ≡ false

-- the tokens below of the commands that are pending above
abbrev pub pending_below : Option Upper → List (List ℕ)
pending_below None = []
pending_below (Some e) = map (λ row. row.1.token) e.pending

-- the command is the redirect that it does, or it is pending above
abbrev pub WaitsFor : Bind → Relay → List ℕ → Type 0
WaitsFor Unbound v token = ⊥
WaitsFor Opening v token = v.redirect ≡ Some token
WaitsFor Bound v token = Contains (pending_below v.upper) token
WaitsFor Closed v token = ⊥

-- it waits above for the Hello behind a redirect
pub record AwaitsHello (v : Relay) : Type 0 where
  pub bound : v.bind ≡ Bound
  pub state : IfSome v.upper (λ e. e.state ≡ Reopening)
  pub answered : IfSome v.upper (λ e. e.redirect ≡ None)

-- Exactly these have no answer. And where an answer without an error to a redirect has no Hello behind it, it waits for that above.
pub record LeavesUnanswered (r : ValueRun) (spoken : List Spoken) : Type 0 where
  pub lacks : (token : List ℕ) → Lacks (below r.past) spoken token → WaitsFor r.value.relay.bind r.value.relay token
  pub waits : (token : List ℕ) → WaitsFor r.value.relay.bind r.value.relay token → Lacks (below r.past) spoken token
  pub hello : lacks_hello_behind (redirects_among (flat_map incoming_of (below r.past).past.taken)) spoken ≡ true → AwaitsHello r.value.relay

-- so it is of an open one, where the tokens from below count from 1, in whatever messages its queue is written
abbrev pub AnswersWhatItCan : ValueRun → Type 0
AnswersWhatItCan r = is_closed r.value.relay.lower.state ≡ false → TakesNumbered (below r.past)
    → (spoken : List Spoken) → AreSpoken spoken → filter is_message (below r.past).past.queued ≡ all_said spoken → LeavesUnanswered r spoken
