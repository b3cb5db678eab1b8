-- What holds of a value-add and its past after any calls: each call keeps it.
use Rattle.std.proofs.Common.{◌≡◌, ◌≤◌, ℕ, ◌+◌, Bool, true, false, List, [], ◌∷◌, ◌++◌, length, Option, Some, None, refl, ap, sym, ◌∙◌, arith}
use Rattle.std.specs.Prelude.{IfSome, not, option_map, unwrap_or}
use Rattle.std.proofs.lemmas.List.{append-nil, append_assoc}
use Rattle.std.specs.List.{AllByRecursion, flat_map, list_any}
use Rattle.channel_core.specs.Greeting.{is_greeting}
use Rattle.channel_core.specs.QueueLaws.{is_commanding, sent_in}
use Rattle.channel_core.specs.ReceivingLaws.{SendsReadable, incoming_of}
use Rattle.channel_core.specs.Runs.{Issued, after_calls}
use Rattle.channel_core.specs.Sending.{last_token, made}
use Rattle.channel_core.specs.declared.states.EndState.{EndState}
use Rattle.channel_core.specs.declared.states.EndState.TheVariants as states
use Rattle.channel_core.specs.declared.taking.Taken.{Taken}
use Rattle.channel_core.specs.declared.taking.Taken.TheVariants as taken
use Rattle.tcf_message.specs.Message.{IsToken, reading}
use Rattle.value_node.specs.Asked.{Asked}
use Rattle.value_node.specs.ForwardedValue.{ForwardedValue, tagged}
use Rattle.value_node.specs.Deeds.{Deed, asked_in, command_asked, heard_in, sent_in as forwarded_in}
use Rattle.value_node.specs.RelayLaws.{IsGivenUp, StandsWell, asked_since, told_from}
use Rattle.value_node.specs.Store.{no_store}
use Rattle.value_node.specs.Runs.{Call, LowerCall, Past, UpperCall, above, below, below_until_bound, lower_after, no_past, only_if, own_by, passing_by, upper_after, upper_by, upper_from, with_calls}
use Rattle.value_node.specs.Value.{new_relay}
use Rattle.value_node.specs.declared.relay.Relay.{Relay}
use Rattle.value_node.specs.declared.states.Bind.{Bind}
use Rattle.value_node.specs.declared.states.Bind.TheVariants.{Bound}
use Rattle.value_node.specs.Passing.{Upper}
use Rattle.value_node.proofs.DeedLists.{AreRight}
use Rattle.value_node.proofs.Knowing.{Knows}
use Rattle.value_node.proofs.Pasts.{accepted_in, accepted_more, after_both}
use Rattle.value_node.proofs.Taken.{IsAnswerTo, IsCommand, IsEvent, IsProgressOf, IsTold}

-- ---- the commands: accepted above are those that are forwarded, under 1, 2, 3 and so on

abbrev pub issued_from : ℕ → List Asked → List (Issued ForwardedValue)
issued_from token [] = []
issued_from token (c ∷ commands) = record { command = made token c.service c.name c.body c.mark; tag = tagged c.token (command_asked c) } ∷ issued_from (token + 1) commands

pub issued_length : (low : ℕ) (cs : List Asked) → length (issued_from low cs) ≡ length cs
issued_length low [] = refl
issued_length low (c ∷ cs) = let rest = issued_length (low + 1) cs in omega arith

-- a last one was refused where both sides were closed for that
pub record AreAccepted (accepted : List (Issued ForwardedValue)) (asked : List Asked) (bind : Bind) : Type 0 where
  pub sent : List Asked
  pub refused : List Asked
  pub whole : asked ≡ sent ++ refused
  pub issued : accepted ≡ issued_from 1 sent
  pub all : bind ≡ Bound → refused ≡ []

-- ---- the messages from above are what they were taken as: each progress and each answer names one of so many commands

abbrev pub IsNamed : ℕ → Taken ForwardedValue → Type 0
IsNamed most (taken.Progress token incoming) = (1 ≤ token) × (token ≤ most) × IsProgressOf token (reading incoming.raw)
IsNamed most (taken.Final tag incoming) = (token : ℕ) × (1 ≤ token) × (token ≤ most) × IsAnswerTo token (reading incoming.raw)
IsNamed most (taken.Hello incoming) = IsEvent (reading incoming.raw)
IsNamed most (taken.Command incoming) = IsCommand (reading incoming.raw)
IsNamed most (taken.Event incoming) = IsTold (reading incoming.raw)
IsNamed most (taken.Closed cause) = Unit {0}

-- ---- an upper end that waits for its Hello, or is closed

abbrev pub WaitsOrIsClosed : EndState → Type 0
WaitsOrIsClosed states.Opening = Unit {0}
WaitsOrIsClosed (states.Closed cause) = Unit {0}
WaitsOrIsClosed state = ⊥

pub record Holds (v : Relay) (p : Past) : Type 0 where
  pub deeds : List Deed  -- what it has done since it was bound
  pub lower : v.lower ≡ (below p).end
  pub upper : v.upper ≡ option_map (λ calls. (upper_after calls).end) p.connection
  pub stands : StandsWell v.bind v p
  pub unbound : p.is_bound ≡ false → p.since_bound ≡ []
  pub heard : list_any is_greeting (above p).past.taken ≡ p.is_bound
  pub waits : p.is_bound ≡ false → IfSome v.upper (λ e. WaitsOrIsClosed e.state)
  pub quiet : p.is_bound ≡ false → flat_map incoming_of (above p).past.taken ≡ []
  pub earlier : AllByRecursion IsGivenUp p.earlier
  pub idle : p.is_bound ≡ false → deeds ≡ []
  pub asked : asked_since p ≡ asked_in deeds
  pub messages : heard_in deeds ≡ flat_map incoming_of (above p).past.taken
  pub passed : sent_in p.since_bound (below_until_bound p).end ≡ told_from [] deeds
  pub accepted : AreAccepted (above p).past.accepted (forwarded_in deeds) v.bind
  pub undrained : (above p).past.drained ≡ []
  pub right : AreRight [] deeds
  pub fresh : p.is_bound ≡ false → v.store ≡ no_store
  pub knows : v.bind ≡ Bound → Knows deeds v.store
  pub few : length (above p).past.accepted ≤ last_token
  pub named : AllByRecursion (IsNamed (length (above p).past.accepted)) (above p).past.taken
  pub below_readable : SendsReadable (p.until_bound ++ p.since_bound)
  pub above_readable : IfSome p.connection SendsReadable
  pub redirect : IfSome v.redirect IsToken
  pub uncommanding : AllByRecursion (λ call. is_commanding call ≡ false) (p.until_bound ++ p.since_bound)

-- ---- what a call adds

below_flag : (flag : Bool) (until since own pass : List LowerCall) → (flag ≡ false → since ≡ [])
    → lower_after ((until ++ only_if (not flag) own) ++ (since ++ (only_if flag own ++ pass))) ≡ after_calls (own ++ pass) (lower_after (until ++ since))
below_flag true until since own pass unbound =
    ap (λ calls. lower_after (calls ++ (since ++ (own ++ pass)))) (append-nil until) ∙ ap lower_after (sym (append_assoc until since (own ++ pass)))
    ∙ after_both (until ++ since) (own ++ pass) (lower_after [])
below_flag false until since own pass unbound =
    let none = unbound refl in
    ap (λ calls. lower_after ((until ++ own) ++ (calls ++ pass))) none ∙ ap lower_after (append_assoc until own pass) ∙ after_both until (own ++ pass) (lower_after [])
    ∙ ap (λ calls. after_calls (own ++ pass) (lower_after calls)) (sym (append-nil until)) ∙ ap (λ calls. after_calls (own ++ pass) (lower_after (until ++ calls))) (sym none)

above_by : (call : Call) (v : Relay) (upper : Option Upper) (connection : Option (List UpperCall)) → upper ≡ option_map (λ calls. (upper_after calls).end) connection
    → upper_after (unwrap_or (option_map (λ calls. calls ++ upper_from call v upper) connection) []) ≡ after_calls (upper_from call v upper) (upper_after (unwrap_or connection []))
above_by call v upper None same = sym (ap (λ (o : Option Upper). after_calls (upper_from call v o) (upper_after [])) same)
above_by call v upper (Some calls) same = after_both calls (upper_from call v upper) (upper_after [])

-- to the lower end
pub below_more : (call : Call) (before after : Relay) (p : Past) → (p.is_bound ≡ false → p.since_bound ≡ [])
    → below (with_calls call before after p) ≡ after_calls (own_by call before ++ passing_by call before) (below p)
below_more call before after p unbound = below_flag p.is_bound p.until_bound p.since_bound (own_by call before) (passing_by call before) unbound

-- to the upper one
pub above_more : (call : Call) (before after : Relay) (p : Past) → before.upper ≡ option_map (λ calls. (upper_after calls).end) p.connection
    → above (with_calls call before after p) ≡ after_calls (upper_by call before) (above p)
above_more call before after p upper = above_by call before before.upper p.connection upper

pub above_accepted : (call : Call) (v after : Relay) (p : Past) → v.upper ≡ option_map (λ calls. (upper_after calls).end) p.connection
    → (above (with_calls call v after p)).past.accepted ≡ (above p).past.accepted ++ accepted_in (upper_by call v) (above p).end
above_accepted call v after p upper = ap (λ r. r.past.accepted) (above_more call v after p upper) ∙ accepted_more (upper_by call v) (above p)

-- ---- a new one

pub holds_first : (peer : List ℕ) → Holds (new_relay peer) no_past
holds_first peer = record {
  deeds = [];
  lower = refl;
  upper = refl;
  stands = (refl, refl, refl);
  unbound = λ off. refl;
  heard = refl;
  waits = λ off. tt;
  quiet = λ off. refl;
  earlier = tt;
  idle = λ off. refl;
  asked = refl;
  messages = refl;
  passed = refl;
  accepted = record { sent = []; refused = []; whole = refl; issued = refl; all = λ bound. refl };
  undrained = refl;
  right = tt;
  fresh = λ off. refl;
  knows = λ bound. absurd cc;
  few = omega arith;
  named = tt;
  below_readable = tt;
  above_readable = tt;
  redirect = tt;
  uncommanding = tt;
}

pub first_does : (peer : List ℕ) → (holds_first peer).deeds ≡ []
unfolding holds_first
first_does peer = refl
