-- Once it is bound a value-add says nothing of its own but what it answers from its store.
use Rattle.std.proofs.Common.{◌≡◌, ℕ, ◌+◌, Bool, true, false, List, [], ◌∷◌, length, Option, Some, None, Result, Ok, refl, ap}
use Rattle.std.specs.Prelude.{◌&&◌, if◌then◌else◌}
use Rattle.channel_core.specs.Closing.{is_closed}
use Rattle.channel_core.specs.QueueLaws.{sent_in}
use Rattle.channel_core.specs.Runs.{an_answer, taking}
use Rattle.channel_core.specs.Sending.{refusal_of}
use Rattle.channel_core.specs.Taking.{closes, next_taken}
use Rattle.channel_core.specs.declared.sending.SendRefusal.{SendRefusal}
use Rattle.channel_core.specs.declared.taking.Taken.{Taken}
use Rattle.channel_core.specs.declared.taking.Taken.TheVariants as taken
use Rattle.tcf_message.specs.Message.{MessageValue, command, reading}
use Rattle.tcf_message.specs.declared.message.MessageFault.{MessageFault}
use Rattle.value_node.specs.ForwardedValue.{ForwardedValue}
use Rattle.value_node.specs.Own.{redirect_failed}
use Rattle.value_node.specs.Passing.{Lower, Upper}
use Rattle.value_node.specs.Asked.{Asked}
use Rattle.value_node.specs.Deeds.{asked_deeds, below_deeds, deed_for, deeds_by}
use Rattle.value_node.specs.RelayLaws.{StandsWell, told_from}
use Rattle.value_node.specs.Store.{StoreValue}
use Rattle.value_node.specs.Runs.{Call, LowerCall, Past, answering, asked_below, before_hello_below, bound_below, bytes_end, closing_if, comes, connects, ended_below, fails, gives, next_above, own_by, refused_by, stored_for, took_above_below, took_below_below, turns}
use Rattle.value_node.specs.Value.{has_room, is_free, is_opening, takes_above}
use Rattle.value_node.specs.declared.relay.Relay.{Relay}
use Rattle.value_node.specs.declared.states.Bind.{Bind}
use Rattle.value_node.specs.declared.states.Bind.TheVariants.{Unbound, Opening, Bound, Closed}
use Rattle.value_node.specs.declared.states.Side.TheVariants.{Below, Above}
use Rattle.value_node.proofs.CallAdds.{asked_as}
use Rattle.value_node.proofs.PassedOn.{sent_open}
use Rattle.value_node.proofs.Steps.{relay}

abbrev pub IsPast : Bind → Type 0
IsPast Unbound = ⊥
IsPast Opening = ⊥
IsPast Bound = Unit {0}
IsPast Closed = Unit {0}

closing_if_silent : (refusal : Option SendRefusal) (e : Lower) → sent_in (closing_if refusal) e ≡ []
closing_if_silent None e = refl
closing_if_silent (Some why) e = refl

refused_silent : (upper : Option Upper) (service name body : List ℕ) (e : Lower) → sent_in (refused_by upper service name body) e ≡ []
refused_silent None service name body e = refl
refused_silent (Some of) service name body e = closing_if_silent (refusal_of (length service + length name + length body) of) e

-- what it does with a command
bound_sends : (reply : Option (List ℕ)) (token service name body : List ℕ) (mark : Option ℕ) (v : Relay) (e : Lower) (commands : List Asked) → is_closed e.state ≡ false
    → sent_in (bound_below reply token service name body v) e ≡ told_from commands (deed_for reply (asked_as token service name body mark) v.store.mark ∷ [])
bound_sends None token service name body mark v e commands is_open = refused_silent v.upper service name body e
bound_sends (Some reply) token service name body mark v e commands is_open = sent_open (an_answer token reply) v.store.mark e is_open

read_sends : (m : Result MessageValue MessageFault) (mark : Option ℕ) (store : StoreValue) (peer : List ℕ) (lower : Lower) (upper : Option Upper) (redirect : Option (List ℕ)) (e : Lower) (commands : List Asked)
    → is_closed e.state ≡ false
    → sent_in (asked_below m (relay store peer Bound lower upper redirect)) e ≡ told_from commands (asked_deeds mark m (relay store peer Bound lower upper redirect))
read_sends (Ok (command token service name body)) mark store peer lower upper redirect e commands is_open =
    let v = relay store peer Bound lower upper redirect in bound_sends (stored_for service name body v) token service name body mark v e commands is_open
read_sends m mark store peer lower upper redirect e commands is_open = refl

took_sends : (what : Option (Taken Unit)) (store : StoreValue) (peer : List ℕ) (lower : Lower) (upper : Option Upper) (redirect : Option (List ℕ)) (e : Lower) (commands : List Asked)
    → is_closed e.state ≡ closes what
    → sent_in (took_below_below what (relay store peer Bound lower upper redirect)) e ≡ told_from commands (below_deeds what (relay store peer Bound lower upper redirect))
took_sends None store peer lower upper redirect e commands is_open = refl
took_sends (Some (taken.Hello incoming)) store peer lower upper redirect e commands is_open = refl
took_sends (Some (taken.Command incoming)) store peer lower upper redirect e commands is_open = read_sends (reading incoming.raw) incoming.mark store peer lower upper redirect e commands is_open
took_sends (Some (taken.Event incoming)) store peer lower upper redirect e commands is_open = refl
took_sends (Some (taken.Progress token incoming)) store peer lower upper redirect e commands is_open = refl
took_sends (Some (taken.Final tag incoming)) store peer lower upper redirect e commands is_open = refl
took_sends (Some (taken.Closed cause)) store peer lower upper redirect e commands is_open = refl

room_sends : (room : Bool) (store : StoreValue) (peer : List ℕ) (lower : Lower) (upper : Option Upper) (redirect : Option (List ℕ)) (commands : List Asked)
    → is_closed (next_taken lower).1.state ≡ closes (next_taken lower).0
    → sent_in (if room then taking ∷ took_below_below (next_taken lower).0 (relay store peer Bound lower upper redirect) else []) lower
    ≡ told_from commands (if room then below_deeds (next_taken lower).0 (relay store peer Bound lower upper redirect) else [])
room_sends true store peer lower upper redirect commands is_open = took_sends (next_taken lower).0 store peer lower upper redirect (next_taken lower).1 commands is_open
room_sends false store peer lower upper redirect commands is_open = refl

-- with a turn from below
pub below_sends : (store : StoreValue) (peer : List ℕ) (bind : Bind) (lower : Lower) (upper : Option Upper) (redirect : Option (List ℕ)) (commands : List Asked) → IsPast bind
    → (bind ≡ Bound → is_closed (next_taken lower).1.state ≡ closes (next_taken lower).0)
    → sent_in (own_by (turns Below) (relay store peer bind lower upper redirect)) lower ≡ told_from commands (deeds_by (turns Below) (relay store peer bind lower upper redirect))
below_sends store peer Unbound lower upper redirect commands past is_open = absurd past
below_sends store peer Opening lower upper redirect commands past is_open = absurd past
below_sends store peer Bound lower upper redirect commands past is_open = room_sends (has_room upper) store peer lower upper redirect commands (is_open refl)
below_sends store peer Closed lower upper redirect commands past is_open = refl

hello_silent : (bind : Bind) (v : Relay) (e : Lower) → IsPast bind → sent_in (before_hello_below bind v) e ≡ []
hello_silent Unbound v e past = absurd past
hello_silent Opening v e past = absurd past
hello_silent Bound v e past = refl
hello_silent Closed v e past = refl

ended_silent : (bind : Bind) (v : Relay) (e : Lower) → IsPast bind → sent_in (ended_below bind v) e ≡ []
ended_silent Unbound v e past = absurd past
ended_silent Opening v e past = absurd past
ended_silent Bound v e past = refl
ended_silent Closed v e past = refl

above_silent : (what : Option (Taken ForwardedValue)) (v : Relay) (e : Lower) → IsPast v.bind → sent_in (took_above_below what v) e ≡ []
above_silent (Some (taken.Hello incoming)) v e past = hello_silent v.bind v e past
above_silent (Some (taken.Closed cause)) v e past = ended_silent v.bind v e past
above_silent what v e past = refl

silent_if : (flag : Bool) (calls : List LowerCall) (e : Lower) → sent_in calls e ≡ [] → sent_in (if flag then calls else []) e ≡ []
silent_if true calls e none = none
silent_if false calls e none = refl

awaits_past : (bind : Bind) (free : Bool) → IsPast bind → (is_opening bind && free) ≡ false
awaits_past Unbound free past = absurd past
awaits_past Opening free past = absurd past
awaits_past Bound free past = refl
awaits_past Closed free past = refl

pub own_silent : (call : Call) (v : Relay) → (call ≡ turns Below → ⊥) → IsPast v.bind → sent_in (own_by call v) v.lower ≡ []
own_silent (comes Below piece mark) v other past = refl
own_silent (comes Above piece mark) v other past = refl
own_silent (bytes_end Below) v other past = refl
own_silent (bytes_end Above) v other past = refl
own_silent (turns Below) v other past = absurd (other refl)
own_silent (turns Above) v other past = silent_if (takes_above v.bind) (took_above_below (next_above v.upper) v) v.lower (above_silent (next_above v.upper) v v.lower past)
own_silent connects v other past = refl
own_silent fails v other past = ap (λ b. sent_in (if b then answering v.redirect redirect_failed else []) v.lower) (awaits_past v.bind (is_free v.upper) past)
own_silent (gives Below) v other past = refl
own_silent (gives Above) v other past = refl

-- ---- where it stands

pub stands_open : (bind : Bind) (v : Relay) (p : Past) → StandsWell bind v p → takes_above bind ≡ true → is_closed v.lower.state ≡ false
stands_open Unbound v p s takes = s.0
stands_open Opening v p s takes = s.0
stands_open Bound v p s takes = s.0
stands_open Closed v p s takes = absurd cc

pub stands_past : (bind : Bind) (v : Relay) (p : Past) → StandsWell bind v p → p.is_bound ≡ true → IsPast bind
stands_past Unbound v p s is = let not_yet : p.is_bound ≡ false = s.2 in absurd cc
stands_past Opening v p s is = let not_yet : p.is_bound ≡ false = s.2 in absurd cc
stands_past Bound v p s is = tt
stands_past Closed v p s is = tt
