-- What is heard is what is taken from above.
use Rattle.std.proofs.Common.{◌≡◌, inl, inr, ℕ, Bool, true, false, List, [], ◌∷◌, ◌++◌, Option, Some, None, Result, Ok, refl, ap, sym, ◌∙◌, subst}
use Rattle.std.specs.Prelude.{IfSome, if◌then◌else◌}
use Rattle.std.specs.List.{flat_map}
use Rattle.std.proofs.lemmas.List.{append-nil}
use Rattle.std.proofs.lemmas.List.Concat.{flat_map-append}
use Rattle.channel_core.specs.Laws.{listed}
use Rattle.channel_core.specs.ReceivingLaws.{incoming_of}
use Rattle.channel_core.specs.Taking.{next_taken}
use Rattle.channel_core.specs.declared.taking.Taken.{Taken}
use Rattle.channel_core.specs.declared.taking.Taken.TheVariants as taken
use Rattle.tcf_message.specs.Message.{MessageValue, command, reading}
use Rattle.tcf_message.specs.declared.message.MessageFault.{MessageFault}
use Rattle.value_node.specs.Asked.{Asked}
use Rattle.value_node.specs.Deeds.{above_deeds, asked_deeds, below_deeds, deed_for, deeds_by, heard, heard_in, turn_below_deeds}
use Rattle.value_node.specs.ForwardedValue.{ForwardedValue}
use Rattle.value_node.specs.Passing.{Upper}
use Rattle.value_node.specs.RelayLaws.{StandsWell}
use Rattle.value_node.specs.Runs.{Call, Past, above, bytes_end, comes, connects, fails, gives, next_above, stored_for, turns, with_calls}
use Rattle.value_node.specs.Value.{takes_above, takes_below}
use Rattle.value_node.specs.declared.relay.Relay.{Relay}
use Rattle.value_node.specs.declared.states.Bind.{Bind}
use Rattle.value_node.specs.declared.states.Bind.TheVariants.{Unbound, Opening, Bound, Closed}
use Rattle.value_node.specs.declared.states.Side.TheVariants.{Below, Above}
use Rattle.value_node.proofs.CallAdds.{asked_as}
use Rattle.value_node.proofs.DeedLists.{all_heard, heard_both, heard_hears}
use Rattle.value_node.proofs.Holding.{Holds}
use Rattle.value_node.proofs.HoldsEnds.{upper_facts}
use Rattle.value_node.proofs.HoldsHello.{first_on, free_where, idle_on, turn_or_not}
use Rattle.value_node.proofs.Taken.{IsFirstAny}
use Rattle.value_node.proofs.TakenAbove.{above_taken, entries_from}

-- ---- with a turn from above

opening_heard : (what : Option (Taken ForwardedValue)) → IsFirstAny what → above_deeds Opening what ≡ all_heard (flat_map incoming_of (listed what))
opening_heard None first = refl
opening_heard (Some (taken.Hello incoming)) first = refl
opening_heard (Some (taken.Closed cause)) first = refl
opening_heard (Some (taken.Command incoming)) first = absurd first
opening_heard (Some (taken.Event incoming)) first = absurd first
opening_heard (Some (taken.Progress token incoming)) first = absurd first
opening_heard (Some (taken.Final tag incoming)) first = absurd first

bound_heard : (what : Option (Taken ForwardedValue)) → heard what ≡ all_heard (flat_map incoming_of (listed what))
bound_heard None = refl
bound_heard (Some what) = ap all_heard (sym (append-nil (incoming_of what)))

turn_heard : (bind : Bind) (upper : Option Upper) → (bind ≡ Opening → IfSome upper (λ e. IsFirstAny (next_taken e).0)) → (bind ≡ Unbound → IfSome upper (λ e. next_taken e ≡ (None, e)))
    → above_deeds bind (next_above upper) ≡ all_heard (flat_map incoming_of (if takes_above bind then listed (next_above upper) else []))
turn_heard Unbound None first idle = refl
turn_heard Unbound (Some e) first idle = ap (λ (next : Option (Taken ForwardedValue) × Upper). all_heard (flat_map incoming_of (listed next.0))) (sym (idle refl))
turn_heard Opening None first idle = refl
turn_heard Opening (Some e) first idle = opening_heard (next_taken e).0 (first refl)
turn_heard Bound upper first idle = bound_heard (next_above upper)
turn_heard Closed upper first idle = refl

off_where : (bind : Bind) (v : Relay) (p : Past) → StandsWell bind v p → bind ≡ Opening → p.is_bound ≡ false
off_where Unbound v p stands is = absurd cc
off_where Opening v p stands is = stands.2
off_where Bound v p stands is = absurd cc
off_where Closed v p stands is = absurd cc

pub hears_is : (v : Relay) (p : Past) → Holds v p → deeds_by (turns Above) v ≡ all_heard (flat_map incoming_of (entries_from (turns Above) v v.upper))
hears_is v p h =
    let keeps = upper_facts v p h in
    turn_heard v.bind v.upper (λ opening. first_on v.upper (h.waits (off_where v.bind v p h.stands opening)) keeps) (λ unbound. idle_on v.upper keeps (free_where v.bind v p h.stands unbound))

-- ---- the other calls hear nothing

deed_hears : (reply : Option (List ℕ)) (c : Asked) (at : Option ℕ) → heard_in (deed_for reply c at ∷ []) ≡ []
deed_hears None c at = refl
deed_hears (Some reply) c at = refl

read_hears : (m : Result MessageValue MessageFault) (mark : Option ℕ) (v : Relay) → heard_in (asked_deeds mark m v) ≡ []
read_hears (Ok (command token service name body)) mark v = deed_hears (stored_for service name body v) (asked_as token service name body mark) v.store.mark
read_hears m mark v = refl

took_hears : (what : Option (Taken Unit)) (v : Relay) → heard_in (below_deeds what v) ≡ []
took_hears None v = refl
took_hears (Some (taken.Hello incoming)) v = refl
took_hears (Some (taken.Command incoming)) v = read_hears (reading incoming.raw) incoming.mark v
took_hears (Some (taken.Event incoming)) v = refl
took_hears (Some (taken.Progress token incoming)) v = refl
took_hears (Some (taken.Final tag incoming)) v = refl
took_hears (Some (taken.Closed cause)) v = refl

room_hears : (room : Bool) (v : Relay) → heard_in (if room then below_deeds (next_taken v.lower).0 v else []) ≡ []
room_hears true v = took_hears (next_taken v.lower).0 v
room_hears false v = refl

below_hears : (bind : Bind) (v : Relay) → heard_in (turn_below_deeds bind v) ≡ []
below_hears Unbound v = refl
below_hears Opening v = refl
below_hears Bound v = room_hears (takes_below v.bind v.upper) v
below_hears Closed v = refl

others_hear : (call : Call) (v : Relay) → (call ≡ turns Above → ⊥) → heard_in (deeds_by call v) ≡ []
others_hear (comes side piece mark) v other = refl
others_hear (bytes_end side) v other = refl
others_hear (turns Below) v other = below_hears v.bind v
others_hear (turns Above) v other = absurd (other refl)
others_hear connects v other = refl
others_hear fails v other = refl
others_hear (gives side) v other = refl

no_entries : (call : Call) (v : Relay) → (call ≡ turns Above → ⊥) → entries_from call v v.upper ≡ []
no_entries (comes side piece mark) v other = refl
no_entries (bytes_end side) v other = refl
no_entries (turns Below) v other = refl
no_entries (turns Above) v other = absurd (other refl)
no_entries connects v other = refl
no_entries fails v other = refl
no_entries (gives side) v other = refl

call_hears : (call : Call) (v : Relay) (p : Past) → Holds v p → heard_in (deeds_by call v) ≡ flat_map incoming_of (entries_from call v v.upper)
call_hears call v p h =
    elim (turn_or_not call) as (λ _. heard_in (deeds_by call v) ≡ flat_map incoming_of (entries_from call v v.upper)) [
      | inl is ↦ subst (λ c. heard_in (deeds_by c v) ≡ flat_map incoming_of (entries_from c v v.upper)) (sym is)
          (ap heard_in (hears_is v p h) ∙ heard_hears (flat_map incoming_of (entries_from (turns Above) v v.upper)))
      | inr other ↦ others_hear call v other ∙ ap (flat_map incoming_of) (sym (no_entries call v other))
    ]

pub messages_kept : (call : Call) (v after : Relay) (p : Past) (h : Holds v p)
    → heard_in (h.deeds ++ deeds_by call v) ≡ flat_map incoming_of (above (with_calls call v after p)).past.taken
messages_kept call v after p h =
    let taken_before = (above p).past.taken in
    let entries = entries_from call v v.upper in
    heard_both h.deeds (deeds_by call v) ∙ ap (λ is. is ++ heard_in (deeds_by call v)) h.messages
    ∙ ap (λ is. flat_map incoming_of taken_before ++ is) (call_hears call v p h)
    ∙ sym (flat_map-append incoming_of taken_before entries) ∙ ap (flat_map incoming_of) (sym (above_taken call v after p h.upper))
