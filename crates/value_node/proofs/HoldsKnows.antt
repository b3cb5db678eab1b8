-- What a bound value-add knows is what the messages that it heard teach, at the position of the last one.
use Rattle.std.proofs.Common.{◌≡◌, inl, inr, ℕ, ◌+◌, Bool, true, false, true≢false, List, [], ◌∷◌, ◌++◌, length, Option, Some, None, Result, Ok, refl, ap, sym, ◌∙◌, subst}
use Rattle.std.specs.Prelude.{IfSome, if◌then◌else◌, option_map}
use Rattle.std.specs.List.{AllByRecursion}
use Rattle.std.proofs.lemmas.List.{append-nil}
use Rattle.channel_core.specs.Sending.{refusal_of}
use Rattle.channel_core.specs.Taking.{next_taken}
use Rattle.channel_core.specs.declared.sending.SendRefusal.{SendRefusal}
use Rattle.channel_core.specs.declared.taking.Taken.{Taken}
use Rattle.channel_core.specs.declared.taking.Taken.TheVariants as taken
use Rattle.tcf_message.specs.Message.{MessageValue, command, reading}
use Rattle.tcf_message.specs.declared.message.MessageFault.{MessageFault}
use Rattle.tcf_values.specs.declared.command.Command.{Command}
use Rattle.value_node.specs.Deeds.{Deed, above_deeds, asked_deeds, below_deeds, deed_for, deeds_by, sent_in as forwarded_in}
use Rattle.value_node.specs.ForwardedValue.{ForwardedValue, tagged}
use Rattle.value_node.specs.Own.{redirect_done}
use Rattle.value_node.specs.Passing.{Lower, Upper}
use Rattle.value_node.specs.RelayLaws.{StandsWell}
use Rattle.value_node.specs.Runs.{Call, Past, UpperCall, above, bytes_end, comes, connects, fails, gives, is_binding, stored_for, turns, upper_after}
use Rattle.value_node.specs.Store.{StoreValue, used_by}
use Rattle.value_node.specs.Value.{answered_or_forwarded, asked, awaits, command_of, has_room, is_free_to_answer, redirect_answered, sent_above, sent_unless, took_any_above, took_any_below, turned_above, turned_below, value_services, with_upper}
use Rattle.value_node.specs.declared.relay.Relay.{Relay}
use Rattle.value_node.specs.declared.states.Bind.{Bind}
use Rattle.value_node.specs.declared.states.Bind.TheVariants.{Unbound, Opening, Bound, Closed}
use Rattle.value_node.specs.declared.states.Side.TheVariants.{Below, Above}
use Rattle.value_node.specs.declared.states.ValueTurn.TheVariants.{Nothing}
use Rattle.value_node.proofs.Asking.{asked_bound_is, asked_mark, store_asked}
use Rattle.value_node.proofs.CallAdds.{asked_as}
use Rattle.value_node.proofs.Entries.{AreRead, IsTakenSo, always_read, event_read, next_so}
use Rattle.value_node.proofs.Holding.{Holds}
use Rattle.value_node.proofs.HoldsHello.{stays_unbound, turn_or_not}
use Rattle.value_node.proofs.HoldsPassed.{rows_now}
use Rattle.value_node.proofs.Knowing.{Knows, command_knows, event_knows, final_knows, hello_knows, knows_answered, knows_nothing, knows_still, progress_knows, used_knows}
use Rattle.value_node.proofs.Lists.{all_stands}
use Rattle.value_node.proofs.Steps.{relay, relay_called}
use Rattle.value_node.proofs.StoreStays.{connected_store, failed_store, redirect_store}
use Rattle.value_node.proofs.Taken.{GivesAny, next_gives}
use Rattle.value_node.proofs.TokensBelow.{IsIssued}

nothing_more : (deeds : List Deed) (s : StoreValue) → Knows deeds s → Knows (deeds ++ []) s
nothing_more deeds s knows = subst (λ ds. Knows ds s) (sym (append-nil deeds)) knows

-- ---- a command

unless_store : (refusal : Option SendRefusal) (service name body : List ℕ) (forwarded : ForwardedValue) (mark : Option ℕ) (e : Upper) (v : Relay)
    → (sent_unless refusal service name body forwarded mark e v).store ≡ v.store
unless_store None service name body forwarded mark e v = refl
unless_store (Some why) service name body forwarded mark e v = refl

sent_store : (upper : Option Upper) (service name body : List ℕ) (forwarded : ForwardedValue) (mark : Option ℕ) (v : Relay) → (sent_above upper service name body forwarded mark v).store ≡ v.store
sent_store None service name body forwarded mark v = refl
sent_store (Some e) service name body forwarded mark v = unless_store (refusal_of (length service + length name + length body) e) service name body forwarded mark e v

store_knows : (deeds : List Deed) (reply : Option (List ℕ)) (at : Option ℕ) (token service name body : List ℕ) (mark : Option ℕ) (v : Relay) → Knows deeds v.store
    → Knows (deeds ++ deed_for reply (asked_as token service name body mark) at ∷ []) (answered_or_forwarded reply (command_of service name body) token service name body mark v).store
store_knows deeds None at token service name body mark v knows =
    subst (Knows (deeds ++ deed_for None (asked_as token service name body mark) at ∷ [])) (sym (sent_store v.upper service name body (tagged token (command_of service name body)) mark v))
    (knows_still deeds (asked_as token service name body mark) v.store knows)
store_knows deeds (Some reply) at token service name body mark v knows = knows_answered deeds (asked_as token service name body mark) reply at v.store knows

used_if : (free : Bool) (asked : Option Command) (deeds : List Deed) (s : StoreValue) → (if free then used_by asked s else s).mark ≡ s.mark → Knows deeds s → Knows deeds (if free then used_by asked s else s)
used_if true asked deeds s same knows = record { known = used_knows _ asked s knows.known; marked = same ∙ knows.marked }
used_if false asked deeds s same knows = knows

read_knows : (deeds : List Deed) (m : Result MessageValue MessageFault) (mark : Option ℕ) (store : StoreValue) (peer : List ℕ) (lower later : Lower) (upper : Option Upper) (redirect : Option (List ℕ))
    → Knows deeds store
    → Knows (deeds ++ asked_deeds mark m (relay store peer Bound lower upper redirect)) (asked m mark (relay store peer Bound later upper redirect)).1.store
read_knows deeds (Ok (command token service name body)) mark store peer lower later upper redirect knows =
    let v = relay store peer Bound later upper redirect in
    let reply = stored_for service name body v in
    let s = store_asked service name body v in
    subst (λ (w : Relay). Knows (deeds ++ deed_for reply (asked_as token service name body mark) store.mark ∷ []) w.store) (sym (asked_bound_is token service name body mark v))
    (store_knows deeds reply store.mark token service name body mark (relay s peer Bound later upper redirect)
    (used_if (is_free_to_answer upper) (command_of service name body) deeds store (asked_mark service name body v) knows))
read_knows deeds m mark store peer lower later upper redirect knows = nothing_more deeds store knows

took_knows : (deeds : List Deed) (what : Option (Taken Unit)) (store : StoreValue) (peer : List ℕ) (lower later : Lower) (upper : Option Upper) (redirect : Option (List ℕ)) → Knows deeds store
    → Knows (deeds ++ below_deeds what (relay store peer Bound lower upper redirect)) (took_any_below what (relay store peer Bound later upper redirect)).1.store
took_knows deeds None store peer lower later upper redirect knows = nothing_more deeds store knows
took_knows deeds (Some (taken.Hello incoming)) store peer lower later upper redirect knows = nothing_more deeds store knows
took_knows deeds (Some (taken.Command incoming)) store peer lower later upper redirect knows =
    read_knows deeds (reading incoming.raw) incoming.mark store peer lower later upper redirect knows
took_knows deeds (Some (taken.Event incoming)) store peer lower later upper redirect knows = nothing_more deeds store knows
took_knows deeds (Some (taken.Progress token incoming)) store peer lower later upper redirect knows = nothing_more deeds store knows
took_knows deeds (Some (taken.Final tag incoming)) store peer lower later upper redirect knows = nothing_more deeds store knows
took_knows deeds (Some (taken.Closed cause)) store peer lower later upper redirect knows = nothing_more deeds store knows

room_knows : (deeds : List Deed) (room : Bool) (store : StoreValue) (peer : List ℕ) (lower : Lower) (upper : Option Upper) (redirect : Option (List ℕ)) → Knows deeds store
    → Knows (deeds ++ (if room then below_deeds (next_taken lower).0 (relay store peer Bound lower upper redirect) else []))
    (if room then took_any_below (next_taken lower).0 (relay store peer Bound (next_taken lower).1 upper redirect) else (Nothing, relay store peer Bound lower upper redirect)).1.store
room_knows deeds true store peer lower upper redirect knows = took_knows deeds (next_taken lower).0 store peer lower (next_taken lower).1 upper redirect knows
room_knows deeds false store peer lower upper redirect knows = nothing_more deeds store knows

abbrev KnowsAfter : Call → Relay → List Deed → Type 0
KnowsAfter call v deeds = Knows (deeds ++ deeds_by call v) (relay_called call v).store

below_knows : (deeds : List Deed) (store : StoreValue) (peer : List ℕ) (lower : Lower) (upper : Option Upper) (redirect : Option (List ℕ)) → Knows deeds store
    → KnowsAfter (turns Below) (relay store peer Bound lower upper redirect) deeds
unfolding turned_below
below_knows deeds store peer lower upper redirect knows = room_knows deeds (has_room upper) store peer lower upper redirect knows

-- of one that is bound; it isn't with a turn from above
bound_knows : (call : Call) (deeds : List Deed) (v : Relay) → (call ≡ turns Above → ⊥) → v.bind ≡ Bound → Knows deeds v.store → KnowsAfter call v deeds
bound_knows (comes Below piece mark) deeds v other bound knows = nothing_more deeds v.store knows
bound_knows (comes Above piece mark) deeds v other bound knows = nothing_more deeds v.store knows
bound_knows (bytes_end Below) deeds v other bound knows = nothing_more deeds v.store knows
bound_knows (bytes_end Above) deeds v other bound knows = nothing_more deeds v.store knows
bound_knows (turns Below) deeds v other bound knows =
    subst (λ bind. KnowsAfter (turns Below) (relay v.store v.peer bind v.lower v.upper v.redirect) deeds) (sym bound) (below_knows deeds v.store v.peer v.lower v.upper v.redirect knows)
bound_knows (turns Above) deeds v other bound knows = absurd (other refl)
bound_knows connects deeds v other bound knows = nothing_more deeds _ (subst (Knows deeds) (sym (connected_store (awaits v) v)) knows)
bound_knows fails deeds v other bound knows = nothing_more deeds _ (subst (Knows deeds) (sym (failed_store (awaits v) v)) knows)
bound_knows (gives Below) deeds v other bound knows = nothing_more deeds v.store knows
bound_knows (gives Above) deeds v other bound knows = nothing_more deeds v.store knows

not_bound : (bind : Bind) → is_binding bind ≡ false → bind ≡ Bound → ⊥
not_bound bind off is = true≢false (sym (ap is_binding is) ∙ off)

others_know : (call : Call) (deeds : List Deed) (v : Relay) → (call ≡ turns Above → ⊥) → (v.bind ≡ Bound → Knows deeds v.store) → (relay_called call v).bind ≡ Bound → KnowsAfter call v deeds
others_know call deeds v other knows bound = by_bind v.bind refl
  where
    unless : is_binding v.bind ≡ false → KnowsAfter call v deeds
    unless off = absurd (not_bound (relay_called call v).bind (stays_unbound call v other off) bound)

    by_bind : (bind : Bind) → v.bind ≡ bind → KnowsAfter call v deeds
    by_bind Unbound is = unless (ap is_binding is)
    by_bind Opening is = unless (ap is_binding is)
    by_bind Bound is = bound_knows call deeds v other is (knows is)
    by_bind Closed is = unless (ap is_binding is)

-- ---- a message from above

abbrev AboveKnows : List Deed → Bind → Option (Taken ForwardedValue) × Upper → Relay → Type 0
AboveKnows deeds bind next v =
    (took_any_above next.0 (with_upper next.1 v)).1.bind ≡ Bound → Knows (deeds ++ above_deeds bind next.0) (took_any_above next.0 (with_upper next.1 v)).1.store

module _ (deeds : List Deed) (store : StoreValue) (peer : List ℕ) (lower : Lower) (upper : Option Upper) (redirect : Option (List ℕ)) where
  unbound_above : (next : Option (Taken ForwardedValue) × Upper) → AboveKnows deeds Unbound next (relay store peer Unbound lower upper redirect)
  unbound_above (None, e) bound = absurd cc
  unbound_above (Some (taken.Hello incoming), e) bound = absurd cc
  unbound_above (Some (taken.Command incoming), e) bound = absurd cc
  unbound_above (Some (taken.Event incoming), e) bound = absurd cc
  unbound_above (Some (taken.Progress token incoming), e) bound = absurd cc
  unbound_above (Some (taken.Final tag incoming), e) bound = absurd cc
  unbound_above (Some (taken.Closed cause), e) bound = absurd cc

  opening_above : (rows : List (ℕ × ForwardedValue)) (next : Option (Taken ForwardedValue) × Upper) → Knows deeds store → GivesAny rows next → IsTakenSo next.0
      → AboveKnows deeds Opening next (relay store peer Opening lower upper redirect)
  opening_above rows (None, e) knows given so bound = absurd cc
  opening_above rows (Some (taken.Hello incoming), e) knows given so bound =
      let v = relay store peer Opening lower (Some e) redirect in
      let kept : Knows deeds (redirect_answered redirect redirect_done v).store = subst (Knows deeds) (sym (redirect_store redirect redirect_done v)) knows in
      hello_knows deeds incoming (redirect_answered redirect redirect_done v).store kept (reading incoming.raw) refl given so
  opening_above rows (Some (taken.Command incoming), e) knows given so bound = absurd cc
  opening_above rows (Some (taken.Event incoming), e) knows given so bound = absurd cc
  opening_above rows (Some (taken.Progress token incoming), e) knows given so bound = absurd cc
  opening_above rows (Some (taken.Final tag incoming), e) knows given so bound = absurd cc
  opening_above rows (Some (taken.Closed cause), e) knows given so bound = absurd cc

  bound_above : (count : ℕ) (rows : List (ℕ × ForwardedValue)) (next : Option (Taken ForwardedValue) × Upper) → Knows deeds store → AllByRecursion (IsIssued 1 count (forwarded_in deeds)) rows
      → GivesAny rows next → IsTakenSo next.0 → AboveKnows deeds Bound next (relay store peer Bound lower upper redirect)
  bound_above count rows (None, e) knows all given so bound = nothing_more deeds store knows
  bound_above count rows (Some (taken.Hello incoming), e) knows all given so bound = hello_knows deeds incoming store knows (reading incoming.raw) refl given so
  bound_above count rows (Some (taken.Command incoming), e) knows all given so bound = command_knows deeds incoming store knows (reading incoming.raw) refl given
  bound_above count rows (Some (taken.Event incoming), e) knows all given so bound =
      event_knows deeds incoming store knows (reading incoming.raw) refl (event_read (reading incoming.raw) given so.1) so.0
  bound_above count rows (Some (taken.Progress token incoming), e) knows all given so bound =
      progress_knows deeds incoming store knows token (reading incoming.raw) refl given.message
  bound_above count rows (Some (taken.Final tag incoming), e) knows all given so bound =
      final_knows deeds incoming store knows given.number tag.command (reading incoming.raw) refl given.message
      (all_stands (IsIssued 1 count (forwarded_in deeds)) rows (given.number, tag) given.there all).learned
  bound_above count rows (Some (taken.Closed cause), e) knows all given so bound = absurd cc

turn_knows : (deeds : List Deed) (count : ℕ) (store : StoreValue) (peer : List ℕ) (bind : Bind) (lower : Lower) (upper : Option Upper) (redirect : Option (List ℕ))
    → (bind ≡ Opening → Knows deeds store) → (bind ≡ Bound → Knows deeds store) → IfSome upper (λ e. AllByRecursion (IsIssued 1 count (forwarded_in deeds)) e.pending) → IfSome upper AreRead
    → (relay_called (turns Above) (relay store peer bind lower upper redirect)).bind ≡ Bound → KnowsAfter (turns Above) (relay store peer bind lower upper redirect) deeds
unfolding turned_above
turn_knows deeds count store peer Unbound lower None redirect opening knows rows read bound = absurd cc
turn_knows deeds count store peer Unbound lower (Some e) redirect opening knows rows read bound = unbound_above deeds store peer lower (Some e) redirect (next_taken e) bound
turn_knows deeds count store peer Opening lower None redirect opening knows rows read bound = absurd cc
turn_knows deeds count store peer Opening lower (Some e) redirect opening knows rows read bound =
    opening_above deeds store peer lower (Some e) redirect e.pending (next_taken e) (opening refl) (next_gives e) (next_so e read) bound
turn_knows deeds count store peer Bound lower None redirect opening knows rows read bound = nothing_more deeds store (knows refl)
turn_knows deeds count store peer Bound lower (Some e) redirect opening knows rows read bound =
    bound_above deeds store peer lower (Some e) redirect count e.pending (next_taken e) (knows refl) rows (next_gives e) (next_so e read) bound
turn_knows deeds count store peer Closed lower upper redirect opening knows rows read bound = absurd cc

-- ---- each call

upper_read : (upper : Option Upper) (connection : Option (List UpperCall)) → upper ≡ option_map (λ calls. (upper_after calls).end) connection → IfSome upper AreRead
upper_read None connection same = tt
upper_read (Some e) None same = absurd cc
upper_read (Some e) (Some calls) same = let there : (upper_after calls).end ≡ e = cc in subst (λ (x : Upper). AreRead x) there (always_read value_services None calls)

-- before the Hello it knows nothing
first_knows : (bind : Bind) (v : Relay) (p : Past) (h : Holds v p) → StandsWell bind v p → bind ≡ Opening → Knows h.deeds v.store
first_knows Unbound v p h stands is = absurd cc
first_knows Opening v p h stands is =
    subst (λ ds. Knows ds v.store) (sym (h.idle stands.2)) (subst (Knows []) (sym (h.fresh stands.2)) knows_nothing)
first_knows Bound v p h stands is = absurd cc
first_knows Closed v p h stands is = absurd cc

pub knows_kept : (call : Call) (v : Relay) (p : Past) (h : Holds v p) → (relay_called call v).bind ≡ Bound → Knows (h.deeds ++ deeds_by call v) (relay_called call v).store
knows_kept call v p h =
    elim (turn_or_not call) as (λ _. (relay_called call v).bind ≡ Bound → KnowsAfter call v h.deeds) [
      | inl is ↦ subst (λ c. (relay_called c v).bind ≡ Bound → KnowsAfter c v h.deeds) (sym is)
          (turn_knows h.deeds (length (above p).past.accepted) v.store v.peer v.bind v.lower v.upper v.redirect (first_knows v.bind v p h h.stands) h.knows
          (rows_now (turns Above) v p h) (upper_read v.upper p.connection h.upper))
      | inr other ↦ others_know call h.deeds v other h.knows
    ]
