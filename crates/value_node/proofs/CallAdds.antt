-- What a call adds to the commands: nothing, or one that was taken from below and is accepted above, or closes both sides.
use Rattle.std.proofs.Common.{◌≡◌, ◌≢◌, ◌⊎◌, inl, inr, ℕ, ◌+◌, ◌==◌, Bool, true, false, true≢false, cond, List, [], ◌∷◌, ◌++◌, length, Option, Some, None, Result, Ok, refl, ap, sym, ◌∙◌, subst, nat_le, nat_lt}
use Rattle.std.specs.Prelude.{IfSome, if◌then◌else◌, not}
use Rattle.std.specs.List.{flat_map}
use Rattle.std.proofs.lemmas.Bool.Decides.{eqb_tells}
use Rattle.std.proofs.lemmas.List.{append-nil}
use Rattle.std.proofs.lemmas.List.Concat.{flat_map-append}
use Rattle.channel_core.specs.Closing.{is_closed}
use Rattle.channel_core.specs.Laws.{listed}
use Rattle.channel_core.specs.ReceivingLaws.{incoming_of}
use Rattle.channel_core.specs.Runs.{Issued, Run, after_calls, begun, called as end_called, issued, taking, unless_refused}
use Rattle.channel_core.specs.Sending.{last_token, made, most_pending, refusal_of}
use Rattle.channel_core.specs.Taking.{next_taken}
use Rattle.channel_core.specs.declared.sending.SendRefusal.{SendRefusal}
use Rattle.channel_core.specs.declared.sending.SendRefusal.TheVariants.{Full, NotOpen, Spent, TooLong}
use Rattle.channel_core.specs.declared.taking.Taken.{Taken}
use Rattle.channel_core.specs.declared.taking.Taken.TheVariants as taken
use Rattle.tcf_message.specs.Message.{MessageValue, command, most_body, reading}
use Rattle.tcf_message.specs.declared.message.MessageFault.{MessageFault}
use Rattle.value_node.specs.Asked.{Asked}
use Rattle.value_node.specs.ForwardedValue.{ForwardedValue, tagged}
use Rattle.value_node.specs.Store.{StoreValue}
use Rattle.value_node.specs.Passing.{Lower, Upper}
use Rattle.value_node.specs.RelayLaws.{StandsWell, asked_by, asked_in, asked_since}
use Rattle.value_node.specs.Deeds.{above_deeds, asked_deeds, asked_in as commands_in, below_deeds, command_asked, deed_for, deeds_by, sent_in as forwarded_in, turn_below_deeds}
use Rattle.value_node.specs.Runs.{Call, LowerCall, Past, above, asked_above, bound_above, bytes_end, closing_if, closing_in, comes, connects, fails, gives, lower_after, next_above, only_if, own_by, passing_by, refusing, stored_for, took_above_above, took_below_above, took_below_below, turns, upper_by, upper_from, with_calls}
use Rattle.value_node.specs.Value.{answered_or_forwarded, asked, command_of, has_room, sent_unless, takes_above, takes_below, took_any_below, turned_below}
use Rattle.value_node.specs.declared.relay.Relay.{Relay}
use Rattle.value_node.specs.declared.states.Bind.{Bind}
use Rattle.value_node.specs.declared.states.Bind.TheVariants.{Unbound, Opening, Bound, Closed}
use Rattle.value_node.specs.declared.states.Side.TheVariants.{Below, Above}
use Rattle.value_node.specs.declared.states.ValueTurn.TheVariants.{Nothing}
use Rattle.value_node.proofs.Asking.{asked_bound_is, store_asked}
use Rattle.value_node.proofs.DeedLists.{heard_asks, heard_sends}
use Rattle.value_node.proofs.Holding.{Holds}
use Rattle.value_node.proofs.HoldsEnds.{upper_is}
use Rattle.value_node.proofs.Pasts.{accepted_in, after_both, taken_both, taken_in, taken_more}
use Rattle.value_node.proofs.Steps.{end_ran, ran, relay, relay_called}
use Rattle.value_node.proofs.TakenBelow.{behind_takes, others_ask, passing_takes}

-- ---- what is asked with a call

abbrev asked_of : List LowerCall → List LowerCall → List Asked
asked_of until since = flat_map asked_by (after_calls since (begun (lower_after until).end)).past.taken

asked_behind : (until since more : List LowerCall) (lower : Lower) → lower ≡ (lower_after (until ++ since)).end → asked_of until (since ++ more) ≡ asked_of until since ++ flat_map asked_by (taken_in more lower)
asked_behind until since more lower same =
    let r : Run Unit = begun (lower_after until).end in
    let here : (after_calls since r).end ≡ lower =
    end_ran since r ∙ sym (end_ran since (lower_after until)) ∙ sym (ap (λ (x : Run Unit). x.end) (after_both until since (lower_after []))) ∙ sym same in
    ap (λ (x : Run Unit). flat_map asked_by x.past.taken) (after_both since more r)
    ∙ ap (flat_map asked_by) (taken_more more (after_calls since r))
    ∙ flat_map-append asked_by (after_calls since r).past.taken (taken_in more (after_calls since r).end)
    ∙ ap (λ (e : Lower). asked_of until since ++ flat_map asked_by (taken_in more e)) here

abbrev pub more_asked : Bool → List LowerCall → Lower → List Asked
more_asked flag own lower = if flag then flat_map asked_by (taken_in own lower) else []

asked_flag : (flag : Bool) (until since own pass : List LowerCall) (lower : Lower) → (flag ≡ false → since ≡ []) → lower ≡ (lower_after (until ++ since)).end → ((e : Lower) → taken_in pass e ≡ [])
    → asked_of (until ++ only_if (not flag) own) (since ++ (only_if flag own ++ pass)) ≡ asked_of until since ++ more_asked flag own lower
asked_flag true until since own pass lower unbound same nothing =
    ap (λ calls. asked_of calls (since ++ (own ++ pass))) (append-nil until)
    ∙ asked_behind until since (own ++ pass) lower same
    ∙ ap (λ ts. asked_of until since ++ flat_map asked_by ts) (taken_both own pass lower ∙ ap (λ ts. taken_in own lower ++ ts) (nothing (ran own lower)) ∙ append-nil (taken_in own lower))
asked_flag false until since own pass lower unbound same nothing =
    let none : since ≡ [] = unbound refl in
    let next : Run Unit = begun (lower_after (until ++ own)).end in
    ap (λ calls. asked_of (until ++ own) (calls ++ pass)) none
    ∙ ap (flat_map asked_by) (taken_more pass next ∙ nothing next.end)
    ∙ sym (ap (λ calls. asked_of until calls ++ []) none)

-- so those that were asked are, and those of the call
pub asked_now : (call : Call) (v next : Relay) (p : Past) → Holds v p → asked_since (with_calls call v next p) ≡ asked_since p ++ more_asked p.is_bound (own_by call v) v.lower
asked_now call v next p h = asked_flag p.is_bound p.until_bound p.since_bound (own_by call v) (passing_by call v) v.lower h.unbound h.lower (passing_takes call v)

-- ---- what a call adds: nothing, or a command that is forwarded, which is accepted or closes both sides

abbrev pub issued_as : ℕ → Asked → Issued ForwardedValue
issued_as token c = record { command = made token c.service c.name c.body c.mark; tag = tagged c.token (command_asked c) }

abbrev Added : Bind → Upper → Asked → List (Issued ForwardedValue) → Type 0
Added next end c accepted = ((accepted ≡ issued_as (end.last + 1) c ∷ []) × (end.last ≢ last_token)) ⊎ ((accepted ≡ []) × (next ≡ Bound → ⊥))

abbrev pub Adds : Bind → Bind → Upper → List Asked → List (Issued ForwardedValue) → Type 0
Adds bind next end forwarded accepted = ((forwarded ≡ []) × (accepted ≡ [])) ⊎ ((c : Asked) × (forwarded ≡ c ∷ []) × (bind ≡ Bound) × Added next end c accepted)

pub not_spent : (a b c d : Bool) → cond a (Some NotOpen) (cond b (Some TooLong) (cond c (Some Full) (cond d (Some Spent) None))) ≡ None → d ≡ false
not_spent true b c d none = absurd cc
not_spent false true c d none = absurd cc
not_spent false false true d none = absurd cc
not_spent false false false true none = absurd cc
not_spent false false false false none = refl

pub below_last : (last : ℕ) → (last == last_token) ≡ false → last ≢ last_token
below_last last other = elim (eqb_tells last last_token) as (λ _. last ≢ last_token) [ inl is ↦ absurd (true≢false (sym is.0 ∙ other)) | inr is ↦ is.1 ]

abbrev pub asked_as : List ℕ → List ℕ → List ℕ → List ℕ → Option ℕ → Asked
asked_as token service name body mark = record { token = token; service = service; name = name; body = body; mark = mark }

sent_adds : (refusal : Option SendRefusal) (token service name body : List ℕ) (mark : Option ℕ) (e later : Upper) (v : Relay) → refusal_of (length service + length name + length body) e ≡ refusal
    → Adds Bound (sent_unless refusal service name body (tagged token (command_of service name body)) mark e v).bind e (asked_as token service name body mark ∷ [])
    (unless_refused refusal [] (issued service name body (tagged token (command_of service name body)) mark e ∷ []) ++ accepted_in (closing_if refusal) later)
sent_adds None token service name body mark e later v is =
    inr (
      asked_as token service name body mark,
      refl,
      refl,
      inl (
        refl,
        below_last e.last (not_spent (is_closed e.state) (nat_lt most_body (length service + length name + length body)) (nat_le most_pending (length e.pending)) (e.last == last_token) is),
      ),
    )
sent_adds (Some why) token service name body mark e later v is = inr (asked_as token service name body mark, refl, refl, inr (refl, λ bound. absurd cc))

store_adds : (reply : Option (List ℕ)) (at : Option ℕ) (token service name body : List ℕ) (mark : Option ℕ) (store : StoreValue) (peer : List ℕ) (lower : Lower) (e : Upper) (redirect : Option (List ℕ))
    → Adds Bound (answered_or_forwarded reply (command_of service name body) token service name body mark (relay store peer Bound lower (Some e) redirect)).bind e
    (forwarded_in (deed_for reply (asked_as token service name body mark) at ∷ [])) (accepted_in (bound_above reply token service name body mark e) e)
store_adds None at token service name body mark store peer lower e redirect =
    sent_adds (refusal_of (length service + length name + length body) e) token service name body mark e _ (relay store peer Bound lower (Some e) redirect) refl
store_adds (Some reply) at token service name body mark store peer lower e redirect = inl (refl, refl)

command_adds : (m : Result MessageValue MessageFault) (mark : Option ℕ) (store : StoreValue) (peer : List ℕ) (lower later : Lower) (e : Upper) (redirect : Option (List ℕ))
    → Adds Bound (asked m mark (relay store peer Bound later (Some e) redirect)).1.bind e (forwarded_in (asked_deeds mark m (relay store peer Bound lower (Some e) redirect)))
    (accepted_in (asked_above m mark (relay store peer Bound lower (Some e) redirect) e) e)
command_adds (Ok (command token service name body)) mark store peer lower later e redirect =
    let v = relay store peer Bound later (Some e) redirect in
    let reply = stored_for service name body v in
    subst (λ (w : Relay). Adds Bound w.bind e (forwarded_in (deed_for reply (asked_as token service name body mark) store.mark ∷ [])) (accepted_in (bound_above reply token service name body mark e) e))
    (sym (asked_bound_is token service name body mark v))
    (store_adds reply store.mark token service name body mark (store_asked service name body v) peer later e redirect)
command_adds m mark store peer lower later e redirect = inl (refl, refl)

bound_adds : (what : Option (Taken Unit)) (store : StoreValue) (peer : List ℕ) (lower later : Lower) (e : Upper) (redirect : Option (List ℕ))
    → Adds Bound (took_any_below what (relay store peer Bound later (Some e) redirect)).1.bind e (forwarded_in (below_deeds what (relay store peer Bound lower (Some e) redirect)))
    (accepted_in (took_below_above what (relay store peer Bound lower (Some e) redirect) e) e)
bound_adds None store peer lower later e redirect = inl (refl, refl)
bound_adds (Some (taken.Hello incoming)) store peer lower later e redirect = inl (refl, refl)
bound_adds (Some (taken.Command incoming)) store peer lower later e redirect = command_adds (reading incoming.raw) incoming.mark store peer lower later e redirect
bound_adds (Some (taken.Event incoming)) store peer lower later e redirect = inl (refl, refl)
bound_adds (Some (taken.Progress token incoming)) store peer lower later e redirect = inl (refl, refl)
bound_adds (Some (taken.Final tag incoming)) store peer lower later e redirect = inl (refl, refl)
bound_adds (Some (taken.Closed cause)) store peer lower later e redirect = inl (refl, refl)

room_adds : (room : Bool) (store : StoreValue) (peer : List ℕ) (lower : Lower) (e : Upper) (redirect : Option (List ℕ))
    → Adds Bound (if room then took_any_below (next_taken lower).0 (relay store peer Bound (next_taken lower).1 (Some e) redirect) else (Nothing, relay store peer Bound lower (Some e) redirect)).1.bind e
    (forwarded_in (if room then below_deeds (next_taken lower).0 (relay store peer Bound lower (Some e) redirect) else []))
    (accepted_in (if room then took_below_above (next_taken lower).0 (relay store peer Bound lower (Some e) redirect) e else []) e)
room_adds true store peer lower e redirect = bound_adds (next_taken lower).0 store peer lower (next_taken lower).1 e redirect
room_adds false store peer lower e redirect = inl (refl, refl)

unbound_asks : (m : Result MessageValue MessageFault) (mark : Option ℕ) (store : StoreValue) (peer : List ℕ) (lower : Lower) (upper : Option Upper) (redirect : Option (List ℕ)) (e end : Upper)
    → accepted_in (asked_above m mark (relay store peer Unbound lower upper redirect) e) end ≡ []
unbound_asks (Ok (command token service name body)) mark store peer lower upper redirect e end = refl
unbound_asks m mark store peer lower upper redirect e end = refl

unbound_accepts : (what : Option (Taken Unit)) (store : StoreValue) (peer : List ℕ) (lower : Lower) (upper : Option Upper) (redirect : Option (List ℕ)) (e end : Upper)
    → accepted_in (took_below_above what (relay store peer Unbound lower upper redirect) e) end ≡ []
unbound_accepts None store peer lower upper redirect e end = refl
unbound_accepts (Some (taken.Hello incoming)) store peer lower upper redirect e end = refl
unbound_accepts (Some (taken.Command incoming)) store peer lower upper redirect e end = unbound_asks (reading incoming.raw) incoming.mark store peer lower upper redirect e end
unbound_accepts (Some (taken.Event incoming)) store peer lower upper redirect e end = refl
unbound_accepts (Some (taken.Progress token incoming)) store peer lower upper redirect e end = refl
unbound_accepts (Some (taken.Final tag incoming)) store peer lower upper redirect e end = refl
unbound_accepts (Some (taken.Closed cause)) store peer lower upper redirect e end = refl

abbrev CallAdds : Call → Relay → Upper → Type 0
CallAdds call v end = Adds v.bind (relay_called call v).bind end (forwarded_in (deeds_by call v)) (accepted_in (upper_by call v) end)

below_adds : (store : StoreValue) (peer : List ℕ) (bind : Bind) (lower : Lower) (upper : Option Upper) (redirect : Option (List ℕ)) (p : Past) (end : Upper) → IfSome upper (λ e. e ≡ end)
    → StandsWell bind (relay store peer bind lower upper redirect) p → CallAdds (turns Below) (relay store peer bind lower upper redirect) end
unfolding turned_below
below_adds store peer Unbound lower None redirect p end same stands = inl (refl, refl)
below_adds store peer Unbound lower (Some e) redirect p end same stands = inl (refl, unbound_accepts (next_taken lower).0 store peer lower (Some e) redirect e end)
below_adds store peer Opening lower None redirect p end same stands = inl (refl, refl)
below_adds store peer Opening lower (Some e) redirect p end same stands = inl (refl, refl)
below_adds store peer Bound lower None redirect p end same stands = absurd cc
below_adds store peer Bound lower (Some e) redirect p end same stands = rw (sym same) (room_adds (has_room (Some e)) store peer lower e redirect)
below_adds store peer Closed lower None redirect p end same stands = inl (refl, refl)
below_adds store peer Closed lower (Some e) redirect p end same stands = inl (refl, refl)

-- ---- the other calls add nothing

refusing_accepts : (m : Result MessageValue MessageFault) (end : Upper) → accepted_in (refusing m) end ≡ []
refusing_accepts (Ok (command token service name body)) end = refl
refusing_accepts m end = refl

closing_accepts : (bind : Bind) (end : Upper) → accepted_in (closing_in bind) end ≡ []
closing_accepts Unbound end = refl
closing_accepts Opening end = refl
closing_accepts Bound end = refl
closing_accepts Closed end = refl

took_above_accepts : (what : Option (Taken ForwardedValue)) (bind : Bind) (end : Upper) → accepted_in (took_above_above what bind) end ≡ []
took_above_accepts None bind end = refl
took_above_accepts (Some (taken.Hello incoming)) bind end = refl
took_above_accepts (Some (taken.Command incoming)) bind end = refusing_accepts (reading incoming.raw) end
took_above_accepts (Some (taken.Event incoming)) bind end = refl
took_above_accepts (Some (taken.Progress token incoming)) bind end = refl
took_above_accepts (Some (taken.Final tag incoming)) bind end = refl
took_above_accepts (Some (taken.Closed cause)) bind end = closing_accepts bind end

above_accepts : (flag : Bool) (what : Option (Taken ForwardedValue)) (bind : Bind) (end : Upper) → accepted_in (if flag then taking ∷ took_above_above what bind else []) end ≡ []
above_accepts false what bind end = refl
above_accepts true what bind end = took_above_accepts what bind (end_called taking end)

others_accept : (call : Call) (v : Relay) (upper : Option Upper) (end : Upper) → (call ≡ turns Below → ⊥) → accepted_in (upper_from call v upper) end ≡ []
others_accept call v None end other = refl
others_accept (comes Below piece mark) v (Some e) end other = refl
others_accept (comes Above piece mark) v (Some e) end other = refl
others_accept (bytes_end Below) v (Some e) end other = refl
others_accept (bytes_end Above) v (Some e) end other = refl
others_accept (turns Below) v (Some e) end other = absurd (other refl)
others_accept (turns Above) v (Some e) end other = above_accepts (takes_above v.bind) (next_taken e).0 v.bind end
others_accept connects v (Some e) end other = refl
others_accept fails v (Some e) end other = refl
others_accept (gives Below) v (Some e) end other = refl
others_accept (gives Above) v (Some e) end other = refl

-- they forward nothing, and ask nothing
pub above_only_hears : (bind : Bind) (what : Option (Taken ForwardedValue)) → (forwarded_in (above_deeds bind what) ≡ []) × (commands_in (above_deeds bind what) ≡ [])
above_only_hears Unbound what = (refl, refl)
above_only_hears Opening None = (refl, refl)
above_only_hears Opening (Some (taken.Hello incoming)) = (refl, refl)
above_only_hears Opening (Some (taken.Command incoming)) = (refl, refl)
above_only_hears Opening (Some (taken.Event incoming)) = (refl, refl)
above_only_hears Opening (Some (taken.Progress token incoming)) = (refl, refl)
above_only_hears Opening (Some (taken.Final tag incoming)) = (refl, refl)
above_only_hears Opening (Some (taken.Closed cause)) = (refl, refl)
above_only_hears Bound None = (refl, refl)
above_only_hears Bound (Some what) = (heard_sends (incoming_of what), heard_asks (incoming_of what))
above_only_hears Closed what = (refl, refl)

others_do : (call : Call) (v : Relay) → (call ≡ turns Below → ⊥) → (forwarded_in (deeds_by call v) ≡ []) × (commands_in (deeds_by call v) ≡ [])
others_do (comes side piece mark) v other = (refl, refl)
others_do (bytes_end side) v other = (refl, refl)
others_do (turns Below) v other = absurd (other refl)
others_do (turns Above) v other = above_only_hears v.bind (next_above v.upper)
others_do connects v other = (refl, refl)
others_do fails v other = (refl, refl)
others_do (gives side) v other = (refl, refl)

below_or_not : (call : Call) → (call ≡ turns Below) ⊎ (call ≡ turns Below → ⊥)
below_or_not (comes side piece mark) = inr (λ is. absurd cc)
below_or_not (bytes_end side) = inr (λ is. absurd cc)
below_or_not (turns Below) = inl refl
below_or_not (turns Above) = inr (λ is. absurd cc)
below_or_not connects = inr (λ is. absurd cc)
below_or_not fails = inr (λ is. absurd cc)
below_or_not (gives side) = inr (λ is. absurd cc)

pub call_adds : (call : Call) (v : Relay) (p : Past) → Holds v p → CallAdds call v (above p).end
call_adds call v p h =
    elim (below_or_not call) as (λ _. CallAdds call v (above p).end) [
      | inl is ↦ subst (λ c. CallAdds c v (above p).end) (sym is)
          (below_adds v.store v.peer v.bind v.lower v.upper v.redirect p (above p).end (upper_is v.upper p.connection h.upper) h.stands)
      | inr other ↦ inl ((others_do call v other).0, others_accept call v v.upper (above p).end other)
    ]

-- ---- what is asked is what is forwarded or answered

on_asked : (flag : Bool) (xs : List Asked) → flag ≡ true → (if flag then xs else []) ≡ xs
on_asked true xs on = refl
on_asked false xs on = absurd cc

off_asked : (flag : Bool) (xs : List Asked) → flag ≡ false → (if flag then xs else []) ≡ []
off_asked true xs off = absurd cc
off_asked false xs off = refl

none_asked : (flag : Bool) (xs : List Asked) → xs ≡ [] → (if flag then xs else []) ≡ []
none_asked true xs none = none
none_asked false xs none = refl

deed_asks : (reply : Option (List ℕ)) (c : Asked) (at : Option ℕ) → c ∷ [] ≡ commands_in (deed_for reply c at ∷ [])
deed_asks None c at = refl
deed_asks (Some reply) c at = refl

read_asks : (m : Result MessageValue MessageFault) (mark : Option ℕ) (v : Relay) → asked_in mark m ++ [] ≡ commands_in (asked_deeds mark m v)
read_asks (Ok (command token service name body)) mark v = deed_asks (stored_for service name body v) (asked_as token service name body mark) v.store.mark
read_asks m mark v = refl

took_asks : (what : Option (Taken Unit)) (v : Relay) → flat_map asked_by (listed what) ≡ commands_in (below_deeds what v)
took_asks None v = refl
took_asks (Some (taken.Hello incoming)) v = refl
took_asks (Some (taken.Command incoming)) v = read_asks (reading incoming.raw) incoming.mark v
took_asks (Some (taken.Event incoming)) v = refl
took_asks (Some (taken.Progress token incoming)) v = refl
took_asks (Some (taken.Final tag incoming)) v = refl
took_asks (Some (taken.Closed cause)) v = refl

room_asks : (room : Bool) (v : Relay)
    → flat_map asked_by (taken_in (if room then taking ∷ took_below_below (next_taken v.lower).0 v else []) v.lower) ≡ commands_in (if room then below_deeds (next_taken v.lower).0 v else [])
room_asks true v =
    let next = next_taken v.lower in
    ap (λ ts. flat_map asked_by (listed next.0 ++ ts)) (behind_takes next.0 v next.1) ∙ ap (flat_map asked_by) (append-nil (listed next.0)) ∙ took_asks next.0 v
room_asks false v = refl

below_asks : (bind : Bind) (v : Relay) (p : Past) → v.bind ≡ bind → StandsWell bind v p
    → more_asked p.is_bound (if takes_below bind v.upper then taking ∷ took_below_below (next_taken v.lower).0 v else []) v.lower ≡ commands_in (turn_below_deeds bind v)
below_asks Unbound v p is stands = off_asked p.is_bound _ stands.2
below_asks Opening v p is stands = none_asked p.is_bound [] refl
below_asks Bound v p is stands = on_asked p.is_bound _ stands.2 ∙ room_asks (has_room v.upper) v ∙ ap (λ b. commands_in (if takes_below b v.upper then below_deeds (next_taken v.lower).0 v else [])) (sym is)
below_asks Closed v p is stands = none_asked p.is_bound [] refl

pub call_asks : (call : Call) (v : Relay) (p : Past) → Holds v p → more_asked p.is_bound (own_by call v) v.lower ≡ commands_in (deeds_by call v)
call_asks call v p h =
    elim (below_or_not call) as (λ _. more_asked p.is_bound (own_by call v) v.lower ≡ commands_in (deeds_by call v)) [
      | inl is ↦ subst (λ c. more_asked p.is_bound (own_by c v) v.lower ≡ commands_in (deeds_by c v)) (sym is) (below_asks v.bind v p refl h.stands)
      | inr other ↦ none_asked p.is_bound _ (ap (flat_map asked_by) (others_ask call v v.lower other)) ∙ sym (others_do call v other).1
    ]
