-- The commands that are accepted above are those that are forwarded, under 1, 2, 3 and so on; and there are fewer than 2^64.
use Rattle.std.proofs.Common.{◌≡◌, ◌≢◌, inl, inr, ◌≤◌, ℕ, ◌+◌, ◌-◌, ◌^◌, Bool, true, false, List, [], ◌∷◌, ◌++◌, length, map, Option, None, refl, ap, sym, ◌∙◌, subst, arith, length-append}
use Rattle.std.specs.Prelude.{if◌then◌else◌, unwrap_or}
use Rattle.std.specs.List.{range_with_len}
use Rattle.std.proofs.lemmas.List.{append-nil, append_assoc}
use Rattle.channel_core.specs.Runs.{Issued}
use Rattle.channel_core.specs.Sending.{last_token}
use Rattle.value_node.specs.Asked.{Asked}
use Rattle.value_node.specs.ForwardedValue.{ForwardedValue}
use Rattle.value_node.specs.Store.{StoreValue}
use Rattle.value_node.specs.Passing.{Lower, Upper}
use Rattle.value_node.specs.Deeds.{deeds_by, sent_in as forwarded_in}
use Rattle.value_node.specs.RelayLaws.{StandsWell}
use Rattle.value_node.specs.Runs.{Call, Past, above, bytes_end, comes, connects, fails, gives, turns, upper_by, with_calls}
use Rattle.value_node.specs.Value.{asked, awaits, connected_to, turned_above, turned_below, value_services}
use Rattle.value_node.specs.declared.relay.Relay.{Relay}
use Rattle.value_node.specs.declared.states.Bind.{Bind}
use Rattle.value_node.specs.declared.states.Bind.TheVariants.{Unbound, Opening, Bound, Closed}
use Rattle.value_node.specs.declared.states.Side.TheVariants.{Below, Above}
use Rattle.channel_core.proofs.TheLaws.{counts_answers}
use Rattle.value_node.proofs.CallAdds.{Adds, call_adds, issued_as}
use Rattle.value_node.proofs.DeedLists.{sent_both}
use Rattle.value_node.proofs.Holding.{AreAccepted, Holds, above_accepted, issued_from, issued_length}
use Rattle.value_node.proofs.Pasts.{accepted_in}
use Rattle.value_node.proofs.Steps.{relay, relay_called}

-- ---- the tokens

abbrev token_of : Issued ForwardedValue → ℕ
token_of i = i.command.token

last_number : (xs : List (Issued ForwardedValue)) (x : Issued ForwardedValue) (low : ℕ) → map token_of (xs ++ x ∷ []) ≡ range_with_len low (length (xs ++ x ∷ [])) → token_of x ≡ low + length xs
last_number [] x low are = let same : token_of x ≡ low = cc in omega arith
last_number (y ∷ xs) x low are =
    let tail : map token_of (xs ++ x ∷ []) ≡ range_with_len (low + 1) (length (xs ++ x ∷ [])) = cc in
    let rest : token_of x ≡ (low + 1) + length xs = last_number xs x (low + 1) tail in omega arith

issued_push : (low : ℕ) (cs : List Asked) (c : Asked) → issued_from low (cs ++ c ∷ []) ≡ issued_from low cs ++ issued_as (low + length cs) c ∷ []
issued_push low [] c = let same : low ≡ low + 0 = omega arith in ap (λ n. issued_as n c ∷ []) same
issued_push low (d ∷ cs) c =
    let same : (low + 1) + length cs ≡ low + length (d ∷ cs) = omega arith in
    ap (λ is. issued_as low d ∷ is) (issued_push (low + 1) cs c ∙ ap (λ n. issued_from (low + 1) cs ++ issued_as n c ∷ []) same)

abbrev AreCounted : List (Issued ForwardedValue) → Type 0
AreCounted accepted = map token_of accepted ≡ range_with_len 1 (length accepted)

last_is : (accepted more : List (Issued ForwardedValue)) (last : ℕ) (c : Asked) → more ≡ issued_as (last + 1) c ∷ [] → AreCounted (accepted ++ more) → last ≡ length accepted
last_is accepted more last c is counted =
    let next : last + 1 ≡ 1 + length accepted = last_number accepted (issued_as (last + 1) c) 1 (subst (λ xs. AreCounted (accepted ++ xs)) is counted) in omega arith

-- ---- what is accepted afterwards

step_accepted : (accepted more : List (Issued ForwardedValue)) (asked new : List Asked) (bind next : Bind) (end : Upper) (a : AreAccepted accepted asked bind) → (next ≡ Bound → a.refused ≡ [])
    → AreCounted (accepted ++ more) → Adds bind next end new more → AreAccepted (accepted ++ more) (asked ++ new) next
step_accepted accepted more asked new bind next end a still counted (inl none) = record {
  sent = a.sent;
  refused = a.refused;
  whole = ap (λ xs. asked ++ xs) none.0 ∙ append-nil asked ∙ a.whole;
  issued = ap (λ xs. accepted ++ xs) none.1 ∙ append-nil accepted ∙ a.issued;
  all = still;
}
step_accepted accepted more asked new bind next end a still counted (inr (c, asked_is, bound, inl (is, unspent))) =
    let last : end.last ≡ length accepted = last_is accepted more end.last c is counted in
    let long : length accepted ≡ length a.sent = ap length a.issued ∙ issued_length 1 a.sent in
    let number : end.last + 1 ≡ 1 + length a.sent = omega arith in
    record {
      sent = a.sent ++ c ∷ [];
      refused = [];
      whole = ap (λ xs. asked ++ xs) asked_is ∙ ap (λ xs. xs ++ c ∷ []) (a.whole ∙ ap (λ xs. a.sent ++ xs) (a.all bound) ∙ append-nil a.sent) ∙ sym (append-nil (a.sent ++ c ∷ []));
      issued = ap (λ xs. accepted ++ xs) is ∙ ap (λ xs. xs ++ issued_as (end.last + 1) c ∷ []) a.issued ∙ ap (λ n. issued_from 1 a.sent ++ issued_as n c ∷ []) number ∙ sym (issued_push 1 a.sent c);
      all = λ again. refl;
    }
step_accepted accepted more asked new bind next end a still counted (inr (c, asked_is, bound, inr (none, shut))) = record {
  sent = a.sent;
  refused = a.refused ++ c ∷ [];
  whole = ap (λ xs. asked ++ xs) asked_is ∙ ap (λ xs. xs ++ c ∷ []) a.whole ∙ append_assoc a.sent a.refused (c ∷ []);
  issued = ap (λ xs. accepted ++ xs) none ∙ append-nil accepted ∙ a.issued;
  all = λ is. absurd (shut is);
}

same_few : (accepted more : List (Issued ForwardedValue)) → more ≡ [] → length accepted ≤ last_token → length (accepted ++ more) ≤ last_token
same_few accepted more none few = subst (λ xs. length xs ≤ last_token) (sym (ap (λ xs. accepted ++ xs) none ∙ append-nil accepted)) few

step_few : (accepted more : List (Issued ForwardedValue)) (new : List Asked) (bind next : Bind) (end : Upper) → length accepted ≤ last_token → AreCounted (accepted ++ more) → Adds bind next end new more
    → length (accepted ++ more) ≤ last_token
step_few accepted more new bind next end few counted (inl none) = same_few accepted more none.1 few
step_few accepted more new bind next end few counted (inr (c, asked_is, bound, inl (is, unspent))) =
    let last : end.last ≡ length accepted = last_is accepted more end.last c is counted in
    let long : length (accepted ++ more) ≡ length accepted + 1 = ap (λ xs. length (accepted ++ xs)) is ∙ length-append accepted (issued_as (end.last + 1) c ∷ []) in
    let under : length accepted ≤ 2 ^ 64 - 1 = few in
    let differs : end.last ≢ 2 ^ 64 - 1 = unspent in
    let fits : length (accepted ++ more) ≤ 2 ^ 64 - 1 = omega arith in fits
step_few accepted more new bind next end few counted (inr (c, asked_is, bound, inr (none, shut))) = same_few accepted more none few

-- ---- a closed one stays closed

closed_below : (store : StoreValue) (peer : List ℕ) (bind : Bind) (lower : Lower) (upper : Option Upper) (redirect : Option (List ℕ)) → bind ≡ Closed → (turned_below (relay store peer bind lower upper redirect)).1.bind ≡ Closed
unfolding turned_below
closed_below store peer bind lower upper redirect is = rw is refl

closed_above : (store : StoreValue) (peer : List ℕ) (bind : Bind) (lower : Lower) (upper : Option Upper) (redirect : Option (List ℕ)) → bind ≡ Closed → (turned_above (relay store peer bind lower upper redirect)).1.bind ≡ Closed
unfolding turned_above
closed_above store peer bind lower upper redirect is = rw is refl

closed_connects : (flag : Bool) (v : Relay) → v.bind ≡ Closed → (if flag then connected_to v else v).bind ≡ Closed
closed_connects true v is = is
closed_connects false v is = is

closed_fails : (store : StoreValue) (peer : List ℕ) (bind : Bind) (lower : Lower) (upper : Option Upper) (redirect : Option (List ℕ)) → bind ≡ Closed → (relay_called fails (relay store peer bind lower upper redirect)).bind ≡ Closed
closed_fails store peer bind lower upper redirect is = rw is refl

pub closed_stays : (call : Call) (v : Relay) → v.bind ≡ Closed → (relay_called call v).bind ≡ Closed
closed_stays (comes Below piece mark) v is = is
closed_stays (comes Above piece mark) v is = is
closed_stays (bytes_end Below) v is = is
closed_stays (bytes_end Above) v is = is
closed_stays (turns Below) v is = closed_below v.store v.peer v.bind v.lower v.upper v.redirect is
closed_stays (turns Above) v is = closed_above v.store v.peer v.bind v.lower v.upper v.redirect is
closed_stays connects v is = closed_connects (awaits v) v is
closed_stays fails v is = closed_fails v.store v.peer v.bind v.lower v.upper v.redirect is
closed_stays (gives Below) v is = is
closed_stays (gives Above) v is = is

-- so one that is bound afterwards was bound before, or nothing was asked

nothing_behind : (xs ys : List Asked) → xs ++ ys ≡ [] → ys ≡ []
nothing_behind [] ys none = none
nothing_behind (x ∷ xs) ys none = absurd cc

still_all : (call : Call) (v : Relay) (p : Past) (h : Holds v p) → (relay_called call v).bind ≡ Bound → h.accepted.refused ≡ []
still_all call v p h bound = by_flag p.is_bound refl
  where
    by_bind : (bind : Bind) → v.bind ≡ bind → StandsWell bind v p → p.is_bound ≡ true → h.accepted.refused ≡ []
    by_bind Unbound is stands on = let off : p.is_bound ≡ false = stands.2 in absurd cc
    by_bind Opening is stands on = let off : p.is_bound ≡ false = stands.2 in absurd cc
    by_bind Bound is stands on = h.accepted.all is
    by_bind Closed is stands on = let closed : (relay_called call v).bind ≡ Closed = closed_stays call v is in absurd cc

    by_flag : (flag : Bool) → p.is_bound ≡ flag → h.accepted.refused ≡ []
    by_flag true on = by_bind v.bind refl h.stands on
    by_flag false off = nothing_behind h.accepted.sent h.accepted.refused (sym h.accepted.whole ∙ ap forwarded_in (h.idle off))

-- ---- what is kept

-- the upper end's tokens count, whatever was called of it
counted_after : (call : Call) (v next : Relay) (p : Past) → Holds v p → AreCounted ((above p).past.accepted ++ accepted_in (upper_by call v) (above p).end)
counted_after call v next p h =
    let q = with_calls call v next p in
    subst (λ is. AreCounted is) (above_accepted call v next p h.upper) (counts_answers value_services None (unwrap_or q.connection [])).tokens

pub accepted_kept : (call : Call) (v : Relay) (p : Past) (h : Holds v p)
    → AreAccepted (above (with_calls call v (relay_called call v) p)).past.accepted (forwarded_in (h.deeds ++ deeds_by call v)) (relay_called call v).bind
accepted_kept call v p h =
    let next = relay_called call v in
    rw (above_accepted call v next p h.upper, sent_both h.deeds (deeds_by call v))
    (step_accepted (above p).past.accepted (accepted_in (upper_by call v) (above p).end) (forwarded_in h.deeds) (forwarded_in (deeds_by call v)) v.bind next.bind (above p).end h.accepted
    (still_all call v p h) (counted_after call v next p h) (call_adds call v p h))

pub few_kept : (call : Call) (v : Relay) (p : Past) → Holds v p → length (above (with_calls call v (relay_called call v) p)).past.accepted ≤ last_token
few_kept call v p h =
    let next = relay_called call v in
    subst (λ is. length is ≤ last_token) (sym (above_accepted call v next p h.upper))
    (step_few (above p).past.accepted (accepted_in (upper_by call v) (above p).end) (forwarded_in (deeds_by call v)) v.bind next.bind (above p).end h.few
    (counted_after call v next p h) (call_adds call v p h))
