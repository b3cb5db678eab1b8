-- What a call of a value-add that isn't bound says below: it answers the command that it takes or the redirect that is left, a
-- redirect with an error where it doesn't bind it.
use Rattle.std.proofs.Common.{◌≡◌, ℕ, Bool, true, false, ◌&&◌, List, [], ◌∷◌, ◌++◌, Option, Some, None, Result, Ok, refl, ap, sym, ◌∙◌, subst}
use Rattle.std.specs.Prelude.{if◌then◌else◌}
use Rattle.std.specs.List.{flat_map}
use Rattle.std.proofs.lemmas.List.{append-nil}
use Rattle.channel_core.specs.Arrivals.{Spoken}
use Rattle.channel_core.specs.Closing.{is_closed}
use Rattle.channel_core.specs.Laws.{listed}
use Rattle.channel_core.specs.Runs.{Unheld, an_answer, an_unknown, message_of, sending}
use Rattle.channel_core.specs.Taking.{closes, next_taken}
use Rattle.channel_core.specs.Wire.{answers, is_done, is_redirect, said_by}
use Rattle.channel_core.specs.declared.taking.Taken.{Taken}
use Rattle.channel_core.specs.declared.taking.Taken.TheVariants as taken
use Rattle.tcf_message.specs.Message.{MessageValue, command, reading}
use Rattle.tcf_message.specs.declared.message.MessageFault.{MessageFault}
use Rattle.value_node.specs.Asked.{Asked}
use Rattle.value_node.specs.ForwardedValue.{ForwardedValue}
use Rattle.value_node.specs.Own.{own_reply, redirect_done, redirect_failed}
use Rattle.value_node.specs.Passing.{Lower, Upper}
use Rattle.value_node.specs.RelayLaws.{StandsWell, asked_by, asked_in}
use Rattle.value_node.specs.Runs.{Call, Past, answering, asked_below, bytes_end, comes, connects, fails, gives, is_binding, own_by, own_calls, took_above_below, took_below_below, turns}
use Rattle.value_node.specs.Store.{StoreValue}
use Rattle.value_node.specs.Value.{answered, asked, awaits, connected_to, is_free, is_opening, redirect_answered, took_any_above, took_any_below, turned_above, turned_below, unbound_again, with_upper}
use Rattle.value_node.specs.declared.own.Own.{Own}
use Rattle.value_node.specs.declared.own.Own.TheVariants as own
use Rattle.value_node.specs.declared.relay.Relay.{Relay}
use Rattle.value_node.specs.declared.states.Bind.{Bind}
use Rattle.value_node.specs.declared.states.Bind.TheVariants.{Unbound, Opening, Bound, Closed}
use Rattle.value_node.specs.declared.states.Side.TheVariants.{Below, Above}
use Rattle.value_node.proofs.OwnAnswers.{IsLeft}
use Rattle.value_node.proofs.OwnReplies.{IsReplyTo, reply_is}
use Rattle.value_node.proofs.Pasts.{taken_in}
use Rattle.value_node.proofs.Steps.{relay, relay_called}
use Rattle.value_node.proofs.TakenBelow.{behind_takes}
use Rattle.node_answers.proofs.Adds.Failing.{IsFailed, failed_undone, reply_failed}
use Rattle.node_answers.proofs.Adds.Pairing.{AnswerEach}
use Rattle.node_answers.proofs.Adds.Speaking.{spoken_in, spoken_once}
use Rattle.list_laws.proofs.Lists.{same_some}

-- these messages answer the first of those that were left and of those that are asked, and the value-add stands so then
pub record Replies (left commands : List Asked) (said_now : List Spoken) (bind : Bind) (redirect : Option (List ℕ)) : Type 0 where
  pub now : List Asked
  pub later : List Asked
  pub parts : left ++ commands ≡ now ++ later
  pub each : AnswerEach (is_binding bind) now said_now
  pub is_left : IsLeft bind redirect later

still : (left : List Asked) (bind : Bind) (redirect : Option (List ℕ)) → IsLeft bind redirect left → Replies left [] [] bind redirect
still left bind redirect is = record { now = []; later = left; parts = append-nil left; each = tt; is_left = is }

-- one command, and its answer
one_reply : (left commands : List Asked) (c : Asked) (message : Unheld) (done : Bool) (e : Lower) (bind : Bind) (redirect : Option (List ℕ)) → is_closed e.state ≡ false → left ++ commands ≡ c ∷ []
    → said_by (message_of message) ≡ answers c.token done → (is_redirect c.service c.name ≡ true → done ≡ true → is_binding bind ≡ true) → IsLeft bind redirect []
    → Replies left commands (spoken_in (sending message None ∷ []) e) bind redirect
one_reply left commands c message done e bind redirect unclosed are says fair is =
    subst (λ ss. Replies left commands ss bind redirect) (sym (spoken_once message e unclosed))
    (record { now = c ∷ []; later = []; parts = are; each = (record { done = done; says = says; fair = λ asks on. (fair asks on, refl) }, tt); is_left = is })

-- ---- the redirect that is left is answered

abbrev IsAfter : Bind → List ℕ → Type 0
IsAfter Unbound body = is_done body ≡ false
IsAfter Opening body = ⊥
IsAfter Bound body = Unit {0}
IsAfter Closed body = ⊥

none_left : (bind : Bind) (body : List ℕ) → IsAfter bind body → IsLeft bind None []
none_left Unbound body after = (refl, refl)
none_left Opening body after = absurd after
none_left Bound body after = (refl, refl)
none_left Closed body after = absurd after

pub clashes : (flag : Bool) → flag ≡ false → flag ≡ true → ⊥
clashes true off on = absurd cc
clashes false off on = absurd cc

binds_after : (bind : Bind) (body : List ℕ) → IsAfter bind body → is_done body ≡ true → is_binding bind ≡ true
binds_after Unbound body after done = absurd (clashes (is_done body) after done)
binds_after Opening body after done = absurd after
binds_after Bound body after done = refl
binds_after Closed body after done = absurd after

redirect_replies : (redirect : Option (List ℕ)) (body : List ℕ) (bind : Bind) (v : Relay) (left : List Asked) → is_closed v.lower.state ≡ false → IsLeft Opening redirect left → IsAfter bind body
    → Replies left (flat_map asked_by (taken_in (answering redirect body) v.lower)) (spoken_in (answering redirect body) v.lower) bind (redirect_answered redirect body v).redirect
redirect_replies None body bind v left unclosed is after = let clash : ◌≡◌ {A = Option (List ℕ)} None (Some is.0.token) = is.2 in absurd cc
redirect_replies (Some token) body bind v left unclosed is after =
    one_reply left [] is.0 (an_answer token body) (is_done body) v.lower bind None unclosed (append-nil left ∙ is.1) (ap (λ t. answers t (is_done body)) (same_some token is.0.token is.2))
    (λ asks on. binds_after bind body after on) (none_left bind body after)

-- ---- a command is taken while it is unbound

own_replies : (token service name body : List ℕ) (mark : Option ℕ) (reply : Own) (store : StoreValue) (peer : List ℕ) (e : Lower) (upper : Option Upper) → is_closed e.state ≡ false → IsReplyTo service name reply
    → (is_redirect service name ≡ true → IsFailed reply)
    → Replies [] (record { token = token; service = service; name = name; body = body; mark = mark } ∷ []) (spoken_in (own_calls token reply) e)
    (answered token reply (relay store peer Unbound e upper None)).1.bind (answered token reply (relay store peer Unbound e upper None)).1.redirect
own_replies token service name body mark own.Unknown store peer e upper unclosed is failed =
    let c : Asked = record { token = token; service = service; name = name; body = body; mark = mark } in
    one_reply [] (c ∷ []) c (an_unknown token) false e Unbound None unclosed refl refl (λ asks on. absurd cc) (refl, refl)
own_replies token service name body mark (own.Result data_said) store peer e upper unclosed is failed =
    let c : Asked = record { token = token; service = service; name = name; body = body; mark = mark } in
    one_reply [] (c ∷ []) c (an_answer token data_said) (is_done data_said) e Unbound None unclosed refl refl (λ asks on. absurd (clashes (is_done data_said) (failed asks) on)) (refl, refl)
own_replies token service name body mark own.Connect store peer e upper unclosed is failed =
    let c : Asked = record { token = token; service = service; name = name; body = body; mark = mark } in
    record { now = []; later = c ∷ []; parts = refl; each = tt; is_left = (c, refl, refl, is) }

-- what a call answers
abbrev pub CallReplies : Call → Relay → List Asked → Type 0
CallReplies call v left = Replies left (flat_map asked_by (taken_in (own_by call v) v.lower)) (spoken_in (own_by call v) v.lower) (relay_called call v).bind (relay_called call v).redirect

read_replies : (m : Result MessageValue MessageFault) (mark : Option ℕ) (store : StoreValue) (peer : List ℕ) (lower e : Lower) (upper : Option Upper) → is_closed e.state ≡ false
    → Replies [] (asked_in mark m ++ []) (spoken_in (asked_below m (relay store peer Unbound lower upper None)) e)
    (asked m mark (relay store peer Unbound e upper None)).1.bind (asked m mark (relay store peer Unbound e upper None)).1.redirect
read_replies (Ok (command token service name body)) mark store peer lower e upper unclosed =
    own_replies token service name body mark (own_reply peer service name body) store peer e upper unclosed (reply_is peer service name body) (reply_failed peer service name body)
read_replies m mark store peer lower e upper unclosed = still [] Unbound None (refl, refl)

took_replies : (what : Option (Taken Unit)) (store : StoreValue) (peer : List ℕ) (lower e : Lower) (upper : Option Upper) → is_closed e.state ≡ closes what
    → Replies [] (flat_map asked_by (listed what)) (spoken_in (took_below_below what (relay store peer Unbound lower upper None)) e)
    (took_any_below what (relay store peer Unbound e upper None)).1.bind (took_any_below what (relay store peer Unbound e upper None)).1.redirect
took_replies None store peer lower e upper unclosed = still [] Unbound None (refl, refl)
took_replies (Some (taken.Hello incoming)) store peer lower e upper unclosed = still [] Unbound None (refl, refl)
took_replies (Some (taken.Command incoming)) store peer lower e upper unclosed = read_replies (reading incoming.raw) incoming.mark store peer lower e upper unclosed
took_replies (Some (taken.Event incoming)) store peer lower e upper unclosed = still [] Unbound None (refl, refl)
took_replies (Some (taken.Progress token incoming)) store peer lower e upper unclosed = still [] Unbound None (refl, refl)
took_replies (Some (taken.Final tag incoming)) store peer lower e upper unclosed = still [] Unbound None (refl, refl)
took_replies (Some (taken.Closed cause)) store peer lower e upper unclosed = still [] Closed None (refl, refl)

below_replies : (store : StoreValue) (peer : List ℕ) (bind : Bind) (lower : Lower) (upper : Option Upper) (redirect : Option (List ℕ)) (p : Past) (left : List Asked)
    → (is_closed lower.state ≡ false → is_closed (next_taken lower).1.state ≡ closes (next_taken lower).0)
    → StandsWell bind (relay store peer bind lower upper redirect) p → p.is_bound ≡ false → IsLeft bind redirect left → CallReplies (turns Below) (relay store peer bind lower upper redirect) left
unfolding turned_below
below_replies store peer Unbound lower upper (Some token) p left closes_so stands off is = let clash : ◌≡◌ {A = Option (List ℕ)} (Some token) None = is.1 in absurd cc
below_replies store peer Unbound lower upper None p (c ∷ left) closes_so stands off is = let clash : c ∷ left ≡ [] = is.0 in absurd cc
below_replies store peer Unbound lower upper None p [] closes_so stands off is =
    let next = next_taken lower in
    let v = relay store peer Unbound lower upper None in
    let all : flat_map asked_by (listed next.0 ++ taken_in (took_below_below next.0 v) next.1) ≡ flat_map asked_by (listed next.0) =
    ap (λ ts. flat_map asked_by (listed next.0 ++ ts)) (behind_takes next.0 v next.1) ∙ ap (flat_map asked_by) (append-nil (listed next.0)) in
    subst (λ xs. Replies [] xs (spoken_in (took_below_below next.0 v) next.1) (took_any_below next.0 (relay store peer Unbound next.1 upper None)).1.bind (took_any_below next.0 (relay store peer Unbound next.1 upper None)).1.redirect)
    (sym all) (took_replies next.0 store peer lower next.1 upper (closes_so stands.0))
below_replies store peer Opening lower upper redirect p left closes_so stands off is = still left Opening redirect is
below_replies store peer Bound lower upper redirect p left closes_so stands off is = let bound : p.is_bound ≡ true = stands.2 in absurd cc
below_replies store peer Closed lower upper redirect p left closes_so stands off is = still left Closed redirect is

-- ---- from above, and by a connection that isn't made

abbrev AboveReplies : Option (Taken ForwardedValue) → Upper → Relay → List Asked → Type 0
AboveReplies what e v left =
    Replies left (flat_map asked_by (taken_in (took_above_below what v) v.lower)) (spoken_in (took_above_below what v) v.lower) (took_any_above what (with_upper e v)).1.bind (took_any_above what (with_upper e v)).1.redirect

unbound_above : (what : Option (Taken ForwardedValue)) (store : StoreValue) (peer : List ℕ) (lower : Lower) (upper : Option Upper) (e : Upper) (redirect : Option (List ℕ)) (left : List Asked) → IsLeft Unbound redirect left
    → AboveReplies what e (relay store peer Unbound lower upper redirect) left
unbound_above None store peer lower upper e redirect left is = still left Unbound redirect is
unbound_above (Some (taken.Hello incoming)) store peer lower upper e redirect left is = still left Unbound redirect is
unbound_above (Some (taken.Command incoming)) store peer lower upper e redirect left is = still left Unbound redirect is
unbound_above (Some (taken.Event incoming)) store peer lower upper e redirect left is = still left Unbound redirect is
unbound_above (Some (taken.Progress token incoming)) store peer lower upper e redirect left is = still left Unbound redirect is
unbound_above (Some (taken.Final tag incoming)) store peer lower upper e redirect left is = still left Unbound redirect is
unbound_above (Some (taken.Closed cause)) store peer lower upper e redirect left is = still left Unbound redirect is

opening_above : (what : Option (Taken ForwardedValue)) (store : StoreValue) (peer : List ℕ) (lower : Lower) (upper : Option Upper) (e : Upper) (redirect : Option (List ℕ)) (left : List Asked) → is_closed lower.state ≡ false
    → IsLeft Opening redirect left → AboveReplies what e (relay store peer Opening lower upper redirect) left
opening_above None store peer lower upper e redirect left unclosed is = still left Opening redirect is
opening_above (Some (taken.Hello incoming)) store peer lower upper e redirect left unclosed is = redirect_replies redirect redirect_done Bound (relay store peer Opening lower (Some e) redirect) left unclosed is tt
opening_above (Some (taken.Command incoming)) store peer lower upper e redirect left unclosed is = still left Opening redirect is
opening_above (Some (taken.Event incoming)) store peer lower upper e redirect left unclosed is = still left Opening redirect is
opening_above (Some (taken.Progress token incoming)) store peer lower upper e redirect left unclosed is = still left Opening redirect is
opening_above (Some (taken.Final tag incoming)) store peer lower upper e redirect left unclosed is = still left Opening redirect is
opening_above (Some (taken.Closed cause)) store peer lower upper e redirect left unclosed is =
    redirect_replies redirect redirect_failed Unbound (relay store peer Opening lower (Some e) redirect) left unclosed is failed_undone

above_replies : (store : StoreValue) (peer : List ℕ) (bind : Bind) (lower : Lower) (upper : Option Upper) (redirect : Option (List ℕ)) (p : Past) (left : List Asked)
    → StandsWell bind (relay store peer bind lower upper redirect) p → p.is_bound ≡ false → IsLeft bind redirect left → CallReplies (turns Above) (relay store peer bind lower upper redirect) left
unfolding turned_above
above_replies store peer Unbound lower None redirect p left stands off is = still left Unbound redirect is
above_replies store peer Unbound lower (Some e) redirect p left stands off is = unbound_above (next_taken e).0 store peer lower (Some e) (next_taken e).1 redirect left is
above_replies store peer Opening lower None redirect p left stands off is = still left Opening redirect is
above_replies store peer Opening lower (Some e) redirect p left stands off is = opening_above (next_taken e).0 store peer lower (Some e) (next_taken e).1 redirect left stands.0 is
above_replies store peer Bound lower upper redirect p left stands off is = let bound : p.is_bound ≡ true = stands.2 in absurd cc
above_replies store peer Closed lower upper redirect p left stands off is = still left Closed redirect is

abbrev FailedReplies : Bool → Relay → List Asked → Type 0
FailedReplies flag v left =
    Replies left (flat_map asked_by (taken_in (if flag then answering v.redirect redirect_failed else []) v.lower)) (spoken_in (if flag then answering v.redirect redirect_failed else []) v.lower)
    (if flag then unbound_again v else v).bind (if flag then unbound_again v else v).redirect

failed_replies : (flag : Bool) (store : StoreValue) (peer : List ℕ) (bind : Bind) (lower : Lower) (upper : Option Upper) (redirect : Option (List ℕ)) (p : Past) (left : List Asked) → (is_opening bind && is_free upper) ≡ flag
    → StandsWell bind (relay store peer bind lower upper redirect) p → p.is_bound ≡ false → IsLeft bind redirect left → FailedReplies flag (relay store peer bind lower upper redirect) left
failed_replies false store peer bind lower upper redirect p left is_not stands off is = still left bind redirect is
failed_replies true store peer Opening lower upper redirect p left waits stands off is = redirect_replies redirect redirect_failed Unbound (relay store peer Opening lower upper redirect) left stands.0 is failed_undone
failed_replies true store peer Unbound lower upper redirect p left waits stands off is = absurd cc
failed_replies true store peer Bound lower upper redirect p left waits stands off is = absurd cc
failed_replies true store peer Closed lower upper redirect p left waits stands off is = absurd cc

-- ---- every call

connected_still : (flag : Bool) (v : Relay) (left : List Asked) → IsLeft v.bind v.redirect left → Replies left [] [] (if flag then connected_to v else v).bind (if flag then connected_to v else v).redirect
connected_still true v left is = still left v.bind v.redirect is
connected_still false v left is = still left v.bind v.redirect is

pub call_replies : (call : Call) (v : Relay) (p : Past) (left : List Asked) → (is_closed v.lower.state ≡ false → is_closed (next_taken v.lower).1.state ≡ closes (next_taken v.lower).0)
    → StandsWell v.bind v p → p.is_bound ≡ false → IsLeft v.bind v.redirect left → CallReplies call v left
call_replies (comes Below piece mark) v p left closes_so stands off is = still left v.bind v.redirect is
call_replies (comes Above piece mark) v p left closes_so stands off is = still left v.bind v.redirect is
call_replies (bytes_end Below) v p left closes_so stands off is = still left v.bind v.redirect is
call_replies (bytes_end Above) v p left closes_so stands off is = still left v.bind v.redirect is
call_replies (turns Below) v p left closes_so stands off is = below_replies v.store v.peer v.bind v.lower v.upper v.redirect p left closes_so stands off is
call_replies (turns Above) v p left closes_so stands off is = above_replies v.store v.peer v.bind v.lower v.upper v.redirect p left stands off is
call_replies connects v p left closes_so stands off is = connected_still (awaits v) v left is
call_replies fails v p left closes_so stands off is = failed_replies (awaits v) v.store v.peer v.bind v.lower v.upper v.redirect p left refl stands off is
call_replies (gives Below) v p left closes_so stands off is = still left v.bind v.redirect is
call_replies (gives Above) v p left closes_so stands off is = still left v.bind v.redirect is
