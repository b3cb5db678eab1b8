-- What a call of a value-add that isn't bound says below: it answers the command that it takes or the redirect that is left,
-- and what is left then is the redirect that it does.
use Rattle.std.proofs.Common.{◌≡◌, ℕ, Bool, true, false, ◌&&◌, List, [], ◌∷◌, ◌++◌, Option, Some, None, Result, Ok, refl, ap, sym, ◌∙◌, subst}
use Rattle.std.specs.Prelude.{bytes_eq, if◌then◌else◌, map}
use Rattle.std.specs.List.{flat_map}
use Rattle.std.proofs.lemmas.List.{append-nil}
use Rattle.std.proofs.lemmas.Slice.Eq.{bytes_eq-Decides}
use Rattle.channel_core.specs.Arrivals.{Spoken}
use Rattle.channel_core.specs.Closing.{is_closed}
use Rattle.channel_core.specs.Laws.{listed}
use Rattle.channel_core.specs.QueueLaws.{sent_in}
use Rattle.channel_core.specs.Runs.{Unheld, an_answer, an_unknown as unknown_sent, message_of, sending}
use Rattle.channel_core.specs.Taking.{closes, next_taken}
use Rattle.channel_core.specs.Wire.{is_redirect, locator, redirect_name, said}
use Rattle.channel_core.specs.declared.held.Outgoing.{Outgoing}
use Rattle.channel_core.specs.declared.taking.Taken.{Taken}
use Rattle.channel_core.specs.declared.taking.Taken.TheVariants as taken
use Rattle.tcf_message.specs.Message.{MessageValue, command, final, not_known, reading}
use Rattle.tcf_message.specs.declared.message.MessageFault.{MessageFault}
use Rattle.value_node.specs.Asked.{Asked}
use Rattle.value_node.specs.ForwardedValue.{ForwardedValue}
use Rattle.value_node.specs.Own.{own_reply, redirect_done, redirect_failed}
use Rattle.value_node.specs.OwnMessages.{IsOwn, a_result, an_unknown}
use Rattle.value_node.specs.Store.{StoreValue}
use Rattle.value_node.specs.Passing.{Lower, Upper}
use Rattle.value_node.specs.RelayLaws.{StandsWell, asked_by, asked_in}
use Rattle.value_node.specs.Runs.{Call, Past, answering, asked_below, bytes_end, comes, connects, fails, gives, is_binding, own_by, own_calls, took_above_below, took_below_below, turns}
use Rattle.value_node.specs.Value.{answered, asked, awaits, connected_to, is_free, is_opening, redirect_answered, took_any_above, took_any_below, turned_above, turned_below, unbound_again, with_upper}
use Rattle.value_node.specs.declared.own.Own.{Own}
use Rattle.value_node.specs.declared.own.Own.TheVariants as own
use Rattle.value_node.specs.declared.relay.Relay.{Relay}
use Rattle.value_node.specs.declared.states.Bind.{Bind}
use Rattle.value_node.specs.declared.states.Bind.TheVariants.{Unbound, Opening, Bound, Closed}
use Rattle.value_node.specs.declared.states.Side.TheVariants.{Below, Above}
use Rattle.value_node.proofs.HoldsEnds.{KeepsClosed}
use Rattle.value_node.proofs.OwnReplies.{IsReplyTo, reply_is}
use Rattle.value_node.proofs.Pasts.{taken_in}
use Rattle.value_node.proofs.Steps.{relay, relay_called}
use Rattle.value_node.proofs.TakenBelow.{behind_takes}
use Rattle.list_laws.proofs.Flags.{and_first}
use Rattle.list_laws.proofs.Lists.{same_some}

-- ---- what is said

abbrev pub plain : MessageValue → Spoken
plain m = record { message = m; mark = None }

abbrev pub spelled : Spoken → Outgoing
spelled s = said s.message s.mark

said_once : (message : Unheld) (e : Lower) → is_closed e.state ≡ false → sent_in (sending message None ∷ []) e ≡ said (message_of message) None ∷ []
said_once message e unclosed = ap (λ b. (if b then [] else said (message_of message) None ∷ []) ++ []) unclosed

-- the commands that are left where it stands so: the redirect that it does
abbrev pub IsLeft : Bind → Option (List ℕ) → List Asked → Type 0
IsLeft Unbound redirect left = (left ≡ []) × (redirect ≡ None)
IsLeft Opening redirect left = (c : Asked) × (left ≡ c ∷ []) × (redirect ≡ Some c.token) × (is_redirect c.service c.name ≡ true)
IsLeft Bound redirect left = (left ≡ []) × (redirect ≡ None)
IsLeft Closed redirect left = (left ≡ []) × (redirect ≡ None)

-- the one command is a redirect, and is answered without an error
pub record Binds (commands : List Asked) (said_now : List Spoken) : Type 0 where
  pub redirect : Asked
  pub commands_are : commands ≡ redirect ∷ []
  pub asks : is_redirect redirect.service redirect.name ≡ true
  pub said_are : said_now ≡ plain (final redirect.token redirect_done) ∷ []

-- what is sent answers those that were left and those that are asked, and the value-add stands so then
pub record Answers (left commands : List Asked) (sent : List Outgoing) (bind : Bind) (redirect : Option (List ℕ)) : Type 0 where
  pub said_now : List Spoken
  pub sent_are : sent ≡ map spelled said_now
  pub later : List Asked
  pub is_own : IsOwn (left ++ commands) said_now later
  pub is_left : IsLeft bind redirect later
  pub binds : is_binding bind ≡ true → Binds (left ++ commands) said_now

still : (left : List Asked) (bind : Bind) (redirect : Option (List ℕ)) → is_binding bind ≡ false → IsLeft bind redirect left → Answers left [] [] bind redirect
still left bind redirect off is = record { said_now = []; sent_are = refl; later = left; is_own = append-nil left; is_left = is; binds = λ on. absurd cc }

-- ---- the redirect that is left is answered

abbrev IsAfter : Bind → List ℕ → Type 0
IsAfter Unbound body = Unit {0}
IsAfter Opening body = ⊥
IsAfter Bound body = body ≡ redirect_done
IsAfter Closed body = ⊥

of_locator : (service name : List ℕ) → is_redirect service name ≡ true → service ≡ locator
of_locator service name is = (bytes_eq-Decides service locator).0 (and_first (bytes_eq service locator) (bytes_eq name redirect_name) is)

none_left : (bind : Bind) (body : List ℕ) → IsAfter bind body → IsLeft bind None []
none_left Unbound body after = (refl, refl)
none_left Opening body after = absurd after
none_left Bound body after = (refl, refl)
none_left Closed body after = absurd after

after_binds : (bind : Bind) (token body : List ℕ) (c : Asked) (left : List Asked) → IsAfter bind body → token ≡ c.token → left ≡ c ∷ [] → is_redirect c.service c.name ≡ true
    → is_binding bind ≡ true → Binds (left ++ []) (plain (final token body) ∷ [])
after_binds Unbound token body c left after same are asks on = absurd cc
after_binds Opening token body c left after same are asks on = absurd cc
after_binds Bound token body c left after same are asks on = record {
  redirect = c;
  commands_are = append-nil left ∙ are;
  asks = asks;
  said_are = ap (λ t. plain (final t body) ∷ []) same ∙ ap (λ b. plain (final c.token b) ∷ []) after;
}
after_binds Closed token body c left after same are asks on = absurd cc

redirect_answers : (redirect : Option (List ℕ)) (body : List ℕ) (bind : Bind) (v : Relay) (left : List Asked) → is_closed v.lower.state ≡ false → IsLeft Opening redirect left → IsAfter bind body
    → Answers left (flat_map asked_by (taken_in (answering redirect body) v.lower)) (sent_in (answering redirect body) v.lower) bind (redirect_answered redirect body v).redirect
redirect_answers None body bind v left unclosed is after = let clash : ◌≡◌ {A = Option (List ℕ)} None (Some is.0.token) = is.2 in absurd cc
redirect_answers (Some token) body bind v left unclosed is after =
    let same : token ≡ is.0.token = same_some token is.0.token is.2 in
    record {
      said_now = plain (final token body) ∷ [];
      sent_are = said_once (an_answer token body) v.lower unclosed;
      later = [];
      is_own = (refl, ([], a_result is.0 body (ap (λ t. final t body) same) (of_locator is.0.service is.0.name is.3) (append-nil left ∙ is.1), refl));
      is_left = none_left bind body after;
      binds = after_binds bind token body is.0 left after same is.1 is.3;
    }

-- ---- a command is taken while it is unbound

own_answers : (token service name body : List ℕ) (mark : Option ℕ) (reply : Own) (store : StoreValue) (peer : List ℕ) (e : Lower) (upper : Option Upper) → is_closed e.state ≡ false → IsReplyTo service name reply
    → Answers [] (record { token = token; service = service; name = name; body = body; mark = mark } ∷ []) (sent_in (own_calls token reply) e)
    (answered token reply (relay store peer Unbound e upper None)).1.bind (answered token reply (relay store peer Unbound e upper None)).1.redirect
own_answers token service name body mark own.Unknown store peer e upper unclosed is = record {
  said_now = plain (not_known token) ∷ [];
  sent_are = said_once (unknown_sent token) e unclosed;
  later = [];
  is_own = (refl, ([], an_unknown (record { token = token; service = service; name = name; body = body; mark = mark }) refl refl, refl));
  is_left = (refl, refl);
  binds = λ on. absurd cc;
}
own_answers token service name body mark (own.Result data_said) store peer e upper unclosed is = record {
  said_now = plain (final token data_said) ∷ [];
  sent_are = said_once (an_answer token data_said) e unclosed;
  later = [];
  is_own = (refl, ([], a_result (record { token = token; service = service; name = name; body = body; mark = mark }) data_said refl is refl, refl));
  is_left = (refl, refl);
  binds = λ on. absurd cc;
}
own_answers token service name body mark own.Connect store peer e upper unclosed is = record {
  said_now = [];
  sent_are = refl;
  later = record { token = token; service = service; name = name; body = body; mark = mark } ∷ [];
  is_own = refl;
  is_left = (record { token = token; service = service; name = name; body = body; mark = mark }, refl, refl, is);
  binds = λ on. absurd cc;
}

-- what a call answers
abbrev pub CallAnswers : Call → Relay → List Asked → Type 0
CallAnswers call v left = Answers left (flat_map asked_by (taken_in (own_by call v) v.lower)) (sent_in (own_by call v) v.lower) (relay_called call v).bind (relay_called call v).redirect

read_answers : (m : Result MessageValue MessageFault) (mark : Option ℕ) (store : StoreValue) (peer : List ℕ) (lower e : Lower) (upper : Option Upper) → is_closed e.state ≡ false
    → Answers [] (asked_in mark m ++ []) (sent_in (asked_below m (relay store peer Unbound lower upper None)) e)
    (asked m mark (relay store peer Unbound e upper None)).1.bind (asked m mark (relay store peer Unbound e upper None)).1.redirect
read_answers (Ok (command token service name body)) mark store peer lower e upper unclosed =
    own_answers token service name body mark (own_reply peer service name body) store peer e upper unclosed (reply_is peer service name body)
read_answers m mark store peer lower e upper unclosed = still [] Unbound None refl (refl, refl)

took_answers : (what : Option (Taken Unit)) (store : StoreValue) (peer : List ℕ) (lower e : Lower) (upper : Option Upper) → is_closed e.state ≡ closes what
    → Answers [] (flat_map asked_by (listed what)) (sent_in (took_below_below what (relay store peer Unbound lower upper None)) e)
    (took_any_below what (relay store peer Unbound e upper None)).1.bind (took_any_below what (relay store peer Unbound e upper None)).1.redirect
took_answers None store peer lower e upper unclosed = still [] Unbound None refl (refl, refl)
took_answers (Some (taken.Hello incoming)) store peer lower e upper unclosed = still [] Unbound None refl (refl, refl)
took_answers (Some (taken.Command incoming)) store peer lower e upper unclosed = read_answers (reading incoming.raw) incoming.mark store peer lower e upper unclosed
took_answers (Some (taken.Event incoming)) store peer lower e upper unclosed = still [] Unbound None refl (refl, refl)
took_answers (Some (taken.Progress token incoming)) store peer lower e upper unclosed = still [] Unbound None refl (refl, refl)
took_answers (Some (taken.Final tag incoming)) store peer lower e upper unclosed = still [] Unbound None refl (refl, refl)
took_answers (Some (taken.Closed cause)) store peer lower e upper unclosed = still [] Closed None refl (refl, refl)

below_answers : (store : StoreValue) (peer : List ℕ) (bind : Bind) (lower : Lower) (upper : Option Upper) (redirect : Option (List ℕ)) (p : Past) (left : List Asked) → KeepsClosed lower
    → StandsWell bind (relay store peer bind lower upper redirect) p → p.is_bound ≡ false → IsLeft bind redirect left → CallAnswers (turns Below) (relay store peer bind lower upper redirect) left
unfolding turned_below
below_answers store peer Unbound lower upper (Some token) p left low stands off is = let clash : ◌≡◌ {A = Option (List ℕ)} (Some token) None = is.1 in absurd cc
below_answers store peer Unbound lower upper None p (c ∷ left) low stands off is = let clash : c ∷ left ≡ [] = is.0 in absurd cc
below_answers store peer Unbound lower upper None p [] low stands off is =
    let next = next_taken lower in
    let v = relay store peer Unbound lower upper None in
    let all : flat_map asked_by (listed next.0 ++ taken_in (took_below_below next.0 v) next.1) ≡ flat_map asked_by (listed next.0) =
    ap (λ ts. flat_map asked_by (listed next.0 ++ ts)) (behind_takes next.0 v next.1) ∙ ap (flat_map asked_by) (append-nil (listed next.0)) in
    subst (λ xs. Answers [] xs (sent_in (took_below_below next.0 v) next.1) (took_any_below next.0 (relay store peer Unbound next.1 upper None)).1.bind (took_any_below next.0 (relay store peer Unbound next.1 upper None)).1.redirect)
    (sym all) (took_answers next.0 store peer lower next.1 upper (low.by_taking stands.0))
below_answers store peer Opening lower upper redirect p left low stands off is = still left Opening redirect refl is
below_answers store peer Bound lower upper redirect p left low stands off is = let bound : p.is_bound ≡ true = stands.2 in absurd cc
below_answers store peer Closed lower upper redirect p left low stands off is = still left Closed redirect refl is

-- ---- from above, and by a connection that isn't made

abbrev AboveAnswers : Option (Taken ForwardedValue) → Upper → Relay → List Asked → Type 0
AboveAnswers what e v left =
    Answers left (flat_map asked_by (taken_in (took_above_below what v) v.lower)) (sent_in (took_above_below what v) v.lower) (took_any_above what (with_upper e v)).1.bind (took_any_above what (with_upper e v)).1.redirect

unbound_above : (what : Option (Taken ForwardedValue)) (store : StoreValue) (peer : List ℕ) (lower : Lower) (upper : Option Upper) (e : Upper) (redirect : Option (List ℕ)) (left : List Asked) → IsLeft Unbound redirect left
    → AboveAnswers what e (relay store peer Unbound lower upper redirect) left
unbound_above None store peer lower upper e redirect left is = still left Unbound redirect refl is
unbound_above (Some (taken.Hello incoming)) store peer lower upper e redirect left is = still left Unbound redirect refl is
unbound_above (Some (taken.Command incoming)) store peer lower upper e redirect left is = still left Unbound redirect refl is
unbound_above (Some (taken.Event incoming)) store peer lower upper e redirect left is = still left Unbound redirect refl is
unbound_above (Some (taken.Progress token incoming)) store peer lower upper e redirect left is = still left Unbound redirect refl is
unbound_above (Some (taken.Final tag incoming)) store peer lower upper e redirect left is = still left Unbound redirect refl is
unbound_above (Some (taken.Closed cause)) store peer lower upper e redirect left is = still left Unbound redirect refl is

opening_above : (what : Option (Taken ForwardedValue)) (store : StoreValue) (peer : List ℕ) (lower : Lower) (upper : Option Upper) (e : Upper) (redirect : Option (List ℕ)) (left : List Asked) → is_closed lower.state ≡ false
    → IsLeft Opening redirect left → AboveAnswers what e (relay store peer Opening lower upper redirect) left
opening_above None store peer lower upper e redirect left unclosed is = still left Opening redirect refl is
opening_above (Some (taken.Hello incoming)) store peer lower upper e redirect left unclosed is = redirect_answers redirect redirect_done Bound (relay store peer Opening lower (Some e) redirect) left unclosed is refl
opening_above (Some (taken.Command incoming)) store peer lower upper e redirect left unclosed is = still left Opening redirect refl is
opening_above (Some (taken.Event incoming)) store peer lower upper e redirect left unclosed is = still left Opening redirect refl is
opening_above (Some (taken.Progress token incoming)) store peer lower upper e redirect left unclosed is = still left Opening redirect refl is
opening_above (Some (taken.Final tag incoming)) store peer lower upper e redirect left unclosed is = still left Opening redirect refl is
opening_above (Some (taken.Closed cause)) store peer lower upper e redirect left unclosed is = redirect_answers redirect redirect_failed Unbound (relay store peer Opening lower (Some e) redirect) left unclosed is tt

above_answers : (store : StoreValue) (peer : List ℕ) (bind : Bind) (lower : Lower) (upper : Option Upper) (redirect : Option (List ℕ)) (p : Past) (left : List Asked)
    → StandsWell bind (relay store peer bind lower upper redirect) p → p.is_bound ≡ false → IsLeft bind redirect left → CallAnswers (turns Above) (relay store peer bind lower upper redirect) left
unfolding turned_above
above_answers store peer Unbound lower None redirect p left stands off is = still left Unbound redirect refl is
above_answers store peer Unbound lower (Some e) redirect p left stands off is = unbound_above (next_taken e).0 store peer lower (Some e) (next_taken e).1 redirect left is
above_answers store peer Opening lower None redirect p left stands off is = still left Opening redirect refl is
above_answers store peer Opening lower (Some e) redirect p left stands off is = opening_above (next_taken e).0 store peer lower (Some e) (next_taken e).1 redirect left stands.0 is
above_answers store peer Bound lower upper redirect p left stands off is = let bound : p.is_bound ≡ true = stands.2 in absurd cc
above_answers store peer Closed lower upper redirect p left stands off is = still left Closed redirect refl is

unbinding : (bind : Bind) (v : Relay) (p : Past) → StandsWell bind v p → p.is_bound ≡ false → is_binding bind ≡ false
unbinding Unbound v p stands off = refl
unbinding Opening v p stands off = refl
unbinding Bound v p stands off = let bound : p.is_bound ≡ true = stands.2 in absurd cc
unbinding Closed v p stands off = refl

abbrev FailedAnswers : Bool → Relay → List Asked → Type 0
FailedAnswers flag v left =
    Answers left (flat_map asked_by (taken_in (if flag then answering v.redirect redirect_failed else []) v.lower)) (sent_in (if flag then answering v.redirect redirect_failed else []) v.lower)
    (if flag then unbound_again v else v).bind (if flag then unbound_again v else v).redirect

failed_answers : (flag : Bool) (store : StoreValue) (peer : List ℕ) (bind : Bind) (lower : Lower) (upper : Option Upper) (redirect : Option (List ℕ)) (p : Past) (left : List Asked) → (is_opening bind && is_free upper) ≡ flag
    → StandsWell bind (relay store peer bind lower upper redirect) p → p.is_bound ≡ false → IsLeft bind redirect left → FailedAnswers flag (relay store peer bind lower upper redirect) left
failed_answers false store peer bind lower upper redirect p left is_not stands off is = still left bind redirect (unbinding bind (relay store peer bind lower upper redirect) p stands off) is
failed_answers true store peer Opening lower upper redirect p left waits stands off is = redirect_answers redirect redirect_failed Unbound (relay store peer Opening lower upper redirect) left stands.0 is tt
failed_answers true store peer Unbound lower upper redirect p left waits stands off is = absurd cc
failed_answers true store peer Bound lower upper redirect p left waits stands off is = absurd cc
failed_answers true store peer Closed lower upper redirect p left waits stands off is = absurd cc

-- ---- every call

connected_still : (flag : Bool) (v : Relay) (left : List Asked) → is_binding v.bind ≡ false → IsLeft v.bind v.redirect left → Answers left [] [] (if flag then connected_to v else v).bind (if flag then connected_to v else v).redirect
connected_still true v left off is = still left v.bind v.redirect off is
connected_still false v left off is = still left v.bind v.redirect off is

pub call_answers : (call : Call) (v : Relay) (p : Past) (left : List Asked) → KeepsClosed v.lower → StandsWell v.bind v p → p.is_bound ≡ false → IsLeft v.bind v.redirect left → CallAnswers call v left
call_answers (comes Below piece mark) v p left low stands off is = still left v.bind v.redirect (unbinding v.bind v p stands off) is
call_answers (comes Above piece mark) v p left low stands off is = still left v.bind v.redirect (unbinding v.bind v p stands off) is
call_answers (bytes_end Below) v p left low stands off is = still left v.bind v.redirect (unbinding v.bind v p stands off) is
call_answers (bytes_end Above) v p left low stands off is = still left v.bind v.redirect (unbinding v.bind v p stands off) is
call_answers (turns Below) v p left low stands off is = below_answers v.store v.peer v.bind v.lower v.upper v.redirect p left low stands off is
call_answers (turns Above) v p left low stands off is = above_answers v.store v.peer v.bind v.lower v.upper v.redirect p left stands off is
call_answers connects v p left low stands off is = connected_still (awaits v) v left (unbinding v.bind v p stands off) is
call_answers fails v p left low stands off is = failed_answers (awaits v) v.store v.peer v.bind v.lower v.upper v.redirect p left refl stands off is
call_answers (gives Below) v p left low stands off is = still left v.bind v.redirect (unbinding v.bind v p stands off) is
call_answers (gives Above) v p left low stands off is = still left v.bind v.redirect (unbinding v.bind v p stands off) is
