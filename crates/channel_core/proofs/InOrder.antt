-- All that is queued is taken out or queued, in order.
use Rattle.std.proofs.Common.{◌≡◌, ℕ, ◌+◌, Bool, true, false, List, [], ◌∷◌, ◌++◌, length, drop, Option, Some, None, refl, sym, ap, ◌∙◌, arith, append_assoc, append-nil}
use Rattle.std.specs.Prelude.{slice_get}
use Rattle.std.proofs.lemmas.List.{drop_all}
use Rattle.channel_core.specs.Closing.{farewell, is_closed}
use Rattle.channel_core.specs.EndValue.{EndValue}
use Rattle.channel_core.specs.Holding.{is_free, sent_out}
use Rattle.channel_core.specs.Laws.{listed}
use Rattle.channel_core.specs.Level.{is_due, leveled, level_of}
use Rattle.channel_core.specs.Runs.{Call, delivering, ending, taking, commanding, sending, putting_out, closing, draining, message_of, called, unless_refused, Run, after_call}
use Rattle.channel_core.specs.RunLaws.{QueuesInOrder}
use Rattle.channel_core.specs.Sending.{commanded, made, sent_or_held, refusal_to}
use Rattle.channel_core.specs.Taking.{redirected, state_greeted}
use Rattle.channel_core.specs.Wire.{said}
use Rattle.channel_core.specs.declared.held.Held.{Held}
use Rattle.channel_core.specs.declared.held.Outgoing.{Outgoing}
use Rattle.channel_core.specs.declared.sending.SendRefusal.{SendRefusal}
use Rattle.channel_core.specs.declared.states.EndState.TheVariants.{Live}
use Rattle.channel_core.proofs.Keeping.{Keeps, KeepsAny, KeepsOut, IsTidy, delivered_keeps, ended_keeps, closed_keeps, taken_keeps, released_keeps, either_keeps, greeted_open}

-- the queue, and perhaps more behind it
record IsLonger {T : Type 0} (queue : List Outgoing) (e : EndValue T) : Type 0 where
  added : List Outgoing
  is : e.queued ≡ queue ++ added

longer : {T : Type 0} → (queue more : List Outgoing) (e next : EndValue T) → next.queued ≡ e.queued ++ more → IsLonger queue e → IsLonger queue next
longer queue more e next is l = record { added = l.added ++ more; is = is ∙ ap (λ os. os ++ more) l.is ∙ append_assoc queue l.added more }

same : {T : Type 0} → (queue : List Outgoing) (e next : EndValue T) → next.queued ≡ e.queued → IsLonger queue e → IsLonger queue next
same queue e next is l = record { added = l.added; is = is ∙ l.is }

longer_level : {T : Type 0} → (queue : List Outgoing) (e : EndValue T) → IsLonger queue e → IsLonger queue (leveled e)
longer_level queue e l = either_keeps (IsLonger queue) (is_due e.is_loud (level_of (length e.inbox))) _ e (longer queue _ e _ refl l) l

longer_sent : {T : Type 0} → (queue : List Outgoing) (h : Held) (e : EndValue T) → IsLonger queue e → IsLonger queue (sent_out h e)
longer_sent queue h e l = either_keeps (IsLonger queue) h.is_redirect _ _ (longer queue (h.outgoing ∷ []) e _ refl l) (longer queue (h.outgoing ∷ []) e _ refl l)

longer_out : {T : Type 0} → (queue : List Outgoing) → KeepsOut {T = T} (IsLonger queue)
longer_out queue e h held is opened l = longer_sent queue h (record e { held = held }) (same queue e (record e { held = held }) refl l)

longer_redirects : {T : Type 0} → (queue : List Outgoing) (e : EndValue T) (done : Bool) → is_closed e.state ≡ false → IsLonger queue e → IsLonger queue (redirected done e)
longer_redirects queue e true opened l = same queue e (record e { redirect = None }) refl l
longer_redirects queue e false opened l = let next = record e { redirect = None; state = Live } in released_keeps (longer_out queue) next refl (same queue e next refl l)

longer_keeps : {T : Type 0} → (queue : List Outgoing) → Keeps {T = T} (IsLonger queue)
longer_keeps queue = record {
  feeds = λ e stream came l. same queue e _ refl l;
  stops = λ e cause opened l. same queue e _ refl l;
  hears = λ e level opened l. let next = record e { told = level } in released_keeps (longer_out queue) next opened (same queue e next refl l);
  enters = λ e arrived opened l. let next = record e { inbox = e.inbox ++ arrived ∷ [] } in longer_level queue next (same queue e next refl l);
  leaves = λ e arrived inbox is opened l. let next = record e { inbox = inbox } in longer_level queue next (same queue e next refl l);
  greets = λ e opened l. let next = record e { state = state_greeted e.state e.redirect } in released_keeps (longer_out queue) next (greeted_open e.state e.redirect opened) (same queue e next refl l);
  redirects = λ e done opened l. longer_redirects queue e done opened l;
  closes = λ e cause opened l. longer queue (farewell cause) e _ refl l;
}

any_longer : {T : Type 0} → (queue : List Outgoing) → KeepsAny {T = T} (IsLonger queue)
any_longer queue e pending l = same queue e (record e { pending = pending }) refl l

longer_commanded : {T : Type 0} → (refusal : Option SendRefusal) (service name body : List ℕ) (tag : T) (mark : Option ℕ) (e : EndValue T)
    → IsLonger e.queued e → IsLonger e.queued (unless_refused refusal e (commanded service name body tag mark e))
longer_commanded (Some why) service name body tag mark e l = l
longer_commanded None service name body tag mark e l =
    let h = made (e.last + 1) service name body mark in
    let put = either_keeps (IsLonger e.queued) (is_free e) (sent_out h e) (record e { held = e.held ++ h ∷ [] }) (longer_sent e.queued h e l) (same e.queued e _ refl l) in
    same e.queued (sent_or_held h e) _ refl put

-- ---- Every call

unmoved : {T : Type 0} → (e : EndValue T) → IsLonger e.queued e
unmoved e = record { added = []; is = sym (append-nil e.queued) }

drop_front : {A : Type 0} → (xs ys : List A) → drop (length xs) (xs ++ ys) ≡ ys
drop_front [] ys = refl
drop_front (x ∷ xs) ys = drop_front xs ys

by_longer : {T : Type 0} → (e next : EndValue T) → IsLonger e.queued next → next.queued ≡ e.queued ++ drop (length e.queued) next.queued
by_longer e next l =
    let rest : drop (length e.queued) next.queued ≡ l.added = ap (drop (length e.queued)) l.is ∙ drop_front e.queued l.added in
    l.is ∙ ap (λ os. e.queued ++ os) (sym rest)

order_of : {T : Type 0} → (given all : List Outgoing) (e next : EndValue T) → IsLonger e.queued next → given ++ e.queued ≡ all → given ++ next.queued ≡ all ++ drop (length e.queued) next.queued
order_of given all e next l before =
    ap (λ os. given ++ os) (by_longer e next l) ∙ sym (append_assoc given e.queued (drop (length e.queued) next.queued))
    ∙ ap (λ os. os ++ drop (length e.queued) next.queued) before

order_out : (given queue all : List Outgoing) → given ++ queue ≡ all → (given ++ listed (slice_get queue 0)) ++ drop 1 queue ≡ all ++ drop (length queue) (drop 1 queue)
order_out given [] all before = ap (λ os. os ++ []) before
order_out given (o ∷ queue) all before =
    append_assoc given (o ∷ []) queue ∙ before ∙ sym (append-nil all)
    ∙ ap (λ os. all ++ os) (sym (drop_all (length (o ∷ queue)) queue (omega arith)))

pub in_order : {T : Type 0} → (call : Call T) (r : Run T) → IsTidy r.end → QueuesInOrder r → QueuesInOrder (after_call call r)
in_order (delivering piece mark) r tidy before =
    let e = r.end in order_of r.past.given r.past.queued e (called (delivering piece mark) e) (delivered_keeps (longer_keeps e.queued) piece mark e (unmoved e)) before
in_order ending r tidy before = let e = r.end in order_of r.past.given r.past.queued e (called ending e) (ended_keeps (longer_keeps e.queued) e (unmoved e)) before
in_order taking r tidy before =
    let e = r.end in order_of r.past.given r.past.queued e (called taking e) (taken_keeps (longer_keeps e.queued) (any_longer e.queued) e tidy (unmoved e)) before
in_order (commanding service name body tag mark) r tidy before =
    let e = r.end in
    order_of r.past.given r.past.queued e (called (commanding service name body tag mark) e)
    (longer_commanded (refusal_to service name body e) service name body tag mark e (unmoved e)) before
in_order (sending message mark) r tidy before =
    let e = r.end in
    order_of r.past.given r.past.queued e (called (sending message mark) e)
    (either_keeps (IsLonger e.queued) (is_closed e.state) e _ (unmoved e) (longer e.queued (said (message_of message) mark ∷ []) e _ refl (unmoved e))) before
in_order putting_out r tidy before = order_out r.past.given r.end.queued r.past.queued before
in_order closing r tidy before = let e = r.end in order_of r.past.given r.past.queued e (called closing e) (closed_keeps (longer_keeps e.queued) e (unmoved e)) before
in_order draining r tidy before =
    let e = r.end in
    order_of r.past.given r.past.queued e (called draining e) (either_keeps (IsLonger e.queued) (is_closed e.state) _ e (same e.queued e _ refl (unmoved e)) (unmoved e)) before
