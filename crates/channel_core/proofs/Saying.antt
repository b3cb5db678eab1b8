-- What an end queues can be read.
use Rattle.std.proofs.Common.{◌≡◌, ◌≢◌, ℕ, ◌+◌, ◌≤◌, ◌==◌, Bool, true, false, cond, nat_lt, nat_le, List, [], ◌∷◌, ◌++◌, length, map, Option, Some, None, refl, sym, ap, ◌∙◌, subst, arith, append_assoc, append-nil, ltb-false}
use Rattle.std.specs.List.{AllByRecursion}
use Rattle.std.proofs.lemmas.Bool.{eqb-false}
use Rattle.tcf_message.specs.Message.{event, flow, IsWellFormed, most_body}
use Rattle.channel_core.specs.Arrivals.{Spoken}
use Rattle.channel_core.specs.Beginning.{new_end}
use Rattle.channel_core.specs.Closing.{farewell, is_closed, is_told}
use Rattle.channel_core.specs.EndValue.{EndValue}
use Rattle.channel_core.specs.Farewell.{leaving_behind}
use Rattle.channel_core.specs.Holding.{is_free, sent_out}
use Rattle.channel_core.specs.Level.{is_due, leveled, level_of}
use Rattle.channel_core.specs.ReceivingLaws.{CanBeRead, SaysReadable}
use Rattle.channel_core.specs.Runs.{message_of, Call, delivering, ending, taking, commanding, sending, putting_out, closing, draining, unless_refused, Run, after_call}
use Rattle.channel_core.specs.Sending.{commanded, last_token, made, most_pending, refusal_of, sent_or_held, refusal_to}
use Rattle.channel_core.specs.Taking.{redirected, state_greeted}
use Rattle.channel_core.specs.Wire.{end_of_stream, hello, locator, said}
use Rattle.channel_core.specs.declared.held.Held.{Held}
use Rattle.channel_core.specs.declared.held.Outgoing.{Outgoing}
use Rattle.channel_core.specs.declared.sending.SendRefusal.{SendRefusal}
use Rattle.channel_core.specs.declared.sending.SendRefusal.TheVariants.{Full, NotOpen, TooLong, Spent}
use Rattle.channel_core.specs.declared.states.Cause.{Cause}
use Rattle.channel_core.specs.declared.states.EndState.{EndState}
use Rattle.channel_core.specs.declared.states.EndState.TheVariants.{Opening, Live, Reopening, Closed}
use Rattle.channel_core.proofs.Commands.{taken_out}
use Rattle.channel_core.proofs.Finals.{unspent}
use Rattle.channel_core.proofs.Keeping.{Keeps, KeepsAny, KeepsOut, IsTidy, delivered_keeps, ended_keeps, closed_keeps, taken_keeps, released_keeps, either_keeps, greeted_open}
use Rattle.channel_core.proofs.Sayable.{AreSaid, IsSaid, command_said, flow_said, said_append, said_so, spoken_of}
use Rattle.channel_core.proofs.Tidy.{accepted_open}

-- each command that is held can be read
abbrev AreHeldSaid : List Held → Type 0
AreHeldSaid held = AllByRecursion (λ h. IsSaid h.outgoing) held

held_push : (held : List Held) (h : Held) → IsSaid h.outgoing → AreHeldSaid held → AreHeldSaid (held ++ h ∷ [])
held_push [] h is each = (is, tt)
held_push (x ∷ held) h is each = (each.0, held_push held h is each.1)

-- all that an open end queued can be read, and what a closed one queued before it told its end
pub record IsSaying {T : Type 0} (given : List Outgoing) (e : EndValue T) : Type 0 where
  pub none : is_closed e.state ≡ false → AreSaid (given ++ e.queued)
  pub last : (cause : Cause) → e.state ≡ Closed cause → (front : List Outgoing) × (given ++ e.queued ≡ front ++ farewell cause) × AreSaid front
  pub held : AreHeldSaid e.held

-- an open end
saying_open : {T : Type 0} → (given : List Outgoing) (e : EndValue T) → is_closed e.state ≡ false → AreSaid (given ++ e.queued) → AreHeldSaid e.held → IsSaying given e
saying_open given e opened each held = record {
  none = λ _. each;
  last = λ cause is. let closed : is_closed e.state ≡ true = ap is_closed is in absurd cc;
  held = held;
}

same_said : (given queue next : List Outgoing) → next ≡ queue → AreSaid (given ++ queue) → AreSaid (given ++ next)
same_said given queue next is each = let P : List Outgoing → Type 0 = λ os. AreSaid (given ++ os) in subst P (sym is) each

-- nothing is queued, and the state stays
saying_same : {T : Type 0} → (given : List Outgoing) (e next : EndValue T) → next.state ≡ e.state → next.queued ≡ e.queued → next.held ≡ e.held → IsSaying given e → IsSaying given next
saying_same given e next state queued held i = record {
  none = λ opened. same_said given e.queued next.queued queued (i.none (ap is_closed (sym state) ∙ opened));
  last = λ cause is. let l = i.last cause (sym state ∙ is) in (l.0, ap (λ os. given ++ os) queued ∙ l.1, l.2);
  held = subst AreHeldSaid (sym held) i.held;
}

-- something else than the end is queued by an open end
saying_more : {T : Type 0} → (given more : List Outgoing) (e next : EndValue T) → is_closed e.state ≡ false → is_closed next.state ≡ false → AreSaid more → next.queued ≡ e.queued ++ more → AreHeldSaid next.held
    → IsSaying given e → IsSaying given next
saying_more given more e next opened still each queued held i =
    let all : given ++ next.queued ≡ (given ++ e.queued) ++ more = ap (λ os. given ++ os) queued ∙ sym (append_assoc given e.queued more) in
    saying_open given next still (subst AreSaid (sym all) (said_append (given ++ e.queued) more (i.none opened) each)) held

saying_level : {T : Type 0} → (given : List Outgoing) (e : EndValue T) → is_closed e.state ≡ false → IsSaying given e → IsSaying given (leveled e)
saying_level given e opened i =
    either_keeps (IsSaying given) (is_due e.is_loud (level_of (length e.inbox))) _ e
    (saying_more given (said (flow (level_of (length e.inbox))) None ∷ []) e _ opened opened (flow_said (length e.inbox), tt) refl i.held i) i

saying_out : {T : Type 0} → (given : List Outgoing) → KeepsOut {T = T} (IsSaying given)
saying_out given e h held is opened i =
    let each = subst AreHeldSaid is i.held in
    either_keeps (IsSaying given) h.is_redirect _ _
    (saying_more given (h.outgoing ∷ []) e _ opened refl (each.0, tt) refl each.1 i)
    (saying_more given (h.outgoing ∷ []) e _ opened opened (each.0, tt) refl each.1 i)

-- only the state of an open end changes, and it stays open
saying_state : {T : Type 0} → (given : List Outgoing) (e next : EndValue T) → is_closed e.state ≡ false → is_closed next.state ≡ false → next.queued ≡ e.queued → next.held ≡ e.held → IsSaying given e → IsSaying given next
saying_state given e next opened still queued held i = saying_open given next still (same_said given e.queued next.queued queued (i.none opened)) (subst AreHeldSaid (sym held) i.held)

saying_redirects : {T : Type 0} → (given : List Outgoing) (e : EndValue T) (done : Bool) → is_closed e.state ≡ false → IsSaying given e → IsSaying given (redirected done e)
saying_redirects given e true opened i = saying_same given e (record e { redirect = None }) refl refl refl i
saying_redirects given e false opened i =
    let next = record e { redirect = None; state = Live } in released_keeps (saying_out given) next refl (saying_state given e next opened refl refl refl i)

saying_keeps : {T : Type 0} → (given : List Outgoing) → Keeps {T = T} (IsSaying given)
saying_keeps given = record {
  feeds = λ e stream came i. saying_same given e _ refl refl refl i;
  stops = λ e cause opened i. saying_same given e _ refl refl refl i;
  hears = λ e level opened i. let next = record e { told = level } in released_keeps (saying_out given) next opened (saying_same given e next refl refl refl i);
  enters = λ e arrived opened i. let next = record e { inbox = e.inbox ++ arrived ∷ [] } in saying_level given next opened (saying_same given e next refl refl refl i);
  leaves = λ e arrived inbox is opened i. let next = record e { inbox = inbox } in saying_level given next opened (saying_same given e next refl refl refl i);
  greets = λ e opened i. let next = record e { state = state_greeted e.state e.redirect } in
      let still = greeted_open e.state e.redirect opened in released_keeps (saying_out given) next still (saying_state given e next opened still refl refl i);
  redirects = λ e done opened i. saying_redirects given e done opened i;
  closes = λ e cause opened i. record {
    none = λ never. absurd cc;
    last = λ other is. let same : cause ≡ other = cc in (given ++ e.queued, sym (append_assoc given e.queued (farewell cause)) ∙ ap (λ c. (given ++ e.queued) ++ farewell c) same, i.none opened);
    held = i.held;
  };
}

any_saying : {T : Type 0} → (given : List Outgoing) → KeepsAny {T = T} (IsSaying given)
any_saying given e pending i = saying_same given e (record e { pending = pending }) refl refl refl i

-- ---- Every call

-- service, name and data that aren't refused are within the limit
pub fitting : {T : Type 0} → (size : ℕ) (e : EndValue T) → refusal_of size e ≡ None → nat_lt most_body size ≡ false
fitting size e none = by_flags (is_closed e.state) (nat_lt most_body size) (nat_le most_pending (length e.pending)) (e.last == last_token) none
  where
    by_flags : (a b c d : Bool) → cond a (Some NotOpen) (cond b (Some TooLong) (cond c (Some Full) (cond d (Some Spent) None))) ≡ None → b ≡ false
    by_flags true b c d is = absurd cc
    by_flags false true c d is = absurd cc
    by_flags false false c d is = refl

saying_by : {T : Type 0} → (flag : Bool) (given : List Outgoing) (h : Held) (e : EndValue T) → IsSaid h.outgoing → is_closed e.state ≡ false → IsSaying given e
    → IsSaying given (cond flag (sent_out h e) (record e { held = e.held ++ h ∷ [] }))
saying_by true given h e is opened i =
    either_keeps (IsSaying given) h.is_redirect _ _
    (saying_more given (h.outgoing ∷ []) e _ opened refl (is, tt) refl i.held i)
    (saying_more given (h.outgoing ∷ []) e _ opened opened (is, tt) refl i.held i)
saying_by false given h e is opened i = saying_open given _ opened (i.none opened) (held_push e.held h is i.held)

saying_commanded : {T : Type 0} → (refusal : Option SendRefusal) (given : List Outgoing) (service name body : List ℕ) (tag : T) (mark : Option ℕ) (e : EndValue T) → refusal_to service name body e ≡ refusal
    → e.last ≤ last_token → IsSaying given e → IsSaying given (unless_refused refusal e (commanded service name body tag mark e))
saying_commanded (Some why) given service name body tag mark e is most i = i
saying_commanded None given service name body tag mark e is most i =
    let size = length service + length name + length body in
    let h = made (e.last + 1) service name body mark in
    let fits : size ≤ most_body = ltb-false most_body size (fitting size e is) in
    let isnt : e.last ≢ last_token = eqb-false e.last last_token (unspent size e is) in
    let said_is = command_said (e.last + 1) service name body mark (omega arith) fits in
    saying_same given (sent_or_held h e) _ refl refl refl (saying_by (is_free e) given h e said_is (accepted_open size e is) i)

saying_sent : {T : Type 0} → (flag : Bool) (given more : List Outgoing) (e : EndValue T) → is_closed e.state ≡ flag → AreSaid more → IsSaying given e
    → IsSaying given (cond flag e (record e { queued = e.queued ++ more }))
saying_sent true given more e is each i = i
saying_sent false given more e is each i = saying_more given more e _ is is each refl i.held i

abbrev pub IsSayingRun : {T : Type 0} → Run T → Type 0
IsSayingRun r = IsSaying r.past.given r.end

pub saying_called : {T : Type 0} → (call : Call T) (r : Run T) → SaysReadable call → IsTidy r.end → r.end.last ≤ last_token → IsSayingRun r → IsSayingRun (after_call call r)
saying_called (delivering piece mark) r readable tidy most i = delivered_keeps (saying_keeps r.past.given) piece mark r.end i
saying_called ending r readable tidy most i = ended_keeps (saying_keeps r.past.given) r.end i
saying_called taking r readable tidy most i = taken_keeps (saying_keeps r.past.given) (any_saying r.past.given) r.end tidy i
saying_called (commanding service name body tag mark) r readable tidy most i =
    saying_commanded (refusal_to service name body r.end) r.past.given service name body tag mark r.end refl most i
saying_called (sending message mark) r readable tidy most i =
    saying_sent (is_closed r.end.state) r.past.given (said (message_of message) mark ∷ []) r.end refl (said_so (message_of message) mark readable, tt) i
saying_called putting_out r readable tidy most i = record {
  none = λ opened. subst AreSaid (sym (taken_out r.past.given r.end.queued)) (i.none opened);
  last = λ cause is. let l = i.last cause is in (l.0, taken_out r.past.given r.end.queued ∙ l.1, l.2);
  held = i.held;
}
saying_called closing r readable tidy most i = closed_keeps (saying_keeps r.past.given) r.end i
saying_called draining r readable tidy most i =
    let e = r.end in either_keeps (IsSaying r.past.given) (is_closed e.state) _ e (saying_same r.past.given e _ refl refl refl i) i

pub saying_first : {T : Type 0} → (body : List ℕ) (mark : Option ℕ) → IsWellFormed (event locator hello body) → IsSaying {T = T} [] (new_end body mark)
saying_first {T = T} body mark formed = let e : EndValue T = new_end body mark in saying_open [] e refl (said_so (event locator hello body) mark formed, tt) tt

-- ---- The queue

told_is : (flag : Bool) → cond flag (end_of_stream ∷ []) [] ≡ leaving_behind flag
told_is true = refl
told_is false = refl

readable_open : {T : Type 0} → (r : Run T) (all : List Outgoing) → all ≡ r.past.queued → AreSaid all → CanBeRead r
readable_open r all is each =
    let s = spoken_of all each in
    record { spoken = s.0; is_ended = false; well_formed = s.1; queue = sym is ∙ s.2 ∙ sym (append-nil (map (λ (x : Spoken). said x.message x.mark) s.0)); closed = λ never. absurd cc }

readable_closed : {T : Type 0} → (r : Run T) (all front : List Outgoing) (cause : Cause) → all ≡ r.past.queued → r.end.state ≡ Closed cause → all ≡ front ++ farewell cause → AreSaid front → CanBeRead r
readable_closed r all front cause is closed parts each =
    let s = spoken_of front each in
    record {
      spoken = s.0;
      is_ended = is_told cause;
      well_formed = s.1;
      queue = sym is ∙ parts ∙ ap (λ os. os ++ farewell cause) s.2 ∙ ap (λ os. map (λ (x : Spoken). said x.message x.mark) s.0 ++ os) (told_is (is_told cause));
      closed = λ _. ap is_closed closed;
    }

by_state : {T : Type 0} → (state : EndState) (r : Run T) → r.end.state ≡ state → r.past.given ++ r.end.queued ≡ r.past.queued → IsSayingRun r → CanBeRead r
by_state Opening r is order i = readable_open r _ order (i.none (ap is_closed is))
by_state Live r is order i = readable_open r _ order (i.none (ap is_closed is))
by_state Reopening r is order i = readable_open r _ order (i.none (ap is_closed is))
by_state (Closed cause) r is order i = let l = i.last cause is in readable_closed r _ l.0 cause order is l.1 l.2

pub can_be_read : {T : Type 0} → (r : Run T) → r.past.given ++ r.end.queued ≡ r.past.queued → IsSayingRun r → CanBeRead r
can_be_read r order i = by_state r.end.state r refl order i
