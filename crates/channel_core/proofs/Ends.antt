-- The end of the stream is queued once, and last; and a closed end stays as it is.
use Rattle.std.proofs.Common.{◌≡◌, ℕ, ◌+◌, ◌==◌, Bool, true, false, cond, List, [], ◌∷◌, ◌++◌, length, drop, Option, Some, None, refl, sym, ap, ◌∙◌, subst, arith, append_assoc, append-nil}
use Rattle.std.specs.List.{filter}
use Rattle.std.proofs.lemmas.List.{drop_all}
use Rattle.tcf_message.specs.Message.{flow}
use Rattle.channel_core.specs.Closing.{farewell, is_closed}
use Rattle.channel_core.specs.EndValue.{EndValue}
use Rattle.channel_core.specs.Holding.{is_free, sent_out}
use Rattle.channel_core.specs.Level.{is_due, leveled, level_of}
use Rattle.channel_core.specs.Runs.{message_of, Call, delivering, ending, taking, commanding, sending, putting_out, closing, draining, called, unless_refused, Run, after_call}
use Rattle.channel_core.specs.RunLaws.{first_byte, is_end, EndsAs, EndsOnce, IsAsItWas, StaysClosed}
use Rattle.channel_core.specs.Sending.{commanded, made, queued, sent_or_held, refusal_to}
use Rattle.channel_core.specs.Taking.{redirected, state_greeted}
use Rattle.channel_core.specs.Wire.{said}
use Rattle.channel_core.specs.declared.held.Held.{Held}
use Rattle.channel_core.specs.declared.held.Outgoing.{Outgoing}
use Rattle.channel_core.specs.declared.sending.SendRefusal.{SendRefusal}
use Rattle.channel_core.specs.declared.states.Cause.{Cause}
use Rattle.channel_core.specs.declared.states.EndState.{EndState}
use Rattle.channel_core.specs.declared.states.EndState.TheVariants.{Opening, Live, Reopening, Closed}
use Rattle.channel_core.proofs.Keeping.{Keeps, KeepsAny, KeepsOut, IsTidy, delivered_keeps, ended_keeps, closed_keeps, taken_keeps, released_keeps, either_keeps, greeted_open}
use Rattle.channel_core.proofs.Tidy.{accepted_open, tidy_called}
use Rattle.channel_core.proofs.Commands.{AreCommands, commands_push, none_more, taken_out, unheld_none}

-- ---- Once, and last

-- an open end's stream hasn't ended, and a closed one's ended as its cause says
pub record IsEnding {T : Type 0} (given : List Outgoing) (e : EndValue T) : Type 0 where
  pub none : is_closed e.state ≡ false → filter is_end (given ++ e.queued) ≡ []
  pub last : (cause : Cause) → e.state ≡ Closed cause → (front : List Outgoing) × (given ++ e.queued ≡ front ++ farewell cause) × (filter is_end front ≡ [])
  pub commands : AreCommands e.held

-- an open end
pub ending_open : {T : Type 0} → (given : List Outgoing) (e : EndValue T) → is_closed e.state ≡ false → filter is_end (given ++ e.queued) ≡ [] → AreCommands e.held → IsEnding given e
ending_open given e opened none commands = record {
  none = λ _. none;
  last = λ cause is. let closed : is_closed e.state ≡ true = ap is_closed is in absurd cc;
  commands = commands;
}

-- nothing is queued, and the state stays
ending_same : {T : Type 0} → (given : List Outgoing) (e next : EndValue T) → next.state ≡ e.state → next.queued ≡ e.queued → next.held ≡ e.held → IsEnding given e → IsEnding given next
ending_same given e next state queued held i = record {
  none = λ opened. ap (λ os. filter is_end (given ++ os)) queued ∙ i.none (ap is_closed (sym state) ∙ opened);
  last = λ cause is. let l = i.last cause (sym state ∙ is) in (l.0, ap (λ os. given ++ os) queued ∙ l.1, l.2);
  commands = subst AreCommands (sym held) i.commands;
}

-- something else than the end is queued by an open end
ending_more : {T : Type 0} → (given more : List Outgoing) (e next : EndValue T) → is_closed e.state ≡ false → is_closed next.state ≡ false → filter is_end more ≡ [] → next.queued ≡ e.queued ++ more → AreCommands next.held
    → IsEnding given e → IsEnding given next
ending_more given more e next opened still none queued commands i =
    ending_open given next still (ap (λ os. filter is_end (given ++ os)) queued ∙ none_more is_end given e.queued more none ∙ i.none opened) commands

ending_level : {T : Type 0} → (given : List Outgoing) (e : EndValue T) → is_closed e.state ≡ false → IsEnding given e → IsEnding given (leveled e)
ending_level given e opened i =
    either_keeps (IsEnding given) (is_due e.is_loud (level_of (length e.inbox))) _ e
    (ending_more given (said (flow (level_of (length e.inbox))) None ∷ []) e _ opened opened refl refl i.commands i) i

-- a command isn't the end
command_none : (h : Held) → first_byte h.outgoing.bytes ≡ 67 → filter is_end (h.outgoing ∷ []) ≡ []
command_none h letter = let isnt : is_end h.outgoing ≡ false = ap (λ n. n == 3) letter in rw isnt refl

ending_out : {T : Type 0} → (given : List Outgoing) → KeepsOut {T = T} (IsEnding given)
ending_out given e h held is opened i =
    let each = subst AreCommands is i.commands in
    either_keeps (IsEnding given) h.is_redirect _ _
    (ending_more given (h.outgoing ∷ []) e _ opened refl (command_none h each.0) refl each.1 i)
    (ending_more given (h.outgoing ∷ []) e _ opened opened (command_none h each.0) refl each.1 i)

-- only the state of an open end changes, and it stays open
ending_state : {T : Type 0} → (given : List Outgoing) (e next : EndValue T) → is_closed e.state ≡ false → is_closed next.state ≡ false → next.queued ≡ e.queued → next.held ≡ e.held → IsEnding given e → IsEnding given next
ending_state given e next opened still queued held i =
    ending_open given next still (ap (λ os. filter is_end (given ++ os)) queued ∙ i.none opened) (subst AreCommands (sym held) i.commands)

ending_redirects : {T : Type 0} → (given : List Outgoing) (e : EndValue T) (done : Bool) → is_closed e.state ≡ false → IsEnding given e → IsEnding given (redirected done e)
ending_redirects given e true opened i = ending_same given e (record e { redirect = None }) refl refl refl i
ending_redirects given e false opened i =
    let next = record e { redirect = None; state = Live } in released_keeps (ending_out given) next refl (ending_state given e next opened refl refl refl i)

ending_keeps : {T : Type 0} → (given : List Outgoing) → Keeps {T = T} (IsEnding given)
ending_keeps given = record {
  feeds = λ e stream came i. ending_same given e _ refl refl refl i;
  stops = λ e cause opened i. ending_same given e _ refl refl refl i;
  hears = λ e level opened i. let next = record e { told = level } in released_keeps (ending_out given) next opened (ending_same given e next refl refl refl i);
  enters = λ e arrived opened i. let next = record e { inbox = e.inbox ++ arrived ∷ [] } in ending_level given next opened (ending_same given e next refl refl refl i);
  leaves = λ e arrived inbox is opened i. let next = record e { inbox = inbox } in ending_level given next opened (ending_same given e next refl refl refl i);
  greets = λ e opened i. let next = record e { state = state_greeted e.state e.redirect } in
      let still = greeted_open e.state e.redirect opened in released_keeps (ending_out given) next still (ending_state given e next opened still refl refl i);
  redirects = λ e done opened i. ending_redirects given e done opened i;
  closes = λ e cause opened i. record {
    none = λ never. absurd cc;
    last = λ other is. let same : cause ≡ other = cc in (given ++ e.queued, sym (append_assoc given e.queued (farewell cause)) ∙ ap (λ c. (given ++ e.queued) ++ farewell c) same, i.none opened);
    commands = i.commands;
  };
}

any_ending : {T : Type 0} → (given : List Outgoing) → KeepsAny {T = T} (IsEnding given)
any_ending given e pending i = ending_same given e (record e { pending = pending }) refl refl refl i

ending_by : {T : Type 0} → (flag : Bool) (given : List Outgoing) (h : Held) (e : EndValue T) → first_byte h.outgoing.bytes ≡ 67 → is_closed e.state ≡ false → IsEnding given e
    → IsEnding given (cond flag (sent_out h e) (record e { held = e.held ++ h ∷ [] }))
ending_by true given h e letter opened i =
    either_keeps (IsEnding given) h.is_redirect _ _
    (ending_more given (h.outgoing ∷ []) e _ opened refl (command_none h letter) refl i.commands i)
    (ending_more given (h.outgoing ∷ []) e _ opened opened (command_none h letter) refl i.commands i)
ending_by false given h e letter opened i = ending_open given _ opened (i.none opened) (commands_push e.held h letter i.commands)

ending_commanded : {T : Type 0} → (refusal : Option SendRefusal) (given : List Outgoing) (service name body : List ℕ) (tag : T) (mark : Option ℕ) (e : EndValue T) → refusal_to service name body e ≡ refusal
    → IsEnding given e → IsEnding given (unless_refused refusal e (commanded service name body tag mark e))
ending_commanded (Some why) given service name body tag mark e is i = i
ending_commanded None given service name body tag mark e is i =
    let h = made (e.last + 1) service name body mark in
    ending_same given (sent_or_held h e) _ refl refl refl (ending_by (is_free e) given h e refl (accepted_open (length service + length name + length body) e is) i)

ending_sent : {T : Type 0} → (flag : Bool) (given more : List Outgoing) (e : EndValue T) → is_closed e.state ≡ flag → filter is_end more ≡ [] → IsEnding given e
    → IsEnding given (cond flag e (record e { queued = e.queued ++ more }))
ending_sent true given more e is none i = i
ending_sent false given more e is none i = ending_more given more e _ is is none refl i.commands i

abbrev pub IsEndingRun : {T : Type 0} → Run T → Type 0
IsEndingRun r = IsEnding r.past.given r.end

pub ending_called : {T : Type 0} → (call : Call T) (r : Run T) → IsTidy r.end → IsEndingRun r → IsEndingRun (after_call call r)
ending_called (delivering piece mark) r tidy i = delivered_keeps (ending_keeps r.past.given) piece mark r.end i
ending_called ending r tidy i = ended_keeps (ending_keeps r.past.given) r.end i
ending_called taking r tidy i = taken_keeps (ending_keeps r.past.given) (any_ending r.past.given) r.end tidy i
ending_called (commanding service name body tag mark) r tidy i = ending_commanded (refusal_to service name body r.end) r.past.given service name body tag mark r.end refl i
ending_called (sending message mark) r tidy i =
    ending_sent (is_closed r.end.state) r.past.given (said (message_of message) mark ∷ []) r.end refl (unheld_none (λ n. n == 3) message mark refl refl refl refl) i
ending_called putting_out r tidy i = record {
  none = λ opened. ap (filter is_end) (taken_out r.past.given r.end.queued) ∙ i.none opened;
  last = λ cause is. let l = i.last cause is in (l.0, taken_out r.past.given r.end.queued ∙ l.1, l.2);
  commands = i.commands;
}
ending_called closing r tidy i = closed_keeps (ending_keeps r.past.given) r.end i
ending_called draining r tidy i =
    let e = r.end in either_keeps (IsEnding r.past.given) (is_closed e.state) _ e (ending_same r.past.given e _ refl refl refl i) i

-- by the state
ends_as : (state : EndState) (all : List Outgoing) → (is_closed state ≡ false → filter is_end all ≡ [])
    → ((cause : Cause) → state ≡ Closed cause → (front : List Outgoing) × (all ≡ front ++ farewell cause) × (filter is_end front ≡ [])) → EndsAs state all
ends_as Opening all none last = none refl
ends_as Live all none last = none refl
ends_as Reopening all none last = none refl
ends_as (Closed cause) all none last = last cause refl

pub ends_once : {T : Type 0} → (r : Run T) → r.past.given ++ r.end.queued ≡ r.past.queued → IsTidy r.end → IsEndingRun r → EndsOnce r
ends_once r order tidy i = record {
  ends = let P : List Outgoing → Type 0 = λ all. EndsAs r.end.state all in subst P order (ends_as r.end.state (r.past.given ++ r.end.queued) i.none i.last);
  emptied = tidy.emptied;
}

-- ---- A closed end stays as it is

record IsAs {T : Type 0} (state : EndState) (queue : List Outgoing) (e : EndValue T) : Type 0 where
  state_is : e.state ≡ state
  queue_is : e.queued ≡ queue

-- no step but that of the stream is one of a closed end
never : {T : Type 0} → (state : EndState) (queue : List Outgoing) (e : EndValue T) → is_closed state ≡ true → is_closed e.state ≡ false → IsAs state queue e → ⊥
never state queue e closed opened i = let same = ap is_closed i.state_is in cc

as_it_was : {T : Type 0} → (state : EndState) (queue : List Outgoing) → is_closed state ≡ true → Keeps {T = T} (IsAs state queue)
as_it_was state queue closed = record {
  feeds = λ e stream came i. record { state_is = i.state_is; queue_is = i.queue_is };
  stops = λ e cause opened i. absurd (never state queue e closed opened i);
  hears = λ e level opened i. absurd (never state queue e closed opened i);
  enters = λ e arrived opened i. absurd (never state queue e closed opened i);
  leaves = λ e arrived inbox is opened i. absurd (never state queue e closed opened i);
  greets = λ e opened i. absurd (never state queue e closed opened i);
  redirects = λ e done opened i. absurd (never state queue e closed opened i);
  closes = λ e cause opened i. absurd (never state queue e closed opened i);
}

any_as : {T : Type 0} → (state : EndState) (queue : List Outgoing) → KeepsAny {T = T} (IsAs state queue)
any_as state queue e pending i = record { state_is = i.state_is; queue_is = i.queue_is }

refused_as : {T : Type 0} → (refusal : Option SendRefusal) (service name body : List ℕ) (tag : T) (mark : Option ℕ) (e : EndValue T) → refusal_to service name body e ≡ refusal → is_closed e.state ≡ true
    → IsAs e.state e.queued (unless_refused refusal e (commanded service name body tag mark e))
refused_as (Some why) service name body tag mark e is closed = record { state_is = refl; queue_is = refl }
refused_as None service name body tag mark e is closed = let opened = accepted_open (length service + length name + length body) e is in absurd cc

sent_as : {T : Type 0} → (flag : Bool) (more : List Outgoing) (e : EndValue T) → is_closed e.state ≡ flag → is_closed e.state ≡ true → IsAs e.state e.queued (cond flag e (record e { queued = e.queued ++ more }))
sent_as true more e is closed = record { state_is = refl; queue_is = refl }
sent_as false more e is closed = absurd cc

-- what is queued later than all of it
nothing_later : (queue later : List Outgoing) → later ≡ queue → drop (length queue) later ≡ []
nothing_later queue later is = ap (drop (length queue)) is ∙ drop_all (length queue) queue (omega arith)

shorter : (queue : List Outgoing) → drop (length queue) (drop 1 queue) ≡ []
shorter [] = refl
shorter (o ∷ queue) = drop_all (length (o ∷ queue)) queue (omega arith)

kept_as : {T : Type 0} → (call : Call T) (r : Run T) → IsAs r.end.state r.end.queued (called call r.end) → IsAsItWas r (after_call call r)
kept_as call r i = record {
  state = i.state_is;
  queued = ap (λ os. r.past.queued ++ os) (nothing_later r.end.queued (called call r.end).queued i.queue_is) ∙ append-nil r.past.queued;
}

closed_called : {T : Type 0} → (call : Call T) (r : Run T) → IsTidy r.end → is_closed r.end.state ≡ true → IsAsItWas r (after_call call r)
closed_called (delivering piece mark) r tidy closed =
    let e = r.end in kept_as (delivering piece mark) r (delivered_keeps (as_it_was e.state e.queued closed) piece mark e (record { state_is = refl; queue_is = refl }))
closed_called ending r tidy closed = let e = r.end in kept_as ending r (ended_keeps (as_it_was e.state e.queued closed) e (record { state_is = refl; queue_is = refl }))
closed_called taking r tidy closed =
    let e = r.end in kept_as taking r (taken_keeps (as_it_was e.state e.queued closed) (any_as e.state e.queued) e tidy (record { state_is = refl; queue_is = refl }))
closed_called (commanding service name body tag mark) r tidy closed =
    kept_as (commanding service name body tag mark) r (refused_as (refusal_to service name body r.end) service name body tag mark r.end refl closed)
closed_called (sending message mark) r tidy closed =
    kept_as (sending message mark) r (sent_as (is_closed r.end.state) (said (message_of message) mark ∷ []) r.end refl closed)
closed_called putting_out r tidy closed = record {
  state = refl;
  queued = ap (λ os. r.past.queued ++ os) (shorter r.end.queued) ∙ append-nil r.past.queued;
}
closed_called closing r tidy closed = let e = r.end in kept_as closing r (closed_keeps (as_it_was e.state e.queued closed) e (record { state_is = refl; queue_is = refl }))
closed_called draining r tidy closed =
    let e = r.end in
    kept_as draining r (either_keeps (IsAs e.state e.queued) (is_closed e.state) _ e (record { state_is = refl; queue_is = refl }) (record { state_is = refl; queue_is = refl }))

pub stays_closed : {T : Type 0} → (r : Run T) → IsTidy r.end → StaysClosed r
stays_closed r tidy [] closed = record { state = refl; queued = refl }
stays_closed r tidy (call ∷ more) closed =
    let one = closed_called call r tidy closed in
    let rest = stays_closed (after_call call r) (tidy_called call r.end tidy) more (ap is_closed one.state ∙ closed) in
    record { state = rest.state ∙ one.state; queued = rest.queued ∙ one.queued }
