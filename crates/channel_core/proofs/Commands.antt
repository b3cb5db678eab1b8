-- The commands that are queued are, in order, a front of those that were accepted, and the rest are held.
use Rattle.std.proofs.Common.{◌≡◌, ℕ, ◌+◌, ◌-◌, ◌==◌, Bool, true, false, cond, List, [], ◌∷◌, ◌++◌, length, take, drop, map, Option, Some, None, refl, sym, ap, ◌∙◌, subst, arith, append_assoc, append-nil, length-append}
use Rattle.std.specs.Prelude.{slice_get}
use Rattle.std.specs.List.{filter}
use Rattle.std.proofs.lemmas.List.{map-append, length-map}
use Rattle.std.proofs.lemmas.List.Elements.{filter-append}
use Rattle.tcf_message.specs.Message.{flow}
use Rattle.channel_core.specs.Closing.{farewell, is_closed, is_told}
use Rattle.channel_core.specs.EndValue.{EndValue}
use Rattle.channel_core.specs.Holding.{is_free, sent_out}
use Rattle.channel_core.specs.Laws.{listed}
use Rattle.channel_core.specs.Level.{is_due, leveled, level_of}
use Rattle.channel_core.specs.Runs.{Unheld, an_answer, some_progress, an_unknown, an_event, message_of, Call, delivering, ending, taking, commanding, sending, putting_out, closing, draining, unless_refused, Issued, issued, Run, after_call}
use Rattle.channel_core.specs.RunLaws.{first_byte, is_command, sent_of, SendsInOrder}
use Rattle.channel_core.specs.Sending.{accepted, commanded, refusal_to}
use Rattle.channel_core.specs.Taking.{redirected, state_greeted}
use Rattle.channel_core.specs.Wire.{end_of_stream, said}
use Rattle.channel_core.specs.declared.held.Held.{Held}
use Rattle.channel_core.specs.declared.held.Outgoing.{Outgoing}
use Rattle.channel_core.specs.declared.sending.SendRefusal.{SendRefusal}
use Rattle.channel_core.specs.declared.states.Cause.{Cause}
use Rattle.channel_core.specs.declared.states.EndState.TheVariants.{Live}
use Rattle.channel_core.proofs.Keeping.{Keeps, KeepsAny, KeepsOut, IsTidy, delivered_keeps, ended_keeps, closed_keeps, taken_keeps, released_keeps, either_keeps, greeted_open}
use Rattle.channel_core.proofs.Free.{HoldsNone}
use Rattle.list_laws.proofs.Lists.{take_front}

-- ---- What is held is a command

abbrev pub AreCommands : List Held → Type 0
AreCommands [] = Unit {0}
AreCommands (h ∷ held) = (first_byte h.outgoing.bytes ≡ 67) × AreCommands held

pub commands_push : (held : List Held) (h : Held) → first_byte h.outgoing.bytes ≡ 67 → AreCommands held → AreCommands (held ++ h ∷ [])
commands_push [] h is c = (is, tt)
commands_push (x ∷ held) h is c = (c.0, commands_push held h is c.1)

-- a queue without one of these, of which only some are counted, counts the same with it
pub none_more : (test : Outgoing → Bool) (given queue more : List Outgoing) → filter test more ≡ [] → filter test (given ++ (queue ++ more)) ≡ filter test (given ++ queue)
none_more test given queue more none =
    ap (filter test) (sym (append_assoc given queue more)) ∙ filter-append test (given ++ queue) more ∙ ap (λ os. filter test (given ++ queue) ++ os) none ∙ append-nil (filter test (given ++ queue))

-- and one that is counted is counted last
pub one_more : (test : Outgoing → Bool) (given queue : List Outgoing) (o : Outgoing) → test o ≡ true → filter test (given ++ (queue ++ o ∷ [])) ≡ filter test (given ++ queue) ++ o ∷ []
one_more test given queue o passes =
    let last : filter test (o ∷ []) ≡ o ∷ [] = rw passes refl in
    ap (filter test) (sym (append_assoc given queue (o ∷ []))) ∙ filter-append test (given ++ queue) (o ∷ []) ∙ ap (λ os. filter test (given ++ queue) ++ os) last

-- what is taken out stays before what is queued
pub taken_out : (given queue : List Outgoing) → (given ++ listed (slice_get queue 0)) ++ drop 1 queue ≡ given ++ queue
taken_out given [] = append-nil (given ++ []) ∙ refl
taken_out given (o ∷ queue) = append_assoc given (o ∷ []) queue

-- ---- A front of the accepted commands

pub record IsSplit {T : Type 0} (all : List (Issued T)) (given : List Outgoing) (e : EndValue T) : Type 0 where
  pub sent : List (Issued T)
  pub waiting : List (Issued T)
  pub parts : all ≡ sent ++ waiting
  pub held : map (λ i. i.command) waiting ≡ e.held
  pub out : filter is_command (given ++ e.queued) ≡ map (λ i. i.command.outgoing) sent
  pub commands : AreCommands e.held

-- no command is queued
split_more : {T : Type 0} → (all : List (Issued T)) (given more : List Outgoing) (e next : EndValue T) → filter is_command more ≡ [] → next.queued ≡ e.queued ++ more → next.held ≡ e.held
    → IsSplit all given e → IsSplit all given next
split_more all given more e next none queued held s = record {
  sent = s.sent;
  waiting = s.waiting;
  parts = s.parts;
  held = s.held ∙ sym held;
  out = ap (λ os. filter is_command (given ++ os)) queued ∙ none_more is_command given e.queued more none ∙ s.out;
  commands = subst AreCommands (sym held) s.commands;
}

split_same : {T : Type 0} → (all : List (Issued T)) (given : List Outgoing) (e next : EndValue T) → next.queued ≡ e.queued → next.held ≡ e.held → IsSplit all given e → IsSplit all given next
split_same all given e next queued held s = split_more all given [] e next refl (queued ∙ sym (append-nil e.queued)) held s

split_level : {T : Type 0} → (all : List (Issued T)) (given : List Outgoing) (e : EndValue T) → IsSplit all given e → IsSplit all given (leveled e)
split_level all given e s =
    either_keeps (IsSplit all given) (is_due e.is_loud (level_of (length e.inbox))) _ e (split_more all given (said (flow (level_of (length e.inbox))) None ∷ []) e _ refl refl refl s) s

-- the first that is held is queued
split_first : {T : Type 0} → (all sent waiting : List (Issued T)) (given : List Outgoing) (h : Held) (held : List Held) (e next : EndValue T)
    → all ≡ sent ++ waiting → map (λ i. i.command) waiting ≡ h ∷ held → filter is_command (given ++ e.queued) ≡ map (λ i. i.command.outgoing) sent → AreCommands (h ∷ held)
    → next.queued ≡ e.queued ++ h.outgoing ∷ [] → next.held ≡ held → IsSplit all given next
split_first all sent [] given h held e next parts is out commands queued left = absurd cc
split_first all sent (i ∷ waiting) given h held e next parts is out commands queued left =
    let first : i.command ≡ h = cc in
    let rest : map (λ x. x.command) waiting ≡ held = cc in
    let passes : is_command h.outgoing ≡ true = ap (λ n. n == 67) commands.0 in
    record {
      sent = sent ++ i ∷ [];
      waiting = waiting;
      parts = parts ∙ sym (append_assoc sent (i ∷ []) waiting);
      held = rest ∙ sym left;
      out = ap (λ os. filter is_command (given ++ os)) queued ∙ one_more is_command given e.queued h.outgoing passes ∙ ap (λ os. os ++ h.outgoing ∷ []) out
          ∙ ap (λ x. map (λ y. y.command.outgoing) sent ++ x.outgoing ∷ []) (sym first) ∙ sym (map-append (λ y. y.command.outgoing) sent (i ∷ []));
      commands = subst AreCommands (sym left) commands.1;
    }

split_out : {T : Type 0} → (all : List (Issued T)) (given : List Outgoing) → KeepsOut {T = T} (IsSplit all given)
split_out all given e h held is opened s =
    let each = subst AreCommands is s.commands in
    either_keeps (IsSplit all given) h.is_redirect _ _
    (split_first all s.sent s.waiting given h held e _ s.parts (s.held ∙ is) s.out each refl refl)
    (split_first all s.sent s.waiting given h held e _ s.parts (s.held ∙ is) s.out each refl refl)

split_redirects : {T : Type 0} → (all : List (Issued T)) (given : List Outgoing) (e : EndValue T) (done : Bool) → IsSplit all given e → IsSplit all given (redirected done e)
split_redirects all given e true s = split_same all given e (record e { redirect = None }) refl refl s
split_redirects all given e false s = let next = record e { redirect = None; state = Live } in released_keeps (split_out all given) next refl (split_same all given e next refl refl s)

-- the end of the stream is no command
pub farewell_none : (test : Outgoing → Bool) (cause : Cause) → filter test (end_of_stream ∷ []) ≡ [] → filter test (farewell cause) ≡ []
farewell_none test cause none = by_flag (is_told cause)
  where
    by_flag : (flag : Bool) → filter test (cond flag (end_of_stream ∷ []) []) ≡ []
    by_flag true = none
    by_flag false = refl

split : {T : Type 0} → (all : List (Issued T)) (given : List Outgoing) → Keeps {T = T} (IsSplit all given)
split all given = record {
  feeds = λ e stream came s. split_same all given e _ refl refl s;
  stops = λ e cause opened s. split_same all given e _ refl refl s;
  hears = λ e level opened s. let next = record e { told = level } in released_keeps (split_out all given) next opened (split_same all given e next refl refl s);
  enters = λ e arrived opened s. let next = record e { inbox = e.inbox ++ arrived ∷ [] } in split_level all given next (split_same all given e next refl refl s);
  leaves = λ e arrived inbox is opened s. let next = record e { inbox = inbox } in split_level all given next (split_same all given e next refl refl s);
  greets = λ e opened s. let next = record e { state = state_greeted e.state e.redirect } in
      released_keeps (split_out all given) next (greeted_open e.state e.redirect opened) (split_same all given e next refl refl s);
  redirects = λ e done opened s. split_redirects all given e done s;
  closes = λ e cause opened s. split_more all given (farewell cause) e _ (farewell_none is_command cause refl) refl refl s;
}

any_split : {T : Type 0} → (all : List (Issued T)) (given : List Outgoing) → KeepsAny {T = T} (IsSplit all given)
any_split all given e pending s = split_same all given e (record e { pending = pending }) refl refl s

-- ---- A new command

pub none_waits : {T : Type 0} → (waiting : List (Issued T)) → map (λ i. i.command) waiting ≡ [] → waiting ≡ []
none_waits [] is = refl
none_waits (i ∷ waiting) is = absurd cc

-- it goes out where none is held
split_goes : {T : Type 0} → (all : List (Issued T)) (given : List Outgoing) (i : Issued T) (e next : EndValue T) → first_byte i.command.outgoing.bytes ≡ 67 → e.held ≡ []
    → next.queued ≡ e.queued ++ i.command.outgoing ∷ [] → next.held ≡ e.held → IsSplit all given e → IsSplit (all ++ i ∷ []) given next
split_goes all given i e next letter none queued held s =
    let nothing : s.waiting ≡ [] = none_waits s.waiting (s.held ∙ none) in
    let passes : is_command i.command.outgoing ≡ true = ap (λ n. n == 67) letter in
    record {
      sent = s.sent ++ i ∷ [];
      waiting = [];
      parts = ap (λ xs. xs ++ i ∷ []) (s.parts ∙ ap (λ xs. s.sent ++ xs) nothing ∙ append-nil s.sent) ∙ sym (append-nil (s.sent ++ i ∷ []));
      held = sym none ∙ sym held;
      out = ap (λ os. filter is_command (given ++ os)) queued ∙ one_more is_command given e.queued i.command.outgoing passes ∙ ap (λ os. os ++ i.command.outgoing ∷ []) s.out
          ∙ sym (map-append (λ y. y.command.outgoing) s.sent (i ∷ []));
      commands = subst AreCommands (sym none ∙ sym held) tt;
    }

-- it is held behind those that are
split_waits : {T : Type 0} → (all : List (Issued T)) (given : List Outgoing) (i : Issued T) (e next : EndValue T) → first_byte i.command.outgoing.bytes ≡ 67
    → next.queued ≡ e.queued → next.held ≡ e.held ++ i.command ∷ [] → IsSplit all given e → IsSplit (all ++ i ∷ []) given next
split_waits all given i e next letter queued held s = record {
  sent = s.sent;
  waiting = s.waiting ++ i ∷ [];
  parts = ap (λ xs. xs ++ i ∷ []) s.parts ∙ append_assoc s.sent s.waiting (i ∷ []);
  held = map-append (λ y. y.command) s.waiting (i ∷ []) ∙ ap (λ hs. hs ++ i.command ∷ []) s.held ∙ sym held;
  out = ap (λ os. filter is_command (given ++ os)) queued ∙ s.out;
  commands = subst AreCommands (sym held) (commands_push e.held i.command letter s.commands);
}

split_by : {T : Type 0} → (flag : Bool) (all : List (Issued T)) (given : List Outgoing) (i : Issued T) (e : EndValue T) → first_byte i.command.outgoing.bytes ≡ 67 → is_free e ≡ flag → HoldsNone e
    → IsSplit all given e → IsSplit (all ++ i ∷ []) given (accepted i.command i.tag (cond flag (sent_out i.command e) (record e { held = e.held ++ i.command ∷ [] })))
split_by true all given i e letter is free s =
    let put = either_keeps (IsSplit (all ++ i ∷ []) given) i.command.is_redirect _ _ (split_goes all given i e _ letter (free is) refl refl s) (split_goes all given i e _ letter (free is) refl refl s) in
    split_same (all ++ i ∷ []) given (sent_out i.command e) _ refl refl put
split_by false all given i e letter is free s = split_waits all given i e _ letter refl refl s

split_commanded : {T : Type 0} → (refusal : Option SendRefusal) (all : List (Issued T)) (given : List Outgoing) (service name body : List ℕ) (tag : T) (mark : Option ℕ) (e : EndValue T) → HoldsNone e
    → IsSplit all given e
    → IsSplit (all ++ unless_refused refusal [] (issued service name body tag mark e ∷ [])) given (unless_refused refusal e (commanded service name body tag mark e))
split_commanded {T = T} (Some why) all given service name body tag mark e free s =
    let P : List (Issued T) → Type 0 = λ xs. IsSplit xs given e in subst P (sym (append-nil all)) s
split_commanded None all given service name body tag mark e free s = split_by (is_free e) all given (issued service name body tag mark e) e refl refl free s

-- ---- Every call

-- a message that is never held is no command
pub unheld_none : (test : ℕ → Bool) (message : Unheld) (mark : Option ℕ) → test 82 ≡ false → test 80 ≡ false → test 78 ≡ false → test 69 ≡ false
    → filter (λ o. test (first_byte o.bytes)) (said (message_of message) mark ∷ []) ≡ []
unheld_none test (an_answer token body) mark a b c d = rw a refl
unheld_none test (some_progress token body) mark a b c d = rw b refl
unheld_none test (an_unknown token) mark a b c d = rw c refl
unheld_none test (an_event service name body) mark a b c d = rw d refl

-- the commands of a run
abbrev pub AreSplit : {T : Type 0} → Run T → Type 0
AreSplit r = IsSplit r.past.accepted r.past.given r.end

pub split_called : {T : Type 0} → (call : Call T) (r : Run T) → IsTidy r.end → HoldsNone r.end → AreSplit r → AreSplit (after_call call r)
split_called (delivering piece mark) r tidy free s = delivered_keeps (split r.past.accepted r.past.given) piece mark r.end s
split_called ending r tidy free s = ended_keeps (split r.past.accepted r.past.given) r.end s
split_called taking r tidy free s = taken_keeps (split r.past.accepted r.past.given) (any_split r.past.accepted r.past.given) r.end tidy s
split_called (commanding service name body tag mark) r tidy free s =
    split_commanded (refusal_to service name body r.end) r.past.accepted r.past.given service name body tag mark r.end free s
split_called (sending message mark) r tidy free s =
    let e = r.end in
    either_keeps (IsSplit r.past.accepted r.past.given) (is_closed e.state) e _ s
    (split_more r.past.accepted r.past.given (said (message_of message) mark ∷ []) e _ (unheld_none (λ n. n == 67) message mark refl refl refl refl) refl refl s)
split_called putting_out r tidy free s = record {
  sent = s.sent;
  waiting = s.waiting;
  parts = s.parts;
  held = s.held;
  out = ap (filter is_command) (taken_out r.past.given r.end.queued) ∙ s.out;
  commands = s.commands;
}
split_called closing r tidy free s = closed_keeps (split r.past.accepted r.past.given) r.end s
split_called draining r tidy free s =
    let e = r.end in
    either_keeps (IsSplit r.past.accepted r.past.given) (is_closed e.state) _ e (split_same r.past.accepted r.past.given e _ refl refl s) s

-- ---- The law

-- the front is that of the law
pub sent_is : {T : Type 0} → (r : Run T) → (s : AreSplit r) → sent_of r ≡ s.sent
sent_is r s =
    let waits : length s.waiting ≡ length r.end.held = sym (length-map s.waiting (λ i. i.command)) ∙ ap length s.held in
    let many : length r.past.accepted ≡ length s.sent + length s.waiting = ap length s.parts ∙ length-append s.sent s.waiting in
    let count : length r.past.accepted - length r.end.held ≡ length s.sent = omega arith in
    ap (take (length r.past.accepted - length r.end.held)) s.parts ∙ take_front s.sent s.waiting (length r.past.accepted - length r.end.held) count

pub sends_in_order : {T : Type 0} → (r : Run T) → r.past.given ++ r.end.queued ≡ r.past.queued → AreSplit r → SendsInOrder r
sends_in_order r order s = record {
  are_sent = ap (filter is_command) (sym order) ∙ s.out ∙ ap (map (λ i. i.command.outgoing)) (sym (sent_is r s));
  are_held = ap (map (λ i. i.command)) s.parts ∙ map-append (λ i. i.command) s.sent s.waiting
      ∙ ap (λ hs. hs ++ map (λ i. i.command) s.waiting) (ap (map (λ i. i.command)) (sym (sent_is r s))) ∙ ap (λ hs. map (λ i. i.command) (sent_of r) ++ hs) s.held;
}
