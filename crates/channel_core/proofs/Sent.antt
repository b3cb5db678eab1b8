-- What is queued is what is sent, flow control, the end of the stream and commands aside.
use Rattle.std.proofs.Common.{◌≡◌, ℕ, ◌+◌, ◌==◌, Bool, true, false, not, ◌||◌, cond, List, [], ◌∷◌, ◌++◌, length, take, map, Option, Some, None, refl, sym, ap, ◌∙◌, subst, append_assoc, append-nil}
use Rattle.std.specs.List.{filter, list_any}
use Rattle.std.proofs.Math.Seq.{take-nil}
use Rattle.std.proofs.lemmas.Bool.{or_parts}
use Rattle.tcf_message.specs.Message.{event, flow}
use Rattle.channel_core.specs.Beginning.{new_end}
use Rattle.channel_core.specs.Closing.{farewell, is_closed}
use Rattle.channel_core.specs.EndValue.{EndValue}
use Rattle.channel_core.specs.Holding.{is_free, sent_out}
use Rattle.channel_core.specs.Level.{is_due, leveled, level_of}
use Rattle.channel_core.specs.QueueLaws.{QueuesItsMessages, QueuesNoCommand, QueuesWhatIsSent, is_commanding, is_message, is_plain, sent_by, sent_in}
use Rattle.channel_core.specs.Runs.{an_answer, some_progress, an_unknown, an_event, message_of, Unheld, Call, delivering, ending, taking, commanding, sending, putting_out, closing, draining, called, unless_refused, Run, after_call, after_calls, begun}
use Rattle.channel_core.specs.RunLaws.{first_byte, is_command, is_end, is_flow}
use Rattle.channel_core.specs.Sending.{commanded, made, sent_or_held, refusal_to}
use Rattle.channel_core.specs.Taking.{redirected, state_greeted}
use Rattle.channel_core.specs.Wire.{hello as hello_word, locator, said}
use Rattle.channel_core.specs.declared.held.Held.{Held}
use Rattle.channel_core.specs.declared.held.Outgoing.{Outgoing}
use Rattle.channel_core.specs.declared.sending.SendRefusal.{SendRefusal}
use Rattle.channel_core.specs.declared.states.EndState.TheVariants.{Live}
use Rattle.channel_core.proofs.Keeping.{Keeps, KeepsAny, KeepsOut, IsTidy, delivered_keeps, ended_keeps, closed_keeps, taken_keeps, released_keeps, either_keeps, greeted_open}
use Rattle.channel_core.proofs.Commands.{AreCommands, commands_push, farewell_none, none_more, one_more, taken_out}
use Rattle.channel_core.proofs.Running.{Stands, stands_after, stands_at_first, all_sent_in_order}

-- so much was queued, and what is held are commands
record HasSent {T : Type 0} (given told : List Outgoing) (e : EndValue T) : Type 0 where
  plain : filter is_plain (given ++ e.queued) ≡ told
  commands : AreCommands e.held

-- something else is queued
sent_more : {T : Type 0} → (given told more : List Outgoing) (e next : EndValue T) → filter is_plain more ≡ [] → next.queued ≡ e.queued ++ more → AreCommands next.held → HasSent given told e → HasSent given told next
sent_more given told more e next none queued commands s = record {
  plain = ap (λ os. filter is_plain (given ++ os)) queued ∙ none_more is_plain given e.queued more none ∙ s.plain;
  commands = commands;
}

sent_same : {T : Type 0} → (given told : List Outgoing) (e next : EndValue T) → next.queued ≡ e.queued → next.held ≡ e.held → HasSent given told e → HasSent given told next
sent_same given told e next queued held s = record { plain = ap (λ os. filter is_plain (given ++ os)) queued ∙ s.plain; commands = subst AreCommands (sym held) s.commands }

sent_level : {T : Type 0} → (given told : List Outgoing) (e : EndValue T) → HasSent given told e → HasSent given told (leveled e)
sent_level given told e s =
    either_keeps (HasSent given told) (is_due e.is_loud (level_of (length e.inbox))) _ e
    (sent_more given told (said (flow (level_of (length e.inbox))) None ∷ []) e _ refl refl s.commands s) s

command_none : (h : Held) → first_byte h.outgoing.bytes ≡ 67 → filter is_plain (h.outgoing ∷ []) ≡ []
command_none h letter =
    let isnt : is_plain h.outgoing ≡ false = ap (λ n. not (n == 70 || (n == 3 || n == 67))) letter in rw isnt refl

sent_going : {T : Type 0} → (given told : List Outgoing) → KeepsOut {T = T} (HasSent given told)
sent_going given told e h held is opened s =
    let each = subst AreCommands is s.commands in
    either_keeps (HasSent given told) h.is_redirect _ _
    (sent_more given told (h.outgoing ∷ []) e _ (command_none h each.0) refl each.1 s)
    (sent_more given told (h.outgoing ∷ []) e _ (command_none h each.0) refl each.1 s)

sent_redirects : {T : Type 0} → (given told : List Outgoing) (e : EndValue T) (done : Bool) → HasSent given told e → HasSent given told (redirected done e)
sent_redirects given told e true s = sent_same given told e (record e { redirect = None }) refl refl s
sent_redirects given told e false s =
    let next = record e { redirect = None; state = Live } in released_keeps (sent_going given told) next refl (sent_same given told e next refl refl s)

sents : {T : Type 0} → (given told : List Outgoing) → Keeps {T = T} (HasSent given told)
sents given told = record {
  feeds = λ e stream came s. sent_same given told e _ refl refl s;
  stops = λ e cause opened s. sent_same given told e _ refl refl s;
  hears = λ e level opened s. let next = record e { told = level } in released_keeps (sent_going given told) next opened (sent_same given told e next refl refl s);
  enters = λ e arrived opened s. let next = record e { inbox = e.inbox ++ arrived ∷ [] } in sent_level given told next (sent_same given told e next refl refl s);
  leaves = λ e arrived inbox is opened s. let next = record e { inbox = inbox } in sent_level given told next (sent_same given told e next refl refl s);
  greets = λ e opened s. let next = record e { state = state_greeted e.state e.redirect } in
      released_keeps (sent_going given told) next (greeted_open e.state e.redirect opened) (sent_same given told e next refl refl s);
  redirects = λ e done opened s. sent_redirects given told e done s;
  closes = λ e cause opened s. sent_more given told (farewell cause) e _ (farewell_none is_plain cause refl) refl s.commands s;
}

any_sent : {T : Type 0} → (given told : List Outgoing) → KeepsAny {T = T} (HasSent given told)
any_sent given told e pending s = sent_same given told e (record e { pending = pending }) refl refl s

-- ---- A command

sent_put : {T : Type 0} → (flag : Bool) (given told : List Outgoing) (h : Held) (e : EndValue T) → first_byte h.outgoing.bytes ≡ 67 → HasSent given told e
    → HasSent given told (cond flag (sent_out h e) (record e { held = e.held ++ h ∷ [] }))
sent_put true given told h e letter s =
    either_keeps (HasSent given told) h.is_redirect _ _
    (sent_more given told (h.outgoing ∷ []) e _ (command_none h letter) refl s.commands s)
    (sent_more given told (h.outgoing ∷ []) e _ (command_none h letter) refl s.commands s)
sent_put false given told h e letter s = record { plain = s.plain; commands = commands_push e.held h letter s.commands }

sent_commanded : {T : Type 0} → (refusal : Option SendRefusal) (given told : List Outgoing) (service name body : List ℕ) (tag : T) (mark : Option ℕ) (e : EndValue T) → HasSent given told e
    → HasSent given told (unless_refused refusal e (commanded service name body tag mark e))
sent_commanded (Some why) given told service name body tag mark e s = s
sent_commanded None given told service name body tag mark e s =
    let h = made (e.last + 1) service name body mark in
    sent_same given told (sent_or_held h e) _ refl refl (sent_put (is_free e) given told h e refl s)

-- ---- Every call

unheld_plain : (message : Unheld) (mark : Option ℕ) → is_plain (said (message_of message) mark) ≡ true
unheld_plain (an_answer token body) mark = refl
unheld_plain (some_progress token body) mark = refl
unheld_plain (an_unknown token) mark = refl
unheld_plain (an_event service name body) mark = refl

sent_by_flag : {T : Type 0} → (flag : Bool) (given told : List Outgoing) (o : Outgoing) (e : EndValue T) → is_plain o ≡ true → HasSent given told e
    → HasSent given (told ++ cond flag [] (o ∷ [])) (cond flag e (record e { queued = e.queued ++ o ∷ [] }))
sent_by_flag true given told o e passes s = record { plain = s.plain ∙ sym (append-nil told); commands = s.commands }
sent_by_flag false given told o e passes s = record {
  plain = one_more is_plain given e.queued o passes ∙ ap (λ os. os ++ o ∷ []) s.plain;
  commands = s.commands;
}

abbrev IsSentRun : {T : Type 0} → List Outgoing → Run T → Type 0
IsSentRun told r = HasSent r.past.given told r.end

nothing_more : {T : Type 0} → (given told : List Outgoing) (e : EndValue T) → HasSent given told e → HasSent given (told ++ []) e
nothing_more given told e s = record { plain = s.plain ∙ sym (append-nil told); commands = s.commands }

sent_called : {T : Type 0} → (call : Call T) (told : List Outgoing) (r : Run T) → IsTidy r.end → IsSentRun told r → IsSentRun (told ++ sent_by call r.end) (after_call call r)
sent_called (delivering piece mark) told r tidy s =
    nothing_more r.past.given told (called (delivering piece mark) r.end) (delivered_keeps (sents r.past.given told) piece mark r.end s)
sent_called ending told r tidy s = nothing_more r.past.given told (called ending r.end) (ended_keeps (sents r.past.given told) r.end s)
sent_called taking told r tidy s =
    nothing_more r.past.given told (called taking r.end) (taken_keeps (sents r.past.given told) (any_sent r.past.given told) r.end tidy s)
sent_called (commanding service name body tag mark) told r tidy s =
    nothing_more r.past.given told (called (commanding service name body tag mark) r.end)
    (sent_commanded (refusal_to service name body r.end) r.past.given told service name body tag mark r.end s)
sent_called (sending message mark) told r tidy s =
    sent_by_flag (is_closed r.end.state) r.past.given told (said (message_of message) mark) r.end (unheld_plain message mark) s
sent_called putting_out told r tidy s = record {
  plain = ap (filter is_plain) (taken_out r.past.given r.end.queued) ∙ s.plain ∙ sym (append-nil told);
  commands = s.commands;
}
sent_called closing told r tidy s = nothing_more r.past.given told (called closing r.end) (closed_keeps (sents r.past.given told) r.end s)
sent_called draining told r tidy s =
    let e = r.end in
    nothing_more r.past.given told (called draining e) (either_keeps (HasSent r.past.given told) (is_closed e.state) _ e (sent_same r.past.given told e _ refl refl s) s)

sent_all : {T : Type 0} → (calls : List (Call T)) (told : List Outgoing) (r : Run T) → Stands r → IsSentRun told r
    → filter is_plain (after_calls calls r).past.queued ≡ told ++ sent_in calls r.end
sent_all [] told r stands s = ap (filter is_plain) (sym stands.order) ∙ s.plain ∙ sym (append-nil told)
sent_all (call ∷ calls) told r stands s =
    sent_all calls (told ++ sent_by call r.end) (after_call call r) (stands_after call r stands) (sent_called call told r stands.tidy s)
    ∙ append_assoc told (sent_by call r.end) (sent_in calls (called call r.end))

pub all_what_is_sent : {T : Type 0} → QueuesWhatIsSent T
all_what_is_sent {T = T} hello mark calls =
    let first : List Outgoing = said (event locator hello_word hello) mark ∷ [] in
    sent_all calls first (begun (new_end {T = T} hello mark)) (stands_at_first hello mark) (record { plain = refl; commands = tt })

-- ---- No command

none_accepted : {T : Type 0} → (call : Call T) (r : Run T) → is_commanding call ≡ false → (after_call call r).past.accepted ≡ r.past.accepted
none_accepted (delivering piece mark) r isnt = refl
none_accepted ending r isnt = refl
none_accepted taking r isnt = refl
none_accepted (commanding service name body tag mark) r isnt = absurd cc
none_accepted (sending message mark) r isnt = refl
none_accepted putting_out r isnt = refl
none_accepted closing r isnt = refl
none_accepted draining r isnt = refl

none_accepted_in : {T : Type 0} → (calls : List (Call T)) (r : Run T) → list_any is_commanding calls ≡ false → (after_calls calls r).past.accepted ≡ r.past.accepted
none_accepted_in [] r none = refl
none_accepted_in (call ∷ calls) r none =
    let parts = or_parts (is_commanding call) (list_any is_commanding calls) none in
    none_accepted_in calls (after_call call r) parts.1 ∙ none_accepted call r parts.0

take_none : {A : Type 0} → (n : ℕ) (xs : List A) → xs ≡ [] → take n xs ≡ []
take_none n xs is = ap (take n) is ∙ take-nil n

pub all_without_commands : {T : Type 0} → QueuesNoCommand T
all_without_commands {T = T} hello mark calls none =
    let r = after_calls calls (begun (new_end {T = T} hello mark)) in
    let accepted : r.past.accepted ≡ [] = none_accepted_in calls (begun (new_end hello mark)) none in
    (all_sent_in_order hello mark calls).are_sent ∙ ap (map (λ i. i.command.outgoing)) (take_none _ r.past.accepted accepted)

-- where there is no command, the others are all messages
without : (os : List Outgoing) → filter is_command os ≡ [] → filter is_message os ≡ filter is_plain os
without [] none = refl
without (o ∷ os) none = by_flags (is_flow o) (is_end o) (is_command o) none (without os)
  where
    by_flags : (flows ends commands : Bool) → cond commands (o ∷ filter is_command os) (filter is_command os) ≡ [] → (filter is_command os ≡ [] → filter is_message os ≡ filter is_plain os)
        → cond (not (flows || ends)) (o ∷ filter is_message os) (filter is_message os) ≡ cond (not (flows || (ends || commands))) (o ∷ filter is_plain os) (filter is_plain os)
    by_flags flows ends true is rest = absurd cc
    by_flags true ends false is rest = rest is
    by_flags false true false is rest = rest is
    by_flags false false false is rest = ap (λ xs. o ∷ xs) (rest is)

pub all_its_messages : {T : Type 0} → QueuesItsMessages T
all_its_messages {T = T} hello mark calls none =
    without (after_calls calls (begun (new_end {T = T} hello mark))).past.queued (all_without_commands hello mark calls none) ∙ all_what_is_sent hello mark calls
