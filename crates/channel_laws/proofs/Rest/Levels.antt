-- The level that was told last is that of an inbox, and lets commands out unless the end is loud.
use Rattle.std.proofs.Common.{◌≡◌, ℕ, ◌+◌, ◌<◌, ◌≤◌, ◌==◌, Bool, true, false, cond, List, [], ◌∷◌, ◌++◌, length, Option, Some, None, refl, sym, ap, ◌∙◌, subst, arith}
use Rattle.std.specs.Prelude.{ℤ, pos, int_lt}
use Rattle.std.specs.List.{filter, last_or}
use Rattle.stream_escape.specs.Stream.{framed}
use Rattle.tcf_message.specs.Message.{MessageValue, command, event, final, flow, not_known, progress, spelling, IsWellFormed}
use Rattle.channel_core.specs.Arrivals.{AreSpoken, Spoken, level_after, level_by, queue_of}
use Rattle.channel_core.specs.Beginning.{new_end}
use Rattle.channel_core.specs.Closing.{farewell, is_closed}
use Rattle.channel_core.specs.EndValue.{EndValue}
use Rattle.channel_core.specs.Holding.{is_free, sent_out}
use Rattle.channel_core.specs.Level.{is_due, leveled, level_of}
use Rattle.channel_core.specs.RunLaws.{AfterAllCalls, IsFilled, first_byte, is_flow}
use Rattle.channel_core.specs.Runs.{Call, Run, after_call, after_calls, begun, closing, commanding, delivering, draining, ending, message_of, putting_out, sending, taking, unless_refused}
use Rattle.channel_core.specs.Sending.{commanded, made, sent_or_held, refusal_to}
use Rattle.channel_core.specs.Taking.{redirected, state_greeted}
use Rattle.channel_core.specs.Wire.{said}
use Rattle.channel_core.specs.declared.held.Held.{Held}
use Rattle.channel_core.specs.declared.held.Outgoing.{Outgoing}
use Rattle.channel_core.specs.declared.sending.SendRefusal.{SendRefusal}
use Rattle.channel_core.specs.declared.states.EndState.TheVariants.{Live}
use Rattle.channel_core.proofs.Commands.{AreCommands, commands_push, farewell_none, none_more, one_more, taken_out, unheld_none}
use Rattle.channel_core.proofs.Keeping.{Keeps, KeepsAny, KeepsOut, IsTidy, closed_keeps, delivered_keeps, either_keeps, ended_keeps, greeted_open, released_keeps, taken_keeps}
use Rattle.channel_core.proofs.Running.{Stands, always, stands_after, stands_at_first}
use Rattle.channel_laws.specs.Rest.{LetsCommandsOut}
use Rattle.tcf_message.proofs.TheLaws.{read_back}
use Rattle.channel_laws.proofs.Rest.Spelling.{framed_one}
use Rattle.list_laws.proofs.Lists.{last_push}
use Rattle.channel_core.proofs.Levels.{command_none}
use Rattle.channel_core.proofs.Sayable.{level_fits}

-- ---- The last level is that of an inbox

-- of one with so many messages
abbrev TellsOf : Option Outgoing → Bool → Type 0
TellsOf None is_loud = is_loud ≡ false
TellsOf (Some o) is_loud = (n : ℕ) × (o ≡ said (flow (level_of n)) None) × (is_loud ≡ int_lt (pos 0) (level_of n))

record IsTold {T : Type 0} (given : List Outgoing) (e : EndValue T) : Type 0 where
  told : TellsOf (last_or None (filter is_flow (given ++ e.queued))) e.is_loud
  commands : AreCommands e.held

-- no level is told
told_more : {T : Type 0} → (given more : List Outgoing) (e next : EndValue T) → filter is_flow more ≡ [] → next.queued ≡ e.queued ++ more → next.is_loud ≡ e.is_loud → AreCommands next.held → IsTold given e
    → IsTold given next
told_more given more e next none queued loud commands i = record {
  told =
      let P : List Outgoing → Type 0 = λ os. TellsOf (last_or None (filter is_flow (given ++ os))) next.is_loud in
      let Q : List Outgoing → Type 0 = λ os. TellsOf (last_or None os) next.is_loud in
      let R : Bool → Type 0 = λ b. TellsOf (last_or None (filter is_flow (given ++ e.queued))) b in
      subst P (sym queued) (subst Q (sym (none_more is_flow given e.queued more none)) (subst R (sym loud) i.told));
  commands = commands;
}

told_same : {T : Type 0} → (given : List Outgoing) (e next : EndValue T) → next.queued ≡ e.queued → next.is_loud ≡ e.is_loud → AreCommands next.held → IsTold given e → IsTold given next
told_same given e next queued loud commands i = record {
  told =
      let P : List Outgoing → Type 0 = λ os. TellsOf (last_or None (filter is_flow (given ++ os))) next.is_loud in
      let R : Bool → Type 0 = λ b. TellsOf (last_or None (filter is_flow (given ++ e.queued))) b in
      subst P (sym queued) (subst R (sym loud) i.told);
  commands = commands;
}

told_level : {T : Type 0} → (given : List Outgoing) (e : EndValue T) → IsTold given e → IsTold given (leveled e)
told_level given e i = either_keeps (IsTold given) (is_due e.is_loud (level_of (length e.inbox))) _ e
    (record {
      told =
          let o = said (flow (level_of (length e.inbox))) None in
          let last : last_or None (filter is_flow (given ++ (e.queued ++ o ∷ []))) ≡ Some o = ap (last_or None) (one_more is_flow given e.queued o refl) ∙ last_push None (filter is_flow (given ++ e.queued)) o in
          let P : Option Outgoing → Type 0 = λ x. TellsOf x (int_lt (pos 0) (level_of (length e.inbox))) in
          subst P (sym last) (length e.inbox, refl, refl);
      commands = i.commands;
    })
    i

told_out : {T : Type 0} → (given : List Outgoing) → KeepsOut {T = T} (IsTold given)
told_out given e h held is opened i =
    let each = subst AreCommands is i.commands in
    either_keeps (IsTold given) h.is_redirect _ _
    (told_more given (h.outgoing ∷ []) e _ (command_none h each.0) refl refl each.1 i)
    (told_more given (h.outgoing ∷ []) e _ (command_none h each.0) refl refl each.1 i)

told_redirects : {T : Type 0} → (given : List Outgoing) (e : EndValue T) (done : Bool) → IsTold given e → IsTold given (redirected done e)
told_redirects given e true i = told_same given e (record e { redirect = None }) refl refl i.commands i
told_redirects given e false i =
    let next = record e { redirect = None; state = Live } in released_keeps (told_out given) next refl (told_same given e next refl refl i.commands i)

tellings : {T : Type 0} → (given : List Outgoing) → Keeps {T = T} (IsTold given)
tellings given = record {
  feeds = λ e stream came i. told_same given e _ refl refl i.commands i;
  stops = λ e cause opened i. told_same given e _ refl refl i.commands i;
  hears = λ e level opened i. let next = record e { told = level } in released_keeps (told_out given) next opened (told_same given e next refl refl i.commands i);
  enters = λ e arrived opened i. let next = record e { inbox = e.inbox ++ arrived ∷ [] } in told_level given next (told_same given e next refl refl i.commands i);
  leaves = λ e arrived inbox is opened i. let next = record e { inbox = inbox } in told_level given next (told_same given e next refl refl i.commands i);
  greets = λ e opened i. let next = record e { state = state_greeted e.state e.redirect } in
      released_keeps (told_out given) next (greeted_open e.state e.redirect opened) (told_same given e next refl refl i.commands i);
  redirects = λ e done opened i. told_redirects given e done i;
  closes = λ e cause opened i. told_more given (farewell cause) e _ (farewell_none is_flow cause refl) refl refl i.commands i;
}

any_told : {T : Type 0} → (given : List Outgoing) → KeepsAny {T = T} (IsTold given)
any_told given e pending i = told_same given e (record e { pending = pending }) refl refl i.commands i

told_put : {T : Type 0} → (flag : Bool) (given : List Outgoing) (h : Held) (e : EndValue T) → first_byte h.outgoing.bytes ≡ 67 → IsTold given e → IsTold given (cond flag (sent_out h e) (record e { held = e.held ++ h ∷ [] }))
told_put true given h e letter i =
    either_keeps (IsTold given) h.is_redirect _ _
    (told_more given (h.outgoing ∷ []) e _ (command_none h letter) refl refl i.commands i)
    (told_more given (h.outgoing ∷ []) e _ (command_none h letter) refl refl i.commands i)
told_put false given h e letter i = told_same given e _ refl refl (commands_push e.held h letter i.commands) i

told_commanded : {T : Type 0} → (refusal : Option SendRefusal) (given : List Outgoing) (service name body : List ℕ) (tag : T) (mark : Option ℕ) (e : EndValue T) → IsTold given e
    → IsTold given (unless_refused refusal e (commanded service name body tag mark e))
told_commanded (Some why) given service name body tag mark e i = i
told_commanded None given service name body tag mark e i =
    let h = made (e.last + 1) service name body mark in
    let put = told_put (is_free e) given h e refl i in told_same given (sent_or_held h e) _ refl refl put.commands put

-- ---- Every call

abbrev IsToldRun : {T : Type 0} → Run T → Type 0
IsToldRun r = IsTold r.past.given r.end

told_called : {T : Type 0} → (call : Call T) (r : Run T) → IsTidy r.end → IsToldRun r → IsToldRun (after_call call r)
told_called (delivering piece mark) r tidy i = delivered_keeps (tellings r.past.given) piece mark r.end i
told_called ending r tidy i = ended_keeps (tellings r.past.given) r.end i
told_called taking r tidy i = taken_keeps (tellings r.past.given) (any_told r.past.given) r.end tidy i
told_called (commanding service name body tag mark) r tidy i = told_commanded (refusal_to service name body r.end) r.past.given service name body tag mark r.end i
told_called (sending message mark) r tidy i =
    let e = r.end in
    either_keeps (IsTold r.past.given) (is_closed e.state) e _ i
    (told_more r.past.given (said (message_of message) mark ∷ []) e _ (unheld_none (λ n. n == 70) message mark refl refl refl refl) refl refl i.commands i)
told_called putting_out r tidy i = record {
  told = let P : List Outgoing → Type 0 = λ os. TellsOf (last_or None (filter is_flow os)) r.end.is_loud in subst P (sym (taken_out r.past.given r.end.queued)) i.told;
  commands = i.commands;
}
told_called closing r tidy i = closed_keeps (tellings r.past.given) r.end i
told_called draining r tidy i =
    let e = r.end in either_keeps (IsTold r.past.given) (is_closed e.state) _ e (told_same r.past.given e _ refl refl i.commands i) i

told_after : {T : Type 0} → (calls : List (Call T)) (r : Run T) → Stands r → IsToldRun r → IsToldRun (after_calls calls r)
told_after [] r s i = i
told_after (call ∷ calls) r s i = told_after calls (after_call call r) (stands_after call r s) (told_called call r s.tidy i)

-- ---- The level that a queue tells last

abbrev LastTells : Option Outgoing → ℤ → Type 0
LastTells None level = level ≡ pos 0
LastTells (Some o) level = (mark : Option ℕ) × IsWellFormed (flow level) × (o ≡ said (flow level) mark)

abbrev TellsOn : List Spoken → Bool → Type 0
TellsOn spoken is_ended = (o : Option Outgoing) (level : ℤ) → LastTells o level → LastTells (last_or o (filter is_flow (queue_of spoken is_ended))) (level_after level spoken)

tells_first : (m : MessageValue) (mark : Option ℕ) (spoken : List Spoken) (is_ended : Bool) (o : Option Outgoing) (level : ℤ) → IsWellFormed m → LastTells o level → TellsOn spoken is_ended
    → LastTells (last_or o (filter is_flow (said m mark ∷ queue_of spoken is_ended))) (level_after (level_by level m) spoken)
tells_first (command token service name body) mark spoken is_ended o level formed l rest = rest o level l
tells_first (final token body) mark spoken is_ended o level formed l rest = rest o level l
tells_first (progress token body) mark spoken is_ended o level formed l rest = rest o level l
tells_first (not_known token) mark spoken is_ended o level formed l rest = rest o level l
tells_first (event service name body) mark spoken is_ended o level formed l rest = rest o level l
tells_first (flow next) mark spoken is_ended o level formed l rest = rest (Some (said (flow next) mark)) next (mark, formed, refl)

tells_on : (spoken : List Spoken) (is_ended : Bool) → AreSpoken spoken → TellsOn spoken is_ended
tells_on [] false all o level l = l
tells_on [] true all o level l = l
tells_on (s ∷ spoken) is_ended all o level l = tells_first s.message s.mark spoken is_ended o level all.0 l (tells_on spoken is_ended all.1)

-- ---- Two frames with the same bytes say the same

level_one : (one other : ℤ) → IsWellFormed (flow one) → IsWellFormed (flow other) → framed (spelling (flow one)) ≡ framed (spelling (flow other)) → one ≡ other
level_one one other first second is =
    let spelled = framed_one (spelling (flow one)) (spelling (flow other)) is in
    let first_read = read_back.1 (flow one) first in
    let second_read = read_back.1 (flow other) second in
    cc

-- ---- A level is one that can be told

-- ---- The law

lets_out : (o : Option Outgoing) (level : ℤ) (is_loud : Bool) → is_loud ≡ false → TellsOf o is_loud → LastTells o level → int_lt (pos 0) level ≡ false
lets_out None level is_loud quiet t l = ap (int_lt (pos 0)) l
lets_out (Some o) level is_loud quiet t l =
    let n = t.0 in
    let bytes : framed (spelling (flow level)) ≡ framed (spelling (flow (level_of n))) = ap (λ (x : Outgoing). x.bytes) (sym l.2 ∙ t.1) in
    let same : level ≡ level_of n = level_one level (level_of n) l.1 (level_fits n, omega arith) bytes in
    ap (int_lt (pos 0)) same ∙ sym t.2 ∙ quiet

is_quiet : (is_loud : Bool) (n : ℕ) → IsFilled is_loud n → n ≤ 50 → is_loud ≡ false
is_quiet true n filled few = let many : 50 < n = filled in absurd (omega arith)
is_quiet false n filled few = refl

pub all_let_out : {T : Type 0} → AfterAllCalls {T = T} LetsCommandsOut
all_let_out {T = T} hello mark calls opened few spoken is_ended all queued =
    let first = begun (new_end {T = T} hello mark) in
    let r = after_calls calls first in
    let s = always {T = T} hello mark calls in
    let i = told_after calls first (stands_at_first hello mark) (record { told = refl; commands = tt }) in
    let quiet : r.end.is_loud ≡ false = is_quiet r.end.is_loud (length r.end.inbox) (s.leveled.inbox opened) few in
    let P : List Outgoing → Type 0 = λ os. TellsOf (last_or None (filter is_flow os)) r.end.is_loud in
    let told = subst P (s.order ∙ queued) i.told in
    lets_out (last_or None (filter is_flow (queue_of spoken is_ended))) (level_after (pos 0) spoken) r.end.is_loud quiet told (tells_on spoken is_ended all None (pos 0) refl)
