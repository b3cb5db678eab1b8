-- The level that was told last, and how full the inbox is.
use Rattle.std.proofs.Common.{◌≡◌, ℕ, suc, ◌+◌, ◌-◌, ◌<◌, ◌≤◌, ◌==◌, Bool, true, false, cond, nat_lt, List, [], ◌∷◌, ◌++◌, length, Option, Some, None, refl, sym, ap, ◌∙◌, subst, arith, ltb-true, ltb-false}
use Rattle.std.specs.Prelude.{ℤ, pos, negsuc, neg_ℤ, int_lt, int_le}
use Rattle.std.specs.List.{filter, last_or}
use Rattle.std.proofs.lemmas.Int.{ints}
use Rattle.tcf_message.specs.Message.{flow}
use Rattle.channel_core.specs.Closing.{farewell, is_closed}
use Rattle.channel_core.specs.EndValue.{EndValue}
use Rattle.channel_core.specs.Holding.{is_free, sent_out}
use Rattle.channel_core.specs.Level.{is_due, leveled, level_of}
use Rattle.channel_core.specs.Runs.{message_of, Call, delivering, ending, taking, commanding, sending, putting_out, closing, draining, unless_refused, Run, after_call}
use Rattle.channel_core.specs.RunLaws.{first_byte, is_flow, TellsLoud, IsFilled, IsLoudAsTold}
use Rattle.channel_core.specs.Sending.{commanded, made, sent_or_held, refusal_to}
use Rattle.channel_core.specs.Taking.{redirected, state_greeted}
use Rattle.channel_core.specs.Wire.{said}
use Rattle.channel_core.specs.declared.held.Held.{Held}
use Rattle.channel_core.specs.declared.held.Outgoing.{Outgoing}
use Rattle.channel_core.specs.declared.sending.SendRefusal.{SendRefusal}
use Rattle.channel_core.specs.declared.states.EndState.TheVariants.{Live}
use Rattle.channel_core.proofs.Keeping.{Keeps, KeepsAny, KeepsOut, IsTidy, delivered_keeps, ended_keeps, closed_keeps, taken_keeps, released_keeps, either_keeps, greeted_open}
use Rattle.channel_core.proofs.Tidy.{accepted_open}
use Rattle.channel_core.proofs.Commands.{AreCommands, commands_push, none_more, one_more, taken_out, unheld_none, farewell_none}
use Rattle.list_laws.proofs.Lists.{last_push}

-- ---- The level of an inbox

-- where a level is told, the inbox is as full as it tells; where none is, it is as full as the last one told
abbrev FilledBy : Bool → ℤ → ℕ → Type 0
FilledBy loud level n = IsFilled (cond (is_due loud level) (int_lt (pos 0) level) loud) n

filled_over : (loud : Bool) (n : ℕ) → 200 < n → FilledBy loud (pos 100) n
filled_over true n over = omega arith
filled_over false n over = omega arith

filled_low : (loud : Bool) (n k : ℕ) → n + k + 1 ≡ 100 → FilledBy loud (negsuc k) n
filled_low false n k is = omega arith
filled_low true n k is = by_test (int_le (negsuc k) (neg_ℤ (pos 50))) refl
  where
    by_test : (flag : Bool) → int_le (negsuc k) (neg_ℤ (pos 50)) ≡ flag → IsFilled (cond flag (int_lt (pos 0) (negsuc k)) true) n
    by_test true e = omega arith
    by_test false e = let over : 50 < n = grind (arith, ints) in over

filled_high : (loud : Bool) (n k : ℕ) → n ≡ 100 + k → FilledBy loud (pos k) n
filled_high true n k is = omega arith
filled_high false n k is = by_test (int_lt (pos 0) (pos k)) refl
  where
    by_test : (flag : Bool) → int_lt (pos 0) (pos k) ≡ flag → IsFilled (cond flag (int_lt (pos 0) (pos k)) false) n
    by_test true e = rw e (omega arith)
    by_test false e = let low : n ≤ 100 = grind (arith, ints) in low

level_filled : (loud : Bool) (n : ℕ) → FilledBy loud (level_of n) n
level_filled loud n = by_over (nat_lt 200 n) refl
  where
    by_low : (flag : Bool) → nat_lt n 100 ≡ flag → FilledBy loud (cond flag (neg_ℤ (pos (100 - n))) (pos (n - 100))) n
    by_low true e =
        let less : n < 100 = ltb-true n 100 e in
        let is : 100 - n ≡ suc (99 - n) = omega arith in
        let P : ℕ → Type 0 = λ m. FilledBy loud (neg_ℤ (pos m)) n in
        subst P (sym is) (filled_low loud n (99 - n) (omega arith))
    by_low false e = let more : 100 ≤ n = ltb-false n 100 e in filled_high loud n (n - 100) (omega arith)

    by_over : (flag : Bool) → nat_lt 200 n ≡ flag → FilledBy loud (cond flag (pos 100) (cond (nat_lt n 100) (neg_ℤ (pos (100 - n))) (pos (n - 100)))) n
    by_over true e = filled_over loud n (ltb-true 200 n e)
    by_over false e = by_low (nat_lt n 100) refl

-- ---- The last level that was told

pub record IsLeveled {T : Type 0} (given : List Outgoing) (e : EndValue T) : Type 0 where
  pub told : TellsLoud (last_or None (filter is_flow (given ++ e.queued))) e.is_loud
  pub inbox : is_closed e.state ≡ false → IsFilled e.is_loud (length e.inbox)
  pub commands : AreCommands e.held

-- no level is told
leveled_told : (given queue more : List Outgoing) (loud : Bool) → filter is_flow more ≡ [] → TellsLoud (last_or None (filter is_flow (given ++ queue))) loud
    → TellsLoud (last_or None (filter is_flow (given ++ (queue ++ more)))) loud
leveled_told given queue more loud none t =
    let P : List Outgoing → Type 0 = λ os. TellsLoud (last_or None os) loud in subst P (sym (none_more is_flow given queue more none)) t

-- and the inbox stays
leveled_more : {T : Type 0} → (given more : List Outgoing) (e next : EndValue T) → filter is_flow more ≡ [] → next.queued ≡ e.queued ++ more → next.is_loud ≡ e.is_loud
    → (is_closed next.state ≡ false → IsFilled next.is_loud (length next.inbox)) → AreCommands next.held → IsLeveled given e → IsLeveled given next
leveled_more given more e next none queued loud inbox commands i = record {
  told = let P : List Outgoing → Type 0 = λ os. TellsLoud (last_or None (filter is_flow (given ++ os))) next.is_loud in
      subst P (sym queued) (leveled_told given e.queued more next.is_loud none (subst (λ (b : Bool). TellsLoud (last_or None (filter is_flow (given ++ e.queued))) b) (sym loud) i.told));
  inbox = inbox;
  commands = commands;
}

-- only what tells nothing of the level changes
leveled_same : {T : Type 0} → (given : List Outgoing) (e next : EndValue T) → next.queued ≡ e.queued → next.is_loud ≡ e.is_loud
    → (is_closed next.state ≡ false → IsFilled next.is_loud (length next.inbox)) → AreCommands next.held → IsLeveled given e → IsLeveled given next
leveled_same given e next queued loud inbox commands i = record {
  told = let P : List Outgoing → Type 0 = λ os. TellsLoud (last_or None (filter is_flow (given ++ os))) next.is_loud in
      subst P (sym queued) (subst (λ (b : Bool). TellsLoud (last_or None (filter is_flow (given ++ e.queued))) b) (sym loud) i.told);
  inbox = inbox;
  commands = commands;
}

-- after the inbox has changed
level_by : {T : Type 0} → (flag : Bool) (level : ℤ) (given : List Outgoing) (e : EndValue T) → is_due e.is_loud level ≡ flag → TellsLoud (last_or None (filter is_flow (given ++ e.queued))) e.is_loud
    → IsFilled (cond flag (int_lt (pos 0) level) e.is_loud) (length e.inbox) → AreCommands e.held
    → IsLeveled given (cond flag (record e { queued = e.queued ++ said (flow level) None ∷ []; is_loud = int_lt (pos 0) level }) e)
level_by true level given e is told filled commands = record {
  told = let last : last_or None (filter is_flow (given ++ (e.queued ++ said (flow level) None ∷ []))) ≡ Some (said (flow level) None) =
      ap (last_or None) (one_more is_flow given e.queued (said (flow level) None) refl) ∙ last_push None (filter is_flow (given ++ e.queued)) (said (flow level) None) in
      let P : Option Outgoing → Type 0 = λ o. TellsLoud o (int_lt (pos 0) level) in
      subst P (sym last) (level, refl, refl);
  inbox = λ _. filled;
  commands = commands;
}
level_by false level given e is told filled commands = record { told = told; inbox = λ _. filled; commands = commands }

level_keeps : {T : Type 0} → (given : List Outgoing) (e : EndValue T) → TellsLoud (last_or None (filter is_flow (given ++ e.queued))) e.is_loud → AreCommands e.held → IsLeveled given (leveled e)
level_keeps given e told commands =
    let level = level_of (length e.inbox) in
    level_by (is_due e.is_loud level) level given e refl told (level_filled e.is_loud (length e.inbox)) commands

-- ---- Every call

pub command_none : (h : Held) → first_byte h.outgoing.bytes ≡ 67 → filter is_flow (h.outgoing ∷ []) ≡ []
command_none h letter = let isnt : is_flow h.outgoing ≡ false = ap (λ n. n == 70) letter in rw isnt refl

level_out : {T : Type 0} → (given : List Outgoing) → KeepsOut {T = T} (IsLeveled given)
level_out given e h held is opened i =
    let each = subst AreCommands is i.commands in
    let full = i.inbox opened in
    either_keeps (IsLeveled given) h.is_redirect _ _
    (leveled_more given (h.outgoing ∷ []) e _ (command_none h each.0) refl refl (λ _. full) each.1 i)
    (leveled_more given (h.outgoing ∷ []) e _ (command_none h each.0) refl refl (λ _. full) each.1 i)

level_redirects : {T : Type 0} → (given : List Outgoing) (e : EndValue T) (done : Bool) → is_closed e.state ≡ false → IsLeveled given e → IsLeveled given (redirected done e)
level_redirects given e true opened i = leveled_same given e (record e { redirect = None }) refl refl i.inbox i.commands i
level_redirects given e false opened i =
    let next = record e { redirect = None; state = Live } in
    let full = i.inbox opened in
    released_keeps (level_out given) next refl (leveled_same given e next refl refl (λ _. full) i.commands i)

levels : {T : Type 0} → (given : List Outgoing) → Keeps {T = T} (IsLeveled given)
levels given = record {
  feeds = λ e stream came i. leveled_same given e _ refl refl i.inbox i.commands i;
  stops = λ e cause opened i. leveled_same given e _ refl refl i.inbox i.commands i;
  hears = λ e level opened i. let next = record e { told = level } in released_keeps (level_out given) next opened (leveled_same given e next refl refl i.inbox i.commands i);
  enters = λ e arrived opened i. level_keeps given (record e { inbox = e.inbox ++ arrived ∷ [] }) i.told i.commands;
  leaves = λ e arrived inbox is opened i. level_keeps given (record e { inbox = inbox }) i.told i.commands;
  greets = λ e opened i. let next = record e { state = state_greeted e.state e.redirect } in
      let full = i.inbox opened in
      released_keeps (level_out given) next (greeted_open e.state e.redirect opened) (leveled_same given e next refl refl (λ _. full) i.commands i);
  redirects = λ e done opened i. level_redirects given e done opened i;
  closes = λ e cause opened i. leveled_more given (farewell cause) e _ (farewell_none is_flow cause refl) refl refl (λ never. absurd cc) i.commands i;
}

any_level : {T : Type 0} → (given : List Outgoing) → KeepsAny {T = T} (IsLeveled given)
any_level given e pending i = leveled_same given e (record e { pending = pending }) refl refl i.inbox i.commands i

level_put : {T : Type 0} → (flag : Bool) (given : List Outgoing) (h : Held) (e : EndValue T) → first_byte h.outgoing.bytes ≡ 67 → is_closed e.state ≡ false → IsLeveled given e
    → IsLeveled given (cond flag (sent_out h e) (record e { held = e.held ++ h ∷ [] }))
level_put true given h e letter opened i =
    let full = i.inbox opened in
    either_keeps (IsLeveled given) h.is_redirect _ _
    (leveled_more given (h.outgoing ∷ []) e _ (command_none h letter) refl refl (λ _. full) i.commands i)
    (leveled_more given (h.outgoing ∷ []) e _ (command_none h letter) refl refl (λ _. full) i.commands i)
level_put false given h e letter opened i = leveled_same given e _ refl refl i.inbox (commands_push e.held h letter i.commands) i

level_commanded : {T : Type 0} → (refusal : Option SendRefusal) (given : List Outgoing) (service name body : List ℕ) (tag : T) (mark : Option ℕ) (e : EndValue T) → refusal_to service name body e ≡ refusal
    → IsLeveled given e → IsLeveled given (unless_refused refusal e (commanded service name body tag mark e))
level_commanded (Some why) given service name body tag mark e is i = i
level_commanded None given service name body tag mark e is i =
    let h = made (e.last + 1) service name body mark in
    let put = level_put (is_free e) given h e refl (accepted_open (length service + length name + length body) e is) i in
    leveled_same given (sent_or_held h e) _ refl refl put.inbox put.commands put

abbrev pub IsLeveledRun : {T : Type 0} → Run T → Type 0
IsLeveledRun r = IsLeveled r.past.given r.end

pub level_called : {T : Type 0} → (call : Call T) (r : Run T) → IsTidy r.end → IsLeveledRun r → IsLeveledRun (after_call call r)
level_called (delivering piece mark) r tidy i = delivered_keeps (levels r.past.given) piece mark r.end i
level_called ending r tidy i = ended_keeps (levels r.past.given) r.end i
level_called taking r tidy i = taken_keeps (levels r.past.given) (any_level r.past.given) r.end tidy i
level_called (commanding service name body tag mark) r tidy i = level_commanded (refusal_to service name body r.end) r.past.given service name body tag mark r.end refl i
level_called (sending message mark) r tidy i =
    let e = r.end in
    either_keeps (IsLeveled r.past.given) (is_closed e.state) e _ i
    (leveled_more r.past.given (said (message_of message) mark ∷ []) e _ (unheld_none (λ n. n == 70) message mark refl refl refl refl) refl refl i.inbox i.commands i)
level_called putting_out r tidy i = record {
  told = let P : List Outgoing → Type 0 = λ os. TellsLoud (last_or None (filter is_flow os)) r.end.is_loud in subst P (sym (taken_out r.past.given r.end.queued)) i.told;
  inbox = i.inbox;
  commands = i.commands;
}
level_called closing r tidy i = closed_keeps (levels r.past.given) r.end i
level_called draining r tidy i =
    let e = r.end in either_keeps (IsLeveled r.past.given) (is_closed e.state) _ e (leveled_same r.past.given e _ refl refl i.inbox i.commands i) i

pub is_loud_as_told : {T : Type 0} → (r : Run T) → r.past.given ++ r.end.queued ≡ r.past.queued → IsLeveledRun r → IsLoudAsTold r
is_loud_as_told r order i = record {
  told = let P : List Outgoing → Type 0 = λ os. TellsLoud (last_or None (filter is_flow os)) r.end.is_loud in subst P order i.told;
  inbox = i.inbox;
}
