-- No call of a run leaves an end spent.
use Rattle.std.proofs.Common.{◌≡◌, ℕ, ◌+◌, Bool, true, false, List, [], ◌∷◌, ◌++◌, length, Option, Some, None, refl}
use Rattle.channel_core.specs.Closing.{is_closed}
use Rattle.channel_core.specs.EndValue.{EndValue}
use Rattle.channel_core.specs.Holding.{is_free, sent_out}
use Rattle.channel_core.specs.Level.{is_due, leveled, level_of}
use Rattle.channel_core.specs.Runs.{Call, delivering, ending, taking, commanding, sending, putting_out, closing, draining, called, unless_refused}
use Rattle.channel_core.specs.Sending.{commanded, made, refusal_to}
use Rattle.channel_core.specs.Taking.{redirected, state_greeted}
use Rattle.channel_core.specs.declared.sending.SendRefusal.{SendRefusal}
use Rattle.channel_core.specs.declared.states.EndState.TheVariants.{Live}
use Rattle.channel_core.proofs.Keeping.{Keeps, KeepsAny, KeepsOut, IsTidy, delivered_keeps, ended_keeps, closed_keeps, taken_keeps, released_keeps, either_keeps, greeted_open}

abbrev pub IsFresh : {T : Type 0} → EndValue T → Type 0
IsFresh e = e.is_spent ≡ false

fresh_level : {T : Type 0} → (e : EndValue T) → IsFresh e → IsFresh (leveled e)
fresh_level e i = either_keeps IsFresh (is_due e.is_loud (level_of (length e.inbox))) _ e i i

fresh_out : {T : Type 0} → KeepsOut {T = T} IsFresh
fresh_out e h held is opened i = either_keeps IsFresh h.is_redirect _ _ i i

fresh_redirects : {T : Type 0} → (e : EndValue T) (done : Bool) → IsFresh e → IsFresh (redirected done e)
fresh_redirects e true i = i
fresh_redirects e false i = released_keeps fresh_out (record e { redirect = None; state = Live }) refl i

fresh : {T : Type 0} → Keeps {T = T} IsFresh
fresh = record {
  feeds = λ e stream came i. i;
  stops = λ e cause opened i. i;
  hears = λ e level opened i. released_keeps fresh_out (record e { told = level }) opened i;
  enters = λ e arrived opened i. fresh_level (record e { inbox = e.inbox ++ arrived ∷ [] }) i;
  leaves = λ e arrived inbox is opened i. fresh_level (record e { inbox = inbox }) i;
  greets = λ e opened i. released_keeps fresh_out (record e { state = state_greeted e.state e.redirect }) (greeted_open e.state e.redirect opened) i;
  redirects = λ e done opened i. fresh_redirects e done i;
  closes = λ e cause opened i. i;
}

any_fresh : {T : Type 0} → KeepsAny {T = T} IsFresh
any_fresh e pending i = i

fresh_commanded : {T : Type 0} → (refusal : Option SendRefusal) (service name body : List ℕ) (tag : T) (mark : Option ℕ) (e : EndValue T) → IsFresh e
    → IsFresh (unless_refused refusal e (commanded service name body tag mark e))
fresh_commanded (Some why) service name body tag mark e i = i
fresh_commanded None service name body tag mark e i =
    let h = made (e.last + 1) service name body mark in
    either_keeps IsFresh (is_free e) (sent_out h e) (record e { held = e.held ++ h ∷ [] }) (either_keeps IsFresh h.is_redirect _ _ i i) i

pub fresh_called : {T : Type 0} → (call : Call T) (e : EndValue T) → IsTidy e → IsFresh e → IsFresh (called call e)
fresh_called (delivering piece mark) e tidy i = delivered_keeps fresh piece mark e i
fresh_called ending e tidy i = ended_keeps fresh e i
fresh_called taking e tidy i = taken_keeps fresh any_fresh e tidy i
fresh_called (commanding service name body tag mark) e tidy i = fresh_commanded (refusal_to service name body e) service name body tag mark e i
fresh_called (sending message mark) e tidy i = either_keeps IsFresh (is_closed e.state) e _ i i
fresh_called putting_out e tidy i = i
fresh_called closing e tidy i = closed_keeps fresh e i
fresh_called draining e tidy i = either_keeps IsFresh (is_closed e.state) _ e i i
