-- The inbox of a closed end is empty after every call.
use Rattle.std.proofs.Common.{◌≡◌, ℕ, Bool, true, false, cond, List, [], ◌∷◌, ◌++◌, length, ◌+◌, Option, Some, None, refl, ap, ◌∙◌}
use Rattle.channel_core.specs.Closing.{is_closed}
use Rattle.channel_core.specs.EndValue.{EndValue}
use Rattle.channel_core.specs.Holding.{is_free, sent_out}
use Rattle.channel_core.specs.Level.{leveled}
use Rattle.channel_core.specs.Runs.{Call, delivering, ending, taking, commanding, sending, putting_out, closing, draining, called, unless_refused}
use Rattle.channel_core.specs.Sending.{commanded, made, refusal_of, sent_or_held, refusal_to}
use Rattle.channel_core.specs.Taking.{redirected, state_greeted}
use Rattle.channel_core.specs.declared.held.Held.{Held}
use Rattle.channel_core.specs.declared.sending.SendRefusal.{SendRefusal}
use Rattle.channel_core.specs.declared.sending.SendRefusal.TheVariants.{NotOpen}
use Rattle.channel_core.specs.declared.states.EndState.TheVariants.{Live}
use Rattle.channel_core.proofs.Keeping.{Keeps, KeepsAny, KeepsOut, IsTidy, delivered_keeps, ended_keeps, closed_keeps, taken_keeps, released_keeps, leveled_state, sent_open, closed_by, greeted_open, either_keeps}

-- one that is open has nothing to show
pub tidy_open : {T : Type 0} → (e : EndValue T) → is_closed e.state ≡ false → IsTidy e
tidy_open e opened = record { emptied = λ closed. absurd cc; stopped = λ closed. absurd cc }

pub leveled_open : {T : Type 0} → (e : EndValue T) → is_closed e.state ≡ false → is_closed (leveled e).state ≡ false
leveled_open e opened = ap is_closed (leveled_state e) ∙ opened

tidy_out : {T : Type 0} → KeepsOut {T = T} IsTidy
tidy_out e h held is opened i = tidy_open (sent_out h (record e { held = held })) (sent_open h (record e { held = held }) opened)

tidy_redirects : {T : Type 0} → (e : EndValue T) (done : Bool) → is_closed e.state ≡ false → IsTidy (redirected done e)
tidy_redirects e true opened = tidy_open (record e { redirect = None }) opened
tidy_redirects e false opened = let next = record e { redirect = None; state = Live } in released_keeps tidy_out next refl (tidy_open next refl)

tidy : {T : Type 0} → Keeps {T = T} IsTidy
tidy = record {
  feeds = λ e stream came i. record { emptied = i.emptied; stopped = i.stopped };
  stops = λ e cause opened i. tidy_open _ opened;
  hears = λ e level opened i. let next = record e { told = level } in released_keeps tidy_out next opened (tidy_open next opened);
  enters = λ e arrived opened i. let next = record e { inbox = e.inbox ++ arrived ∷ [] } in tidy_open (leveled next) (leveled_open next opened);
  leaves = λ e arrived inbox is opened i. let next = record e { inbox = inbox } in tidy_open (leveled next) (leveled_open next opened);
  greets = λ e opened i. let next = record e { state = state_greeted e.state e.redirect } in
      let still = greeted_open e.state e.redirect opened in released_keeps tidy_out next still (tidy_open next still);
  redirects = λ e done opened i. tidy_redirects e done opened;
  closes = λ e cause opened i. record { emptied = λ closed. refl; stopped = λ closed. refl };
}

any_tidy : {T : Type 0} → KeepsAny {T = T} IsTidy
any_tidy e pending i = record { emptied = i.emptied; stopped = i.stopped }

-- ---- A command that isn't refused

open_when_accepted : {T : Type 0} → (flag : Bool) (e : EndValue T) (rest : Option SendRefusal) → is_closed e.state ≡ flag → cond flag (Some NotOpen) rest ≡ None → is_closed e.state ≡ false
open_when_accepted true e rest is none = absurd cc
open_when_accepted false e rest is none = is

pub accepted_open : {T : Type 0} → (size : ℕ) (e : EndValue T) → refusal_of size e ≡ None → is_closed e.state ≡ false
accepted_open size e none = open_when_accepted (is_closed e.state) e _ refl none

pub sent_or_held_open : {T : Type 0} → (h : Held) (e : EndValue T) → is_closed e.state ≡ false → is_closed (sent_or_held h e).state ≡ false
sent_or_held_open h e opened = closed_by (is_free e) _ _ e (sent_open h e opened) opened

-- ---- Every call

tidy_commanded : {T : Type 0} → (refusal : Option SendRefusal) (service name body : List ℕ) (tag : T) (mark : Option ℕ) (e : EndValue T) → refusal_to service name body e ≡ refusal → IsTidy e
    → IsTidy (unless_refused refusal e (commanded service name body tag mark e))
tidy_commanded (Some why) service name body tag mark e is i = i
tidy_commanded None service name body tag mark e is i =
    tidy_open _ (sent_or_held_open (made (e.last + 1) service name body mark) e (accepted_open (length service + length name + length body) e is))

pub tidy_called : {T : Type 0} → (call : Call T) (e : EndValue T) → IsTidy e → IsTidy (called call e)
tidy_called (delivering piece mark) e i = delivered_keeps tidy piece mark e i
tidy_called ending e i = ended_keeps tidy e i
tidy_called taking e i = taken_keeps tidy any_tidy e i i
tidy_called (commanding service name body tag mark) e i = tidy_commanded (refusal_to service name body e) service name body tag mark e refl i
tidy_called (sending message mark) e i = either_keeps IsTidy (is_closed e.state) e _ i (record { emptied = i.emptied; stopped = i.stopped })
tidy_called putting_out e i = record { emptied = i.emptied; stopped = i.stopped }
tidy_called closing e i = closed_keeps tidy e i
tidy_called draining e i = either_keeps IsTidy (is_closed e.state) _ e (record { emptied = i.emptied; stopped = i.stopped }) i
