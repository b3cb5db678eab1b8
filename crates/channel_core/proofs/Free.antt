-- Where commands go out, none is held, after every call.
use Rattle.std.proofs.Common.{◌≡◌, ℕ, ◌+◌, Bool, true, false, cond, List, [], ◌∷◌, ◌++◌, length, Option, Some, None, refl, ◌∙◌}
use Rattle.channel_core.specs.Closing.{is_closed}
use Rattle.channel_core.specs.EndValue.{EndValue}
use Rattle.channel_core.specs.Holding.{is_free, let_out, released, sent_out}
use Rattle.channel_core.specs.Level.{is_due, leveled, level_of}
use Rattle.channel_core.specs.Runs.{Call, delivering, ending, taking, commanding, sending, putting_out, closing, draining, called, unless_refused}
use Rattle.channel_core.specs.Sending.{accepted, commanded, made, refusal_to}
use Rattle.channel_core.specs.Taking.{redirected, state_greeted}
use Rattle.channel_core.specs.declared.held.Held.{Held}
use Rattle.channel_core.specs.declared.sending.SendRefusal.{SendRefusal}
use Rattle.channel_core.specs.declared.states.EndState.TheVariants.{Live}
use Rattle.channel_core.proofs.Keeping.{Keeps, KeepsAny, IsTidy, delivered_keeps, ended_keeps, closed_keeps, taken_keeps, either_keeps, sent_held}

abbrev pub HoldsNone : {T : Type 0} → EndValue T → Type 0
HoldsNone e = is_free e ≡ true → e.held ≡ []

-- behind a redirect none goes out, and without one all do
let_free : {T : Type 0} → (held : List Held) (e : EndValue T) → HoldsNone (let_out held e)
let_free [] e = λ free. refl
let_free (h ∷ held) e = by_flag h.is_redirect refl (let_free held (sent_out h (record e { held = held })))
  where
    by_flag : (flag : Bool) → h.is_redirect ≡ flag → HoldsNone (let_out held (sent_out h (record e { held = held })))
        → HoldsNone (cond flag (sent_out h (record e { held = held })) (let_out held (sent_out h (record e { held = held }))))
    by_flag true is rest = rw is (λ free. absurd cc)
    by_flag false is rest = rest

released_by : {T : Type 0} → (flag : Bool) (e : EndValue T) → is_free e ≡ flag → HoldsNone (cond flag (let_out e.held e) e)
released_by true e is = let_free e.held e
released_by false e is = λ free. absurd cc

released_free : {T : Type 0} → (e : EndValue T) → HoldsNone (released e)
released_free e = released_by (is_free e) e refl

leveled_free : {T : Type 0} → (e : EndValue T) → HoldsNone e → HoldsNone (leveled e)
leveled_free e i = either_keeps HoldsNone (is_due e.is_loud (level_of (length e.inbox))) _ e i i

redirected_free : {T : Type 0} → (e : EndValue T) (done : Bool) → HoldsNone e → HoldsNone (redirected done e)
redirected_free e true i = i
redirected_free e false i = released_free (record e { redirect = None; state = Live })

free : {T : Type 0} → Keeps {T = T} HoldsNone
free = record {
  feeds = λ e stream came i. i;
  stops = λ e cause opened i. i;
  hears = λ e level opened i. released_free (record e { told = level });
  enters = λ e arrived opened i. leveled_free (record e { inbox = e.inbox ++ arrived ∷ [] }) i;
  leaves = λ e arrived inbox is opened i. leveled_free (record e { inbox = inbox }) i;
  greets = λ e opened i. released_free (record e { state = state_greeted e.state e.redirect });
  redirects = λ e done opened i. redirected_free e done i;
  closes = λ e cause opened i free. absurd cc;
}

any_free : {T : Type 0} → KeepsAny {T = T} HoldsNone
any_free e pending i = i

-- where commands go out, a new one isn't held
accepted_by : {T : Type 0} → (flag : Bool) (h : Held) (tag : T) (e : EndValue T) → is_free e ≡ flag → HoldsNone e
    → HoldsNone (accepted h tag (cond flag (sent_out h e) (record e { held = e.held ++ h ∷ [] })))
accepted_by true h tag e is i = λ later. sent_held h e ∙ i is
accepted_by false h tag e is i = λ later. absurd cc

commanded_free : {T : Type 0} → (refusal : Option SendRefusal) (service name body : List ℕ) (tag : T) (mark : Option ℕ) (e : EndValue T) → HoldsNone e
    → HoldsNone (unless_refused refusal e (commanded service name body tag mark e))
commanded_free (Some why) service name body tag mark e i = i
commanded_free None service name body tag mark e i = accepted_by (is_free e) (made (e.last + 1) service name body mark) tag e refl i

pub free_called : {T : Type 0} → (call : Call T) (e : EndValue T) → IsTidy e → HoldsNone e → HoldsNone (called call e)
free_called (delivering piece mark) e tidy i = delivered_keeps free piece mark e i
free_called ending e tidy i = ended_keeps free e i
free_called taking e tidy i = taken_keeps free any_free e tidy i
free_called (commanding service name body tag mark) e tidy i = commanded_free (refusal_to service name body e) service name body tag mark e i
free_called (sending message mark) e tidy i = either_keeps HoldsNone (is_closed e.state) e _ i i
free_called putting_out e tidy i = i
free_called closing e tidy i = closed_keeps free e i
free_called draining e tidy i = either_keeps HoldsNone (is_closed e.state) _ e i i
