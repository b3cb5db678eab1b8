-- What is taken from the inbox keeps the commands behind a redirect back, until the redirect is released.
use Rattle.std.proofs.Common.{◌≡◌, ℕ, Bool, true, false, cond, List, [], ◌∷◌, ◌++◌, length, Option, Some, None, refl, sym, ap, ◌∙◌, subst}
use Rattle.std.specs.Prelude.{decimal, remove, slice_get}
use Rattle.std.proofs.lemmas.Bool.{eqb-true}
use Rattle.channel_core.specs.Closing.{closed_for, is_closed}
use Rattle.channel_core.specs.EndValue.{EndValue}
use Rattle.channel_core.specs.Laws.{listed}
use Rattle.channel_core.specs.Level.{is_due, leveled, level_of}
use Rattle.channel_core.specs.Runs.{Issued}
use Rattle.channel_core.specs.Taking.{answered, finished, greeted, is_of, judged, next_taken, number_at, progressed, redirected, state_greeted, stop_taken, taken_as, taken_from}
use Rattle.channel_core.specs.Wire.{answers, said_in}
use Rattle.channel_core.specs.declared.held.Arrived.{Arrived}
use Rattle.channel_core.specs.declared.held.Incoming.{Incoming}
use Rattle.channel_core.specs.declared.states.Cause.{Cause}
use Rattle.channel_core.specs.declared.states.Cause.TheVariants.{Protocol}
use Rattle.channel_core.specs.declared.states.EndState.TheVariants.{Live}
use Rattle.channel_core.specs.declared.states.Reason.TheVariants.{Early, Token}
use Rattle.channel_core.specs.Judged.{Judged, Answers, Asks, GoesOn, Greets, Stray, Tells, TooEarly}
use Rattle.channel_core.specs.declared.taking.Taken.{Taken}
use Rattle.channel_core.specs.declared.taking.Taken.TheVariants.{Closed, Final, Hello}
use Rattle.channel_laws.proofs.Redirects.Holding.{HoldsBack, level, release, same, shut, taken_more}
use Rattle.channel_laws.proofs.Redirects.Naming.{names_its_command}
use Rattle.channel_laws.proofs.Redirects.Standing.{Stands, stands_done, stands_failed, stands_greeted}

-- an end, and what was taken from it last
abbrev HoldsAfter : {T : Type 0} → List (Issued T) → List (Taken T) → Option (Taken T) × EndValue T → Type 0
HoldsAfter all taken next = HoldsBack all (taken ++ listed next.0) next.1

state_by : {T : Type 0} → (flag : Bool) (one e : EndValue T) → one.state ≡ e.state → (cond flag one e).state ≡ e.state
state_by true one e is = is
state_by false one e is = refl

leveled_open : {T : Type 0} → (e : EndValue T) → is_closed e.state ≡ false → is_closed (leveled e).state ≡ false
leveled_open e opened = ap is_closed (state_by (is_due e.is_loud (level_of (length e.inbox))) _ e refl) ∙ opened

holds_broken : {T : Type 0} → (all : List (Issued T)) (taken : List (Taken T)) (cause : Cause) (e : EndValue T) → HoldsBack all taken e
    → HoldsAfter all taken (Some (Closed cause), closed_for cause e)
holds_broken all taken cause e h = taken_more all taken (Closed cause ∷ []) _ (shut all taken cause e h)

-- ---- A Hello

holds_greeted : {T : Type 0} → (all : List (Issued T)) (taken : List (Taken T)) (incoming : Incoming) (e : EndValue T) → HoldsBack all taken e
    → HoldsBack all (taken ++ Hello incoming ∷ []) (greeted e)
holds_greeted all taken incoming e h =
    release all (taken ++ Hello incoming ∷ []) (record e { state = state_greeted e.state e.redirect }) (record {
      sent = h.sent;
      waiting = h.waiting;
      parts = h.parts;
      held = h.held;
      stands = stands_greeted e.state e.redirect taken h.sent incoming h.stands;
    })

-- ---- A final answer

-- that to the redirect
holds_redirected : {T : Type 0} → (done : Bool) (token : ℕ) (all : List (Issued T)) (taken : List (Taken T)) (tag : T) (incoming : Incoming) (e : EndValue T) → is_closed e.state ≡ false → e.redirect ≡ Some token
    → said_in incoming.raw ≡ answers (decimal token) done → HoldsBack all taken e → HoldsBack all (taken ++ Final tag incoming ∷ []) (redirected done e)
holds_redirected true token all taken tag incoming e opened is answer h =
    let P : Option ℕ → Type 0 = λ redirect. Stands e.state redirect taken h.sent in
    record {
      sent = h.sent;
      waiting = h.waiting;
      parts = h.parts;
      held = h.held;
      stands = stands_done e.state token taken h.sent tag incoming answer (subst P is h.stands);
    }
holds_redirected false token all taken tag incoming e opened is answer h =
    let P : Option ℕ → Type 0 = λ redirect. Stands e.state redirect taken h.sent in
    release all (taken ++ Final tag incoming ∷ []) (record e { redirect = None; state = Live }) (record {
      sent = h.sent;
      waiting = h.waiting;
      parts = h.parts;
      held = h.held;
      stands = stands_failed e.state token taken h.sent tag incoming opened answer (subst P is h.stands);
    })

pub redirect_is : (token : ℕ) (redirect : Option ℕ) → is_of token redirect ≡ true → redirect ≡ Some token
redirect_is token None is = absurd cc
redirect_is token (Some redirect) is = ap Some (eqb-true redirect token is)

holds_answered : {T : Type 0} → (token : ℕ) (done : Bool) (all : List (Issued T)) (taken : List (Taken T)) (tag : T) (incoming : Incoming) (e : EndValue T) → is_closed e.state ≡ false
    → said_in incoming.raw ≡ answers (decimal token) done → HoldsBack all taken e → HoldsBack all (taken ++ Final tag incoming ∷ []) (answered token done e)
holds_answered token done all taken tag incoming e opened answer h = by_flag (is_of token e.redirect) refl
  where
    by_flag : (flag : Bool) → is_of token e.redirect ≡ flag → HoldsBack all (taken ++ Final tag incoming ∷ []) (cond flag (redirected done e) e)
    by_flag true is = holds_redirected done token all taken tag incoming e opened (redirect_is token e.redirect is) answer h
    by_flag false is = taken_more all taken (Final tag incoming ∷ []) e h

holds_finished : {T : Type 0} → (number : ℕ) (incoming : Incoming) (place : ℕ) (done : Bool) (row : Option (ℕ × T)) (all : List (Issued T)) (taken : List (Taken T)) (e : EndValue T) → is_closed e.state ≡ false
    → slice_get e.pending place ≡ row → judged (said_in incoming.raw) e ≡ Answers place done → HoldsBack all taken e → HoldsAfter all taken (finished number incoming place done row e)
holds_finished number incoming place done None all taken e opened at is h = holds_broken all taken (Protocol number Token) e h
holds_finished number incoming place done (Some row) all taken e opened at is h =
    let left = record e { pending = remove e.pending place } in
    holds_answered row.0 done all taken row.1 incoming (leveled left) (leveled_open left opened) (names_its_command (said_in incoming.raw) e place done row is at)
    (level all taken left (same all taken e left refl refl refl h))

-- ---- Every message

holds_progressed : {T : Type 0} → (number : ℕ) (incoming : Incoming) (token : Option ℕ) (all : List (Issued T)) (taken : List (Taken T)) (e : EndValue T) → HoldsBack all taken e
    → HoldsAfter all taken (progressed number incoming token e)
holds_progressed number incoming None all taken e h = holds_broken all taken (Protocol number Token) e h
holds_progressed number incoming (Some token) all taken e h = taken_more all taken _ (leveled e) (level all taken e h)

holds_judged : {T : Type 0} → (number : ℕ) (incoming : Incoming) (what : Judged) (all : List (Issued T)) (taken : List (Taken T)) (e : EndValue T) → is_closed e.state ≡ false
    → judged (said_in incoming.raw) e ≡ what → HoldsBack all taken e → HoldsAfter all taken (taken_as number incoming what e)
holds_judged number incoming TooEarly all taken e opened is h = holds_broken all taken (Protocol number Early) e h
holds_judged number incoming Stray all taken e opened is h = holds_broken all taken (Protocol number Token) e h
holds_judged number incoming Greets all taken e opened is h = holds_greeted all taken incoming (leveled e) (level all taken e h)
holds_judged number incoming Tells all taken e opened is h = taken_more all taken _ (leveled e) (level all taken e h)
holds_judged number incoming Asks all taken e opened is h = taken_more all taken _ (leveled e) (level all taken e h)
holds_judged number incoming (GoesOn place) all taken e opened is h = holds_progressed number incoming (number_at place e.pending) all taken e h
holds_judged number incoming (Answers place done) all taken e opened is h = holds_finished number incoming place done (slice_get e.pending place) all taken e opened refl is h

holds_stop : {T : Type 0} → (stop : Option Cause) (all : List (Issued T)) (taken : List (Taken T)) (e : EndValue T) → HoldsBack all taken e → HoldsAfter all taken (stop_taken stop e)
holds_stop None all taken e h = taken_more all taken [] e h
holds_stop (Some cause) all taken e h = holds_broken all taken cause e h

holds_from : {T : Type 0} → (inbox : List Arrived) (all : List (Issued T)) (taken : List (Taken T)) (e : EndValue T) → is_closed e.state ≡ false → HoldsBack all taken e → HoldsAfter all taken (taken_from inbox e)
holds_from [] all taken e opened h = holds_stop e.stop all taken e h
holds_from (arrived ∷ inbox) all taken e opened h =
    let next = record e { inbox = inbox } in
    holds_judged arrived.number arrived.incoming (judged (said_in arrived.incoming.raw) next) all taken next opened refl (same all taken e next refl refl refl h)

-- from a closed end nothing is
pub holds_taken : {T : Type 0} → (all : List (Issued T)) (taken : List (Taken T)) (e : EndValue T) → (is_closed e.state ≡ true → next_taken e ≡ (None, e)) → HoldsBack all taken e
    → HoldsAfter all taken (next_taken e)
holds_taken {T = T} all taken e none h = by_flag (is_closed e.state) refl
  where
    by_flag : (flag : Bool) → is_closed e.state ≡ flag → HoldsAfter all taken (next_taken e)
    by_flag true closed =
        let P : Option (Taken T) × EndValue T → Type 0 = λ next. HoldsAfter all taken next in subst P (sym (none closed)) (taken_more all taken [] e h)
    by_flag false opened = holds_from e.inbox all taken e opened h
