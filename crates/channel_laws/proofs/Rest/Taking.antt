-- What is taken from the inbox keeps where the end stands.
use Rattle.std.proofs.Common.{◌≡◌, ◌≢◌, ℕ, ◌≤◌, ◌==◌, Bool, true, false, cond, List, [], ◌∷◌, ◌++◌, length, map, Option, Some, None, refl, sym, ap, ◌∙◌, subst, append-nil}
use Rattle.std.specs.Prelude.{decimal, remove, slice_get}
use Rattle.std.proofs.lemmas.Bool.{eqb-false, or_parts}
use Rattle.channel_core.specs.Closing.{closed_for, is_closed}
use Rattle.channel_core.specs.EndValue.{EndValue}
use Rattle.channel_core.specs.Greeting.{is_greeting}
use Rattle.channel_core.specs.Laws.{listed}
use Rattle.channel_core.specs.Level.{is_due, leveled, level_of}
use Rattle.channel_core.specs.RunLaws.{is_answered}
use Rattle.channel_core.specs.Runs.{Issued}
use Rattle.channel_core.specs.Sending.{last_token}
use Rattle.channel_core.specs.Taking.{answer_judged, answered, finished, greeted, is_early, is_held, is_of, judged, judged_by, next_taken, number_at, progress_judged, progressed, redirected, sent_at, sent_place, state_greeted, stop_taken, taken_as, taken_from, unless_held}
use Rattle.channel_core.specs.Wire.{Said, answers, asks, goes_on, greets, said_in, tells}
use Rattle.channel_core.specs.declared.held.Arrived.{Arrived}
use Rattle.channel_core.specs.declared.held.Held.{Held}
use Rattle.channel_core.specs.declared.held.Incoming.{Incoming}
use Rattle.channel_core.specs.declared.states.Cause.{Cause}
use Rattle.channel_core.specs.declared.states.Cause.TheVariants.{Protocol}
use Rattle.channel_core.specs.declared.states.EndState.TheVariants.{Live, Opening}
use Rattle.channel_core.specs.declared.states.Reason.TheVariants.{Early, Token}
use Rattle.channel_core.specs.Judged.{Judged, Answers, Asks, GoesOn, Greets, Stray, Tells, TooEarly}
use Rattle.channel_core.specs.declared.taking.Taken.{Taken}
use Rattle.channel_core.specs.declared.taking.Taken.TheVariants.{Closed, Command, Event, Final, Hello, Progress}
use Rattle.channel_core.proofs.Keeping.{leveled_state}
use Rattle.channel_laws.proofs.Faults.Judging.{JudgedSo, judged_so}
use Rattle.channel_laws.proofs.Redirects.Naming.{names_its_command}
use Rattle.channel_laws.specs.Rest.{does_redirect}
use Rattle.channel_laws.proofs.Rest.Resting.{AreNew, Rests, level, release, same}
use Rattle.channel_laws.proofs.Rest.Standing.{Stands, greeted_more, greeted_now, greeted_open, stands_answered, stands_done, stands_failed, stands_greeted, stands_other}
use Rattle.channel_laws.proofs.Rest.Telling.{hits_other, is_hit, unanswered_more}
use Rattle.channel_laws.proofs.Faults.Closed.{held_by}
use Rattle.channel_laws.proofs.Redirects.Taking.{redirect_is}

-- ---- The command that an answer names was sent

here_is : {T : Type 0} → (here place : ℕ) (row : Option (ℕ × T)) (held : List Held) → unless_held here row held ≡ Some place → here ≡ place
here_is here place None held is = absurd cc
here_is here place (Some row) held is = by_flag (is_held row.0 held) is
  where
    by_flag : (flag : Bool) → cond flag None (Some here) ≡ Some place → here ≡ place
    by_flag true is = absurd cc
    by_flag false is = cc

unheld_row : {T : Type 0} → (here place : ℕ) (at : Option (ℕ × T)) (row : ℕ × T) (held : List Held) → unless_held here at held ≡ Some place → at ≡ Some row → is_held row.0 held ≡ false
unheld_row here place None row held is at = absurd cc
unheld_row here place (Some other) row held is at = let same : other ≡ row = cc in ap (λ x. is_held x.0 held) (sym same) ∙ by_flag (is_held other.0 held) is
  where
    by_flag : (flag : Bool) → cond flag None (Some here) ≡ Some place → flag ≡ false
    by_flag true is = absurd cc
    by_flag false is = refl

sent_unheld : {T : Type 0} → (found : Option ℕ) (place : ℕ) (pending : List (ℕ × T)) (held : List Held) (row : ℕ × T) → sent_at found pending held ≡ Some place → slice_get pending place ≡ Some row
    → is_held row.0 held ≡ false
sent_unheld None place pending held row is at = absurd cc
sent_unheld (Some here) place pending held row is at =
    unheld_row here place (slice_get pending here) row held is (ap (slice_get pending) (here_is here place (slice_get pending here) held is) ∙ at)

no_progress : (found : Option ℕ) (place : ℕ) (done : Bool) → progress_judged found ≡ Answers place done → ⊥
no_progress None place done is = cc
no_progress (Some other) place done is = cc

is_answer : (found : Option ℕ) (other done : Bool) (place : ℕ) → answer_judged other found ≡ Answers place done → found ≡ Some place
is_answer None other done place is = absurd cc
is_answer (Some here) other done place is = let same : here ≡ place = cc in ap Some same

said_unheld : {T : Type 0} → (message : Said) (e : EndValue T) (place : ℕ) (done : Bool) (row : ℕ × T) → judged_by message e ≡ Answers place done → slice_get e.pending place ≡ Some row → is_held row.0 e.held ≡ false
said_unheld greets e place done row is at = absurd cc
said_unheld tells e place done row is at = absurd cc
said_unheld asks e place done row is at = absurd cc
said_unheld (goes_on text) e place done row is at = absurd (no_progress (sent_place text e) place done is)
said_unheld (answers text other) e place done row is at = sent_unheld _ place e.pending e.held row (is_answer (sent_place text e) other done place is) at

answer_unheld : {T : Type 0} → (message : Said) (e : EndValue T) (place : ℕ) (done : Bool) (row : ℕ × T) → judged message e ≡ Answers place done → slice_get e.pending place ≡ Some row → is_held row.0 e.held ≡ false
answer_unheld message e place done row is at = by_flag (is_early e.state message) is
  where
    by_flag : (flag : Bool) → cond flag TooEarly (judged_by message e) ≡ Answers place done → is_held row.0 e.held ≡ false
    by_flag true is = absurd cc
    by_flag false is = said_unheld message e place done row is at

-- ---- The commands that are held have no answer

new_other : {T : Type 0} → (taken : List (Taken T)) (waiting : List (Issued T)) (t : Taken T) → ((n : ℕ) → is_hit t n ≡ false) → AreNew taken waiting → AreNew (taken ++ t ∷ []) waiting
new_other taken [] t apart all = tt
new_other taken (i ∷ waiting) t apart all =
    (record { unanswered = unanswered_more taken t i.command.token all.0.unanswered (apart i.command.token); fits = all.0.fits }, new_other taken waiting t apart all.1)

new_answered : {T : Type 0} → (taken : List (Taken T)) (waiting : List (Issued T)) (held : List Held) (tag : T) (incoming : Incoming) (n : ℕ) (done : Bool) → said_in incoming.raw ≡ answers (decimal n) done → n ≤ last_token
    → map (λ i. i.command) waiting ≡ held → is_held n held ≡ false → AreNew taken waiting → AreNew (taken ++ Final tag incoming ∷ []) waiting
new_answered taken [] held tag incoming n done answer within is unheld all = tt
new_answered taken (i ∷ waiting) [] tag incoming n done answer within is unheld all = absurd cc
new_answered taken (i ∷ waiting) (first ∷ held) tag incoming n done answer within is unheld all =
    let one : i.command ≡ first = cc in
    let rest : map (λ x. x.command) waiting ≡ held = cc in
    let parts = or_parts (first.token == n) (is_held n held) unheld in
    let isnt : first.token ≢ n = eqb-false first.token n parts.0 in
    let apart : n ≢ i.command.token = λ (is : n ≡ i.command.token). isnt (sym (is ∙ ap (λ c. c.token) one)) in (
      record { unanswered = unanswered_more taken (Final tag incoming) i.command.token all.0.unanswered (hits_other tag incoming n i.command.token done answer within all.0.fits apart); fits = all.0.fits },
      new_answered taken waiting held tag incoming n done answer within rest parts.1 all.1,
    )

-- ---- An end, and what was taken from it last

abbrev RestsAfter : {T : Type 0} → List (Issued T) → List (Taken T) → Option (Taken T) × EndValue T → Type 0
RestsAfter all taken next = Rests all (taken ++ listed next.0) next.1

-- the commands that are pending have no answer, and their tokens are numbers of 64 bits
abbrev pub AreNamed : {T : Type 0} → List (Taken T) → List (ℕ × T) → Type 0
AreNamed {T} taken pending = (place : ℕ) (row : ℕ × T) → slice_get pending place ≡ Some row → (is_answered taken row.0 ≡ false) × (row.0 ≤ last_token)

rests_other : {T : Type 0} → (all : List (Issued T)) (taken : List (Taken T)) (t : Taken T) (e : EndValue T) → e.state ≢ Opening → is_greeting t ≡ false
    → ((sent : List (Issued T)) → does_redirect sent t ≡ false) → ((n : ℕ) → is_hit t n ≡ false) → Rests all taken e → Rests all (taken ++ t ∷ []) e
rests_other all taken t e begun none other apart h = record {
  sent = h.sent;
  waiting = h.waiting;
  parts = h.parts;
  held = h.held;
  fresh = new_other taken h.waiting t apart h.fresh;
  stands = stands_other e.state e.redirect taken h.sent t begun none (other h.sent) apart h.stands;
  greeted = greeted_more e.state taken (t ∷ []) h.greeted;
}

rests_broken : {T : Type 0} → (all : List (Issued T)) (taken : List (Taken T)) (cause : Cause) (e : EndValue T) → Rests all taken e → RestsAfter all taken (Some (Closed cause), closed_for cause e)
rests_broken all taken cause e h = record {
  sent = h.sent;
  waiting = h.waiting;
  parts = h.parts;
  held = h.held;
  fresh = new_other taken h.waiting (Closed cause) (λ n. refl) h.fresh;
  stands = tt;
  greeted = tt;
}

-- ---- A Hello

rests_greeted : {T : Type 0} → (all : List (Issued T)) (taken : List (Taken T)) (incoming : Incoming) (e : EndValue T) → Rests all taken e → Rests all (taken ++ Hello incoming ∷ []) (greeted e)
rests_greeted all taken incoming e h =
    release all (taken ++ Hello incoming ∷ []) (record e { state = state_greeted e.state e.redirect }) (record {
      sent = h.sent;
      waiting = h.waiting;
      parts = h.parts;
      held = h.held;
      fresh = new_other taken h.waiting (Hello incoming) (λ n. refl) h.fresh;
      stands = stands_greeted e.state e.redirect taken h.sent incoming h.stands;
      greeted = greeted_now e.state e.redirect taken incoming;
    })

-- ---- A final answer

-- the command that it names isn't held
record IsNamed {T : Type 0} (taken : List (Taken T)) (incoming : Incoming) (n : ℕ) (done : Bool) (e : EndValue T) : Type 0 where
  answer : said_in incoming.raw ≡ answers (decimal n) done
  within : n ≤ last_token
  first : is_answered taken n ≡ false
  unheld : is_held n e.held ≡ false
  opened : is_closed e.state ≡ false
  begun : e.state ≢ Opening

rests_redirected : {T : Type 0} → (done : Bool) (token : ℕ) (all : List (Issued T)) (taken : List (Taken T)) (tag : T) (incoming : Incoming) (e : EndValue T) → IsNamed taken incoming token done e → e.redirect ≡ Some token
    → Rests all taken e → Rests all (taken ++ Final tag incoming ∷ []) (redirected done e)
rests_redirected true token all taken tag incoming e n is h =
    let P : Option ℕ → Type 0 = λ redirect. Stands e.state redirect taken h.sent in
    record {
      sent = h.sent;
      waiting = h.waiting;
      parts = h.parts;
      held = h.held;
      fresh = new_answered taken h.waiting e.held tag incoming token true n.answer n.within h.held n.unheld h.fresh;
      stands = stands_done e.state token taken h.sent tag incoming n.opened n.answer (subst P is h.stands);
      greeted = greeted_more e.state taken (Final tag incoming ∷ []) h.greeted;
    }
rests_redirected false token all taken tag incoming e n is h =
    let P : Option ℕ → Type 0 = λ redirect. Stands e.state redirect taken h.sent in
    release all (taken ++ Final tag incoming ∷ []) (record e { redirect = None; state = Live }) (record {
      sent = h.sent;
      waiting = h.waiting;
      parts = h.parts;
      held = h.held;
      fresh = new_answered taken h.waiting e.held tag incoming token false n.answer n.within h.held n.unheld h.fresh;
      stands = (refl, stands_failed e.state token taken h.sent tag incoming n.opened n.answer (subst P is h.stands));
      greeted = greeted_more Live taken (Final tag incoming ∷ []) (greeted_open e.state taken n.opened n.begun h.greeted);
    })

rests_answered : {T : Type 0} → (token : ℕ) (done : Bool) (all : List (Issued T)) (taken : List (Taken T)) (tag : T) (incoming : Incoming) (e : EndValue T) → IsNamed taken incoming token done e
    → Rests all taken e → Rests all (taken ++ Final tag incoming ∷ []) (answered token done e)
rests_answered token done all taken tag incoming e n h = by_flag (is_of token e.redirect) refl
  where
    by_flag : (flag : Bool) → is_of token e.redirect ≡ flag → Rests all (taken ++ Final tag incoming ∷ []) (cond flag (redirected done e) e)
    by_flag true is = rests_redirected done token all taken tag incoming e n (redirect_is token e.redirect is) h
    by_flag false is = record {
      sent = h.sent;
      waiting = h.waiting;
      parts = h.parts;
      held = h.held;
      fresh = new_answered taken h.waiting e.held tag incoming token done n.answer n.within h.held n.unheld h.fresh;
      stands = stands_answered e.state e.redirect taken h.sent tag incoming token done n.begun is n.answer n.within n.first h.stands;
      greeted = greeted_more e.state taken (Final tag incoming ∷ []) h.greeted;
    }

leveled_held : {T : Type 0} → (e : EndValue T) → (leveled e).held ≡ e.held
leveled_held e = held_by (is_due e.is_loud (level_of (length e.inbox))) _ e e refl refl

rests_finished : {T : Type 0} → (number : ℕ) (incoming : Incoming) (place : ℕ) (done : Bool) (row : Option (ℕ × T)) (all : List (Issued T)) (taken : List (Taken T)) (e : EndValue T) → is_closed e.state ≡ false
    → e.state ≢ Opening → AreNamed taken e.pending → slice_get e.pending place ≡ row → judged (said_in incoming.raw) e ≡ Answers place done → Rests all taken e
    → RestsAfter all taken (finished number incoming place done row e)
rests_finished number incoming place done None all taken e opened begun named at is h = rests_broken all taken (Protocol number Token) e h
rests_finished number incoming place done (Some row) all taken e opened begun named at is h =
    let left = record e { pending = remove e.pending place } in
    let facts = named place row at in
    let state = leveled_state left in
    rests_answered row.0 done all taken row.1 incoming (leveled left) (record {
      answer = names_its_command (said_in incoming.raw) e place done row is at;
      within = facts.1;
      first = facts.0;
      unheld = ap (is_held row.0) (leveled_held left) ∙ answer_unheld (said_in incoming.raw) e place done row is at;
      opened = ap is_closed state ∙ opened;
      begun = λ opening. begun (sym state ∙ opening);
    }) (level all taken left (same all taken e left refl refl refl h))

-- ---- Every message

still_begun : {T : Type 0} → (e : EndValue T) → e.state ≢ Opening → (leveled e).state ≢ Opening
still_begun e begun opening = begun (sym (leveled_state e) ∙ opening)

rests_progressed : {T : Type 0} → (number : ℕ) (incoming : Incoming) (token : Option ℕ) (all : List (Issued T)) (taken : List (Taken T)) (e : EndValue T) → e.state ≢ Opening → Rests all taken e
    → RestsAfter all taken (progressed number incoming token e)
rests_progressed number incoming None all taken e begun h = rests_broken all taken (Protocol number Token) e h
rests_progressed number incoming (Some token) all taken e begun h =
    rests_other all taken (Progress token incoming) (leveled e) (still_begun e begun) refl (λ sent. refl) (λ n. refl) (level all taken e h)

rests_judged : {T : Type 0} → (number : ℕ) (incoming : Incoming) (what : Judged) (all : List (Issued T)) (taken : List (Taken T)) (e : EndValue T) → is_closed e.state ≡ false → AreNamed taken e.pending
    → judged (said_in incoming.raw) e ≡ what → JudgedSo what (said_in incoming.raw) e → Rests all taken e → RestsAfter all taken (taken_as number incoming what e)
rests_judged number incoming TooEarly all taken e opened named is so h = rests_broken all taken (Protocol number Early) e h
rests_judged number incoming Stray all taken e opened named is so h = rests_broken all taken (Protocol number Token) e h
rests_judged number incoming Greets all taken e opened named is so h = rests_greeted all taken incoming (leveled e) (level all taken e h)
rests_judged number incoming Tells all taken e opened named is so h =
    rests_other all taken (Event incoming) (leveled e) (still_begun e so) refl (λ sent. refl) (λ n. refl) (level all taken e h)
rests_judged number incoming Asks all taken e opened named is so h =
    rests_other all taken (Command incoming) (leveled e) (still_begun e so) refl (λ sent. refl) (λ n. refl) (level all taken e h)
rests_judged number incoming (GoesOn place) all taken e opened named is so h = rests_progressed number incoming (number_at place e.pending) all taken e so.greeted h
rests_judged number incoming (Answers place done) all taken e opened named is so h =
    rests_finished number incoming place done (slice_get e.pending place) all taken e opened so.greeted named refl is h

rests_none : {T : Type 0} → (all : List (Issued T)) (taken : List (Taken T)) (e : EndValue T) → Rests all taken e → RestsAfter all taken (None, e)
rests_none {T = T} all taken e h = let P : List (Taken T) → Type 0 = λ ts. Rests all ts e in subst P (sym (append-nil taken)) h

rests_stop : {T : Type 0} → (stop : Option Cause) (all : List (Issued T)) (taken : List (Taken T)) (e : EndValue T) → Rests all taken e → RestsAfter all taken (stop_taken stop e)
rests_stop None all taken e h = rests_none all taken e h
rests_stop (Some cause) all taken e h = rests_broken all taken cause e h

rests_from : {T : Type 0} → (inbox : List Arrived) (all : List (Issued T)) (taken : List (Taken T)) (e : EndValue T) → is_closed e.state ≡ false → AreNamed taken e.pending → Rests all taken e
    → RestsAfter all taken (taken_from inbox e)
rests_from [] all taken e opened named h = rests_stop e.stop all taken e h
rests_from (arrived ∷ inbox) all taken e opened named h =
    let next = record e { inbox = inbox } in
    let message = said_in arrived.incoming.raw in
    rests_judged arrived.number arrived.incoming (judged message next) all taken next opened named refl (judged_so message next) (same all taken e next refl refl refl h)

-- from a closed end nothing is
pub rests_taken : {T : Type 0} → (all : List (Issued T)) (taken : List (Taken T)) (e : EndValue T) → (is_closed e.state ≡ true → next_taken e ≡ (None, e)) → (is_closed e.state ≡ false → AreNamed taken e.pending)
    → Rests all taken e → RestsAfter all taken (next_taken e)
rests_taken {T = T} all taken e none named h = by_flag (is_closed e.state) refl
  where
    by_flag : (flag : Bool) → is_closed e.state ≡ flag → RestsAfter all taken (next_taken e)
    by_flag true closed =
        let P : Option (Taken T) × EndValue T → Type 0 = λ next. RestsAfter all taken next in subst P (sym (none closed)) (rests_none all taken e h)
    by_flag false opened = rests_from e.inbox all taken e opened (named opened) h
