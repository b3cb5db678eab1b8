-- What comes to an end, and what is sent, keeps where it stands.
use Rattle.std.proofs.Common.{◌≡◌, ℕ, ◌≤◌, Bool, true, false, cond, List, [], ◌∷◌, ◌++◌, length, map, Option, Some, None, Result, Ok, Err, refl, sym, ap, ◌∙◌, subst, append_assoc, append-nil}
use Rattle.std.specs.List.{AllByRecursion}
use Rattle.std.proofs.lemmas.List.{map-append}
use Rattle.stream_escape.specs.Fed.{fed}
use Rattle.stream_escape.specs.declared.stream.Item.{Item}
use Rattle.stream_escape.specs.declared.stream.Item.TheVariants as items
use Rattle.stream_escape.specs.declared.stream.StreamFault.{StreamFault}
use Rattle.tcf_message.specs.Message.{MessageValue, command, event, final, flow, not_known, progress, reading}
use Rattle.tcf_message.specs.declared.message.MessageFault.{MessageFault}
use Rattle.channel_core.specs.Closing.{closed_for}
use Rattle.channel_core.specs.EndValue.{EndValue}
use Rattle.channel_core.specs.Holding.{is_free, let_out, released, sent_out}
use Rattle.channel_core.specs.Level.{is_due, leveled, level_of}
use Rattle.channel_core.specs.Receiving.{came_by, counted, delivered, entered, heard, is_over, item_came, stopped_by}
use Rattle.channel_core.specs.RunLaws.{is_answered}
use Rattle.channel_core.specs.Runs.{Issued, issued, unless_refused}
use Rattle.channel_core.specs.Sending.{accepted, commanded, last_token, sent_or_held}
use Rattle.channel_core.specs.declared.held.Held.{Held}
use Rattle.channel_core.specs.declared.sending.SendRefusal.{SendRefusal}
use Rattle.channel_core.specs.declared.states.Cause.{Cause}
use Rattle.channel_core.specs.declared.states.EndState.{EndState}
use Rattle.channel_core.specs.declared.states.EndState.TheVariants.{Live, Reopening}
use Rattle.channel_core.specs.declared.taking.Taken.{Taken}
use Rattle.channel_laws.proofs.Rest.Standing.{HasGreeted, IsQuiet, Stands, other_sent, redirect_sent}
use Rattle.channel_laws.proofs.Redirects.Holding.{none_waits, free_is_live, first_of, rest_of}
use Rattle.channel_core.proofs.Keeping.{either_keeps}

-- a command without an answer, whose token is a number of 64 bits
pub record IsNew {T : Type 0} (taken : List (Taken T)) (i : Issued T) : Type 0 where
  pub unanswered : is_answered taken i.command.token ≡ false
  pub fits : i.command.token ≤ last_token

abbrev pub AreNew : {T : Type 0} → List (Taken T) → List (Issued T) → Type 0
AreNew taken commands = AllByRecursion (IsNew taken) commands

-- the accepted commands are those that were sent and those that are held, which have no answer
pub record Rests {T : Type 0} (all : List (Issued T)) (taken : List (Taken T)) (e : EndValue T) : Type 0 where
  pub sent : List (Issued T)
  pub waiting : List (Issued T)
  pub parts : all ≡ sent ++ waiting
  pub held : map (λ i. i.command) waiting ≡ e.held
  pub fresh : AreNew taken waiting
  pub stands : Stands e.state e.redirect taken sent
  pub greeted : HasGreeted e.state taken

-- ---- Steps

pub same : {T : Type 0} → (all : List (Issued T)) (taken : List (Taken T)) (e next : EndValue T) → next.state ≡ e.state → next.redirect ≡ e.redirect → next.held ≡ e.held
    → Rests all taken e → Rests all taken next
same all taken e next state redirect held h =
    let P : EndState → Type 0 = λ s. Stands s next.redirect taken h.sent in
    let Q : Option ℕ → Type 0 = λ r. Stands e.state r taken h.sent in
    let G : EndState → Type 0 = λ s. HasGreeted s taken in
    record { sent = h.sent; waiting = h.waiting; parts = h.parts; held = h.held ∙ sym held; fresh = h.fresh; stands = subst P (sym state) (subst Q (sym redirect) h.stands); greeted = subst G (sym state) h.greeted }

pub shut : {T : Type 0} → (all : List (Issued T)) (taken : List (Taken T)) (cause : Cause) (e : EndValue T) → Rests all taken e → Rests all taken (closed_for cause e)
shut all taken cause e h = record { sent = h.sent; waiting = h.waiting; parts = h.parts; held = h.held; fresh = h.fresh; stands = tt; greeted = tt }

pub level : {T : Type 0} → (all : List (Issued T)) (taken : List (Taken T)) (e : EndValue T) → Rests all taken e → Rests all taken (leveled e)
level all taken e h = either_keeps (Rests all taken) (is_due e.is_loud (level_of (length e.inbox))) _ e (same all taken e _ refl refl refl h) h

-- ---- What is held goes out, up to and with the first redirect

live_stands : {T : Type 0} → (taken : List (Taken T)) (sent : List (Issued T)) (e : EndValue T) → e.state ≡ Live → Stands e.state e.redirect taken sent → (e.redirect ≡ None) × IsQuiet taken sent
live_stands taken sent e live s = let P : EndState → Type 0 = λ state. Stands state e.redirect taken sent in subst P live s

stands_live : {T : Type 0} → (taken : List (Taken T)) (sent : List (Issued T)) (e : EndValue T) → e.state ≡ Live → e.redirect ≡ None → IsQuiet taken sent → Stands e.state e.redirect taken sent
stands_live taken sent e live none q = let P : EndState → Type 0 = λ state. Stands state e.redirect taken sent in subst P (sym live) (none, q)

greeted_live : {T : Type 0} → (taken : List (Taken T)) (e : EndValue T) → e.state ≡ Live → HasGreeted e.state taken → HasGreeted Live taken
greeted_live taken e live g = let G : EndState → Type 0 = λ state. HasGreeted state taken in subst G live g

live_greeted : {T : Type 0} → (taken : List (Taken T)) (e : EndValue T) → e.state ≡ Live → HasGreeted Live taken → HasGreeted e.state taken
live_greeted taken e live g = let G : EndState → Type 0 = λ state. HasGreeted state taken in subst G (sym live) g

-- a redirect that goes out
asks : {T : Type 0} → (first : Held) (taken : List (Taken T)) (sent : List (Issued T)) (i : Issued T) → i.command ≡ first → first.is_redirect ≡ true → IsNew taken i → IsQuiet taken sent
    → Stands Reopening (Some first.token) taken (sent ++ i ∷ [])
asks {T = T} first taken sent i is redirects n q =
    let P : ℕ → Type 0 = λ token. Stands Reopening (Some token) taken (sent ++ i ∷ []) in
    subst P (ap (λ c. c.token) is) (redirect_sent taken sent i (ap (λ c. c.is_redirect) is ∙ redirects) n.unanswered n.fits q)

goes_out : {T : Type 0} → (all sent waiting : List (Issued T)) (taken : List (Taken T)) (first : Held) (held : List Held) (e : EndValue T)
    → all ≡ sent ++ waiting → map (λ i. i.command) waiting ≡ first ∷ held → AreNew taken waiting → e.redirect ≡ None → IsQuiet taken sent → HasGreeted Live taken → e.state ≡ Live
    → ((next : EndValue T) → next.held ≡ held → next.state ≡ Live → Rests all taken next → Rests all taken (let_out held next))
    → Rests all taken (let_out (first ∷ held) e)
goes_out all sent [] taken first held e parts is fresh none quiet hello live others = absurd cc
goes_out {T = T} all sent (i ∷ waiting) taken first held e parts is fresh none quiet hello live others = by_flag first.is_redirect refl
  where
    same_command : i.command ≡ first
    same_command = first_of i waiting first held is

    rest : map (λ x. x.command) waiting ≡ held
    rest = rest_of i waiting first held is

    parted : all ≡ (sent ++ i ∷ []) ++ waiting
    parted = parts ∙ sym (append_assoc sent (i ∷ []) waiting)

    redirecting : EndValue T
    redirecting = record e { held = held; queued = e.queued ++ first.outgoing ∷ []; state = Reopening; redirect = Some first.token }

    going : EndValue T
    going = record e { held = held; queued = e.queued ++ first.outgoing ∷ [] }

    by_flag : (flag : Bool) → first.is_redirect ≡ flag → Rests all taken (cond flag (cond flag redirecting going) (let_out held (cond flag redirecting going)))
    by_flag true redirects = record {
      sent = sent ++ i ∷ [];
      waiting = waiting;
      parts = parted;
      held = rest;
      fresh = fresh.1;
      stands = asks first taken sent i same_command redirects fresh.0 quiet;
      greeted = hello;
    }
    by_flag false isnt = others going refl live (record {
      sent = sent ++ i ∷ [];
      waiting = waiting;
      parts = parted;
      held = rest;
      fresh = fresh.1;
      stands = stands_live taken (sent ++ i ∷ []) going live none (other_sent taken sent i (ap (λ c. c.is_redirect) same_command ∙ isnt) fresh.0.unanswered quiet);
      greeted = live_greeted taken going live hello;
    })

out : {T : Type 0} → (all : List (Issued T)) (taken : List (Taken T)) (held : List Held) (e : EndValue T) → e.held ≡ held → e.state ≡ Live → Rests all taken e → Rests all taken (let_out held e)
out all taken [] e is live h = same all taken e (record e { held = [] }) refl refl (sym is) h
out all taken (first ∷ held) e is live h =
    let s = live_stands taken h.sent e live h.stands in
    goes_out all h.sent h.waiting taken first held e h.parts (h.held ∙ is) h.fresh s.0 s.1 (greeted_live taken e live h.greeted) live (λ next. out all taken held next)

pub release : {T : Type 0} → (all : List (Issued T)) (taken : List (Taken T)) (e : EndValue T) → Rests all taken e → Rests all taken (released e)
release all taken e h = by_flag (is_free e) refl
  where
    by_flag : (flag : Bool) → is_free e ≡ flag → Rests all taken (cond flag (let_out e.held e) e)
    by_flag true is = out all taken e.held e refl (free_is_live e is) h
    by_flag false is = h

-- ---- What comes

rests_entered : {T : Type 0} → (all : List (Issued T)) (taken : List (Taken T)) (raw : List ℕ) (mark : Option ℕ) (e : EndValue T) → Rests all taken e → Rests all taken (entered raw mark e)
rests_entered all taken raw mark e h =
    let next = record e { inbox = e.inbox ++ record { number = e.came; incoming = record { raw = raw; mark = mark } } ∷ [] } in
    level all taken next (same all taken e next refl refl refl h)

rests_heard : {T : Type 0} → (all : List (Issued T)) (taken : List (Taken T)) (raw : List ℕ) (mark : Option ℕ) (message : Result MessageValue MessageFault) (e : EndValue T) → Rests all taken e
    → Rests all taken (heard raw mark message e)
rests_heard all taken raw mark (Err fault) e h = same all taken e _ refl refl refl h
rests_heard all taken raw mark (Ok (flow told)) e h = let next = record e { told = told } in release all taken next (same all taken e next refl refl refl h)
rests_heard all taken raw mark (Ok (command token service name body)) e h = rests_entered all taken raw mark e h
rests_heard all taken raw mark (Ok (final token body)) e h = rests_entered all taken raw mark e h
rests_heard all taken raw mark (Ok (progress token body)) e h = rests_entered all taken raw mark e h
rests_heard all taken raw mark (Ok (not_known token)) e h = rests_entered all taken raw mark e h
rests_heard all taken raw mark (Ok (event service name body)) e h = rests_entered all taken raw mark e h

rests_item : {T : Type 0} → (all : List (Issued T)) (taken : List (Taken T)) (mark : Option ℕ) (item : Item) (e : EndValue T) → Rests all taken e → Rests all taken (item_came mark item e)
rests_item all taken mark (items.Message raw) e h =
    let next = record e { came = counted e.came } in rests_heard all taken raw mark (reading raw) next (same all taken e next refl refl refl h)
rests_item all taken mark items.End e h = same all taken e _ refl refl refl h

rests_came : {T : Type 0} → (all : List (Issued T)) (taken : List (Taken T)) (mark : Option ℕ) (list : List Item) (e : EndValue T) → Rests all taken e → Rests all taken (came_by mark list e)
rests_came all taken mark [] e h = h
rests_came all taken mark (item ∷ list) e h =
    rests_came all taken mark list (cond (is_over e) e (item_came mark item e)) (either_keeps (Rests all taken) (is_over e) e _ h (rests_item all taken mark item e h))

rests_stopped : {T : Type 0} → (all : List (Issued T)) (taken : List (Taken T)) (answer : Result Unit StreamFault) (e : EndValue T) → Rests all taken e → Rests all taken (stopped_by answer e)
rests_stopped all taken (Ok done) e h = h
rests_stopped all taken (Err fault) e h = either_keeps (Rests all taken) (is_over e) e _ h (same all taken e _ refl refl refl h)

pub rests_delivered : {T : Type 0} → (all : List (Issued T)) (taken : List (Taken T)) (piece : List ℕ) (mark : Option ℕ) (e : EndValue T) → Rests all taken e
    → Rests all taken (delivered piece mark e)
rests_delivered all taken piece mark e h =
    let came = fed piece e.stream in
    let next = record e { stream = came.reader } in
    rests_stopped all taken came.answer (came_by mark came.items next) (rests_came all taken mark came.items next (same all taken e next refl refl refl h))

-- ---- A new command

new_push : {T : Type 0} → (taken : List (Taken T)) (waiting : List (Issued T)) (i : Issued T) → AreNew taken waiting → IsNew taken i → AreNew taken (waiting ++ i ∷ [])
new_push taken [] i all n = (n, tt)
new_push taken (first ∷ waiting) i all n = (all.0, new_push taken waiting i all.1 n)

-- it goes out where none is held
command_goes : {T : Type 0} → (all : List (Issued T)) (taken : List (Taken T)) (i : Issued T) (e : EndValue T) → IsNew taken i → e.held ≡ [] → e.state ≡ Live → Rests all taken e
    → Rests (all ++ i ∷ []) taken (sent_out i.command e)
command_goes {T = T} all taken i e n none live h = by_flag i.command.is_redirect refl
  where
    parted : all ++ i ∷ [] ≡ (h.sent ++ i ∷ []) ++ []
    parted = ap (λ xs. xs ++ i ∷ []) (h.parts ∙ ap (λ xs. h.sent ++ xs) (none_waits h.waiting (h.held ∙ none)) ∙ append-nil h.sent) ∙ sym (append-nil (h.sent ++ i ∷ []))

    s : (e.redirect ≡ None) × IsQuiet taken h.sent
    s = live_stands taken h.sent e live h.stands

    redirecting : EndValue T
    redirecting = record e { queued = e.queued ++ i.command.outgoing ∷ []; state = Reopening; redirect = Some i.command.token }

    going : EndValue T
    going = record e { queued = e.queued ++ i.command.outgoing ∷ [] }

    by_flag : (flag : Bool) → i.command.is_redirect ≡ flag → Rests (all ++ i ∷ []) taken (cond flag redirecting going)
    by_flag true redirects = record {
      sent = h.sent ++ i ∷ [];
      waiting = [];
      parts = parted;
      held = sym none;
      fresh = tt;
      stands = asks i.command taken h.sent i refl redirects n s.1;
      greeted = greeted_live taken e live h.greeted;
    }
    by_flag false isnt = record {
      sent = h.sent ++ i ∷ [];
      waiting = [];
      parts = parted;
      held = sym none;
      fresh = tt;
      stands = stands_live taken (h.sent ++ i ∷ []) going live s.0 (other_sent taken h.sent i isnt n.unanswered s.1);
      greeted = h.greeted;
    }

-- or is held behind those that are
command_waits : {T : Type 0} → (all : List (Issued T)) (taken : List (Taken T)) (i : Issued T) (e : EndValue T) → IsNew taken i → Rests all taken e
    → Rests (all ++ i ∷ []) taken (record e { held = e.held ++ i.command ∷ [] })
command_waits all taken i e n h = record {
  sent = h.sent;
  waiting = h.waiting ++ i ∷ [];
  parts = ap (λ xs. xs ++ i ∷ []) h.parts ∙ append_assoc h.sent h.waiting (i ∷ []);
  held = map-append (λ x. x.command) h.waiting (i ∷ []) ∙ ap (λ hs. hs ++ i.command ∷ []) h.held;
  fresh = new_push taken h.waiting i h.fresh n;
  stands = h.stands;
  greeted = h.greeted;
}

command_put : {T : Type 0} → (all : List (Issued T)) (taken : List (Taken T)) (i : Issued T) (e : EndValue T) → IsNew taken i → (is_free e ≡ true → e.held ≡ []) → Rests all taken e
    → Rests (all ++ i ∷ []) taken (sent_or_held i.command e)
command_put all taken i e n none h = by_flag (is_free e) refl
  where
    by_flag : (flag : Bool) → is_free e ≡ flag → Rests (all ++ i ∷ []) taken (cond flag (sent_out i.command e) (record e { held = e.held ++ i.command ∷ [] }))
    by_flag true is = command_goes all taken i e n (none is) (free_is_live e is) h
    by_flag false is = command_waits all taken i e n h

pub rests_commanded : {T : Type 0} → (refusal : Option SendRefusal) (all : List (Issued T)) (taken : List (Taken T)) (service name body : List ℕ) (tag : T) (mark : Option ℕ) (e : EndValue T)
    → (refusal ≡ None → IsNew taken (issued service name body tag mark e)) → (is_free e ≡ true → e.held ≡ []) → Rests all taken e
    → Rests (all ++ unless_refused refusal [] (issued service name body tag mark e ∷ [])) taken (unless_refused refusal e (commanded service name body tag mark e))
rests_commanded {T = T} (Some why) all taken service name body tag mark e n none h =
    let P : List (Issued T) → Type 0 = λ xs. Rests xs taken e in subst P (sym (append-nil all)) h
rests_commanded None all taken service name body tag mark e n none h =
    let i = issued service name body tag mark e in
    same (all ++ i ∷ []) taken (sent_or_held i.command e) (accepted i.command tag (sent_or_held i.command e)) refl refl refl (command_put all taken i e (n refl) none h)
