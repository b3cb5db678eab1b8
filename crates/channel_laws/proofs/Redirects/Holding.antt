-- What comes to an end, and what is sent, keeps the commands behind a redirect back.
use Rattle.std.proofs.Common.{◌≡◌, ℕ, Bool, true, false, cond, not, List, [], ◌∷◌, ◌++◌, length, map, Option, Some, None, Result, Ok, Err, refl, sym, ap, ◌∙◌, subst, append_assoc, append-nil}
use Rattle.std.specs.Prelude.{pos, int_lt}
use Rattle.std.proofs.lemmas.Bool.{and_parts}
use Rattle.std.proofs.lemmas.List.{map-append}
use Rattle.stream_escape.specs.Fed.{fed}
use Rattle.stream_escape.specs.declared.stream.Item.{Item}
use Rattle.stream_escape.specs.declared.stream.Item.TheVariants as items
use Rattle.stream_escape.specs.declared.stream.StreamFault.{StreamFault}
use Rattle.tcf_message.specs.Message.{MessageValue, command, event, final, flow, not_known, progress, reading}
use Rattle.tcf_message.specs.declared.message.MessageFault.{MessageFault}
use Rattle.channel_core.specs.Closing.{closed_for}
use Rattle.channel_core.specs.EndValue.{EndValue}
use Rattle.channel_core.specs.Holding.{is_free, is_live, let_out, released, sent_out}
use Rattle.channel_core.specs.Level.{is_due, leveled, level_of}
use Rattle.channel_core.specs.Receiving.{came_by, counted, delivered, entered, heard, is_over, item_came, stopped_by}
use Rattle.channel_core.specs.Runs.{Issued, issued, unless_refused}
use Rattle.channel_core.specs.Sending.{accepted, commanded, sent_or_held}
use Rattle.channel_core.specs.declared.held.Held.{Held}
use Rattle.channel_core.specs.declared.sending.SendRefusal.{SendRefusal}
use Rattle.channel_core.specs.declared.states.Cause.{Cause}
use Rattle.channel_core.specs.declared.states.EndState.{EndState}
use Rattle.channel_core.specs.declared.states.EndState.TheVariants.{Closed, Live, Opening, Reopening}
use Rattle.channel_core.specs.declared.taking.Taken.{Taken}
use Rattle.channel_laws.proofs.Redirects.Standing.{AreReleased, Stands, other_sent, redirect_sent, stands_behind, stands_more}
use Rattle.channel_core.proofs.Keeping.{either_keeps}

-- the accepted commands are those that were sent and those that are held
pub record HoldsBack {T : Type 0} (all : List (Issued T)) (taken : List (Taken T)) (e : EndValue T) : Type 0 where
  pub sent : List (Issued T)
  pub waiting : List (Issued T)
  pub parts : all ≡ sent ++ waiting
  pub held : map (λ i. i.command) waiting ≡ e.held
  pub stands : Stands e.state e.redirect taken sent

-- ---- Steps

pub same : {T : Type 0} → (all : List (Issued T)) (taken : List (Taken T)) (e next : EndValue T) → next.state ≡ e.state → next.redirect ≡ e.redirect → next.held ≡ e.held
    → HoldsBack all taken e → HoldsBack all taken next
same all taken e next state redirect held h =
    let P : EndState → Type 0 = λ s. Stands s next.redirect taken h.sent in
    let Q : Option ℕ → Type 0 = λ r. Stands e.state r taken h.sent in
    record { sent = h.sent; waiting = h.waiting; parts = h.parts; held = h.held ∙ sym held; stands = subst P (sym state) (subst Q (sym redirect) h.stands) }

pub taken_more : {T : Type 0} → (all : List (Issued T)) (taken more : List (Taken T)) (e : EndValue T) → HoldsBack all taken e → HoldsBack all (taken ++ more) e
taken_more all taken more e h = record {
  sent = h.sent;
  waiting = h.waiting;
  parts = h.parts;
  held = h.held;
  stands = stands_more e.state e.redirect taken more h.sent h.stands;
}

pub shut : {T : Type 0} → (all : List (Issued T)) (taken : List (Taken T)) (cause : Cause) (e : EndValue T) → HoldsBack all taken e → HoldsBack all taken (closed_for cause e)
shut all taken cause e h = record { sent = h.sent; waiting = h.waiting; parts = h.parts; held = h.held; stands = stands_behind e.state e.redirect taken h.sent h.stands }

pub level : {T : Type 0} → (all : List (Issued T)) (taken : List (Taken T)) (e : EndValue T) → HoldsBack all taken e → HoldsBack all taken (leveled e)
level all taken e h = either_keeps (HoldsBack all taken) (is_due e.is_loud (level_of (length e.inbox))) _ e (same all taken e _ refl refl refl h) h

-- ---- What is held goes out, up to and with the first redirect

pub is_live_state : (state : EndState) → is_live state ≡ true → state ≡ Live
is_live_state Opening is = absurd cc
is_live_state Live is = refl
is_live_state Reopening is = absurd cc
is_live_state (Closed cause) is = absurd cc

pub free_is_live : {T : Type 0} → (e : EndValue T) → is_free e ≡ true → e.state ≡ Live
free_is_live e is = is_live_state e.state (and_parts (is_live e.state) (not (int_lt (pos 0) e.told)) is).0

all_of_live : {T : Type 0} → (taken : List (Taken T)) (sent : List (Issued T)) (e : EndValue T) → e.state ≡ Live → Stands e.state e.redirect taken sent → AreReleased taken sent
all_of_live taken sent e live s = let P : EndState → Type 0 = λ state. Stands state e.redirect taken sent in subst P live s

live_of_all : {T : Type 0} → (taken : List (Taken T)) (sent : List (Issued T)) (e : EndValue T) → e.state ≡ Live → AreReleased taken sent → Stands e.state e.redirect taken sent
live_of_all taken sent e live a = let P : EndState → Type 0 = λ state. Stands state e.redirect taken sent in subst P (sym live) a

pub first_of : {T : Type 0} → (i : Issued T) (waiting : List (Issued T)) (first : Held) (held : List Held) → map (λ x. x.command) (i ∷ waiting) ≡ first ∷ held → i.command ≡ first
first_of i waiting first held is = cc

pub rest_of : {T : Type 0} → (i : Issued T) (waiting : List (Issued T)) (first : Held) (held : List Held) → map (λ x. x.command) (i ∷ waiting) ≡ first ∷ held → map (λ x. x.command) waiting ≡ held
rest_of i waiting first held is = cc

goes_out : {T : Type 0} → (all sent waiting : List (Issued T)) (taken : List (Taken T)) (first : Held) (held : List Held) (e : EndValue T)
    → all ≡ sent ++ waiting → map (λ i. i.command) waiting ≡ first ∷ held → AreReleased taken sent → e.state ≡ Live
    → ((next : EndValue T) → next.held ≡ held → next.state ≡ Live → HoldsBack all taken next → HoldsBack all taken (let_out held next))
    → HoldsBack all taken (let_out (first ∷ held) e)
goes_out all sent [] taken first held e parts is released live others = absurd cc
goes_out {T = T} all sent (i ∷ waiting) taken first held e parts is released live others = by_flag first.is_redirect refl
  where
    same_command : i.command ≡ first
    same_command = first_of i waiting first held is

    rest : map (λ x. x.command) waiting ≡ held
    rest = rest_of i waiting first held is

    parted : all ≡ (sent ++ i ∷ []) ++ waiting
    parted = parts ∙ sym (append_assoc sent (i ∷ []) waiting)

    redirecting : EndValue T
    redirecting = record e { held = held; queued = e.queued ++ first.outgoing ∷ []; state = Reopening; redirect = Some first.token }

    going : EndValue T
    going = record e { held = held; queued = e.queued ++ first.outgoing ∷ [] }

    by_flag : (flag : Bool) → first.is_redirect ≡ flag → HoldsBack all taken (cond flag (cond flag redirecting going) (let_out held (cond flag redirecting going)))
    by_flag true redirects = record {
      sent = sent ++ i ∷ [];
      waiting = waiting;
      parts = parted;
      held = rest;
      stands = redirect_sent first.token taken sent i (ap (λ c. c.token) same_command) released;
    }
    by_flag false isnt = others going refl live (record {
      sent = sent ++ i ∷ [];
      waiting = waiting;
      parts = parted;
      held = rest;
      stands = live_of_all taken (sent ++ i ∷ []) going live (other_sent taken sent i (ap (λ c. c.is_redirect) same_command ∙ isnt) released);
    })

out : {T : Type 0} → (all : List (Issued T)) (taken : List (Taken T)) (held : List Held) (e : EndValue T) → e.held ≡ held → e.state ≡ Live → HoldsBack all taken e → HoldsBack all taken (let_out held e)
out all taken [] e is live h = same all taken e (record e { held = [] }) refl refl (sym is) h
out all taken (first ∷ held) e is live h =
    goes_out all h.sent h.waiting taken first held e h.parts (h.held ∙ is) (all_of_live taken h.sent e live h.stands) live (λ next. out all taken held next)

pub release : {T : Type 0} → (all : List (Issued T)) (taken : List (Taken T)) (e : EndValue T) → HoldsBack all taken e → HoldsBack all taken (released e)
release all taken e h = by_flag (is_free e) refl
  where
    by_flag : (flag : Bool) → is_free e ≡ flag → HoldsBack all taken (cond flag (let_out e.held e) e)
    by_flag true is = out all taken e.held e refl (free_is_live e is) h
    by_flag false is = h

-- ---- What comes

holds_entered : {T : Type 0} → (all : List (Issued T)) (taken : List (Taken T)) (raw : List ℕ) (mark : Option ℕ) (e : EndValue T) → HoldsBack all taken e → HoldsBack all taken (entered raw mark e)
holds_entered all taken raw mark e h =
    let next = record e { inbox = e.inbox ++ record { number = e.came; incoming = record { raw = raw; mark = mark } } ∷ [] } in
    level all taken next (same all taken e next refl refl refl h)

holds_heard : {T : Type 0} → (all : List (Issued T)) (taken : List (Taken T)) (raw : List ℕ) (mark : Option ℕ) (message : Result MessageValue MessageFault) (e : EndValue T) → HoldsBack all taken e
    → HoldsBack all taken (heard raw mark message e)
holds_heard all taken raw mark (Err fault) e h = same all taken e _ refl refl refl h
holds_heard all taken raw mark (Ok (flow told)) e h = let next = record e { told = told } in release all taken next (same all taken e next refl refl refl h)
holds_heard all taken raw mark (Ok (command token service name body)) e h = holds_entered all taken raw mark e h
holds_heard all taken raw mark (Ok (final token body)) e h = holds_entered all taken raw mark e h
holds_heard all taken raw mark (Ok (progress token body)) e h = holds_entered all taken raw mark e h
holds_heard all taken raw mark (Ok (not_known token)) e h = holds_entered all taken raw mark e h
holds_heard all taken raw mark (Ok (event service name body)) e h = holds_entered all taken raw mark e h

holds_item : {T : Type 0} → (all : List (Issued T)) (taken : List (Taken T)) (mark : Option ℕ) (item : Item) (e : EndValue T) → HoldsBack all taken e → HoldsBack all taken (item_came mark item e)
holds_item all taken mark (items.Message raw) e h =
    let next = record e { came = counted e.came } in holds_heard all taken raw mark (reading raw) next (same all taken e next refl refl refl h)
holds_item all taken mark items.End e h = same all taken e _ refl refl refl h

holds_came : {T : Type 0} → (all : List (Issued T)) (taken : List (Taken T)) (mark : Option ℕ) (list : List Item) (e : EndValue T) → HoldsBack all taken e → HoldsBack all taken (came_by mark list e)
holds_came all taken mark [] e h = h
holds_came all taken mark (item ∷ list) e h =
    holds_came all taken mark list (cond (is_over e) e (item_came mark item e)) (either_keeps (HoldsBack all taken) (is_over e) e _ h (holds_item all taken mark item e h))

holds_stopped : {T : Type 0} → (all : List (Issued T)) (taken : List (Taken T)) (answer : Result Unit StreamFault) (e : EndValue T) → HoldsBack all taken e → HoldsBack all taken (stopped_by answer e)
holds_stopped all taken (Ok done) e h = h
holds_stopped all taken (Err fault) e h = either_keeps (HoldsBack all taken) (is_over e) e _ h (same all taken e _ refl refl refl h)

pub holds_delivered : {T : Type 0} → (all : List (Issued T)) (taken : List (Taken T)) (piece : List ℕ) (mark : Option ℕ) (e : EndValue T) → HoldsBack all taken e
    → HoldsBack all taken (delivered piece mark e)
holds_delivered all taken piece mark e h =
    let came = fed piece e.stream in
    let next = record e { stream = came.reader } in
    holds_stopped all taken came.answer (came_by mark came.items next) (holds_came all taken mark came.items next (same all taken e next refl refl refl h))

-- ---- A new command

pub none_waits : {T : Type 0} → (waiting : List (Issued T)) → map (λ i. i.command) waiting ≡ [] → waiting ≡ []
none_waits [] is = refl
none_waits (i ∷ waiting) is = absurd cc

-- it goes out where none is held
command_goes : {T : Type 0} → (all : List (Issued T)) (taken : List (Taken T)) (i : Issued T) (e : EndValue T) → e.held ≡ [] → e.state ≡ Live → HoldsBack all taken e
    → HoldsBack (all ++ i ∷ []) taken (sent_out i.command e)
command_goes {T = T} all taken i e none live h = by_flag i.command.is_redirect refl
  where
    parted : all ++ i ∷ [] ≡ (h.sent ++ i ∷ []) ++ []
    parted = ap (λ xs. xs ++ i ∷ []) (h.parts ∙ ap (λ xs. h.sent ++ xs) (none_waits h.waiting (h.held ∙ none)) ∙ append-nil h.sent) ∙ sym (append-nil (h.sent ++ i ∷ []))

    released_all : AreReleased taken h.sent
    released_all = all_of_live taken h.sent e live h.stands

    redirecting : EndValue T
    redirecting = record e { queued = e.queued ++ i.command.outgoing ∷ []; state = Reopening; redirect = Some i.command.token }

    going : EndValue T
    going = record e { queued = e.queued ++ i.command.outgoing ∷ [] }

    by_flag : (flag : Bool) → i.command.is_redirect ≡ flag → HoldsBack (all ++ i ∷ []) taken (cond flag redirecting going)
    by_flag true redirects = record {
      sent = h.sent ++ i ∷ [];
      waiting = [];
      parts = parted;
      held = sym none;
      stands = redirect_sent i.command.token taken h.sent i refl released_all;
    }
    by_flag false isnt = record {
      sent = h.sent ++ i ∷ [];
      waiting = [];
      parts = parted;
      held = sym none;
      stands = live_of_all taken (h.sent ++ i ∷ []) going live (other_sent taken h.sent i isnt released_all);
    }

-- or is held behind those that are
command_waits : {T : Type 0} → (all : List (Issued T)) (taken : List (Taken T)) (i : Issued T) (e : EndValue T) → HoldsBack all taken e
    → HoldsBack (all ++ i ∷ []) taken (record e { held = e.held ++ i.command ∷ [] })
command_waits all taken i e h = record {
  sent = h.sent;
  waiting = h.waiting ++ i ∷ [];
  parts = ap (λ xs. xs ++ i ∷ []) h.parts ∙ append_assoc h.sent h.waiting (i ∷ []);
  held = map-append (λ x. x.command) h.waiting (i ∷ []) ∙ ap (λ hs. hs ++ i.command ∷ []) h.held;
  stands = h.stands;
}

command_put : {T : Type 0} → (all : List (Issued T)) (taken : List (Taken T)) (i : Issued T) (e : EndValue T) → (is_free e ≡ true → e.held ≡ []) → HoldsBack all taken e
    → HoldsBack (all ++ i ∷ []) taken (sent_or_held i.command e)
command_put all taken i e none h = by_flag (is_free e) refl
  where
    by_flag : (flag : Bool) → is_free e ≡ flag → HoldsBack (all ++ i ∷ []) taken (cond flag (sent_out i.command e) (record e { held = e.held ++ i.command ∷ [] }))
    by_flag true is = command_goes all taken i e (none is) (free_is_live e is) h
    by_flag false is = command_waits all taken i e h

pub holds_commanded : {T : Type 0} → (refusal : Option SendRefusal) (all : List (Issued T)) (taken : List (Taken T)) (service name body : List ℕ) (tag : T) (mark : Option ℕ) (e : EndValue T)
    → (is_free e ≡ true → e.held ≡ []) → HoldsBack all taken e
    → HoldsBack (all ++ unless_refused refusal [] (issued service name body tag mark e ∷ [])) taken (unless_refused refusal e (commanded service name body tag mark e))
holds_commanded {T = T} (Some why) all taken service name body tag mark e none h =
    let P : List (Issued T) → Type 0 = λ xs. HoldsBack xs taken e in subst P (sym (append-nil all)) h
holds_commanded None all taken service name body tag mark e none h =
    let i = issued service name body tag mark e in
    same (all ++ i ∷ []) taken (sent_or_held i.command e) (accepted i.command tag (sent_or_held i.command e)) refl refl refl (command_put all taken i e none h)
