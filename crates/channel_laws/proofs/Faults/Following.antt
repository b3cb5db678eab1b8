-- What comes to an end, and what is sent, closes none, leads none back to its opening, and stops it only for a cause of what came.
use Rattle.std.proofs.Common.{◌≡◌, ℕ, ◌+◌, Bool, true, false, cond, List, [], ◌∷◌, ◌++◌, length, Option, Some, None, Result, Ok, Err, refl, sym, ◌∙◌, subst}
use Rattle.stream_escape.specs.Fed.{fed}
use Rattle.stream_escape.specs.declared.stream.Item.{Item}
use Rattle.stream_escape.specs.declared.stream.Item.TheVariants as items
use Rattle.stream_escape.specs.declared.stream.StreamFault.{StreamFault}
use Rattle.tcf_message.specs.Message.{MessageValue, command, event, final, flow, not_known, progress, reading}
use Rattle.tcf_message.specs.declared.message.MessageFault.{MessageFault}
use Rattle.channel_core.specs.EndValue.{EndValue}
use Rattle.channel_core.specs.Holding.{is_free, let_out, released, sent_out}
use Rattle.channel_core.specs.Level.{is_due, leveled, level_of}
use Rattle.channel_core.specs.Receiving.{came_by, counted, delivered, entered, heard, is_over, item_came, stopped_by}
use Rattle.channel_core.specs.Runs.{unless_refused}
use Rattle.channel_core.specs.Sending.{commanded, made, sent_or_held}
use Rattle.channel_core.specs.declared.held.Held.{Held}
use Rattle.channel_core.specs.declared.sending.SendRefusal.{SendRefusal}
use Rattle.channel_core.specs.declared.states.Cause.{Cause}
use Rattle.channel_core.specs.declared.states.Cause.TheVariants.{Eos, Protocol, Stream}
use Rattle.channel_core.specs.declared.states.EndState.{EndState}
use Rattle.channel_core.specs.declared.states.EndState.TheVariants.{Closed, Live, Opening, Reopening}
use Rattle.channel_core.specs.declared.states.Reason.TheVariants.{Grammar}

-- the cause of a last entry, and that of a closed end, is fine
abbrev pub StopIs : (Cause → Type 0) → Option Cause → Type 0
StopIs Fine None = Unit {0}
StopIs Fine (Some cause) = Fine cause

abbrev pub StateIs : (Cause → Type 0) → EndState → Type 0
StateIs Fine Opening = Unit {0}
StateIs Fine Live = Unit {0}
StateIs Fine Reopening = Unit {0}
StateIs Fine (Closed cause) = Fine cause

-- the causes of what comes
pub record AreFine (Fine : Cause → Type 0) : Type 0 where
  pub grammar : (number : ℕ) (fault : MessageFault) → Fine (Protocol number (Grammar fault))
  pub eos : Fine Eos
  pub stream : (fault : StreamFault) → Fine (Stream fault)

pub record Follows {T : Type 0} (Fine : Cause → Type 0) (e next : EndValue T) : Type 0 where
  pub stop : StopIs Fine e.stop → StopIs Fine next.stop
  pub state : StateIs Fine e.state → StateIs Fine next.state
  pub opening : next.state ≡ Opening → e.state ≡ Opening

-- ---- Steps

pub alike : {T : Type 0} → (Fine : Cause → Type 0) (e next : EndValue T) → next.stop ≡ e.stop → next.state ≡ e.state → Follows Fine e next
alike Fine e next stop state = record {
  stop = λ s. subst (StopIs Fine) (sym stop) s;
  state = λ s. subst (StateIs Fine) (sym state) s;
  opening = λ is. sym state ∙ is;
}

pub after : {T : Type 0} → (Fine : Cause → Type 0) (e next last : EndValue T) → Follows Fine e next → Follows Fine next last → Follows Fine e last
after Fine e next last f g = record { stop = λ s. g.stop (f.stop s); state = λ s. g.state (f.state s); opening = λ is. f.opening (g.opening is) }

pub either : {T : Type 0} → (Fine : Cause → Type 0) (flag : Bool) (e one other : EndValue T) → Follows Fine e one → Follows Fine e other → Follows Fine e (cond flag one other)
either Fine true e one other f g = f
either Fine false e one other f g = g

-- it has a last entry for a fine cause
stopped : {T : Type 0} → (Fine : Cause → Type 0) (cause : Cause) (e : EndValue T) → Fine cause → Follows Fine e (record e { stop = Some cause })
stopped Fine cause e fine = record { stop = λ s. fine; state = λ s. s; opening = λ is. is }

-- it comes to no opening and isn't closed
pub opened : {T : Type 0} → (Fine : Cause → Type 0) (e next : EndValue T) → next.stop ≡ e.stop → StateIs Fine next.state → (next.state ≡ Opening → ⊥) → Follows Fine e next
opened Fine e next stop state none = record { stop = λ s. subst (StopIs Fine) (sym stop) s; state = λ s. state; opening = λ is. absurd (none is) }

pub level : {T : Type 0} → (Fine : Cause → Type 0) (e : EndValue T) → Follows Fine e (leveled e)
level Fine e = either Fine (is_due e.is_loud (level_of (length e.inbox))) e _ e (alike Fine e _ refl refl) (alike Fine e e refl refl)

-- ---- What is held goes out

out_first : {T : Type 0} → (Fine : Cause → Type 0) (h : Held) (e : EndValue T) → Follows Fine e (sent_out h e)
out_first Fine h e = either Fine h.is_redirect e _ _ (opened Fine e _ refl tt (λ is. absurd cc)) (alike Fine e _ refl refl)

out : {T : Type 0} → (Fine : Cause → Type 0) (held : List Held) (e : EndValue T) → Follows Fine e (let_out held e)
out Fine [] e = alike Fine e (record e { held = [] }) refl refl
out {T = T} Fine (h ∷ held) e =
    let left = record e { held = held } in
    let next = sent_out h left in
    let first = after Fine e left next (alike Fine e left refl refl) (out_first Fine h left) in
    either Fine h.is_redirect e next (let_out held next) first (after Fine e next (let_out held next) first (out Fine held next))

pub release : {T : Type 0} → (Fine : Cause → Type 0) (e : EndValue T) → Follows Fine e (released e)
release Fine e = either Fine (is_free e) e (let_out e.held e) e (out Fine e.held e) (alike Fine e e refl refl)

-- ---- What comes

enters : {T : Type 0} → (Fine : Cause → Type 0) (raw : List ℕ) (mark : Option ℕ) (e : EndValue T) → Follows Fine e (entered raw mark e)
enters Fine raw mark e =
    let next = record e { inbox = e.inbox ++ record { number = e.came; incoming = record { raw = raw; mark = mark } } ∷ [] } in
    after Fine e next (leveled next) (alike Fine e next refl refl) (level Fine next)

hears : {T : Type 0} → (Fine : Cause → Type 0) → AreFine Fine → (raw : List ℕ) (mark : Option ℕ) (message : Result MessageValue MessageFault) (e : EndValue T) → Follows Fine e (heard raw mark message e)
hears Fine fine raw mark (Err fault) e = stopped Fine (Protocol e.came (Grammar fault)) e (fine.grammar e.came fault)
hears Fine fine raw mark (Ok (flow told)) e = let next = record e { told = told } in after Fine e next (released next) (alike Fine e next refl refl) (release Fine next)
hears Fine fine raw mark (Ok (command token service name body)) e = enters Fine raw mark e
hears Fine fine raw mark (Ok (final token body)) e = enters Fine raw mark e
hears Fine fine raw mark (Ok (progress token body)) e = enters Fine raw mark e
hears Fine fine raw mark (Ok (not_known token)) e = enters Fine raw mark e
hears Fine fine raw mark (Ok (event service name body)) e = enters Fine raw mark e

item : {T : Type 0} → (Fine : Cause → Type 0) → AreFine Fine → (mark : Option ℕ) (i : Item) (e : EndValue T) → Follows Fine e (item_came mark i e)
item Fine fine mark (items.Message raw) e =
    let next = record e { came = counted e.came } in
    after Fine e next (heard raw mark (reading raw) next) (alike Fine e next refl refl) (hears Fine fine raw mark (reading raw) next)
item Fine fine mark items.End e = stopped Fine Eos e fine.eos

came : {T : Type 0} → (Fine : Cause → Type 0) → AreFine Fine → (mark : Option ℕ) (list : List Item) (e : EndValue T) → Follows Fine e (came_by mark list e)
came Fine fine mark [] e = alike Fine e e refl refl
came Fine fine mark (i ∷ list) e =
    let next = cond (is_over e) e (item_came mark i e) in
    after Fine e next (came_by mark list next) (either Fine (is_over e) e e (item_came mark i e) (alike Fine e e refl refl) (item Fine fine mark i e)) (came Fine fine mark list next)

faulted : {T : Type 0} → (Fine : Cause → Type 0) → AreFine Fine → (answer : Result Unit StreamFault) (e : EndValue T) → Follows Fine e (stopped_by answer e)
faulted Fine fine (Ok done) e = alike Fine e e refl refl
faulted Fine fine (Err fault) e = either Fine (is_over e) e e _ (alike Fine e e refl refl) (stopped Fine (Stream fault) e (fine.stream fault))

pub piece_came : {T : Type 0} → (Fine : Cause → Type 0) → AreFine Fine → (piece : List ℕ) (mark : Option ℕ) (e : EndValue T) → Follows Fine e (delivered piece mark e)
piece_came Fine fine piece mark e =
    let given = fed piece e.stream in
    let next = record e { stream = given.reader } in
    let whole = came_by mark given.items next in
    after Fine e next (stopped_by given.answer whole) (alike Fine e next refl refl)
    (after Fine next whole (stopped_by given.answer whole) (came Fine fine mark given.items next) (faulted Fine fine given.answer whole))

-- ---- A new command

put : {T : Type 0} → (Fine : Cause → Type 0) (h : Held) (e : EndValue T) → Follows Fine e (sent_or_held h e)
put Fine h e = either Fine (is_free e) e (sent_out h e) _ (out_first Fine h e) (alike Fine e _ refl refl)

pub command_came : {T : Type 0} → (Fine : Cause → Type 0) (refusal : Option SendRefusal) (service name body : List ℕ) (tag : T) (mark : Option ℕ) (e : EndValue T)
    → Follows Fine e (unless_refused refusal e (commanded service name body tag mark e))
command_came Fine (Some why) service name body tag mark e = alike Fine e e refl refl
command_came Fine None service name body tag mark e =
    let next = sent_or_held (made (e.last + 1) service name body mark) e in
    after Fine e next (commanded service name body tag mark e) (put Fine (made (e.last + 1) service name body mark) e) (alike Fine next _ refl refl)
