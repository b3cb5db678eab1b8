-- How many entries wait in the inboxes of an agent's channels, and what a turn, a piece and an input make of their number.
use Rattle.std.proofs.Common.{◌≡◌, ℕ, zero, suc, ◌+◌, ◌-◌, ◌≤◌, ◌==◌, Bool, true, false, cond, List, [], ◌∷◌, ◌++◌, length, Option, Some, None, Result, Ok, Err, is_some, refl, ◌∙◌, arith, length-append}
use Rattle.std.specs.Prelude.{nat_lt, remove, slice_get}
use Rattle.channel_core.specs.Closing.{is_closed}
use Rattle.channel_core.specs.EndValue.{unless_spent}
use Rattle.channel_core.specs.Holding.{is_free, let_out, released, sent_out}
use Rattle.channel_core.specs.Level.{is_due, level_of, leveled}
use Rattle.channel_core.specs.Receiving.{came_by, counted, delivered as end_delivered, ended as end_ended, entered, heard, is_over, item_came, stopped_by, with_last}
use Rattle.channel_core.specs.Sending.{queued}
use Rattle.channel_core.specs.Taking.{answered, finished, greeted, is_of, judged, message_taken, next_taken, number_at, progressed, redirected, state_greeted, taken_as, taken_from}
use Rattle.channel_core.specs.Wire.{said_in}
use Rattle.channel_core.specs.declared.held.Arrived.{Arrived}
use Rattle.channel_core.specs.declared.held.Held.{Held}
use Rattle.channel_core.specs.declared.held.Incoming.{Incoming}
use Rattle.channel_core.specs.declared.states.Cause.{Cause}
use Rattle.channel_core.specs.declared.states.Cause.TheVariants.{Ended, Stream}
use Rattle.channel_core.specs.declared.states.EndState.TheVariants.{Live}
use Rattle.channel_core.specs.Judged.{Judged, TooEarly, Stray, Greets, Tells, Asks, GoesOn, Answers}
use Rattle.stream_escape.specs.Fed.{ByteRead, byte_read, course, course_of, escape_read, fed, followed, put, refused, taken}
use Rattle.stream_escape.specs.Stream.{Ending, ended, most_message, partly}
use Rattle.stream_escape.specs.Value.{UnescapeValue, capped}
use Rattle.stream_escape.specs.declared.stream.Item.{Item}
use Rattle.stream_escape.specs.declared.stream.Item.TheVariants as items
use Rattle.stream_escape.specs.declared.stream.StreamFault.{StreamFault}
use Rattle.stream_escape.specs.declared.stream.StreamFault.TheVariants.{TooLong}
use Rattle.tcf_message.specs.Message.{MessageValue, command, event, final, flow, not_known, progress, reading}
use Rattle.tcf_message.specs.declared.message.MessageFault.{MessageFault}
use Rattle.agent_node.specs.Channels.{End, unless_closed}

-- those of an end: its messages, and the last entry
abbrev pub entries : End → ℕ
entries e = length e.inbox + cond (is_some e.stop) 1 0

-- ---- what leaves them

abbrev IsKept : End → End → Type 0
IsKept old new = entries new ≡ entries old

by_flag : (flag : Bool) (e one other : End) → IsKept e one → IsKept e other → IsKept e (cond flag one other)
by_flag true e one other first second = first
by_flag false e one other first second = second

leveled_kept : (e : End) → IsKept e (leveled e)
leveled_kept e = by_flag (is_due e.is_loud (level_of (length e.inbox))) e _ e refl refl

sent_out_kept : (h : Held) (e : End) → IsKept e (sent_out h e)
sent_out_kept h e = by_flag h.is_redirect e _ _ refl refl

let_out_kept : (held : List Held) (e : End) → IsKept e (let_out held e)
let_out_kept [] e = refl
let_out_kept (h ∷ held) e =
    let next = sent_out h (record e { held = held }) in
    let first : IsKept e next = sent_out_kept h (record e { held = held }) in
    by_flag h.is_redirect e next (let_out held next) first (let_out_kept held next ∙ first)

released_kept : (e : End) → IsKept e (released e)
released_kept e = by_flag (is_free e) e (let_out e.held e) e (let_out_kept e.held e) refl

pub queued_kept : (message : MessageValue) (mark : Option ℕ) (e : End) → IsKept e (queued message mark e)
queued_kept message mark e = by_flag (is_closed e.state) e e _ refl refl

-- ---- taking: one is less, and none is left where the end closes

redirected_kept : (done : Bool) (e : End) → IsKept e (redirected done e)
redirected_kept true e = refl
redirected_kept false e = released_kept (record e { redirect = None; state = Live })

answered_kept : (number : ℕ) (done : Bool) (e : End) → IsKept e (answered number done e)
answered_kept number done e = by_flag (is_of number e.redirect) e (redirected done e) e (redirected_kept done e) refl

abbrev IsLess : End → End → Type 0
IsLess old new = entries new ≤ entries old

same_less : (old new : End) → IsKept old new → IsLess old new
same_less old new is = rw is (omega arith)

progressed_less : (number : ℕ) (incoming : Incoming) (token : Option ℕ) (e : End) → IsLess e (progressed number incoming token e).1
progressed_less number incoming None e = omega arith
progressed_less number incoming (Some token) e = same_less e (leveled e) (leveled_kept e)

finished_less : (number : ℕ) (incoming : Incoming) (place : ℕ) (done : Bool) (row : Option (ℕ × Unit)) (e : End) → IsLess e (finished number incoming place done row e).1
finished_less number incoming place done None e = omega arith
finished_less number incoming place done (Some row) e =
    let e2 : End = record e { pending = remove e.pending place } in
    same_less e (answered row.0 done (leveled e2)) (answered_kept row.0 done (leveled e2) ∙ leveled_kept e2)

as_less : (number : ℕ) (incoming : Incoming) (what : Judged) (e : End) → IsLess e (taken_as number incoming what e).1
as_less number incoming TooEarly e = omega arith
as_less number incoming Stray e = omega arith
as_less number incoming Greets e =
    let l = leveled e in
    same_less e (greeted l) (released_kept (record l { state = state_greeted l.state l.redirect }) ∙ leveled_kept e)
as_less number incoming Tells e = same_less e (leveled e) (leveled_kept e)
as_less number incoming Asks e = same_less e (leveled e) (leveled_kept e)
as_less number incoming (GoesOn place) e = progressed_less number incoming (number_at place e.pending) e
as_less number incoming (Answers place done) e = finished_less number incoming place done (slice_get e.pending place) e

from_less : (inbox : List Arrived) (stop : Option Cause) (e : End) → entries (taken_from inbox (record e { inbox = inbox; stop = stop })).1 ≤ length inbox + cond (is_some stop) 1 0 - 1
from_less [] None e = omega arith
from_less [] (Some cause) e = omega arith
from_less (arrived ∷ inbox) stop e =
    let rest : End = record e { inbox = inbox; stop = stop } in
    let less : entries (message_taken arrived.number arrived.incoming (said_in arrived.incoming.raw) rest).1 ≤ length inbox + cond (is_some stop) 1 0 =
    as_less arrived.number arrived.incoming (judged (said_in arrived.incoming.raw) rest) rest in
    omega (arith, less)

pub next_less : (e : End) → entries (next_taken e).1 ≤ entries e - 1
next_less e = from_less e.inbox e.stop e

-- where there is none nothing is taken
none_from : (inbox : List Arrived) (stop : Option Cause) (e : End) → length inbox + cond (is_some stop) 1 0 ≡ 0 → (taken_from inbox (record e { inbox = inbox; stop = stop })).0 ≡ None
none_from [] None e none = refl
none_from [] (Some cause) e none = cc
none_from (arrived ∷ inbox) stop e none = absurd (omega (arith, none))

pub next_none : (e : End) → entries e ≡ 0 → (next_taken e).0 ≡ None
next_none e none = none_from e.inbox e.stop e none

-- ---- a piece brings no more than it has bytes, and perhaps a fault

entered_less : (raw : List ℕ) (mark : Option ℕ) (e : End) → entries (entered raw mark e) ≤ entries e + 1
entered_less raw mark e =
    let arrived : Arrived = record { number = e.came; incoming = record { raw = raw; mark = mark } } in
    let same = leveled_kept (record e { inbox = e.inbox ++ arrived ∷ [] }) in
    let long = length-append e.inbox (arrived ∷ []) in
    rw same (rw long (omega arith))

heard_less : (raw : List ℕ) (mark : Option ℕ) (m : Result MessageValue MessageFault) (e : End) → entries (heard raw mark m e) ≤ entries e + 1
heard_less raw mark (Err fault) e = omega arith
heard_less raw mark (Ok (flow level)) e = let same = released_kept (record e { told = level }) in rw same (omega arith)
heard_less raw mark (Ok (command token service name body)) e = entered_less raw mark e
heard_less raw mark (Ok (final token body)) e = entered_less raw mark e
heard_less raw mark (Ok (progress token body)) e = entered_less raw mark e
heard_less raw mark (Ok (not_known token)) e = entered_less raw mark e
heard_less raw mark (Ok (event service name body)) e = entered_less raw mark e

item_less : (mark : Option ℕ) (item : Item) (e : End) → entries (item_came mark item e) ≤ entries e + 1
item_less mark (items.Message raw) e = heard_less raw mark (reading raw) (record e { came = counted e.came })
item_less mark items.End e = omega arith

came_less : (mark : Option ℕ) (list : List Item) (e : End) → entries (came_by mark list e) ≤ entries e + length list
came_less mark [] e = omega arith
came_less mark (item ∷ list) e = by_over (is_over e) (came_less mark list e) (came_less mark list (item_came mark item e))
  where
    by_over : (over : Bool) → entries (came_by mark list e) ≤ entries e + length list → entries (came_by mark list (item_came mark item e)) ≤ entries (item_came mark item e) + length list
        → entries (came_by mark list (cond over e (item_came mark item e))) ≤ entries e + suc (length list)
    by_over true same other = omega (arith, same)
    by_over false same other = let one : entries (item_came mark item e) ≤ entries e + 1 = item_less mark item e in omega (arith, other, one)

over_less : (over : Bool) (cause : Cause) (e : End) → entries (cond over e (with_last cause e)) ≤ entries e + 1
over_less true cause e = omega arith
over_less false cause e = omega arith

stopped_less : (answer : Result Unit StreamFault) (e : End) → entries (stopped_by answer e) ≤ entries e + 1
stopped_less (Ok done) e = omega arith
stopped_less (Err fault) e = over_less (is_over e) (Stream fault) e

-- each byte ends one item at most
abbrev items_in : ByteRead → ℕ
items_in (taken list ending) = length list
items_in (refused fault) = 0

room_none : (room : Bool) (ending : Ending) (fault : StreamFault) → items_in (cond room (taken [] ending) (refused fault)) ≤ 1
room_none true ending fault = omega arith
room_none false ending fault = omega arith

put_none : (offset byte : ℕ) (part : List ℕ) → items_in (put offset byte part) ≤ 1
put_none offset byte part = room_none (nat_lt (length part) most_message) (partly (part ++ byte ∷ []) false) (TooLong offset)

escape_one : (offset byte : ℕ) (part : List ℕ) → items_in (escape_read offset byte part) ≤ 1
escape_one offset zero part = put_none offset 3 part
escape_one offset (suc zero) part = omega arith
escape_one offset (suc (suc zero)) part = omega arith
escape_one offset (suc (suc (suc more))) part = omega arith

byte_one : (offset byte : ℕ) (ending : Ending) → items_in (byte_read offset byte ending) ≤ 1
byte_one offset byte (partly part false) = by_escape (byte == 3)
  where
    by_escape : (flag : Bool) → items_in (cond flag (taken [] (partly part true)) (put offset byte part)) ≤ 1
    by_escape true = omega arith
    by_escape false = put_none offset byte part
byte_one offset byte (partly part true) = escape_one offset byte part
byte_one offset byte ended = omega arith

course_few : (offset : ℕ) (bytes : List ℕ) (ending : Ending) → length (course offset bytes ending).items ≤ length bytes
course_few offset [] ending = omega arith
course_few offset (byte ∷ bytes) ending = by_read (byte_read (capped offset) byte ending) (byte_one (capped offset) byte ending) (λ next. course_few (offset + 1) bytes next)
  where
    by_read : (read : ByteRead) → items_in read ≤ 1 → ((next : Ending) → length (course (offset + 1) bytes next).items ≤ length bytes)
        → length (followed ending read (course (offset + 1) bytes)).items ≤ suc (length bytes)
    by_read (refused fault) one rest = omega arith
    by_read (taken list next) one rest =
        let few : length (course (offset + 1) bytes next).items ≤ length bytes = rest next in
        let few_here : length list ≤ 1 = one in
        let both = length-append list (course (offset + 1) bytes next).items in
        rw both (omega (arith, few, few_here))

course_of_few : (fault : Option StreamFault) (piece : List ℕ) (reader : UnescapeValue) → length (course_of fault piece reader).items ≤ length piece
course_of_few None piece reader = course_few reader.offset piece reader.ending
course_of_few (Some fault) piece reader = omega arith

fed_few : (piece : List ℕ) (reader : UnescapeValue) → length (fed piece reader).items ≤ length piece
unfolding fed
fed_few piece reader = course_of_few reader.fault piece reader

pub delivered_few : (piece : List ℕ) (e : End) → entries (unless_closed (end_delivered piece None) e) ≤ entries e + length piece + 1
delivered_few piece e = by_closed (is_closed e.state)
  where
    by_closed : (closed : Bool) → entries (cond closed e (end_delivered piece None e)) ≤ entries e + length piece + 1
    by_closed true = omega arith
    by_closed false =
        let g = fed piece e.stream in
        let came = came_by None g.items (record e { stream = g.reader }) in
        let first : entries came ≤ entries e + length g.items = came_less None g.items (record e { stream = g.reader }) in
        let few : length g.items ≤ length piece = fed_few piece e.stream in
        let last : entries (stopped_by g.answer came) ≤ entries came + 1 = stopped_less g.answer came in
        omega (arith, first, few, last)

pub ended_few : (e : End) → entries (unless_spent e e (end_ended e)) ≤ entries e + 1
ended_few e = by_spent e.is_spent
  where
    by_spent : (spent : Bool) → entries (cond spent e (end_ended e)) ≤ entries e + 1
    by_spent true = omega arith
    by_spent false = over_less (is_over e) Ended e
