-- How many entries wait in the inbox of an end: each that is taken is one fewer, what is sent and closed makes no more, and a
-- piece no more than it has bytes, and one.
use Rattle.std.proofs.Common.{◌≡◌, ℕ, zero, suc, ◌==◌, ◌+◌, ◌<◌, ◌≤◌, Bool, true, false, List, [], ◌∷◌, ◌++◌, length, Option, Some, None, Result, Ok, Err, refl, ap, ◌∙◌, arith, length-append, nat_lt}
use Rattle.std.specs.Prelude.{if◌then◌else◌, is_some, remove, slice_get}
use Rattle.stream_escape.specs.Fed.{ByteRead, Course, byte_read, course, course_of, escape_read, fed, followed, put, refused, taken as read_so}
use Rattle.stream_escape.specs.Stream.{Ending, ended as stream_ended, most_message, partly}
use Rattle.stream_escape.specs.Value.{UnescapeValue, capped}
use Rattle.stream_escape.specs.declared.stream.Item.{Item}
use Rattle.stream_escape.specs.declared.stream.Item.TheVariants as items
use Rattle.stream_escape.specs.declared.stream.StreamFault.{StreamFault}
use Rattle.tcf_message.specs.Message.{MessageValue, command, event, final, flow, not_known, progress, reading}
use Rattle.tcf_message.specs.declared.message.MessageFault.{MessageFault}
use Rattle.channel_core.specs.Closing.{closed_own, is_closed}
use Rattle.channel_core.specs.EndValue.{EndValue}
use Rattle.channel_core.specs.Holding.{is_free, let_out, released, sent_out}
use Rattle.channel_core.specs.Level.{is_due, level_of, leveled}
use Rattle.channel_core.specs.Receiving.{came_by, counted, delivered, ended, entered, heard, is_over, item_came, stopped_by, waiting_in}
use Rattle.channel_core.specs.Sending.{commanded, made, queued}
use Rattle.channel_core.specs.Taking.{answered, finished, greeted, is_of, judged, next_taken, number_at, progressed, redirected, state_greeted, stop_taken, taken_as, taken_from}
use Rattle.channel_core.specs.Wire.{said_in}
use Rattle.channel_core.specs.declared.held.Arrived.{Arrived}
use Rattle.channel_core.specs.declared.held.Held.{Held}
use Rattle.channel_core.specs.declared.held.Incoming.{Incoming}
use Rattle.channel_core.specs.declared.states.Cause.{Cause}
use Rattle.channel_core.specs.declared.states.EndState.TheVariants.{Live}
use Rattle.channel_core.specs.Judged.{Judged}
use Rattle.channel_core.specs.Judged as judges
use Rattle.channel_core.specs.declared.taking.Taken.{Taken}

-- the messages, and the last entry
abbrev pub entries : {T : Type 0} → EndValue T → ℕ
entries e = length e.inbox + (if is_some e.stop then 1 else 0)

-- ---- a piece has no more items than bytes

abbrev IsOneAtMost : ByteRead → Type 0
IsOneAtMost (read_so its next) = length its ≤ 1
IsOneAtMost (refused fault) = Unit {0}

one_of_two : (flag : Bool) (one other : ByteRead) → IsOneAtMost one → IsOneAtMost other → IsOneAtMost (if flag then one else other)
one_of_two true one other is same = is
one_of_two false one other is same = same

put_one : (offset byte : ℕ) (part : List ℕ) → IsOneAtMost (put offset byte part)
put_one offset byte part = one_of_two (nat_lt (length part) most_message) _ _ (omega arith) tt

escape_one : (offset byte : ℕ) (part : List ℕ) → IsOneAtMost (escape_read offset byte part)
escape_one offset zero part = put_one offset 3 part
escape_one offset (suc zero) part = omega arith
escape_one offset (suc (suc zero)) part = omega arith
escape_one offset (suc (suc (suc more))) part = tt

byte_one : (offset byte : ℕ) (ending : Ending) → IsOneAtMost (byte_read offset byte ending)
byte_one offset byte (partly part false) =
    let escape : ByteRead = read_so [] (partly part true) in
    let one : IsOneAtMost escape = omega arith in
    one_of_two (byte == 3) escape (put offset byte part) one (put_one offset byte part)
byte_one offset byte (partly part true) = escape_one offset byte part
byte_one offset byte stream_ended = tt

followed_most : (ending : Ending) (read : ByteRead) (rest : Ending → Course) (most : ℕ) → IsOneAtMost read → ((next : Ending) → length (rest next).items ≤ most)
    → length (followed ending read rest).items ≤ suc most
followed_most ending (refused fault) rest most one all = omega arith
followed_most ending (read_so its next) rest most one all = omega (arith, one, all next, length-append its (rest next).items)

course_most : (bytes : List ℕ) (offset : ℕ) (ending : Ending) → length (course offset bytes ending).items ≤ length bytes
course_most [] offset ending = omega arith
course_most (byte ∷ bytes) offset ending =
    followed_most ending (byte_read (capped offset) byte ending) (course (offset + 1) bytes) (length bytes) (byte_one (capped offset) byte ending) (λ next. course_most bytes (offset + 1) next)

course_of_most : (fault : Option StreamFault) (piece : List ℕ) (reader : UnescapeValue) → length (course_of fault piece reader).items ≤ length piece
course_of_most None piece reader = course_most piece reader.offset reader.ending
course_of_most (Some fault) piece reader = omega arith

items_most : (piece : List ℕ) (reader : UnescapeValue) → length (fed piece reader).items ≤ length piece
unfolding fed
items_most piece reader = course_of_most reader.fault piece reader

module _ {T : Type 0} where
  abbrev Keeps : EndValue T → EndValue T → Type 0
  Keeps e next = (next.inbox ≡ e.inbox) × (next.stop ≡ e.stop)

  kept : (e next : EndValue T) → Keeps e next → entries next ≡ entries e
  kept e next k =
      ap (λ (xs : List Arrived). length xs + (if is_some next.stop then 1 else 0)) k.0 ∙ ap (λ (s : Option Cause). length e.inbox + (if is_some s then 1 else 0)) k.1

  -- no more entries, and no more messages
  abbrev pub Shrinks : EndValue T → EndValue T → Type 0
  Shrinks e next = (entries next ≤ entries e) × (length next.inbox ≤ length e.inbox)

  kept_most : (e next : EndValue T) → Keeps e next → Shrinks e next
  kept_most e next k = (omega (arith, kept e next k), omega (arith, ap (λ (xs : List Arrived). length xs) k.0))

  -- ---- what is sent and what goes out

  either_keeps : (flag : Bool) (one other e : EndValue T) → Keeps e one → Keeps e other → Keeps e (if flag then one else other)
  either_keeps true one other e is same = is
  either_keeps false one other e is same = same

  then_keeps : (e mid next : EndValue T) → Keeps e mid → Keeps mid next → Keeps e next
  then_keeps e mid next first second = (second.0 ∙ first.0, second.1 ∙ first.1)

  out_keeps : (h : Held) (e : EndValue T) → Keeps e (sent_out h e)
  out_keeps h e = either_keeps h.is_redirect _ _ e (refl, refl) (refl, refl)

  let_keeps : (held : List Held) (e : EndValue T) → Keeps e (let_out held e)
  let_keeps [] e = (refl, refl)
  let_keeps (h ∷ held) e =
      let rest : EndValue T = record e { held = held } in
      let next = sent_out h rest in
      either_keeps h.is_redirect next (let_out held next) e (out_keeps h rest) (then_keeps e next (let_out held next) (out_keeps h rest) (let_keeps held next))

  released_keeps : (e : EndValue T) → Keeps e (released e)
  released_keeps e = either_keeps (is_free e) (let_out e.held e) e e (let_keeps e.held e) (refl, refl)

  leveled_keeps : (e : EndValue T) → Keeps e (leveled e)
  leveled_keeps e = either_keeps (is_due e.is_loud (level_of (length e.inbox))) _ e e (refl, refl) (refl, refl)

  queued_keeps : (message : MessageValue) (mark : Option ℕ) (e : EndValue T) → Keeps e (queued message mark e)
  queued_keeps message mark e = either_keeps (is_closed e.state) e _ e (refl, refl) (refl, refl)

  pub queued_entries : (message : MessageValue) (mark : Option ℕ) (e : EndValue T) → Shrinks e (queued message mark e)
  queued_entries message mark e = kept_most e (queued message mark e) (queued_keeps message mark e)

  pub commanded_entries : (service name body : List ℕ) (tag : T) (mark : Option ℕ) (e : EndValue T) → Shrinks e (commanded service name body tag mark e)
  commanded_entries service name body tag mark e =
      let h : Held = made (e.last + 1) service name body mark in
      let held : EndValue T = record e { held = e.held ++ h ∷ [] } in
      let sent : EndValue T = if is_free e then sent_out h e else held in
      let k : Keeps e sent = either_keeps (is_free e) (sent_out h e) held e (out_keeps h e) (refl, refl) in
      kept_most e (commanded service name body tag mark e) (k.0, k.1)

  either_most : (flag : Bool) (one other : EndValue T) (most : ℕ) → entries one ≤ most → entries other ≤ most → entries (if flag then one else other) ≤ most
  either_most true one other most is same = is
  either_most false one other most is same = same

  either_shrinks : (flag : Bool) (one other e : EndValue T) → Shrinks e one → Shrinks e other → Shrinks e (if flag then one else other)
  either_shrinks true one other e is same = is
  either_shrinks false one other e is same = same

  pub closed_entries : (e : EndValue T) → Shrinks e (closed_own e)
  closed_entries e = either_shrinks (is_closed e.state) e _ e (omega arith, omega arith) (omega arith, omega arith)

  -- ---- what comes

  entered_most : (raw : List ℕ) (mark : Option ℕ) (e : EndValue T) → entries (entered raw mark e) ≤ entries e + 1
  entered_most raw mark e =
      let arrived : Arrived = record { number = e.came; incoming = record { raw = raw; mark = mark } } in
      let next : EndValue T = record e { inbox = e.inbox ++ arrived ∷ [] } in
      omega (arith, kept next (leveled next) (leveled_keeps next), length-append e.inbox (arrived ∷ []))

  -- the last entry
  last_most : (stop : Option Cause) (e : EndValue T) → length e.inbox + (if is_some stop then 1 else 0) ≤ entries e + 1
  last_most None e = omega arith
  last_most (Some cause) e = omega arith

  heard_most : (raw : List ℕ) (mark : Option ℕ) (m : Result MessageValue MessageFault) (e : EndValue T) → entries (heard raw mark m e) ≤ entries e + 1
  heard_most raw mark (Err fault) e = omega arith
  heard_most raw mark (Ok (flow level)) e =
      let told : EndValue T = record e { told = level } in
      omega (arith, kept told (released told) (released_keeps told))
  heard_most raw mark (Ok (command token service name body)) e = entered_most raw mark e
  heard_most raw mark (Ok (final token body)) e = entered_most raw mark e
  heard_most raw mark (Ok (progress token body)) e = entered_most raw mark e
  heard_most raw mark (Ok (not_known token)) e = entered_most raw mark e
  heard_most raw mark (Ok (event service name body)) e = entered_most raw mark e

  item_most : (mark : Option ℕ) (item : Item) (e : EndValue T) → entries (item_came mark item e) ≤ entries e + 1
  item_most mark (items.Message raw) e = heard_most raw mark (reading raw) (record e { came = counted e.came })
  item_most mark items.End e = omega arith

  came_most : (mark : Option ℕ) (list : List Item) (e : EndValue T) → entries (came_by mark list e) ≤ entries e + length list
  came_most mark [] e = omega arith
  came_most mark (item ∷ list) e =
      let next : EndValue T = if is_over e then e else item_came mark item e in
      let one : entries next ≤ entries e + 1 = either_most (is_over e) e (item_came mark item e) (entries e + 1) (omega arith) (item_most mark item e) in
      omega (arith, one, came_most mark list next)

  stopped_most : (answer : Result Unit StreamFault) (e : EndValue T) → entries (stopped_by answer e) ≤ entries e + 1
  stopped_most (Ok done) e = omega arith
  stopped_most (Err fault) e = either_most (is_over e) e _ (entries e + 1) (omega arith) (omega arith)

  pub delivered_entries : (piece : List ℕ) (mark : Option ℕ) (e : EndValue T) → entries (delivered piece mark e) ≤ entries e + length piece + 1
  delivered_entries piece mark e =
      let given = fed piece e.stream in
      let first : EndValue T = record e { stream = given.reader } in
      let mid : EndValue T = came_by mark given.items first in
      omega (arith, stopped_most given.answer mid, came_most mark given.items first, items_most piece e.stream)

  -- a last entry is one
  pub last_entry : (e : EndValue T) → entries e ≤ length e.inbox + 1
  last_entry e = by_stop e.stop
    where
      by_stop : (stop : Option Cause) → length e.inbox + (if is_some stop then 1 else 0) ≤ length e.inbox + 1
      by_stop None = omega arith
      by_stop (Some cause) = omega arith

  pub delivered_inbox : (piece : List ℕ) (mark : Option ℕ) (e : EndValue T) → length (delivered piece mark e).inbox ≤ entries e + length piece + 1
  delivered_inbox piece mark e = let all = delivered_entries piece mark e in omega (arith, all)

  same_inbox : (flag : Bool) (one other e : EndValue T) → one.inbox ≡ e.inbox → other.inbox ≡ e.inbox → (if flag then one else other).inbox ≡ e.inbox
  same_inbox true one other e is same = is
  same_inbox false one other e is same = same

  pub ended_inbox : (e : EndValue T) → (ended e).inbox ≡ e.inbox
  ended_inbox e = same_inbox (is_over e) e _ e refl refl

  pub ended_entries : (e : EndValue T) → entries (ended e) ≤ entries e + 1
  ended_entries e = either_most (is_over e) e _ (entries e + 1) (omega arith) (omega arith)

  -- ---- what is taken

  abbrev AtMost : EndValue T → Option (Taken T) × EndValue T → Type 0
  AtMost e (None, next) = ⊥
  AtMost e (Some what, next) = Shrinks e next

  redirected_keeps : (done : Bool) (e : EndValue T) → Keeps e (redirected done e)
  redirected_keeps true e = (refl, refl)
  redirected_keeps false e = released_keeps (record e { redirect = None; state = Live })

  answered_keeps : (token : ℕ) (done : Bool) (e : EndValue T) → Keeps e (answered token done e)
  answered_keeps token done e = either_keeps (is_of token e.redirect) (redirected done e) e e (redirected_keeps done e) (refl, refl)

  progressed_most : (number : ℕ) (incoming : Incoming) (token : Option ℕ) (e : EndValue T) → AtMost e (progressed number incoming token e)
  progressed_most number incoming None e = (omega arith, omega arith)
  progressed_most number incoming (Some token) e = kept_most e (leveled e) (leveled_keeps e)

  finished_most : (number : ℕ) (incoming : Incoming) (place : ℕ) (done : Bool) (row : Option (ℕ × T)) (e : EndValue T) → AtMost e (finished number incoming place done row e)
  finished_most number incoming place done None e = (omega arith, omega arith)
  finished_most number incoming place done (Some row) e =
      let rest : EndValue T = record e { pending = remove e.pending place } in
      kept_most rest (answered row.0 done (leveled rest)) (then_keeps rest (leveled rest) (answered row.0 done (leveled rest)) (leveled_keeps rest) (answered_keeps row.0 done (leveled rest)))

  judged_most : (number : ℕ) (incoming : Incoming) (what : Judged) (e : EndValue T) → AtMost e (taken_as number incoming what e)
  judged_most number incoming judges.TooEarly e = (omega arith, omega arith)
  judged_most number incoming judges.Stray e = (omega arith, omega arith)
  judged_most number incoming judges.Greets e =
      let next : EndValue T = leveled e in
      let mid : EndValue T = record next { state = state_greeted next.state next.redirect } in
      kept_most e (greeted next) (then_keeps e mid (greeted next) (leveled_keeps e) (released_keeps mid))
  judged_most number incoming judges.Tells e = kept_most e (leveled e) (leveled_keeps e)
  judged_most number incoming judges.Asks e = kept_most e (leveled e) (leveled_keeps e)
  judged_most number incoming (judges.GoesOn place) e = progressed_most number incoming (number_at place e.pending) e
  judged_most number incoming (judges.Answers place done) e = finished_most number incoming place done (slice_get e.pending place) e

  -- nothing is taken where there is no entry, and else there is one fewer
  abbrev pub Fewer : EndValue T → Option (Taken T) × EndValue T → Type 0
  Fewer e (None, next) = (entries e ≡ 0) × (next ≡ e)
  Fewer e (Some what, next) = (entries next < entries e) × (length next.inbox ≤ length e.inbox)

  fewer_by : (rest e : EndValue T) (p : Option (Taken T) × EndValue T) → entries e ≡ suc (entries rest) → length e.inbox ≡ suc (length rest.inbox) → AtMost rest p → Fewer e p
  fewer_by rest e (None, next) all inbox few = absurd few
  fewer_by rest e (Some what, next) all inbox few = (omega (arith, all, few.0), omega (arith, inbox, few.1))

  no_entries : (e : EndValue T) → e.inbox ≡ [] → e.stop ≡ None → entries e ≡ 0
  no_entries e none is = rw (none, is) refl

  last_fewer : (cause : Cause) (e : EndValue T) → e.inbox ≡ [] → e.stop ≡ Some cause → 0 < entries e
  last_fewer cause e none is = rw (none, is) (omega arith)

  stop_fewer : (stop : Option Cause) (e : EndValue T) → e.inbox ≡ [] → e.stop ≡ stop → Fewer e (stop_taken stop e)
  stop_fewer None e none is = (no_entries e none is, refl)
  stop_fewer (Some cause) e none is = (last_fewer cause e none is, omega arith)

  from_fewer : (inbox : List Arrived) (e : EndValue T) → e.inbox ≡ inbox → Fewer e (taken_from inbox e)
  from_fewer [] e is = stop_fewer e.stop e is refl
  from_fewer (arrived ∷ inbox) e is =
      let rest : EndValue T = record e { inbox = inbox } in
      let what = judged (said_in arrived.incoming.raw) rest in
      let one = ap (λ (xs : List Arrived). length xs) is in
      fewer_by rest e (taken_as arrived.number arrived.incoming what rest) (omega (arith, one)) (omega (arith, one)) (judged_most arrived.number arrived.incoming what rest)

  pub next_fewer : (e : EndValue T) → Fewer e (next_taken e)
  next_fewer e = from_fewer e.inbox e refl

  none_by : (e : EndValue T) (p : Option (Taken T) × EndValue T) → entries e ≡ 0 → Fewer e p → p.0 ≡ None
  none_by e (None, next) none fewer = refl
  none_by e (Some what, next) none fewer = absurd (omega (arith, none, fewer.0))

  pub none_next : (e : EndValue T) → entries e ≡ 0 → (next_taken e).0 ≡ None
  none_next e none = none_by e (next_taken e) none (next_fewer e)

  -- ---- as it is counted

  pub all_counted : (e : EndValue T) → entries e ≤ 18446744073709551615 → waiting_in e ≡ entries e
  all_counted e few = omega (arith, few)

  pub none_counted : (e : EndValue T) → entries e ≡ 0 → waiting_in e ≡ 0
  none_counted e none = omega (arith, none)
