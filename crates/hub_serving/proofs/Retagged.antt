-- An end does the same whatever the tags of its pending commands are, and changes none of them but by a final answer.
use Rattle.std.proofs.Common.{◌≡◌, ℕ, zero, suc, ◌+◌, ◌==◌, Bool, true, false, cond, List, [], ◌∷◌, ◌++◌, length, map, Option, Some, None, Result, Ok, Err, refl, sym, ap, ◌∙◌}
use Rattle.std.specs.Prelude.{bytes_eq, decimal, find, int_lt, option_map, pos, position, remove, slice_get}
use Rattle.stream_escape.specs.Fed.{fed}
use Rattle.stream_escape.specs.declared.stream.Item.{Item}
use Rattle.stream_escape.specs.declared.stream.Item.TheVariants as items
use Rattle.stream_escape.specs.declared.stream.StreamFault.{StreamFault}
use Rattle.tcf_message.specs.Message.{MessageValue, command, final, progress, not_known, event, flow, reading}
use Rattle.tcf_message.specs.declared.message.MessageFault.{MessageFault}
use Rattle.channel_core.specs.Beginning.{tag_of}
use Rattle.channel_core.specs.Closing.{closed_for, closed_own, is_closed}
use Rattle.channel_core.specs.EndValue.{EndValue}
use Rattle.channel_core.specs.Holding.{is_free, let_out, released, sent_out}
use Rattle.channel_core.specs.Judged.{Judged, TooEarly, Stray, Greets, Tells, Asks, GoesOn, Answers}
use Rattle.channel_core.specs.Level.{is_due, level_of, leveled}
use Rattle.channel_core.specs.Receiving.{came_by, counted, delivered, ended, entered, heard, is_over, item_came, stopped_by, with_last}
use Rattle.channel_core.specs.Sending.{accepted, commanded, made, queued, sent_or_held}
use Rattle.channel_core.specs.Taking.{answer_judged, answered, finished, greeted, is_early, is_of, judged, judged_by, next_taken, number_at, place_of, progress_judged, progressed, redirected, sent_at, sent_place, state_greeted, stop_taken, taken_as, taken_from, unless_held}
use Rattle.channel_core.specs.Wire.{Said, greets, tells, asks, goes_on, answers, is_redirect, said, said_in}
use Rattle.channel_core.specs.declared.held.Arrived.{Arrived}
use Rattle.channel_core.specs.declared.held.Held.{Held}
use Rattle.channel_core.specs.declared.held.Incoming.{Incoming}
use Rattle.channel_core.specs.declared.states.Cause.{Cause}
use Rattle.channel_core.specs.declared.states.Cause.TheVariants.{Own, Ended, Stream}
use Rattle.channel_core.specs.declared.states.EndState.TheVariants.{Live, Reopening}
use Rattle.channel_core.specs.declared.taking.Taken.{Taken}
use Rattle.channel_core.specs.declared.taking.Taken.TheVariants.{Hello, Command, Event, Progress, Final, Closed}
use Rattle.hub_node.specs.declared.waiting.Tag.{Tag}
use Rattle.serving_wires.proofs.Rows.{position_step}

abbrev pub End : Type 0
End = EndValue Tag

abbrev pub Row : Type 0
Row = ℕ × Tag

-- with other tags, and with this last token; memory wasn't wanting
abbrev pub retagged_row : (Tag → Tag) → Row → Row
retagged_row f row = (row.0, f row.1)

abbrev pub retagged_rows : (Tag → Tag) → List Row → List Row
retagged_rows f rows = map (retagged_row f) rows

abbrev pub retagged : (Tag → Tag) → ℕ → End → End
retagged f last e = record e { pending = retagged_rows f e.pending; last = last; is_spent = false }

abbrev pub retagged_taken : (Tag → Tag) → Taken Tag → Taken Tag
retagged_taken f (Hello incoming) = Hello incoming
retagged_taken f (Command incoming) = Command incoming
retagged_taken f (Event incoming) = Event incoming
retagged_taken f (Progress token incoming) = Progress token incoming
retagged_taken f (Final tag incoming) = Final (f tag) incoming
retagged_taken f (Closed cause) = Closed cause

abbrev pub retagged_next : (Tag → Tag) → ℕ → Option (Taken Tag) × End → Option (Taken Tag) × End
retagged_next f last t = (option_map (retagged_taken f) t.0, retagged f last t.1)

pub either_so : (f : Tag → Tag) (last : ℕ) (flag : Bool) (x y : End) → cond flag (retagged f last x) (retagged f last y) ≡ retagged f last (cond flag x y)
either_so f last true x y = refl
either_so f last false x y = refl

-- ---- what is held, and levels

sent_so : (f : Tag → Tag) (last : ℕ) (h : Held) (e : End) → sent_out h (retagged f last e) ≡ retagged f last (sent_out h e)
sent_so f last h e =
    either_so f last h.is_redirect (record e { queued = e.queued ++ h.outgoing ∷ []; state = Reopening; redirect = Some h.token }) (record e { queued = e.queued ++ h.outgoing ∷ [] })

let_so : (f : Tag → Tag) (last : ℕ) (held : List Held) (e : End) → let_out held (retagged f last e) ≡ retagged f last (let_out held e)
let_so f last [] e = refl
let_so f last (h ∷ held) e =
    let left : End = record e { held = held } in
    let next : End = sent_out h left in
    ap (λ (x : End). cond h.is_redirect x (let_out held x)) (sent_so f last h left)
    ∙ ap (λ (x : End). cond h.is_redirect (retagged f last next) x) (let_so f last held next)
    ∙ either_so f last h.is_redirect next (let_out held next)

released_so : (f : Tag → Tag) (last : ℕ) (e : End) → released (retagged f last e) ≡ retagged f last (released e)
released_so f last e =
    ap (λ (x : End). cond (is_free e) x (retagged f last e)) (let_so f last e.held e) ∙ either_so f last (is_free e) (let_out e.held e) e

leveled_so : (f : Tag → Tag) (last : ℕ) (e : End) → leveled (retagged f last e) ≡ retagged f last (leveled e)
leveled_so f last e =
    let level = level_of (length e.inbox) in
    either_so f last (is_due e.is_loud level) (record e { queued = e.queued ++ said (flow level) None ∷ []; is_loud = int_lt (pos 0) level }) e

-- ---- a piece

entered_so : (f : Tag → Tag) (last : ℕ) (raw : List ℕ) (mark : Option ℕ) (e : End) → entered raw mark (retagged f last e) ≡ retagged f last (entered raw mark e)
entered_so f last raw mark e = leveled_so f last (record e { inbox = e.inbox ++ record { number = e.came; incoming = record { raw = raw; mark = mark } } ∷ [] })

heard_so : (f : Tag → Tag) (last : ℕ) (raw : List ℕ) (mark : Option ℕ) (message : Result MessageValue MessageFault) (e : End) → heard raw mark message (retagged f last e) ≡ retagged f last (heard raw mark message e)
heard_so f last raw mark (Err fault) e = refl
heard_so f last raw mark (Ok (flow level)) e = released_so f last (record e { told = level })
heard_so f last raw mark (Ok (command token service name body)) e = entered_so f last raw mark e
heard_so f last raw mark (Ok (final token body)) e = entered_so f last raw mark e
heard_so f last raw mark (Ok (progress token body)) e = entered_so f last raw mark e
heard_so f last raw mark (Ok (not_known token)) e = entered_so f last raw mark e
heard_so f last raw mark (Ok (event service name body)) e = entered_so f last raw mark e

item_so : (f : Tag → Tag) (last : ℕ) (mark : Option ℕ) (item : Item) (e : End) → item_came mark item (retagged f last e) ≡ retagged f last (item_came mark item e)
item_so f last mark (items.Message raw) e = heard_so f last raw mark (reading raw) (record e { came = counted e.came })
item_so f last mark items.End e = refl

came_so : (f : Tag → Tag) (last : ℕ) (mark : Option ℕ) (list : List Item) (e : End) → came_by mark list (retagged f last e) ≡ retagged f last (came_by mark list e)
came_so f last mark [] e = refl
came_so f last mark (item ∷ list) e =
    ap (λ (x : End). came_by mark list (cond (is_over e) (retagged f last e) x)) (item_so f last mark item e)
    ∙ ap (came_by mark list) (either_so f last (is_over e) e (item_came mark item e))
    ∙ came_so f last mark list (cond (is_over e) e (item_came mark item e))

stopped_so : (f : Tag → Tag) (last : ℕ) (answer : Result Unit StreamFault) (e : End) → stopped_by answer (retagged f last e) ≡ retagged f last (stopped_by answer e)
stopped_so f last (Ok done) e = refl
stopped_so f last (Err fault) e = either_so f last (is_over e) e (with_last (Stream fault) e)

pub delivered_so : (f : Tag → Tag) (last : ℕ) (piece : List ℕ) (mark : Option ℕ) (e : End) → delivered piece mark (retagged f last e) ≡ retagged f last (delivered piece mark e)
delivered_so f last piece mark e =
    let given = fed piece e.stream in
    let begun : End = record e { stream = given.reader } in
    ap (stopped_by given.answer) (came_so f last mark given.items begun) ∙ stopped_so f last given.answer (came_by mark given.items begun)

pub ended_so : (f : Tag → Tag) (last : ℕ) (e : End) → ended (retagged f last e) ≡ retagged f last (ended e)
ended_so f last e = either_so f last (is_over e) e (with_last Ended e)

pub closed_so : (f : Tag → Tag) (last : ℕ) (e : End) → closed_own (retagged f last e) ≡ retagged f last (closed_own e)
closed_so f last e = either_so f last (is_closed e.state) e (closed_for Own e)

pub queued_so : (f : Tag → Tag) (last : ℕ) (message : MessageValue) (mark : Option ℕ) (e : End) → queued message mark (retagged f last e) ≡ retagged f last (queued message mark e)
queued_so f last message mark e = either_so f last (is_closed e.state) e (record e { queued = e.queued ++ said message mark ∷ [] })

-- ---- the place of a pending command

named_so : (f : Tag → Tag) (token : List ℕ) (rows : List Row) → place_of token (retagged_rows f rows) ≡ place_of token rows
named_so f token [] = refl
named_so f token (row ∷ rows) =
    let p : Row → Bool = λ r. bytes_eq token (decimal r.0) in
    position_step p (retagged_row f row) (retagged_rows f rows) ∙ ap (λ (o : Option ℕ). cond (p row) (Some 0) (option_map suc o)) (named_so f token rows) ∙ sym (position_step p row rows)

pub got_so : (f : Tag → Tag) (place : ℕ) (rows : List Row) → slice_get (retagged_rows f rows) place ≡ option_map (retagged_row f) (slice_get rows place)
got_so f place [] = refl
got_so f zero (row ∷ rows) = refl
got_so f (suc place) (row ∷ rows) = got_so f place rows

removed_so : (f : Tag → Tag) (place : ℕ) (rows : List Row) → remove (retagged_rows f rows) place ≡ retagged_rows f (remove rows place)
removed_so f zero [] = refl
removed_so f (suc place) [] = refl
removed_so f zero (row ∷ rows) = refl
removed_so f (suc place) (row ∷ rows) = ap (λ (rs : List Row). retagged_row f row ∷ rs) (removed_so f place rows)

unheld_so : (f : Tag → Tag) (place : ℕ) (row : Option Row) (held : List Held) → unless_held place (option_map (retagged_row f) row) held ≡ unless_held place row held
unheld_so f place None held = refl
unheld_so f place (Some row) held = refl

sent_at_so : (f : Tag → Tag) (place : Option ℕ) (rows : List Row) (held : List Held) → sent_at place (retagged_rows f rows) held ≡ sent_at place rows held
sent_at_so f None rows held = refl
sent_at_so f (Some place) rows held = ap (λ (o : Option Row). unless_held place o held) (got_so f place rows) ∙ unheld_so f place (slice_get rows place) held

sent_place_so : (f : Tag → Tag) (last : ℕ) (token : List ℕ) (e : End) → sent_place token (retagged f last e) ≡ sent_place token e
sent_place_so f last token e =
    ap (λ (o : Option ℕ). sent_at o (retagged_rows f e.pending) e.held) (named_so f token e.pending) ∙ sent_at_so f (place_of token e.pending) e.pending e.held

number_so : (f : Tag → Tag) (row : Option Row) → option_map (λ (r : Row). r.0) (option_map (retagged_row f) row) ≡ option_map (λ (r : Row). r.0) row
number_so f None = refl
number_so f (Some row) = refl

pub tag_so : (f : Tag → Tag) (token : ℕ) (rows : List Row) → tag_of token (retagged_rows f rows) ≡ option_map f (tag_of token rows)
tag_so f token [] = refl
tag_so f token (row ∷ rows) = by_flag (row.0 == token) (tag_so f token rows)
  where
    is_it : Row → Bool
    is_it r = r.0 == token

    by_flag : (flag : Bool) → tag_of token (retagged_rows f rows) ≡ option_map f (tag_of token rows)
        → option_map (λ (r : Row). r.1) (cond flag (Some (retagged_row f row)) (find is_it (retagged_rows f rows)))
        ≡ option_map f (option_map (λ (r : Row). r.1) (cond flag (Some row) (find is_it rows)))
    by_flag true rest = refl
    by_flag false rest = rest

pub as_many : (f : Tag → Tag) (rows : List Row) → length (retagged_rows f rows) ≡ length rows
as_many f [] = refl
as_many f (row ∷ rows) = ap suc (as_many f rows)

pub one_more : (f : Tag → Tag) (rows : List Row) (row : Row) → retagged_rows f (rows ++ row ∷ []) ≡ retagged_rows f rows ++ retagged_row f row ∷ []
one_more f [] row = refl
one_more f (other ∷ rows) row = ap (λ (rs : List Row). retagged_row f other ∷ rs) (one_more f rows row)

-- ---- an entry is taken

judged_by_so : (f : Tag → Tag) (last : ℕ) (what : Said) (e : End) → judged_by what (retagged f last e) ≡ judged_by what e
judged_by_so f last greets e = refl
judged_by_so f last tells e = refl
judged_by_so f last asks e = refl
judged_by_so f last (goes_on token) e = ap progress_judged (sent_place_so f last token e)
judged_by_so f last (answers token done) e = ap (answer_judged done) (sent_place_so f last token e)

judged_so : (f : Tag → Tag) (last : ℕ) (what : Said) (e : End) → judged what (retagged f last e) ≡ judged what e
judged_so f last what e = ap (λ (j : Judged). cond (is_early e.state what) TooEarly j) (judged_by_so f last what e)

greeted_so : (f : Tag → Tag) (last : ℕ) (e : End) → greeted (retagged f last e) ≡ retagged f last (greeted e)
greeted_so f last e = released_so f last (record e { state = state_greeted e.state e.redirect })

redirected_so : (f : Tag → Tag) (last : ℕ) (done : Bool) (e : End) → redirected done (retagged f last e) ≡ retagged f last (redirected done e)
redirected_so f last true e = refl
redirected_so f last false e = released_so f last (record e { redirect = None; state = Live })

answered_so : (f : Tag → Tag) (last token : ℕ) (done : Bool) (e : End) → answered token done (retagged f last e) ≡ retagged f last (answered token done e)
answered_so f last token done e =
    ap (λ (x : End). cond (is_of token e.redirect) x (retagged f last e)) (redirected_so f last done e) ∙ either_so f last (is_of token e.redirect) (redirected done e) e

progressed_so : (f : Tag → Tag) (last number : ℕ) (incoming : Incoming) (token : Option ℕ) (e : End)
    → progressed number incoming token (retagged f last e) ≡ retagged_next f last (progressed number incoming token e)
progressed_so f last number incoming None e = refl
progressed_so f last number incoming (Some token) e = ap {B = Option (Taken Tag) × End} (λ (x : End). (Some (Progress token incoming), x)) (leveled_so f last e)

finished_so : (f : Tag → Tag) (last number : ℕ) (incoming : Incoming) (place : ℕ) (done : Bool) (row : Option Row) (e : End)
    → finished number incoming place done (option_map (retagged_row f) row) (retagged f last e) ≡ retagged_next f last (finished number incoming place done row e)
finished_so f last number incoming place done None e = refl
finished_so f last number incoming place done (Some row) e =
    let left : End = record e { pending = remove e.pending place } in
    let answer : Taken Tag = Final (f row.1) incoming in
    ap {B = Option (Taken Tag) × End} (λ (rs : List Row). (Some answer, answered row.0 done (leveled (record (retagged f last e) { pending = rs })))) (removed_so f place e.pending)
    ∙ ap {B = Option (Taken Tag) × End} (λ (x : End). (Some answer, answered row.0 done x)) (leveled_so f last left)
    ∙ ap {B = Option (Taken Tag) × End} (λ (x : End). (Some answer, x)) (answered_so f last row.0 done (leveled left))

taken_as_so : (f : Tag → Tag) (last number : ℕ) (incoming : Incoming) (judgement : Judged) (e : End)
    → taken_as number incoming judgement (retagged f last e) ≡ retagged_next f last (taken_as number incoming judgement e)
taken_as_so f last number incoming TooEarly e = refl
taken_as_so f last number incoming Stray e = refl
taken_as_so f last number incoming Greets e =
    ap {B = Option (Taken Tag) × End} (λ (x : End). (Some (Hello incoming), greeted x)) (leveled_so f last e)
    ∙ ap {B = Option (Taken Tag) × End} (λ (x : End). (Some (Hello incoming), x)) (greeted_so f last (leveled e))
taken_as_so f last number incoming Tells e = ap {B = Option (Taken Tag) × End} (λ (x : End). (Some (Event incoming), x)) (leveled_so f last e)
taken_as_so f last number incoming Asks e = ap {B = Option (Taken Tag) × End} (λ (x : End). (Some (Command incoming), x)) (leveled_so f last e)
taken_as_so f last number incoming (GoesOn place) e =
    ap (λ (o : Option ℕ). progressed number incoming o (retagged f last e)) (ap (option_map (λ (r : Row). r.0)) (got_so f place e.pending) ∙ number_so f (slice_get e.pending place))
    ∙ progressed_so f last number incoming (number_at place e.pending) e
taken_as_so f last number incoming (Answers place done) e =
    ap (λ (o : Option Row). finished number incoming place done o (retagged f last e)) (got_so f place e.pending)
    ∙ finished_so f last number incoming place done (slice_get e.pending place) e

stop_so : (f : Tag → Tag) (last : ℕ) (stop : Option Cause) (e : End) → stop_taken stop (retagged f last e) ≡ retagged_next f last (stop_taken stop e)
stop_so f last None e = refl
stop_so f last (Some cause) e = refl

taken_so : (f : Tag → Tag) (last : ℕ) (inbox : List Arrived) (e : End) → taken_from inbox (retagged f last e) ≡ retagged_next f last (taken_from inbox e)
taken_so f last [] e = stop_so f last e.stop e
taken_so f last (arrived ∷ inbox) e =
    let left : End = record e { inbox = inbox } in
    let what = said_in arrived.incoming.raw in
    ap (λ (j : Judged). taken_as arrived.number arrived.incoming j (retagged f last left)) (judged_so f last what left)
    ∙ taken_as_so f last arrived.number arrived.incoming (judged what left) left

pub next_so : (f : Tag → Tag) (last : ℕ) (e : End) → next_taken (retagged f last e) ≡ retagged_next f last (next_taken e)
next_so f last e = taken_so f last e.inbox e

-- ---- a command; its token is the next one

pub held_so : (f : Tag → Tag) (last : ℕ) (h : Held) (e : End) → sent_or_held h (retagged f last e) ≡ retagged f last (sent_or_held h e)
held_so f last h e =
    ap (λ (x : End). cond (is_free e) x (retagged f last (record e { held = e.held ++ h ∷ [] }))) (sent_so f last h e)
    ∙ either_so f last (is_free e) (sent_out h e) (record e { held = e.held ++ h ∷ [] })

-- the last token aside
abbrev pub retagged_still : (Tag → Tag) → End → End
retagged_still f e = retagged f e.last e

pub last_by : (f : Tag → Tag) (e next : End) → retagged f e.last next ≡ next → next.last ≡ e.last
last_by f e next is = sym (ap (λ (x : End). x.last) is)

abbrev pub same_tag : Tag → Tag
same_tag tag = tag

same_rows : (rows : List Row) → retagged_rows same_tag rows ≡ rows
same_rows [] = refl
same_rows (row ∷ rows) = ap (λ (rs : List Row). row ∷ rs) (same_rows rows)

pub same_end : (e : End) → e.is_spent ≡ false → retagged same_tag e.last e ≡ e
same_end e fresh =
    ap (λ (rs : List Row). record e { pending = rs; is_spent = false }) (same_rows e.pending) ∙ ap (λ (b : Bool). record e { is_spent = b }) (sym fresh)

-- what a call of the end makes of it has the same last token, and memory isn't wanting
pub record Stays (e next : End) : Type 0 where
  pub last : next.last ≡ e.last
  pub fresh : next.is_spent ≡ false

pub stays_by : (call : End → End) (e : End) → e.is_spent ≡ false → ((f : Tag → Tag) (last : ℕ) → call (retagged f last e) ≡ retagged f last (call e)) → Stays e (call e)
stays_by call e fresh so =
    let is : call e ≡ retagged same_tag e.last (call e) = ap call (sym (same_end e fresh)) ∙ so same_tag e.last in
    record { last = ap (λ (x : End). x.last) is; fresh = ap (λ (x : End). x.is_spent) is }
