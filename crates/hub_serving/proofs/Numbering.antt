-- A hub does the same under the numbers of its commands as under their keys.
use Rattle.std.proofs.Common.{◌≡◌, ◌≢◌, ◌⊎◌, inl, inr, ℕ, zero, suc, ◌+◌, ◌-◌, ◌^◌, ◌<◌, ◌≤◌, ◌==◌, Bool, true, false, cond, ◌&&◌, ◌||◌, nat_lt, nat_le, List, [], ◌∷◌, ◌++◌, length, map, Option, Some, None, Result, Ok, Err, refl, sym, ap, ◌∙◌, subst, arith, eqb-true}
use Rattle.std.specs.Prelude.{drop, is_some, min, option_map, replicate, slice_get, slice_set}
use Rattle.std.specs.List.{AllByRecursion}
use Rattle.std.proofs.lemmas.Bool.{and_parts, eq-eqb, ne_eqb}
use Rattle.channel_core.specs.Beginning.{tag_of}
use Rattle.channel_core.specs.Closing.{closed_for, closed_own, is_closed}
use Rattle.channel_core.specs.EndValue.{unless_spent}
use Rattle.channel_core.specs.Holding.{is_live}
use Rattle.channel_core.specs.Receiving.{came_by, delivered, ended, is_over, item_came, stopped_by, with_last}
use Rattle.channel_core.specs.Sending.{commanded, last_token, made, most_pending, queued, refusal_of, refusal_to, sent_or_held}
use Rattle.channel_core.specs.Taking.{next_taken, stop_taken, taken_from}
use Rattle.channel_core.specs.Wire.{is_redirect}
use Rattle.channel_core.specs.declared.held.Held.{Held}
use Rattle.channel_core.specs.declared.held.Incoming.{Incoming}
use Rattle.channel_core.specs.declared.sending.SendRefusal.{SendRefusal}
use Rattle.channel_core.specs.declared.sending.SendRefusal.TheVariants.{Full, NotOpen, TooLong, Spent}
use Rattle.channel_core.specs.declared.states.Cause.TheVariants.{Ended, Own, Stream}
use Rattle.channel_core.specs.declared.states.EndState.{EndState}
use Rattle.channel_core.specs.declared.states.EndState.TheVariants.{Opening, Live, Reopening, Closed as IsClosed}
use Rattle.channel_core.specs.declared.taking.Taken.{Taken}
use Rattle.channel_core.specs.declared.taking.Taken.TheVariants as taken
use Rattle.channel_list.specs.Channels.{place_of}
use Rattle.channel_list.specs.declared.channel.Channel.{Channel}
use Rattle.stream_escape.specs.Fed.{fed}
use Rattle.stream_escape.specs.declared.stream.Item.{Item}
use Rattle.stream_escape.specs.declared.stream.StreamFault.{StreamFault}
use Rattle.tcf_message.specs.Message.{MessageValue, command, event, final, flow, most_body, not_known, progress, reading}
use Rattle.tcf_message.specs.declared.message.MessageFault.{MessageFault}
use Rattle.link_pool.specs.Lists.{item_of}
use Rattle.hub_node.specs.Board.{dropped, found, kept, left}
use Rattle.hub_node.specs.BoardValue.{BoardValue}
use Rattle.channel_core.specs.Runs.{unless_refused}
use Rattle.hub_node.specs.Relay.{after_giving_at, all_closed, answered, asked, begun, came_at, ended_at, event_told, final_told, finished, forwarded, forwarded_as, found_by, given_at, gone, greeted, is_live_at, is_refused, new_relay, next_at, next_below, next_on, opened_at, progress_told, refused_above, tag_for, takes_below, took_above, took_any_above, took_any_below, took_below, turned_above, turned_at, turned_below, waiting_at, waits_as}
use Rattle.hub_node.specs.RelayValue.{RelayValue}
use Rattle.hub_node.specs.WaitingValue.{WaitingValue}
use Rattle.hub_node.specs.declared.side.HubSide.{HubSide}
use Rattle.hub_node.specs.declared.side.HubSide.TheVariants.{Above, Below}
use Rattle.hub_node.specs.declared.waiting.Tag.{Tag}
use Rattle.hub_serving.specs.Numbered.{AreKept, GoTogether, IsKept, IsOver, RowIsKept, kept_tag, numbered_board, numbered_end, numbered_relay, numbered_tag}
use Rattle.hub_serving.proofs.Boards.{HasNot, both_kept, dropped_kept, dropped_same, found_same, kept_kept, kept_renamed, left_kept, left_same, none_has}
use Rattle.hub_serving.proofs.Retagged.{End, Row, Stays, as_many, closed_so, delivered_so, ended_so, held_so, next_so, one_more, queued_so, retagged, retagged_next, retagged_row, retagged_rows, retagged_taken, stays_by, tag_so}

-- ---- a call of the end

abbrev IsAnyTags : (End → End) → Type 0
IsAnyTags call = (f : Tag → Tag) (last : ℕ) (e : End) → call (retagged f last e) ≡ retagged f last (call e)

stays : (call : End → End) (e : End) → e.is_spent ≡ false → IsAnyTags call → Stays e (call e)
stays call e fresh so = stays_by call e fresh (λ f last. so f last e)

numbered_is : (e : End) → e.is_spent ≡ false → numbered_end e ≡ retagged numbered_tag e.last e
numbered_is e fresh = ap (λ (b : Bool). record e { pending = retagged_rows numbered_tag e.pending; is_spent = b }) fresh

is_numbered : (e next : End) → Stays e next → retagged numbered_tag e.last next ≡ numbered_end next
is_numbered e next s =
    ap (λ (n : ℕ). record next { pending = retagged_rows numbered_tag next.pending; last = n; is_spent = false }) (sym s.last)
    ∙ ap (λ (b : Bool). record next { pending = retagged_rows numbered_tag next.pending; is_spent = b }) (sym s.fresh)

pub end_so : (call : End → End) (e : End) → e.is_spent ≡ false → IsAnyTags call → call (numbered_end e) ≡ numbered_end (call e)
end_so call e fresh so = ap call (numbered_is e fresh) ∙ so numbered_tag e.last e ∙ is_numbered e (call e) (stays call e fresh so)

next_tags : IsAnyTags (λ (e : End). (next_taken e).1)
next_tags f last e = ap (λ (t : Option (Taken Tag) × End). t.1) (next_so f last e)

abbrev numbered_next : Option (Taken Tag) × End → Option (Taken Tag) × End
numbered_next t = (option_map (retagged_taken numbered_tag) t.0, numbered_end t.1)

next_numbered : (e : End) → e.is_spent ≡ false → next_taken (numbered_end e) ≡ numbered_next (next_taken e)
next_numbered e fresh =
    ap next_taken (numbered_is e fresh) ∙ next_so numbered_tag e.last e
    ∙ ap {B = Option (Taken Tag) × End} (λ (x : End). (option_map (retagged_taken numbered_tag) (next_taken e).0, x)) (is_numbered e (next_taken e).1 (stays (λ (x : End). (next_taken x).1) e fresh next_tags))

-- ---- tags that are kept

abbrev AreTags : (ℕ → ℕ) → ℕ → List Row → Type 0
AreTags key_of last rows = retagged_rows (kept_tag key_of last) rows ≡ rows

kept_end : (key_of : ℕ → ℕ) (e : End) → e.is_spent ≡ false → AreTags key_of e.last e.pending → retagged (kept_tag key_of e.last) e.last e ≡ e
kept_end key_of e fresh tags =
    ap (λ (rs : List Row). record e { pending = rs; is_spent = false }) tags ∙ ap (λ (b : Bool). record e { is_spent = b }) (sym fresh)

tags_stay : (key_of : ℕ → ℕ) (call : End → End) (e : End) → e.is_spent ≡ false → AreTags key_of e.last e.pending → IsAnyTags call → AreTags key_of e.last (call e).pending
tags_stay key_of call e fresh tags so =
    let is : call e ≡ retagged (kept_tag key_of e.last) e.last (call e) = ap call (sym (kept_end key_of e fresh tags)) ∙ so (kept_tag key_of e.last) e.last e in
    sym (ap (λ (x : End). x.pending) is)

abbrev KeptWhat : (ℕ → ℕ) → Option (Taken Tag) → Type 0
KeptWhat key_of None = Unit {0}
KeptWhat key_of (Some (taken.Hello incoming)) = Unit {0}
KeptWhat key_of (Some (taken.Command incoming)) = Unit {0}
KeptWhat key_of (Some (taken.Event incoming)) = Unit {0}
KeptWhat key_of (Some (taken.Progress token incoming)) = Unit {0}
KeptWhat key_of (Some (taken.Final tag incoming)) = tag.key ≡ key_of tag.serial
KeptWhat key_of (Some (taken.Closed cause)) = Unit {0}

what_kept : (key_of : ℕ → ℕ) (last : ℕ) (what : Option (Taken Tag)) → what ≡ option_map (retagged_taken (kept_tag key_of last)) what → KeptWhat key_of what
what_kept key_of last None is = tt
what_kept key_of last (Some (taken.Hello incoming)) is = tt
what_kept key_of last (Some (taken.Command incoming)) is = tt
what_kept key_of last (Some (taken.Event incoming)) is = tt
what_kept key_of last (Some (taken.Progress token incoming)) is = tt
what_kept key_of last (Some (taken.Final tag incoming)) is = let same : tag ≡ kept_tag key_of last tag = cc in ap (λ (t : Tag). t.key) same
what_kept key_of last (Some (taken.Closed cause)) is = tt

next_kept : (key_of : ℕ → ℕ) (e : End) → e.is_spent ≡ false → AreTags key_of e.last e.pending → KeptWhat key_of (next_taken e).0
next_kept key_of e fresh tags =
    what_kept key_of e.last (next_taken e).0
    (ap (λ (x : End). (next_taken x).0) (sym (kept_end key_of e fresh tags)) ∙ ap (λ (t : Option (Taken Tag) × End). t.0) (next_so (kept_tag key_of e.last) e.last e))

tag_kept : (key_of : ℕ → ℕ) (last : ℕ) (one : Option Tag) → one ≡ option_map (kept_tag key_of last) one → (tag : Tag) → one ≡ Some tag → tag.key ≡ key_of tag.serial
tag_kept key_of last None is tag there = absurd cc
tag_kept key_of last (Some other) is tag there =
    let same : other ≡ kept_tag key_of last other = cc in
    let its : other ≡ tag = cc in
    subst (λ (t : Tag). t.key ≡ key_of t.serial) its (ap (λ (t : Tag). t.key) same)

named_kept : (key_of : ℕ → ℕ) (last token : ℕ) (rows : List Row) → AreTags key_of last rows → (tag : Tag) → tag_of token rows ≡ Some tag → tag.key ≡ key_of tag.serial
named_kept key_of last token rows tags =
    tag_kept key_of last (tag_of token rows) (ap (tag_of token) (sym tags) ∙ tag_so (kept_tag key_of last) token rows)

-- ---- what was taken from above

event_so : (mark : Option ℕ) (m : Result MessageValue MessageFault) (r : RelayValue) → event_told mark m (numbered_relay r) ≡ numbered_relay (event_told mark m r)
unfolding event_told
event_so mark (Ok (event service name body)) r = refl
event_so mark (Ok (command token service name body)) r = refl
event_so mark (Ok (final token body)) r = refl
event_so mark (Ok (progress token body)) r = refl
event_so mark (Ok (not_known token)) r = refl
event_so mark (Ok (flow level)) r = refl
event_so mark (Err fault) r = refl

greeted_so : (incoming : Incoming) (r : RelayValue) → greeted incoming (numbered_relay r) ≡ numbered_relay (greeted incoming r)
unfolding greeted
greeted_so incoming r = by_flag r.is_bound
  where
    by_flag : (flag : Bool) → cond flag (event_told incoming.mark (reading incoming.raw) (numbered_relay r)) (record (numbered_relay r) { is_bound = true })
        ≡ numbered_relay (cond flag (event_told incoming.mark (reading incoming.raw) r) (record r { is_bound = true }))
    by_flag true = event_so incoming.mark (reading incoming.raw) r
    by_flag false = refl

refused_so : (m : Result MessageValue MessageFault) (r : RelayValue) → r.upper.is_spent ≡ false → refused_above m (numbered_relay r) ≡ numbered_relay (refused_above m r)
unfolding refused_above
refused_so (Ok (command token service name body)) r fresh =
    ap (λ (u : End). record r { upper = u; board = numbered_board r.board }) (end_so (queued (not_known token) None) r.upper fresh (λ f last e. queued_so f last (not_known token) None e))
refused_so (Ok (event service name body)) r fresh = refl
refused_so (Ok (final token body)) r fresh = refl
refused_so (Ok (progress token body)) r fresh = refl
refused_so (Ok (not_known token)) r fresh = refl
refused_so (Ok (flow level)) r fresh = refl
refused_so (Err fault) r fresh = refl

progress_so : (w : Option WaitingValue) (mark : Option ℕ) (m : Result MessageValue MessageFault) (r : RelayValue) → progress_told w mark m (numbered_relay r) ≡ numbered_relay (progress_told w mark m r)
unfolding progress_told
progress_so (Some w) mark (Ok (progress token body)) r = refl
progress_so (Some w) mark (Ok (command token service name body)) r = refl
progress_so (Some w) mark (Ok (event service name body)) r = refl
progress_so (Some w) mark (Ok (final token body)) r = refl
progress_so (Some w) mark (Ok (not_known token)) r = refl
progress_so (Some w) mark (Ok (flow level)) r = refl
progress_so (Some w) mark (Err fault) r = refl
progress_so None mark m r = refl

final_so : (w : Option WaitingValue) (mark : Option ℕ) (m : Result MessageValue MessageFault) (r : RelayValue) → final_told w mark m (numbered_relay r) ≡ numbered_relay (final_told w mark m r)
unfolding final_told
final_so (Some w) mark (Ok (final token body)) r = refl
final_so (Some w) mark (Ok (not_known token)) r = refl
final_so (Some w) mark (Ok (command token service name body)) r = refl
final_so (Some w) mark (Ok (event service name body)) r = refl
final_so (Some w) mark (Ok (progress token body)) r = refl
final_so (Some w) mark (Ok (flow level)) r = refl
final_so (Some w) mark (Err fault) r = refl
final_so None mark m r = refl

unspent : (e : End) → e.is_spent ≡ false → unless_spent e e (closed_own e) ≡ closed_own e
unspent e fresh = ap (λ (b : Bool). cond b e (closed_own e)) fresh

closed_tags : IsAnyTags closed_own
closed_tags f last e = closed_so f last e

all_closed_so : (r : RelayValue) → r.upper.is_spent ≡ false → all_closed (numbered_relay r) ≡ numbered_relay (all_closed r)
unfolding all_closed
all_closed_so r fresh =
    ap (λ (b : Bool). record r { upper = cond b (numbered_end r.upper) (closed_own (numbered_end r.upper)); lowers = (all_closed r).lowers; board = numbered_board r.board }) fresh
    ∙ ap (λ (u : End). record r { upper = u; lowers = (all_closed r).lowers; board = numbered_board r.board }) (end_so closed_own r.upper fresh closed_tags ∙ ap numbered_end (sym (unspent r.upper fresh)))

found_by_so : (key_of number_of : ℕ → ℕ) (last : ℕ) (one : Option Tag) (r : RelayValue) → ((tag : Tag) → one ≡ Some tag → tag.key ≡ key_of tag.serial) → AreKept key_of number_of last r.board.lists
    → found_by (option_map numbered_tag one) (numbered_relay r) ≡ found_by one r
found_by_so key_of number_of last None r keyed rows = refl
found_by_so key_of number_of last (Some tag) r keyed rows = found_same key_of number_of last tag r.board (keyed tag refl) rows

abbrev pub numbered_result : Bool × RelayValue → Bool × RelayValue
numbered_result t = (t.0, numbered_relay t.1)

took_so : (key_of number_of : ℕ → ℕ) (last : ℕ) (what : Option (Taken Tag)) (r : RelayValue) → r.upper.is_spent ≡ false → AreKept key_of number_of last r.board.lists
    → AreTags key_of last r.upper.pending → KeptWhat key_of what
    → took_any_above (option_map (retagged_taken numbered_tag) what) (numbered_relay r) ≡ numbered_result (took_any_above what r)
unfolding took_above finished
took_so key_of number_of last None r fresh rows tags keyed = refl
took_so key_of number_of last (Some (taken.Hello incoming)) r fresh rows tags keyed = ap {B = Bool × RelayValue} (λ (x : RelayValue). (true, x)) (greeted_so incoming r)
took_so key_of number_of last (Some (taken.Command incoming)) r fresh rows tags keyed = ap {B = Bool × RelayValue} (λ (x : RelayValue). (true, x)) (refused_so (reading incoming.raw) r fresh)
took_so key_of number_of last (Some (taken.Event incoming)) r fresh rows tags keyed = ap {B = Bool × RelayValue} (λ (x : RelayValue). (true, x)) (event_so incoming.mark (reading incoming.raw) r)
took_so key_of number_of last (Some (taken.Progress token incoming)) r fresh rows tags keyed =
    let same : found_by (tag_of token (retagged_rows numbered_tag r.upper.pending)) (numbered_relay r) ≡ found_by (tag_of token r.upper.pending) r =
    ap (λ (o : Option Tag). found_by o (numbered_relay r)) (tag_so numbered_tag token r.upper.pending)
    ∙ found_by_so key_of number_of last (tag_of token r.upper.pending) r (named_kept key_of last token r.upper.pending tags) rows in
    ap {B = Bool × RelayValue} (λ (w : Option WaitingValue). (true, progress_told w incoming.mark (reading incoming.raw) (numbered_relay r))) same
    ∙ ap {B = Bool × RelayValue} (λ (x : RelayValue). (true, x)) (progress_so (found_by (tag_of token r.upper.pending) r) incoming.mark (reading incoming.raw) r)
took_so key_of number_of last (Some (taken.Final tag incoming)) r fresh rows tags keyed =
    let f = found_same key_of number_of last tag r.board keyed rows in
    let d = dropped_same key_of number_of last tag r.board keyed rows in
    let q : RelayValue = record r { board = dropped tag r.board } in
    ap {B = Bool × RelayValue} (λ (w : Option WaitingValue). (true, final_told w incoming.mark (reading incoming.raw) (record (numbered_relay r) { board = dropped (numbered_tag tag) (numbered_board r.board) }))) f
    ∙ ap {B = Bool × RelayValue} (λ (b : BoardValue). (true, final_told (found tag r.board) incoming.mark (reading incoming.raw) (record (numbered_relay r) { board = b }))) d
    ∙ ap {B = Bool × RelayValue} (λ (x : RelayValue). (true, x)) (final_so (found tag r.board) incoming.mark (reading incoming.raw) q)
took_so key_of number_of last (Some (taken.Closed cause)) r fresh rows tags keyed = ap {B = Bool × RelayValue} (λ (x : RelayValue). (true, x)) (all_closed_so r fresh)

-- ---- an upper end that is over

over_next : (e : End) → e.inbox ≡ [] → e.stop ≡ None → next_taken e ≡ (None, e)
over_next e emptied stopped = ap (λ inbox. taken_from inbox e) emptied ∙ ap (λ stop. stop_taken stop e) stopped

pub over_turned : (r : RelayValue) → IsOver r → turned_above r ≡ (false, r)
unfolding turned_above
over_turned r over = ap (λ (t : Option (Taken Tag) × End). took_any_above t.0 (record r { upper = t.1 })) (over_next r.upper over.emptied over.stopped)

over_numbered : (r : RelayValue) → IsOver r → IsOver (numbered_relay r)
over_numbered r over = record { closed = over.closed; emptied = over.emptied; stopped = over.stopped }

closed_dead : (s : EndState) → is_closed s ≡ true → is_live s ≡ false
closed_dead Opening is = refl
closed_dead Live is = let both : false ≡ true = is in absurd cc
closed_dead Reopening is = refl
closed_dead (IsClosed cause) is = refl

pub over_below : (key j : ℕ) (r : RelayValue) → takes_below r ≡ false → turned_below key j r ≡ (false, r)
unfolding next_below
over_below key j r off = ap (λ (b : Bool). took_any_below key j (cond b (next_at (place_of j r.lowers) r) (None, r)).0 (cond b (next_at (place_of j r.lowers) r) (None, r)).1) off

pub over_takes : (r : RelayValue) → IsOver r → takes_below r ≡ false
over_takes r over = ap (λ (b : Bool). b && nat_lt (length r.upper.pending) 1024) (closed_dead r.upper.state over.closed)

-- ---- a turn above

above_kept : (r : RelayValue) → r.upper.is_spent ≡ false → IsKept r → turned_above (numbered_relay r) ≡ numbered_result (turned_above r)
unfolding turned_above
above_kept r fresh k =
    let next = next_taken r.upper in
    let s = stays (λ (x : End). (next_taken x).1) r.upper fresh next_tags in
    ap (λ (t : Option (Taken Tag) × End). took_any_above t.0 (record r { upper = t.1; board = numbered_board r.board })) (next_numbered r.upper fresh)
    ∙ took_so k.key_of k.number_of r.upper.last next.0 (record r { upper = next.1 }) s.fresh k.rows (tags_stay k.key_of (λ (x : End). (next_taken x).1) r.upper fresh k.tags next_tags)
    (next_kept k.key_of r.upper fresh k.tags)

pub kept_of : (r : RelayValue) → GoTogether r → (P : Type 0) → (IsOver r → P) → (IsKept r → P) → P
kept_of r g P over kept = elim g.rest [ inl o ↦ over o | inr k ↦ kept k ]

pub above_so : (r : RelayValue) → GoTogether r → turned_above (numbered_relay r) ≡ numbered_result (turned_above r)
above_so r g =
    kept_of r g (turned_above (numbered_relay r) ≡ numbered_result (turned_above r)) (λ over. over_turned (numbered_relay r) (over_numbered r over) ∙ sym (ap numbered_result (over_turned r over)))
    (λ kept. above_kept r g.fresh kept)

-- it stays so: what is kept of a hub whose end has the same last token, and tags and rows that are kept
together_by : (key_of number_of : ℕ → ℕ) (last : ℕ) (r : RelayValue) → r.upper.is_spent ≡ false → r.upper.last ≡ last → AreKept key_of number_of last r.board.lists → AreTags key_of last r.upper.pending
    → GoTogether r
together_by key_of number_of last r fresh same rows tags =
    record {
      fresh = fresh;
      rest = inr (record {
        key_of = key_of;
        number_of = number_of;
        rows = subst (λ (n : ℕ). AreKept key_of number_of n r.board.lists) (sym same) rows;
        tags = subst (λ (n : ℕ). AreTags key_of n r.upper.pending) (sym same) tags;
      });
    }

-- what a call of the end makes of a hub
together_called : (call : End → End) (r : RelayValue) (k : IsKept r) → r.upper.is_spent ≡ false → IsAnyTags call → GoTogether (record r { upper = call r.upper })
together_called call r k fresh so =
    let s = stays call r.upper fresh so in
    together_by k.key_of k.number_of r.upper.last (record r { upper = call r.upper }) s.fresh s.last k.rows (tags_stay k.key_of call r.upper fresh k.tags so)

-- what changes neither the end nor what is kept
abbrev pub Same : RelayValue → RelayValue → Type 0
Same r next = (next.upper ≡ r.upper) × (next.board ≡ r.board)

pub together_same : (r next : RelayValue) → Same r next → GoTogether r → GoTogether next
together_same r next same g =
    let P : End → BoardValue → Type 0 = λ u b. GoTogether (record next { upper = u; board = b }) in
    let with_upper : (rest : IsOver r ⊎ IsKept r) → GoTogether (record next { upper = r.upper; board = r.board }) = λ rest. elim rest [
      | inl over ↦ record { fresh = g.fresh; rest = inl (record { closed = over.closed; emptied = over.emptied; stopped = over.stopped }) }
      | inr k ↦ record { fresh = g.fresh; rest = inr (record { key_of = k.key_of; number_of = k.number_of; rows = k.rows; tags = k.tags }) }
    ] in
    subst (λ (b : BoardValue). P next.upper b) (sym same.1) (subst (λ (u : End). P u r.board) (sym same.0) (with_upper g.rest))

event_same : (mark : Option ℕ) (m : Result MessageValue MessageFault) (r : RelayValue) → Same r (event_told mark m r)
unfolding event_told
event_same mark (Ok (event service name body)) r = (refl, refl)
event_same mark (Ok (command token service name body)) r = (refl, refl)
event_same mark (Ok (final token body)) r = (refl, refl)
event_same mark (Ok (progress token body)) r = (refl, refl)
event_same mark (Ok (not_known token)) r = (refl, refl)
event_same mark (Ok (flow level)) r = (refl, refl)
event_same mark (Err fault) r = (refl, refl)

greeted_same : (incoming : Incoming) (r : RelayValue) → Same r (greeted incoming r)
unfolding greeted
greeted_same incoming r = by_flag r.is_bound
  where
    by_flag : (flag : Bool) → Same r (cond flag (event_told incoming.mark (reading incoming.raw) r) (record r { is_bound = true }))
    by_flag true = event_same incoming.mark (reading incoming.raw) r
    by_flag false = (refl, refl)

progress_same : (w : Option WaitingValue) (mark : Option ℕ) (m : Result MessageValue MessageFault) (r : RelayValue) → Same r (progress_told w mark m r)
unfolding progress_told
progress_same (Some w) mark (Ok (progress token body)) r = (refl, refl)
progress_same (Some w) mark (Ok (command token service name body)) r = (refl, refl)
progress_same (Some w) mark (Ok (event service name body)) r = (refl, refl)
progress_same (Some w) mark (Ok (final token body)) r = (refl, refl)
progress_same (Some w) mark (Ok (not_known token)) r = (refl, refl)
progress_same (Some w) mark (Ok (flow level)) r = (refl, refl)
progress_same (Some w) mark (Err fault) r = (refl, refl)
progress_same None mark m r = (refl, refl)

final_same : (w : Option WaitingValue) (mark : Option ℕ) (m : Result MessageValue MessageFault) (r : RelayValue) → Same r (final_told w mark m r)
unfolding final_told
final_same (Some w) mark (Ok (final token body)) r = (refl, refl)
final_same (Some w) mark (Ok (not_known token)) r = (refl, refl)
final_same (Some w) mark (Ok (command token service name body)) r = (refl, refl)
final_same (Some w) mark (Ok (event service name body)) r = (refl, refl)
final_same (Some w) mark (Ok (progress token body)) r = (refl, refl)
final_same (Some w) mark (Ok (flow level)) r = (refl, refl)
final_same (Some w) mark (Err fault) r = (refl, refl)
final_same None mark m r = (refl, refl)

all_closed_together : (r : RelayValue) (k : IsKept r) → r.upper.is_spent ≡ false → GoTogether (all_closed r)
unfolding all_closed
all_closed_together r k fresh =
    let q : RelayValue = record r { lowers = (all_closed r).lowers } in
    subst (λ (u : End). GoTogether (record q { upper = u })) (sym (unspent r.upper fresh))
    (together_called closed_own q (record { key_of = k.key_of; number_of = k.number_of; rows = k.rows; tags = k.tags }) fresh closed_tags)

refused_together : (m : Result MessageValue MessageFault) (r : RelayValue) (k : IsKept r) → r.upper.is_spent ≡ false → GoTogether (refused_above m r)
unfolding refused_above
refused_together (Ok (command token service name body)) r k fresh = together_called (queued (not_known token) None) r k fresh (λ f last e. queued_so f last (not_known token) None e)
refused_together (Ok (event service name body)) r k fresh = record { fresh = fresh; rest = inr k }
refused_together (Ok (final token body)) r k fresh = record { fresh = fresh; rest = inr k }
refused_together (Ok (progress token body)) r k fresh = record { fresh = fresh; rest = inr k }
refused_together (Ok (not_known token)) r k fresh = record { fresh = fresh; rest = inr k }
refused_together (Ok (flow level)) r k fresh = record { fresh = fresh; rest = inr k }
refused_together (Err fault) r k fresh = record { fresh = fresh; rest = inr k }

dropped_together : (tag : Tag) (r : RelayValue) (k : IsKept r) → r.upper.is_spent ≡ false → GoTogether (record r { board = dropped tag r.board })
dropped_together tag r k fresh =
    together_by k.key_of k.number_of r.upper.last (record r { board = dropped tag r.board }) fresh refl (dropped_kept (RowIsKept k.key_of k.number_of r.upper.last) tag r.board k.rows) k.tags

took_together : (what : Option (Taken Tag)) (r : RelayValue) (k : IsKept r) → r.upper.is_spent ≡ false → GoTogether (took_any_above what r).1
unfolding took_above finished
took_together None r k fresh = record { fresh = fresh; rest = inr k }
took_together (Some (taken.Hello incoming)) r k fresh = together_same r (greeted incoming r) (greeted_same incoming r) (record { fresh = fresh; rest = inr k })
took_together (Some (taken.Command incoming)) r k fresh = refused_together (reading incoming.raw) r k fresh
took_together (Some (taken.Event incoming)) r k fresh =
    together_same r (event_told incoming.mark (reading incoming.raw) r) (event_same incoming.mark (reading incoming.raw) r) (record { fresh = fresh; rest = inr k })
took_together (Some (taken.Progress token incoming)) r k fresh =
    let w = found_by (tag_of token r.upper.pending) r in
    together_same r (progress_told w incoming.mark (reading incoming.raw) r) (progress_same w incoming.mark (reading incoming.raw) r) (record { fresh = fresh; rest = inr k })
took_together (Some (taken.Final tag incoming)) r k fresh =
    let q : RelayValue = record r { board = dropped tag r.board } in
    let w = found tag r.board in
    together_same q (final_told w incoming.mark (reading incoming.raw) q) (final_same w incoming.mark (reading incoming.raw) q) (dropped_together tag r k fresh)
took_together (Some (taken.Closed cause)) r k fresh = all_closed_together r k fresh

above_kept_together : (r : RelayValue) → r.upper.is_spent ≡ false → IsKept r → GoTogether (turned_above r).1
unfolding turned_above
above_kept_together r fresh k =
    let next = next_taken r.upper in
    let s = stays (λ (x : End). (next_taken x).1) r.upper fresh next_tags in
    let q : RelayValue = record r { upper = next.1 } in
    let rows : AreKept k.key_of k.number_of next.1.last r.board.lists = subst (λ (n : ℕ). AreKept k.key_of k.number_of n r.board.lists) (sym s.last) k.rows in
    let tags : AreTags k.key_of next.1.last next.1.pending =
    subst (λ (n : ℕ). AreTags k.key_of n next.1.pending) (sym s.last) (tags_stay k.key_of (λ (x : End). (next_taken x).1) r.upper fresh k.tags next_tags) in
    took_together next.0 q (record { key_of = k.key_of; number_of = k.number_of; rows = rows; tags = tags }) s.fresh

pub above_together : (r : RelayValue) → GoTogether r → GoTogether (turned_above r).1
above_together r g =
    kept_of r g (GoTogether (turned_above r).1) (λ over. subst (λ (t : Bool × RelayValue). GoTogether t.1) (sym (over_turned r over)) g) (λ kept. above_kept_together r g.fresh kept)

-- ---- from below

abbrev pub number_of_next : RelayValue → ℕ
number_of_next r = r.upper.last + 1

takes_so : (r : RelayValue) → takes_below (numbered_relay r) ≡ takes_below r
takes_so r = ap (λ (n : ℕ). is_live r.upper.state && nat_lt n 1024) (as_many numbered_tag r.upper.pending)

abbrev numbered_lower : Option (Taken Unit) × RelayValue → Option (Taken Unit) × RelayValue
numbered_lower t = (t.0, numbered_relay t.1)

next_on_so : (place : ℕ) (lower : Option Channel) (r : RelayValue) → next_on place lower (numbered_relay r) ≡ numbered_lower (next_on place lower r)
next_on_so place None r = refl
next_on_so place (Some lower) r = refl

next_at_so : (place : Option ℕ) (r : RelayValue) → next_at place (numbered_relay r) ≡ numbered_lower (next_at place r)
next_at_so None r = refl
next_at_so (Some place) r = next_on_so place (slice_get r.lowers place) r

next_on_same : (place : ℕ) (lower : Option Channel) (r : RelayValue) → Same r (next_on place lower r).1
next_on_same place None r = (refl, refl)
next_on_same place (Some lower) r = (refl, refl)

next_at_same : (place : Option ℕ) (r : RelayValue) → Same r (next_at place r).1
next_at_same None r = (refl, refl)
next_at_same (Some place) r = next_on_same place (slice_get r.lowers place) r

refusal_so : (service name body : List ℕ) (e : End) → refusal_to service name body (numbered_end e) ≡ refusal_to service name body e
refusal_so service name body e =
    ap (λ (n : ℕ). cond (is_closed e.state) (Some NotOpen) (cond (nat_lt most_body (length service + length name + length body)) (Some TooLong) (cond (nat_le most_pending n) (Some Full) (cond (e.last == last_token) (Some Spent) None))))
    (as_many numbered_tag e.pending)

commanded_so : (key : ℕ) (service name body : List ℕ) (mark : Option ℕ) (e : End) → e.is_spent ≡ false
    → commanded service name body (record { key = e.last + 1; serial = e.last + 1 }) mark (numbered_end e)
    ≡ numbered_end (commanded service name body (record { key = key; serial = e.last + 1 }) mark e)
commanded_so key service name body mark e fresh =
    let h : Held = made (e.last + 1) service name body mark in
    let tag : Tag = record { key = key; serial = e.last + 1 } in
    ap (λ (x : End). record x { last = h.token; pending = x.pending ++ (h.token, numbered_tag tag) ∷ [] }) (end_so (sent_or_held h) e fresh (λ f last x. held_so f last h x))
    ∙ ap (λ (rs : List Row). record (sent_or_held h e) { last = h.token; pending = rs }) (sym (one_more numbered_tag (sent_or_held h e).pending (h.token, tag)))

forwarded_as_so : (key j : ℕ) (token service name body : List ℕ) (mark : Option ℕ) (r : RelayValue) → r.upper.is_spent ≡ false
    → forwarded_as (number_of_next r) j token service name body mark (numbered_relay r) ≡ numbered_relay (forwarded_as key j token service name body mark r)
forwarded_as_so key j token service name body mark r fresh =
    let w : WaitingValue = waits_as j token r in
    ap (λ (u : End). record r { upper = u; board = kept (number_of_next r) w (numbered_board r.board) }) (commanded_so key service name body mark r.upper fresh)
    ∙ ap (λ (b : BoardValue). record r { upper = numbered_end (commanded service name body (tag_for key r) mark r.upper); board = b }) (sym (kept_renamed key w r.board))

forwarded_so : (key j : ℕ) (token service name body : List ℕ) (mark : Option ℕ) (r : RelayValue) → r.upper.is_spent ≡ false
    → forwarded (number_of_next r) j token service name body mark (numbered_relay r) ≡ numbered_relay (forwarded key j token service name body mark r)
unfolding forwarded
forwarded_so key j token service name body mark r fresh = by_flag (r.upper.last == 2 ^ 64 - 1)
  where
    w : WaitingValue
    w = waits_as j token r

    q : RelayValue
    q = record r { board = kept key w r.board }

    closed_q : all_closed (record (numbered_relay r) { board = kept (number_of_next r) w (numbered_board r.board) }) ≡ numbered_relay (all_closed q)
    closed_q = ap (λ (b : BoardValue). all_closed (record (numbered_relay r) { board = b })) (sym (kept_renamed key w r.board)) ∙ all_closed_so q fresh

    by_why : (why : Option SendRefusal)
        → unless_refused why (all_closed (record (numbered_relay r) { board = kept (number_of_next r) w (numbered_board r.board) })) (forwarded_as (number_of_next r) j token service name body mark (numbered_relay r))
        ≡ numbered_relay (unless_refused why (all_closed q) (forwarded_as key j token service name body mark r))
    by_why None = forwarded_as_so key j token service name body mark r fresh
    by_why (Some why) = closed_q

    by_flag : (flag : Bool)
        → cond flag (all_closed (numbered_relay r))
        (unless_refused (refusal_to service name body (numbered_end r.upper)) (all_closed (record (numbered_relay r) { board = kept (number_of_next r) w (numbered_board r.board) })) (forwarded_as (number_of_next r) j token service name body mark (numbered_relay r)))
        ≡ numbered_relay (cond flag (all_closed r) (unless_refused (refusal_to service name body r.upper) (all_closed q) (forwarded_as key j token service name body mark r)))
    by_flag true = all_closed_so r fresh
    by_flag false =
        ap (λ (why : Option SendRefusal). unless_refused why (all_closed (record (numbered_relay r) { board = kept (number_of_next r) w (numbered_board r.board) })) (forwarded_as (number_of_next r) j token service name body mark (numbered_relay r)))
        (refusal_so service name body r.upper)
        ∙ by_why (refusal_to service name body r.upper)

asked_so : (key j : ℕ) (mark : Option ℕ) (m : Result MessageValue MessageFault) (r : RelayValue) → r.upper.is_spent ≡ false
    → asked (number_of_next r) j mark m (numbered_relay r) ≡ numbered_relay (asked key j mark m r)
unfolding asked answered
asked_so key j mark (Ok (command token service name body)) r fresh = by_flag (is_redirect service name)
  where
    by_flag : (flag : Bool)
        → cond flag (answered j token service name body (numbered_relay r)) (forwarded (number_of_next r) j token service name body mark (numbered_relay r))
        ≡ numbered_relay (cond flag (answered j token service name body r) (forwarded key j token service name body mark r))
    by_flag true = refl
    by_flag false = forwarded_so key j token service name body mark r fresh
asked_so key j mark (Ok (event service name body)) r fresh = refl
asked_so key j mark (Ok (final token body)) r fresh = refl
asked_so key j mark (Ok (progress token body)) r fresh = refl
asked_so key j mark (Ok (not_known token)) r fresh = refl
asked_so key j mark (Ok (flow level)) r fresh = refl
asked_so key j mark (Err fault) r fresh = refl

took_below_so : (key j : ℕ) (what : Option (Taken Unit)) (r : RelayValue) → r.upper.is_spent ≡ false → IsKept r
    → took_any_below (number_of_next r) j what (numbered_relay r) ≡ numbered_result (took_any_below key j what r)
unfolding took_below gone
took_below_so key j None r fresh k = refl
took_below_so key j (Some (taken.Hello incoming)) r fresh k = refl
took_below_so key j (Some (taken.Command incoming)) r fresh k = ap {B = Bool × RelayValue} (λ (x : RelayValue). (true, x)) (asked_so key j incoming.mark (reading incoming.raw) r fresh)
took_below_so key j (Some (taken.Event incoming)) r fresh k = refl
took_below_so key j (Some (taken.Progress token incoming)) r fresh k = refl
took_below_so key j (Some (taken.Final tag incoming)) r fresh k = refl
took_below_so key j (Some (taken.Closed cause)) r fresh k =
    ap {B = Bool × RelayValue} (λ (b : BoardValue). (true, record r { upper = numbered_end r.upper; board = b })) (left_same k.key_of k.number_of r.upper.last j r.board k.rows)

-- a turn below
kept_same : (r next : RelayValue) → Same r next → IsKept r → IsKept next
kept_same r next same k =
    let P : End → BoardValue → Type 0 = λ u b. IsKept (record next { upper = u; board = b }) in
    let here : P r.upper r.board = record { key_of = k.key_of; number_of = k.number_of; rows = k.rows; tags = k.tags } in
    subst (λ (b : BoardValue). P next.upper b) (sym same.1) (subst (λ (u : End). P u r.board) (sym same.0) here)

below_on : (key j : ℕ) (r : RelayValue) → r.upper.is_spent ≡ false → IsKept r → (place : Option ℕ)
    → took_any_below (number_of_next r) j (next_at place (numbered_relay r)).0 (next_at place (numbered_relay r)).1 ≡ numbered_result (took_any_below key j (next_at place r).0 (next_at place r).1)
below_on key j r fresh k place =
    let next = next_at place r in
    let same = next_at_same place r in
    ap (λ (t : Option (Taken Unit) × RelayValue). took_any_below (number_of_next r) j t.0 t.1) (next_at_so place r)
    ∙ ap (λ (u : End). took_any_below (u.last + 1) j next.0 (numbered_relay next.1)) (sym same.0)
    ∙ took_below_so key j next.0 next.1 (ap (λ (u : End). u.is_spent) same.0 ∙ fresh) (kept_same r next.1 same k)

below_kept : (key j : ℕ) (r : RelayValue) → r.upper.is_spent ≡ false → IsKept r → turned_below (number_of_next r) j (numbered_relay r) ≡ numbered_result (turned_below key j r)
unfolding next_below
below_kept key j r fresh k =
    ap
    (λ (b : Bool). took_any_below (number_of_next r) j (cond b (next_at (place_of j r.lowers) (numbered_relay r)) (None, numbered_relay r)).0
    (cond b (next_at (place_of j r.lowers) (numbered_relay r)) (None, numbered_relay r)).1)
    (takes_so r)
    ∙ by_flag (takes_below r)
  where
    by_flag : (flag : Bool)
        → took_any_below (number_of_next r) j (cond flag (next_at (place_of j r.lowers) (numbered_relay r)) (None, numbered_relay r)).0
        (cond flag (next_at (place_of j r.lowers) (numbered_relay r)) (None, numbered_relay r)).1
        ≡ numbered_result (took_any_below key j (cond flag (next_at (place_of j r.lowers) r) (None, r)).0 (cond flag (next_at (place_of j r.lowers) r) (None, r)).1)
    by_flag true = below_on key j r fresh k (place_of j r.lowers)
    by_flag false = refl

pub below_so : (key j : ℕ) (r : RelayValue) → GoTogether r → turned_below (number_of_next r) j (numbered_relay r) ≡ numbered_result (turned_below key j r)
below_so key j r g =
    kept_of r g (turned_below (number_of_next r) j (numbered_relay r) ≡ numbered_result (turned_below key j r))
    (λ over. over_below (number_of_next r) j (numbered_relay r) (over_takes (numbered_relay r) (over_numbered r over)) ∙ sym (ap numbered_result (over_below key j r (over_takes r over))))
    (λ kept. below_kept key j r g.fresh kept)

-- ---- what is kept then: the key and the number of the command go together too

abbrev with_value : ℕ → ℕ → (ℕ → ℕ) → ℕ → ℕ
with_value at value f n = cond (n == at) value (f n)

at_it : (at value : ℕ) (f : ℕ → ℕ) → with_value at value f at ≡ value
at_it at value f = ap (λ (b : Bool). cond b value (f at)) (eq-eqb at at refl)

elsewhere : (at value n : ℕ) (f : ℕ → ℕ) → n ≢ at → with_value at value f n ≡ f n
elsewhere at value n f other = ap (λ (b : Bool). cond b value (f n)) (ne_eqb n at other)

row_goes_on : (key_of number_of : ℕ → ℕ) (last key : ℕ) (row : ℕ × WaitingValue) → RowIsKept key_of number_of last row → HasNot key row
    → RowIsKept (with_value (last + 1) key key_of) (with_value key (last + 1) number_of) (last + 1) row
row_goes_on key_of number_of last key row k other =
    record {
      key = k.key ∙ sym (elsewhere (last + 1) key row.1.serial key_of (λ same. let within = k.within in omega (arith, within, same)));
      number = k.number ∙ sym (elsewhere key (last + 1) row.0 number_of other);
      within = let within = k.within in omega (arith, within);
    }

new_row : (key_of number_of : ℕ → ℕ) (last key : ℕ) (w : WaitingValue) → w.serial ≡ last + 1
    → RowIsKept (with_value (last + 1) key key_of) (with_value key (last + 1) number_of) (last + 1) (key, w)
new_row key_of number_of last key w is =
    record {
      key = sym (ap (with_value (last + 1) key key_of) is ∙ at_it (last + 1) key key_of);
      number = is ∙ sym (at_it key (last + 1) number_of);
      within = omega (arith, is);
    }

min_within : (n last : ℕ) → min n last ≡ n → n ≤ last
min_within n last is = omega (arith, is)

within_min : (n last : ℕ) → n ≤ last → min n last ≡ n
within_min n last within = omega (arith, within)

tag_goes_on : (key_of : ℕ → ℕ) (last key : ℕ) (tag : Tag) → kept_tag key_of last tag ≡ tag → kept_tag (with_value (last + 1) key key_of) (last + 1) tag ≡ tag
tag_goes_on key_of last key tag is =
    let within : tag.serial ≤ last = min_within tag.serial last (ap (λ (t : Tag). t.serial) is) in
    let keyed : with_value (last + 1) key key_of tag.serial ≡ tag.key =
    elsewhere (last + 1) key tag.serial key_of (λ same. omega (arith, within, same)) ∙ ap (λ (t : Tag). t.key) is in
    let numbered : min tag.serial (last + 1) ≡ tag.serial = within_min tag.serial (last + 1) (omega (arith, within)) in
    ap (λ (k : ℕ). record { key = k; serial = min tag.serial (last + 1) }) keyed ∙ ap (λ (n : ℕ). record { key = tag.key; serial = n }) numbered

tags_go_on : (key_of : ℕ → ℕ) (last key : ℕ) (rows : List Row) → AreTags key_of last rows → AreTags (with_value (last + 1) key key_of) (last + 1) rows
tags_go_on key_of last key [] tags = refl
tags_go_on key_of last key (row ∷ rows) tags =
    let one : retagged_row (kept_tag key_of last) row ≡ row = cc in
    let rest : retagged_rows (kept_tag key_of last) rows ≡ rows = cc in
    let first : kept_tag (with_value (last + 1) key key_of) (last + 1) row.1 ≡ row.1 = tag_goes_on key_of last key row.1 (ap (λ (r : Row). r.1) one) in
    ap {B = List Row} (λ (t : Tag). (row.0, t) ∷ retagged_rows (kept_tag (with_value (last + 1) key key_of) (last + 1)) rows) first
    ∙ ap (λ (rs : List Row). row ∷ rs) (tags_go_on key_of last key rows rest)

new_tag : (key_of : ℕ → ℕ) (last key : ℕ) → kept_tag (with_value (last + 1) key key_of) (last + 1) (record { key = key; serial = last + 1 }) ≡ record { key = key; serial = last + 1 }
new_tag key_of last key =
    ap (λ (k : ℕ). record { key = k; serial = min (last + 1) (last + 1) }) (at_it (last + 1) key key_of)
    ∙ ap (λ (n : ℕ). record { key = key; serial = n }) (within_min (last + 1) (last + 1) (omega arith))

forwarded_as_together : (key j : ℕ) (token service name body : List ℕ) (mark : Option ℕ) (r : RelayValue) (k : IsKept r) → r.upper.is_spent ≡ false → item_of key r.board.lists ≡ None
    → GoTogether (forwarded_as key j token service name body mark r)
forwarded_as_together key j token service name body mark r k fresh new =
    let last : ℕ = r.upper.last in
    let h : Held = made (last + 1) service name body mark in
    let s = stays (sent_or_held h) r.upper fresh (λ f n x. held_so f n h x) in
    let key_of : ℕ → ℕ = with_value (last + 1) key k.key_of in
    let number_of : ℕ → ℕ = with_value key (last + 1) k.number_of in
    let w : WaitingValue = waits_as j token r in
    let tag : Tag = record { key = key; serial = last + 1 } in
    let sent : List Row = (sent_or_held h r.upper).pending in
    let old_rows : AreKept key_of number_of (last + 1) r.board.lists =
    both_kept (RowIsKept k.key_of k.number_of last) (HasNot key) (RowIsKept key_of number_of (last + 1)) (λ row kept other. row_goes_on k.key_of k.number_of last key row kept other) r.board.lists k.rows
    (none_has key r.board.lists new) in
    let old_tags : AreTags key_of (last + 1) sent = tags_go_on k.key_of last key sent (tags_stay k.key_of (sent_or_held h) r.upper fresh k.tags (λ f n x. held_so f n h x)) in
    together_by key_of number_of (last + 1) (forwarded_as key j token service name body mark r) s.fresh refl
    (kept_kept (RowIsKept key_of number_of (last + 1)) key w r.board old_rows (new_row k.key_of k.number_of last key w refl))
    (one_more (kept_tag key_of (last + 1)) sent (last + 1, tag)
    ∙ ap (λ (rs : List Row). rs ++ retagged_row (kept_tag key_of (last + 1)) (last + 1, tag) ∷ []) old_tags
    ∙ ap {B = List Row} (λ (t : Tag). sent ++ (last + 1, t) ∷ []) (new_tag k.key_of last key))

-- a live end that is closed is over
live_open : (s : EndState) → is_live s ≡ true → is_closed s ≡ false
live_open Opening is = refl
live_open Live is = refl
live_open Reopening is = refl
live_open (IsClosed cause) is = let both : false ≡ true = is in absurd cc

closed_over : (r : RelayValue) → r.upper.is_spent ≡ false → is_live r.upper.state ≡ true → GoTogether (all_closed r)
unfolding all_closed
closed_over r fresh live =
    let q : RelayValue = record r { lowers = (all_closed r).lowers } in
    let shut : End = closed_for Own r.upper in
    let is : unless_spent r.upper r.upper (closed_own r.upper) ≡ shut = unspent r.upper fresh ∙ ap (λ (b : Bool). cond b r.upper shut) (live_open r.upper.state live) in
    subst (λ (u : End). GoTogether (record q { upper = u })) (sym is) (record { fresh = fresh; rest = inl (record { closed = refl; emptied = refl; stopped = refl }) })

forwarded_together : (key j : ℕ) (token service name body : List ℕ) (mark : Option ℕ) (r : RelayValue) (k : IsKept r) → r.upper.is_spent ≡ false → is_live r.upper.state ≡ true
    → item_of key r.board.lists ≡ None → GoTogether (forwarded key j token service name body mark r)
unfolding forwarded
forwarded_together key j token service name body mark r k fresh live new = by_flag (r.upper.last == 2 ^ 64 - 1)
  where
    q : RelayValue
    q = record r { board = kept key (waits_as j token r) r.board }

    by_why : (why : Option SendRefusal) → GoTogether (unless_refused why (all_closed q) (forwarded_as key j token service name body mark r))
    by_why None = forwarded_as_together key j token service name body mark r k fresh new
    by_why (Some why) = closed_over q fresh live

    by_flag : (flag : Bool) → GoTogether (cond flag (all_closed r) (unless_refused (refusal_to service name body r.upper) (all_closed q) (forwarded_as key j token service name body mark r)))
    by_flag true = all_closed_together r k fresh
    by_flag false = by_why (refusal_to service name body r.upper)

asked_together : (key j : ℕ) (mark : Option ℕ) (m : Result MessageValue MessageFault) (r : RelayValue) (k : IsKept r) → r.upper.is_spent ≡ false → is_live r.upper.state ≡ true
    → item_of key r.board.lists ≡ None → GoTogether (asked key j mark m r)
unfolding asked answered
asked_together key j mark (Ok (command token service name body)) r k fresh live new = by_flag (is_redirect service name)
  where
    by_flag : (flag : Bool) → GoTogether (cond flag (answered j token service name body r) (forwarded key j token service name body mark r))
    by_flag true = together_same r (answered j token service name body r) (refl, refl) (record { fresh = fresh; rest = inr k })
    by_flag false = forwarded_together key j token service name body mark r k fresh live new
asked_together key j mark (Ok (event service name body)) r k fresh live new = record { fresh = fresh; rest = inr k }
asked_together key j mark (Ok (final token body)) r k fresh live new = record { fresh = fresh; rest = inr k }
asked_together key j mark (Ok (progress token body)) r k fresh live new = record { fresh = fresh; rest = inr k }
asked_together key j mark (Ok (not_known token)) r k fresh live new = record { fresh = fresh; rest = inr k }
asked_together key j mark (Ok (flow level)) r k fresh live new = record { fresh = fresh; rest = inr k }
asked_together key j mark (Err fault) r k fresh live new = record { fresh = fresh; rest = inr k }

took_below_together : (key j : ℕ) (what : Option (Taken Unit)) (r : RelayValue) (k : IsKept r) → r.upper.is_spent ≡ false → is_live r.upper.state ≡ true → item_of key r.board.lists ≡ None
    → GoTogether (took_any_below key j what r).1
unfolding took_below gone
took_below_together key j None r k fresh live new = record { fresh = fresh; rest = inr k }
took_below_together key j (Some (taken.Hello incoming)) r k fresh live new = record { fresh = fresh; rest = inr k }
took_below_together key j (Some (taken.Command incoming)) r k fresh live new = asked_together key j incoming.mark (reading incoming.raw) r k fresh live new
took_below_together key j (Some (taken.Event incoming)) r k fresh live new = record { fresh = fresh; rest = inr k }
took_below_together key j (Some (taken.Progress token incoming)) r k fresh live new = record { fresh = fresh; rest = inr k }
took_below_together key j (Some (taken.Final tag incoming)) r k fresh live new = record { fresh = fresh; rest = inr k }
took_below_together key j (Some (taken.Closed cause)) r k fresh live new =
    together_by k.key_of k.number_of r.upper.last (record r { board = left j r.board }) fresh refl (left_kept (RowIsKept k.key_of k.number_of r.upper.last) j r.board k.rows) k.tags

below_kept_together : (key j : ℕ) (r : RelayValue) → r.upper.is_spent ≡ false → (k : IsKept r) → item_of key r.board.lists ≡ None → GoTogether (turned_below key j r).1
unfolding next_below
below_kept_together key j r fresh k new = by_flag (takes_below r) refl
  where
    next : Option (Taken Unit) × RelayValue
    next = next_at (place_of j r.lowers) r

    same : Same r next.1
    same = next_at_same (place_of j r.lowers) r

    by_flag : (flag : Bool) → takes_below r ≡ flag → GoTogether (took_any_below key j (cond flag next (None, r)).0 (cond flag next (None, r)).1).1
    by_flag true is =
        let live : is_live r.upper.state ≡ true = (and_parts (is_live r.upper.state) (nat_lt (length r.upper.pending) 1024) is).0 in
        took_below_together key j next.0 next.1 (kept_same r next.1 same k) (ap (λ (u : End). u.is_spent) same.0 ∙ fresh) (ap (λ (u : End). is_live u.state) same.0 ∙ live)
        (ap (λ (b : BoardValue). item_of key b.lists) same.1 ∙ new)
    by_flag false is = record { fresh = fresh; rest = inr k }

pub below_together : (key j : ℕ) (r : RelayValue) → GoTogether r → item_of key r.board.lists ≡ None → GoTogether (turned_below key j r).1
below_together key j r g new =
    kept_of r g (GoTogether (turned_below key j r).1) (λ over. subst (λ (t : Bool × RelayValue). GoTogether t.1) (sym (over_below key j r (over_takes r over))) g)
    (λ kept. below_kept_together key j r g.fresh kept new)

-- ---- any turn

pub turn_so : (key : ℕ) (side : HubSide) (r : RelayValue) → GoTogether r → turned_at (number_of_next r) side (numbered_relay r) ≡ numbered_result (turned_at key side r)
turn_so key Above r g = above_so r g
turn_so key (Below j) r g = below_so key j r g

pub turn_together : (key : ℕ) (side : HubSide) (r : RelayValue) → GoTogether r → item_of key r.board.lists ≡ None → GoTogether (turned_at key side r).1
turn_together key Above r g new = above_together r g
turn_together key (Below j) r g new = below_together key j r g new

-- ---- what comes

closed_came : (mark : Option ℕ) (list : List Item) (e : End) → is_over e ≡ true → came_by mark list e ≡ e
closed_came mark [] e over = refl
closed_came mark (item ∷ list) e over = ap (λ (b : Bool). came_by mark list (cond b e (item_came mark item e))) over ∙ closed_came mark list e over

closed_stopped : (answer : Result Unit StreamFault) (e : End) → is_over e ≡ true → stopped_by answer e ≡ e
closed_stopped (Ok done) e over = refl
closed_stopped (Err fault) e over = ap (λ (b : Bool). cond b e (with_last (Stream fault) e)) over

is_over_by : (r : RelayValue) → IsOver r → is_over r.upper ≡ true
is_over_by r over = ap (λ (b : Bool). b || is_some r.upper.stop) over.closed

delivered_over : (piece : List ℕ) (mark : Option ℕ) (r : RelayValue) → IsOver r → delivered piece mark r.upper ≡ record r.upper { stream = (fed piece r.upper.stream).reader }
delivered_over piece mark r over =
    let given = fed piece r.upper.stream in
    let begun : End = record r.upper { stream = given.reader } in
    ap (stopped_by given.answer) (closed_came mark given.items begun (is_over_by r over)) ∙ closed_stopped given.answer begun (is_over_by r over)

pub came_same : (side : HubSide) (piece : List ℕ) (mark : Option ℕ) (r : RelayValue) → r.upper.is_spent ≡ false → came_at side piece mark (numbered_relay r) ≡ numbered_relay (came_at side piece mark r)
unfolding came_at
came_same Above piece mark r fresh = ap (λ (u : End). record r { upper = u; board = numbered_board r.board }) (end_so (delivered piece mark) r.upper fresh (λ f last e. delivered_so f last piece mark e))
came_same (Below j) piece mark r fresh = refl

pub came_together : (side : HubSide) (piece : List ℕ) (mark : Option ℕ) (r : RelayValue) → GoTogether r → GoTogether (came_at side piece mark r)
unfolding came_at
came_together Above piece mark r g =
    kept_of r g (GoTogether (record r { upper = delivered piece mark r.upper }))
    (λ over. subst (λ (u : End). GoTogether (record r { upper = u })) (sym (delivered_over piece mark r over))
    (record { fresh = g.fresh; rest = inl (record { closed = over.closed; emptied = over.emptied; stopped = over.stopped }) }))
    (λ kept. together_called (delivered piece mark) r kept g.fresh (λ f last e. delivered_so f last piece mark e))
came_together (Below j) piece mark r g = together_same r (came_at (Below j) piece mark r) (refl, refl) g

unspent_end : (e : End) → e.is_spent ≡ false → unless_spent e e (ended e) ≡ ended e
unspent_end e fresh = ap (λ (b : Bool). cond b e (ended e)) fresh

pub ended_same : (side : HubSide) (r : RelayValue) → r.upper.is_spent ≡ false → ended_at side (numbered_relay r) ≡ numbered_relay (ended_at side r)
unfolding ended_at
ended_same Above r fresh =
    ap (λ (b : Bool). record r { upper = cond b (numbered_end r.upper) (ended (numbered_end r.upper)); board = numbered_board r.board }) fresh
    ∙ ap (λ (u : End). record r { upper = u; board = numbered_board r.board }) (end_so ended r.upper fresh (λ f last e. ended_so f last e) ∙ ap numbered_end (sym (unspent_end r.upper fresh)))
ended_same (Below j) r fresh = refl

pub ended_together : (side : HubSide) (r : RelayValue) → GoTogether r → GoTogether (ended_at side r)
unfolding ended_at
ended_together Above r g =
    subst (λ (u : End). GoTogether (record r { upper = u })) (sym (unspent_end r.upper g.fresh))
    (kept_of r g (GoTogether (record r { upper = ended r.upper }))
    (λ over. subst (λ (u : End). GoTogether (record r { upper = u })) (sym (ap (λ (b : Bool). cond b r.upper (with_last Ended r.upper)) (is_over_by r over))) g)
    (λ kept. together_called ended r kept g.fresh (λ f last e. ended_so f last e)))
ended_together (Below j) r g = together_same r (ended_at (Below j) r) (refl, refl) g

-- ---- a channel opens, and what is sent goes out

pub opened_same : (j : ℕ) (r : RelayValue) → opened_at j (numbered_relay r) ≡ numbered_result (opened_at j r)
unfolding opened_at begun
opened_same j r = by_flag (is_refused j r)
  where
    by_flag : (flag : Bool) → cond flag (false, numbered_relay r) (true, begun j (numbered_relay r)) ≡ numbered_result (cond flag (false, r) (true, begun j r))
    by_flag true = refl
    by_flag false = refl

begun_together : (j : ℕ) (r : RelayValue) → GoTogether r → GoTogether (begun j r)
unfolding begun
begun_together j r g =
    kept_of r g (GoTogether (begun j r)) (λ over. record { fresh = g.fresh; rest = inl (record { closed = over.closed; emptied = over.emptied; stopped = over.stopped }) })
    (λ k. record { fresh = g.fresh; rest = inr (record { key_of = k.key_of; number_of = k.number_of; rows = k.rows; tags = k.tags }) })

pub opened_together : (j : ℕ) (r : RelayValue) → GoTogether r → GoTogether (opened_at j r).1
unfolding opened_at
opened_together j r g = by_flag (is_refused j r)
  where
    by_flag : (flag : Bool) → GoTogether (cond {A = Bool × RelayValue} flag (false, r) (true, begun j r)).1
    by_flag true = g
    by_flag false = begun_together j r g

pub gave_same : (side : HubSide) (r : RelayValue) → after_giving_at side (numbered_relay r) ≡ numbered_relay (after_giving_at side r)
unfolding after_giving_at
gave_same Above r = by_flag r.upper.is_spent
  where
    by_flag : (flag : Bool)
        → record (numbered_relay r) { upper = cond flag (numbered_end r.upper) (record (numbered_end r.upper) { queued = drop 1 r.upper.queued }) }
        ≡ numbered_relay (record r { upper = cond flag r.upper (record r.upper { queued = drop 1 r.upper.queued }) })
    by_flag true = refl
    by_flag false = refl
gave_same (Below j) r = refl

pub gave_together : (side : HubSide) (r : RelayValue) → GoTogether r → GoTogether (after_giving_at side r)
unfolding after_giving_at
gave_together Above r g = by_flag r.upper.is_spent
  where
    by_flag : (flag : Bool) → GoTogether (record r { upper = cond flag r.upper (record r.upper { queued = drop 1 r.upper.queued }) })
    by_flag true = g
    by_flag false =
        kept_of r g (GoTogether (record r { upper = record r.upper { queued = drop 1 r.upper.queued } }))
        (λ over. record { fresh = g.fresh; rest = inl (record { closed = over.closed; emptied = over.emptied; stopped = over.stopped }) })
        (λ k. record { fresh = g.fresh; rest = inr (record { key_of = k.key_of; number_of = k.number_of; rows = k.rows; tags = k.tags }) })
gave_together (Below j) r g = together_same r (after_giving_at (Below j) r) (refl, refl) g

pub given_same : (side : HubSide) (r : RelayValue) → given_at side (numbered_relay r) ≡ given_at side r
unfolding given_at
given_same Above r = refl
given_same (Below j) r = refl

pub waiting_same : (side : HubSide) (r : RelayValue) → waiting_at side (numbered_relay r) ≡ waiting_at side r
waiting_same Above r = refl
waiting_same (Below j) r = refl

pub live_same : (side : HubSide) (r : RelayValue) → is_live_at side (numbered_relay r) ≡ is_live_at side r
live_same Above r = refl
live_same (Below j) r = refl

-- ---- a new hub

none_yet : (count : ℕ) → AreKept (λ n. n) (λ n. n) 0 (replicate count [])
none_yet zero = tt
none_yet (suc count) = (tt, none_yet count)

pub new_together : GoTogether new_relay
new_together =
    record {
      fresh = refl;
      rest = inr (record { key_of = λ n. n; number_of = λ n. n; rows = none_yet 64; tags = refl });
    }

pub new_numbered : numbered_relay new_relay ≡ new_relay
new_numbered = refl
