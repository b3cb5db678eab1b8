-- One wire, by all that was ever queued for it and by the calls so far.
use Rattle.std.proofs.Common.{◌≡◌, ℕ, ◌+◌, ◌<◌, ◌==◌, Bool, true, false, ◌&&◌, not, cond, List, [], ◌∷◌, ◌++◌, length, refl, sym, ap, ◌∙◌, subst, arith, append-nil, eq-eqb}
use Rattle.std.specs.Prelude.{if◌then◌else◌}
use Rattle.std.proofs.lemmas.Bool.{and_parts, false≢true}
use Rattle.tcf_wires.specs.Told.{taken_on}
use Rattle.tcf_wires.specs.declared.call.WireCall.{WireCall}
use Rattle.tcf_wires.specs.declared.call.WireCall.TheVariants.{Shut}
use Rattle.serving_wires.proofs.Placing.{each_none, each_one}
use Rattle.serving_wires.proofs.Spared.{shut_both, taken_both}
use Rattle.serving_wires.specs.Calls.{events_in, shut_count}
use Rattle.serving_wires.specs.Following.{Follows, IsFlushed, IsSplit, Spares}
use Rattle.serving_wires.specs.Outbox.{Flushes, IsGivenUp, Puts, Shuts, before_put, before_shut, closed, is_due, lost as put_lost, none as put_none, nothing_left, queued, taken as put_taken, unused_outbox, left_behind}
use Rattle.serving_wires.specs.OutboxValue.{OutboxValue}
use Rattle.serving_wires.specs.Serving.{EachBehind, IsInPlace, Nodes}
use Rattle.serving_wires.specs.Order.{Order, closes, leaves, queues}
use Rattle.serving_wires.specs.Sending.{outbox_after, queued_unless_closed}
use Rattle.serving_wires.specs.Serve.{CarriesWire}
use Rattle.serving_wires.specs.Standing.{Wire, sent_after, unused_wire, with_piece}
use Rattle.serving_wires.specs.WireLaws.{WireLaws}
use Rattle.list_laws.proofs.Lists.{empty_by}

-- its outbox, if nothing were ever put
abbrev pub all_of : ℕ → Wire → OutboxValue
all_of channel s = record { channel = channel; queued = s.queued; is_lost = false; is_closed = s.is_closed; is_shut = false }

-- a wire whose place another one took: nothing is queued any more
pub record IsLeftSo (channel : ℕ) (s : Wire) (now : OutboxValue) (calls : List WireCall) : Type 0 where
  pub at : now.channel ≡ channel
  pub closed : now.is_closed ≡ true
  pub closed_all : s.is_closed ≡ true
  pub nothing : now.queued ≡ []
  pub front : (rest : List ℕ) × (s.queued ≡ taken_on channel calls ++ rest)
  pub shut : shut_count channel calls ≡ (if now.is_shut then 1 else 0)

pub data Keeps (channel : ℕ) (s : Wire) (now : OutboxValue) (calls : List WireCall) : Type 0 where
  follows : s.is_left ≡ false → Follows (all_of channel s) now calls → Keeps channel s now calls
  left : s.is_left ≡ true → IsLeftSo channel s now calls → Keeps channel s now calls

-- ---- calls that aren't on a wire

pub record AreNone (channel : ℕ) (calls : List WireCall) : Type 0 where
  pub taken : taken_on channel calls ≡ []
  pub shut : shut_count channel calls ≡ 0

none_of_nothing : (xs ys : List ℕ) → [] ≡ xs ++ ys → xs ≡ []
none_of_nothing [] ys is = refl
none_of_nothing (x ∷ xs) ys is = absurd cc

are_none : WireLaws → (channel : ℕ) (calls : List WireCall) → Spares channel calls → AreNone channel calls
are_none laws channel calls spares =
    let c = laws.unused channel calls spares in
    record { taken = none_of_nothing (taken_on channel calls) c.front.0 c.front.1; shut = c.shut }

-- ---- a wire begins

pub keeps_new : WireLaws → (channel : ℕ) (calls : List WireCall) → Spares channel calls → Keeps channel unused_wire (unused_outbox channel) calls
keeps_new laws channel calls spares = follows refl (laws.begins channel calls spares)

-- ---- an order is done

closed_same : (o : OutboxValue) → o.is_closed ≡ true → closed o ≡ o
closed_same o is = ap (λ (b : Bool). record o { is_closed = b }) (sym is)

-- what is shut is closed, with nothing left
pub record IsOver (o : OutboxValue) : Type 0 where
  pub closed : o.is_closed ≡ true
  pub nothing : o.queued ≡ []

over_if_shut : (all now : OutboxValue) (calls : List WireCall) → now.is_shut ≡ true → Follows all now calls → IsOver now
over_if_shut all now calls is f =
    let parts = and_parts now.is_closed (nothing_left now) (f.over is) in
    record { closed = parts.0; nothing = empty_by now.queued parts.1 }

pub keeps_over : (channel : ℕ) (s : Wire) (now : OutboxValue) (calls : List WireCall) → now.is_shut ≡ true → Keeps channel s now calls → IsOver now
keeps_over channel s now calls is (follows stays f) = over_if_shut (all_of channel s) now calls is f
keeps_over channel s now calls is (left holds l) = record { closed = l.closed; nothing = l.nothing }

-- nothing more is queued for it
queued_away : (bytes : List ℕ) (o : OutboxValue) → o.is_closed ≡ true → queued_unless_closed bytes o ≡ o
queued_away bytes o is = ap (λ (b : Bool). if b then o else queued bytes o) is

queued_there : (bytes : List ℕ) (o : OutboxValue) → o.is_closed ≡ false → queued_unless_closed bytes o ≡ queued bytes o
queued_there bytes o is = ap (λ (b : Bool). if b then o else queued bytes o) is

sent_away : (channel : ℕ) (bytes : List ℕ) (s : Wire) → s.is_closed ≡ true → sent_after (queues channel bytes) s ≡ s
sent_away channel bytes s is = ap (λ (b : Bool). if b then s else record s { queued = s.queued ++ bytes }) is

sent_there : (channel : ℕ) (bytes : List ℕ) (s : Wire) → s.is_closed ≡ false → sent_after (queues channel bytes) s ≡ record s { queued = s.queued ++ bytes }
sent_there channel bytes s is = ap (λ (b : Bool). if b then s else record s { queued = s.queued ++ bytes }) is

behind_shut : (o : OutboxValue) → o.is_shut ≡ true → left_behind o ≡ o
behind_shut o is = ap (λ (b : Bool). if b then o else closed (unused_outbox o.channel)) is

behind_open : (o : OutboxValue) → o.is_shut ≡ false → left_behind o ≡ closed (unused_outbox o.channel)
behind_open o is = ap (λ (b : Bool). if b then o else closed (unused_outbox o.channel)) is

queue_follows : WireLaws → (closed_so : Bool) (on channel : ℕ) (bytes : List ℕ) (s : Wire) (now : OutboxValue) (calls : List WireCall) → s.is_closed ≡ closed_so → s.is_left ≡ false
    → Follows (all_of channel s) now calls → Keeps channel (sent_after (queues on bytes) s) (queued_unless_closed bytes now) calls
queue_follows laws true on channel bytes s now calls is stays f = rw (sent_away on bytes s is, queued_away bytes now (f.closed ∙ is)) (follows stays f)
queue_follows laws false on channel bytes s now calls is stays f =
    rw (sent_there on bytes s is, queued_there bytes now (f.closed ∙ is))
    (follows stays (laws.queueing bytes (all_of channel s) now calls (λ so. absurd (false≢true (sym is ∙ so))) f))

own_front : (lost : Bool) (all taken rest : List ℕ) → IsSplit lost all taken rest → (later : List ℕ) × (all ≡ taken ++ later)
own_front false all taken rest split = (rest, split)
own_front true all taken rest split = split.1

leave_follows : (shut : Bool) (channel : ℕ) (s : Wire) (now : OutboxValue) (calls : List WireCall) → now.is_shut ≡ shut → Follows (all_of channel s) now calls
    → Keeps channel (record s { is_closed = true; is_left = true }) (left_behind now) calls
leave_follows true channel s now calls is f =
    let o = over_if_shut (all_of channel s) now calls is f in
    rw (behind_shut now is)
    (left refl
    (record {
      at = f.channel;
      closed = o.closed;
      closed_all = refl;
      nothing = o.nothing;
      front = own_front now.is_lost s.queued (taken_on channel calls) now.queued f.split;
      shut = f.shut;
    }))
leave_follows false channel s now calls is f =
    rw (behind_open now is)
    (left refl
    (record {
      at = f.channel;
      closed = refl;
      closed_all = refl;
      nothing = refl;
      front = own_front now.is_lost s.queued (taken_on channel calls) now.queued f.split;
      shut = f.shut ∙ ap (λ (b : Bool). if b then 1 else 0) is;
    }))

leave_left : (shut : Bool) (channel : ℕ) (s : Wire) (now : OutboxValue) (calls : List WireCall) → now.is_shut ≡ shut → IsLeftSo channel s now calls
    → Keeps channel (record s { is_closed = true; is_left = true }) (left_behind now) calls
leave_left true channel s now calls is l =
    rw (behind_shut now is) (left refl (record { at = l.at; closed = l.closed; closed_all = refl; nothing = l.nothing; front = l.front; shut = l.shut }))
leave_left false channel s now calls is l =
    rw (behind_open now is)
    (left refl (record { at = l.at; closed = refl; closed_all = refl; nothing = refl; front = l.front; shut = l.shut ∙ ap (λ (b : Bool). if b then 1 else 0) is }))

pub keeps_order : WireLaws → (order : Order) (channel : ℕ) (s : Wire) (now : OutboxValue) (calls : List WireCall) → Keeps channel s now calls
    → Keeps channel (sent_after order s) (outbox_after order now) calls
keeps_order laws (queues on bytes) channel s now calls (follows stays f) = queue_follows laws s.is_closed on channel bytes s now calls refl stays f
keeps_order laws (queues on bytes) channel s now calls (left holds l) = rw (sent_away on bytes s l.closed_all, queued_away bytes now l.closed) (left holds l)
keeps_order laws (closes on) channel s now calls (follows stays f) = follows stays (laws.closing (all_of channel s) now calls f)
keeps_order laws (closes on) channel s now calls (left holds l) =
    left holds (record { at = l.at; closed = refl; closed_all = refl; nothing = l.nothing; front = l.front; shut = l.shut })
keeps_order laws (leaves on) channel s now calls (follows stays f) = leave_follows now.is_shut channel s now calls refl f
keeps_order laws (leaves on) channel s now calls (left holds l) = leave_left now.is_shut channel s now calls refl l

-- a piece that came changes nothing of what is kept
pub keeps_piece : (channel : ℕ) (bytes : List ℕ) (s : Wire) (now : OutboxValue) (calls : List WireCall) → Keeps channel s now calls → Keeps channel (with_piece bytes s) now calls
keeps_piece channel bytes s now calls (follows stays f) = follows stays f
keeps_piece channel bytes s now calls (left holds l) =
    left holds (record { at = l.at; closed = l.closed; closed_all = l.closed_all; nothing = l.nothing; front = l.front; shut = l.shut })

shut_stays : (order : Order) (o : OutboxValue) → o.is_shut ≡ true → o.is_closed ≡ true → outbox_after order o ≡ o
shut_stays (queues on bytes) o is over = queued_away bytes o over
shut_stays (closes on) o is over = closed_same o over
shut_stays (leaves on) o is over = behind_shut o is

-- what was shut stays as it is
pub keeps_order_gone : WireLaws → (order : Order) (channel : ℕ) (s : Wire) (last : OutboxValue) (calls : List WireCall) → last.is_shut ≡ true → Keeps channel s last calls
    → Keeps channel (sent_after order s) last calls
keeps_order_gone laws order channel s last calls is k =
    subst (λ (o : OutboxValue). Keeps channel (sent_after order s) o calls) (shut_stays order last is (keeps_over channel s last calls is k).closed)
    (keeps_order laws order channel s last calls k)

-- ---- calls that aren't on the wire

pub keeps_more : WireLaws → (channel : ℕ) (s : Wire) (now : OutboxValue) (calls more : List WireCall) → Spares channel more → Keeps channel s now calls
    → Keeps channel s now (calls ++ more)
keeps_more laws channel s now calls more spares (follows stays f) = follows stays (laws.others (all_of channel s) now calls more spares f)
keeps_more laws channel s now calls more spares (left holds l) =
    let n = are_none laws channel more spares in
    let taken : taken_on channel (calls ++ more) ≡ taken_on channel calls =
    taken_both channel calls more ∙ ap (λ (bytes : List ℕ). taken_on channel calls ++ bytes) n.taken ∙ append-nil (taken_on channel calls) in
    left holds
    (record {
      at = l.at;
      closed = l.closed;
      closed_all = l.closed_all;
      nothing = l.nothing;
      front = (l.front.0, l.front.1 ∙ ap (λ (bytes : List ℕ). bytes ++ l.front.0) (sym taken));
      shut = shut_both channel calls more ∙ ap (λ (n : ℕ). shut_count channel calls + n) n.shut ∙ omega (arith, l.shut);
    })

-- ---- a flush

-- of a wire that was left: it is shut, if it wasn't before
pub record FlushesLeft (old new : OutboxValue) (calls : List WireCall) : Type 0 where
  pub new_is : new ≡ (if old.is_shut then old else record old { is_shut = true })
  pub calls_are : calls ≡ (if old.is_shut then [] else Shut old.channel ∷ [])

no_length : (bytes : List ℕ) → bytes ≡ [] → 0 < length bytes → ⊥
no_length bytes none some = absurd (omega (arith, some, ap (λ (xs : List ℕ). length xs) none))

nothing_put : (old mid : OutboxValue) (calls : List WireCall) → old.queued ≡ [] → Puts old mid calls → (mid ≡ old) × (calls ≡ [])
nothing_put old mid calls nothing (put_none none same no_calls) = (same, no_calls)
nothing_put old mid calls nothing (put_taken count some within same one) = absurd (no_length old.queued nothing some)
nothing_put old mid calls nothing (put_lost some same one) = absurd (no_length old.queued nothing some)

due_by : (shut : Bool) (old : OutboxValue) → old.is_shut ≡ shut → old.is_closed ≡ true → old.queued ≡ [] → is_due old ≡ not shut
due_by shut old is closed nothing =
    ap (λ (b : Bool). b && (nothing_left old && not old.is_shut)) closed ∙ ap (λ (bytes : List ℕ). (length bytes == 0) && not old.is_shut) nothing ∙ ap not is

shut_by : (shut : Bool) (old new : OutboxValue) (calls : List WireCall) → old.is_shut ≡ shut → is_due old ≡ not shut → Shuts old new calls → FlushesLeft old new calls
shut_by true old new calls is due s =
    record {
      new_is = s.shut ∙ ap (λ (b : Bool). if b then record old { is_shut = true } else old) due ∙ sym (ap (λ (b : Bool). if b then old else record old { is_shut = true }) is);
      calls_are = s.called ∙ ap (λ (b : Bool). if b then Shut old.channel ∷ [] else []) due ∙ sym (ap (λ (b : Bool). if b then [] else Shut old.channel ∷ []) is);
    }
shut_by false old new calls is due s =
    record {
      new_is = s.shut ∙ ap (λ (b : Bool). if b then record old { is_shut = true } else old) due ∙ sym (ap (λ (b : Bool). if b then old else record old { is_shut = true }) is);
      calls_are = s.called ∙ ap (λ (b : Bool). if b then Shut old.channel ∷ [] else []) due ∙ sym (ap (λ (b : Bool). if b then [] else Shut old.channel ∷ []) is);
    }

flush_left : (old new : OutboxValue) (calls : List WireCall) → old.is_closed ≡ true → old.queued ≡ [] → Flushes old new calls → FlushesLeft old new calls
flush_left old new calls closed nothing flush =
    let put = nothing_put old flush.mid flush.puts nothing flush.put in
    let f = shut_by old.is_shut old new flush.shuts refl (due_by old.is_shut old refl closed nothing) (subst (λ (o : OutboxValue). Shuts o new flush.shuts) put.0 flush.shut) in
    record { new_is = f.new_is; calls_are = flush.called ∙ ap (λ (cs : List WireCall). cs ++ flush.shuts) put.1 ∙ f.calls_are }

left_flushed : (shut : Bool) (channel : ℕ) (s : Wire) (old new : OutboxValue) (calls more : List WireCall) → old.is_shut ≡ shut → IsLeftSo channel s old calls
    → new ≡ (if shut then old else record old { is_shut = true }) → more ≡ (if shut then [] else Shut old.channel ∷ []) → IsLeftSo channel s new (calls ++ more)
left_flushed true channel s old new calls more is l new_is calls_are = rw (new_is, calls_are, append-nil calls) l
left_flushed false channel s old new calls more is l new_is calls_are =
    let taken : taken_on channel (calls ++ Shut old.channel ∷ []) ≡ taken_on channel calls = taken_both channel calls (Shut old.channel ∷ []) ∙ append-nil (taken_on channel calls) in
    let on : (old.channel == channel) ≡ true = eq-eqb old.channel channel l.at in
    let one : shut_count channel (Shut old.channel ∷ []) ≡ 1 = ap (λ (b : Bool). 0 + cond {A = ℕ} b 1 0) on in
    let none_yet : shut_count channel calls ≡ 0 = l.shut ∙ ap (λ (b : Bool). if b then 1 else 0) is in
    rw (new_is, calls_are)
    (record {
      at = l.at;
      closed = l.closed;
      closed_all = l.closed_all;
      nothing = l.nothing;
      front = (l.front.0, l.front.1 ∙ ap (λ (bytes : List ℕ). bytes ++ l.front.0) (sym taken));
      shut = shut_both channel calls (Shut old.channel ∷ []) ∙ omega (arith, none_yet, one);
    })

pub keeps_flush : WireLaws → (channel : ℕ) (s : Wire) (old new : OutboxValue) (calls more : List WireCall) → Flushes old new more → Keeps channel s old calls
    → Keeps channel s new (calls ++ more)
keeps_flush laws channel s old new calls more flush (follows stays f) = follows stays (laws.flushing (all_of channel s) old new calls more flush f)
keeps_flush laws channel s old new calls more flush (left holds l) =
    let f = flush_left old new more l.closed l.nothing flush in
    left holds (left_flushed old.is_shut channel s old new calls more refl l f.new_is f.calls_are)

shut_after : (shut : Bool) (old new : OutboxValue) → old.is_shut ≡ shut → new ≡ (if shut then old else record old { is_shut = true }) → old.queued ≡ []
    → (new.is_shut ≡ true) × (new.queued ≡ [])
shut_after true old new is new_is nothing = (ap (λ (o : OutboxValue). o.is_shut) new_is ∙ is, ap (λ (o : OutboxValue). o.queued) new_is ∙ nothing)
shut_after false old new is new_is nothing = (ap (λ (o : OutboxValue). o.is_shut) new_is, ap (λ (o : OutboxValue). o.queued) new_is ∙ nothing)

not_due : (o : OutboxValue) → o.is_shut ≡ true → is_due o ≡ false
not_due o is = by_flags o.is_closed (nothing_left o) o.is_shut is
  where
    by_flags : (is_closed nothing shut : Bool) → shut ≡ true → is_closed && (nothing && not shut) ≡ false
    by_flags true true true so = refl
    by_flags true true false so = absurd (false≢true so)
    by_flags true false shut so = refl
    by_flags false nothing shut so = refl

pub flush_done : WireLaws → (channel : ℕ) (s : Wire) (old new : OutboxValue) (calls more : List WireCall) → Flushes old new more → Keeps channel s old calls
    → IsFlushed new (calls ++ more)
flush_done laws channel s old new calls more flush (follows stays f) = laws.flushed (all_of channel s) old new calls more flush f
flush_done laws channel s old new calls more flush (left holds l) =
    let f = flush_left old new more l.closed l.nothing flush in
    let after = shut_after old.is_shut old new refl f.new_is l.nothing in
    record { offered = λ whole. after.1; shut = not_due new after.0 }

-- a wire that was shut stays flushed
pub keeps_shut : WireLaws → (channel : ℕ) (s : Wire) (last : OutboxValue) (calls : List WireCall) → last.is_shut ≡ true → Keeps channel s last calls → IsFlushed last calls
keeps_shut laws channel s last calls is (follows stays f) = laws.shut (all_of channel s) last calls is f
keeps_shut laws channel s last calls is (left holds l) = record { offered = λ whole. l.nothing; shut = not_due last is }

-- ---- what was taken, and the shutting

left_shut : (shut : Bool) (count : ℕ) (now : OutboxValue) → now.is_shut ≡ shut → is_due now ≡ not shut → is_due now ≡ false → count ≡ (if now.is_shut then 1 else 0) → count ≡ 1
left_shut true count now is due never so = so ∙ ap (λ (b : Bool). if b then 1 else 0) is
left_shut false count now is due never so = absurd (false≢true (sym never ∙ due))

pub keeps_carried : WireLaws → (channel : ℕ) (s : Wire) (now : OutboxValue) (calls : List WireCall) → IsFlushed now calls → Keeps channel s now calls → CarriesWire s channel calls
keeps_carried laws channel s now calls flushed (follows stays f) = rw stays (laws.carried (all_of channel s) now calls f flushed)
keeps_carried laws channel s now calls flushed (left holds l) =
    rw holds (record { front = l.front; shut = left_shut now.is_shut (shut_count channel calls) now refl (due_by now.is_shut now refl l.closed l.nothing) flushed.shut l.shut })

pub keeps_front : (channel : ℕ) (s : Wire) (now : OutboxValue) (calls : List WireCall) → Keeps channel s now calls → (rest : List ℕ) × (s.queued ≡ taken_on channel calls ++ rest)
keeps_front channel s now calls (follows stays f) = own_front now.is_lost s.queued (taken_on channel calls) now.queued f.split
keeps_front channel s now calls (left holds l) = l.front

-- ---- each put and each shutting is in its place

left_in_place : (shut : Bool) (nodes : Nodes) (channel : ℕ) (s : Wire) (old : OutboxValue) (calls more : List WireCall) → old.is_shut ≡ shut → IsLeftSo channel s old calls
    → more ≡ (if shut then [] else Shut old.channel ∷ []) → EachBehind (IsInPlace nodes) calls more
left_in_place true nodes channel s old calls more is l calls_are = rw calls_are (each_none (IsInPlace nodes) calls)
left_in_place false nodes channel s old calls more is l calls_are =
    rw calls_are
    (each_one (IsInPlace nodes) calls (Shut old.channel) (ap (λ (k : ℕ). shut_count k calls) l.at ∙ l.shut ∙ ap (λ (b : Bool). if b then 1 else 0) is))

pub keeps_in_place : WireLaws → (nodes : Nodes) (channel : ℕ) (s : Wire) (old new : OutboxValue) (calls more : List WireCall)
    → nodes.served (events_in calls) channel ≡ s.queued → Flushes old new more → Keeps channel s old calls → EachBehind (IsInPlace nodes) calls more
keeps_in_place laws nodes channel s old new calls more served flush (follows stays f) = laws.in_place nodes (all_of channel s) old new calls more served f flush
keeps_in_place laws nodes channel s old new calls more served flush (left holds l) =
    let f = flush_left old new more l.closed l.nothing flush in
    left_in_place old.is_shut nodes channel s old calls more refl l f.calls_are

left_given_up : (nodes : Nodes) (old : OutboxValue) (calls more : List WireCall) → old.queued ≡ [] → IsGivenUp old more → EachBehind (IsInPlace nodes) calls more
left_given_up nodes old calls more nothing (before_put none) = rw none (each_none (IsInPlace nodes) calls)
left_given_up nodes old calls more nothing (before_shut mid puts) = rw (nothing_put old mid more nothing puts).1 (each_none (IsInPlace nodes) calls)

pub keeps_given_up : WireLaws → (nodes : Nodes) (channel : ℕ) (s : Wire) (old : OutboxValue) (calls more : List WireCall)
    → nodes.served (events_in calls) channel ≡ s.queued → IsGivenUp old more → Keeps channel s old calls → EachBehind (IsInPlace nodes) calls more
keeps_given_up laws nodes channel s old calls more served up (follows stays f) = laws.gives_up nodes (all_of channel s) old calls more served f up
keeps_given_up laws nodes channel s old calls more served up (left holds l) = left_given_up nodes old calls more l.nothing up

pub keeps_at : (channel : ℕ) (s : Wire) (now : OutboxValue) (calls : List WireCall) → Keeps channel s now calls → now.channel ≡ channel
keeps_at channel s now calls (follows stays f) = f.channel
keeps_at channel s now calls (left holds l) = l.at
