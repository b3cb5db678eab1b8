-- What a value-add has to send is queued, and then all that its ends queued was given out.
use Rattle.std.proofs.Common.{◌≡◌, ℕ, ◌==◌, Bool, true, false, List, [], ◌++◌, Option, Some, None, refl, ap, sym, ◌∙◌, subst, append-nil}
use Rattle.std.specs.Prelude.{if◌then◌else◌, option_map}
use Rattle.std.proofs.lemmas.Bool.{false≢true}
use Rattle.std.proofs.lemmas.Grind.{flat_map-append}
use Rattle.list_laws.proofs.Numbers.{other_number}
use Rattle.channel_core.specs.declared.held.Outgoing.{Outgoing}
use Rattle.serving_wires.proofs.Rows.{found}
use Rattle.serving_wires.specs.declared.intake.Came.{Came}
use Rattle.value_node.specs.Passing.{Upper}
use Rattle.value_node.specs.Value.{is_free}
use Rattle.value_node.specs.ValueValue.{ValueValue}
use Rattle.value_node.specs.declared.relay.Relay.{Relay}
use Rattle.value_node.specs.declared.states.Bind.{Bind}
use Rattle.value_node.specs.declared.states.Side.{Side}
use Rattle.value_node.specs.declared.states.Side.TheVariants.{Below, Above}
use Rattle.value_serving.specs.Adds.{bytes_for, emptied, emptied_at, emptied_end, is_over, queue_of, queue_on, waits, with_node}
use Rattle.serving_wires.specs.Order.{Order, channel_of, closes, queues}
use Rattle.value_serving.specs.Passing.{closing, gathered, heard, passed_on, sent_above, sent_on}
use Rattle.serving_wires.specs.Process.{done}
use Rattle.value_serving.specs.Served.{Passed, bytes_of}
use Rattle.serving_wires.specs.Standing.{Wire, sent_after, sent_with}
use Rattle.value_serving.specs.declared.add.Add.{Add}
use Rattle.value_serving.proofs.Making.{IsSilent, made_emptied, over_is_free, unlinked, unspent, with_all}
use Rattle.serving_wires.proofs.Wires.{Grows, Wires, grows_none, wire_other, wire_own}
use Rattle.value_serving.proofs.Sparing.{Spares, spares_both, spares_low, spares_none, spares_up}
use Rattle.value_serving.proofs.Working.{Leads, OnItsWay, SideOnWire, UpWorks, Works, leads_then, leads_weaker, passed_comes}

-- ---- a side is emptied

bytes_are : (side : Side) (node : ValueValue) → bytes_for side node ≡ bytes_of (queue_on side node)
unfolding bytes_for
bytes_are side node = refl

relay_by : (flag : Bool) (side : Side) (node : ValueValue) → flag ≡ false → (if flag then node else record node { relay = emptied_at side node.relay }).relay ≡ emptied_at side node.relay
relay_by true side node off = absurd cc
relay_by false side node off = refl

relay_emptied : (side : Side) (node : ValueValue) → node.is_spent ≡ false → (emptied side node).relay ≡ emptied_at side node.relay
unfolding emptied
relay_emptied side node off = relay_by node.is_spent side node off

abbrev pub HasNothing : Option Upper → Type 0
HasNothing None = Unit {0}
HasNothing (Some e) = e.queued ≡ []

nothing_left : (upper : Option Upper) → HasNothing (option_map emptied_end upper)
nothing_left None = tt
nothing_left (Some e) = refl

silent_if_free : (upper : Option Upper) → is_free upper ≡ true → IsSilent (option_map emptied_end upper)
silent_if_free None free = tt
silent_if_free (Some e) free = (free, refl)

silent_still : (upper : Option Upper) → IsSilent upper → IsSilent (option_map emptied_end upper)
silent_still None old = tt
silent_still (Some e) old = (old.0, refl)

silent_queue : (upper : Option Upper) → IsSilent upper → queue_of upper ≡ []
silent_queue None old = refl
silent_queue (Some e) old = old.1

pub queue_by : (spent : Bool) (outs : List Outgoing) → outs ≡ [] → (if spent then [] else outs) ≡ []
queue_by true outs none = refl
queue_by false outs none = none

-- ---- the wire below

more_bytes : (bytes : List ℕ) (outs : List Outgoing) (side : Side) (node : ValueValue) → bytes ≡ bytes_of outs → bytes ++ bytes_for side node ≡ bytes_of (outs ++ queue_on side node)
more_bytes bytes outs side node is =
    ap (λ (bs : List ℕ). bs ++ bytes_for side node) is ∙ ap (λ (bs : List ℕ). bytes_of outs ++ bs) (bytes_are side node)
    ∙ sym (flat_map-append (λ (out : Outgoing). out.bytes) outs (queue_on side node))

queued_open : (channel : ℕ) (bytes : List ℕ) (s : Wire) → s.is_closed ≡ false → sent_after (queues channel bytes) s ≡ record s { queued = s.queued ++ bytes }
queued_open channel bytes s is = ap (λ (b : Bool). if b then s else record s { queued = s.queued ++ bytes }) is

queued_shut : (channel : ℕ) (bytes : List ℕ) (s : Wire) → s.is_closed ≡ true → sent_after (queues channel bytes) s ≡ s
queued_shut channel bytes s is = ap (λ (b : Bool). if b then s else record s { queued = s.queued ++ bytes }) is

up_other : (up : Option ℕ) (order : Order) (low : ℕ) (one other : Option Upper) (waiting : List Came) (high : Option Passed) (sent : Wires) → channel_of order ≡ low
    → (IsSilent one → IsSilent other) → UpWorks up low one waiting high sent → UpWorks up low other waiting high (sent_with order sent)
up_other None order low one other waiting high sent at so w = w
up_other (Some channel) order low one other waiting high sent at so w =
    record {
      passed = w.passed;
      linked = w.linked;
      on = record {
        wire = w.on.wire;
        there = wire_other order channel sent (ap (λ (k : ℕ). k == channel) at ∙ w.apart) ∙ w.on.there;
        queued = w.on.queued;
        came = w.on.came;
      };
      silent = λ shut. so (w.silent shut);
      apart = w.apart;
    }

works_low : (peer : List ℕ) (a : Add) (sent : Wires) → Works peer a sent
    → Works peer (with_node (emptied Below a.node) a) (sent_with (queues a.below (bytes_for Below a.node)) sent)
works_low peer a sent w =
    let bytes = bytes_for Below a.node in
    let same : (emptied Below a.node).relay.upper ≡ a.node.relay.upper = ap (λ (v : Relay). v.upper) (relay_emptied Below a.node (unspent peer a.node w.low w.high w.made)) in
    record {
      low = with_all (queue_on Below a.node) w.low;
      high = w.high;
      made = made_emptied peer Below a.node w.low w.high w.made;
      lower = record {
        wire = record w.lower.wire { queued = w.lower.wire.queued ++ bytes };
        there = wire_own (queues a.below bytes) sent w.lower.wire w.lower.there ∙ ap (λ (s : Wire). Some s) (queued_open a.below bytes w.lower.wire w.open_yet);
        queued = more_bytes w.lower.wire.queued w.low.gave Below a.node w.lower.queued;
        came = w.lower.came;
      };
      open_yet = w.open_yet;
      upper = up_other a.above (queues a.below bytes) a.below a.node.relay.upper (emptied Below a.node).relay.upper a.upper w.high sent refl (λ old. subst IsSilent (sym same) old) w.upper;
    }

-- ---- the wire above

abbrev shut_if : Bool → ℕ → Wires → Wires
shut_if true channel sent = sent_with (closes channel) sent
shut_if false channel sent = sent

-- the wire, once all is queued
record AfterAll (channel : ℕ) (passed : Passed) (waiting : List Came) (upper : Option Upper) (sent : Wires) : Type 0 where
  on : SideOnWire channel passed waiting sent
  silent : on.wire.is_closed ≡ true → IsSilent upper

queues_up : (shut : Bool) (channel : ℕ) (node : ValueValue) (next : Option Upper) (passed : Passed) (waiting : List Came) (sent : Wires) → (o : SideOnWire channel passed waiting sent)
    → o.wire.is_closed ≡ shut → (shut ≡ true → IsSilent node.relay.upper) → (IsSilent node.relay.upper → IsSilent next)
    → AfterAll channel (with_all (queue_on Above node) passed) waiting next (sent_with (queues channel (bytes_for Above node)) sent)
queues_up true channel node next passed waiting sent o is silent so =
    let bytes = bytes_for Above node in
    let none : queue_on Above node ≡ [] = queue_by node.is_spent (queue_of node.relay.upper) (silent_queue node.relay.upper (silent refl)) in
    record {
      on = record {
        wire = o.wire;
        there = wire_own (queues channel bytes) sent o.wire o.there ∙ ap (λ (s : Wire). Some s) (queued_shut channel bytes o.wire is);
        queued = o.queued ∙ ap bytes_of (sym (ap (λ (xs : List Outgoing). passed.gave ++ xs) none ∙ append-nil passed.gave));
        came = o.came;
      };
      silent = λ shut. so (silent refl);
    }
queues_up false channel node next passed waiting sent o is silent so =
    let bytes = bytes_for Above node in
    record {
      on = record {
        wire = record o.wire { queued = o.wire.queued ++ bytes };
        there = wire_own (queues channel bytes) sent o.wire o.there ∙ ap (λ (s : Wire). Some s) (queued_open channel bytes o.wire is);
        queued = more_bytes o.wire.queued passed.gave Above node o.queued;
        came = o.came;
      };
      silent = λ shut. absurd (false≢true (sym is ∙ shut));
    }

shuts_up : (flag : Bool) (channel : ℕ) (next : Option Upper) (passed : Passed) (waiting : List Came) (sent : Wires) → (flag ≡ true → IsSilent next)
    → AfterAll channel passed waiting next sent → AfterAll channel passed waiting next (shut_if flag channel sent)
shuts_up true channel next passed waiting sent silent old =
    record {
      on = record {
        wire = record old.on.wire { is_closed = true };
        there = wire_own (closes channel) sent old.on.wire old.on.there;
        queued = old.on.queued;
        came = old.on.came;
      };
      silent = λ shut. silent refl;
    }
shuts_up false channel next passed waiting sent silent old = old

low_stays : (flag : Bool) (low channel : ℕ) (wire : Wire) (sent : Wires) → (channel == low) ≡ false → found low sent ≡ Some wire → found low (shut_if flag channel sent) ≡ Some wire
low_stays true low channel wire sent off is = wire_other (closes channel) low sent off ∙ is
low_stays false low channel wire sent off is = is

works_up : (flag : Bool) (peer : List ℕ) (b : Add) (channel : ℕ) (sent : Wires) → (flag ≡ true → is_free b.node.relay.upper ≡ true) → (channel == b.below) ≡ false
    → Works peer (record b { above = Some channel }) sent
    → Works peer (with_node (emptied Above b.node) (record b { above = Some channel })) (shut_if flag channel (sent_with (queues channel (bytes_for Above b.node)) sent))
works_up flag peer b channel sent free off w =
    let bytes = bytes_for Above b.node in
    let put = sent_with (queues channel bytes) sent in
    let upper_is : (emptied Above b.node).relay.upper ≡ option_map emptied_end b.node.relay.upper =
    ap (λ (v : Relay). v.upper) (relay_emptied Above b.node (unspent peer b.node w.low w.high w.made)) in
    let next = (emptied Above b.node).relay.upper in
    let outs = queue_on Above b.node in
    let up = w.upper in
    let first = queues_up up.on.wire.is_closed channel b.node next up.passed b.upper sent up.on refl up.silent
    (λ old. subst IsSilent (sym upper_is) (silent_still b.node.relay.upper old)) in
    let all = shuts_up flag channel next (with_all outs up.passed) b.upper put (λ on. subst IsSilent (sym upper_is) (silent_if_free b.node.relay.upper (free on))) first in
    record {
      low = w.low;
      high = option_map (with_all outs) w.high;
      made = made_emptied peer Above b.node w.low w.high w.made;
      lower = record {
        wire = w.lower.wire;
        there = low_stays flag b.below channel w.lower.wire put off (wire_other (queues channel bytes) b.below sent off ∙ w.lower.there);
        queued = w.lower.queued;
        came = w.lower.came;
      };
      open_yet = w.open_yet;
      upper = record { passed = with_all outs up.passed; linked = ap (λ (s : Option Passed). option_map (with_all outs) s) up.linked; on = all.on; silent = all.silent; apart = up.apart };
    }

-- ---- all is queued

pub record Settled (peer : List ℕ) (sent : Wires) (a : Add) : Type 0 where
  pub works : Works peer a sent
  pub low_empty : a.node.relay.lower.queued ≡ []
  pub up_empty : HasNothing a.node.relay.upper

-- unless nothing more is said below, since then the value-add is forgotten
pub record Rested (peer : List ℕ) (first : Add) (before : Wires) (bind : Bind) (a : Add) (sent : Wires) : Type 0 where
  pub bind_is : a.node.relay.bind ≡ bind
  pub low_is : a.below ≡ first.below
  pub spares : Spares first.below first.above before a.below a.above sent
  pub settled : is_over Below bind ≡ false → Settled peer sent a

record Half (peer : List ℕ) (first : Add) (before : Wires) (bind : Bind) (a : Add) (sent : Wires) : Type 0 where
  bind_is : a.node.relay.bind ≡ bind
  low_is : a.below ≡ first.below
  spares : Spares first.below first.above before a.below a.above sent
  works : is_over Below bind ≡ false → Works peer a sent
  low_empty : is_over Below bind ≡ false → a.node.relay.lower.queued ≡ []

leads_closing : {A : Type 0} → (M : Wires → Type 0) (Q : A → Wires → Type 0) (flag : Bool) (channel : ℕ) (a : A) (sent : Wires) → Q a (shut_if flag channel sent)
    → Leads M Q (closing flag channel (done a)) sent
leads_closing M Q true channel a sent so = so
leads_closing M Q false channel a sent so = so

bind_by : (flag : Bool) (side : Side) (node : ValueValue) → (if flag then node else record node { relay = emptied_at side node.relay }).relay.bind ≡ node.relay.bind
bind_by true side node = refl
bind_by false Below node = refl
bind_by false Above node = refl

bind_emptied : (side : Side) (node : ValueValue) → (emptied side node).relay.bind ≡ node.relay.bind
unfolding emptied
bind_emptied side node = bind_by node.is_spent side node

spares_shut_low : (flag : Bool) (low : ℕ) (up : Option ℕ) (sent : Wires) → Spares low up sent low up (shut_if flag low sent)
spares_shut_low true low up sent = spares_low (closes low) low up sent refl
spares_shut_low false low up sent = spares_none low up sent

spares_shut_up : (flag : Bool) (low above : ℕ) (sent : Wires) → Spares low (Some above) sent low (Some above) (shut_if flag above sent)
spares_shut_up true low above sent = spares_up (closes above) low above sent refl
spares_shut_up false low above sent = spares_none low (Some above) sent

only_open : (P : Wires → Type 0) (flag : Bool) (channel : ℕ) (sent : Wires) → flag ≡ false → P sent → P (shut_if flag channel sent)
only_open P true channel sent off p = absurd cc
only_open P false channel sent off p = p

module _ (peer : List ℕ) (first : Add) (before : Wires) (M : Wires → Type 0) where
  low_leads : (a : Add) (sent : Wires) → Works peer a sent → a.below ≡ first.below → Spares first.below first.above before a.below a.above sent
      → Leads M (Half peer first before a.node.relay.bind) (sent_on Below a.below a) sent
  low_leads a sent w low_is spares =
      let flag = is_over Below a.node.relay.bind in
      let put = sent_with (queues a.below (bytes_for Below a.node)) sent in
      let next : Add = with_node (emptied Below a.node) a in
      leads_closing M (Half peer first before a.node.relay.bind) flag a.below next put
      (record {
        bind_is = bind_emptied Below a.node;
        low_is = low_is;
        spares = spares_both first.below a.below a.below first.above a.above a.above before sent (shut_if flag a.below put) spares
            (spares_both a.below a.below a.below a.above a.above a.above sent put (shut_if flag a.below put) (spares_low (queues a.below (bytes_for Below a.node)) a.below a.above sent refl)
            (spares_shut_low flag a.below a.above put));
        works = λ off. only_open (λ (s : Wires). Works peer next s) flag a.below put off (works_low peer a sent w);
        low_empty = λ off. ap (λ (v : Relay). v.lower.queued) (relay_emptied Below a.node (unspent peer a.node w.low w.high w.made));
      })

  up_by : (up : Option ℕ) (bind : Bind) (b : Add) (sent : Wires) → Half peer first before bind (record b { above = up }) sent
      → Leads M (Rested peer first before bind) (sent_above up (record b { above = up })) sent
  up_by None bind b sent h =
      record {
        bind_is = h.bind_is;
        low_is = h.low_is;
        spares = h.spares;
        settled = λ off.
            let w = h.works off in
            record {
              works = w;
              low_empty = h.low_empty off;
              up_empty = subst HasNothing (sym (unlinked peer b.node w.low w.high w.made w.upper)) tt;
            };
      }
  up_by (Some channel) bind b sent h =
      let a : Add = record b { above = Some channel } in
      let flag = is_over Above b.node.relay.bind in
      let put = sent_with (queues channel (bytes_for Above b.node)) sent in
      let next : Add = with_node (emptied Above b.node) a in
      leads_closing M (Rested peer first before bind) flag channel next put
      (record {
        bind_is = bind_emptied Above b.node ∙ h.bind_is;
        low_is = h.low_is;
        spares = spares_both first.below b.below b.below first.above (Some channel) (Some channel) before sent (shut_if flag channel put) h.spares
            (spares_both b.below b.below b.below (Some channel) (Some channel) (Some channel) sent put (shut_if flag channel put)
            (spares_up (queues channel (bytes_for Above b.node)) b.below channel sent refl) (spares_shut_up flag b.below channel put));
        settled = λ off.
            let w = h.works off in
            let relay_is = relay_emptied Above b.node (unspent peer b.node w.low w.high w.made) in
            record {
              works = works_up flag peer b channel sent (λ over. over_is_free peer b.node w.low w.high w.made over) (other_number b.below channel w.upper.apart) w;
              low_empty = ap (λ (v : Relay). v.lower.queued) relay_is ∙ h.low_empty off;
              up_empty = subst HasNothing (sym (ap (λ (v : Relay). v.upper) relay_is)) (nothing_left b.node.relay.upper);
            };
      })

  pub gathered_leads : (a : Add) (sent : Wires) → Works peer a sent → a.below ≡ first.below → Spares first.below first.above before a.below a.above sent
      → Leads M (Rested peer first before a.node.relay.bind) (gathered a) sent
  unfolding gathered
  gathered_leads a sent w low_is spares =
      leads_then M (Half peer first before a.node.relay.bind) (Rested peer first before a.node.relay.bind) (sent_on Below a.below a) (λ next. sent_above next.above next) sent
      (low_leads a sent w low_is spares) (λ b s h. up_by b.above a.node.relay.bind b s h)

-- ---- something comes on a side

-- it waits at first
spares_waiting : (side : Side) (what : Came) (a : Add) (sent : Wires) → Spares a.below a.above sent (waits side what a).below (waits side what a).above sent
spares_waiting Below what a sent = spares_none a.below a.above sent
spares_waiting Above what a sent = spares_none a.below a.above sent

low_waiting : (side : Side) (what : Came) (a : Add) → (waits side what a).below ≡ a.below
low_waiting Below what a = refl
low_waiting Above what a = refl

pub record Forgotten (peer : List ℕ) (first : Add) (before : Wires) (a : Add) (sent : Wires) : Type 0 where
  pub low_is : a.below ≡ first.below
  pub spares : Spares first.below first.above before a.below a.above sent
  pub settled : is_over Below a.node.relay.bind ≡ false → Settled peer sent a

pub heard_leads : (peer : List ℕ) (side : Side) (what : Came) (a : Add) (sent : Wires) → Works peer (waits side what a) sent
    → Leads (Grows sent) (Forgotten peer a sent) (heard side what a) sent
unfolding heard
heard_leads peer side what a sent w =
    leads_then (Grows sent) (OnItsWay peer a sent) (Forgotten peer a sent) (passed_on (waits side what a)) gathered sent
    (passed_comes peer a sent (waits side what a) sent (record { works = w; low_is = low_waiting side what a; grows = grows_none sent; spares = spares_waiting side what a sent }))
    (λ b s way.
    leads_weaker (Grows sent) (Grows sent) (Rested peer a sent b.node.relay.bind) (Forgotten peer a sent) (gathered b) s (λ r m. m)
    (λ c r rested. record { low_is = rested.low_is; spares = rested.spares; settled = λ off. rested.settled (ap (is_over Below) (sym rested.bind_is) ∙ off) })
    (gathered_leads peer a sent (Grows sent) b s way.works way.low_is way.spares))
