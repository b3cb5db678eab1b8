-- What a side has to send is taken out, one after the other.
use Rattle.std.proofs.Common.{◌≡◌, ℕ, ◌<◌, Bool, true, false, List, [], ◌∷◌, ◌++◌, length, Option, Some, None, refl, sym, ap, ◌∙◌, arith, append-nil, append_assoc}
use Rattle.std.specs.Prelude.{drop, slice_get}
use Rattle.std.proofs.lemmas.Option.{none-some, same_Some}
use Rattle.channel_core.specs.EndValue.{EndValue, unless_spent}
use Rattle.channel_core.specs.declared.held.Outgoing.{Outgoing}
use Rattle.channel_list.specs.Channels.{End, changed, with_end}
use Rattle.channel_list.specs.declared.channel.Channel.{Channel}
use Rattle.hub_node.specs.Hub.{after_giving, given, with_relay}
use Rattle.hub_node.specs.HubValue.{HubValue}
use Rattle.hub_node.specs.Relay.{after_giving_at, first_of, given_at, lower_of}
use Rattle.hub_node.specs.RelayValue.{RelayValue}
use Rattle.hub_node.specs.declared.side.HubSide.{HubSide}
use Rattle.hub_node.specs.declared.side.HubSide.TheVariants.{Above, Below}
use Rattle.hub_node.specs.declared.waiting.Tag.{Tag}
use Rattle.hub_serving.proofs.Firsts.{changed_kept, changed_twice, found_at, mapped}
use Rattle.hub_serving.specs.Gathering.{bytes_for, emptied, emptied_at, emptied_end, queue_at, queue_in, queue_of, queue_on}

-- ---- one end

abbrev pub after_one : {T : Type 0} → EndValue T → EndValue T
after_one e = unless_spent e e (record e { queued = drop 1 e.queued })

abbrev pub first_out : {T : Type 0} → EndValue T → Option Outgoing
first_out e = unless_spent e None (slice_get e.queued 0)

pub record IsNextOf {T : Type 0} (e : EndValue T) (out : Outgoing) : Type 0 where
  pub queue : queue_of e ≡ out ∷ queue_of (after_one e)
  pub same : emptied_end (after_one e) ≡ emptied_end e

next_by : {T : Type 0} → (spent : Bool) (queue : List Outgoing) (e : EndValue T) (out : Outgoing) → first_out (record e { queued = queue; is_spent = spent }) ≡ Some out
    → IsNextOf (record e { queued = queue; is_spent = spent }) out
next_by true queue e out is = absurd (none-some out is)
next_by false [] e out is = absurd (none-some out is)
next_by false (x ∷ xs) e out is = record { queue = ap {B = List Outgoing} (λ (y : Outgoing). y ∷ xs) (same_Some x out is); same = refl }

pub next_end : {T : Type 0} → (e : EndValue T) (out : Outgoing) → first_out e ≡ Some out → IsNextOf e out
next_end e out is = next_by e.is_spent e.queued e out is

pub record IsLastOf {T : Type 0} (e : EndValue T) : Type 0 where
  pub queue : queue_of e ≡ []
  pub same : after_one e ≡ emptied_end e

last_by : {T : Type 0} → (spent : Bool) (queue : List Outgoing) (e : EndValue T) → first_out (record e { queued = queue; is_spent = spent }) ≡ None → IsLastOf (record e { queued = queue; is_spent = spent })
last_by true queue e is = record { queue = refl; same = refl }
last_by false [] e is = record { queue = refl; same = refl }
last_by false (x ∷ xs) e is = absurd (none-some x (sym is))

pub last_end : {T : Type 0} → (e : EndValue T) → first_out e ≡ None → IsLastOf e
last_end e is = last_by e.is_spent e.queued e is

-- ---- a side

pub record IsNext (side : HubSide) (r : RelayValue) (out : Outgoing) : Type 0 where
  pub queue : queue_at side r ≡ out ∷ queue_at side (after_giving_at side r)
  pub same : emptied_at side (after_giving_at side r) ≡ emptied_at side r

pub record IsLast (side : HubSide) (r : RelayValue) : Type 0 where
  pub queue : queue_at side r ≡ []
  pub same : after_giving_at side r ≡ emptied_at side r

-- the channel that is found below

lower_next : (lower : Option Channel) (out : Outgoing) → first_of lower ≡ Some out → queue_in lower ≡ out ∷ queue_in (mapped after_one lower)
lower_next None out is = absurd (none-some out is)
lower_next (Some lower) out is = (next_end lower.end out is).queue

abbrev IsEmpty : Option Channel → Type 0
IsEmpty lower = (queue_in lower ≡ []) × (mapped after_one lower ≡ lower) × (mapped emptied_end lower ≡ lower)

stays_by : (spent : Bool) (queue : List Outgoing) (lower : Channel) → first_out (record lower.end { queued = queue; is_spent = spent }) ≡ None
    → IsEmpty (Some (with_end (record lower.end { queued = queue; is_spent = spent }) lower))
stays_by true queue lower is = (refl, refl, refl)
stays_by false [] lower is = (refl, refl, refl)
stays_by false (x ∷ xs) lower is = absurd (none-some x (sym is))

lower_last : (lower : Option Channel) → first_of lower ≡ None → IsEmpty lower
lower_last None is = (refl, refl, refl)
lower_last (Some lower) is = stays_by lower.end.is_spent lower.end.queued lower is

once_emptied : (spent : Bool) (e : End) → emptied_end (after_one (record e { is_spent = spent })) ≡ emptied_end (record e { is_spent = spent })
once_emptied true e = refl
once_emptied false e = refl

next_at : (side : HubSide) (r : RelayValue) (out : Outgoing) → given_at side r ≡ Some out → IsNext side r out
unfolding given_at after_giving_at
next_at Above r out is = let n = next_end r.upper out is in record { queue = n.queue; same = ap (λ (u : EndValue Tag). record r { upper = u }) n.same }
next_at (Below j) r out is =
    record {
      queue = lower_next (lower_of j r) out is ∙ ap {B = List Outgoing} (λ (lower : Option Channel). out ∷ queue_in lower) (sym (found_at j after_one r.lowers));
      same = ap (λ (cs : List Channel). record r { lowers = cs }) (changed_twice j after_one emptied_end emptied_end r.lowers (λ e. once_emptied e.is_spent e));
    }

last_at : (side : HubSide) (r : RelayValue) → given_at side r ≡ None → IsLast side r
unfolding given_at after_giving_at
last_at Above r is = let l = last_end r.upper is in record { queue = l.queue; same = ap (λ (u : EndValue Tag). record r { upper = u }) l.same }
last_at (Below j) r is =
    let l = lower_last (lower_of j r) is in
    record {
      queue = l.0;
      same = ap (λ (cs : List Channel). record r { lowers = cs }) (changed_kept j after_one r.lowers l.1 ∙ sym (changed_kept j emptied_end r.lowers l.2));
    }

-- ---- a hub

pub record HubNext (side : HubSide) (h next : HubValue) (out : Outgoing) : Type 0 where
  pub queue : queue_on side h ≡ out ∷ queue_on side next
  pub same : emptied side next ≡ emptied side h

hub_next_by : (spent : Bool) (side : HubSide) (h : HubValue) (out : Outgoing) → given side (record h { is_spent = spent }) ≡ Some out
    → HubNext side (record h { is_spent = spent }) (after_giving side (record h { is_spent = spent })) out
unfolding emptied
hub_next_by true side h out is = absurd (none-some out is)
hub_next_by false side h out is =
    let n = next_at side h.relay out is in record { queue = n.queue; same = ap (λ (r : RelayValue). record h { relay = r; is_spent = false }) n.same }

pub hub_next : (side : HubSide) (h : HubValue) (out : Outgoing) → given side h ≡ Some out → HubNext side h (after_giving side h) out
hub_next side h out is = hub_next_by h.is_spent side h out is

pub record HubLast (side : HubSide) (h next : HubValue) : Type 0 where
  pub queue : queue_on side h ≡ []
  pub same : next ≡ emptied side h

hub_last_by : (spent : Bool) (side : HubSide) (h : HubValue) → given side (record h { is_spent = spent }) ≡ None
    → HubLast side (record h { is_spent = spent }) (after_giving side (record h { is_spent = spent }))
unfolding emptied
hub_last_by true side h is = record { queue = refl; same = refl }
hub_last_by false side h is =
    let l = last_at side h.relay is in record { queue = l.queue; same = ap (λ (r : RelayValue). record h { relay = r; is_spent = false }) l.same }

pub hub_last : (side : HubSide) (h : HubValue) → given side h ≡ None → HubLast side h (after_giving side h)
hub_last side h is = hub_last_by h.is_spent side h is

-- ---- as the code goes on

pub record TakesOut (side : HubSide) (first now : HubValue) (bytes : List ℕ) : Type 0 where
  pub whole : bytes ++ bytes_for side now ≡ bytes_for side first
  pub hub : emptied side now ≡ emptied side first

pub takes_out_first : (side : HubSide) (h : HubValue) → TakesOut side h h []
takes_out_first side h = record { whole = refl; hub = refl }

one_fewer : (out : Outgoing) (outs all : List Outgoing) → all ≡ out ∷ outs → length outs < length all
one_fewer out outs all is = rw is (omega arith)

pub fewer_left : (side : HubSide) (h next : HubValue) (out : Outgoing) → given side h ≡ Some out → next ≡ after_giving side h → length (queue_on side next) < length (queue_on side h)
fewer_left side h next out is after = rw after (one_fewer out (queue_on side (after_giving side h)) (queue_on side h) (hub_next side h out is).queue)

bytes_next : (side : HubSide) (h next : HubValue) (out : Outgoing) → queue_on side h ≡ out ∷ queue_on side next → bytes_for side h ≡ out.bytes ++ bytes_for side next
unfolding bytes_for
bytes_next side h next out is = rw is refl

no_bytes : (side : HubSide) (h : HubValue) → queue_on side h ≡ [] → bytes_for side h ≡ []
unfolding bytes_for
no_bytes side h is = rw is refl

pub takes_out_next : (side : HubSide) (first h next : HubValue) (out : Outgoing) (bytes more all : List ℕ) → given side h ≡ Some out → next ≡ after_giving side h
    → more ≡ out.bytes → all ≡ bytes ++ more → TakesOut side first h bytes → TakesOut side first next all
takes_out_next side first h next out bytes more all is after same joined t =
    let n = hub_next side h out is in
    rw (after, joined, same)
    (record {
      whole = append_assoc bytes out.bytes (bytes_for side (after_giving side h))
          ∙ ap (λ (rest : List ℕ). bytes ++ rest) (sym (bytes_next side h (after_giving side h) out n.queue)) ∙ t.whole;
      hub = n.same ∙ t.hub;
    })

pub takes_out_last : (side : HubSide) (first h next : HubValue) (bytes : List ℕ) → given side h ≡ None → next ≡ after_giving side h → TakesOut side first h bytes
    → (bytes ≡ bytes_for side first) × (next ≡ emptied side first)
takes_out_last side first h next bytes is after t =
    let l = hub_last side h is in (
      sym (append-nil bytes) ∙ ap (λ (rest : List ℕ). bytes ++ rest) (sym (no_bytes side h l.queue)) ∙ t.whole,
      after ∙ l.same ∙ t.hub,
    )
