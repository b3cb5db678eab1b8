-- Each call of a hub, seen under the numbers of its commands.
use Rattle.std.proofs.Common.{◌≡◌, ℕ, Bool, true, false, cond, List, Option, None, Result, Ok, Err, refl, sym, ap, ◌∙◌, subst}
use Rattle.std.specs.Prelude.{IfOk, OnErr, OnOk}
use Rattle.std.specs.declared.alloc.AllocError.{AllocError}
use Rattle.channel_core.specs.declared.held.Outgoing.{Outgoing}
use Rattle.link_pool.specs.Lists.{item_of}
use Rattle.hub_node.specs.Hub.{after_giving, came, ended, given, new_hub, opened, turned as turned_under, with_relay}
use Rattle.hub_node.specs.HubValue.{HubValue}
use Rattle.hub_node.specs.Relay.{after_giving_at, ended_at, given_at, turned_at}
use Rattle.hub_node.specs.RelayValue.{RelayValue}
use Rattle.hub_node.specs.declared.side.HubSide.{HubSide}
use Rattle.hub_serving.specs.Numbered.{GoTogether, numbered, numbered_relay, turned}
use Rattle.hub_serving.proofs.Numbering.{came_same, came_together, ended_same, ended_together, gave_same, gave_together, given_same, new_together, opened_same, opened_together, turn_so, turn_together}

-- keys and numbers go together, unless memory was wanting
abbrev pub Holds : HubValue → Type 0
Holds h = h.is_spent ≡ false → GoTogether h.relay

-- where memory was wanting nothing is said
wanting : {A : Type 0} → (h : HubValue) → h.is_spent ≡ true → h.is_spent ≡ false → A
wanting h spent not = absurd (let both : true ≡ false = sym spent ∙ not in cc)

-- ---- a new hub

pub new_so : (h : HubValue) → h ≡ new_hub → numbered h ≡ new_hub
new_so h is = ap numbered is

pub new_holds : (h : HubValue) → h ≡ new_hub → Holds h
new_holds h is = λ unspent. subst (λ (x : HubValue). GoTogether x.relay) (sym is) new_together

-- ---- a channel opens

pub opened_so : (result : Result Bool AllocError) (j : ℕ) (h next : HubValue) → IfOk result (λ did. (did, next) ≡ opened j h) → IfOk result (λ did. (did, numbered next) ≡ opened j (numbered h))
opened_so (Ok did) j h next is =
    ap {B = Bool × HubValue} (λ (t : Bool × HubValue). (t.0, numbered t.1)) is
    ∙ sym (ap {B = Bool × HubValue} (λ (t : Bool × RelayValue). (t.0, record h { relay = t.1 })) (opened_same j h.relay))
opened_so (Err why) j h next is = tt

pub opened_holds : (result : Result Bool AllocError) (j : ℕ) (h next : HubValue) → IfOk result (λ did. (did, next) ≡ opened j h) → OnOk result (h.is_spent ≡ false) → OnErr result (next.is_spent ≡ true)
    → Holds h → Holds next
opened_holds (Ok did) j h next is fresh spent holds = λ unspent.
    subst (λ (t : Bool × HubValue). GoTogether t.1.relay) (sym is) (opened_together j h.relay (holds fresh))
opened_holds (Err why) j h next is fresh spent holds = λ unspent. wanting next spent unspent

-- ---- bytes come, or have ended

pub came_so : (result : Result (Unit {0}) AllocError) (side : HubSide) (piece : List ℕ) (h next : HubValue) → OnOk result (next ≡ came side piece None h) → OnOk result (h.is_spent ≡ false) → Holds h
    → OnOk result (numbered next ≡ came side piece None (numbered h))
came_so (Ok done) side piece h next is fresh holds =
    ap numbered is ∙ sym (ap (λ (r : RelayValue). record h { relay = r }) (came_same side piece None h.relay (holds fresh).fresh))
came_so (Err why) side piece h next is fresh holds = tt

pub came_holds : (result : Result (Unit {0}) AllocError) (side : HubSide) (piece : List ℕ) (h next : HubValue) → OnOk result (next ≡ came side piece None h) → OnOk result (h.is_spent ≡ false)
    → OnErr result (next.is_spent ≡ true) → Holds h → Holds next
came_holds (Ok done) side piece h next is fresh spent holds = λ unspent.
    subst (λ (x : HubValue). GoTogether x.relay) (sym is) (came_together side piece None h.relay (holds fresh))
came_holds (Err why) side piece h next is fresh spent holds = λ unspent. wanting next spent unspent

pub ended_so : (side : HubSide) (h next : HubValue) → next ≡ ended side h → Holds h → numbered next ≡ ended side (numbered h)
ended_so side h next is holds = ap numbered is ∙ by_flag h.is_spent refl
  where
    by_flag : (spent : Bool) → h.is_spent ≡ spent
        → numbered (cond h.is_spent h (with_relay (ended_at side h.relay) h)) ≡ cond h.is_spent (numbered h) (with_relay (ended_at side (numbered_relay h.relay)) (numbered h))
    by_flag true so =
        ap (λ (b : Bool). numbered (cond b h (with_relay (ended_at side h.relay) h))) so
        ∙ sym (ap (λ (b : Bool). cond b (numbered h) (with_relay (ended_at side (numbered_relay h.relay)) (numbered h))) so)
    by_flag false so =
        ap (λ (b : Bool). numbered (cond b h (with_relay (ended_at side h.relay) h))) so
        ∙ sym (ap (λ (r : RelayValue). record h { relay = r }) (ended_same side h.relay (holds so).fresh))
        ∙ sym (ap (λ (b : Bool). cond b (numbered h) (with_relay (ended_at side (numbered_relay h.relay)) (numbered h))) so)

pub ended_holds : (side : HubSide) (h next : HubValue) → next ≡ ended side h → Holds h → Holds next
ended_holds side h next is holds = subst Holds (sym is) (by_flag h.is_spent refl)
  where
    by_flag : (spent : Bool) → h.is_spent ≡ spent → Holds (cond h.is_spent h (with_relay (ended_at side h.relay) h))
    by_flag true so = subst (λ (b : Bool). Holds (cond b h (with_relay (ended_at side h.relay) h))) (sym so) holds
    by_flag false so = subst (λ (b : Bool). Holds (cond b h (with_relay (ended_at side h.relay) h))) (sym so) (λ unspent. ended_together side h.relay (holds so))

-- ---- a turn

pub turn_is : (result : Result Bool AllocError) (side : HubSide) (h next : HubValue)
    → IfOk result (λ did. (key : ℕ) × (item_of key h.relay.board.lists ≡ None) × ((did, next) ≡ turned_under key side h)) → OnOk result (h.is_spent ≡ false) → Holds h
    → IfOk result (λ did. (did, numbered next) ≡ turned side (numbered h))
turn_is (Ok did) side h next is fresh holds =
    ap {B = Bool × HubValue} (λ (t : Bool × HubValue). (t.0, numbered t.1)) is.2
    ∙ sym (ap {B = Bool × HubValue} (λ (t : Bool × RelayValue). (t.0, record h { relay = t.1 })) (turn_so is.0 side h.relay (holds fresh)))
turn_is (Err why) side h next is fresh holds = tt

pub turn_holds : (result : Result Bool AllocError) (side : HubSide) (h next : HubValue)
    → IfOk result (λ did. (key : ℕ) × (item_of key h.relay.board.lists ≡ None) × ((did, next) ≡ turned_under key side h)) → OnOk result (h.is_spent ≡ false)
    → OnErr result (next.is_spent ≡ true) → Holds h → Holds next
turn_holds (Ok did) side h next is fresh spent holds = λ unspent.
    subst (λ (t : Bool × HubValue). GoTogether t.1.relay) (sym is.2) (turn_together is.0 side h.relay (holds fresh) is.1)
turn_holds (Err why) side h next is fresh spent holds = λ unspent. wanting next spent unspent

-- ---- what goes out

pub given_so : (side : HubSide) (h : HubValue) → given side (numbered h) ≡ given side h
given_so side h = ap (λ (o : Option Outgoing). cond h.is_spent None o) (given_same side h.relay)

pub gave_so : (side : HubSide) (h next : HubValue) → next ≡ after_giving side h → numbered next ≡ after_giving side (numbered h)
gave_so side h next is = ap numbered is ∙ by_flag h.is_spent
  where
    by_flag : (spent : Bool) → numbered (cond spent h (with_relay (after_giving_at side h.relay) h)) ≡ cond spent (numbered h) (with_relay (after_giving_at side (numbered_relay h.relay)) (numbered h))
    by_flag true = refl
    by_flag false = sym (ap (λ (r : RelayValue). record h { relay = r }) (gave_same side h.relay))

pub gave_holds : (side : HubSide) (h next : HubValue) → next ≡ after_giving side h → Holds h → Holds next
gave_holds side h next is holds = subst Holds (sym is) (by_flag h.is_spent refl)
  where
    by_flag : (spent : Bool) → h.is_spent ≡ spent → Holds (cond h.is_spent h (with_relay (after_giving_at side h.relay) h))
    by_flag true so = subst (λ (b : Bool). Holds (cond b h (with_relay (after_giving_at side h.relay) h))) (sym so) holds
    by_flag false so = subst (λ (b : Bool). Holds (cond b h (with_relay (after_giving_at side h.relay) h))) (sym so) (λ unspent. gave_together side h.relay (holds so))
