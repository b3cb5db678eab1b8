-- All that is in flight arrives: as many pieces as there are bytes and messages are enough, and more change nothing.
use Rattle.std.proofs.Common.{◌≡◌, ℕ, zero, suc, ◌<◌, ◌≤◌, ◌==◌, Bool, true, false, cond, List, [], ◌∷◌, length, Option, Some, None, refl, sym, ap, ◌∙◌, subst, arith, inl, inr, ◌⊎◌}
use Rattle.std.proofs.lemmas.Bool.{false≢true}
use Rattle.channel_core.specs.EndValue.{EndValue}
use Rattle.channel_core.specs.declared.held.Outgoing.{Outgoing}
use Rattle.client_node.specs.ClientValue.{ClientValue}
use Rattle.agent_node.specs.AgentValue.{AgentValue}
use Rattle.agent_node.specs.Agent.{channel_of}
use Rattle.agent_node.specs.Channels.{end_in}
use Rattle.chain_route.specs.Lane.{arriving, size_in, staying}
use Rattle.chain_route.specs.Passing.{most_bytes}
use Rattle.chain_route.specs.Route.{arrived_up, flight_down, flight_up, sent_down, sent_up}
use Rattle.chain_route.proofs.Resting.{Fewer, Goes, again, enough, rests, stays_fewer}
use Rattle.chain_world.specs.Chain.{Both, agent_emptied, all_down, all_dropped, all_up, both, came_down, came_up, carried_from, carried_up, client_emptied, delivered_down, delivered_to, delivered_up, emptied, parts_came, parts_delivered, pieces_down, pieces_up, queue_of, takes_down, takes_up}
use Rattle.chain_world.specs.ChainValue.{ChainValue}
use Rattle.chain_world.proofs.Queued.{agent_emptied_twice, agent_has_none, dropped_behind, dropped_twice}
use Rattle.chain_world.proofs.Routes.{down_kept, down_stays, none_arrives_down, none_arrives_up, none_sent, none_sent_down, up_kept, up_stays}
use Rattle.list_laws.proofs.Numbers.{below_zero}
use Rattle.chain_route.proofs.Pieces.{not_empty}

-- ---- What is carried has nothing queued, and stays

emptied_by : (spent : Bool) (e : EndValue ℕ) → emptied (emptied (record e { is_spent = spent })) ≡ emptied (record e { is_spent = spent })
emptied_by true e = refl
emptied_by false e = refl

none_by : (spent : Bool) (e : EndValue ℕ) → queue_of (Some (emptied (record e { is_spent = spent }))) ≡ []
none_by true e = refl
none_by false e = refl

client_twice : (o : Option (EndValue ℕ)) (c : ClientValue) → client_emptied (client_emptied (record c { channel = o })) ≡ client_emptied (record c { channel = o })
client_twice None c = refl
client_twice (Some e) c = ap (λ x. record c { channel = Some x }) (emptied_by e.is_spent e)

pub client_none : (o : Option (EndValue ℕ)) (c : ClientValue) → queue_of (client_emptied (record c { channel = o })).channel ≡ []
client_none None c = refl
client_none (Some e) c = none_by e.is_spent e

pub carried_twice : (chain : ChainValue) → carried_up (carried_up chain) ≡ carried_up chain
carried_twice chain =
    let c = client_emptied chain.client in
    let way = sent_up (queue_of chain.client.channel) chain.route in
    ap (λ x. record chain { client = x; route = sent_up (queue_of c.channel) way }) (client_twice chain.client.channel chain.client)
    ∙ ap (λ q. record chain { client = c; route = sent_up q way }) (client_none chain.client.channel chain.client)
    ∙ ap (λ r. record chain { client = c; route = r }) (none_sent way)

-- ---- All pieces that go down

abbrev pub IsCarried : ChainValue → Type 0
IsCarried chain = carried_up chain ≡ chain

abbrev pub down_size : ChainValue → ℕ
down_size chain = size_in (flight_down chain.route)

pub down_taken : (count : ℕ) (chain : ChainValue) → takes_down chain ≡ true → delivered_down count chain ≡ carried_up (came_down count chain)
down_taken count chain is = ap (λ b. cond b (carried_up (came_down count chain)) chain) is

pub down_still : (count : ℕ) (chain : ChainValue) → takes_down chain ≡ false → delivered_down count chain ≡ chain
down_still count chain is = ap (λ b. cond b (carried_up (came_down count chain)) chain) is

-- where a piece arrives, the queue is carried then, and less is in flight
pub down_fewer : (count : ℕ) (chain : ChainValue) (out : Outgoing) (outs : List Outgoing) → 0 < count → takes_down chain ≡ true → flight_down chain.route ≡ out ∷ outs
    → Fewer (delivered_down count) down_size IsCarried chain
down_fewer count chain out outs more takes is =
    let step = down_taken count chain takes in
    let came = came_down count chain in
    record {
      keeps = subst IsCarried (sym step) (carried_twice came);
      fewer =
          let left : down_size (delivered_down count chain) ≡ size_in (staying count (flight_down chain.route)) =
          ap down_size step ∙ ap size_in (down_kept (queue_of came.client.channel) came.route ∙ down_stays count chain.route) in
          let here : size_in (staying count (out ∷ outs)) < size_in (out ∷ outs) = stays_fewer count out outs more in
          let less : size_in (staying count (flight_down chain.route)) < size_in (flight_down chain.route) = subst (λ xs. size_in (staying count xs) < size_in xs) (sym is) here in
          subst (λ n. n < down_size chain) (sym left) less;
    }

down_empty : (count : ℕ) (chain : ChainValue) → flight_down chain.route ≡ [] → came_down count chain ≡ chain
down_empty count chain is =
    ap (λ r. record chain { client = parts_came (arriving count (flight_down chain.route)) chain.client; route = r }) (none_arrives_down count chain.route is)
    ∙ ap (λ xs. record chain { client = parts_came (arriving count xs) chain.client }) is

down_goes : (count : ℕ) → 0 < count → Goes (delivered_down count) down_size IsCarried
down_goes count more chain carried = by_flag (takes_down chain) refl
  where
    by_flight : (flight : List Outgoing) → flight_down chain.route ≡ flight → takes_down chain ≡ true → (delivered_down count chain ≡ chain) ⊎ Fewer (delivered_down count) down_size IsCarried chain
    by_flight [] is takes = inl (down_taken count chain takes ∙ ap carried_up (down_empty count chain is) ∙ carried)
    by_flight (out ∷ outs) is takes = inr (down_fewer count chain out outs more takes is)

    by_flag : (takes : Bool) → takes_down chain ≡ takes → (delivered_down count chain ≡ chain) ⊎ Fewer (delivered_down count) down_size IsCarried chain
    by_flag true takes = by_flight (flight_down chain.route) refl takes
    by_flag false takes = inl (down_still count chain takes)

pub pieces_again : (n : ℕ) (chain : ChainValue) → pieces_down n chain ≡ again (delivered_down most_bytes) n chain
pieces_again zero chain = refl
pieces_again (suc n) chain = pieces_again n (delivered_down most_bytes chain)

-- one piece and then all
pub record GoesDown (chain next : ChainValue) : Type 0 where
  pub fewer : size_in (flight_down next.route) < size_in (flight_down chain.route)
  pub all : all_down next ≡ all_down chain

down_on : (chain : ChainValue) → takes_down chain ≡ true → (length (flight_down chain.route) == 0) ≡ false → GoesDown chain (delivered_down most_bytes chain)
down_on chain takes some = by_flight (flight_down chain.route) refl
  where
    step : ChainValue → ChainValue
    step = delivered_down most_bytes

    by_fuel : (n : ℕ) → down_size chain ≡ n → Fewer step down_size IsCarried chain → all_down (step chain) ≡ all_down chain
    by_fuel zero is f = absurd (below_zero (subst (λ n. down_size (step chain) < n) is f.fewer))
    by_fuel (suc n) is f =
        let more : 0 < most_bytes = omega arith in
        let few : down_size (step chain) ≤ n = omega (arith, f.fewer, is) in
        let self : down_size (step chain) ≤ down_size (step chain) = omega arith in
        pieces_again (down_size (step chain)) (step chain)
        ∙ enough step down_size IsCarried (down_goes most_bytes more) (down_size (step chain)) n (step chain) f.keeps self few
        ∙ sym (ap (λ m. pieces_down m chain) is ∙ pieces_again n (step chain))

    by_flight : (flight : List Outgoing) → flight_down chain.route ≡ flight → GoesDown chain (step chain)
    by_flight [] is = absurd (false≢true (sym some ∙ ap (λ xs. length xs == 0) is))
    by_flight (out ∷ outs) is =
        let more : 0 < most_bytes = omega arith in
        let f = down_fewer most_bytes chain out outs more takes is in record { fewer = f.fewer; all = by_fuel (down_size chain) refl f }

pub all_down_on : (chain next : ChainValue) → next ≡ delivered_down most_bytes chain → takes_down chain ≡ true → (length (flight_down chain.route) == 0) ≡ false → GoesDown chain next
all_down_on chain next is takes some = subst (GoesDown chain) (sym is) (down_on chain takes some)

-- none where nothing may arrive, or nothing is in flight
pub all_down_still : (chain : ChainValue) → takes_down chain ≡ false → all_down chain ≡ chain
all_down_still chain none = pieces_again (down_size chain) chain ∙ rests (delivered_down most_bytes) (down_size chain) chain (down_still most_bytes chain none)

pub all_down_none : (chain : ChainValue) → (length (flight_down chain.route) == 0) ≡ true → all_down chain ≡ chain
all_down_none chain none = by_flight (flight_down chain.route) refl
  where
    by_flight : (flight : List Outgoing) → flight_down chain.route ≡ flight → all_down chain ≡ chain
    by_flight [] is = ap (λ xs. pieces_down (size_in xs) chain) is
    by_flight (out ∷ outs) is = absurd (false≢true (sym (not_empty out outs) ∙ (sym (ap (λ xs. length xs == 0) is) ∙ none)))

-- ---- All pieces that go up

abbrev pub up_size : Both → ℕ
up_size b = size_in (flight_up b.chain.route)

abbrev pub piece_up : ℕ → Both → Both
piece_up count b = delivered_up count b.chain b.agent

-- the channel is this one, and what the agent queued for the chain is carried
pub record IsCarriedDown (k : ℕ) (b : Both) : Type 0 where
  pub channel : b.chain.channel ≡ Some k
  pub same : carried_from (Some k) b.chain (all_dropped b.chain.earlier b.agent) ≡ b

abbrev pub carried_both : ℕ → Both → Both
carried_both k b = carried_from (Some k) b.chain (all_dropped b.chain.earlier b.agent)

pub carried_down_twice : (k : ℕ) (b : Both) → b.chain.channel ≡ Some k → IsCarriedDown k (carried_both k b)
carried_down_twice k b channel =
    let dropped = all_dropped b.chain.earlier b.agent in
    let way = sent_down (queue_of (end_in (channel_of k dropped))) b.chain.route in
    let a = agent_emptied k dropped in
    let chain = record b.chain { route = way } in
    record {
      channel = channel;
      same =
          ap (carried_from (Some k) chain) (dropped_behind k b.chain.earlier dropped ∙ ap (agent_emptied k) (dropped_twice b.chain.earlier b.agent))
          ∙ ap (λ x. both (record chain { route = sent_down (queue_of (end_in (channel_of k a))) way }) x) (agent_emptied_twice k dropped)
          ∙ ap (λ q. both (record chain { route = sent_down q way }) a) (agent_has_none k dropped)
          ∙ ap (λ r. both (record chain { route = r }) a) (none_sent_down way);
    }

abbrev pub up_came : ℕ → ℕ → Both → Both
up_came k count b =
    both (record b.chain { route = arrived_up count b.chain.route }) (parts_delivered k (arriving count (flight_up b.chain.route)) b.agent)

pub up_taken : (k count : ℕ) (b : Both) → b.chain.channel ≡ Some k → takes_up k b.chain b.agent ≡ true → piece_up count b ≡ carried_both k (up_came k count b)
up_taken k count b channel is =
    let came = up_came k count b in
    ap (λ o. delivered_to o count b.chain b.agent) channel ∙ ap (λ t. cond t (came_up k count b.chain b.agent) b) is
    ∙ ap (λ o. carried_from o came.chain (all_dropped came.chain.earlier came.agent)) channel

pub up_still : (k count : ℕ) (b : Both) → b.chain.channel ≡ Some k → takes_up k b.chain b.agent ≡ false → piece_up count b ≡ b
up_still k count b channel is = ap (λ o. delivered_to o count b.chain b.agent) channel ∙ ap (λ t. cond t (came_up k count b.chain b.agent) b) is

-- where a piece arrives, the queue is carried then, and less is in flight
pub up_fewer : (k count : ℕ) (b : Both) (out : Outgoing) (outs : List Outgoing) → 0 < count → b.chain.channel ≡ Some k → takes_up k b.chain b.agent ≡ true → flight_up b.chain.route ≡ out ∷ outs
    → Fewer (piece_up count) up_size (IsCarriedDown k) b
up_fewer k count b out outs more channel takes is =
    let step = up_taken k count b channel takes in
    let came = up_came k count b in
    let dropped = all_dropped came.chain.earlier came.agent in
    record {
      keeps = subst (IsCarriedDown k) (sym step) (carried_down_twice k came channel);
      fewer =
          let left : up_size (piece_up count b) ≡ size_in (staying count (flight_up b.chain.route)) =
          ap up_size step ∙ ap size_in (up_kept (queue_of (end_in (channel_of k dropped))) came.chain.route ∙ up_stays count b.chain.route) in
          let here : size_in (staying count (out ∷ outs)) < size_in (out ∷ outs) = stays_fewer count out outs more in
          let less : size_in (staying count (flight_up b.chain.route)) < size_in (flight_up b.chain.route) = subst (λ xs. size_in (staying count xs) < size_in xs) (sym is) here in
          subst (λ n. n < up_size b) (sym left) less;
    }

up_empty : (k count : ℕ) (b : Both) → flight_up b.chain.route ≡ [] → up_came k count b ≡ b
up_empty k count b is =
    ap (λ r. both (record b.chain { route = r }) (parts_delivered k (arriving count (flight_up b.chain.route)) b.agent)) (none_arrives_up count b.chain.route is)
    ∙ ap (λ xs. both b.chain (parts_delivered k (arriving count xs) b.agent)) is

up_goes : (k count : ℕ) → 0 < count → Goes (piece_up count) up_size (IsCarriedDown k)
up_goes k count more b carried = by_flag (takes_up k b.chain b.agent) refl
  where
    by_flight : (flight : List Outgoing) → flight_up b.chain.route ≡ flight → takes_up k b.chain b.agent ≡ true → (piece_up count b ≡ b) ⊎ Fewer (piece_up count) up_size (IsCarriedDown k) b
    by_flight [] is takes = inl (up_taken k count b carried.channel takes ∙ ap (carried_both k) (up_empty k count b is) ∙ carried.same)
    by_flight (out ∷ outs) is takes = inr (up_fewer k count b out outs more carried.channel takes is)

    by_flag : (takes : Bool) → takes_up k b.chain b.agent ≡ takes → (piece_up count b ≡ b) ⊎ Fewer (piece_up count) up_size (IsCarriedDown k) b
    by_flag true takes = by_flight (flight_up b.chain.route) refl takes
    by_flag false takes = inl (up_still k count b carried.channel takes)

pub ups_again : (n : ℕ) (b : Both) → pieces_up n b ≡ again (piece_up most_bytes) n b
ups_again zero b = refl
ups_again (suc n) b = ups_again n (piece_up most_bytes b)

pub record GoesUp (k : ℕ) (chain next : ChainValue) (a after : AgentValue) : Type 0 where
  pub fewer : size_in (flight_up next.route) < size_in (flight_up chain.route)
  pub all : all_up next after ≡ all_up chain a
  pub channel : next.channel ≡ Some k

abbrev BothGoUp : ℕ → Both → Both → Type 0
BothGoUp k b next = GoesUp k b.chain next.chain b.agent next.agent

up_on : (k : ℕ) (b : Both) → b.chain.channel ≡ Some k → takes_up k b.chain b.agent ≡ true → (length (flight_up b.chain.route) == 0) ≡ false → BothGoUp k b (piece_up most_bytes b)
up_on k b channel takes some = by_flight (flight_up b.chain.route) refl
  where
    step : Both → Both
    step = piece_up most_bytes

    by_fuel : (n : ℕ) → up_size b ≡ n → Fewer step up_size (IsCarriedDown k) b → all_up (step b).chain (step b).agent ≡ all_up b.chain b.agent
    by_fuel zero is f = absurd (below_zero (subst (λ n. up_size (step b) < n) is f.fewer))
    by_fuel (suc n) is f =
        let more : 0 < most_bytes = omega arith in
        let few : up_size (step b) ≤ n = omega (arith, f.fewer, is) in
        let self : up_size (step b) ≤ up_size (step b) = omega arith in
        ups_again (up_size (step b)) (step b)
        ∙ enough step up_size (IsCarriedDown k) (up_goes k most_bytes more) (up_size (step b)) n (step b) f.keeps self few
        ∙ sym (ap (λ m. pieces_up m b) is ∙ ups_again n (step b))

    by_flight : (flight : List Outgoing) → flight_up b.chain.route ≡ flight → BothGoUp k b (step b)
    by_flight [] is = absurd (false≢true (sym some ∙ ap (λ xs. length xs == 0) is))
    by_flight (out ∷ outs) is =
        let more : 0 < most_bytes = omega arith in
        let f = up_fewer k most_bytes b out outs more channel takes is in record { fewer = f.fewer; all = by_fuel (up_size b) refl f; channel = f.keeps.channel }

pub all_up_on : (k : ℕ) (chain next : ChainValue) (a after : AgentValue) → both next after ≡ delivered_up most_bytes chain a → chain.channel ≡ Some k → takes_up k chain a ≡ true
    → (length (flight_up chain.route) == 0) ≡ false → GoesUp k chain next a after
all_up_on k chain next a after is channel takes some = subst (BothGoUp k (both chain a)) (sym is) (up_on k (both chain a) channel takes some)

pub all_up_still : (k : ℕ) (chain : ChainValue) (a : AgentValue) → chain.channel ≡ Some k → takes_up k chain a ≡ false → all_up chain a ≡ both chain a
all_up_still k chain a channel none =
    let size = size_in (flight_up chain.route) in ups_again size (both chain a) ∙ rests (piece_up most_bytes) size (both chain a) (up_still k most_bytes (both chain a) channel none)

pub all_up_none : (chain : ChainValue) (a : AgentValue) → (length (flight_up chain.route) == 0) ≡ true → all_up chain a ≡ both chain a
all_up_none chain a none = by_flight (flight_up chain.route) refl
  where
    by_flight : (flight : List Outgoing) → flight_up chain.route ≡ flight → all_up chain a ≡ both chain a
    by_flight [] is = ap (λ xs. pieces_up (size_in xs) (both chain a)) is
    by_flight (out ∷ outs) is = absurd (false≢true (sym (not_empty out outs) ∙ (sym (ap (λ xs. length xs == 0) is) ∙ none)))

-- where there is no channel nothing arrives
pub no_channel : (n : ℕ) (b : Both) → b.chain.channel ≡ None → pieces_up n b ≡ b
no_channel n b none = ups_again n b ∙ rests (piece_up most_bytes) n b (ap (λ o. delivered_to o most_bytes b.chain b.agent) none)

pub all_up_unopened : (chain : ChainValue) (a : AgentValue) → chain.channel ≡ None → all_up chain a ≡ both chain a
all_up_unopened chain a none = no_channel (size_in (flight_up chain.route)) (both chain a) none
