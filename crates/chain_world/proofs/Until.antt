-- In a round all that is in flight to the client, or to the agent, arrives, and the client takes all.
use Rattle.std.proofs.Common.{◌≡◌, ℕ, zero, suc, ◌≤◌, Bool, true, false, cond, [], Option, Some, None, inl, IfSome, refl, sym, ap, ◌∙◌, subst, arith}
use Rattle.std.specs.Prelude.{Err, Ok, Result, option_map, ◌<◌}
use Rattle.agent_node.specs.Agent.{channel_of, waiting_at as waiting_on_channel}
use Rattle.agent_node.specs.AgentValue.{AgentValue}
use Rattle.agent_node.specs.Channels.{end_in}
use Rattle.chain_route.specs.Lane.{size_in, staying}
use Rattle.chain_route.specs.Passing.{most_bytes}
use Rattle.chain_route.specs.Route.{flight_down, flight_up, is_live, last_of}
use Rattle.chain_route.specs.Until.{HasArrived}
use Rattle.chain_route.proofs.Resting.{rests}
use Rattle.chain_route.proofs.Until.{fewer_in, full_or_dead, none_in}
use Rattle.channel_core.specs.EndValue.{EndValue}
use Rattle.channel_core.specs.Sending.{queued}
use Rattle.channel_core.specs.Taking.{next_taken}
use Rattle.channel_core.specs.declared.taking.Taken.{Taken}
use Rattle.channel_core.specs.declared.taking.Taken.TheVariants as taken
use Rattle.client_node.specs.Client.{noted, not_recognised, took, turned, turned_by, turned_on, waiting_on, with_channel}
use Rattle.client_node.specs.ClientValue.{ClientValue}
use Rattle.client_node.specs.Lines.{event_line, final_line, hello_line, progress_line}
use Rattle.tcf_message.specs.Message.{MessageValue, command, event, final, flow, not_known, progress, reading}
use Rattle.tcf_message.specs.declared.message.MessageFault.{MessageFault}
use Rattle.tcf_text.specs.declared.log.LogLine.{LogLine}
use Rattle.chain_world.specs.Chain.{Both, all_down, all_dropped, all_taken_down, all_up, both, came_down, client_emptied, delivered_down, emptied, pieces_down, pieces_up, queue_of, takes_down, takes_up, turned_down, turns_down}
use Rattle.chain_world.specs.ChainValue.{ChainValue}
use Rattle.chain_world.specs.Until.{HasArrivedDown, HasArrivedUp, most_counted}
use Rattle.chain_world.proofs.Inboxes.{TakesOne, counted, entries, next_one, none_counted, queued_rest, same_entries}
use Rattle.chain_world.proofs.Pieces.{carried_both, down_still, down_taken, no_channel, piece_up, pieces_again, up_came, up_still, up_taken, ups_again}
use Rattle.chain_world.proofs.Routes.{down_kept, down_stays, up_kept, up_stays}

-- ---- What goes down arrives

down_end : (n : ℕ) (chain : ChainValue) → size_in (flight_down chain.route) ≤ n → HasArrivedDown (pieces_down n chain)
down_end zero chain few = inl (none_in (flight_down chain.route) few)
down_end (suc n) chain few = by_flag (takes_down chain) refl (down_end n (delivered_down most_bytes chain))
  where
    next : ChainValue
    next = delivered_down most_bytes chain

    by_flag : (flag : Bool) → takes_down chain ≡ flag → (size_in (flight_down next.route) ≤ n → HasArrivedDown (pieces_down n next)) → HasArrivedDown (pieces_down n next)
    by_flag true is later =
        let came = came_down most_bytes chain in
        let flight : flight_down next.route ≡ staying most_bytes (flight_down chain.route) =
        ap (λ (c : ChainValue). flight_down c.route) (down_taken most_bytes chain is) ∙ down_kept (queue_of came.client.channel) came.route ∙ down_stays most_bytes chain.route in
        later (subst (λ xs. size_in xs ≤ n) (sym flight) (fewer_in most_bytes n (flight_down chain.route) (omega arith) few))
    by_flag false is later =
        let same : next ≡ chain = down_still most_bytes chain is in
        subst HasArrivedDown (sym (ap (pieces_down n) same ∙ pieces_again n chain ∙ rests (delivered_down most_bytes) n chain same))
        (full_or_dead (flight_down chain.route) (waiting_on chain.client.channel) (is_live 0 chain.route) is)

pub arrived_down : (chain : ChainValue) → HasArrivedDown (all_down chain)
arrived_down chain = down_end (size_in (flight_down chain.route)) chain (omega arith)

-- ---- What goes up

abbrev HasArrivedAtAgent : Both → ℕ → Type 0
HasArrivedAtAgent b k = HasArrived (flight_up b.chain.route) (waiting_on_channel (channel_of k b.agent)) (is_live (last_of b.chain.route) b.chain.route)

up_end : (n k : ℕ) (b : Both) → b.chain.channel ≡ Some k → size_in (flight_up b.chain.route) ≤ n → HasArrivedUp (pieces_up n b)
up_end zero k b is few = on_channel b.chain.channel
  where
    on_channel : (channel : Option ℕ) → IfSome channel (HasArrivedAtAgent b)
    on_channel None = tt
    on_channel (Some j) = inl (none_in (flight_up b.chain.route) few)
up_end (suc n) k b is few = by_flag (takes_up k b.chain b.agent) refl (up_end n k (piece_up most_bytes b))
  where
    next : Both
    next = piece_up most_bytes b

    by_flag : (flag : Bool) → takes_up k b.chain b.agent ≡ flag → (next.chain.channel ≡ Some k → size_in (flight_up next.chain.route) ≤ n → HasArrivedUp (pieces_up n next)) → HasArrivedUp (pieces_up n next)
    by_flag true takes later =
        let came = up_came k most_bytes b in
        let dropped = all_dropped came.chain.earlier came.agent in
        let step : next ≡ carried_both k came = up_taken k most_bytes b is takes in
        let flight : flight_up next.chain.route ≡ staying most_bytes (flight_up b.chain.route) =
        ap (λ (x : Both). flight_up x.chain.route) step ∙ up_kept (queue_of (end_in (channel_of k dropped))) came.chain.route ∙ up_stays most_bytes b.chain.route in
        later (ap (λ (x : Both). x.chain.channel) step ∙ is)
        (subst (λ xs. size_in xs ≤ n) (sym flight) (fewer_in most_bytes n (flight_up b.chain.route) (omega arith) few))
    by_flag false takes later =
        let same : next ≡ b = up_still k most_bytes b is takes in
        let full = full_or_dead (flight_up b.chain.route) (waiting_on_channel (channel_of k b.agent)) (is_live (last_of b.chain.route) b.chain.route) takes in
        subst HasArrivedUp (sym (ap (pieces_up n) same ∙ ups_again n b ∙ rests (piece_up most_bytes) n b same))
        (subst (λ channel. IfSome channel (HasArrivedAtAgent b)) (sym is) full)

pub arrived_up : (chain : ChainValue) (a : AgentValue) → HasArrivedUp (all_up chain a)
arrived_up chain a = on_channel chain.channel refl
  where
    size : ℕ
    size = size_in (flight_up chain.route)

    on_channel : (channel : Option ℕ) → chain.channel ≡ channel → HasArrivedUp (all_up chain a)
    on_channel None is = subst HasArrivedUp (sym (no_channel size (both chain a) is)) (subst (λ o. IfSome o (HasArrivedAtAgent (both chain a))) (sym is) tt)
    on_channel (Some k) is = up_end size k (both chain a) is (omega arith)

-- ---- The client takes all

abbrev entries_on : Option (EndValue ℕ) → ℕ
entries_on None = 0
entries_on (Some e) = entries e

abbrev client_entries : ClientValue → ℕ
client_entries c = entries_on c.channel

noted_same : (line : Option LogLine) (e : EndValue ℕ) (c : ClientValue) → entries_on (noted line (with_channel e c)).channel ≤ entries e
noted_same None e c = omega arith
noted_same (Some line) e c = omega arith

unrecognised : (m : Result MessageValue MessageFault) (e : EndValue ℕ) → entries (not_recognised m e) ≤ entries e
unrecognised (Ok (command token service name body)) e = same_entries (queued (not_known token) None e) e (queued_rest (not_known token) None e)
unrecognised (Ok (final token body)) e = omega arith
unrecognised (Ok (progress token body)) e = omega arith
unrecognised (Ok (not_known token)) e = omega arith
unrecognised (Ok (event service name body)) e = omega arith
unrecognised (Ok (flow level)) e = omega arith
unrecognised (Err fault) e = omega arith

took_entries : (what : Taken ℕ) (e : EndValue ℕ) (c : ClientValue) → client_entries (took what e c) ≤ entries e
took_entries (taken.Hello incoming) e c = noted_same (hello_line incoming.mark (reading incoming.raw)) e c
took_entries (taken.Event incoming) e c = noted_same (event_line incoming.mark (reading incoming.raw)) e c
took_entries (taken.Command incoming) e c = unrecognised (reading incoming.raw) e
took_entries (taken.Progress number incoming) e c = noted_same (progress_line number incoming.mark (reading incoming.raw)) e c
took_entries (taken.Final number incoming) e c = noted_same (final_line number incoming.mark (reading incoming.raw)) e c
took_entries (taken.Closed cause) e c = omega arith

turn_leaves : (n : ℕ) (c : ClientValue) → client_entries c ≤ suc n → client_entries (turned c).1 ≤ n
turn_leaves n c few = by_channel c.channel refl
  where
    by_next : (e : EndValue ℕ) (x : Option (Taken ℕ) × EndValue ℕ) → c.channel ≡ Some e → TakesOne e x → client_entries (turned_by x c).1 ≤ n
    by_next e (None, next) is one = subst (λ o. entries_on o ≤ n) (sym is) (by_count (entries e) one.1)
      where
        by_count : (a : ℕ) → a ≤ 0 → a ≤ n
        by_count a none = omega (arith, none)
    by_next e (Some what, next) is one =
        by_count (client_entries (took what next c)) (entries next) (entries e) (took_entries what next c) one (subst (λ o. entries_on o ≤ suc n) is few)
      where
        by_count : (a b d : ℕ) → a ≤ b → suc b ≤ d → d ≤ suc n → a ≤ n
        by_count a b d p q r = omega (arith, p, q, r)

    by_channel : (channel : Option (EndValue ℕ)) → c.channel ≡ channel → client_entries (turned_on channel c).1 ≤ n
    by_channel None is = subst (λ o. entries_on o ≤ n) (sym is) (omega arith)
    by_channel (Some e) is = by_next e (next_taken e) is (next_one e)

emptied_entries : (channel : Option (EndValue ℕ)) → entries_on (option_map emptied channel) ≤ entries_on channel
emptied_entries None = omega arith
emptied_entries (Some e) = by_flag e.is_spent
  where
    by_flag : (spent : Bool) → entries (cond spent e (record e { queued = [] })) ≤ entries e
    by_flag true = omega arith
    by_flag false = omega arith

turns_end : (n : ℕ) (chain : ChainValue) → client_entries chain.client ≤ n → client_entries (turns_down n chain).client ≤ 0
turns_end zero chain few = few
turns_end (suc n) chain few =
    let next = (turned chain.client).1 in
    turns_end n (turned_down chain) (by_count (client_entries (client_emptied next)) (client_entries next) (emptied_entries next.channel) (turn_leaves n chain.client few))
  where
    by_count : (a b : ℕ) → a ≤ b → b ≤ n → a ≤ n
    by_count a b p q = omega (arith, p, q)

pub client_took_all : (chain : ChainValue) → waiting_on chain.client.channel < most_counted → waiting_on (all_taken_down chain).client.channel ≡ 0
client_took_all chain few =
    none_waits (all_taken_down chain).client.channel (turns_end (waiting_on chain.client.channel) chain (all_counted chain.client.channel few))
  where
    all_counted : (channel : Option (EndValue ℕ)) → waiting_on channel < most_counted → entries_on channel ≤ waiting_on channel
    all_counted None less = omega arith
    all_counted (Some e) less = counted e less

    none_waits : (channel : Option (EndValue ℕ)) → entries_on channel ≤ 0 → waiting_on channel ≡ 0
    none_waits None none = refl
    none_waits (Some e) none = none_counted e none
