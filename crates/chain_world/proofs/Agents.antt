-- Calls of an agent that are of one channel: what it queued is given out, parts of messages come, and its bytes end.
use Rattle.std.proofs.Common.{◌≡◌, ℕ, ◌==◌, Bool, true, false, not, cond, List, [], ◌∷◌, ◌++◌, map, Option, Some, None, refl, sym, ap, ◌∙◌, subst, append-nil, eqb-true}
use Rattle.std.specs.Prelude.{option_map}
use Rattle.std.specs.List.{AllByRecursion, list_any}
use Rattle.channel_core.specs.Arrivals.{arrived, marked}
use Rattle.channel_core.specs.Beginning.{new_end}
use Rattle.channel_core.specs.Closing.{is_closed}
use Rattle.channel_core.specs.QueueLaws.{ClosesOnlySo}
use Rattle.channel_core.specs.Runs.{Call as EndCall, after_calls, begun, delivering, ending, putting_out}
use Rattle.channel_core.specs.declared.held.Outgoing.{Outgoing}
use Rattle.target_contexts.specs.declared.process.Image.{Image}
use Rattle.target_hub.specs.Sent.{agent_services}
use Rattle.agent_node.specs.Agent.{after_giving}
use Rattle.agent_node.specs.AgentLaws.{IsEndOf}
use Rattle.agent_node.specs.Channels.{End, channel_end, end_in}
use Rattle.agent_node.specs.Runs.{AgentRun, Call, Past, after_all, after_call, bytes_end, comes, gives, no_calls, on_number, on_open, run_of, with_calls}
use Rattle.agent_node.specs.Strangers.{HasNoStranger}
use Rattle.channel_list.specs.declared.channel.Channel.{Channel}
use Rattle.chain_world.specs.Chain.{agent_emptied, emptied, parts_delivered, queue_of}
use Rattle.chain_world.specs.Past.{coming_to, giving_to}
use Rattle.chain_world.specs.Standing.{past_at, unmarked}
use Rattle.agent_node.proofs.TheLaws.{agent_has_no_strangers, agent_tells_the_truth}
use Rattle.channel_core.proofs.TheLaws.{closes_only_so, spends_nothing}
use Rattle.chain_world.proofs.Calls.{putting}
use Rattle.chain_world.proofs.Emptying.{IsQueue, emptied_by, put, puts}
use Rattle.chain_world.proofs.Queued.{changed_first as changed_is}
use Rattle.chain_world.proofs.Pasts.{at_all, at_number, at_one, at_open, number_leaves, numbers_mapped, on_number_keeps, on_open_keeps, open_leaves, over_by, same_elsewhere, with_twice}
use Rattle.chain_route.proofs.EndCalls.{calls_more}
use Rattle.agent_node.proofs.Places.{place_found}

-- ---- Calls of one channel

pub data Touch : Type 0 where
  a_gift : Touch
  a_piece : (piece : List ℕ) → Touch
  an_end : Touch

abbrev pub touching : ℕ → Touch → Call
touching k a_gift = gives k
touching k (a_piece piece) = comes k piece
touching k an_end = bytes_end k

abbrev pub calls_of : ℕ → List Touch → List Call
calls_of k touches = map (touching k) touches

-- no input, and nothing to the others
pub record LeavesOthers (k : ℕ) (r next : AgentRun) : Type 0 where
  pub history : next.history ≡ r.history
  pub numbers : map (λ p. p.number) next.channels ≡ map (λ p. p.number) r.channels
  pub others : (j : ℕ) → (j ≡ k → ⊥) → past_at j next.channels ≡ past_at j r.channels

touched : (k : ℕ) (touch : Touch) (r : AgentRun) → LeavesOthers k r (after_call (touching k touch) r)
touched k a_gift r = record {
  history = append-nil r.history;
  numbers = numbers_mapped (on_number k (putting_out ∷ [])) (on_number_keeps k (putting_out ∷ [])) r.channels;
  others = λ j apart. same_elsewhere (on_number k (putting_out ∷ [])) k j (number_leaves k (putting_out ∷ [])) (on_number_keeps k (putting_out ∷ [])) apart r.channels;
}
touched k (a_piece piece) r = record {
  history = append-nil r.history;
  numbers = numbers_mapped (on_open k (delivering piece None ∷ [])) (on_open_keeps k (delivering piece None ∷ [])) r.channels;
  others = λ j apart. same_elsewhere (on_open k (delivering piece None ∷ [])) k j (open_leaves k (delivering piece None ∷ [])) (on_open_keeps k (delivering piece None ∷ [])) apart r.channels;
}
touched k an_end r = record {
  history = append-nil r.history;
  numbers = numbers_mapped (on_number k (ending ∷ [])) (on_number_keeps k (ending ∷ [])) r.channels;
  others = λ j apart. same_elsewhere (on_number k (ending ∷ [])) k j (number_leaves k (ending ∷ [])) (on_number_keeps k (ending ∷ [])) apart r.channels;
}

pub leaves_then : (k : ℕ) (r next last : AgentRun) → LeavesOthers k r next → LeavesOthers k next last → LeavesOthers k r last
leaves_then k r next last one two = record {
  history = two.history ∙ one.history;
  numbers = two.numbers ∙ one.numbers;
  others = λ j apart. two.others j apart ∙ one.others j apart;
}

pub leaves_others : (k : ℕ) (touches : List Touch) (r : AgentRun) → LeavesOthers k r (after_all (calls_of k touches) r)
leaves_others k [] r = record { history = refl; numbers = refl; others = λ j apart. refl }
leaves_others k (touch ∷ touches) r =
    let next = after_call (touching k touch) r in
    leaves_then k r next (after_all (calls_of k touches) next) (touched k touch r) (leaves_others k touches next)

-- ---- What it queued goes out

abbrev pub gifts : List Outgoing → List Touch
gifts queue = map (λ o. a_gift) queue

pub gifts_are : (k : ℕ) (queue : List Outgoing) → calls_of k (gifts queue) ≡ giving_to k queue
gifts_are k [] = refl
gifts_are k (o ∷ queue) = ap (λ calls. gives k ∷ calls) (gifts_are k queue)

gifts_agent : (k : ℕ) (queue : List Outgoing) (r : AgentRun) → (after_all (calls_of k (gifts queue)) r).agent ≡ record r.agent { channels = puts k queue r.agent.channels }
unfolding after_giving
gifts_agent k [] r = refl
gifts_agent k (o ∷ queue) r =
    gifts_agent k queue (after_call (gives k) r) ∙ ap (λ cs. record r.agent { channels = puts k queue cs }) (changed_is k put r.agent.channels)

pub gifts_emptied : (k : ℕ) (queue : List Outgoing) (r : AgentRun) → IsQueue k queue r.agent.channels → (after_all (calls_of k (gifts queue)) r).agent ≡ agent_emptied k r.agent
gifts_emptied k queue r is =
    gifts_agent k queue r ∙ ap (λ cs. record r.agent { channels = cs }) (emptied_by k queue r.agent.channels is ∙ sym (changed_is k emptied r.agent.channels))

pub gifts_past : (k : ℕ) (queue : List Outgoing) (r : AgentRun) → past_at k (after_all (calls_of k (gifts queue)) r).channels ≡ option_map (with_calls (putting queue)) (past_at k r.channels)
gifts_past k [] r = none (past_at k r.channels)
  where
    none : (before : Option Past) → before ≡ option_map (with_calls []) before
    none None = refl
    none (Some past) = ap (λ calls. Some (record past { calls = calls })) (sym (append-nil past.calls))
gifts_past k (o ∷ queue) r =
    gifts_past k queue (after_call (gives k) r) ∙ ap (option_map (with_calls (putting queue))) (at_one k (putting_out ∷ []) r.channels) ∙ with_twice (putting_out ∷ []) (putting queue) (past_at k r.channels)

-- ---- Parts of messages come

abbrev pub pieces : List Outgoing → List Touch
pieces parts = map (λ part. a_piece part.bytes) parts

pub pieces_are : (k : ℕ) (parts : List Outgoing) → calls_of k (pieces parts) ≡ coming_to k parts
pieces_are k [] = refl
pieces_are k (part ∷ parts) = ap (λ calls. comes k part.bytes ∷ calls) (pieces_are k parts)

abbrev pub delivering_all : List Outgoing → List (EndCall Unit)
delivering_all parts = map (λ part. delivering part.bytes None) parts

pub pieces_agent : (k : ℕ) (parts : List Outgoing) (r : AgentRun) → (after_all (calls_of k (pieces parts)) r).agent ≡ parts_delivered k parts r.agent
pieces_agent k [] r = refl
pieces_agent k (part ∷ parts) r = pieces_agent k parts (after_call (comes k part.bytes) r)

pub pieces_none : (k : ℕ) (parts : List Outgoing) (r : AgentRun) → past_at k r.channels ≡ None → past_at k (after_all (calls_of k (pieces parts)) r).channels ≡ None
pieces_none k [] r is = is
pieces_none k (part ∷ parts) r is =
    pieces_none k parts (after_call (comes k part.bytes) r) (at_open k (delivering part.bytes None ∷ []) r.channels ∙ ap (option_map (over_by (delivering part.bytes None ∷ []))) is)

over_one : (flag : Bool) (calls : List (EndCall Unit)) (past : Past) → is_closed (run_of past).end.state ≡ flag → over_by calls past ≡ cond flag past (with_calls calls past)
over_one true calls past is = rw is refl
over_one false calls past is = rw is refl

pub pieces_closed : (k : ℕ) (parts : List Outgoing) (r : AgentRun) (past : Past) → is_closed (run_of past).end.state ≡ true → past_at k r.channels ≡ Some past
    → past_at k (after_all (calls_of k (pieces parts)) r).channels ≡ Some past
pieces_closed k [] r past closed is = is
pieces_closed k (part ∷ parts) r past closed is =
    let calls = delivering part.bytes None ∷ [] in
    pieces_closed k parts (after_call (comes k part.bytes) r) past closed
    (at_open k calls r.channels ∙ ap (option_map (over_by calls)) is ∙ ap Some (over_one true calls past closed))

pub run_more : (more : List (EndCall Unit)) (past : Past) → run_of (with_calls more past) ≡ after_calls more (run_of past)
run_more more past = calls_more past.calls more (begun (new_end agent_services (Some past.position)))

still_open : (piece : List ℕ) (past : Past) → is_closed (run_of past).end.state ≡ false → is_closed (run_of (with_calls (delivering piece None ∷ []) past)).end.state ≡ false
still_open piece past opened =
    let law : ClosesOnlySo (run_of past) = closes_only_so agent_services (Some past.position) past.calls in
    ap (λ r. is_closed r.end.state) (run_more (delivering piece None ∷ []) past) ∙ law.by_others (delivering piece None) refl ∙ opened

with_none : (past : Past) → past ≡ with_calls [] past
with_none past = ap (λ calls. record past { calls = calls }) (sym (append-nil past.calls))

pub pieces_open : (k : ℕ) (parts : List Outgoing) (r : AgentRun) (past : Past) → is_closed (run_of past).end.state ≡ false → past_at k r.channels ≡ Some past
    → past_at k (after_all (calls_of k (pieces parts)) r).channels ≡ Some (with_calls (delivering_all parts) past)
pieces_open k [] r past opened is = is ∙ ap Some (with_none past)
pieces_open k (part ∷ parts) r past opened is =
    let calls = delivering part.bytes None ∷ [] in
    pieces_open k parts (after_call (comes k part.bytes) r) (with_calls calls past) (still_open part.bytes past opened)
    (at_open k calls r.channels ∙ ap (option_map (over_by calls)) is ∙ ap Some (over_one false calls past opened))
    ∙ with_twice calls (delivering_all parts) (Some past)

pub delivering_arrived : (parts : List Outgoing) → arrived (delivering_all parts) ≡ unmarked parts
delivering_arrived [] = refl
delivering_arrived (part ∷ parts) = ap (λ bs. marked part.bytes None ++ bs) (delivering_arrived parts)

-- ---- The queue of a channel is that of its past

pub after_more : (calls more : List Call) (r : AgentRun) → after_all (calls ++ more) r ≡ after_all more (after_all calls r)
after_more [] more r = refl
after_more (call ∷ calls) more r = after_more calls more (after_call call r)

-- an agent that has these images, after these calls
pub record Reached (images : List Image) (calls : List Call) (r : AgentRun) : Type 0 where
  pub is : after_all calls (no_calls images) ≡ r

pub reached_more : {calls : List Call} → (images : List Image) (r : AgentRun) (more : List Call) → Reached images calls r → Reached images (calls ++ more) (after_all more r)
reached_more {calls = calls} images r more reached = record { is = after_more calls more (no_calls images) ∙ ap (after_all more) reached.is }

-- and after those of one channel
pub reached_touched : {calls : List Call} → (images : List Image) (r : AgentRun) (k : ℕ) (touches : List Touch) (more : List Call) → calls_of k touches ≡ more → Reached images calls r
    → Reached images (calls ++ more) (after_all (calls_of k touches) r)
reached_touched {calls = calls} images r k touches more is reached =
    subst (λ xs. Reached images (calls ++ xs) (after_all (calls_of k touches) r)) is (reached_more images r (calls_of k touches) reached)

pub none_any : (k : ℕ) (pasts : List Past) → past_at k pasts ≡ None → list_any (λ past. past.number == k) pasts ≡ false
none_any k [] none = refl
none_any k (past ∷ pasts) none = by_flag (past.number == k) refl none (none_any k pasts)
  where
    by_flag : (flag : Bool) → (past.number == k) ≡ flag → cond flag (Some past) (past_at k pasts) ≡ None → (past_at k pasts ≡ None → list_any (λ p. p.number == k) pasts ≡ false) → list_any (λ p. p.number == k) (past ∷ pasts) ≡ false
    by_flag true is not rest = absurd cc
    by_flag false is not rest = rw is (rest not)

-- what its past says of what a channel has queued
pub record HasQueue (k : ℕ) (r : AgentRun) (queue : List Outgoing) : Type 0 where
  pub is : IsQueue k queue r.agent.channels
  pub past : (past : Past) → past_at k r.channels ≡ Some past → (run_of past).end.queued ≡ queue
  pub none : past_at k r.channels ≡ None → queue ≡ []

module _ (images : List Image) where
  fresh_past : (past : Past) → (run_of past).end.is_spent ≡ false
  fresh_past past = spends_nothing agent_services (Some past.position) past.calls

  queue_past : (past : Past) (there : Option End) → IsEndOf there past → (run_of past).end.queued ≡ queue_of there
  queue_past past None is = is.1
  queue_past past (Some end) is = ap (λ e. e.queued) (sym is) ∙ ap (λ b. cond b [] end.queued) (sym (ap (λ e. e.is_spent) is ∙ fresh_past past))

  pub end_past : {calls : List Call} → (k : ℕ) (r : AgentRun) (past : Past) → Reached images calls r → past_at k r.channels ≡ Some past → IsEndOf (channel_end k r.agent.channels) past
  end_past {calls = calls} k r past reached is =
      let P : AgentRun → Type 0 = λ x. AllByRecursion (λ p. IsEndOf (channel_end p.number x.agent.channels) p) x.channels in
      let each : P r = subst P reached.is (agent_tells_the_truth images calls).ends in
      let same : past.number ≡ k = eqb-true past.number k (at_number k r.channels past is) in
      let Q : ℕ → Type 0 = λ n. IsEndOf (channel_end n r.agent.channels) past in
      subst Q same (at_all (λ p. IsEndOf (channel_end p.number r.agent.channels) p) k r.channels past each is)

  pub end_none : {calls : List Call} → (k : ℕ) (r : AgentRun) → Reached images calls r → past_at k r.channels ≡ None → channel_end k r.agent.channels ≡ None
  end_none {calls = calls} k r reached none = subst HasNoStranger reached.is (agent_has_no_strangers images calls) k (none_any k r.channels none)

  pub has_queue : {calls : List Call} → (k : ℕ) (r : AgentRun) → Reached images calls r → HasQueue k r (queue_of (channel_end k r.agent.channels))
  has_queue k r reached = record {
    is = λ c there. by_past c (ap end_in (place_found k r.agent.channels ∙ there)) (past_at k r.channels) refl;
    past = λ past is. queue_past past (channel_end k r.agent.channels) (end_past k r past reached is);
    none = λ none. ap queue_of (end_none k r reached none);
  }
    where
      by_past : (c : Channel) → channel_end k r.agent.channels ≡ Some c.end → (there : Option Past) → past_at k r.channels ≡ there → (c.end.is_spent ≡ false) × (c.end.queued ≡ queue_of (channel_end k r.agent.channels))
      by_past c is None none = let isnt : channel_end k r.agent.channels ≡ None = end_none k r reached none in absurd cc
      by_past c is (Some past) there =
          let same : c.end ≡ (run_of past).end = subst (λ o. IsEndOf o past) is (end_past k r past reached there) in
          let fresh : c.end.is_spent ≡ false = ap (λ e. e.is_spent) same ∙ fresh_past past in
          (fresh, sym (ap queue_of is ∙ ap (λ b. cond b [] c.end.queued) fresh))
