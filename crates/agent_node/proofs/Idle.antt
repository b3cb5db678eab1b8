-- Nothing is taken of a channel exactly where the agent takes no further input or nothing waits there, and no instruction is
-- executed exactly where it takes none or the thread doesn't run.
use Rattle.std.proofs.Common.{◌≡◌, ℕ, Bool, true, false, List, Option, Some, None, refl, sym, ap, ◌∙◌, ◌⊎◌, inl, inr}
use Rattle.std.specs.Prelude.{◌↔◌, if◌then◌else◌, IfOk, slice_get, slice_set, Result, Ok, Err}
use Rattle.channel_core.specs.Taking.{next_taken}
use Rattle.channel_core.specs.declared.taking.Taken.{Taken}
use Rattle.channel_core.specs.declared.taking.Taken.TheVariants as taken
use Rattle.channel_core.proofs.Idle.{none_is_taken, nothing_taken}
use Rattle.list_laws.proofs.Lists.{set_same}
use Rattle.tcf_message.specs.Message.{MessageValue, command, event, final, flow, not_known, progress, reading}
use Rattle.tcf_message.specs.declared.message.MessageFault.{MessageFault}
use Rattle.tcf_values.specs.declared.event.EventData.{EventData}
use Rattle.tcf_values.specs.declared.ids.ContextId.{ContextId}
use Rattle.agent_node.specs.Agent.{IsIdle, TakesNothing, asked, channel_of, executed, gone, instruction_tells, is_full, ticked, ticked_by, took, took_any, turned, turned_at, turned_on, waiting_at}
use Rattle.agent_node.specs.AgentValue.{AgentValue}
use Rattle.agent_node.specs.Channels.{End, channel_at, place_of, with_end}
use Rattle.agent_node.specs.declared.agent.Turned.{Turned}
use Rattle.agent_node.specs.declared.agent.Turned.TheVariants.{Nothing}
use Rattle.channel_list.specs.declared.channel.Channel.{Channel}

-- ---- what is taken is something

asked_is_something : (k : ℕ) (m : Result MessageValue MessageFault) (a : AgentValue) → (asked k m a).0 ≡ Nothing → ⊥
unfolding asked executed
asked_is_something k (Ok (command token service name body)) a is = cc
asked_is_something k (Ok (final token body)) a is = cc
asked_is_something k (Ok (progress token body)) a is = cc
asked_is_something k (Ok (not_known token)) a is = cc
asked_is_something k (Ok (event service name body)) a is = cc
asked_is_something k (Ok (flow level)) a is = cc
asked_is_something k (Err fault) a is = cc

took_is_something : (k : ℕ) (what : Taken Unit) (a : AgentValue) → (took k what a).0 ≡ Nothing → ⊥
unfolding took gone
took_is_something k (taken.Hello incoming) a is = cc
took_is_something k (taken.Command incoming) a is = asked_is_something k (reading incoming.raw) a is
took_is_something k (taken.Event incoming) a is = cc
took_is_something k (taken.Progress token incoming) a is = cc
took_is_something k (taken.Final tag incoming) a is = cc
took_is_something k (taken.Closed cause) a is = cc

-- ---- a turn

none_taken : (k : ℕ) (what : Option (Taken Unit)) (a : AgentValue) → ((took_any k what a).0 ≡ Nothing) ↔ (what ≡ None)
none_taken k None a = (λ is. refl, λ is. refl)
none_taken k (Some what) a = (λ is. absurd (took_is_something k what a is), λ is. cc)

nothing_on : (k place : ℕ) (channel : Option Channel) (a : AgentValue) → ((turned_on k place channel a).0 ≡ Nothing) ↔ (waiting_at channel ≡ 0)
nothing_on k place None a = (λ is. refl, λ is. refl)
nothing_on k place (Some channel) a =
    let after : AgentValue = record a { channels = slice_set a.channels place (with_end (next_taken channel.end).1 channel) } in
    let here = none_taken k (next_taken channel.end).0 after in
    let there = none_is_taken channel.end in
    (λ nothing. there.0 (here.0 nothing), λ none. here.1 (there.1 none))

nothing_at : (k : ℕ) (place : Option ℕ) (a : AgentValue) → ((turned_at k place a).0 ≡ Nothing) ↔ (waiting_at (channel_at place a.channels) ≡ 0)
nothing_at k None a = (λ is. refl, λ is. refl)
nothing_at k (Some place) a = nothing_on k place (slice_get a.channels place) a

turn_nothing : (k : ℕ) (a : AgentValue) → ((turned k a).0 ≡ Nothing) ↔ TakesNothing k a
unfolding turned
turn_nothing k a = by_full (is_full a) refl
  where
    so : ((turned_at k (place_of k a.channels) a).0 ≡ Nothing) ↔ (waiting_at (channel_at (place_of k a.channels) a.channels) ≡ 0)
    so = nothing_at k (place_of k a.channels) a

    by_full : (full : Bool) → is_full a ≡ full
        → ((if full then (Nothing, a) else turned_at k (place_of k a.channels) a).0 ≡ Nothing) ↔ ((is_full a ≡ true) ⊎ (waiting_at (channel_at (place_of k a.channels) a.channels) ≡ 0))
    by_full true is = (λ nothing. inl is, λ either. refl)
    by_full false is = (
      λ nothing. inr (so.0 nothing),
      λ either. elim either as (λ _. (turned_at k (place_of k a.channels) a).0 ≡ Nothing) [
        | inl full ↦ let both : true ≡ false = sym full ∙ is in cc
        | inr none ↦ so.1 none
      ],
    )

-- where nothing waits the agent stays as it was

stays_on : (k place : ℕ) (channel : Option Channel) (a : AgentValue) → slice_get a.channels place ≡ channel → waiting_at channel ≡ 0 → turned_on k place channel a ≡ (Nothing, a)
stays_on k place None a there none = refl
stays_on k place (Some channel) a there none =
    ap (λ (t : Option (Taken Unit) × End). took_any k t.0 (record a { channels = slice_set a.channels place (with_end t.1 channel) })) (nothing_taken channel.end none)
    ∙ ap {B = Turned × AgentValue} (λ (channels : List Channel). (Nothing, record a { channels = channels })) (set_same place a.channels channel there)

stays_at : (k : ℕ) (place : Option ℕ) (a : AgentValue) → waiting_at (channel_at place a.channels) ≡ 0 → turned_at k place a ≡ (Nothing, a)
stays_at k None a none = refl
stays_at k (Some place) a none = stays_on k place (slice_get a.channels place) a refl none

pub turn_stays : (k : ℕ) (a : AgentValue) → waiting_at (channel_of k a) ≡ 0 → turned k a ≡ (Nothing, a)
unfolding turned
turn_stays k a none = by_full (is_full a)
  where
    by_full : (full : Bool) → (if full then (Nothing, a) else turned_at k (place_of k a.channels) a) ≡ (Nothing, a)
    by_full true = refl
    by_full false = stays_at k (place_of k a.channels) a none

-- of an answer, which may be want of memory, of an agent that is as it was before
pub when_turn_is_nothing : {E : Type 0} → (answer : Result Turned E) (k : ℕ) (a begun next : AgentValue) → begun ≡ a → IfOk answer (λ what. (what, next) ≡ turned k begun)
    → IfOk answer (λ what. (what ≡ Nothing) ↔ TakesNothing k a)
when_turn_is_nothing (Ok what) k a begun next same is =
    let here : what ≡ (turned k a).0 = ap (λ t. t.0) is ∙ ap (λ (b : AgentValue). (turned k b).0) same in
    let so = turn_nothing k a in
    (λ nothing. so.0 (sym here ∙ nothing), λ either. here ∙ so.1 either)
when_turn_is_nothing (Err error) k a begun next same is = tt

-- ---- an instruction

tick_idle : (thread : ContextId) (a : AgentValue) → ((ticked thread a).0 ≡ false) ↔ IsIdle thread a
unfolding ticked
tick_idle thread a = by_full (is_full a) refl
  where
    by_told : (told : Option (List EventData)) → ((ticked_by thread told a).0 ≡ false) ↔ (told ≡ None)
    by_told None = (λ is. refl, λ is. refl)
    by_told (Some events) = (λ is. cc, λ is. cc)

    so : ((ticked_by thread (instruction_tells thread a.target) a).0 ≡ false) ↔ (instruction_tells thread a.target ≡ None)
    so = by_told (instruction_tells thread a.target)

    by_full : (full : Bool) → is_full a ≡ full
        → ((if full then (false, a) else ticked_by thread (instruction_tells thread a.target) a).0 ≡ false) ↔ ((is_full a ≡ true) ⊎ (instruction_tells thread a.target ≡ None))
    by_full true is = (λ off. inl is, λ either. refl)
    by_full false is = (
      λ off. inr (so.0 off),
      λ either. elim either as (λ _. (ticked_by thread (instruction_tells thread a.target) a).0 ≡ false) [
        | inl full ↦ let both : true ≡ false = sym full ∙ is in cc
        | inr none ↦ so.1 none
      ],
    )

pub when_tick_is_idle : {E : Type 0} → (answer : Result Bool E) (thread : ContextId) (a begun next : AgentValue) → begun ≡ a → IfOk answer (λ did. (did, next) ≡ ticked thread begun)
    → IfOk answer (λ did. (did ≡ false) ↔ IsIdle thread a)
when_tick_is_idle (Ok did) thread a begun next same is =
    let here : did ≡ (ticked thread a).0 = ap (λ t. t.0) is ∙ ap (λ (b : AgentValue). (ticked thread b).0) same in
    let so = tick_idle thread a in
    (λ off. so.0 (sym here ∙ off), λ either. here ∙ so.1 either)
when_tick_is_idle (Err error) thread a begun next same is = tt
