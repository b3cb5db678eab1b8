-- For what the agent's end of a channel closes: to it come a Hello and commands, on the channel that a chain has now, and a
-- Hello alone on one that it had earlier.
use Rattle.std.proofs.Common.{◌≡◌, ℕ, ◌+◌, ◌==◌, inl, inr, Bool, true, false, List, [], ◌∷◌, ◌++◌, map, Option, Some, None, refl, sym, ap, ◌∙◌, subst, append-nil}
use Rattle.std.specs.Prelude.{option_to_list}
use Rattle.std.specs.List.{AllByRecursion, filter, list_any}
use Rattle.agent_node.specs.AgentLaws.{AgentFollowsHistory, IsEndOf}
use Rattle.agent_node.specs.Channels.{channel_end}
use Rattle.agent_node.specs.Runs.{AgentRun, Past, run_of}
use Rattle.channel_list.specs.declared.channel.Channel.{Channel}
use Rattle.node_answers.specs.AgentAnswering.{ServesAll}
use Rattle.chain_route.proofs.Unheard.{value_hello}
use Rattle.chain_route.specs.Carrying.{IsGoneBy}
use Rattle.chain_route.specs.Runs.{Past as WayPast}
use Rattle.chain_through.specs.Calling.{all_asking, asking, entering, greeting}
use Rattle.chain_through.specs.Endings.{IsSound}
use Rattle.chain_world.proofs.Agents.{none_any}
use Rattle.chain_world.proofs.Pasts.{at_all}
use Rattle.chain_world.specs.Chain.{channels_of}
use Rattle.chain_world.specs.ChainValue.{ChainValue}
use Rattle.chain_world.specs.Standing.{ChainStands, Talked, Talks, TalksOn, came_to, past_at, unmarked}
use Rattle.channel_core.specs.Arrivals.{AreSpoken, Spoken, arrived, bytes_of, queue_of}
use Rattle.channel_core.specs.QueueLaws.{is_message, is_plain}
use Rattle.channel_core.specs.ReceivingLaws.{CanBeRead}
use Rattle.channel_core.specs.RunLaws.{is_command}
use Rattle.channel_core.specs.Runs.{Run}
use Rattle.channel_core.specs.declared.held.Outgoing.{Outgoing}
use Rattle.channel_core.specs.declared.states.Cause.TheVariants as causes
use Rattle.channel_core.specs.declared.states.EndState.{EndState}
use Rattle.channel_core.specs.declared.states.EndState.TheVariants.{Closed, Live, Opening, Reopening}
use Rattle.channel_laws.specs.Faults.{is_closing}
use Rattle.target_contexts.specs.declared.process.Image.{Image}
use Rattle.target_hub.specs.Sent.{agent_services}
use Rattle.tcf_schedules.specs.Plan.{Plan}
use Rattle.value_node.specs.Asked.{Asked}
use Rattle.value_node.specs.ForwardedValue.{ForwardedValue}
use Rattle.value_node.specs.Runs.{UpperCall, upper_after}
use Rattle.value_node.specs.Value.{value_services}
use Rattle.chain_through.proofs.Queues.{entering_formed, queue_messages}
use Rattle.chain_through.proofs.Spelling.{said_so, same_said}
use Rattle.world_laws.specs.EndLaws.{ClosesRightly}
use Rattle.chain_through.proofs.TheLaws.{asked_is_sound}
use Rattle.channel_core.proofs.TheLaws.{queues_in_order, queues_readable, queues_what_is_sent, waits_for_hello}
use Rattle.channel_laws.proofs.TheLaws.{ends_by_its_calls}
use Rattle.world_laws.proofs.Chains.{carried, through, top}
use Rattle.world_laws.proofs.Sending.{commands_alone, hello_first, none_behind}
use Rattle.world_laws.proofs.Sides.{way, way_carries}
use Rattle.world_laws.proofs.Silent.{at_number}
use Rattle.world_laws.proofs.Spoken.{bare, bare_bytes, bare_spoken, entering_bare, front_bytes, front_unmarked}
use Rattle.list_laws.specs.Fronts.{IsFront}
use Rattle.list_laws.proofs.Fronts.{front_map, front_same, front_then}
use Rattle.list_laws.proofs.AllLists.{all_append, all_contains as all_in}

-- ---- Without marks a Hello and commands are a Hello and commands

abbrev without_mark : Asked → Asked
without_mark c = record c { mark = None }

asking_bare : (token : ℕ) (commands : List Asked) → map bare (all_asking token commands) ≡ all_asking token (map without_mark commands)
asking_bare token [] = refl
asking_bare token (c ∷ commands) = ap (λ xs. asking token (without_mark c) ∷ xs) (asking_bare (token + 1) commands)

says_bare : (spoken : List Spoken) (services : List ℕ) (commands : List Asked) → IsFront (entering spoken) (greeting services ∷ all_asking 1 commands)
    → IsFront (entering (map bare spoken)) (greeting services ∷ all_asking 1 (map without_mark commands))
says_bare spoken services commands says =
    let fronts : IsFront (map bare (entering spoken)) (greeting services ∷ all_asking 1 (map without_mark commands)) =
    front_same (map bare (entering spoken)) (greeting services ∷ map bare (all_asking 1 commands)) (greeting services ∷ all_asking 1 (map without_mark commands)) (ap (λ xs. greeting services ∷ xs) (asking_bare 1 commands))
    (front_map bare (entering spoken) (greeting services ∷ all_asking 1 commands) says) in
    (fronts.0, fronts.1 ∙ ap (λ xs. xs ++ fronts.0) (sym (entering_bare spoken)))

-- ---- An end that closes by no fault, and isn't closed by the agent

rightly : (state : EndState) (r : Run Unit) → r.end.state ≡ state → IsSound r → (r.end.state ≡ Closed causes.Own → ⊥) → ClosesRightly state
rightly Opening r is sound own = tt
rightly Live r is sound own = tt
rightly Reopening r is sound own = tt
rightly (Closed causes.Own) r is sound own = absurd (own is)
rightly (Closed causes.Eos) r is sound own = tt
rightly (Closed causes.Ended) r is sound own = tt
rightly (Closed (causes.Protocol number reason)) r is sound own = absurd (sound.protocol number reason (inr (inl is)))
rightly (Closed (causes.Stream fault)) r is sound own = absurd (sound.stream fault (inr (inl is)))

pub closes_rightly : (past : Past) → list_any is_closing past.calls ≡ false → IsSound (run_of past) → ClosesRightly (run_of past).end.state
closes_rightly past none sound =
    rightly (run_of past).end.state (run_of past) refl sound
    (λ own. let some : list_any is_closing past.calls ≡ true = (ends_by_its_calls agent_services (Some past.position) past.calls).own (inr (inl own)) in absurd cc)

called_sound : (past : Past) (spoken : List Spoken) (is_ended : Bool) (services : List ℕ) (commands : List Asked) → AreSpoken spoken → IsFront (arrived past.calls) (unmarked (queue_of spoken is_ended))
    → IsFront (entering spoken) (greeting services ∷ all_asking 1 commands) → IsSound (run_of past)
called_sound past spoken is_ended services commands formed came says =
    asked_is_sound agent_services (Some past.position) past.calls (map bare spoken) is_ended services (map without_mark commands) (bare_spoken spoken formed)
    (front_same (arrived past.calls) (unmarked (queue_of spoken is_ended)) (bytes_of (queue_of (map bare spoken) is_ended)) (bare_bytes spoken is_ended) came)
    (says_bare spoken services commands says)

-- ---- What the way gave up said a Hello alone

gone_sound : (past : Past) (got : List Outgoing) → IsGoneBy got → IsFront (arrived past.calls) (unmarked got) → IsSound (run_of past)
gone_sound past got gone came =
    let calls : List UpperCall = gone.calls in
    let r : Run ForwardedValue = upper_after calls in
    let can : CanBeRead r = queues_readable value_services None calls value_hello gone.readable in
    let order : r.past.given ++ r.end.queued ≡ r.past.queued = queues_in_order value_services None calls in
    let queue : List Outgoing = queue_of can.spoken can.is_ended in
    let gave : IsFront r.past.given queue = (r.end.queued, sym can.queue ∙ sym order) in
    let bytes : IsFront (bytes_of got) (bytes_of queue) = front_then (bytes_of got) (bytes_of r.past.given) (bytes_of queue) gone.front (front_bytes r.past.given queue gave) in
    let all : IsFront (arrived past.calls) (unmarked queue) = front_then (arrived past.calls) (unmarked got) (unmarked queue) came (front_unmarked got queue bytes) in
    let hello_is : Outgoing = said_so (greeting value_services) in
    let first : IsFront (hello_is ∷ []) r.past.queued = hello_first value_services None calls in
    let plain : filter is_plain r.past.queued ≡ hello_is ∷ [] = queues_what_is_sent value_services None calls ∙ ap (λ os. hello_is ∷ os) gone.silent in
    let none : filter is_command r.past.queued ≡ [] = waits_for_hello value_services None calls gone.gone.unheard in
    let plain_none : filter is_plain first.0 ≡ [] = none_behind hello_is (filter is_plain first.0) (ap (filter is_plain) (sym first.1) ∙ plain) in
    let rest : filter is_message first.0 ≡ [] = commands_alone first.0 plain_none ∙ ap (filter is_command) (sym first.1) ∙ none in
    let messages : filter is_message r.past.queued ≡ hello_is ∷ [] = ap (filter is_message) first.1 ∙ ap (λ os. hello_is ∷ os) rest in
    let says : entering can.spoken ≡ greeting value_services ∷ [] =
    same_said (entering can.spoken) (greeting value_services ∷ []) (entering_formed can.spoken can.well_formed) (value_hello.0, tt)
    (sym (queue_messages can.spoken can.is_ended) ∙ ap (filter is_message) (sym can.queue) ∙ messages) in
    called_sound past can.spoken can.is_ended value_services [] can.well_formed all ([], sym says ∙ sym (append-nil (entering can.spoken)))

module _ (images : List Image) (r : AgentRun) (follows : AgentFollowsHistory images r) (serves : AllByRecursion ServesAll r.channels) where
  -- the channel of this number, where it was opened
  abbrev pub SoundAt : ℕ → Type 0
  SoundAt k = (past : Past) → past_at k r.channels ≡ Some past → IsSound (run_of past)

  module _ (plans : List Plan) (at adds : ℕ) (chain : ChainValue) (s : ChainStands plans r.channels at adds chain) where
    abbrev way_past : WayPast
    way_past = (way r.channels plans at adds chain s).past

    gone : AllByRecursion IsGoneBy way_past.earlier
    gone = (way_carries r.channels plans at adds chain s).earlier

    earlier_one : (k : ℕ) → Talked way_past r.channels k → SoundAt k
    earlier_one k talked past is =
        let came : IsFront (arrived past.calls) (unmarked talked.got) = subst (λ o. IsFront (came_to o) (unmarked talked.got)) is talked.front in
        gone_sound past talked.got (all_in IsGoneBy way_past.earlier talked.got gone talked.earlier) came

    earlier_sound : (earlier : List ℕ) → AllByRecursion (Talked way_past r.channels) earlier → AllByRecursion SoundAt earlier
    earlier_sound [] talked = tt
    earlier_sound (k ∷ earlier) talked = (earlier_one k talked.0, earlier_sound earlier talked.1)

    pub now_sound : (k : ℕ) (past : Past) (is : chain.channel ≡ Some k) (there : past_at k r.channels ≡ Some past) (reached : way_past.is_reached ≡ true) (gave : way_past.agent.gave ≡ (run_of past).past.given)
        (front : IsFront (arrived past.calls) (unmarked way_past.agent.got)) → IsSound (run_of past)
    now_sound k past is there reached gave front =
        let up = (through images r follows serves plans at adds chain s k past is there reached gave front).goes_up in
        let above : List Outgoing = top images r follows serves plans at adds chain s k past is there reached gave front in
        let got : IsFront (bytes_of way_past.agent.got) (bytes_of above) = carried images r follows serves plans at adds chain s k past is there reached gave front in
        let queue : List Outgoing = queue_of up.spoken up.is_ended in
        let bytes : IsFront (bytes_of way_past.agent.got) (bytes_of queue) = front_then (bytes_of way_past.agent.got) (bytes_of above) (bytes_of queue) got (front_bytes above queue up.front) in
        let came : IsFront (arrived past.calls) (unmarked queue) = front_then (arrived past.calls) (unmarked way_past.agent.got) (unmarked queue) front (front_unmarked way_past.agent.got queue bytes) in
        called_sound past up.spoken up.is_ended up.services _ up.formed came up.says

    now_at : (k : ℕ) → chain.channel ≡ Some k → SoundAt k
    now_at k is past there =
        let talks : TalksOn (Some k) way_past r.channels = subst (λ o. TalksOn o way_past r.channels) is s.talks in
        let talk : Talks (Some past) way_past.agent = subst (λ o. Talks o way_past.agent) there talks.1 in
        now_sound k past is there talks.0 talk.gave talk.front

    pub chain_sound : AllByRecursion SoundAt (channels_of chain)
    chain_sound = all_append SoundAt chain.earlier (option_to_list chain.channel) (earlier_sound chain.earlier s.talked) (by_channel chain.channel now_at)
      where
        by_channel : (channel : Option ℕ) → ((k : ℕ) → channel ≡ Some k → SoundAt k) → AllByRecursion SoundAt (option_to_list channel)
        by_channel None each = tt
        by_channel (Some k) each = (each k refl, tt)

  -- ---- All channels

  module _ (sound : (k : ℕ) (past : Past) → past_at k r.channels ≡ Some past → ClosesRightly (run_of past).end.state) (strangers : (k : ℕ) → list_any (λ past. past.number == k) r.channels ≡ false → channel_end k r.agent.channels ≡ None) where
    channel_right : (c : Channel) → channel_end c.number r.agent.channels ≡ Some c.end → ClosesRightly c.end.state
    channel_right c is = by_past (past_at c.number r.channels) refl
      where
        by_past : (there : Option Past) → past_at c.number r.channels ≡ there → ClosesRightly c.end.state
        by_past None none = let nothing : channel_end c.number r.agent.channels ≡ None = strangers c.number (none_any c.number r.channels none) in absurd cc
        by_past (Some past) some =
            let number : past.number ≡ c.number = at_number c.number r.channels past some in
            let here : IsEndOf (channel_end past.number r.agent.channels) past = at_all (λ p. IsEndOf (channel_end p.number r.agent.channels) p) c.number r.channels past follows.ends some in
            let end : c.end ≡ (run_of past).end = subst (λ o. IsEndOf o past) (ap (λ n. channel_end n r.agent.channels) number ∙ is) here in
            subst (λ e. ClosesRightly e.state) (sym end) (sound c.number past some)

    pub channels_right : (cs : List Channel) → AllByRecursion (λ c. channel_end c.number r.agent.channels ≡ Some c.end) cs → AllByRecursion (λ c. ClosesRightly c.end.state) cs
    channels_right [] each = tt
    channels_right (c ∷ cs) each = (channel_right c each.0, channels_right cs each.1)
