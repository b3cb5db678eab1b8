-- A turn of the agent takes an entry of the channel that it chooses, and none of the others has more.
use Rattle.std.proofs.Common.{◌≡◌, ℕ, suc, ◌+◌, ◌==◌, ◌≤◌, Bool, true, false, cond, List, [], ◌∷◌, map, Option, Some, None, ◌⊎◌, inl, inr, refl, sym, ap, ◌∙◌, subst, arith}
use Rattle.std.specs.Prelude.{Err, Ok, Result, slice_get}
use Rattle.agent_node.specs.Agent.{after_input, answered_to, asked, done_by, executed, executed_read, going_leaves, going_tells, gone, heard, is_full, left_by, read_as, took, took_any, turned, turned_at, turned_on, with_target}
use Rattle.agent_node.specs.AgentValue.{AgentValue}
use Rattle.agent_node.specs.Channels.{End, answer_message, answer_queued, changed, changed_at, channel_at, event_message, event_queued, place_of, progress_queued, put_at, told_all, with_end}
use Rattle.agent_node.specs.declared.agent.Turned.{Turned}
use Rattle.agent_node.specs.declared.agent.Turned.TheVariants.{Nothing}
use Rattle.channel_list.specs.declared.channel.Channel.{Channel}
use Rattle.agent_node.proofs.Places.{found, next_end, taken_of}
use Rattle.channel_core.specs.Sending.{queued}
use Rattle.channel_core.specs.Taking.{next_taken}
use Rattle.channel_core.specs.declared.taking.Taken.{Taken}
use Rattle.channel_core.specs.declared.taking.Taken.TheVariants as taken
use Rattle.target_hub.specs.Sent.{progress_data}
use Rattle.target_hub.specs.declared.done.Done.{Done}
use Rattle.tcf_message.specs.Message.{MessageValue, command, event, final, flow, not_known, progress, reading}
use Rattle.tcf_message.specs.declared.message.MessageFault.{MessageFault}
use Rattle.tcf_values.specs.declared.event.EventData.{EventData}
use Rattle.chain_world.specs.Chain.{emptied}
use Rattle.chain_world.proofs.Inboxes.{TakesOne, entries, next_one, queued_rest, same_entries}
use Rattle.chain_world.proofs.Queued.{changed_first, found_changed, in_first, mapped}

-- ---- The entries of a channel, by its number

abbrev pub held_of : Option Channel → ℕ
held_of None = 0
held_of (Some c) = entries c.end

abbrev pub held : ℕ → List Channel → ℕ
held k cs = held_of (found k cs)

-- ---- Channels of the same numbers, none of which has more

abbrev pub NoneHasMore : List Channel → List Channel → Type 0
NoneHasMore [] [] = Unit {0}
NoneHasMore (c ∷ cs) (d ∷ ds) = ((d.number ≡ c.number) × (entries d.end ≤ entries c.end)) × NoneHasMore cs ds
NoneHasMore _ _ = ⊥

pub more_same : (cs : List Channel) → NoneHasMore cs cs
more_same [] = tt
more_same (c ∷ cs) = ((refl, omega arith), more_same cs)

le_then : (a b c : ℕ) → b ≤ a → c ≤ b → c ≤ a
le_then a b c p q = omega (arith, p, q)

pub more_then : (cs ds es : List Channel) → NoneHasMore cs ds → NoneHasMore ds es → NoneHasMore cs es
more_then [] [] [] p q = tt
more_then [] [] (e ∷ es) p q = absurd q
more_then [] (d ∷ ds) es p q = absurd p
more_then (c ∷ cs) [] es p q = absurd p
more_then (c ∷ cs) (d ∷ ds) [] p q = absurd q
more_then (c ∷ cs) (d ∷ ds) (e ∷ es) p q =
    ((q.0.0 ∙ p.0.0, le_then (entries c.end) (entries d.end) (entries e.end) p.0.1 q.0.1), more_then cs ds es p.1 q.1)

pub held_less : (k : ℕ) (cs ds : List Channel) → NoneHasMore cs ds → held k ds ≤ held k cs
held_less k [] [] all = omega arith
held_less k [] (d ∷ ds) all = absurd all
held_less k (c ∷ cs) [] all = absurd all
held_less k (c ∷ cs) (d ∷ ds) all =
    subst (λ n. held_of (cond (n == k) (Some d) (found k ds)) ≤ held_of (cond (c.number == k) (Some c) (found k cs))) (sym all.0.0) (by_flag (c.number == k) (held_less k cs ds all.1))
  where
    by_flag : (flag : Bool) → held k ds ≤ held k cs → held_of (cond flag (Some d) (found k ds)) ≤ held_of (cond flag (Some c) (found k cs))
    by_flag true rest = all.0.1
    by_flag false rest = rest

-- an end is changed
more_first : (k : ℕ) (change : End → End) → ((e : End) → entries (change e) ≤ entries e) → (cs : List Channel) → NoneHasMore cs (in_first k change cs)
more_first k change less [] = tt
more_first k change less (c ∷ cs) = by_flag (c.number == k) (more_first k change less cs)
  where
    by_flag : (flag : Bool) → NoneHasMore cs (in_first k change cs) → NoneHasMore (c ∷ cs) (cond flag (with_end (change c.end) c ∷ cs) (c ∷ in_first k change cs))
    by_flag true rest = ((refl, less c.end), more_same cs)
    by_flag false rest = ((refl, omega arith), rest)

pub more_changed : (k : ℕ) (change : End → End) → ((e : End) → entries (change e) ≤ entries e) → (cs : List Channel) → NoneHasMore cs (changed k change cs)
more_changed k change less cs = subst (NoneHasMore cs) (sym (changed_first k change cs)) (more_first k change less cs)

pub emptied_less : (e : End) → entries (emptied e) ≤ entries e
emptied_less e = by_flag e.is_spent
  where
    by_flag : (spent : Bool) → entries (cond spent e (record e { queued = [] })) ≤ entries e
    by_flag true = omega arith
    by_flag false = omega arith

-- ---- What is queued leaves as many

queued_less : (message : MessageValue) (mark : Option ℕ) (e : End) → entries (queued message mark e) ≤ entries e
queued_less message mark e = same_entries (queued message mark e) e (queued_rest message mark e)

told_one : (told : EventData) (position : ℕ) (cs : List Channel) → NoneHasMore cs (map (event_queued told position) cs)
told_one told position [] = tt
told_one told position (c ∷ cs) = ((refl, queued_less (event_message told) (Some position) c.end), told_one told position cs)

told_less : (events : List EventData) (position : ℕ) (cs : List Channel) → NoneHasMore cs (told_all events position cs)
told_less [] position cs = more_same cs
told_less (told ∷ events) position cs =
    let next = map (event_queued told position) cs in more_then cs next (told_all events position next) (told_one told position cs) (told_less events position next)

progress_less : (token : List ℕ) (addresses : List ℕ) (position : ℕ) (e : End) → entries (progress_queued token addresses position e) ≤ entries e
progress_less token [] position e = omega arith
progress_less token (address ∷ addresses) position e =
    let next = queued (progress token (progress_data address)) (Some position) e in
    le_then (entries e) (entries next) (entries (progress_queued token addresses position next)) (queued_less (progress token (progress_data address)) (Some position) e)
    (progress_less token addresses position next)

answer_less : (token : List ℕ) (done : Done) (position : ℕ) (e : End) → entries (answer_queued token done position e) ≤ entries e
answer_less token done position e =
    let next = progress_queued token done.progress position e in
    le_then (entries e) (entries next) (entries (answer_queued token done position e)) (progress_less token done.progress position e)
    (queued_less (answer_message token done.answer) (Some position) next)

-- ---- What is done with an entry

input_less : (events : List EventData) (a : AgentValue) → NoneHasMore a.channels (after_input events a).channels
unfolding after_input
input_less events a = told_less events (a.position + 1) a.channels

heard_less : (k : ℕ) (token : List ℕ) (done : Done) (a : AgentValue) → NoneHasMore a.channels (heard k token done a).channels
unfolding heard answered_to
heard_less k token done a =
    let next = after_input done.events a in
    more_then a.channels next.channels (answered_to k token done next).channels (input_less done.events a)
    (more_changed k (answer_queued token done next.position) (answer_less token done next.position) next.channels)

asked_less : (k : ℕ) (m : Result MessageValue MessageFault) (a : AgentValue) → NoneHasMore a.channels (asked k m a).1.channels
unfolding asked executed executed_read
asked_less k (Ok (command token service name body)) a =
    let read = read_as service name body in heard_less k token (done_by k service name read a.target) (with_target (left_by k read a.target) a)
asked_less k (Ok (final token body)) a = more_same a.channels
asked_less k (Ok (progress token body)) a = more_same a.channels
asked_less k (Ok (not_known token)) a = more_same a.channels
asked_less k (Ok (event service name body)) a = more_same a.channels
asked_less k (Ok (flow level)) a = more_same a.channels
asked_less k (Err fault) a = more_same a.channels

took_less : (k : ℕ) (what : Taken Unit) (a : AgentValue) → NoneHasMore a.channels (took k what a).1.channels
unfolding took gone
took_less k (taken.Hello incoming) a = more_same a.channels
took_less k (taken.Command incoming) a = asked_less k (reading incoming.raw) a
took_less k (taken.Event incoming) a = more_same a.channels
took_less k (taken.Progress token incoming) a = more_same a.channels
took_less k (taken.Final tag incoming) a = more_same a.channels
took_less k (taken.Closed cause) a = input_less (going_tells k a.target) (with_target (going_leaves k a.target) a)

any_less : (k : ℕ) (what : Option (Taken Unit)) (a : AgentValue) → NoneHasMore a.channels (took_any k what a).1.channels
any_less k None a = more_same a.channels
any_less k (Some what) a = took_less k what a

-- ---- A turn

one_less : (e : End) → (suc (entries (next_end e)) ≤ entries e) ⊎ (entries e ≤ 0)
one_less e = by_next (next_taken e) (next_one e)
  where
    by_next : (x : Option (Taken Unit) × End) → TakesOne e x → (suc (entries x.1) ≤ entries e) ⊎ (entries e ≤ 0)
    by_next (None, next) one = inr one.1
    by_next (Some what, next) one = inl one

next_less : (e : End) → entries (next_end e) ≤ entries e
next_less e = by_next (next_taken e) (next_one e)
  where
    by_next : (x : Option (Taken Unit) × End) → TakesOne e x → entries x.1 ≤ entries e
    by_next (None, next) one = subst (λ end. entries end ≤ entries e) (sym one.0) (omega arith)
    by_next (Some what, next) one = by_count (entries next) (entries e) one
      where
        by_count : (a b : ℕ) → suc a ≤ b → a ≤ b
        by_count a b less = omega (arith, less)

-- the channel has one fewer, or has none, and none has more
pub record HasTaken (k : ℕ) (cs ds : List Channel) : Type 0 where
  pub one : (suc (held k ds) ≤ held k cs) ⊎ (held k cs ≤ 0)
  pub all : NoneHasMore cs ds

has_taken : (k : ℕ) (cs ds : List Channel) → NoneHasMore (changed k next_end cs) ds → HasTaken k cs ds
has_taken k cs ds less = record { one = by_found (found k cs) refl; all = more_then cs (changed k next_end cs) ds (more_changed k next_end next_less cs) less }
  where
    now : held k ds ≤ held k (in_first k next_end cs)
    now = subst (λ xs. held k ds ≤ held k xs) (changed_first k next_end cs) (held_less k (changed k next_end cs) ds less)

    by_found : (there : Option Channel) → found k cs ≡ there → (suc (held k ds) ≤ held k cs) ⊎ (held k cs ≤ 0)
    by_found None is = inr (subst (λ o. held_of o ≤ 0) (sym is) (omega arith))
    by_found (Some c) is = by_one (one_less c.end)
      where
        after : held k (in_first k next_end cs) ≡ entries (next_end c.end)
        after = ap held_of (found_changed k next_end cs ∙ ap (mapped next_end) is)

        by_count : (a b d e : ℕ) → a ≤ b → b ≡ d → suc d ≤ e → suc a ≤ e
        by_count a b d e p q r = omega (arith, p, q, r)

        by_one : (suc (entries (next_end c.end)) ≤ entries c.end) ⊎ (entries c.end ≤ 0) → (suc (held k ds) ≤ held k cs) ⊎ (held k cs ≤ 0)
        by_one (inl fewer) = inl (subst (λ o. suc (held k ds) ≤ held_of o) (sym is) (by_count (held k ds) (held k (in_first k next_end cs)) (entries (next_end c.end)) (entries c.end) now after fewer))
        by_one (inr none) = inr (subst (λ o. held_of o ≤ 0) (sym is) none)

turned_there : (k place : ℕ) (there : Option Channel) (a : AgentValue) → turned_on k place there a ≡ took_any k (taken_of there) (record a { channels = put_at place next_end a.channels there })
turned_there k place None a = refl
turned_there k place (Some channel) a = refl

turned_placed : (k : ℕ) (place : Option ℕ) (a : AgentValue) → turned_at k place a ≡ took_any k (taken_of (channel_at place a.channels)) (record a { channels = changed_at place next_end a.channels })
turned_placed k None a = refl
turned_placed k (Some place) a = turned_there k place (slice_get a.channels place) a

-- an agent that is full takes nothing
pub full_takes_none : (k : ℕ) (a : AgentValue) → is_full a ≡ true → turned k a ≡ (Nothing, a)
unfolding turned
full_takes_none k a full = ap (λ b. cond {A = Turned × AgentValue} b (Nothing, a) (turned_at k (place_of k a.channels) a)) full

pub turn_takes : (k : ℕ) (a : AgentValue) → is_full a ≡ false → HasTaken k a.channels (turned k a).1.channels
unfolding turned
turn_takes k a free =
    let next : AgentValue = record a { channels = changed k next_end a.channels } in
    let is : turned k a ≡ took_any k (taken_of (channel_at (place_of k a.channels) a.channels)) next =
    ap (λ b. cond {A = Turned × AgentValue} b (Nothing, a) (turned_at k (place_of k a.channels) a)) free ∙ turned_placed k (place_of k a.channels) a in
    let what = taken_of (channel_at (place_of k a.channels) a.channels) in
    subst (λ (x : Turned × AgentValue). HasTaken k a.channels x.1.channels) (sym is) (has_taken k a.channels (took_any k what next).1.channels (any_less k what next))
