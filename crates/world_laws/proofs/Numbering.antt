-- The channels that an agent has have numbers that differ, so each is found by its own.
use Rattle.std.proofs.Common.{◌≡◌, ℕ, suc, zero, ◌+◌, ◌==◌, ◌||◌, Bool, true, false, cond, List, [], ◌∷◌, ◌++◌, map, Option, Some, None, Result, Ok, Err, refl, sym, ap, ◌∙◌, subst, eq-eqb, ne_eqb}
use Rattle.std.specs.Prelude.{slice_get, slice_set}
use Rattle.std.specs.List.{AllByRecursion, filter, list_any}
use Rattle.std.proofs.lemmas.Bool.{eqb-false, or_parts}
use Rattle.std.proofs.lemmas.List.{map-append}
use Rattle.std.proofs.lemmas.List.Folds.{list_any-append}
use Rattle.agent_node.specs.Agent.{after_giving, after_input, answered_to, asked, begun, delivered, done_by, ended, executed, executed_read, going_leaves, going_tells, gone, heard, instruction_leaves, instruction_tells, is_full, is_refused, left_by, opened, read_as, ticked, ticked_by, took, took_any, turned, turned_at, turned_on, with_target}
use Rattle.agent_node.specs.AgentLaws.{AgentFollowsHistory}
use Rattle.agent_node.specs.AgentValue.{AgentValue}
use Rattle.agent_node.specs.Channels.{End, answer_queued, changed, changed_at, channel_end, end_in, event_queued, is_kept, new_channel, place_of, put_at, told_all, with_end}
use Rattle.agent_node.specs.Runs.{AgentRun, Call, after_all, after_call, bytes_end, called, comes, gives, input_if, no_calls, opens, ticks, turns}
use Rattle.agent_node.proofs.Places.{found, place_found, channel_number}
use Rattle.agent_node.specs.declared.agent.Turned.{Turned}
use Rattle.agent_node.specs.declared.agent.Turned.TheVariants.{Nothing}
use Rattle.channel_list.specs.declared.channel.Channel.{Channel}
use Rattle.channel_core.specs.Taking.{next_taken}
use Rattle.channel_core.specs.declared.taking.Taken.{Taken}
use Rattle.channel_core.specs.declared.taking.Taken.TheVariants as taken
use Rattle.target_contexts.specs.declared.process.Image.{Image}
use Rattle.target_hub.specs.History.{was_opened}
use Rattle.target_hub.specs.declared.input.Input.TheVariants.{Opened}
use Rattle.tcf_message.specs.Message.{MessageValue, command, event, final, flow, not_known, progress, reading}
use Rattle.tcf_message.specs.declared.message.MessageFault.{MessageFault}
use Rattle.tcf_values.specs.declared.event.EventData.{EventData}
use Rattle.tcf_values.specs.declared.ids.ContextId.{ContextId}
use Rattle.chain_world.proofs.Agents.{Reached, reached_more}
use Rattle.list_laws.proofs.Lists.{map_map}
use Rattle.agent_node.proofs.TheLaws.{agent_has_no_strangers, agent_tells_the_truth}

abbrev numbers : List Channel → List ℕ
numbers cs = map channel_number cs

abbrev has : ℕ → List ℕ → Bool
has k ns = list_any (λ n. n == k) ns

abbrev AreApart : List ℕ → Type 0
AreApart [] = Unit {0}
AreApart (n ∷ ns) = (has n ns ≡ false) × AreApart ns

-- ---- The first channel of a number

end_found : (k : ℕ) (cs : List Channel) → channel_end k cs ≡ end_in (found k cs)
end_found k cs = ap end_in (place_found k cs)

-- those that haven't this number
others : (P Q : Channel → Type 0) (n : ℕ) → ((c : Channel) → (c.number == n) ≡ false → P c → Q c) → (cs : List Channel) → has n (numbers cs) ≡ false → AllByRecursion P cs → AllByRecursion Q cs
others P Q n each [] none all = tt
others P Q n each (c ∷ cs) none all = let parts = or_parts (c.number == n) (has n (numbers cs)) none in (each c parts.0 all.0, others P Q n each cs parts.1 all.1)

all_found : (cs : List Channel) → AreApart (numbers cs) → AllByRecursion (λ c. found c.number cs ≡ Some c) cs
all_found [] apart = tt
all_found (c ∷ cs) apart = (
  ap (λ b. cond b (Some c) (found c.number cs)) (eq-eqb c.number c.number refl),
  others (λ d. found d.number cs ≡ Some d) (λ d. found d.number (c ∷ cs) ≡ Some d) c.number
      (λ d isnt is. ap (λ b. cond b (Some c) (found d.number cs)) (ne_eqb c.number d.number (λ same. eqb-false d.number c.number isnt (sym same))) ∙ is) cs apart.0 (all_found cs apart.1),
)

ends_found : (all cs : List Channel) → AllByRecursion (λ c. found c.number all ≡ Some c) cs → AllByRecursion (λ c. channel_end c.number all ≡ Some c.end) cs
ends_found all [] each = tt
ends_found all (c ∷ cs) each = (end_found c.number all ∙ ap end_in each.0, ends_found all cs each.1)

none_has : (k : ℕ) (cs : List Channel) → end_in (found k cs) ≡ None → has k (numbers cs) ≡ false
none_has k [] none = refl
none_has k (c ∷ cs) none = by_flag (c.number == k) none (none_has k cs)
  where
    by_flag : (flag : Bool) → end_in (cond flag (Some c) (found k cs)) ≡ None → (end_in (found k cs) ≡ None → has k (numbers cs) ≡ false) → (flag || has k (numbers cs)) ≡ false
    by_flag true is rest = absurd cc
    by_flag false is rest = rest is

-- ---- What is done to the channels keeps their numbers

set_keeps : (cs : List Channel) (place : ℕ) (c d : Channel) → slice_get cs place ≡ Some c → d.number ≡ c.number → numbers (slice_set cs place d) ≡ numbers cs
set_keeps [] place c d there same = absurd cc
set_keeps (x ∷ cs) zero c d there same = let is : x ≡ c = cc in ap (λ n. n ∷ numbers cs) (same ∙ ap channel_number (sym is))
set_keeps (x ∷ cs) (suc place) c d there same = ap (λ ns. x.number ∷ ns) (set_keeps cs place c d there same)

put_keeps : (change : End → End) (cs : List Channel) (place : ℕ) (there : Option Channel) → slice_get cs place ≡ there → numbers (put_at place change cs there) ≡ numbers cs
put_keeps change cs place None is = refl
put_keeps change cs place (Some c) is = set_keeps cs place c (with_end (change c.end) c) is refl

changed_keeps : (k : ℕ) (change : End → End) (cs : List Channel) → numbers (changed k change cs) ≡ numbers cs
changed_keeps k change cs = by_place (place_of k cs)
  where
    by_place : (place : Option ℕ) → numbers (changed_at place change cs) ≡ numbers cs
    by_place None = refl
    by_place (Some place) = put_keeps change cs place (slice_get cs place) refl

told_keeps : (events : List EventData) (position : ℕ) (cs : List Channel) → numbers (told_all events position cs) ≡ numbers cs
told_keeps [] position cs = refl
told_keeps (told ∷ events) position cs = told_keeps events position (map (event_queued told position) cs) ∙ map_map channel_number (event_queued told position) cs

abbrev of_agent : AgentValue → List ℕ
of_agent a = numbers a.channels

input_keeps : (events : List EventData) (a : AgentValue) → of_agent (after_input events a) ≡ of_agent a
unfolding after_input
input_keeps events a = told_keeps events (a.position + 1) a.channels

asked_keeps : (k : ℕ) (what : Result MessageValue MessageFault) (a : AgentValue) → of_agent (asked k what a).1 ≡ of_agent a
unfolding asked executed executed_read heard answered_to
asked_keeps k (Ok (command token service name body)) a =
    let done = done_by k service name (read_as service name body) a.target in
    let left = with_target (left_by k (read_as service name body) a.target) a in
    changed_keeps k (answer_queued token done (after_input done.events left).position) (after_input done.events left).channels ∙ input_keeps done.events left
asked_keeps k (Ok (final token body)) a = refl
asked_keeps k (Ok (progress token body)) a = refl
asked_keeps k (Ok (not_known token)) a = refl
asked_keeps k (Ok (event service name body)) a = refl
asked_keeps k (Ok (flow level)) a = refl
asked_keeps k (Err fault) a = refl

took_keeps : (k : ℕ) (what : Taken Unit) (a : AgentValue) → of_agent (took k what a).1 ≡ of_agent a
unfolding took gone
took_keeps k (taken.Hello incoming) a = refl
took_keeps k (taken.Command incoming) a = asked_keeps k (reading incoming.raw) a
took_keeps k (taken.Event incoming) a = refl
took_keeps k (taken.Progress token incoming) a = refl
took_keeps k (taken.Final tag incoming) a = refl
took_keeps k (taken.Closed cause) a = input_keeps (going_tells k a.target) (with_target (going_leaves k a.target) a)

took_any_keeps : (k : ℕ) (what : Option (Taken Unit)) (a : AgentValue) → of_agent (took_any k what a).1 ≡ of_agent a
took_any_keeps k None a = refl
took_any_keeps k (Some what) a = took_keeps k what a

turned_keeps : (k : ℕ) (a : AgentValue) → of_agent (turned k a).1 ≡ of_agent a
unfolding turned
turned_keeps k a = by_flag (is_full a)
  where
    by_channel : (place : ℕ) (there : Option Channel) → slice_get a.channels place ≡ there → of_agent (turned_on k place there a).1 ≡ of_agent a
    by_channel place None is = refl
    by_channel place (Some c) is =
        let next = next_taken c.end in
        took_any_keeps k next.0 (record a { channels = slice_set a.channels place (with_end next.1 c) }) ∙ set_keeps a.channels place c (with_end next.1 c) is refl

    by_place : (place : Option ℕ) → of_agent (turned_at k place a).1 ≡ of_agent a
    by_place None = refl
    by_place (Some place) = by_channel place (slice_get a.channels place) refl

    by_flag : (flag : Bool) → of_agent (cond {A = Turned × AgentValue} flag (Nothing, a) (turned_at k (place_of k a.channels) a)).1 ≡ of_agent a
    by_flag true = refl
    by_flag false = by_place (place_of k a.channels)

ticked_keeps : (thread : ContextId) (a : AgentValue) → of_agent (ticked thread a).1 ≡ of_agent a
unfolding ticked
ticked_keeps thread a = by_flag (is_full a)
  where
    by_told : (told : Option (List EventData)) → of_agent (ticked_by thread told a).1 ≡ of_agent a
    by_told None = refl
    by_told (Some events) = input_keeps events (with_target (instruction_leaves thread a.target) a)

    by_flag : (flag : Bool) → of_agent (cond {A = Bool × AgentValue} flag (false, a) (ticked_by thread (instruction_tells thread a.target) a)).1 ≡ of_agent a
    by_flag true = refl
    by_flag false = by_told (instruction_tells thread a.target)

delivered_keeps : (k : ℕ) (piece : List ℕ) (a : AgentValue) → of_agent (delivered k piece a) ≡ of_agent a
unfolding delivered
delivered_keeps k piece a = changed_keeps k _ a.channels

ended_keeps : (k : ℕ) (a : AgentValue) → of_agent (ended k a) ≡ of_agent a
unfolding ended
ended_keeps k a = changed_keeps k _ a.channels

giving_keeps : (k : ℕ) (a : AgentValue) → of_agent (after_giving k a) ≡ of_agent a
unfolding after_giving
giving_keeps k a = changed_keeps k _ a.channels

-- ---- A channel that is opened has a number of its own

has_fewer : (keep : Channel → Bool) (k : ℕ) (cs : List Channel) → has k (numbers cs) ≡ false → has k (numbers (filter keep cs)) ≡ false
has_fewer keep k [] none = refl
has_fewer keep k (c ∷ cs) none = let parts = or_parts (c.number == k) (has k (numbers cs)) none in by_flag (keep c) parts.0 (has_fewer keep k cs parts.1)
  where
    by_flag : (flag : Bool) → (c.number == k) ≡ false → has k (numbers (filter keep cs)) ≡ false → has k (numbers (cond flag (c ∷ filter keep cs) (filter keep cs))) ≡ false
    by_flag true here rest = rw here rest
    by_flag false here rest = rest

fewer_apart : (keep : Channel → Bool) (cs : List Channel) → AreApart (numbers cs) → AreApart (numbers (filter keep cs))
fewer_apart keep [] apart = tt
fewer_apart keep (c ∷ cs) apart = by_flag (keep c) (fewer_apart keep cs apart.1)
  where
    by_flag : (flag : Bool) → AreApart (numbers (filter keep cs)) → AreApart (numbers (cond flag (c ∷ filter keep cs) (filter keep cs)))
    by_flag true rest = (has_fewer keep c.number cs apart.0, rest)
    by_flag false rest = rest

more_apart : (ns : List ℕ) (k : ℕ) → has k ns ≡ false → AreApart ns → AreApart (ns ++ k ∷ [])
more_apart [] k none apart = (refl, tt)
more_apart (n ∷ ns) k none apart =
    let parts = or_parts (n == k) (has k ns) none in
    let isnt : (k == n) ≡ false = ne_eqb k n (λ same. eqb-false n k parts.0 (sym same)) in
    (list_any-append (λ m. m == n) ns (k ∷ []) ∙ rw apart.0 (rw isnt refl), more_apart ns k parts.1 apart.1)

opened_apart : (k : ℕ) (a : AgentValue) → ((opened k a).0 ≡ true → has k (of_agent a) ≡ false) → AreApart (of_agent a) → AreApart (of_agent (opened k a).1)
unfolding opened begun
opened_apart k a new apart = by_flag (is_refused k a) new
  where
    by_flag : (flag : Bool) → ((cond {A = Bool × AgentValue} flag (false, a) (true, begun k a)).0 ≡ true → has k (of_agent a) ≡ false) → AreApart (of_agent (cond {A = Bool × AgentValue} flag (false, a) (true, begun k a)).1)
    by_flag true isnt = apart
    by_flag false isnt =
        subst AreApart (sym (map-append channel_number (filter is_kept a.channels) (new_channel k (a.position + 1) ∷ [])))
        (more_apart (numbers (filter is_kept a.channels)) k (has_fewer is_kept k a.channels (isnt refl)) (fewer_apart is_kept a.channels apart))

-- ---- Over any calls

module _ (images : List Image) where
  is_new : {calls : List Call} → (k : ℕ) (r : AgentRun) → Reached images calls r → (opened k r.agent).0 ≡ true → has k (of_agent r.agent) ≡ false
  is_new {calls = calls} k r reached did =
      let follows : AgentFollowsHistory images r = subst (AgentFollowsHistory images) reached.is (agent_tells_the_truth images calls) in
      let next : Reached images (calls ++ opens k ∷ []) (after_call (opens k) r) = reached_more images r (opens k ∷ []) reached in
      let later : AgentFollowsHistory images (after_call (opens k) r) = subst (AgentFollowsHistory images) next.is (agent_tells_the_truth images (calls ++ opens k ∷ [])) in
      let unopened : was_opened k r.history ≡ false = later.legal r.history (Opened k) [] (ap (λ (b : Bool). r.history ++ input_if b (Opened k)) did) in
      let none : list_any (λ past. past.number == k) r.channels ≡ false = sym (follows.opened k) ∙ unopened in
      let stranger : channel_end k r.agent.channels ≡ None = subst (λ (x : AgentRun). list_any (λ past. past.number == k) x.channels ≡ false → channel_end k x.agent.channels ≡ None) reached.is (agent_has_no_strangers images calls k) none in
      none_has k r.agent.channels (sym (end_found k r.agent.channels) ∙ stranger)

  call_apart : {calls : List Call} → (call : Call) (r : AgentRun) → Reached images calls r → AreApart (of_agent r.agent) → AreApart (of_agent (called call r.agent))
  call_apart (opens k) r reached apart = opened_apart k r.agent (is_new k r reached) apart
  call_apart (comes k piece) r reached apart = subst AreApart (sym (delivered_keeps k piece r.agent)) apart
  call_apart (bytes_end k) r reached apart = subst AreApart (sym (ended_keeps k r.agent)) apart
  call_apart (turns k) r reached apart = subst AreApart (sym (turned_keeps k r.agent)) apart
  call_apart (ticks thread) r reached apart = subst AreApart (sym (ticked_keeps thread r.agent)) apart
  call_apart (gives k) r reached apart = subst AreApart (sym (giving_keeps k r.agent)) apart

  calls_apart : {before : List Call} → (calls : List Call) (r : AgentRun) → Reached images before r → AreApart (of_agent r.agent) → AreApart (of_agent (after_all calls r).agent)
  calls_apart [] r reached apart = apart
  calls_apart {before = before} (call ∷ calls) r reached apart =
      calls_apart {before = before ++ call ∷ []} calls (after_call call r) (reached_more images r (call ∷ []) reached) (call_apart call r reached apart)

  -- each channel is found by its number
  pub each_found : (calls : List Call) → AllByRecursion (λ c. channel_end c.number (after_all calls (no_calls images)).agent.channels ≡ Some c.end) (after_all calls (no_calls images)).agent.channels
  each_found calls =
      let cs = (after_all calls (no_calls images)).agent.channels in
      ends_found cs cs (all_found cs (calls_apart {before = []} calls (no_calls images) (record { is = refl }) tt))
