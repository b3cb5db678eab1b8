-- An agent tells its channels what the history of its target says, after any calls.
use Rattle.std.proofs.Common.{◌≡◌, ℕ, ◌+◌, ◌==◌, Bool, true, false, cond, List, [], ◌∷◌, ◌++◌, drop, length, map, Option, Some, None, refl, sym, ap, ◌∙◌, subst, append-nil}
use Rattle.std.specs.Prelude.{IsSome}
use Rattle.std.specs.List.{filter}
use Rattle.std.proofs.lemmas.Bool.{or_parts}
use Rattle.channel_core.specs.Closing.{is_closed}
use Rattle.channel_core.specs.EndValue.{unless_spent}
use Rattle.channel_core.specs.Receiving.{delivered as end_delivered, ended as end_ended}
use Rattle.channel_core.specs.Runs.{Call as EndCall, delivering, ending, putting_out}
use Rattle.target_contexts.specs.declared.process.Image.{Image}
use Rattle.target_hub.specs.History.{inputs_after}
use Rattle.target_hub.specs.HubValue.{TargetValue, new_target}
use Rattle.target_hub.specs.Passing.{tick_told, ticked as target_ticked}
use Rattle.target_hub.specs.Sent.{agent_services, tick_events_told}
use Rattle.target_hub.specs.declared.input.Input.{Input}
use Rattle.target_hub.specs.declared.input.Input.TheVariants.{Opened, Ticked}
use Rattle.tcf_values.specs.declared.event.EventData.{EventData}
use Rattle.tcf_values.specs.declared.ids.ContextId.{ContextId}
use Rattle.agent_node.specs.Agent.{after_giving, after_input, begun, delivered, ended, first_target, instruction_leaves, instruction_tells, is_full, is_refused, opened, ticked, ticked_by}
use Rattle.agent_node.specs.AgentLaws.{AgentTellsTheTruth, FollowsHistory, asked}
use Rattle.agent_node.specs.AgentValue.{AgentValue}
use Rattle.agent_node.specs.Channels.{End, changed, is_kept, new_channel, told_all, unless_closed}
use Rattle.channel_list.specs.Numbers.{has_number, with_number}
use Rattle.agent_node.specs.Runs.{AgentRun, Call, Past, after_all, after_call, bytes_end, comes, event_call, gives, hearing, input_if, no_calls, on_number, on_one, on_open, opened_by, opens, run_of, ticked_by as pasts_ticked, ticks, turns, unless_over, with_calls}
use Rattle.channel_list.specs.declared.channel.Channel.{Channel}
use Rattle.channel_core.proofs.TheLaws.{queues_its_messages}
use Rattle.channel_list.proofs.Differing.{all_mapped}
use Rattle.agent_node.proofs.Following.{Follows, first_said, follows_heard, follows_quiet}
use Rattle.agent_node.proofs.Histories.{legal_none, live_same}
use Rattle.agent_node.proofs.Holding.{Holds, holds_input, holds_opened, holds_quiet, namesakes, on_number_keeps, on_open_keeps}
use Rattle.agent_node.proofs.Matching.{ending_does, ending_gone, giving_does, giving_gone, stand_heard, stand_one, stand_open}
use Rattle.agent_node.proofs.Places.{at, changed_map}
use Rattle.agent_node.proofs.Standing.{Stands, channels_differ, ends_stand, no_more}
use Rattle.agent_node.proofs.Turning.{holds_turned}
use Rattle.list_laws.proofs.AllLists.{all_then}

-- ---- Words of the agent's own

instruction_is : (thread : ContextId) (target : TargetValue) → instruction_tells thread target ≡ tick_told thread target
unfolding instruction_tells
instruction_is thread target = refl

instruction_left : (thread : ContextId) (target : TargetValue) → instruction_leaves thread target ≡ target_ticked thread target
unfolding instruction_leaves
instruction_left thread target = refl

-- ---- A call of one channel that is no input

-- it changes the channel, and the past by these calls
one_changed : (images : List Image) (history : List Input) (k : ℕ) (change : End → End) (g : Past → Past) (a : AgentValue) (pasts : List Past) → ((past : Past) → (g past).number ≡ past.number)
    → Stands (map (at k change) a.channels) (map g pasts) → ((past : Past) → Follows images history past → Follows images history (g past)) → Holds images a history pasts
    → Holds images (record a { channels = changed k change a.channels }) (history ++ []) (map g pasts)
one_changed images history k change g a pasts keeps stands follows h =
    let P : List Channel → Type 0 = λ cs. Holds images (record a { channels = cs }) (history ++ []) (map g pasts) in
    let now : AgentValue = record a { channels = map (at k change) a.channels } in
    subst P (sym (changed_map k change a.channels (channels_differ h.stands h.differ)))
    (subst (λ hs. Holds images now hs (map g pasts)) (sym (append-nil history))
    (holds_quiet images a history pasts (map g pasts) (map (at k change) a.channels) stands (namesakes g keeps pasts)
    (all_mapped (Follows images history) g pasts (all_then (Follows images history) (λ past. Follows images history (g past)) follows pasts h.each)) h))

follows_one : (images : List Image) (history : List Input) (k : ℕ) (call : EndCall Unit) → ((past : Past) → Follows images history past → Follows images history (with_calls (call ∷ []) past))
    → (past : Past) → Follows images history past → Follows images history (on_number k (call ∷ []) past)
follows_one images history k call follows past f = by_flag (past.number == k)
  where
    by_flag : (flag : Bool) → Follows images history (cond flag (with_calls (call ∷ []) past) past)
    by_flag true = follows past f
    by_flag false = f

follows_open : (images : List Image) (history : List Input) (k : ℕ) (piece : List ℕ) (past : Past) → Follows images history past → Follows images history (on_open k (delivering piece None ∷ []) past)
follows_open images history k piece past f = by_flag (past.number == k) (is_closed (run_of past).end.state)
  where
    by_flag : (flag over : Bool) → Follows images history (cond flag (unless_over over (delivering piece None ∷ []) past) past)
    by_flag true true = f
    by_flag true false = follows_quiet images history (delivering piece None) past refl refl refl refl f
    by_flag false over = f

holds_delivered : (images : List Image) (history : List Input) (k : ℕ) (piece : List ℕ) (a : AgentValue) (pasts : List Past) → Holds images a history pasts
    → Holds images (delivered k piece a) (history ++ []) (map (on_open k (delivering piece None ∷ [])) pasts)
unfolding delivered
holds_delivered images history k piece a pasts h =
    one_changed images history k (unless_closed (end_delivered piece None)) (on_open k (delivering piece None ∷ [])) a pasts (on_open_keeps k (delivering piece None ∷ [])) (stand_open k piece h.stands)
    (follows_open images history k piece) h

holds_ended : (images : List Image) (history : List Input) (k : ℕ) (a : AgentValue) (pasts : List Past) → Holds images a history pasts → Holds images (ended k a) (history ++ []) (on_one k (ending ∷ []) pasts)
unfolding ended
holds_ended images history k a pasts h =
    one_changed images history k (λ end. unless_spent end end (end_ended end)) (on_number k (ending ∷ [])) a pasts (on_number_keeps k (ending ∷ []))
    (stand_one k (λ end. unless_spent end end (end_ended end)) (ending ∷ []) ending_does ending_gone h.stands)
    (follows_one images history k ending (λ past f. follows_quiet images history ending past refl refl refl refl f)) h

holds_given : (images : List Image) (history : List Input) (k : ℕ) (a : AgentValue) (pasts : List Past) → Holds images a history pasts → Holds images (after_giving k a) (history ++ []) (on_one k (putting_out ∷ []) pasts)
unfolding after_giving
holds_given images history k a pasts h =
    one_changed images history k (λ end. unless_spent end end (record end { queued = drop 1 end.queued })) (on_number k (putting_out ∷ [])) a pasts (on_number_keeps k (putting_out ∷ []))
    (stand_one k (λ end. unless_spent end end (record end { queued = drop 1 end.queued })) (putting_out ∷ []) giving_does giving_gone h.stands)
    (follows_one images history k putting_out (λ past f. follows_quiet images history putting_out past refl refl refl refl f)) h

-- ---- A channel opens

abbrev OpenedAs : Bool → ℕ → AgentValue → Bool × AgentValue
OpenedAs refused k a =
    cond refused (false, a) (true, record a { position = a.position + 1; numbers = with_number k a.numbers; channels = filter is_kept a.channels ++ new_channel k (a.position + 1) ∷ [] })

opened_as : (refused : Bool) (images : List Image) (history : List Input) (k : ℕ) (a : AgentValue) (pasts : List Past) → (refused ≡ false → has_number k a.numbers ≡ false) → Holds images a history pasts
    → Holds images (OpenedAs refused k a).1 (history ++ input_if (OpenedAs refused k a).0 (Opened k)) (opened_by (OpenedAs refused k a).0 k a pasts)
opened_as true images history k a pasts isnew h = subst (λ hs. Holds images a hs pasts) (sym (append-nil history)) h
opened_as false images history k a pasts isnew h = holds_opened images a history pasts k (isnew refl) h

holds_opening : (images : List Image) (history : List Input) (k : ℕ) (a : AgentValue) (pasts : List Past) → Holds images a history pasts
    → Holds images (opened k a).1 (history ++ input_if (opened k a).0 (Opened k)) (opened_by (opened k a).0 k a pasts)
unfolding begun opened
holds_opening images history k a pasts h =
    opened_as (is_refused k a) images history k a pasts (λ isnt. (or_parts (has_number k a.numbers) _ isnt).0) h

-- ---- An instruction

ticked_one : (images : List Image) (history : List Input) (thread : ContextId) (position : ℕ) (events : List EventData) → position ≡ length history + 1 → tick_told thread (inputs_after history (new_target images)) ≡ Some events
    → (past : Past) → Follows images history past → Follows images (history ++ Ticked thread ∷ []) (with_calls (map (event_call position) events) past)
ticked_one images history thread position events place is past f =
    follows_heard images history (Ticked thread) past (asked (run_of past)) (is_closed (run_of past).end.state) position events place refl (live_same past.number history (Ticked thread) refl refl ∙ f.told.live)
    (ap (tick_events_told (length history + 1)) is) refl f.plain f.told

ticked_as : (images : List Image) (history : List Input) (thread : ContextId) (told : Option (List EventData)) (a : AgentValue) (pasts : List Past) → instruction_tells thread a.target ≡ told → Holds images a history pasts
    → Holds images (ticked_by thread told a).1 (history ++ input_if (ticked_by thread told a).0 (Ticked thread)) (pasts_ticked told a pasts)
unfolding after_input
ticked_as images history thread None a pasts is h = subst (λ hs. Holds images a hs pasts) (sym (append-nil history)) h
ticked_as images history thread (Some events) a pasts is h =
    let tells : tick_told thread (inputs_after history (new_target images)) ≡ Some events = ap (tick_told thread) (sym h.target) ∙ sym (instruction_is thread a.target) ∙ is in
    holds_input images a history pasts (hearing events (a.position + 1) pasts) (told_all events (a.position + 1) a.channels) (Ticked thread) (instruction_leaves thread a.target)
    (instruction_left thread a.target ∙ ap (target_ticked thread) h.target) (subst IsSome (sym tells) refl) (λ _. refl) (λ j none. record { isnt_closed = refl; isnt_caller = refl })
    (stand_heard events (a.position + 1) h.stands) (namesakes (with_calls (map (event_call (a.position + 1)) events)) (λ past. refl) pasts)
    (all_mapped (Follows images (history ++ Ticked thread ∷ [])) (with_calls (map (event_call (a.position + 1)) events)) pasts
    (all_then (Follows images history) (λ past. Follows images (history ++ Ticked thread ∷ []) (with_calls (map (event_call (a.position + 1)) events) past))
    (ticked_one images history thread (a.position + 1) events (ap (λ n. n + 1) h.position) tells) pasts h.each))
    h

abbrev TickedAs : Bool → ContextId → AgentValue → Bool × AgentValue
TickedAs full thread a = cond full (false, a) (ticked_by thread (instruction_tells thread a.target) a)

ticked_full : (full : Bool) (images : List Image) (history : List Input) (thread : ContextId) (a : AgentValue) (pasts : List Past) → Holds images a history pasts
    → Holds images (TickedAs full thread a).1 (history ++ input_if (TickedAs full thread a).0 (Ticked thread)) (cond full pasts (pasts_ticked (instruction_tells thread a.target) a pasts))
ticked_full true images history thread a pasts h = subst (λ hs. Holds images a hs pasts) (sym (append-nil history)) h
ticked_full false images history thread a pasts h = ticked_as images history thread (instruction_tells thread a.target) a pasts refl h

holds_ticked : (images : List Image) (history : List Input) (thread : ContextId) (a : AgentValue) (pasts : List Past) → Holds images a history pasts
    → Holds images (ticked thread a).1 (history ++ input_if (ticked thread a).0 (Ticked thread)) (cond (is_full a) pasts (pasts_ticked (instruction_tells thread a.target) a pasts))
unfolding ticked
holds_ticked images history thread a pasts h = ticked_full (is_full a) images history thread a pasts h

-- ---- Any call

abbrev pub HoldsRun : List Image → AgentRun → Type 0
HoldsRun images r = Holds images r.agent r.history r.channels

holds_called : (images : List Image) (call : Call) (r : AgentRun) → HoldsRun images r → HoldsRun images (after_call call r)
holds_called images (opens k) r h = holds_opening images r.history k r.agent r.channels h
holds_called images (comes k piece) r h = holds_delivered images r.history k piece r.agent r.channels h
holds_called images (bytes_end k) r h = holds_ended images r.history k r.agent r.channels h
holds_called images (turns k) r h = holds_turned images r.history k r.agent r.channels h
holds_called images (ticks thread) r h = holds_ticked images r.history thread r.agent r.channels h
holds_called images (gives k) r h = holds_given images r.history k r.agent r.channels h

pub holds_all : (images : List Image) (calls : List Call) (r : AgentRun) → HoldsRun images r → HoldsRun images (after_all calls r)
holds_all images [] r h = h
holds_all images (call ∷ calls) r h = holds_all images calls (after_call call r) (holds_called images call r h)

pub holds_first : (images : List Image) → HoldsRun images (no_calls images)
unfolding first_target
holds_first images = record {
  target = refl;
  position = refl;
  legal = legal_none images;
  stands = no_more;
  differ = tt;
  numbers = λ k. refl;
  ordered = tt;
  opened = λ k. refl;
  strange = λ k none. record { shut = refl; silent = refl };
  each = tt;
}

-- ---- The law

follows_history : (images : List Image) (history : List Input) (past : Past) → Follows images history past → FollowsHistory images history past
unfolding first_said
follows_history images history past f = record {
  opened = f.told.opened;
  live = f.told.live;
  told = queues_its_messages agent_services (Some past.position) past.calls f.plain ∙ f.told.told;
  executed = f.told.executed;
}

pub tells_the_truth : AgentTellsTheTruth
tells_the_truth images calls =
    let r = after_all calls (no_calls images) in
    let h = holds_all images calls (no_calls images) (holds_first images) in
    record {
      target = h.target;
      position = h.position;
      legal = h.legal;
      channels = all_then (Follows images r.history) (FollowsHistory images r.history) (follows_history images r.history) r.channels h.each;
      ends = ends_stand h.stands h.differ;
      opened = h.opened;
    }
