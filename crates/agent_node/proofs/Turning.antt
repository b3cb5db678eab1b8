-- A turn keeps what holds of an agent.
use Rattle.std.proofs.Common.{◌≡◌, ℕ, ◌+◌, ◌==◌, Bool, true, false, not, cond, ◌&&◌, List, [], ◌∷◌, ◌++◌, length, map, Option, Some, None, Result, Ok, Err, refl, sym, ap, ◌∙◌, subst, append-nil, eqb-true, eq-eqb}
use Rattle.std.specs.List.{AllByRecursion}
use Rattle.channel_core.specs.Closing.{is_closed}
use Rattle.channel_core.specs.Runs.{Call as EndCall, taking}
use Rattle.channel_core.specs.Taking.{closes, next_taken}
use Rattle.channel_core.specs.declared.held.Incoming.{Incoming}
use Rattle.channel_core.specs.declared.states.Cause.{Cause}
use Rattle.channel_core.specs.declared.taking.Taken.{Taken}
use Rattle.channel_core.specs.declared.taking.Taken.TheVariants as taken
use Rattle.command_tables.specs.Reading.{reading_of}
use Rattle.command_tables.specs.declared.reading.Reading.{Reading}
use Rattle.target_contexts.specs.declared.process.Image.{Image}
use Rattle.target_hub.specs.Answering.{after_reading, executed as hub_executed}
use Rattle.target_hub.specs.History.{inputs_after, is_live, was_opened, was_closed}
use Rattle.target_hub.specs.HubValue.{TargetValue, new_target}
use Rattle.target_hub.specs.Passing.{closed as target_closed, closed_told}
use Rattle.target_hub.specs.Sent.{Told, caller_told, events_told, is_through}
use Rattle.target_hub.specs.declared.done.Done.{Done}
use Rattle.target_hub.specs.declared.input.Input.{Input}
use Rattle.target_hub.specs.declared.input.Input.TheVariants.{Executed, Closed}
use Rattle.tcf_message.specs.Message.{MessageValue, command, final, progress, not_known, event, flow, reading}
use Rattle.tcf_message.specs.declared.message.MessageFault.{MessageFault}
use Rattle.tcf_values.specs.declared.event.EventData.{EventData}
use Rattle.agent_node.specs.Agent.{after_input, answered_to, asked as agent_asked, done_by, executed, executed_read, going_leaves, going_tells, gone, heard, is_full, left_by, read_as, took, took_any, turned}
use Rattle.agent_node.specs.AgentLaws.{Asked, asked, asked_in, read}
use Rattle.agent_node.specs.AgentValue.{AgentValue}
use Rattle.agent_node.specs.Channels.{answer_queued, changed, told_all}
use Rattle.agent_node.specs.Runs.{Past, answer_calls, answered_by, asked_by as pasts_asked_by, event_call, hearing, input_of, next_of, on_number, on_one, run_of, took_by, turned_by, with_calls}
use Rattle.agent_node.specs.declared.agent.Turned.{Turned}
use Rattle.agent_node.specs.declared.agent.Turned.TheVariants.{Nothing}
use Rattle.channel_list.specs.declared.channel.Channel.{Channel}
use Rattle.command_tables.proofs.TheLaws.{readings_are_legal}
use Rattle.agent_node.proofs.Calls.{sent_of}
use Rattle.channel_list.proofs.Differing.{all_both, all_mapped}
use Rattle.agent_node.proofs.Following.{Follows, asked_next, follows_answered, follows_heard, follows_taking, taking_asked, taking_open, taking_plain, taking_sent, told_same, with_taking}
use Rattle.agent_node.proofs.Histories.{live_closed, live_same}
use Rattle.agent_node.proofs.Holding.{AreNamesakes, Holds, holds_input, holds_quiet, namesakes, namesakes_then, on_number_keeps}
use Rattle.agent_node.proofs.Matching.{answers_do, answers_gone, stand_heard, stand_one, taking_does, taking_gone}
use Rattle.agent_node.proofs.Places.{at, changed_map, next_end, turned_is}
use Rattle.agent_node.proofs.Standing.{Stands, channels_differ, closed_takes_none, each_next, next_found}
use Rattle.list_laws.proofs.AllLists.{all_then}
use Rattle.list_laws.proofs.Numbers.{other_number as other_way}

-- ---- Words of the agent's own

read_is : (service name body : List ℕ) → read_as service name body ≡ reading_of service name body
unfolding read_as
read_is service name body = refl

done_is : (k : ℕ) (service name : List ℕ) (reading : Reading) (target : TargetValue) → done_by k service name reading target ≡ hub_executed k service name reading target
unfolding done_by
done_is k service name reading target = refl

left_is : (k : ℕ) (reading : Reading) (target : TargetValue) → left_by k reading target ≡ after_reading k reading target
unfolding left_by
left_is k reading target = refl

tells_is : (k : ℕ) (target : TargetValue) → going_tells k target ≡ closed_told k target
unfolding going_tells
tells_is k target = refl

leaves_is : (k : ℕ) (target : TargetValue) → going_leaves k target ≡ target_closed k target
unfolding going_leaves
leaves_is k target = refl

-- ---- The channel that takes an entry is live

live_by : (images : List Image) (history : List Input) (k : ℕ) (what : Taken Unit) (pasts : List Past) → next_of pasts k ≡ Some what → AllByRecursion (Follows images history) pasts → is_live k history ≡ true
live_by images history k what [] is each = absurd cc
live_by images history k what (past ∷ pasts) is each = by_flag (past.number == k) refl is (λ later. live_by images history k what pasts later each.1)
  where
    by_flag : (flag : Bool) → (past.number == k) ≡ flag → cond flag (next_taken (run_of past).end).0 (next_of pasts k) ≡ Some what → (next_of pasts k ≡ Some what → is_live k history ≡ true) → is_live k history ≡ true
    by_flag true same takes rest =
        let P : ℕ → Type 0 = λ n. is_live n history ≡ true in subst P (eqb-true past.number k same) (each.0.told.live ∙ ap not (open_one past what takes))
      where
        open_one : (past : Past) (what : Taken Unit) → (next_taken (run_of past).end).0 ≡ Some what → is_closed (run_of past).end.state ≡ false
        open_one past what takes = by_state (is_closed (run_of past).end.state) refl
          where
            by_state : (closed : Bool) → is_closed (run_of past).end.state ≡ closed → is_closed (run_of past).end.state ≡ false
            by_state true closed = let none = ap (λ p. p.0) (closed_takes_none past closed) in absurd cc
            by_state false opened = opened
    by_flag false same takes rest = rest takes

-- one that takes an entry is open
open_taking : (past : Past) (what : Taken Unit) → Some what ≡ (next_taken (run_of past).end).0 → is_closed (run_of past).end.state ≡ false
open_taking past what takes = by_state (is_closed (run_of past).end.state) refl
  where
    by_state : (closed : Bool) → is_closed (run_of past).end.state ≡ closed → is_closed (run_of past).end.state ≡ false
    by_state true closed = let none = ap (λ p. p.0) (closed_takes_none past closed) in absurd cc
    by_state false opened = opened

-- ---- One past, by whether it is the one that takes

hit : (k : ℕ) (calls : List (EndCall Unit)) (past : Past) → (past.number == k) ≡ true → on_number k calls past ≡ with_calls calls past
hit k calls past is = ap (λ b. cond b (with_calls calls past) past) is

missed : (k : ℕ) (calls : List (EndCall Unit)) (past : Past) → (past.number == k) ≡ false → on_number k calls past ≡ past
missed k calls past is = ap (λ b. cond b (with_calls calls past) past) is

-- that it takes the next entry, if it is of the number
abbrev Takes : ℕ → Option (Taken Unit) → Past → Type 0
Takes k next past = (past.number == k) ≡ true → next ≡ (next_taken (run_of past).end).0

-- by the flag
abbrev either : {A : Type 0} → (flag : Bool) → (flag ≡ true → A) → (flag ≡ false → A) → A
either true one other = one refl
either false one other = other refl

quiet_one : (images : List Image) (history : List Input) (k : ℕ) (next : Option (Taken Unit)) → asked_next next ≡ [] → closes next ≡ false → (past : Past) → Follows images history past × Takes k next past → Follows images history (on_number k (taking ∷ []) past)
quiet_one images history k next asks staying past f =
    either (past.number == k)
    (λ is. subst (Follows images history) (sym (hit k (taking ∷ []) past is))
    (follows_taking images history past (ap asked_next (sym (f.1 is)) ∙ asks) (ap closes (sym (f.1 is)) ∙ staying) f.0))
    (λ isnt. subst (Follows images history) (sym (missed k (taking ∷ []) past isnt)) f.0)

-- ---- An entry that is no input

abbrev Both : List Image → List Input → ℕ → Option (Taken Unit) → Past → Type 0
Both images history k next past = Follows images history past × Takes k next past

-- what the calls of one channel leave
taking_namesakes : (k : ℕ) (pasts : List Past) → AreNamesakes pasts (on_one k (taking ∷ []) pasts)
taking_namesakes k pasts = namesakes (on_number k (taking ∷ [])) (on_number_keeps k (taking ∷ [])) pasts

taking_stands : (k : ℕ) (channels : List Channel) (pasts : List Past) → Stands channels pasts → Stands (map (at k next_end) channels) (on_one k (taking ∷ []) pasts)
taking_stands k channels pasts stands = stand_one k next_end (taking ∷ []) taking_does taking_gone stands

turn_quiet : (images : List Image) (history : List Input) (k : ℕ) (next : Option (Taken Unit)) (a : AgentValue) (pasts : List Past) → asked_next next ≡ [] → closes next ≡ false → AllByRecursion (Both images history k next) pasts
    → Holds images a history pasts → Holds images (record a { channels = map (at k next_end) a.channels }) (history ++ []) (on_one k (taking ∷ []) pasts)
turn_quiet images history k next a pasts asks staying each h =
    let later = on_one k (taking ∷ []) pasts in
    let now : AgentValue = record a { channels = map (at k next_end) a.channels } in
    subst (λ hs. Holds images now hs later) (sym (append-nil history))
    (holds_quiet images a history pasts later (map (at k next_end) a.channels) (taking_stands k a.channels pasts h.stands) (taking_namesakes k pasts)
    (all_mapped (Follows images history) (on_number k (taking ∷ [])) pasts
    (all_then (Both images history k next) (λ past. Follows images history (on_number k (taking ∷ []) past)) (quiet_one images history k next asks staying) pasts each)) h)

-- ---- The end of a channel

closed_one : (images : List Image) (history : List Input) (k : ℕ) (cause : Cause) (position : ℕ) (events : List EventData) → position ≡ length history + 1 → events ≡ closed_told k (inputs_after history (new_target images))
    → (past : Past) → Both images history k (Some (taken.Closed cause)) past → Follows images (history ++ Closed k ∷ []) (with_calls (map (event_call position) events) (on_number k (taking ∷ []) past))
unfolding asked_next
closed_one images history k cause position events place is past f =
    either (past.number == k)
    (λ same.
    let opened = open_taking past (taken.Closed cause) (f.1 same) in
    let shut : is_closed (run_of (with_taking past)).end.state ≡ true = taking_open past opened ∙ ap closes (sym (f.1 same)) in
    subst (λ p. Follows images (history ++ Closed k ∷ []) (with_calls (map (event_call position) events) p)) (sym (hit k (taking ∷ []) past same))
    (follows_heard images history (Closed k) (with_taking past) (asked (run_of past)) (is_closed (run_of past).end.state) position events place
    (taking_asked past ∙ ap (λ n. asked (run_of past) ++ asked_next n) (sym (f.1 same)) ∙ append-nil (asked (run_of past)))
    (live_closed past.number history (Closed k) (eq-eqb k past.number (sym (eqb-true past.number k same))) ∙ ap not (sym shut)) (ap (events_told (length history + 1)) (sym is)) refl (taking_plain past f.0.plain)
    (told_same images history past.number past.position _ (sent_of (with_taking past)) _ (asked (run_of past)) _ (is_closed (run_of past).end.state) (taking_sent past) refl refl f.0.told)))
    (λ apart.
    subst (λ p. Follows images (history ++ Closed k ∷ []) (with_calls (map (event_call position) events) p)) (sym (missed k (taking ∷ []) past apart))
    (follows_heard images history (Closed k) past (asked (run_of past)) (is_closed (run_of past).end.state) position events place refl
    (live_same past.number history (Closed k) refl (other_way past.number k apart) ∙ f.0.told.live) (ap (events_told (length history + 1)) (sym is)) refl f.0.plain f.0.told))

hearing_namesakes : (events : List EventData) (position : ℕ) (pasts : List Past) → AreNamesakes pasts (hearing events position pasts)
hearing_namesakes events position pasts = namesakes (with_calls (map (event_call position) events)) (λ past. refl) pasts

opened_when_live : (opened shut : Bool) → (opened && not shut) ≡ true → opened ≡ true
opened_when_live true shut is = refl
opened_when_live false shut is = is

-- a channel that wasn't opened isn't the live one
not_the_live : (k j : ℕ) (history : List Input) → is_live k history ≡ true → was_opened j history ≡ false → (k == j) ≡ false
not_the_live k j history live none = by_flag (k == j) refl
  where
    by_flag : (flag : Bool) → (k == j) ≡ flag → (k == j) ≡ false
    by_flag true same =
        let was : was_opened k history ≡ true = opened_when_live (was_opened k history) (was_closed k history) live in
        let P : ℕ → Type 0 = λ n. was_opened n history ≡ true in
        let now : was_opened j history ≡ true = subst P (eqb-true k j same) was in
        absurd cc
    by_flag false apart = apart

turn_closed : (images : List Image) (history : List Input) (k : ℕ) (cause : Cause) (a : AgentValue) (pasts : List Past) → next_of pasts k ≡ Some (taken.Closed cause) → AllByRecursion (Both images history k (Some (taken.Closed cause))) pasts
    → Holds images a history pasts
    → Holds images (gone k (record a { channels = map (at k next_end) a.channels })).1 (history ++ input_of (gone k (record a { channels = map (at k next_end) a.channels })).0) (hearing (going_tells k a.target) (a.position + 1) (on_one k (taking ∷ []) pasts))
unfolding after_input gone
turn_closed images history k cause a pasts next each h =
    let events = going_tells k a.target in
    let live = live_by images history k (taken.Closed cause) pasts next h.each in
    let told : events ≡ closed_told k (inputs_after history (new_target images)) = tells_is k a.target ∙ ap (closed_told k) h.target in
    let middle = on_one k (taking ∷ []) pasts in
    holds_input images a history pasts (hearing events (a.position + 1) middle) (told_all events (a.position + 1) (map (at k next_end) a.channels)) (Closed k) (going_leaves k a.target)
    (leaves_is k a.target ∙ ap (target_closed k) h.target) live (λ _. refl)
    (λ j none. record { isnt_closed = not_the_live k j history live none; isnt_caller = refl })
    (stand_heard events (a.position + 1) (taking_stands k a.channels pasts h.stands))
    (namesakes_then pasts middle (hearing events (a.position + 1) middle) (taking_namesakes k pasts) (hearing_namesakes events (a.position + 1) middle))
    (all_mapped (Follows images (history ++ Closed k ∷ [])) (with_calls (map (event_call (a.position + 1)) events)) middle
    (all_mapped (λ past. Follows images (history ++ Closed k ∷ []) (with_calls (map (event_call (a.position + 1)) events) past)) (on_number k (taking ∷ [])) pasts
    (all_then (Both images history k (Some (taken.Closed cause))) (λ past. Follows images (history ++ Closed k ∷ []) (with_calls (map (event_call (a.position + 1)) events) (on_number k (taking ∷ []) past)))
    (closed_one images history k cause (a.position + 1) events (ap (λ n. n + 1) h.position) told) pasts each)))
    h

-- ---- A command

-- the command that a channel took
abbrev the_command : (token service name body : List ℕ) → Asked
the_command token service name body = record { token = token; service = service; name = name; body = body }

executed_one : (images : List Image) (history : List Input) (k : ℕ) (incoming : Incoming) (token service name body : List ℕ) (position : ℕ) (done : Done) → position ≡ length history + 1
    → reading incoming.raw ≡ Ok (command token service name body) → done ≡ hub_executed k service name (reading_of service name body) (inputs_after history (new_target images))
    → (past : Past) → Both images history k (Some (taken.Command incoming)) past
    → Follows images (history ++ Executed k (reading_of service name body) service name ∷ []) (on_number k (answer_calls token position done) (with_calls (map (event_call position) done.events) (on_number k (taking ∷ []) past)))
unfolding asked_next
executed_one images history k incoming token service name body position done place reads is past f =
    either (past.number == k)
    (λ same.
    let opened = open_taking past (taken.Command incoming) (f.1 same) in
    let still : is_closed (run_of (with_taking past)).end.state ≡ false = taking_open past opened ∙ ap closes (sym (f.1 same)) in
    let own : (k == past.number) ≡ true = eq-eqb k past.number (sym (eqb-true past.number k same)) in
    subst (λ p. Follows images (history ++ input ∷ []) (on_number k (answer_calls token position done) (with_calls (map (event_call position) done.events) p))) (sym (hit k (taking ∷ []) past same))
    (subst (Follows images (history ++ input ∷ [])) (sym (hit k (answer_calls token position done) (with_calls (map (event_call position) done.events) (with_taking past)) same))
    (follows_answered images history input (with_taking past) (asked (run_of past)) (the_command token service name body) (is_closed (run_of past).end.state) (is_through (reading_of service name body)) position done place
    (taking_asked past ∙ ap (λ n. asked (run_of past) ++ asked_next n) (sym (f.1 same)) ∙ ap (λ r. asked (run_of past) ++ (asked_in r ++ [])) reads) still
    (live_same past.number history input refl refl ∙ f.0.told.live ∙ ap not opened)
    (ap (λ d. told_if (k == past.number) d) (sym is) ∙ ap (λ b. told_if b done) own)
    (ap (λ b. cond b (read (the_command token service name body) ∷ []) []) own) (taking_plain past f.0.plain)
    (told_same images history past.number past.position _ (sent_of (with_taking past)) _ (asked (run_of past)) _ (is_closed (run_of past).end.state) (taking_sent past) refl refl f.0.told))))
    (λ apart.
    let other : (k == past.number) ≡ false = other_way past.number k apart in
    subst (λ p. Follows images (history ++ input ∷ []) (on_number k (answer_calls token position done) (with_calls (map (event_call position) done.events) p))) (sym (missed k (taking ∷ []) past apart))
    (subst (Follows images (history ++ input ∷ [])) (sym (missed k (answer_calls token position done) (with_calls (map (event_call position) done.events) past) apart))
    (follows_heard images history input past (asked (run_of past)) (is_closed (run_of past).end.state) position done.events place refl
    (live_same past.number history input refl refl ∙ f.0.told.live)
    (ap (λ d. told_if (k == past.number) d) (sym is) ∙ ap (λ b. told_if b done) other ∙ append-nil (events_told (length history + 1) done.events))
    (ap (λ b. cond b (read (the_command token service name body) ∷ []) []) other) f.0.plain f.0.told)))
  where
    input : Input
    input = Executed k (reading_of service name body) service name

    told_if : Bool → Done → List Told
    told_if own d = events_told (length history + 1) d.events ++ cond own (caller_told (length history + 1) (reading_of service name body) d) []

turn_executed : (images : List Image) (history : List Input) (k : ℕ) (incoming : Incoming) (token service name body : List ℕ) (a : AgentValue) (pasts : List Past) → reading incoming.raw ≡ Ok (command token service name body)
    → next_of pasts k ≡ Some (taken.Command incoming) → AllByRecursion (Both images history k (Some (taken.Command incoming))) pasts → Holds images a history pasts
    → Holds images (executed k token service name body (record a { channels = map (at k next_end) a.channels })).1 (history ++ input_of (executed k token service name body (record a { channels = map (at k next_end) a.channels })).0)
    (answered_by k token (a.position + 1) (done_by k service name (read_as service name body) a.target) (on_one k (taking ∷ []) pasts))
unfolding after_input answered_to heard executed_read executed
turn_executed images history k incoming token service name body a pasts reads next each h =
    let P : Reading → Type 0 = λ r. Holds images (record a { target = left_by k r a.target; position = a.position + 1; channels = changed k (answer_queued token (done_by k service name r a.target) (a.position + 1)) (told_all (done_by k service name r a.target).events (a.position + 1) (map (at k next_end) a.channels)) })
    (history ++ Executed k r service name ∷ []) (answered_by k token (a.position + 1) (done_by k service name r a.target) (on_one k (taking ∷ []) pasts)) in
    subst P (sym (read_is service name body))
    (subst (λ cs. Holds images (record a { target = left_by k known a.target; position = a.position + 1; channels = cs }) (history ++ input ∷ []) last) (sym (changed_map k (answer_queued token done (a.position + 1)) heard_channels (channels_differ heard_stands (heard_same.differ h.differ))))
    (holds_input images a history pasts last (map (at k (answer_queued token done (a.position + 1))) heard_channels) input (left_by k known a.target)
    (left_is k known a.target ∙ ap (after_reading k known) h.target) (live, readings_are_legal service name body) (λ _. refl)
    (λ j none. record { isnt_closed = refl; isnt_caller = ap (λ b. cond b (read (the_command token service name body) ∷ []) []) (not_the_live k j history live none) })
    (stand_one k (answer_queued token done (a.position + 1)) (answer_calls token (a.position + 1) done) (answers_do token (a.position + 1) done) (answers_gone token (a.position + 1) done) heard_stands)
    (namesakes_then pasts heard last heard_same (namesakes (on_number k (answer_calls token (a.position + 1) done)) (on_number_keeps k (answer_calls token (a.position + 1) done)) heard))
    (all_mapped (Follows images (history ++ input ∷ [])) (on_number k (answer_calls token (a.position + 1) done)) heard
    (all_mapped (λ past. Follows images (history ++ input ∷ []) (on_number k (answer_calls token (a.position + 1) done) past)) (with_calls (map (event_call (a.position + 1)) done.events)) middle
    (all_mapped (λ past. Follows images (history ++ input ∷ []) (on_number k (answer_calls token (a.position + 1) done) (with_calls (map (event_call (a.position + 1)) done.events) past))) (on_number k (taking ∷ [])) pasts
    (all_then (Both images history k (Some (taken.Command incoming)))
    (λ past. Follows images (history ++ input ∷ []) (on_number k (answer_calls token (a.position + 1) done) (with_calls (map (event_call (a.position + 1)) done.events) (on_number k (taking ∷ []) past))))
    (executed_one images history k incoming token service name body (a.position + 1) done (ap (λ n. n + 1) h.position) reads (done_is k service name known a.target ∙ ap (hub_executed k service name known) h.target)) pasts each))))
    h))
  where
    known : Reading
    known = reading_of service name body

    input : Input
    input = Executed k (reading_of service name body) service name

    done : Done
    done = done_by k service name (reading_of service name body) a.target

    middle : List Past
    middle = on_one k (taking ∷ []) pasts

    heard : List Past
    heard = hearing done.events (a.position + 1) middle

    last : List Past
    last = on_one k (answer_calls token (a.position + 1) done) heard

    heard_channels : List Channel
    heard_channels = told_all done.events (a.position + 1) (map (at k next_end) a.channels)

    heard_stands : Stands heard_channels heard
    heard_stands = stand_heard done.events (a.position + 1) (taking_stands k a.channels pasts h.stands)

    heard_same : AreNamesakes pasts heard
    heard_same = namesakes_then pasts middle heard (taking_namesakes k pasts) (hearing_namesakes done.events (a.position + 1) middle)

    live : is_live k history ≡ true
    live = live_by images history k (taken.Command incoming) pasts next h.each

-- ---- Any entry

-- the agent where its end has taken
abbrev took_end : ℕ → AgentValue → AgentValue
took_end k a = record a { channels = map (at k next_end) a.channels }

-- what holds once an entry was taken
abbrev HoldsTook : List Image → Turned × AgentValue → List Input → List Past → Type 0
HoldsTook images done history pasts = Holds images done.1 (history ++ input_of done.0) pasts

turn_command : (images : List Image) (history : List Input) (k : ℕ) (incoming : Incoming) (message : Result MessageValue MessageFault) (a : AgentValue) (pasts : List Past) → reading incoming.raw ≡ message
    → next_of pasts k ≡ Some (taken.Command incoming) → AllByRecursion (Both images history k (Some (taken.Command incoming))) pasts → Holds images a history pasts
    → HoldsTook images (agent_asked k message (took_end k a)) history (pasts_asked_by k message a (on_one k (taking ∷ []) pasts))
unfolding agent_asked asked_next
turn_command images history k incoming (Err fault) a pasts reads next each h =
    turn_quiet images history k (Some (taken.Command incoming)) a pasts (ap (λ r. asked_in r ++ []) reads) refl each h
turn_command images history k incoming (Ok (command token service name body)) a pasts reads next each h = turn_executed images history k incoming token service name body a pasts reads next each h
turn_command images history k incoming (Ok (final token body)) a pasts reads next each h =
    turn_quiet images history k (Some (taken.Command incoming)) a pasts (ap (λ r. asked_in r ++ []) reads) refl each h
turn_command images history k incoming (Ok (progress token body)) a pasts reads next each h =
    turn_quiet images history k (Some (taken.Command incoming)) a pasts (ap (λ r. asked_in r ++ []) reads) refl each h
turn_command images history k incoming (Ok (not_known token)) a pasts reads next each h =
    turn_quiet images history k (Some (taken.Command incoming)) a pasts (ap (λ r. asked_in r ++ []) reads) refl each h
turn_command images history k incoming (Ok (event service name body)) a pasts reads next each h =
    turn_quiet images history k (Some (taken.Command incoming)) a pasts (ap (λ r. asked_in r ++ []) reads) refl each h
turn_command images history k incoming (Ok (flow level)) a pasts reads next each h =
    turn_quiet images history k (Some (taken.Command incoming)) a pasts (ap (λ r. asked_in r ++ []) reads) refl each h

turn_any : (images : List Image) (history : List Input) (k : ℕ) (next : Option (Taken Unit)) (a : AgentValue) (pasts : List Past) → next_of pasts k ≡ next → AllByRecursion (Both images history k next) pasts → Holds images a history pasts
    → HoldsTook images (took_any k next (took_end k a)) history (took_by k next a (on_one k (taking ∷ []) pasts))
unfolding took asked_next
turn_any images history k None a pasts is each h = turn_quiet images history k None a pasts refl refl each h
turn_any images history k (Some (taken.Hello incoming)) a pasts is each h = turn_quiet images history k (Some (taken.Hello incoming)) a pasts refl refl each h
turn_any images history k (Some (taken.Command incoming)) a pasts is each h = turn_command images history k incoming (reading incoming.raw) a pasts refl is each h
turn_any images history k (Some (taken.Event incoming)) a pasts is each h = turn_quiet images history k (Some (taken.Event incoming)) a pasts refl refl each h
turn_any images history k (Some (taken.Progress token incoming)) a pasts is each h = turn_quiet images history k (Some (taken.Progress token incoming)) a pasts refl refl each h
turn_any images history k (Some (taken.Final tag incoming)) a pasts is each h = turn_quiet images history k (Some (taken.Final tag incoming)) a pasts refl refl each h
turn_any images history k (Some (taken.Closed cause)) a pasts is each h = turn_closed images history k cause a pasts is each h

by_full : (full : Bool) (images : List Image) (history : List Input) (k : ℕ) (next : Option (Taken Unit)) (a : AgentValue) (pasts : List Past) → HoldsTook images (took_any k next (took_end k a)) history (took_by k next a (on_one k (taking ∷ []) pasts))
    → Holds images a history pasts → HoldsTook images (cond full (Nothing, a) (took_any k next (took_end k a))) history (cond full pasts (took_by k next a (on_one k (taking ∷ []) pasts)))
by_full true images history k next a pasts later h = subst (λ hs. Holds images a hs pasts) (sym (append-nil history)) h
by_full false images history k next a pasts later h = later

pub holds_turned : (images : List Image) (history : List Input) (k : ℕ) (a : AgentValue) (pasts : List Past) → Holds images a history pasts → HoldsTook images (turned k a) history (turned_by k a pasts)
holds_turned images history k a pasts h =
    let next = next_of pasts k in
    let each = all_both (Follows images history) (Takes k next) pasts h.each (each_next k pasts h.differ) in
    let is = turned_is k a (channels_differ h.stands h.differ) ∙ ap (λ n. cond (is_full a) (Nothing, a) (took_any k n (took_end k a))) (next_found k h.stands h.differ) in
    let P : Turned × AgentValue → Type 0 = λ done. HoldsTook images done history (turned_by k a pasts) in
    subst P (sym is) (by_full (is_full a) images history k next a pasts (turn_any images history k next a pasts refl each h) h)
