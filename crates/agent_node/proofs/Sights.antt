-- What a channel sees of calls makes it what it is.
use Rattle.std.proofs.Common.{◌≡◌, ℕ, ◌+◌, ◌-◌, ◌^◌, ◌==◌, Bool, true, false, cond, List, [], ◌∷◌, ◌++◌, length, map, Option, Some, None, Result, Ok, Err, refl, sym, ap, ◌∙◌, subst, append-nil, eqb-true}
use Rattle.std.specs.List.{filter}
use Rattle.std.proofs.lemmas.List.Elements.{filter-append}
use Rattle.channel_core.specs.Runs.{Call as EndCall, delivering, ending, putting_out, taking}
use Rattle.channel_core.specs.Taking.{next_taken}
use Rattle.channel_core.specs.declared.taking.Taken.{Taken}
use Rattle.channel_core.specs.declared.taking.Taken.TheVariants as taken
use Rattle.target_contexts.specs.declared.process.Image.{Image}
use Rattle.target_hub.specs.History.{inputs_after}
use Rattle.target_hub.specs.HubValue.{TargetValue, new_target}
use Rattle.target_hub.specs.declared.done.Done.{Done}
use Rattle.target_hub.specs.declared.input.Input.{Input}
use Rattle.target_hub.specs.declared.input.Input.TheVariants.{Closed, Executed, Opened, Ticked}
use Rattle.tcf_message.specs.Message.{MessageValue, command, event, final, flow, not_known, progress, reading}
use Rattle.tcf_message.specs.declared.message.MessageFault.{MessageFault}
use Rattle.tcf_values.specs.declared.event.EventData.{EventData}
use Rattle.tcf_values.specs.declared.ids.ContextId.{ContextId}
use Rattle.agent_node.specs.Agent.{asked as agent_asked, done_by, executed, going_tells, gone, instruction_tells, is_full, opened, read_as, ticked, ticked_by as agent_ticked, took, took_any, turned}
use Rattle.agent_node.specs.AgentValue.{AgentValue}
use Rattle.channel_list.specs.Numbers.{no_numbers}
use Rattle.agent_node.specs.Runs.{AgentRun, Call, Past, after_all, after_call, answer_calls, answered_by, asked_by, bytes_end, called, comes, event_call, gives, hearing, input_by, input_if, input_of, next_of, no_calls, on_number, on_one, on_open, opened_by, opens, run_of, ticked_by, ticks, took_by, turned_by, turns, unless_over, with_calls}
use Rattle.agent_node.specs.Sights.{SeesNothingElse, Sight, elsewhere, is_on, own, seen_by, seen_of}
use Rattle.agent_node.specs.declared.agent.Turned.{Turned}
use Rattle.agent_node.specs.declared.agent.Turned.TheVariants.{Nothing}
use Rattle.agent_node.proofs.Holding.{on_number_keeps, on_open_keeps}
use Rattle.agent_node.proofs.Places.{at, next_end, turned_is}
use Rattle.agent_node.proofs.Standing.{channels_differ, next_found}
use Rattle.agent_node.proofs.Truth.{HoldsRun, holds_all, holds_first}
use Rattle.channel_core.specs.Closing.{is_closed}
use Rattle.list_laws.proofs.AllLists.{all_each}
use Rattle.list_laws.proofs.Numbers.{other_number}
use Rattle.list_laws.proofs.Splits.{filter_each, filter_mapped}

-- ---- The pasts of one number

abbrev only : ℕ → List Past → List Past
only k pasts = filter (λ past. past.number == k) pasts

-- each changes, and keeps its number
only_mapped : (k : ℕ) (g : Past → Past) → ((past : Past) → (g past).number ≡ past.number) → (pasts : List Past) → only k (map g pasts) ≡ map g (only k pasts)
only_mapped k g keeps pasts =
    filter_mapped (λ past. past.number == k) g pasts
    ∙ ap (map g)
    (filter_each (λ past. (g past).number == k) (λ past. past.number == k) pasts
    (all_each (λ past. ((g past).number == k) ≡ (past.number == k)) pasts (λ past. ap (λ (n : ℕ). n == k) (keeps past))))

-- the others change
only_kept : (k : ℕ) (g : Past → Past) → ((past : Past) → (g past).number ≡ past.number) → ((past : Past) → (past.number == k) ≡ true → g past ≡ past)
    → (pasts : List Past) → only k (map g pasts) ≡ only k pasts
only_kept k g keeps same [] = refl
only_kept k g keeps same (past ∷ pasts) =
    ap (λ (n : ℕ). cond (n == k) (g past ∷ only k (map g pasts)) (only k (map g pasts))) (keeps past)
    ∙ by_flag (past.number == k) refl (only_kept k g keeps same pasts)
  where
    by_flag : (flag : Bool) → (past.number == k) ≡ flag → only k (map g pasts) ≡ only k pasts
        → cond flag (g past ∷ only k (map g pasts)) (only k (map g pasts)) ≡ cond flag (past ∷ only k pasts) (only k pasts)
    by_flag true is rest = ap (λ (p : Past). p ∷ only k (map g pasts)) (same past is) ∙ ap (λ (ps : List Past). past ∷ ps) rest
    by_flag false is rest = rest

only_more : (k : ℕ) (pasts : List Past) (past : Past) → only k (pasts ++ past ∷ []) ≡ only k pasts ++ cond (past.number == k) (past ∷ []) []
only_more k pasts past = filter-append (λ past. past.number == k) pasts (past ∷ [])

next_only : (k : ℕ) (pasts : List Past) → next_of (only k pasts) k ≡ next_of pasts k
next_only k [] = refl
next_only k (past ∷ pasts) = by_flag (past.number == k) refl (next_only k pasts)
  where
    by_flag : (flag : Bool) → (past.number == k) ≡ flag → next_of (only k pasts) k ≡ next_of pasts k
        → next_of (cond flag (past ∷ only k pasts) (only k pasts)) k ≡ cond flag (next_taken (run_of past).end).0 (next_of pasts k)
    by_flag true is rest = ap (λ (b : Bool). cond b (next_taken (run_of past).end).0 (next_of (only k pasts) k)) is
    by_flag false is rest = rest

-- ---- What changes another channel

not_named : (j k : ℕ) → (j == k) ≡ false → (past : Past) → (past.number == k) ≡ true → (past.number == j) ≡ false
not_named j k apart past is = ap (λ (n : ℕ). n == j) (eqb-true past.number k is) ∙ other_number j k apart

one_elsewhere : (j k : ℕ) → (j == k) ≡ false → (calls : List (EndCall Unit)) (pasts : List Past) → only k (on_one j calls pasts) ≡ only k pasts
one_elsewhere j k apart calls pasts =
    only_kept k (on_number j calls) (on_number_keeps j calls)
    (λ past is. ap (λ (b : Bool). cond b (with_calls calls past) past) (not_named j k apart past is)) pasts

open_elsewhere : (j k : ℕ) → (j == k) ≡ false → (calls : List (EndCall Unit)) (pasts : List Past) → only k (map (on_open j calls) pasts) ≡ only k pasts
open_elsewhere j k apart calls pasts =
    only_kept k (on_open j calls) (on_open_keeps j calls)
    (λ past is. ap (λ (b : Bool). cond b (unless_over (is_closed (run_of past).end.state) calls past) past) (not_named j k apart past is)) pasts

only_one : (k j : ℕ) (calls : List (EndCall Unit)) (pasts : List Past) → only k (on_one j calls pasts) ≡ on_one j calls (only k pasts)
only_one k j calls pasts = only_mapped k (on_number j calls) (on_number_keeps j calls) pasts

only_hearing : (k : ℕ) (events : List EventData) (position : ℕ) (pasts : List Past) → only k (hearing events position pasts) ≡ hearing events position (only k pasts)
only_hearing k events position pasts = only_mapped k (with_calls (map (event_call position) events)) (λ past. refl) pasts

only_asked : (k j : ℕ) (m : Result MessageValue MessageFault) (a : AgentValue) (pasts : List Past) → only k (asked_by j m a pasts) ≡ asked_by j m a (only k pasts)
only_asked k j (Ok (command token service name body)) a pasts =
    let done : Done = done_by j service name (read_as service name body) a.target in
    only_one k j (answer_calls token (a.position + 1) done) (hearing done.events (a.position + 1) pasts)
    ∙ ap (on_one j (answer_calls token (a.position + 1) done)) (only_hearing k done.events (a.position + 1) pasts)
only_asked k j (Ok (final token body)) a pasts = refl
only_asked k j (Ok (progress token body)) a pasts = refl
only_asked k j (Ok (not_known token)) a pasts = refl
only_asked k j (Ok (event service name body)) a pasts = refl
only_asked k j (Ok (flow level)) a pasts = refl
only_asked k j (Err fault) a pasts = refl

only_took : (k j : ℕ) (next : Option (Taken Unit)) (a : AgentValue) (pasts : List Past) → only k (took_by j next a pasts) ≡ took_by j next a (only k pasts)
only_took k j None a pasts = refl
only_took k j (Some (taken.Command incoming)) a pasts = only_asked k j (reading incoming.raw) a pasts
only_took k j (Some (taken.Closed cause)) a pasts = only_hearing k (going_tells j a.target) (a.position + 1) pasts
only_took k j (Some (taken.Hello incoming)) a pasts = refl
only_took k j (Some (taken.Event incoming)) a pasts = refl
only_took k j (Some (taken.Progress token incoming)) a pasts = refl
only_took k j (Some (taken.Final tag incoming)) a pasts = refl

-- ---- Only the target and the position of an agent count

record Alike (a b : AgentValue) : Type 0 where
  target : a.target ≡ b.target
  position : a.position ≡ b.position

asked_alike : (k : ℕ) (m : Result MessageValue MessageFault) (a b : AgentValue) (pasts : List Past) → Alike a b → asked_by k m a pasts ≡ asked_by k m b pasts
asked_alike k (Ok (command token service name body)) a b pasts same =
    ap (λ (n : ℕ). answered_by k token (n + 1) (done_by k service name (read_as service name body) a.target) pasts) same.position
    ∙ ap (λ (t : TargetValue). answered_by k token (b.position + 1) (done_by k service name (read_as service name body) t) pasts) same.target
asked_alike k (Ok (final token body)) a b pasts same = refl
asked_alike k (Ok (progress token body)) a b pasts same = refl
asked_alike k (Ok (not_known token)) a b pasts same = refl
asked_alike k (Ok (event service name body)) a b pasts same = refl
asked_alike k (Ok (flow level)) a b pasts same = refl
asked_alike k (Err fault) a b pasts same = refl

took_alike : (k : ℕ) (next : Option (Taken Unit)) (a b : AgentValue) (pasts : List Past) → Alike a b → took_by k next a pasts ≡ took_by k next b pasts
took_alike k None a b pasts same = refl
took_alike k (Some (taken.Command incoming)) a b pasts same = asked_alike k (reading incoming.raw) a b pasts same
took_alike k (Some (taken.Closed cause)) a b pasts same =
    ap (λ (n : ℕ). hearing (going_tells k a.target) (n + 1) pasts) same.position
    ∙ ap (λ (t : TargetValue). hearing (going_tells k t) (b.position + 1) pasts) same.target
took_alike k (Some (taken.Hello incoming)) a b pasts same = refl
took_alike k (Some (taken.Event incoming)) a b pasts same = refl
took_alike k (Some (taken.Progress token incoming)) a b pasts same = refl
took_alike k (Some (taken.Final tag incoming)) a b pasts same = refl

full_alike : (a b : AgentValue) → Alike a b → is_full a ≡ is_full b
full_alike a b same = ap (λ (n : ℕ). n == 2 ^ 64 - 1) same.position

-- ---- What is seen makes the history and the pasts of the number

record State : Type 0 where
  history : List Input
  pasts : List Past

abbrev state : List Input → List Past → State
state history pasts = record { history = history; pasts = pasts }

state_is : (history before : List Input) (pasts later : List Past) → history ≡ before → pasts ≡ later → state history pasts ≡ state before later
state_is history before pasts later one two = ap (λ (h : List Input). state h pasts) one ∙ ap (λ (ps : List Past). state before ps) two

abbrev target_at : List Image → List Input → TargetValue
target_at images history = inputs_after history (new_target images)

-- an agent after this history, of which nothing else is known
abbrev some_agent : List Image → List Input → AgentValue
some_agent images history = record { target = target_at images history; position = length history; numbers = no_numbers; channels = []; is_spent = false }

-- what the input of another call tells
abbrev heard_by : List Image → Input → List Input → List Past → List Past
heard_by images (Opened j) history pasts = pasts
heard_by images (Executed j read service name) history pasts = hearing (done_by j service name read (target_at images history)).events (length history + 1) pasts
heard_by images (Ticked thread) history pasts = ticked_by (instruction_tells thread (target_at images history)) (some_agent images history) pasts
heard_by images (Closed j) history pasts = hearing (going_tells j (target_at images history)) (length history + 1) pasts

abbrev any_of : List Input → Bool
any_of [] = false
any_of (made ∷ more) = true

-- what a call of its own does
abbrev done_own : List Image → Call → List Input → List Input → List Past → List Past
done_own images (opens j) inputs history pasts = opened_by (any_of inputs) j (some_agent images history) pasts
done_own images (comes j piece) inputs history pasts = map (on_open j (delivering piece None ∷ [])) pasts
done_own images (bytes_end j) inputs history pasts = on_one j (ending ∷ []) pasts
done_own images (turns j) inputs history pasts = turned_by j (some_agent images history) pasts
done_own images (ticks thread) inputs history pasts = pasts
done_own images (gives j) inputs history pasts = on_one j (putting_out ∷ []) pasts

abbrev saw : List Image → Sight → State → State
saw images (own call inputs) s = state (s.history ++ inputs) (done_own images call inputs s.history s.pasts)
saw images (elsewhere made) s = state (s.history ++ made ∷ []) (heard_by images made s.history s.pasts)

abbrev saw_all : List Image → List Sight → State → State
saw_all images [] s = s
saw_all images (sight ∷ sights) s = saw_all images sights (saw images sight s)

saw_more : (images : List Image) (sights more : List Sight) (s : State) → saw_all images (sights ++ more) s ≡ saw_all images more (saw_all images sights s)
saw_more images [] more s = refl
saw_more images (sight ∷ sights) more s = saw_more images sights more (saw images sight s)

-- ---- One call

-- what a call elsewhere with these inputs makes of the pasts
abbrev Elsewhere : List Image → List Input → List Input → List Past → List Past → Type 0
Elsewhere images inputs history pasts later =
    saw_all images (map (λ made. elsewhere made) inputs) (state history pasts) ≡ state (history ++ inputs) later

no_input : (images : List Image) (history : List Input) (pasts later : List Past) → later ≡ pasts → Elsewhere images [] history pasts later
no_input images history pasts later same = state_is history (history ++ []) pasts later (sym (append-nil history)) (sym same)

one_input : (images : List Image) (made : Input) (history : List Input) (pasts later : List Past) → heard_by images made history pasts ≡ later → Elsewhere images (made ∷ []) history pasts later
one_input images made history pasts later is = ap (λ (ps : List Past). state (history ++ made ∷ []) ps) is

by_place : (images : List Image) (is_own : Bool) (call : Call) (inputs history : List Input) (pasts later : List Past)
    → (is_own ≡ true → done_own images call inputs history pasts ≡ later) → (is_own ≡ false → Elsewhere images inputs history pasts later)
    → saw_all images (seen_of is_own call inputs) (state history pasts) ≡ state (history ++ inputs) later
by_place images true call inputs history pasts later mine theirs = ap (λ (ps : List Past). state (history ++ inputs) ps) (mine refl)
by_place images false call inputs history pasts later mine theirs = theirs refl

-- ---- A channel opens

opened_own : (images : List Image) (did : Bool) (j k : ℕ) (a : AgentValue) (history : List Input) (pasts : List Past) → a.position ≡ length history → (j == k) ≡ true
    → opened_by (any_of (input_if did (Opened j))) j (some_agent images history) (only k pasts) ≡ only k (opened_by did j a pasts)
opened_own images false j k a history pasts place is = refl
opened_own images true j k a history pasts place is =
    ap (λ (n : ℕ). only k pasts ++ record { number = j; position = n + 1; calls = [] } ∷ []) (sym place)
    ∙ sym (only_more k pasts (record { number = j; position = a.position + 1; calls = [] })
    ∙ ap (λ (b : Bool). only k pasts ++ cond b (record { number = j; position = a.position + 1; calls = [] } ∷ []) []) is)

opened_elsewhere : (images : List Image) (did : Bool) (j k : ℕ) (a : AgentValue) (history : List Input) (pasts : List Past) → (j == k) ≡ false
    → Elsewhere images (input_if did (Opened j)) history (only k pasts) (only k (opened_by did j a pasts))
opened_elsewhere images false j k a history pasts apart = no_input images history (only k pasts) (only k pasts) refl
opened_elsewhere images true j k a history pasts apart =
    let new : Past = record { number = j; position = a.position + 1; calls = [] } in
    one_input images (Opened j) history (only k pasts) (only k (pasts ++ new ∷ []))
    (sym (only_more k pasts new ∙ ap (λ (b : Bool). only k pasts ++ cond b (new ∷ []) []) apart ∙ append-nil (only k pasts)))

-- ---- An entry is taken

-- by the channel itself
taken_own : (images : List Image) (full : Bool) (k : ℕ) (a : AgentValue) (history : List Input) (pasts : List Past) → Alike a (some_agent images history)
    → cond full (only k pasts) (took_by k (next_of (only k pasts) k) (some_agent images history) (on_one k (taking ∷ []) (only k pasts)))
    ≡ only k (cond full pasts (took_by k (next_of pasts k) a (on_one k (taking ∷ []) pasts)))
taken_own images true k a history pasts same = refl
taken_own images false k a history pasts same =
    let b = some_agent images history in
    ap (λ (next : Option (Taken Unit)). took_by k next b (on_one k (taking ∷ []) (only k pasts))) (next_only k pasts)
    ∙ sym (took_alike k (next_of pasts k) a b (on_one k (taking ∷ []) (only k pasts)) same)
    ∙ ap (took_by k (next_of pasts k) a) (sym (only_one k k (taking ∷ []) pasts))
    ∙ sym (only_took k k (next_of pasts k) a (on_one k (taking ∷ []) pasts))

turned_own : (images : List Image) (j k : ℕ) (a : AgentValue) (history : List Input) (pasts : List Past) → Alike a (some_agent images history) → (j == k) ≡ true
    → turned_by j (some_agent images history) (only k pasts) ≡ only k (turned_by j a pasts)
turned_own images j k a history pasts same is =
    let b = some_agent images history in
    let at_k : turned_by k b (only k pasts) ≡ only k (turned_by k a pasts) =
    ap (λ (full : Bool). cond full (only k pasts) (took_by k (next_of (only k pasts) k) b (on_one k (taking ∷ []) (only k pasts)))) (sym (full_alike a b same))
    ∙ taken_own images (is_full a) k a history pasts same in
    subst (λ (n : ℕ). turned_by n b (only k pasts) ≡ only k (turned_by n a pasts)) (sym (eqb-true j k is)) at_k

-- by another one: what is heard of an input
heard_elsewhere : (j k : ℕ) (events : List EventData) (position : ℕ) (calls : List (EndCall Unit)) (pasts : List Past) → (j == k) ≡ false
    → hearing events position (only k pasts) ≡ only k (hearing events position (on_one j calls pasts))
heard_elsewhere j k events position calls pasts apart =
    sym (only_hearing k events position (on_one j calls pasts) ∙ ap (hearing events position) (one_elsewhere j k apart calls pasts))

answered_elsewhere : (j k : ℕ) (token : List ℕ) (position : ℕ) (done : Done) (calls : List (EndCall Unit)) (pasts : List Past) → (j == k) ≡ false
    → hearing done.events position (only k pasts) ≡ only k (answered_by j token position done (on_one j calls pasts))
answered_elsewhere j k token position done calls pasts apart =
    heard_elsewhere j k done.events position calls pasts apart
    ∙ sym (one_elsewhere j k apart (answer_calls token position done) (hearing done.events position (on_one j calls pasts)))

asked_elsewhere : (images : List Image) (j k : ℕ) (m : Result MessageValue MessageFault) (a next : AgentValue) (history : List Input) (pasts : List Past)
    → Alike a (some_agent images history) → (j == k) ≡ false
    → Elsewhere images (input_of (agent_asked j m next).0) history (only k pasts) (only k (asked_by j m a (on_one j (taking ∷ []) pasts)))
unfolding agent_asked executed
asked_elsewhere images j k (Ok (command token service name body)) a next history pasts same apart =
    let read = read_as service name body in
    one_input images (Executed j read service name) history (only k pasts) (only k (asked_by j (Ok (command token service name body)) a (on_one j (taking ∷ []) pasts)))
    (ap (λ (n : ℕ). hearing (done_by j service name read (target_at images history)).events (n + 1) (only k pasts)) (sym same.position)
    ∙ ap (λ (t : TargetValue). hearing (done_by j service name read t).events (a.position + 1) (only k pasts)) (sym same.target)
    ∙ answered_elsewhere j k token (a.position + 1) (done_by j service name read a.target) (taking ∷ []) pasts apart)
asked_elsewhere images j k (Ok (final token body)) a next history pasts same apart = no_input images history (only k pasts) _ (one_elsewhere j k apart (taking ∷ []) pasts)
asked_elsewhere images j k (Ok (progress token body)) a next history pasts same apart = no_input images history (only k pasts) _ (one_elsewhere j k apart (taking ∷ []) pasts)
asked_elsewhere images j k (Ok (not_known token)) a next history pasts same apart = no_input images history (only k pasts) _ (one_elsewhere j k apart (taking ∷ []) pasts)
asked_elsewhere images j k (Ok (event service name body)) a next history pasts same apart = no_input images history (only k pasts) _ (one_elsewhere j k apart (taking ∷ []) pasts)
asked_elsewhere images j k (Ok (flow level)) a next history pasts same apart = no_input images history (only k pasts) _ (one_elsewhere j k apart (taking ∷ []) pasts)
asked_elsewhere images j k (Err fault) a next history pasts same apart = no_input images history (only k pasts) _ (one_elsewhere j k apart (taking ∷ []) pasts)

took_elsewhere : (images : List Image) (j k : ℕ) (what : Option (Taken Unit)) (a next : AgentValue) (history : List Input) (pasts : List Past)
    → Alike a (some_agent images history) → (j == k) ≡ false
    → Elsewhere images (input_of (took_any j what next).0) history (only k pasts) (only k (took_by j what a (on_one j (taking ∷ []) pasts)))
unfolding took gone
took_elsewhere images j k None a next history pasts same apart = no_input images history (only k pasts) _ (one_elsewhere j k apart (taking ∷ []) pasts)
took_elsewhere images j k (Some (taken.Command incoming)) a next history pasts same apart = asked_elsewhere images j k (reading incoming.raw) a next history pasts same apart
took_elsewhere images j k (Some (taken.Closed cause)) a next history pasts same apart =
    one_input images (Closed j) history (only k pasts) (only k (hearing (going_tells j a.target) (a.position + 1) (on_one j (taking ∷ []) pasts)))
    (ap (λ (n : ℕ). hearing (going_tells j (target_at images history)) (n + 1) (only k pasts)) (sym same.position)
    ∙ ap (λ (t : TargetValue). hearing (going_tells j t) (a.position + 1) (only k pasts)) (sym same.target)
    ∙ heard_elsewhere j k (going_tells j a.target) (a.position + 1) (taking ∷ []) pasts apart)
took_elsewhere images j k (Some (taken.Hello incoming)) a next history pasts same apart = no_input images history (only k pasts) _ (one_elsewhere j k apart (taking ∷ []) pasts)
took_elsewhere images j k (Some (taken.Event incoming)) a next history pasts same apart = no_input images history (only k pasts) _ (one_elsewhere j k apart (taking ∷ []) pasts)
took_elsewhere images j k (Some (taken.Progress token incoming)) a next history pasts same apart = no_input images history (only k pasts) _ (one_elsewhere j k apart (taking ∷ []) pasts)
took_elsewhere images j k (Some (taken.Final tag incoming)) a next history pasts same apart = no_input images history (only k pasts) _ (one_elsewhere j k apart (taking ∷ []) pasts)

unless_full : (images : List Image) (full : Bool) (j k : ℕ) (what : Option (Taken Unit)) (a next : AgentValue) (history : List Input) (pasts : List Past)
    → Alike a (some_agent images history) → (j == k) ≡ false
    → Elsewhere images (input_of (cond full (Nothing, a) (took_any j what next)).0) history (only k pasts) (only k (cond full pasts (took_by j what a (on_one j (taking ∷ []) pasts))))
unless_full images true j k what a next history pasts same apart = no_input images history (only k pasts) (only k pasts) refl
unless_full images false j k what a next history pasts same apart = took_elsewhere images j k what a next history pasts same apart

turned_elsewhere : (images : List Image) (j k : ℕ) (r : AgentRun) → HoldsRun images r → Alike r.agent (some_agent images r.history) → (j == k) ≡ false
    → Elsewhere images (input_of (turned j r.agent).0) r.history (only k r.channels) (only k (turned_by j r.agent r.channels))
turned_elsewhere images j k r h same apart =
    let a = r.agent in
    let next : AgentValue = record a { channels = map (at j next_end) a.channels } in
    let is = turned_is j a (channels_differ h.stands h.differ) ∙ ap (λ what. cond (is_full a) (Nothing, a) (took_any j what next)) (next_found j h.stands h.differ) in
    let P : Turned × AgentValue → Type 0 = λ did. Elsewhere images (input_of did.0) r.history (only k r.channels) (only k (turned_by j a r.channels)) in
    subst P (sym is) (unless_full images (is_full a) j k (next_of r.channels j) a next r.history r.channels same apart)

-- ---- An instruction

told_elsewhere : (images : List Image) (k : ℕ) (thread : ContextId) (told : Option (List EventData)) (a : AgentValue) (history : List Input) (pasts : List Past)
    → instruction_tells thread a.target ≡ told → Alike a (some_agent images history)
    → Elsewhere images (input_if (agent_ticked thread told a).0 (Ticked thread)) history (only k pasts) (only k (ticked_by told a pasts))
told_elsewhere images k thread None a history pasts is same = no_input images history (only k pasts) (only k pasts) refl
told_elsewhere images k thread (Some events) a history pasts is same =
    let tells : instruction_tells thread (target_at images history) ≡ Some events = ap (instruction_tells thread) (sym same.target) ∙ is in
    one_input images (Ticked thread) history (only k pasts) (only k (hearing events (a.position + 1) pasts))
    (ap (λ (es : Option (List EventData)). ticked_by es (some_agent images history) (only k pasts)) tells
    ∙ ap (λ (n : ℕ). hearing events (n + 1) (only k pasts)) (sym same.position)
    ∙ sym (only_hearing k events (a.position + 1) pasts))

ticked_elsewhere : (images : List Image) (full : Bool) (k : ℕ) (thread : ContextId) (a : AgentValue) (history : List Input) (pasts : List Past) → Alike a (some_agent images history)
    → Elsewhere images (input_if (cond full (false, a) (agent_ticked thread (instruction_tells thread a.target) a)).0 (Ticked thread)) history (only k pasts)
    (only k (cond full pasts (ticked_by (instruction_tells thread a.target) a pasts)))
ticked_elsewhere images true k thread a history pasts same = no_input images history (only k pasts) (only k pasts) refl
ticked_elsewhere images false k thread a history pasts same = told_elsewhere images k thread (instruction_tells thread a.target) a history pasts refl same

-- ---- Any calls

abbrev seen_at : ℕ → AgentRun → State
seen_at k r = state r.history (only k r.channels)

sees_call : (images : List Image) (k : ℕ) (call : Call) (r : AgentRun) → HoldsRun images r
    → saw_all images (seen_of (is_on k call) call (input_by call r.agent)) (seen_at k r) ≡ seen_at k (after_call call r)
unfolding ticked
sees_call images k (opens j) r h =
    let did = (opened j r.agent).0 in
    by_place images (j == k) (opens j) (input_if did (Opened j)) r.history (only k r.channels) (only k (opened_by did j r.agent r.channels))
    (opened_own images did j k r.agent r.history r.channels h.position) (opened_elsewhere images did j k r.agent r.history r.channels)
sees_call images k (comes j piece) r h =
    let calls : List (EndCall Unit) = delivering piece None ∷ [] in
    by_place images (j == k) (comes j piece) [] r.history (only k r.channels) (only k (map (on_open j calls) r.channels))
    (λ is. sym (only_mapped k (on_open j calls) (on_open_keeps j calls) r.channels))
    (λ apart. no_input images r.history (only k r.channels) (only k (map (on_open j calls) r.channels)) (open_elsewhere j k apart calls r.channels))
sees_call images k (bytes_end j) r h =
    by_place images (j == k) (bytes_end j) [] r.history (only k r.channels) (only k (on_one j (ending ∷ []) r.channels))
    (λ is. sym (only_one k j (ending ∷ []) r.channels))
    (λ apart. no_input images r.history (only k r.channels) (only k (on_one j (ending ∷ []) r.channels)) (one_elsewhere j k apart (ending ∷ []) r.channels))
sees_call images k (turns j) r h =
    let same : Alike r.agent (some_agent images r.history) = record { target = h.target; position = h.position } in
    by_place images (j == k) (turns j) (input_of (turned j r.agent).0) r.history (only k r.channels) (only k (turned_by j r.agent r.channels))
    (turned_own images j k r.agent r.history r.channels same) (turned_elsewhere images j k r h same)
sees_call images k (ticks thread) r h =
    ticked_elsewhere images (is_full r.agent) k thread r.agent r.history r.channels (record { target = h.target; position = h.position })
sees_call images k (gives j) r h =
    by_place images (j == k) (gives j) [] r.history (only k r.channels) (only k (on_one j (putting_out ∷ []) r.channels))
    (λ is. sym (only_one k j (putting_out ∷ []) r.channels))
    (λ apart. no_input images r.history (only k r.channels) (only k (on_one j (putting_out ∷ []) r.channels)) (one_elsewhere j k apart (putting_out ∷ []) r.channels))

sees_calls : (images : List Image) (k : ℕ) (calls : List Call) (r : AgentRun) → HoldsRun images r
    → saw_all images (seen_by k calls r.agent) (seen_at k r) ≡ seen_at k (after_all calls r)
sees_calls images k [] r h = refl
sees_calls images k (call ∷ calls) r h =
    let later = seen_by k calls (called call r.agent) in
    saw_more images (seen_of (is_on k call) call (input_by call r.agent)) later (seen_at k r)
    ∙ ap (saw_all images later) (sees_call images k call r h)
    ∙ sees_calls images k calls (after_call call r) (holds_all images (call ∷ []) r h)

-- ---- The law

pub sees_nothing_else : SeesNothingElse
sees_nothing_else images calls others k same =
    let first = no_calls images in
    ap (λ (s : State). s.pasts)
    (sym (sees_calls images k calls first (holds_first images))
    ∙ ap (λ (sights : List Sight). saw_all images sights (seen_at k first)) same
    ∙ sees_calls images k others first (holds_first images))
