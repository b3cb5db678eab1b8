-- What an agent gives out on a channel is what its end put out, and so it is what the history tells.
use Rattle.std.proofs.Common.{◌≡◌, ℕ, ◌+◌, ◌==◌, Bool, true, false, ◌||◌, cond, List, [], ◌∷◌, ◌++◌, map, Option, Some, None, refl, sym, ap, ◌∙◌, append_assoc, append-nil, eqb-true, eq-eqb}
use Rattle.std.specs.Prelude.{option_to_list, slice_get, Result, Ok, Err}
use Rattle.std.specs.List.{AllByRecursion, filter, list_any}
use Rattle.std.proofs.lemmas.Bool.{false≢true, or_parts}
use Rattle.std.proofs.lemmas.List.Folds.{list_any-append}
use Rattle.channel_core.specs.Closing.{is_closed}
use Rattle.channel_core.specs.EndValue.{unless_spent}
use Rattle.channel_core.specs.Laws.{listed}
use Rattle.channel_core.specs.QueueLaws.{is_message}
use Rattle.channel_core.specs.Runs.{Call as EndCall, Run, after_call as after_end_call, after_calls, closing, commanding, delivering, draining, ending, putting_out, sending, taking}
use Rattle.channel_core.specs.declared.held.Outgoing.{Outgoing}
use Rattle.channel_core.specs.declared.taking.Taken.{Taken}
use Rattle.channel_core.specs.declared.taking.Taken.TheVariants as taken
use Rattle.channel_core.proofs.TheLaws.{queues_in_order}
use Rattle.tcf_message.specs.Message.{MessageValue, command, event, final, flow, not_known, progress, reading}
use Rattle.tcf_message.specs.declared.message.MessageFault.{MessageFault}
use Rattle.target_contexts.specs.declared.process.Image.{Image}
use Rattle.target_hub.specs.Sent.{agent_services}
use Rattle.target_hub.specs.declared.done.Done.{Done}
use Rattle.tcf_values.specs.declared.event.EventData.{EventData}
use Rattle.list_laws.proofs.AllLists.{all_both}
use Rattle.list_laws.proofs.Numbers.{other_number}
use Rattle.agent_node.specs.Agent.{done_by, first_of, given, going_tells, instruction_tells, is_full, new_agent, opened, read_as}
use Rattle.agent_node.specs.AgentLaws.{FollowsHistory}
use Rattle.agent_node.specs.AgentValue.{AgentValue}
use Rattle.agent_node.specs.Runs.{AgentRun, Call, Past, after_all, after_call, answer_calls, answer_of, asked_by, bytes_end, comes, event_call, gives, hearing, next_of, no_calls, on_all, on_number, on_one, on_open, opened_by, opens, pasts_by, progress_call, run_of, ticked_by, ticks, took_by, turns, unless_over, with_calls}
use Rattle.channel_list.specs.declared.channel.Channel.{Channel}
use Rattle.agent_node.proofs.Calls.{run_more}
use Rattle.channel_list.proofs.Differing.{Differ, all_apart, has}
use Rattle.agent_node.proofs.Holding.{on_number_keeps, on_open_keeps}
use Rattle.agent_node.proofs.Places.{found, none_found, place_found}
use Rattle.agent_node.proofs.Standing.{Stands, forgotten, no_more, none_stands, past_number, run_unspent, shown}
use Rattle.agent_node.proofs.TheLaws.{agent_tells_the_truth}
use Rattle.agent_node.proofs.Truth.{HoldsRun, holds_all, holds_first}
use Rattle.agent_serving.proofs.CallLists.{run_agent}
use Rattle.agent_serving.specs.Served.{GivesWhatIsTold, TellsItsHistory, given_by, given_out, run_by}

-- what the first past of a number put out
abbrev pub given_in : ℕ → List Past → List Outgoing
given_in k [] = []
given_in k (past ∷ pasts) = cond (past.number == k) (run_of past).past.given (given_in k pasts)

-- ---- calls of an end that put out nothing

abbrev is_giving : EndCall Unit → Bool
is_giving (delivering piece mark) = false
is_giving ending = false
is_giving taking = false
is_giving (commanding service name body tag mark) = false
is_giving (sending message mark) = false
is_giving putting_out = true
is_giving closing = false
is_giving draining = false

one_gives_none : (call : EndCall Unit) (r : Run Unit) → is_giving call ≡ false → (after_end_call call r).past.given ≡ r.past.given
one_gives_none (delivering piece mark) r isnt = refl
one_gives_none ending r isnt = refl
one_gives_none taking r isnt = refl
one_gives_none (commanding service name body tag mark) r isnt = refl
one_gives_none (sending message mark) r isnt = refl
one_gives_none putting_out r isnt = absurd (false≢true (sym isnt))
one_gives_none closing r isnt = refl
one_gives_none draining r isnt = refl

nothing_given : (calls : List (EndCall Unit)) (r : Run Unit) → list_any is_giving calls ≡ false → (after_calls calls r).past.given ≡ r.past.given
nothing_given [] r none = refl
nothing_given (call ∷ calls) r none =
    let parts = or_parts (is_giving call) (list_any is_giving calls) none in
    nothing_given calls (after_end_call call r) parts.1 ∙ one_gives_none call r parts.0

quiet_calls : (calls : List (EndCall Unit)) → list_any is_giving calls ≡ false → (past : Past) → (run_of (with_calls calls past)).past.given ≡ (run_of past).past.given
quiet_calls calls none past = ap (λ (r : Run Unit). r.past.given) (run_more calls past) ∙ nothing_given calls (run_of past) none

-- ---- all pasts change, and put out nothing

record IsQuiet (g : Past → Past) (past : Past) : Type 0 where
  number : (g past).number ≡ past.number
  given_same : (run_of (g past)).past.given ≡ (run_of past).past.given

quiet_mapped : (k : ℕ) (g : Past → Past) → ((past : Past) → IsQuiet g past) → (pasts : List Past) → given_in k (map g pasts) ≡ given_in k pasts
quiet_mapped k g each [] = refl
quiet_mapped k g each (past ∷ pasts) =
    ap (λ (n : ℕ). cond (n == k) (run_of (g past)).past.given (given_in k (map g pasts))) (each past).number
    ∙ ap (λ (outs : List Outgoing). cond (past.number == k) outs (given_in k (map g pasts))) (each past).given_same
    ∙ ap (λ (outs : List Outgoing). cond (past.number == k) (run_of past).past.given outs) (quiet_mapped k g each pasts)

quiet_by : (flag : Bool) (calls : List (EndCall Unit)) (past : Past) → list_any is_giving calls ≡ false → (run_of (cond flag (with_calls calls past) past)).past.given ≡ (run_of past).past.given
quiet_by true calls past none = quiet_calls calls none past
quiet_by false calls past none = refl

quiet_one : (k j : ℕ) (calls : List (EndCall Unit)) (pasts : List Past) → list_any is_giving calls ≡ false → given_in k (on_one j calls pasts) ≡ given_in k pasts
quiet_one k j calls pasts none =
    quiet_mapped k (on_number j calls) (λ past. record { number = on_number_keeps j calls past; given_same = quiet_by (past.number == j) calls past none }) pasts

open_by : (flag over : Bool) (calls : List (EndCall Unit)) (past : Past) → list_any is_giving calls ≡ false → (run_of (cond flag (unless_over over calls past) past)).past.given ≡ (run_of past).past.given
open_by true true calls past none = refl
open_by true false calls past none = quiet_calls calls none past
open_by false over calls past none = refl

quiet_open : (k j : ℕ) (calls : List (EndCall Unit)) (pasts : List Past) → list_any is_giving calls ≡ false → given_in k (map (on_open j calls) pasts) ≡ given_in k pasts
quiet_open k j calls pasts none =
    quiet_mapped k (on_open j calls)
    (λ past. record { number = on_open_keeps j calls past; given_same = open_by (past.number == j) (is_closed (run_of past).end.state) calls past none }) pasts

quiet_all : (k : ℕ) (calls : List (EndCall Unit)) (pasts : List Past) → list_any is_giving calls ≡ false → given_in k (on_all calls pasts) ≡ given_in k pasts
quiet_all k calls pasts none = quiet_mapped k (with_calls calls) (λ past. record { number = refl; given_same = quiet_calls calls none past }) pasts

-- ---- what an input tells

events_quiet : (events : List EventData) (position : ℕ) → list_any is_giving (map (event_call position) events) ≡ false
events_quiet [] position = refl
events_quiet (told ∷ events) position = events_quiet events position

quiet_hearing : (k : ℕ) (events : List EventData) (position : ℕ) (pasts : List Past) → given_in k (hearing events position pasts) ≡ given_in k pasts
quiet_hearing k events position pasts = quiet_all k (map (event_call position) events) pasts (events_quiet events position)

progress_quiet : (token : List ℕ) (position : ℕ) (addresses : List ℕ) → list_any is_giving (map (progress_call token position) addresses) ≡ false
progress_quiet token position [] = refl
progress_quiet token position (address ∷ addresses) = progress_quiet token position addresses

answers_quiet : (token : List ℕ) (position : ℕ) (done : Done) → list_any is_giving (answer_calls token position done) ≡ false
answers_quiet token position done =
    list_any-append is_giving (map (progress_call token position) done.progress) (sending (answer_of token done.answer) (Some position) ∷ []) ∙ ap (λ b. b || false) (progress_quiet token position done.progress)

quiet_asked : (k j : ℕ) (m : Result MessageValue MessageFault) (a : AgentValue) (pasts : List Past) → given_in k (asked_by j m a pasts) ≡ given_in k pasts
quiet_asked k j (Ok (command token service name body)) a pasts =
    let done : Done = done_by j service name (read_as service name body) a.target in
    quiet_one k j (answer_calls token (a.position + 1) done) (hearing done.events (a.position + 1) pasts) (answers_quiet token (a.position + 1) done)
    ∙ quiet_hearing k done.events (a.position + 1) pasts
quiet_asked k j (Ok (final token body)) a pasts = refl
quiet_asked k j (Ok (progress token body)) a pasts = refl
quiet_asked k j (Ok (not_known token)) a pasts = refl
quiet_asked k j (Ok (event service name body)) a pasts = refl
quiet_asked k j (Ok (flow level)) a pasts = refl
quiet_asked k j (Err fault) a pasts = refl

quiet_took : (k j : ℕ) (next : Option (Taken Unit)) (a : AgentValue) (pasts : List Past) → given_in k (took_by j next a pasts) ≡ given_in k pasts
quiet_took k j None a pasts = refl
quiet_took k j (Some (taken.Command incoming)) a pasts = quiet_asked k j (reading incoming.raw) a pasts
quiet_took k j (Some (taken.Closed cause)) a pasts = quiet_hearing k (going_tells j a.target) (a.position + 1) pasts
quiet_took k j (Some (taken.Hello incoming)) a pasts = refl
quiet_took k j (Some (taken.Event incoming)) a pasts = refl
quiet_took k j (Some (taken.Progress token incoming)) a pasts = refl
quiet_took k j (Some (taken.Final tag incoming)) a pasts = refl

quiet_turned : (full : Bool) (k j : ℕ) (a : AgentValue) (pasts : List Past)
    → given_in k (cond full pasts (took_by j (next_of pasts j) a (on_one j (taking ∷ []) pasts))) ≡ given_in k pasts
quiet_turned true k j a pasts = refl
quiet_turned false k j a pasts = quiet_took k j (next_of pasts j) a (on_one j (taking ∷ []) pasts) ∙ quiet_one k j (taking ∷ []) pasts refl

quiet_told : (k : ℕ) (events : Option (List EventData)) (a : AgentValue) (pasts : List Past) → given_in k (ticked_by events a pasts) ≡ given_in k pasts
quiet_told k None a pasts = refl
quiet_told k (Some events) a pasts = quiet_hearing k events (a.position + 1) pasts

quiet_ticked : (full : Bool) (k : ℕ) (events : Option (List EventData)) (a : AgentValue) (pasts : List Past) → given_in k (cond full pasts (ticked_by events a pasts)) ≡ given_in k pasts
quiet_ticked true k events a pasts = refl
quiet_ticked false k events a pasts = quiet_told k events a pasts

-- ---- a channel opens: nothing was put out on it yet

last_quiet : (k : ℕ) (past : Past) (pasts : List Past) → (run_of past).past.given ≡ [] → given_in k (pasts ++ past ∷ []) ≡ given_in k pasts
last_quiet k past [] none = by_flag (past.number == k)
  where
    by_flag : (flag : Bool) → cond flag (run_of past).past.given [] ≡ []
    by_flag true = none
    by_flag false = refl
last_quiet k past (other ∷ pasts) none = ap (λ (outs : List Outgoing). cond (other.number == k) (run_of other).past.given outs) (last_quiet k past pasts none)

quiet_opened : (did : Bool) (k j : ℕ) (a : AgentValue) (pasts : List Past) → given_in k (opened_by did j a pasts) ≡ given_in k pasts
quiet_opened true k j a pasts = last_quiet k _ pasts refl
quiet_opened false k j a pasts = refl

-- ---- the end of the channel puts out what the agent gives

abbrev first_in : ℕ → List Past → Option Outgoing
first_in k [] = None
first_in k (past ∷ pasts) = cond (past.number == k) (slice_get (run_of past).end.queued 0) (first_in k pasts)

abbrev giving_on : ℕ → Past → Past
giving_on j past = on_number j (putting_out ∷ []) past

-- on another channel
given_elsewhere : (k j : ℕ) → (j == k) ≡ false → (pasts : List Past) → given_in k (on_one j (putting_out ∷ []) pasts) ≡ given_in k pasts
given_elsewhere k j apart [] = refl
given_elsewhere k j apart (past ∷ pasts) = by_flag (past.number == k) refl (given_elsewhere k j apart pasts)
  where
    by_flag : (flag : Bool) → (past.number == k) ≡ flag → given_in k (on_one j (putting_out ∷ []) pasts) ≡ given_in k pasts
        → given_in k (on_one j (putting_out ∷ []) (past ∷ pasts)) ≡ given_in k (past ∷ pasts)
    by_flag true is rest =
        let isnt : (past.number == j) ≡ false = ap (λ (n : ℕ). n == j) (eqb-true past.number k is) ∙ other_number j k apart in
        ap (λ (b : Bool). given_in k (cond b (with_calls (putting_out ∷ []) past) past ∷ on_one j (putting_out ∷ []) pasts)) isnt
        ∙ ap (λ (outs : List Outgoing). cond (past.number == k) (run_of past).past.given outs) rest
    by_flag false is rest =
        ap (λ (n : ℕ). cond (n == k) (run_of (giving_on j past)).past.given (given_in k (on_one j (putting_out ∷ []) pasts))) (on_number_keeps j (putting_out ∷ []) past)
        ∙ ap (λ (b : Bool). cond b (run_of (giving_on j past)).past.given (given_in k (on_one j (putting_out ∷ []) pasts))) is
        ∙ rest ∙ sym (ap (λ (b : Bool). cond b (run_of past).past.given (given_in k pasts)) is)

given_here : (k : ℕ) (pasts : List Past) → given_in k (on_one k (putting_out ∷ []) pasts) ≡ given_in k pasts ++ listed (first_in k pasts)
given_here k [] = refl
given_here k (past ∷ pasts) = by_flag (past.number == k) refl (given_here k pasts)
  where
    by_flag : (flag : Bool) → (past.number == k) ≡ flag → given_in k (on_one k (putting_out ∷ []) pasts) ≡ given_in k pasts ++ listed (first_in k pasts)
        → given_in k (cond flag (with_calls (putting_out ∷ []) past) past ∷ on_one k (putting_out ∷ []) pasts)
        ≡ cond flag (run_of past).past.given (given_in k pasts) ++ listed (cond flag (slice_get (run_of past).end.queued 0) (first_in k pasts))
    by_flag true is rest =
        ap (λ (b : Bool). cond b (run_of (with_calls (putting_out ∷ []) past)).past.given (given_in k (on_one k (putting_out ∷ []) pasts))) is
        ∙ ap (λ (r : Run Unit). r.past.given) (run_more (putting_out ∷ []) past)
    by_flag false is rest = ap (λ (b : Bool). cond b (run_of past).past.given (given_in k (on_one k (putting_out ∷ []) pasts))) is ∙ rest

first_found : (k : ℕ) → {cs : List Channel} {pasts : List Past} → Stands cs pasts → Differ past_number pasts → first_of (found k cs) ≡ first_in k pasts
first_found k no_more d = refl
first_found k (shown c past cs pasts number end rest) d =
    ap (λ n. first_of (cond (n == k) (Some c) (found k cs))) number ∙ by_flag (past.number == k) (first_found k rest d.1)
  where
    by_flag : (flag : Bool) → first_of (found k cs) ≡ first_in k pasts → first_of (cond flag (Some c) (found k cs)) ≡ cond flag (slice_get (run_of past).end.queued 0) (first_in k pasts)
    by_flag true later =
        ap (λ e. unless_spent e None (slice_get e.queued 0)) end ∙ ap (λ (b : Bool). cond b None (slice_get (run_of past).end.queued 0)) (run_unspent past)
    by_flag false later = later
first_found k (forgotten past cs pasts gone rest) d = by_flag (past.number == k) refl (first_found k rest d.1)
  where
    by_flag : (flag : Bool) → (past.number == k) ≡ flag → first_of (found k cs) ≡ first_in k pasts → first_of (found k cs) ≡ cond flag (slice_get (run_of past).end.queued 0) (first_in k pasts)
    by_flag true is later =
        let same : past.number ≡ k = eqb-true past.number k is in
        ap first_of (none_found k cs (none_stands k rest (ap (λ (n : ℕ). has past_number n pasts) (sym same) ∙ d.0)))
        ∙ sym (ap (λ (outs : List Outgoing). slice_get outs 0) gone.empty)
    by_flag false is later = later

given_found : (images : List Image) (k : ℕ) (r : AgentRun) → HoldsRun images r → given k r.agent ≡ first_in k r.channels
unfolding given
given_found images k r h = ap first_of (place_found k r.agent.channels) ∙ first_found k h.stands h.differ

as_list : (o : Option Outgoing) → listed o ≡ option_to_list o
as_list None = refl
as_list (Some out) = refl

given_there : (images : List Image) (same : Bool) (k j : ℕ) (r : AgentRun) → (j == k) ≡ same → HoldsRun images r
    → given_in k (on_one j (putting_out ∷ []) r.channels) ≡ given_in k r.channels ++ cond same (option_to_list (given j r.agent)) []
given_there images false k j r is h = given_elsewhere k j is r.channels ∙ sym (append-nil (given_in k r.channels))
given_there images true k j r is h =
    let at : j ≡ k = eqb-true j k is in
    ap (λ (n : ℕ). given_in k (on_one n (putting_out ∷ []) r.channels)) at ∙ given_here k r.channels
    ∙ ap (λ (outs : List Outgoing). given_in k r.channels ++ outs)
    (as_list (first_in k r.channels) ∙ ap (λ (o : Option Outgoing). option_to_list o) (sym (given_found images k r h)) ∙ ap (λ (n : ℕ). option_to_list (given n r.agent)) (sym at))

-- ---- any calls

by_call : (images : List Image) (k : ℕ) (call : Call) (r : AgentRun) → HoldsRun images r → given_in k (pasts_by call r.agent r.channels) ≡ given_in k r.channels ++ given_by k call r.agent
by_call images k (opens j) r h = quiet_opened (opened j r.agent).0 k j r.agent r.channels ∙ sym (append-nil (given_in k r.channels))
by_call images k (comes j piece) r h = quiet_open k j (delivering piece None ∷ []) r.channels refl ∙ sym (append-nil (given_in k r.channels))
by_call images k (bytes_end j) r h = quiet_one k j (ending ∷ []) r.channels refl ∙ sym (append-nil (given_in k r.channels))
by_call images k (turns j) r h = quiet_turned (is_full r.agent) k j r.agent r.channels ∙ sym (append-nil (given_in k r.channels))
by_call images k (ticks thread) r h =
    quiet_ticked (is_full r.agent) k (instruction_tells thread r.agent.target) r.agent r.channels ∙ sym (append-nil (given_in k r.channels))
by_call images k (gives j) r h = given_there images (j == k) k j r refl h

pub by_calls : (images : List Image) (k : ℕ) (calls : List Call) (r : AgentRun) → HoldsRun images r → given_in k (after_all calls r).channels ≡ given_in k r.channels ++ given_out k calls r.agent
by_calls images k [] r h = sym (append-nil (given_in k r.channels))
by_calls images k (call ∷ calls) r h =
    by_calls images k calls (after_call call r) (holds_all images (call ∷ []) r h)
    ∙ ap (λ (outs : List Outgoing). outs ++ given_out k calls (after_call call r).agent) (by_call images k call r h)
    ∙ append_assoc (given_in k r.channels) (given_by k call r.agent) (given_out k calls (after_call call r).agent)

-- ---- so it tells its history

each_given : (pasts : List Past) → Differ past_number pasts → AllByRecursion (λ past. given_in past.number pasts ≡ (run_of past).past.given) pasts
each_given [] d = tt
each_given (past ∷ pasts) d = (
  ap (λ (b : Bool). cond b (run_of past).past.given (given_in past.number pasts)) (eq-eqb past.number past.number refl),
  all_apart past_number (λ other. given_in other.number pasts ≡ (run_of other).past.given) (λ other. given_in other.number (past ∷ pasts) ≡ (run_of other).past.given) past.number
      (λ other apart is. ap (λ (b : Bool). cond b (run_of past).past.given (given_in other.number pasts)) (other_number other.number past.number apart) ∙ is)
      pasts d.0 (each_given pasts d.1),
)

one_tells : (images : List Image) (calls : List Call) (past : Past) → given_in past.number (run_by images calls).channels ≡ (run_of past).past.given
    → FollowsHistory images (run_by images calls).history past → GivesWhatIsTold images calls past
one_tells images calls past is follows =
    let put_out : given_out past.number calls (new_agent images) ≡ (run_of past).past.given =
    sym (by_calls images past.number calls (no_calls images) (holds_first images)) ∙ is in
    ap (λ (outs : List Outgoing). filter is_message (outs ++ (run_of past).end.queued)) put_out
    ∙ ap (filter is_message) (queues_in_order agent_services (Some past.position) past.calls) ∙ follows.told

pub tells_its_history : (images : List Image) (calls : List Call) → TellsItsHistory images calls
tells_its_history images calls =
    let r = run_by images calls in
    let h = holds_all images calls (no_calls images) (holds_first images) in
    let truth = agent_tells_the_truth images calls in
    record {
      agent = run_agent calls (no_calls images);
      legal = truth.legal;
      told = all_both (λ past. given_in past.number r.channels ≡ (run_of past).past.given) (FollowsHistory images r.history) (GivesWhatIsTold images calls) r.channels
          (one_tells images calls) (each_given r.channels h.differ) truth.channels;
    }
