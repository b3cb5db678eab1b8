-- An agent closes none of its channels by itself.
use Rattle.std.proofs.Common.{◌≡◌, ℕ, ◌+◌, false, List, [], ◌∷◌, ◌++◌, map, Option, Some, None, Result, Ok, Err, refl}
use Rattle.std.specs.List.{AllByRecursion, list_any}
use Rattle.agent_node.specs.Agent.{done_by, going_tells, instruction_tells, is_full, opened, read_as}
use Rattle.agent_node.specs.AgentValue.{AgentValue}
use Rattle.agent_node.specs.Runs.{AgentRun, Call, Past, after_all, after_call, answer_calls, answer_of, asked_by, bytes_end, comes, event_call, gives, hearing, next_of, no_calls, on_number, on_one, on_open, opens, progress_call, ticked_by, ticks, took_by, turns, with_calls}
use Rattle.channel_core.specs.Runs.{Call as EndCall, delivering, ending, putting_out, sending, taking}
use Rattle.channel_core.specs.declared.taking.Taken.{Taken}
use Rattle.channel_core.specs.declared.taking.Taken.TheVariants as taken
use Rattle.channel_laws.specs.Faults.{is_closing}
use Rattle.target_contexts.specs.declared.process.Image.{Image}
use Rattle.target_hub.specs.declared.done.Answered.{Answered}
use Rattle.target_hub.specs.declared.done.Done.{Done}
use Rattle.tcf_message.specs.Message.{MessageValue, command, event, final, flow, not_known, progress, reading}
use Rattle.tcf_message.specs.declared.message.MessageFault.{MessageFault}
use Rattle.tcf_values.specs.declared.event.EventData.{EventData}
use Rattle.node_answers.proofs.Agents.Pasts.{AreAll, AreCalled, each_called, number_called, open_called, opened_called, unless_called, with_called}

abbrev IsNotClosing : EndCall Unit → Type 0
IsNotClosing call = is_closing call ≡ false

abbrev AreOpen : List Past → Type 0
AreOpen pasts = AreCalled IsNotClosing pasts

events_open : (position : ℕ) (events : List EventData) → AreAll IsNotClosing (map (event_call position) events)
events_open position [] = tt
events_open position (first ∷ events) = (refl, events_open position events)

hearing_open : (events : List EventData) (position : ℕ) (pasts : List Past) → AreOpen pasts → AreOpen (hearing events position pasts)
hearing_open events position pasts each =
    each_called IsNotClosing (with_calls (map (event_call position) events)) (with_called IsNotClosing (map (event_call position) events) (events_open position events)) pasts each

answers_open : (token : List ℕ) (position : ℕ) (addresses : List ℕ) (answer : Answered) → AreAll IsNotClosing (map (progress_call token position) addresses ++ sending (answer_of token answer) (Some position) ∷ [])
answers_open token position [] answer = (refl, tt)
answers_open token position (address ∷ addresses) answer = (refl, answers_open token position addresses answer)

one_open : (k : ℕ) (calls : List (EndCall Unit)) → AreAll IsNotClosing calls → (pasts : List Past) → AreOpen pasts → AreOpen (on_one k calls pasts)
one_open k calls more pasts each = each_called IsNotClosing (on_number k calls) (number_called IsNotClosing k calls more) pasts each

asked_open : (k : ℕ) (what : Result MessageValue MessageFault) (a : AgentValue) (pasts : List Past) → AreOpen pasts → AreOpen (asked_by k what a pasts)
asked_open k (Ok (command token service name body)) a pasts each =
    let done : Done = done_by k service name (read_as service name body) a.target in
    one_open k (answer_calls token (a.position + 1) done) (answers_open token (a.position + 1) done.progress done.answer) (hearing done.events (a.position + 1) pasts) (hearing_open done.events (a.position + 1) pasts each)
asked_open k (Ok (final token body)) a pasts each = each
asked_open k (Ok (progress token body)) a pasts each = each
asked_open k (Ok (not_known token)) a pasts each = each
asked_open k (Ok (event service name body)) a pasts each = each
asked_open k (Ok (flow level)) a pasts each = each
asked_open k (Err fault) a pasts each = each

took_open : (k : ℕ) (what : Option (Taken Unit)) (a : AgentValue) (pasts : List Past) → AreOpen pasts → AreOpen (took_by k what a pasts)
took_open k None a pasts each = each
took_open k (Some (taken.Command incoming)) a pasts each = asked_open k (reading incoming.raw) a pasts each
took_open k (Some (taken.Closed cause)) a pasts each = hearing_open (going_tells k a.target) (a.position + 1) pasts each
took_open k (Some (taken.Hello incoming)) a pasts each = each
took_open k (Some (taken.Event incoming)) a pasts each = each
took_open k (Some (taken.Progress token incoming)) a pasts each = each
took_open k (Some (taken.Final tag incoming)) a pasts each = each

ticked_open : (told : Option (List EventData)) (a : AgentValue) (pasts : List Past) → AreOpen pasts → AreOpen (ticked_by told a pasts)
ticked_open None a pasts each = each
ticked_open (Some events) a pasts each = hearing_open events (a.position + 1) pasts each

call_open : (call : Call) (r : AgentRun) → AreOpen r.channels → AreOpen (after_call call r).channels
call_open (opens k) r each = opened_called IsNotClosing (opened k r.agent).0 k r.agent r.channels each
call_open (comes k piece) r each = each_called IsNotClosing (on_open k (delivering piece None ∷ [])) (open_called IsNotClosing k (delivering piece None ∷ []) (refl, tt)) r.channels each
call_open (bytes_end k) r each = one_open k (ending ∷ []) (refl, tt) r.channels each
call_open (turns k) r each =
    let took = on_one k (taking ∷ []) r.channels in
    unless_called IsNotClosing (is_full r.agent) r.channels (took_by k (next_of r.channels k) r.agent took) each
    (took_open k (next_of r.channels k) r.agent took (one_open k (taking ∷ []) (refl, tt) r.channels each))
call_open (ticks thread) r each =
    unless_called IsNotClosing (is_full r.agent) r.channels (ticked_by (instruction_tells thread r.agent.target) r.agent r.channels) each
    (ticked_open (instruction_tells thread r.agent.target) r.agent r.channels each)
call_open (gives k) r each = one_open k (putting_out ∷ []) (refl, tt) r.channels each

calls_open : (calls : List Call) (r : AgentRun) → AreOpen r.channels → AreOpen (after_all calls r).channels
calls_open [] r each = each
calls_open (call ∷ calls) r each = calls_open calls (after_call call r) (call_open call r each)

any_closing : (calls : List (EndCall Unit)) → AreAll IsNotClosing calls → list_any is_closing calls ≡ false
any_closing [] each = refl
any_closing (call ∷ calls) each = rw each.0 (any_closing calls each.1)

none_closing : (pasts : List Past) → AreOpen pasts → AllByRecursion (λ past. list_any is_closing past.calls ≡ false) pasts
none_closing [] each = tt
none_closing (past ∷ pasts) each = (any_closing past.calls each.0, none_closing pasts each.1)

pub never_closing : (images : List Image) (calls : List Call) → AllByRecursion (λ past. list_any is_closing past.calls ≡ false) (after_all calls (no_calls images)).channels
never_closing images calls = none_closing (after_all calls (no_calls images)).channels (calls_open calls (no_calls images) tt)
