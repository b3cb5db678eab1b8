-- An agent sends no command, and what it sends can be read; its history is shorter than a number of 64 bits.
use Rattle.std.proofs.Common.{◌≡◌, ℕ, ◌+◌, ◌-◌, ◌^◌, ◌<◌, ◌≤◌, ◌==◌, Bool, true, false, cond, ◌||◌, List, [], ◌∷◌, ◌++◌, length, map, Option, Some, None, IfSome, Result, Ok, Err, refl, sym, ap, ◌∙◌, subst, arith, length-append, eq-eqb}
use Rattle.std.specs.List.{AllByRecursion, list_any}
use Rattle.std.proofs.lemmas.Bool.{or_right}
use Rattle.channel_core.specs.QueueLaws.{is_commanding}
use Rattle.channel_core.specs.ReceivingLaws.{SaysReadable, SendsReadable}
use Rattle.channel_core.specs.Runs.{Call as EndCall, delivering, ending, putting_out, sending, taking}
use Rattle.channel_core.specs.declared.taking.Taken.{Taken}
use Rattle.channel_core.specs.declared.taking.Taken.TheVariants as taken
use Rattle.command_tables.specs.Reading.{reading_of}
use Rattle.target_contexts.specs.declared.process.Image.{Image}
use Rattle.target_hub.specs.Answering.{executed}
use Rattle.target_hub.specs.Passing.{closed_told, tick_told}
use Rattle.target_hub.specs.Sendable.{AreSendable, IsBounded, IsSendable}
use Rattle.target_hub.specs.Sent.{ReadCommand, executed_by, executed_on}
use Rattle.target_hub.specs.declared.done.Answered.{Answered}
use Rattle.target_hub.specs.declared.done.Answered.TheVariants.{Result as IsResult, Unknown}
use Rattle.target_hub.specs.declared.done.Done.{Done}
use Rattle.target_hub.specs.declared.input.Input.{Input}
use Rattle.target_hub.specs.declared.input.Input.TheVariants.{Closed, Executed, Opened, Ticked}
use Rattle.target_hub.specs.HubValue.{TargetValue}
use Rattle.tcf_message.specs.Message.{IsToken, MessageValue, command, event, final, flow, most_body, not_known, progress, reading}
use Rattle.tcf_message.specs.declared.message.MessageFault.{MessageFault}
use Rattle.tcf_values.specs.declared.event.EventData.{EventData}
use Rattle.tcf_values.specs.declared.ids.ContextId.{ContextId}
use Rattle.agent_node.specs.Agent.{done_by, going_tells, instruction_tells, is_full, is_refused, opened, read_as, ticked, turned}
use Rattle.agent_node.specs.AgentLaws.{AgentFollowsHistory}
use Rattle.agent_node.specs.AgentValue.{AgentValue}
use Rattle.agent_node.specs.Runs.{AgentRun, Call, Past, after_all, after_call, answer_calls, answer_of, answered_by, asked_by, bytes_end, comes, event_call, gives, hearing, input_by, input_if, input_of, next_of, no_calls, on_number, on_one, on_open, opens, progress_call, ticked_by, ticks, took_by, turns, with_calls}
use Rattle.agent_node.specs.declared.agent.Turned.{Turned}
use Rattle.agent_node.specs.declared.agent.Turned.TheVariants.{Nothing, Took}
use Rattle.agent_node.proofs.TheLaws.{agent_tells_the_truth}
use Rattle.command_tables.proofs.TheLaws.{readings_are_legal}
use Rattle.target_hub.proofs.TheLaws.{answers_are_sendable, closings_tell_sendable, commands_tell_sendable, stays_bounded, ticks_tell_sendable}
use Rattle.tcf_message.proofs.TheLaws.{read_back}
use Rattle.node_answers.proofs.Agents.Pasts.{each_called, number_called, open_called, opened_called, unless_called, with_called}
use Rattle.node_answers.proofs.Agents.Telling.{progress_size}

-- a call of the agent's end
abbrev pub IsPlain : EndCall Unit → Type 0
IsPlain call = SaysReadable call × (is_commanding call ≡ false)

abbrev pub ArePlain : List (EndCall Unit) → Type 0
ArePlain calls = AllByRecursion IsPlain calls

pub plain_readable : (calls : List (EndCall Unit)) → ArePlain calls → SendsReadable calls
plain_readable [] each = tt
plain_readable (call ∷ calls) each = (each.0.0, plain_readable calls each.1)

pub plain_commands : (calls : List (EndCall Unit)) → ArePlain calls → list_any is_commanding calls ≡ false
plain_commands [] each = refl
plain_commands (call ∷ calls) each = ap (λ b. b || list_any is_commanding calls) each.0.1 ∙ plain_commands calls each.1

-- ---- A call is one input at most, and none where the position is at its limit

turned_one : (t : Turned) → length (input_of t) ≤ 1
turned_one Nothing = omega arith
turned_one (Took None) = omega arith
turned_one (Took (Some input)) = omega arith

input_if_one : (flag : Bool) (input : Input) → length (input_if flag input) ≤ 1
input_if_one true input = omega arith
input_if_one false input = omega arith

one_input : (call : Call) (a : AgentValue) → length (input_by call a) ≤ 1
one_input (opens k) a = input_if_one (opened k a).0 (Opened k)
one_input (comes k piece) a = omega arith
one_input (bytes_end k) a = omega arith
one_input (turns k) a = turned_one (turned k a).0
one_input (ticks thread) a = input_if_one (ticked thread a).0 (Ticked thread)
one_input (gives k) a = omega arith

opened_none : (refused : Bool) (k : ℕ) (a : AgentValue) (other : Bool × AgentValue) → refused ≡ true → input_if (cond refused (false, a) other).0 (Opened k) ≡ []
opened_none true k a other is = refl
opened_none false k a other is = absurd cc

turned_none : (full : Bool) (a : AgentValue) (other : Turned × AgentValue) → full ≡ true → input_of (cond full (Nothing, a) other).0 ≡ []
turned_none true a other is = refl
turned_none false a other is = absurd cc

ticked_none : (full : Bool) (thread : ContextId) (a : AgentValue) (other : Bool × AgentValue) → full ≡ true → input_if (cond full (false, a) other).0 (Ticked thread) ≡ []
ticked_none true thread a other is = refl
ticked_none false thread a other is = absurd cc

no_input : (call : Call) (a : AgentValue) → is_full a ≡ true → input_by call a ≡ []
unfolding opened turned ticked
no_input (opens k) a full = opened_none (is_refused k a) k a _ (or_right _ _ (or_right _ (is_full a) full))
no_input (comes k piece) a full = refl
no_input (bytes_end k) a full = refl
no_input (turns k) a full = turned_none (is_full a) a _ full
no_input (ticks thread) a full = ticked_none (is_full a) thread a _ full
no_input (gives k) a full = refl

-- so the history is never longer than that
input_fits : (call : Call) (a : AgentValue) (history : List Input) → a.position ≡ length history → length history < 2 ^ 64 → length (history ++ input_by call a) < 2 ^ 64
input_fits call a history place few = by_flag (is_full a) refl
  where
    by_flag : (flag : Bool) → is_full a ≡ flag → length (history ++ input_by call a) < 2 ^ 64
    by_flag true full = let size : length (history ++ input_by call a) ≡ length history + 0 = length-append history (input_by call a) ∙ ap (λ l. length history + length l) (no_input call a full) in omega arith
    by_flag false full =
        let other : a.position ≡ 2 ^ 64 - 1 → ⊥ = λ is. let both : true ≡ false = sym (eq-eqb a.position (2 ^ 64 - 1) is) ∙ full in cc in
        let size : length (history ++ input_by call a) ≡ length history + length (input_by call a) = length-append history (input_by call a) in
        let one : length (input_by call a) ≤ 1 = one_input call a in
        not_last (length history) (length (input_by call a)) (λ is. other (place ∙ is)) few one size
      where
        not_last : (n more : ℕ) → (n ≡ 2 ^ 64 - 1 → ⊥) → n < 2 ^ 64 → more ≤ 1 → length (history ++ input_by call a) ≡ n + more → length (history ++ input_by call a) < 2 ^ 64
        not_last n more other less one size = omega arith

one_if : (flag : Bool) (c : ReadCommand) → length (cond flag (c ∷ []) []) ≤ 1
one_if true c = omega arith
one_if false c = omega arith

own_one : (k : ℕ) (input : Input) → length (executed_by k input) ≤ 1
own_one k (Opened channel) = omega arith
own_one k (Executed channel read service name) = one_if (channel == k) (record { reading = read; service = service; name = name })
own_one k (Ticked thread) = omega arith
own_one k (Closed channel) = omega arith

pub executed_fits : (k : ℕ) (history : List Input) → length (executed_on k history) ≤ length history
executed_fits k [] = omega arith
executed_fits k (input ∷ history) = omega (arith, length-append (executed_by k input) (executed_on k history), own_one k input, executed_fits k history)

-- ---- What holds of an agent that has these images, after some calls

pub record Reached (images : List Image) (r : AgentRun) : Type 0 where
  pub calls : List Call
  pub is : after_all calls (no_calls images) ≡ r

after_more : (calls more : List Call) (r : AgentRun) → after_all (calls ++ more) r ≡ after_all more (after_all calls r)
after_more [] more r = refl
after_more (call ∷ calls) more r = after_more calls more (after_call call r)

reached_more : (images : List Image) (r : AgentRun) (more : List Call) → Reached images r → Reached images (after_all more r)
reached_more images r more reached = record {
  calls = reached.calls ++ more;
  is = after_more reached.calls more (no_calls images) ∙ ap (after_all more) reached.is;
}

abbrev AreSent : List Past → Type 0
AreSent pasts = AllByRecursion (λ past. ArePlain past.calls) pasts

events_plain : (position : ℕ) (events : List EventData) → AreSendable events → ArePlain (map (event_call position) events)
events_plain position [] each = tt
events_plain position (first ∷ events) each = ((((each.0.service, each.0.name), each.0.size), refl), events_plain position events each.1)

hearing_plain : (events : List EventData) (position : ℕ) (pasts : List Past) → AreSendable events → AreSent pasts → AreSent (hearing events position pasts)
hearing_plain events position pasts sendable each = each_called IsPlain (with_calls (map (event_call position) events)) (with_called IsPlain (map (event_call position) events) (events_plain position events sendable)) pasts each

answer_plain : (token : List ℕ) (position : ℕ) (answer : Answered) → IsToken token → IsSendable answer → IsPlain (sending (answer_of token answer) (Some position))
answer_plain token position Unknown is sendable = let none : 0 ≤ most_body = omega arith in ((is, none), refl)
answer_plain token position (IsResult body) is sendable = ((is, sendable), refl)

answers_plain : (token : List ℕ) (position : ℕ) (addresses : List ℕ) (answer : Answered) → IsToken token → IsSendable answer
    → ArePlain (map (progress_call token position) addresses ++ sending (answer_of token answer) (Some position) ∷ [])
answers_plain token position [] answer is sendable = (answer_plain token position answer is sendable, tt)
answers_plain token position (address ∷ addresses) answer is sendable = (((is, progress_size address), refl), answers_plain token position addresses answer is sendable)

done_is : (k : ℕ) (service name body : List ℕ) (target : TargetValue) → done_by k service name (read_as service name body) target ≡ executed k service name (reading_of service name body) target
unfolding done_by read_as
done_is k service name body target = refl

going_is : (k : ℕ) (target : TargetValue) → going_tells k target ≡ closed_told k target
unfolding going_tells
going_is k target = refl

instruction_is : (thread : ContextId) (target : TargetValue) → instruction_tells thread target ≡ tick_told thread target
unfolding instruction_tells
instruction_is thread target = refl

token_of : (raw token service name body : List ℕ) → reading raw ≡ Ok (command token service name body) → IsToken token
token_of raw token service name body is = ((read_back.0 raw (command token service name body)).0 is).0.0.0

asked_plain : (k : ℕ) (raw : List ℕ) (what : Result MessageValue MessageFault) (a : AgentValue) (pasts : List Past) → reading raw ≡ what → IsBounded a.target → AreSent pasts → AreSent (asked_by k what a pasts)
asked_plain k raw (Ok (command token service name body)) a pasts is bounded each =
    let read = reading_of service name body in
    let done = executed k service name read a.target in
    let P : Done → Type 0 = λ d. AreSent (answered_by k token (a.position + 1) d pasts) in
    subst P (sym (done_is k service name body a.target))
    (each_called IsPlain (on_number k (answer_calls token (a.position + 1) done))
    (number_called IsPlain k (answer_calls token (a.position + 1) done)
    (answers_plain token (a.position + 1) done.progress done.answer (token_of raw token service name body is) (answers_are_sendable k service name read a.target bounded)))
    (hearing done.events (a.position + 1) pasts)
    (hearing_plain done.events (a.position + 1) pasts (commands_tell_sendable k service name read a.target (readings_are_legal service name body) bounded) each))
asked_plain k raw (Ok (final token body)) a pasts is bounded each = each
asked_plain k raw (Ok (progress token body)) a pasts is bounded each = each
asked_plain k raw (Ok (not_known token)) a pasts is bounded each = each
asked_plain k raw (Ok (event service name body)) a pasts is bounded each = each
asked_plain k raw (Ok (flow level)) a pasts is bounded each = each
asked_plain k raw (Err fault) a pasts is bounded each = each

took_plain : (k : ℕ) (what : Option (Taken Unit)) (a : AgentValue) (pasts : List Past) → IsBounded a.target → AreSent pasts → AreSent (took_by k what a pasts)
took_plain k None a pasts bounded each = each
took_plain k (Some (taken.Command incoming)) a pasts bounded each = asked_plain k incoming.raw (reading incoming.raw) a pasts refl bounded each
took_plain k (Some (taken.Closed cause)) a pasts bounded each =
    hearing_plain (going_tells k a.target) (a.position + 1) pasts (subst AreSendable (sym (going_is k a.target)) (closings_tell_sendable k a.target bounded)) each
took_plain k (Some (taken.Hello incoming)) a pasts bounded each = each
took_plain k (Some (taken.Event incoming)) a pasts bounded each = each
took_plain k (Some (taken.Progress token incoming)) a pasts bounded each = each
took_plain k (Some (taken.Final tag incoming)) a pasts bounded each = each

ticked_plain : (told : Option (List EventData)) (a : AgentValue) (pasts : List Past) → IfSome told AreSendable → AreSent pasts → AreSent (ticked_by told a pasts)
ticked_plain None a pasts sendable each = each
ticked_plain (Some events) a pasts sendable each = hearing_plain events (a.position + 1) pasts sendable each

call_plain : (call : Call) (r : AgentRun) → IsBounded r.agent.target → AreSent r.channels → AreSent (after_call call r).channels
call_plain (opens k) r bounded each = opened_called IsPlain (opened k r.agent).0 k r.agent r.channels each
call_plain (comes k piece) r bounded each = each_called IsPlain (on_open k (delivering piece None ∷ [])) (open_called IsPlain k (delivering piece None ∷ []) ((tt, refl), tt)) r.channels each
call_plain (bytes_end k) r bounded each = each_called IsPlain (on_number k (ending ∷ [])) (number_called IsPlain k (ending ∷ []) ((tt, refl), tt)) r.channels each
call_plain (turns k) r bounded each =
    let took = on_one k (taking ∷ []) r.channels in
    unless_called IsPlain (is_full r.agent) r.channels (took_by k (next_of r.channels k) r.agent took) each
    (took_plain k (next_of r.channels k) r.agent took bounded (each_called IsPlain (on_number k (taking ∷ [])) (number_called IsPlain k (taking ∷ []) ((tt, refl), tt)) r.channels each))
call_plain (ticks thread) r bounded each =
    unless_called IsPlain (is_full r.agent) r.channels (ticked_by (instruction_tells thread r.agent.target) r.agent r.channels) each
    (ticked_plain (instruction_tells thread r.agent.target) r.agent r.channels
    (subst (λ o. IfSome o AreSendable) (sym (instruction_is thread r.agent.target)) (ticks_tell_sendable thread r.agent.target bounded)) each)
call_plain (gives k) r bounded each = each_called IsPlain (on_number k (putting_out ∷ [])) (number_called IsPlain k (putting_out ∷ []) ((tt, refl), tt)) r.channels each

pub record Stays (r : AgentRun) : Type 0 where
  pub few : length r.history < 2 ^ 64
  pub plain : AreSent r.channels

call_stays : (images : List Image) (call : Call) (r : AgentRun) → Reached images r → Stays r → Stays (after_call call r)
call_stays images call r reached s =
    let f : AgentFollowsHistory images r = subst (AgentFollowsHistory images) reached.is (agent_tells_the_truth images reached.calls) in
    record {
      few = input_fits call r.agent r.history f.position s.few;
      plain = call_plain call r (subst IsBounded (sym f.target) (stays_bounded images r.history f.legal)) s.plain;
    }

calls_stay : (images : List Image) (calls : List Call) (r : AgentRun) → Reached images r → Stays r → Stays (after_all calls r)
calls_stay images [] r reached s = s
calls_stay images (call ∷ calls) r reached s = calls_stay images calls (after_call call r) (reached_more images r (call ∷ []) reached) (call_stays images call r reached s)

pub all_stay : (images : List Image) (calls : List Call) → Stays (after_all calls (no_calls images))
all_stay images calls = let none : 0 < 2 ^ 64 = omega arith in calls_stay images calls (no_calls images) (record { calls = []; is = refl }) (record { few = none; plain = tt })
