-- An agent over any calls: its inputs, and the past of each channel that it opened.
use Rattle.std.specs.Prelude.{ℕ, ◌+◌, ◌==◌, Bool, true, false, if◌then◌else◌, List, [], ◌∷◌, ◌++◌, map, option_to_list, Option, Some, None, Result, Ok}
use Rattle.channel_core.specs.Beginning.{new_end}
use Rattle.channel_core.specs.Closing.{is_closed}
use Rattle.channel_core.specs.Runs.{Call as EndCall, Run, Unheld, after_calls, an_answer, an_event, an_unknown, begun, delivering, ending, putting_out, sending, some_progress, taking}
use Rattle.channel_core.specs.Taking.{next_taken}
use Rattle.channel_core.specs.declared.taking.Taken.{Taken}
use Rattle.channel_core.specs.declared.taking.Taken.TheVariants as taken
use Rattle.reply_tables.specs.Events.{event_data}
use Rattle.service_names.specs.Events.{name_of, service_of, told_as}
use Rattle.target_contexts.specs.declared.process.Image.{Image}
use Rattle.target_hub.specs.Sent.{agent_services, progress_data}
use Rattle.target_hub.specs.declared.done.Answered.{Answered}
use Rattle.target_hub.specs.declared.done.Answered.TheVariants.{Unknown, Result as IsResult}
use Rattle.target_hub.specs.declared.done.Done.{Done}
use Rattle.target_hub.specs.declared.input.Input.{Input}
use Rattle.target_hub.specs.declared.input.Input.TheVariants.{Opened, Ticked}
use Rattle.tcf_message.specs.Message.{MessageValue, command, reading}
use Rattle.tcf_message.specs.declared.message.MessageFault.{MessageFault}
use Rattle.tcf_values.specs.declared.event.EventData.{EventData}
use Rattle.tcf_values.specs.declared.ids.ContextId.{ContextId}
use Rattle.agent_node.specs.Agent.{after_giving, delivered, done_by, ended, going_tells, instruction_tells, is_full, new_agent, opened, read_as, ticked, turned}
use Rattle.agent_node.specs.AgentValue.{AgentValue}
use Rattle.agent_node.specs.declared.agent.Turned.{Turned}
use Rattle.agent_node.specs.declared.agent.Turned.TheVariants.{Nothing, Took}

-- the calls that change an agent
pub data Call : Type 0 where
  opens : (k : ℕ) → Call
  comes : (k : ℕ) (piece : List ℕ) → Call
  bytes_end : (k : ℕ) → Call
  turns : (k : ℕ) → Call
  ticks : (thread : ContextId) → Call
  gives : (k : ℕ) → Call

abbrev pub called : Call → AgentValue → AgentValue
called (opens k) a = (opened k a).1
called (comes k piece) a = delivered k piece a
called (bytes_end k) a = ended k a
called (turns k) a = (turned k a).1
called (ticks thread) a = (ticked thread a).1
called (gives k) a = after_giving k a

-- ---- the inputs of the target

abbrev pub input_if : Bool → Input → List Input
input_if true input = input ∷ []
input_if false input = []

abbrev pub input_of : Turned → List Input
input_of Nothing = []
input_of (Took input) = option_to_list input

-- the input that a call was, if it was one
abbrev pub input_by : Call → AgentValue → List Input
input_by (opens k) a = input_if (opened k a).0 (Opened k)
input_by (comes k piece) a = []
input_by (bytes_end k) a = []
input_by (turns k) a = input_of (turned k a).0
input_by (ticks thread) a = input_if (ticked thread a).0 (Ticked thread)
input_by (gives k) a = []

-- ---- the channels that were opened, each with the calls of its end since

pub record Past : Type 0 where
  pub number : ℕ
  pub position : ℕ  -- that of its opening, and of its Hello
  pub calls : List (EndCall Unit)

-- what its end was given, took and queued since
abbrev pub run_of : Past → Run Unit
run_of past = after_calls past.calls (begun (new_end agent_services (Some past.position)))

abbrev pub with_calls : List (EndCall Unit) → Past → Past
with_calls calls past = record past { calls = past.calls ++ calls }

-- of one channel
abbrev pub on_number : ℕ → List (EndCall Unit) → Past → Past
on_number k calls past = if past.number == k then with_calls calls past else past

abbrev pub on_one : ℕ → List (EndCall Unit) → List Past → List Past
on_one k calls pasts = map (on_number k calls) pasts

-- of one channel, while its end isn't closed: what comes for a closed one is dropped
abbrev pub unless_over : Bool → List (EndCall Unit) → Past → Past
unless_over true calls past = past
unless_over false calls past = with_calls calls past

abbrev pub on_open : ℕ → List (EndCall Unit) → Past → Past
on_open k calls past = if past.number == k then unless_over (is_closed (run_of past).end.state) calls past else past

-- of all of them
abbrev pub on_all : List (EndCall Unit) → List Past → List Past
on_all calls pasts = map (with_calls calls) pasts

-- the events that an input tells
abbrev pub event_call : ℕ → EventData → EndCall Unit
event_call position told = sending (an_event (service_of (told_as told)) (name_of (told_as told)) (event_data told)) (Some position)

abbrev pub hearing : List EventData → ℕ → List Past → List Past
hearing events position pasts = on_all (map (event_call position) events) pasts

-- the progress and the answer that a command gets
abbrev pub progress_call : List ℕ → ℕ → ℕ → EndCall Unit
progress_call token position address = sending (some_progress token (progress_data address)) (Some position)

abbrev pub answer_of : List ℕ → Answered → Unheld
answer_of token Unknown = an_unknown token
answer_of token (IsResult body) = an_answer token body

abbrev pub answer_calls : List ℕ → ℕ → Done → List (EndCall Unit)
answer_calls token position done = map (progress_call token position) done.progress ++ sending (answer_of token done.answer) (Some position) ∷ []

abbrev pub answered_by : ℕ → List ℕ → ℕ → Done → List Past → List Past
answered_by k token position done pasts = on_one k (answer_calls token position done) (hearing done.events position pasts)

-- what came of a message of the channel that was taken
abbrev pub asked_by : ℕ → Result MessageValue MessageFault → AgentValue → List Past → List Past
asked_by k (Ok (command token service name body)) a pasts =
    answered_by k token (a.position + 1) (done_by k service name (read_as service name body) a.target) pasts
asked_by k _ a pasts = pasts

abbrev pub took_by : ℕ → Option (Taken Unit) → AgentValue → List Past → List Past
took_by k None a pasts = pasts
took_by k (Some (taken.Command incoming)) a pasts = asked_by k (reading incoming.raw) a pasts
took_by k (Some (taken.Closed cause)) a pasts = hearing (going_tells k a.target) (a.position + 1) pasts
took_by k (Some (taken.Hello incoming)) a pasts = pasts
took_by k (Some (taken.Event incoming)) a pasts = pasts
took_by k (Some (taken.Progress token incoming)) a pasts = pasts
took_by k (Some (taken.Final tag incoming)) a pasts = pasts

-- what the end of this channel takes next
abbrev pub next_of : List Past → ℕ → Option (Taken Unit)
next_of [] k = None
next_of (past ∷ pasts) k = if past.number == k then (next_taken (run_of past).end).0 else next_of pasts k

abbrev pub turned_by : ℕ → AgentValue → List Past → List Past
turned_by k a pasts = if is_full a then pasts else took_by k (next_of pasts k) a (on_one k (taking ∷ []) pasts)

abbrev pub ticked_by : Option (List EventData) → AgentValue → List Past → List Past
ticked_by None a pasts = pasts
ticked_by (Some events) a pasts = hearing events (a.position + 1) pasts

abbrev pub opened_by : Bool → ℕ → AgentValue → List Past → List Past
opened_by true k a pasts = pasts ++ record { number = k; position = a.position + 1; calls = [] } ∷ []
opened_by false k a pasts = pasts

-- what a call of the agent adds to the pasts of its channels
abbrev pub pasts_by : Call → AgentValue → List Past → List Past
pasts_by (opens k) a pasts = opened_by (opened k a).0 k a pasts
pasts_by (comes k piece) a pasts = map (on_open k (delivering piece None ∷ [])) pasts
pasts_by (bytes_end k) a pasts = on_one k (ending ∷ []) pasts
pasts_by (turns k) a pasts = turned_by k a pasts
pasts_by (ticks thread) a pasts = if is_full a then pasts else ticked_by (instruction_tells thread a.target) a pasts
pasts_by (gives k) a pasts = on_one k (putting_out ∷ []) pasts

-- ---- a run

pub record AgentRun : Type 0 where
  pub agent : AgentValue
  pub history : List Input
  pub channels : List Past

abbrev pub no_calls : List Image → AgentRun
no_calls images = record { agent = new_agent images; history = []; channels = [] }

abbrev pub after_call : Call → AgentRun → AgentRun
after_call call r = record {
  agent = called call r.agent;
  history = r.history ++ input_by call r.agent;
  channels = pasts_by call r.agent r.channels;
}

abbrev pub after_all : List Call → AgentRun → AgentRun
after_all [] r = r
after_all (call ∷ calls) r = after_all calls (after_call call r)
