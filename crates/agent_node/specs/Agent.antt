-- What an agent does: each of its inputs goes to the one target, and what that tells goes to the channels.
use Rattle.std.specs.Prelude.{ℕ, ◌≡◌, ◌⊎◌, ◌+◌, ◌-◌, ◌^◌, ◌==◌, Bool, true, false, ◌||◌, if◌then◌else◌, nat_le, List, [], ◌∷◌, ◌++◌, drop, filter, slice_get, slice_set, Option, Some, None, Result, Ok}
use Rattle.channel_core.specs.EndValue.{unless_spent}
use Rattle.channel_core.specs.Receiving.{delivered as end_delivered, ended as end_ended, waiting_in}
use Rattle.channel_core.specs.Taking.{next_taken}
use Rattle.channel_core.specs.declared.held.Outgoing.{Outgoing}
use Rattle.channel_core.specs.declared.taking.Taken.{Taken}
use Rattle.channel_core.specs.declared.taking.Taken.TheVariants as taken
use Rattle.command_tables.specs.Reading.{IsReading, reading_of}
use Rattle.target_contexts.specs.declared.process.Image.{Image}
use Rattle.tcf_message.specs.Message.{MessageValue, command, reading}
use Rattle.tcf_message.specs.declared.message.MessageFault.{MessageFault}
use Rattle.tcf_values.specs.declared.event.EventData.{EventData}
use Rattle.tcf_values.specs.declared.ids.ContextId.{ContextId}
use Rattle.target_hub.specs.Answering.{after_reading, executed as hub_executed}
use Rattle.target_hub.specs.HubValue.{TargetValue, new_target}
use Rattle.target_hub.specs.Passing.{closed as target_closed, closed_told, tick_told, ticked as target_ticked}
use Rattle.command_tables.specs.declared.reading.Reading.{Reading}
use Rattle.target_hub.specs.declared.done.Done.{Done}
use Rattle.target_hub.specs.declared.input.Input.TheVariants as inputs
use Rattle.agent_node.specs.AgentValue.{AgentValue}
use Rattle.agent_node.specs.Channels.{unless_closed, answer_queued, changed, channel_at, is_kept, live_count, new_channel, place_of, told_all, with_end}
use Rattle.channel_list.specs.Numbers.{has_number, no_numbers, with_number}
use Rattle.agent_node.specs.declared.agent.Turned.{Turned}
use Rattle.agent_node.specs.declared.agent.Turned.TheVariants.{Nothing, Took}
use Rattle.channel_list.specs.declared.channel.Channel.{Channel}

-- ---- what the hub does, under words of its own

-- what a command's data is read as
unfoldable pub read_as : List ℕ → List ℕ → List ℕ → Reading
read_as service name body = reading_of service name body

-- a reading that a command of these names can have
unfoldable pub IsRead : List ℕ → List ℕ → Reading → Type 0
IsRead service name read = IsReading service name read

-- what comes of a command as it is read, and what it leaves of the target
unfoldable pub done_by : ℕ → List ℕ → List ℕ → Reading → TargetValue → Done
done_by k service name read target = hub_executed k service name read target

unfoldable pub left_by : ℕ → Reading → TargetValue → TargetValue
left_by k read target = after_reading k read target

-- what a channel that goes tells and leaves
unfoldable pub going_tells : ℕ → TargetValue → List EventData
going_tells k target = closed_told k target

unfoldable pub going_leaves : ℕ → TargetValue → TargetValue
going_leaves k target = target_closed k target

-- what an instruction tells and leaves; none where the thread doesn't live and run
unfoldable pub instruction_tells : ContextId → TargetValue → Option (List EventData)
instruction_tells thread target = tick_told thread target

unfoldable pub instruction_leaves : ContextId → TargetValue → TargetValue
instruction_leaves thread target = target_ticked thread target

-- the target that has these images, and nothing else yet
unfoldable pub first_target : List Image → TargetValue
first_target images = new_target images

-- ---- the agent

-- nothing is opened yet, and no process lives
abbrev pub new_agent : List Image → AgentValue
new_agent images = record { target = first_target images; position = 0; numbers = no_numbers; channels = []; is_spent = false }

-- the position is at its limit, and no further input is taken
abbrev pub is_full : AgentValue → Bool
is_full a = a.position == 2 ^ 64 - 1

abbrev pub with_target : TargetValue → AgentValue → AgentValue
with_target target a = record a { target = target }

-- an input was the next one, and all channels hear what it tells
unfoldable pub after_input : List EventData → AgentValue → AgentValue
after_input events a = record a { position = a.position + 1; channels = told_all events (a.position + 1) a.channels }

-- ---- a channel opens: its number is new, fewer than 64 are live, and its Hello has the position of the opening

abbrev pub is_refused : ℕ → AgentValue → Bool
is_refused k a = has_number k a.numbers || (nat_le 64 (live_count a.channels) || is_full a)

unfoldable pub begun : ℕ → AgentValue → AgentValue
begun k a = record a {
  position = a.position + 1;
  numbers = with_number k a.numbers;
  channels = filter is_kept a.channels ++ new_channel k (a.position + 1) ∷ [];
}

unfoldable pub opened : ℕ → AgentValue → Bool × AgentValue
opened k a = if is_refused k a then (false, a) else (true, begun k a)

-- ---- what comes on a live channel

unfoldable pub delivered : ℕ → List ℕ → AgentValue → AgentValue
delivered k piece a = record a { channels = changed k (unless_closed (end_delivered piece None)) a.channels }

unfoldable pub ended : ℕ → AgentValue → AgentValue
ended k a = record a { channels = changed k (λ end. unless_spent end end (end_ended end)) a.channels }

-- ---- the channel of a number, and how many entries wait on it

abbrev pub channel_of : ℕ → AgentValue → Option Channel
channel_of k a = channel_at (place_of k a.channels) a.channels

abbrev pub waiting_at : Option Channel → ℕ
waiting_at None = 0
waiting_at (Some channel) = waiting_in channel.end

-- ---- taking: a command is executed, the end of a channel takes its breakpoints, and nothing else is an input

unfoldable pub answered_to : ℕ → List ℕ → Done → AgentValue → AgentValue
answered_to k token done a = record a { channels = changed k (answer_queued token done a.position) a.channels }

-- what was done is the next input: all hear its events, and the caller its progress and its answer
unfoldable pub heard : ℕ → List ℕ → Done → AgentValue → AgentValue
heard k token done a = answered_to k token done (after_input done.events a)

unfoldable pub executed_read : ℕ → List ℕ → List ℕ → List ℕ → Reading → AgentValue → AgentValue
executed_read k token service name read a =
    heard k token (done_by k service name read a.target) (with_target (left_by k read a.target) a)

unfoldable pub executed : ℕ → List ℕ → List ℕ → List ℕ → List ℕ → AgentValue → Turned × AgentValue
executed k token service name body a =
    let read = read_as service name body in (Took (Some (inputs.Executed k read service name)), executed_read k token service name read a)

unfoldable pub asked : ℕ → Result MessageValue MessageFault → AgentValue → Turned × AgentValue
asked k (Ok (command token service name body)) a = executed k token service name body a
asked k _ a = (Took None, a)

unfoldable pub gone : ℕ → AgentValue → Turned × AgentValue
gone k a = (Took (Some (inputs.Closed k)), after_input (going_tells k a.target) (with_target (going_leaves k a.target) a))

unfoldable pub took : ℕ → Taken Unit → AgentValue → Turned × AgentValue
took k (taken.Hello incoming) a = (Took None, a)
took k (taken.Command incoming) a = asked k (reading incoming.raw) a
took k (taken.Event incoming) a = (Took None, a)
took k (taken.Progress token incoming) a = (Took None, a)
took k (taken.Final tag incoming) a = (Took None, a)
took k (taken.Closed cause) a = gone k a

abbrev pub took_any : ℕ → Option (Taken Unit) → AgentValue → Turned × AgentValue
took_any k None a = (Nothing, a)
took_any k (Some what) a = took k what a

abbrev pub turned_on : ℕ → ℕ → Option Channel → AgentValue → Turned × AgentValue
turned_on k place None a = (Nothing, a)
turned_on k place (Some channel) a =
    let next = next_taken channel.end in
    took_any k next.0 (record a { channels = slice_set a.channels place (with_end next.1 channel) })

abbrev pub turned_at : ℕ → Option ℕ → AgentValue → Turned × AgentValue
turned_at k None a = (Nothing, a)
turned_at k (Some place) a = turned_on k place (slice_get a.channels place) a

unfoldable pub turned : ℕ → AgentValue → Turned × AgentValue
turned k a = if is_full a then (Nothing, a) else turned_at k (place_of k a.channels) a

-- nothing is taken of a channel exactly then: the position is at its limit, or no entry waits there
abbrev pub TakesNothing : ℕ → AgentValue → Type 0
TakesNothing k a = (is_full a ≡ true) ⊎ (waiting_at (channel_of k a) ≡ 0)

-- ---- one instruction of a thread that lives and runs

abbrev pub ticked_by : ContextId → Option (List EventData) → AgentValue → Bool × AgentValue
ticked_by thread None a = (false, a)
ticked_by thread (Some events) a = (true, after_input events (with_target (instruction_leaves thread a.target) a))

unfoldable pub ticked : ContextId → AgentValue → Bool × AgentValue
ticked thread a = if is_full a then (false, a) else ticked_by thread (instruction_tells thread a.target) a

-- no instruction is executed exactly then: the position is at its limit, or the thread doesn't live and run
abbrev pub IsIdle : ContextId → AgentValue → Type 0
IsIdle thread a = (is_full a ≡ true) ⊎ (instruction_tells thread a.target ≡ None)

-- ---- what goes out

abbrev pub first_of : Option Channel → Option Outgoing
first_of None = None
first_of (Some channel) = unless_spent channel.end None (slice_get channel.end.queued 0)

unfoldable pub given : ℕ → AgentValue → Option Outgoing
given k a = first_of (channel_of k a)

unfoldable pub after_giving : ℕ → AgentValue → AgentValue
after_giving k a = record a { channels = changed k (λ end. unless_spent end end (record end { queued = drop 1 end.queued })) a.channels }
