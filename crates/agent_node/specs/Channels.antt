-- The channels of an agent: what the target tells goes to all.
use Rattle.std.specs.Prelude.{ℕ, List, [], ◌∷◌, map, Some}
use Rattle.channel_core.specs.Sending.{queued}
use Rattle.reply_tables.specs.Events.{event_data}
use Rattle.service_names.specs.Events.{name_of, service_of, told_as}
use Rattle.tcf_message.specs.Message.{MessageValue, event, final, not_known, progress}
use Rattle.tcf_values.specs.declared.event.EventData.{EventData}
use Rattle.target_hub.specs.Sent.{agent_services, progress_data}
use Rattle.target_hub.specs.declared.done.Answered.{Answered}
use Rattle.target_hub.specs.declared.done.Answered.TheVariants.{Unknown, Result}
use Rattle.target_hub.specs.declared.done.Done.{Done}
use Rattle.channel_list.specs.Channels.{new_channel as opening_channel}
pub use Rattle.channel_list.specs.Channels.{End, changed, changed_at, channel_at, channel_end, end_in, live_count, place_of, put_at, unless_closed, with_end}
unfoldable pub use Rattle.channel_list.specs.Channels.{is_kept, is_open}
pub use Rattle.channel_list.specs.declared.channel.Channel.{Channel}

-- a channel that opens at this position: its Hello names the services of an agent
abbrev pub new_channel : ℕ → ℕ → Channel
new_channel number position = opening_channel number agent_services (Some position)

-- ---- what the target tells: events, in order, to all; progress and then the answer to the caller, under its token

unfoldable pub event_message : EventData → MessageValue
event_message told = event (service_of (told_as told)) (name_of (told_as told)) (event_data told)

abbrev pub event_queued : EventData → ℕ → Channel → Channel
event_queued told position channel = with_end (queued (event_message told) (Some position) channel.end) channel

abbrev pub told_all : List EventData → ℕ → List Channel → List Channel
told_all [] position channels = channels
told_all (told ∷ events) position channels = told_all events position (map (event_queued told position) channels)

abbrev pub progress_queued : List ℕ → List ℕ → ℕ → End → End
progress_queued token [] position end = end
progress_queued token (address ∷ addresses) position end =
    progress_queued token addresses position (queued (progress token (progress_data address)) (Some position) end)

abbrev pub answer_message : List ℕ → Answered → MessageValue
answer_message token Unknown = not_known token
answer_message token (Result body) = final token body

abbrev pub answer_queued : List ℕ → Done → ℕ → End → End
answer_queued token done position end =
    queued (answer_message token done.answer) (Some position) (progress_queued token done.progress position end)
