-- The laws of an end, as terms.
use Rattle.channel_core.specs.Greeting.{WaitsForHello}
use Rattle.channel_core.specs.QueueLaws.{ClosesOnlySo, QueuesItsMessages, QueuesNoCommand, QueuesWhatIsSent, TakesNothingClosed}
use Rattle.channel_core.specs.ReceivingLaws.{EndsFairly, QueuesReadable, ReceivesInOrder, WhereAQueueComes}
use Rattle.channel_core.specs.RunLaws.{AfterAllCalls, CountsAnswers, EndsOnce, HoldsNoneWhereFree, IsUnspent, QueuesInOrder, SendsInOrder, StaysClosed}
use Rattle.channel_core.proofs.ClosingSo.{all_close_only_so, all_takes_nothing}
use Rattle.channel_core.proofs.Received as received
use Rattle.channel_core.proofs.Running as running
use Rattle.channel_core.proofs.Sent.{all_its_messages, all_what_is_sent, all_without_commands}
use Rattle.channel_core.proofs.Waiting.{all_wait}

pub spends_nothing : {T : Type 0} → AfterAllCalls {T = T} IsUnspent
spends_nothing = running.all_unspent

pub queues_in_order : {T : Type 0} → AfterAllCalls {T = T} QueuesInOrder
queues_in_order = running.all_in_order

pub sends_in_order : {T : Type 0} → AfterAllCalls {T = T} SendsInOrder
sends_in_order = running.all_sent_in_order

pub counts_answers : {T : Type 0} → AfterAllCalls {T = T} CountsAnswers
counts_answers = running.all_counted

pub ends_once : {T : Type 0} → AfterAllCalls {T = T} EndsOnce
ends_once = running.all_end_once

pub stays_closed : {T : Type 0} → AfterAllCalls {T = T} StaysClosed
stays_closed = running.all_stay_closed

pub holds_none_where_free : {T : Type 0} → AfterAllCalls {T = T} HoldsNoneWhereFree
holds_none_where_free = running.all_free

pub receives_in_order : {T : Type 0} → WhereAQueueComes {T = T} ReceivesInOrder
receives_in_order = received.all_in_order

pub ends_fairly : {T : Type 0} → WhereAQueueComes {T = T} EndsFairly
ends_fairly = received.all_fair

pub queues_readable : {T : Type 0} → QueuesReadable T
queues_readable = running.all_can_be_read

pub queues_what_is_sent : {T : Type 0} → QueuesWhatIsSent T
queues_what_is_sent = all_what_is_sent

pub queues_no_command : {T : Type 0} → QueuesNoCommand T
queues_no_command = all_without_commands

pub queues_its_messages : {T : Type 0} → QueuesItsMessages T
queues_its_messages = all_its_messages

pub takes_nothing_closed : {T : Type 0} → AfterAllCalls {T = T} TakesNothingClosed
takes_nothing_closed = all_takes_nothing

pub closes_only_so : {T : Type 0} → AfterAllCalls {T = T} ClosesOnlySo
closes_only_so = all_close_only_so

pub waits_for_hello : {T : Type 0} → AfterAllCalls {T = T} WaitsForHello
waits_for_hello = all_wait
