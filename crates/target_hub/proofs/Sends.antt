-- What the target tells and answers can be sent, and names, reasons and hits stay short.
use Rattle.std.proofs.Common.{◌≡◌, ◌≤◌, ℕ, List, [], ◌∷◌, length, Option, Some, None, IfSome, refl, sym, subst}
use Rattle.command_tables.specs.Canonical.{IsReadable}
use Rattle.command_tables.specs.declared.reading.Reading.TheVariants.{Known, Unknown, Bad}
use Rattle.reply_tables.specs.Rows.{row_named}
use Rattle.reply_tables.specs.Written.{answer_data}
use Rattle.service_names.specs.Commands.{name_in, named_as}
use Rattle.service_names.specs.Events.{name_of, service_of, told_as}
use Rattle.service_names.specs.declared.commands.CommandName.{CommandName}
use Rattle.service_names.specs.declared.commands.CommandName.TheVariants as service
use Rattle.service_names.specs.declared.events.EventName.{EventName}
use Rattle.service_names.specs.declared.events.EventName.TheVariants.{Hello, CtxAdded, CtxChanged, CtxRemoved, Suspended, Resumed, BpStatusIs, BpAdded, BpChanged, BpRemoved, MemChanged, RegChanged, RegsChanged, Exited}
use Rattle.tcf_values.specs.declared.command.Command.{Command}
use Rattle.tcf_values.specs.declared.event.EventData.{EventData}
use Rattle.breakpoints.specs.Rows.{ids_of}
use Rattle.run_control.specs.Commands.{run_after, run_fault, run_left}
use Rattle.run_control.specs.Laws.{uncounted}
use Rattle.run_control.specs.Ticking.{running_pair, tick_after}
use Rattle.target_contexts.specs.Live.{IsOrderly}
use Rattle.target_contexts.specs.Short.{AllShort, AreShort}
use Rattle.target_hub.specs.Answering.{refusal}
use Rattle.target_hub.specs.Execution.{after_in, effect_in, exec_after, exec_effect}
use Rattle.target_hub.specs.Sendable.{AnswersAreSendable, AreSendable, ClosingsTellSendable, CommandsKeepShort, CommandsTellSendable, HasNoZero, IsBounded, IsSendable, IsSendableEvent, TicksKeepShort, TicksTellSendable}
use Rattle.run_control.specs.TargetValue.{TargetValue}
use Rattle.command_tables.proofs.TheLaws.{known_are_readable}
use Rattle.data_services.proofs.TheLaws.{short_stays}
use Rattle.reply_tables.proofs.TheLaws.{answers_fit, events_fit, refusals_fit}
use Rattle.run_control.proofs.TheLaws.{commands_change_counts, commands_keep_order, commands_keep_short, ticks_change_counts, ticks_keep_order, ticks_keep_short}
use Rattle.target_hub.proofs.Points.{length_like, readable_like, unless_fault}
use Rattle.target_hub.proofs.Small.{AreBounded, AreSmall, ids_words}
use Rattle.target_hub.proofs.SmallAnswers.{exec_answer_small}
use Rattle.target_hub.proofs.SmallGiven.{breakpoints_told, data_told, removed_small, run_told, tick_told_small}

-- ---- what is small can be sent

service_plain : (event : EventName) → HasNoZero (service_of event)
service_plain Hello = refl
service_plain CtxAdded = refl
service_plain CtxChanged = refl
service_plain CtxRemoved = refl
service_plain Suspended = refl
service_plain Resumed = refl
service_plain BpStatusIs = refl
service_plain BpAdded = refl
service_plain BpChanged = refl
service_plain BpRemoved = refl
service_plain MemChanged = refl
service_plain RegChanged = refl
service_plain RegsChanged = refl
service_plain Exited = refl

name_plain : (event : EventName) → HasNoZero (name_of event)
name_plain Hello = refl
name_plain CtxAdded = refl
name_plain CtxChanged = refl
name_plain CtxRemoved = refl
name_plain Suspended = refl
name_plain Resumed = refl
name_plain BpStatusIs = refl
name_plain BpAdded = refl
name_plain BpChanged = refl
name_plain BpRemoved = refl
name_plain MemChanged = refl
name_plain RegChanged = refl
name_plain RegsChanged = refl
name_plain Exited = refl

sendable : (told : List EventData) → AreSmall told → AreSendable told
sendable [] small = tt
sendable (event ∷ told) small =
    let first : IsSendableEvent event = record { size = events_fit event small.0; service = service_plain (told_as event); name = name_plain (told_as event) } in
    (first, sendable told small.1)

if_sendable : (told : Option (List EventData)) → IfSome told AreSmall → IfSome told AreSendable
if_sendable None small = tt
if_sendable (Some told) small = sendable told small

-- ---- what is bounded stays so

now_bounded : (target : TargetValue) → IsBounded target → AreBounded target
now_bounded target bounded = record {
  short = bounded.processes;
  few = bounded.orderly.few;
  properties = bounded.properties;
  listed = bounded.listed.few;
}

ids_short : (target : TargetValue) → IsBounded target → AreShort (ids_of target.breakpoints)
ids_short target bounded = ids_words target.breakpoints bounded.listed.few bounded.properties

-- a target whose breakpoints differ in counts alone
counted_bounded : (target after : TargetValue) → IsBounded target → uncounted after.breakpoints ≡ uncounted target.breakpoints → AllShort after.contexts.processes → IsOrderly after.contexts.processes after.contexts.next → AreBounded after
counted_bounded target after bounded same short orderly = record {
  short = short;
  few = orderly.few;
  properties = readable_like after.breakpoints target.breakpoints same bounded.properties;
  listed = subst (λ (n : ℕ). n ≤ 256) (sym (length_like after.breakpoints target.breakpoints same)) bounded.listed.few;
}

-- the target after a command of run control that isn't refused
left_bounded : (command : Command) (target : TargetValue) → IsBounded target → run_fault command target.contexts ≡ None → AreBounded (run_left command target)
left_bounded command target bounded none =
    unless_fault AreBounded (run_fault command target.contexts) (run_left command target) target
    (counted_bounded target (run_after command target) bounded (commands_change_counts command target)
    (commands_keep_short command target (ids_short target bounded) bounded.processes) (commands_keep_order command target bounded.orderly)) none

-- ---- commands

told_in : (name : CommandName) (channel : ℕ) (command : Command) (target : TargetValue) → IsReadable command → IsBounded target → AreSmall (effect_in name channel command target).events
told_in (service.Locator name) channel command target readable bounded = tt
told_in (service.RunControl name) channel command target readable bounded =
    run_told command target bounded.processes (left_bounded command target bounded)
told_in (service.Breakpoints name) channel command target readable bounded = breakpoints_told channel command target readable (now_bounded target bounded)
told_in (service.Memory name) channel command target readable bounded = data_told command target.contexts
told_in (service.Registers name) channel command target readable bounded = data_told command target.contexts
told_in (service.Processes name) channel command target readable bounded =
    run_told command target bounded.processes (left_bounded command target bounded)
told_in (service.Trace name) channel command target readable bounded =
    run_told command target bounded.processes (left_bounded command target bounded)

exec_sendable : (channel : ℕ) (command : Command) (target : TargetValue) → IsReadable command → IsBounded target → AreSendable (exec_effect channel command target).events
unfolding exec_effect
exec_sendable channel command target readable bounded =
    sendable (exec_effect channel command target).events (told_in (named_as command) channel command target readable bounded)

pub commands_sendable : CommandsTellSendable
commands_sendable channel service name (Known command) target is bounded = exec_sendable channel command target (known_are_readable service name command is).1 bounded
commands_sendable channel service name Unknown target is bounded = tt
commands_sendable channel service name (Bad index code) target is bounded = tt

refusal_fits : (command : Option CommandName) (code : ℕ) → IsSendable (refusal command code)
refusal_fits None code = tt
refusal_fits (Some command) code = refusals_fit (row_named command) code

exec_fits : (channel : ℕ) (command : Command) (target : TargetValue) → IsBounded target → length (answer_data command (exec_effect channel command target).answer) ≤ 1048576
exec_fits channel command target bounded =
    answers_fit command (exec_effect channel command target).answer
    (exec_answer_small channel command target (now_bounded target bounded) (λ none. (left_bounded command target bounded none).short))

pub answers_sendable : AnswersAreSendable
answers_sendable channel service name (Known command) target bounded = exec_fits channel command target bounded
answers_sendable channel service name Unknown target bounded = tt
answers_sendable channel service name (Bad index code) target bounded = refusal_fits (name_in service name) code

short_in : (name : CommandName) (channel : ℕ) (command : Command) (target : TargetValue) → IsBounded target → AllShort (after_in name channel command target).contexts.processes
short_in (service.Locator name) channel command target bounded = bounded.processes
short_in (service.RunControl name) channel command target bounded = commands_keep_short command target (ids_short target bounded) bounded.processes
short_in (service.Breakpoints name) channel command target bounded = bounded.processes
short_in (service.Memory name) channel command target bounded = short_stays command target.contexts bounded.processes
short_in (service.Registers name) channel command target bounded = short_stays command target.contexts bounded.processes
short_in (service.Processes name) channel command target bounded = commands_keep_short command target (ids_short target bounded) bounded.processes
short_in (service.Trace name) channel command target bounded = commands_keep_short command target (ids_short target bounded) bounded.processes

exec_short : (channel : ℕ) (command : Command) (target : TargetValue) → IsBounded target → AllShort (exec_after channel command target).contexts.processes
unfolding exec_after
exec_short channel command target bounded = short_in (named_as command) channel command target bounded

pub commands_short : CommandsKeepShort
commands_short channel (Known command) target bounded = exec_short channel command target bounded
commands_short channel Unknown target bounded = bounded.processes
commands_short channel (Bad index code) target bounded = bounded.processes

-- ---- ticks and closings

pub ticks_short : TicksKeepShort
ticks_short thread target bounded = ticks_keep_short thread target (ids_short target bounded) bounded.processes

pub ticks_sendable : TicksTellSendable
ticks_sendable thread target bounded =
    let after : AreBounded (tick_after thread target) =
    counted_bounded target (tick_after thread target) bounded (ticks_change_counts thread target) (ticks_short thread target bounded) (ticks_keep_order thread target bounded.orderly) in
    if_sendable _ (tick_told_small target (running_pair thread target.contexts.processes) bounded.processes bounded.listed.few after)

pub closings_sendable : ClosingsTellSendable
closings_sendable channel target bounded = sendable _ (removed_small channel target.breakpoints bounded.listed.few bounded.properties)
