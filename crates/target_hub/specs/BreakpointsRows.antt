-- What the commands of the service Breakpoints give and what they leave (TCF service Breakpoints).
use Rattle.std.specs.Prelude.{ℕ, not, ◌&&◌, if◌then◌else◌, List, [], ◌∷◌, ◌++◌, map, Option, Some, None, is_none}
use Rattle.tcf_values.specs.Effects.{effect_by, gives, tells}
use Rattle.tcf_values.specs.Errors.{report_of}
use Rattle.tcf_values.specs.Faults.{first_fault}
use Rattle.tcf_values.specs.declared.answer.Answer.{Answer}
use Rattle.tcf_values.specs.declared.answer.Answer.TheVariants as answers
use Rattle.tcf_values.specs.declared.command.Command.{Command}
use Rattle.tcf_values.specs.declared.command.Command.TheVariants.{BpIds, BpProperties, BpGetStatus, BpCapabilities}
use Rattle.tcf_values.specs.declared.effect.Effect.{Effect}
use Rattle.tcf_values.specs.declared.event.EventData.{EventData}
use Rattle.tcf_values.specs.declared.event.EventData.TheVariants as events
use Rattle.tcf_values.specs.declared.faults.Fault.{Fault}
use Rattle.tcf_values.specs.declared.faults.Fault.TheVariants.{Other, BadContext}
use Rattle.tcf_values.specs.declared.values.BpProps.{BpProps}
use Rattle.tcf_values.specs.declared.values.BpStatus.{BpStatus}
use Rattle.target_contexts.specs.Named.{attached_in, holder_named}
use Rattle.breakpoints.specs.Changes.{after, changes_list, done}
use Rattle.breakpoints.specs.Rows.{ids_of, props_of}
use Rattle.breakpoints.specs.Status.{status_of}
use Rattle.breakpoints.specs.Statuses.{status_event}
use Rattle.breakpoints.specs.declared.breakpoints.BpDone.{BpDone}
use Rattle.breakpoints.specs.declared.breakpoints.BpDone.TheVariants.{Failed, Changed}
use Rattle.run_control.specs.Naming.{is_empty}
use Rattle.run_control.specs.TargetValue.{TargetValue}
use Rattle.breakpoints.specs.declared.rows.Placed.{Placed}

-- ---- the commands that change the list: what was taken out, what is new, what is changed, each where there is some,
-- and then the status of each new or changed one

abbrev pub removed_events : List (List ℕ) → List EventData
removed_events [] = []
removed_events (id ∷ ids) = events.BpRemoved (id ∷ ids) ∷ []

abbrev pub added_events : List BpProps → List EventData
added_events [] = []
added_events (props ∷ list) = events.BpAdded (props ∷ list) ∷ []

abbrev pub changed_events : List BpProps → List EventData
changed_events [] = []
changed_events (props ∷ list) = events.BpChanged (props ∷ list) ∷ []

abbrev pub status_events : List ℕ → List BpProps → List EventData
status_events attached list = map (status_event attached) list

abbrev pub effect_of : List ℕ → BpDone → Effect
effect_of attached (Failed code) = gives (answers.Failed (report_of code))
effect_of attached (Changed removed added changed) =
    tells (removed_events removed ++ (added_events added ++ (changed_events changed
    ++ (status_events attached added ++ status_events attached changed)))) answers.Nothing

-- ---- the commands that ask

-- a breakpoint that isn't there, or an ID, other than the empty one, of no live process or thread
abbrev pub ask_fault : Command → TargetValue → Option Fault
ask_fault (BpProperties id) target = first_fault ((is_none (props_of id target.breakpoints), Other) ∷ [])
ask_fault (BpGetStatus id) target = first_fault ((is_none (props_of id target.breakpoints), Other) ∷ [])
ask_fault (BpCapabilities id) target =
    first_fault ((not (is_empty id) && is_none (holder_named id target.contexts.processes), BadContext) ∷ [])
ask_fault _ target = None

abbrev pub props_answer : Option BpProps → Answer
props_answer None = answers.Nothing
props_answer (Some props) = answers.Bp props

abbrev pub status_answer : Option BpStatus → Answer
status_answer None = answers.Nothing
status_answer (Some status) = answers.Status status

abbrev pub ask_answer : Command → List ℕ → List Placed → Answer
ask_answer BpIds attached rows = answers.Ids (ids_of rows)
ask_answer (BpProperties id) attached rows = props_answer (props_of id rows)
ask_answer (BpGetStatus id) attached rows = status_answer (status_of id attached rows)
ask_answer (BpCapabilities id) attached rows = answers.Capabilities
ask_answer _ attached rows = answers.Nothing

-- ---- both

abbrev pub breakpoints_effect : ℕ → Command → TargetValue → Effect
breakpoints_effect channel command target =
    let attached = attached_in target.contexts.processes in
    if changes_list command then effect_of attached (done channel command target.breakpoints)
    else effect_by (ask_fault command target) (gives (ask_answer command attached target.breakpoints))

abbrev pub breakpoints_after : ℕ → Command → TargetValue → TargetValue
breakpoints_after channel command target = record target { breakpoints = after channel command target.breakpoints }
