-- The events of the services and what they are called (TCF service pages).
use Rattle.std.specs.Prelude.{ℕ, ◌≡◌, ◌↔◌, List, [], ◌∷◌, Option, None, Some, if◌then◌else◌, codes, bytes_eq}
use Rattle.tcf_values.specs.declared.event.EventData.{EventData}
use Rattle.service_names.specs.Named.{named}
use Rattle.service_names.specs.declared.events.EventName.{EventName}
use Rattle.service_names.specs.declared.events.EventName.TheVariants.{Hello, CtxAdded, CtxChanged, CtxRemoved, Suspended, Resumed, BpStatusIs, BpAdded, BpChanged, BpRemoved, MemChanged, RegChanged, RegsChanged, Exited}

-- the service that sends an event
abbrev pub service_of : EventName → List ℕ
service_of Hello = codes "Locator"
service_of CtxAdded = codes "RunControl"
service_of CtxChanged = codes "RunControl"
service_of CtxRemoved = codes "RunControl"
service_of Suspended = codes "RunControl"
service_of Resumed = codes "RunControl"
service_of BpStatusIs = codes "Breakpoints"
service_of BpAdded = codes "Breakpoints"
service_of BpChanged = codes "Breakpoints"
service_of BpRemoved = codes "Breakpoints"
service_of MemChanged = codes "Memory"
service_of RegChanged = codes "Registers"
service_of RegsChanged = codes "Registers"
service_of Exited = codes "Processes"

-- its name in the service
abbrev pub name_of : EventName → List ℕ
name_of Hello = codes "Hello"
name_of CtxAdded = codes "contextAdded"
name_of CtxChanged = codes "contextChanged"
name_of CtxRemoved = codes "contextRemoved"
name_of Suspended = codes "contextSuspended"
name_of Resumed = codes "contextResumed"
name_of BpStatusIs = codes "status"
name_of BpAdded = codes "contextAdded"
name_of BpChanged = codes "contextChanged"
name_of BpRemoved = codes "contextRemoved"
name_of MemChanged = codes "memoryChanged"
name_of RegChanged = codes "registerChanged"
name_of RegsChanged = codes "contextChanged"
name_of Exited = codes "exited"

abbrev pub locator_events : List EventName
locator_events = Hello ∷ []

abbrev pub run_control_events : List EventName
run_control_events = CtxAdded ∷ CtxChanged ∷ CtxRemoved ∷ Suspended ∷ Resumed ∷ []

abbrev pub breakpoints_events : List EventName
breakpoints_events = BpStatusIs ∷ BpAdded ∷ BpChanged ∷ BpRemoved ∷ []

abbrev pub memory_events : List EventName
memory_events = MemChanged ∷ []

abbrev pub registers_events : List EventName
registers_events = RegChanged ∷ RegsChanged ∷ []

abbrev pub processes_events : List EventName
processes_events = Exited ∷ []

-- the event of this service and name
abbrev pub event_named : List ℕ → List ℕ → Option EventName
event_named service name =
    if bytes_eq service (codes "Locator") then named name_of locator_events name
    else if bytes_eq service (codes "RunControl") then named name_of run_control_events name
    else if bytes_eq service (codes "Breakpoints") then named name_of breakpoints_events name
    else if bytes_eq service (codes "Memory") then named name_of memory_events name
    else if bytes_eq service (codes "Registers") then named name_of registers_events name
    else if bytes_eq service (codes "Processes") then named name_of processes_events name
    else None

-- the name of an event
abbrev pub told_as : EventData → EventName
told_as (EventData.Hello list) = Hello
told_as (EventData.CtxAdded list) = CtxAdded
told_as (EventData.CtxChanged list) = CtxChanged
told_as (EventData.CtxRemoved list) = CtxRemoved
told_as (EventData.Suspended id pc reason hits) = Suspended
told_as (EventData.Resumed id) = Resumed
told_as (EventData.BpStatusIs id status) = BpStatusIs
told_as (EventData.BpAdded list) = BpAdded
told_as (EventData.BpChanged list) = BpChanged
told_as (EventData.BpRemoved list) = BpRemoved
told_as (EventData.MemChanged id list) = MemChanged
told_as (EventData.RegChanged id) = RegChanged
told_as EventData.RegsChanged = RegsChanged
told_as (EventData.Exited id code) = Exited

-- the law: each event has one service and one name, and no other event has both
abbrev pub EventNamesAreExact : Type 0
EventNamesAreExact = (service name : List ℕ) (event : EventName)
    → (event_named service name ≡ Some event) ↔ ((service ≡ service_of event) × (name ≡ name_of event))
