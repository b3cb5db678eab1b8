-- Each event is found by its service and its name.
use Rattle.std.specs.Prelude.{◌≡◌, Some, refl}
use Rattle.service_names.specs.Events.{event_named, name_of, service_of}
use Rattle.service_names.specs.declared.events.EventName.{EventName}
use Rattle.service_names.specs.declared.events.EventName.TheVariants.{Hello, CtxAdded, CtxChanged, CtxRemoved, Suspended, Resumed, BpStatusIs, BpAdded, BpChanged, BpRemoved, MemChanged, RegChanged, RegsChanged, Exited}

pub event_there : (event : EventName) → event_named (service_of event) (name_of event) ≡ Some event
event_there Hello = refl
event_there CtxAdded = refl
event_there CtxChanged = refl
event_there CtxRemoved = refl
event_there Suspended = refl
event_there Resumed = refl
event_there BpStatusIs = refl
event_there BpAdded = refl
event_there BpChanged = refl
event_there BpRemoved = refl
event_there MemChanged = refl
event_there RegChanged = refl
event_there RegsChanged = refl
event_there Exited = refl
