-- An event is found exactly by its service and its name.
use Rattle.std.proofs.Common.{◌≡◌, ℕ, List, cond, refl, sym, ◌∙◌, ap, inl, inr}
use Rattle.std.specs.Prelude.{Option, Some, None, bytes_eq, codes}
use Rattle.std.specs.List.{AllByRecursion}
use Rattle.std.proofs.lemmas.Bool.{cases_Bool, cond-true, cond-false}
use Rattle.std.proofs.lemmas.Slice.Eq.{bytes_eq-Decides}
use Rattle.service_names.proofs.Found.{named_exact, named_one, none_is}
use Rattle.service_names.specs.EventLaws.{event_there}
use Rattle.service_names.specs.Events.{EventNamesAreExact, event_named, name_of, service_of, locator_events, run_control_events, breakpoints_events, memory_events, registers_events, processes_events}
use Rattle.service_names.specs.Named.{named}
use Rattle.service_names.specs.declared.events.EventName.{EventName}

Exact : List ℕ → List ℕ → EventName → Type 0
Exact service name event = (service ≡ service_of event) × (name ≡ name_of event)

exact : (service name : List ℕ) (event : EventName) → service ≡ service_of event → name ≡ name_of event → Exact service name event
unfolding Exact
exact service name event one other = (one, other)

parts : (service name : List ℕ) (event : EventName) → Exact service name event → (service ≡ service_of event) × (name ≡ name_of event)
unfolding Exact
parts service name event is = (is.0, is.1)

-- the first of the services
served : (service name key : List ℕ) (all : List EventName) (rest : Option EventName) (event : EventName)
    → AllByRecursion (λ (e : EventName). service_of e ≡ key) all
    → (rest ≡ Some event → Exact service name event)
    → cond (bytes_eq service key) (named name_of all name) rest ≡ Some event → Exact service name event
served service name key all rest event each later is =
    elim (cases_Bool (bytes_eq service key)) [
      | inl e ↦
          let found : named name_of all name ≡ Some event = sym (cond-true _ _ _ e) ∙ is in
          exact service name event
          ((bytes_eq-Decides service key).0 e ∙ sym (named_one name_of all name (λ (e : EventName). service_of e ≡ key) each event found))
          (named_exact name_of all name event found)
      | inr e ↦ later (sym (cond-false _ _ _ e) ∙ is)
    ]

none_exact : (service name : List ℕ) (event : EventName) → ◌≡◌ {A = Option EventName} None (Some event) → Exact service name event
none_exact service name event is = absurd (none_is event is)

found_exact : (service name : List ℕ) (event : EventName) → event_named service name ≡ Some event → Exact service name event
found_exact service name event =
    served service name (codes "Locator") locator_events _ event (refl, tt)
    (served service name (codes "RunControl") run_control_events _ event (refl, (refl, (refl, (refl, (refl, tt)))))
    (served service name (codes "Breakpoints") breakpoints_events _ event (refl, (refl, (refl, (refl, tt))))
    (served service name (codes "Memory") memory_events _ event (refl, tt)
    (served service name (codes "Registers") registers_events _ event (refl, (refl, tt))
    (served service name (codes "Processes") processes_events _ event (refl, tt)
    (none_exact service name event))))))

there : (service name : List ℕ) (event : EventName) → service ≡ service_of event → name ≡ name_of event → event_named service name ≡ Some event
there service name event one other =
    ap (λ s. event_named s name) one ∙ (ap (event_named (service_of event)) other ∙ event_there event)

pub exact_law : EventNamesAreExact
exact_law service name event = (
  λ found. parts service name event (found_exact service name event found),
  λ are. there service name event are.0 are.1,
)
