-- A command is found exactly by its service and its name.
use Rattle.std.proofs.Common.{◌≡◌, ℕ, List, cond, refl, sym, ◌∙◌, ap, subst, inl, inr}
use Rattle.std.specs.Prelude.{Option, Some, None, option_map, bytes_eq, codes}
use Rattle.std.specs.Option.{option_or}
use Rattle.std.proofs.lemmas.Bool.{cases_Bool, cond-true, cond-false}
use Rattle.std.proofs.lemmas.Slice.Eq.{bytes_eq-Decides}
use Rattle.service_names.proofs.Found.{named_exact, none_is, some_is}
use Rattle.service_names.specs.CommandLaws.{name_there}
use Rattle.service_names.specs.Named.{named}
use Rattle.service_names.specs.Commands.{NamesAreExact, name_in, name_of, service_of, locator_name, run_control_name, breakpoints_name, memory_name, registers_name, processes_name, trace_name, locator_in, run_control_in, breakpoints_in, memory_in, registers_in, processes_in, trace_in, locator_commands, run_control_commands, memory_commands, registers_commands, processes_commands, trace_commands, breakpoints_changing, breakpoints_asking}
use Rattle.service_names.specs.declared.commands.CommandName.{CommandName}
use Rattle.service_names.specs.declared.commands.CommandName.TheVariants.{Locator, RunControl, Breakpoints, Memory, Registers, Processes, Trace}

either_exact : {A : Type 0} (text : A → List ℕ) (name : List ℕ) (first second : Option A)
    → ((a : A) → first ≡ Some a → name ≡ text a) → ((a : A) → second ≡ Some a → name ≡ text a)
    → (a : A) → option_or first second ≡ Some a → name ≡ text a
either_exact text name None second one other a found = other a found
either_exact text name (Some b) second one other a found = one a found

Exact : List ℕ → List ℕ → CommandName → Type 0
Exact service name command = (service ≡ service_of command) × (name ≡ name_of command)

exact : (service name : List ℕ) (command : CommandName) → service ≡ service_of command → name ≡ name_of command → Exact service name command
unfolding Exact
exact service name command one other = (one, other)

-- the first of the services
served : {A : Type 0} (make : A → CommandName) (service name key : List ℕ) (found : Option A) (rest : Option CommandName) (command : CommandName)
    → ((a : A) → service ≡ key → found ≡ Some a → Exact service name (make a))
    → (rest ≡ Some command → Exact service name command)
    → cond (bytes_eq service key) (option_map make found) rest ≡ Some command → Exact service name command
served make service name key None rest command one later is =
    elim (cases_Bool (bytes_eq service key)) [
      | inl e ↦ absurd (none_is command (sym (cond-true _ _ _ e) ∙ is))
      | inr e ↦ later (sym (cond-false _ _ _ e) ∙ is)
    ]
served make service name key (Some a) rest command one later is =
    elim (cases_Bool (bytes_eq service key)) [
      | inl e ↦ subst (Exact service name) (some_is (make a) command (sym (cond-true _ _ _ e) ∙ is)) (one a ((bytes_eq-Decides service key).0 e) refl)
      | inr e ↦ later (sym (cond-false _ _ _ e) ∙ is)
    ]

none_exact : (service name : List ℕ) (command : CommandName) → ◌≡◌ {A = Option CommandName} None (Some command) → Exact service name command
none_exact service name command is = absurd (none_is command is)

found_exact : (service name : List ℕ) (command : CommandName) → name_in service name ≡ Some command → Exact service name command
found_exact service name command =
    served Locator service name (codes "Locator") (locator_in name) _ command (λ a at is. exact service name (Locator a) at (named_exact locator_name locator_commands name a is))
    (served RunControl service name (codes "RunControl") (run_control_in name) _ command (λ a at is. exact service name (RunControl a) at (named_exact run_control_name run_control_commands name a is))
    (served Breakpoints service name (codes "Breakpoints") (breakpoints_in name) _ command (λ a at is. exact service name (Breakpoints a) at (either_exact breakpoints_name name (named breakpoints_name breakpoints_changing name) (named breakpoints_name breakpoints_asking name) (named_exact breakpoints_name breakpoints_changing name) (named_exact breakpoints_name breakpoints_asking name) a is))
    (served Memory service name (codes "Memory") (memory_in name) _ command (λ a at is. exact service name (Memory a) at (named_exact memory_name memory_commands name a is))
    (served Registers service name (codes "Registers") (registers_in name) _ command (λ a at is. exact service name (Registers a) at (named_exact registers_name registers_commands name a is))
    (served Processes service name (codes "Processes") (processes_in name) _ command (λ a at is. exact service name (Processes a) at (named_exact processes_name processes_commands name a is))
    (served Trace service name (codes "Trace") (trace_in name) _ command (λ a at is. exact service name (Trace a) at (named_exact trace_name trace_commands name a is))
    (none_exact service name command)))))))

there : (service name : List ℕ) (command : CommandName) → service ≡ service_of command → name ≡ name_of command → name_in service name ≡ Some command
there service name command one other =
    ap (λ s. name_in s name) one ∙ (ap (name_in (service_of command)) other ∙ name_there command)

parts : (service name : List ℕ) (command : CommandName) → Exact service name command → (service ≡ service_of command) × (name ≡ name_of command)
unfolding Exact
parts service name command is = (is.0, is.1)

pub exact_law : NamesAreExact
exact_law service name command = (
  λ found. parts service name command (found_exact service name command found),
  λ are. there service name command are.0 are.1,
)
