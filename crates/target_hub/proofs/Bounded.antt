-- What the target holds is bounded after every legal list of inputs.
use Rattle.std.proofs.Common.{List, [], ◌∷◌, ◌++◌, sym, ◌∙◌, ap, subst, append_assoc}
use Rattle.std.proofs.lemmas.List.{append-nil}
use Rattle.target_contexts.specs.Short.{AllShort}
use Rattle.target_contexts.specs.declared.process.Image.{Image}
use Rattle.target_hub.specs.History.{IsLegal, input_after, inputs_after}
use Rattle.target_hub.specs.HistoryLaws.{StaysBounded}
use Rattle.target_hub.specs.HubValue.{new_target}
use Rattle.target_hub.specs.Sendable.{IsBounded}
use Rattle.target_hub.specs.declared.input.Input.{Input}
use Rattle.target_hub.specs.declared.input.Input.TheVariants.{Opened, Executed, Ticked, Closed}
use Rattle.run_control.specs.TargetValue.{TargetValue}
use Rattle.target_hub.proofs.Histories.{inputs_append, stays_consistent}
use Rattle.target_hub.proofs.Sends.{commands_short, ticks_short}

abbrev after : List Image → List Input → TargetValue
after images inputs = inputs_after inputs (new_target images)

-- the front of a legal list is legal
pub front_legal : (images : List Image) (front rest : List Input) → IsLegal images (front ++ rest) → IsLegal images front
front_legal images front rest legal before input more split =
    legal before input (more ++ rest) (ap (λ (inputs : List Input). inputs ++ rest) split ∙ append_assoc before (input ∷ more) rest)

bounded_by : (images : List Image) (inputs : List Input) → IsLegal images inputs → AllShort (after images inputs).contexts.processes → IsBounded (after images inputs)
bounded_by images inputs legal short =
    let holds = stays_consistent images inputs legal in
    record { processes = short; orderly = holds.processes; listed = holds.breakpoints; properties = holds.properties }

input_short : (input : Input) (target : TargetValue) → IsBounded target → AllShort (input_after input target).contexts.processes
input_short (Opened channel) target bounded = bounded.processes
input_short (Executed channel reading service name) target bounded = commands_short channel reading target bounded
input_short (Ticked thread) target bounded = ticks_short thread target bounded
input_short (Closed channel) target bounded = bounded.processes

all_short : (images : List Image) (before rest : List Input) → IsLegal images (before ++ rest) → AllShort (after images before).contexts.processes → AllShort (after images (before ++ rest)).contexts.processes
all_short images before [] legal short = subst (λ (inputs : List Input). AllShort (after images inputs).contexts.processes) (sym (append-nil before)) short
all_short images before (input ∷ rest) legal short =
    let together = append_assoc before (input ∷ []) rest in
    let bounded = bounded_by images before (front_legal images before (input ∷ rest) legal) short in
    let next : AllShort (after images (before ++ input ∷ [])).contexts.processes =
    subst (λ (target : TargetValue). AllShort target.contexts.processes) (sym (inputs_append before (input ∷ []) (new_target images))) (input_short input (after images before) bounded) in
    subst (λ (inputs : List Input). AllShort (after images inputs).contexts.processes) together
    (all_short images (before ++ input ∷ []) rest (subst (IsLegal images) (sym together) legal) next)

pub stays_bounded : StaysBounded
stays_bounded images inputs legal = bounded_by images inputs legal (all_short images [] inputs legal tt)
