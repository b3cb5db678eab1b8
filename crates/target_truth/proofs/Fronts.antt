-- The first inputs of a history, and each of its inputs.
use Rattle.std.proofs.Common.{◌≡◌, List, [], ◌∷◌, ◌++◌, refl, sym, ◌∙◌, ap}
use Rattle.std.specs.List.{AllByRecursion}
use Rattle.std.proofs.lemmas.List.{append_assoc}
use Rattle.command_tables.specs.Canonical.{IsReadable}
use Rattle.command_tables.specs.declared.reading.Reading.TheVariants.{Known, Unknown, Bad}
use Rattle.target_contexts.specs.declared.process.Image.{Image}
use Rattle.target_hub.specs.History.{IsAllowed, IsLegal, input_after, inputs_after}
use Rattle.target_hub.specs.HubValue.{new_target}
use Rattle.target_hub.specs.declared.input.Input.{Input}
use Rattle.target_hub.specs.declared.input.Input.TheVariants.{Opened, Executed, Ticked, Closed}
use Rattle.command_tables.proofs.TheLaws.{known_are_readable}
use Rattle.run_control.specs.TargetValue.{TargetValue}

pub inputs_append : (some more : List Input) (target : TargetValue) → inputs_after (some ++ more) target ≡ inputs_after more (inputs_after some target)
inputs_append [] more target = refl
inputs_append (input ∷ some) more target = inputs_append some more (input_after input target)

pub front_legal : (images : List Image) (before rest : List Input) → IsLegal images (before ++ rest) → IsLegal images before
front_legal images before rest legal some input more is =
    legal some input (more ++ rest) (ap (λ (inputs : List Input). inputs ++ rest) is ∙ append_assoc some (input ∷ more) rest)

-- ---- what a legal history executes is read from data

abbrev pub IsReadInput : Input → Type 0
IsReadInput (Opened channel) = Unit {0}
IsReadInput (Executed channel (Known command) service name) = IsReadable command
IsReadInput (Executed channel Unknown service name) = Unit {0}
IsReadInput (Executed channel (Bad index code) service name) = Unit {0}
IsReadInput (Ticked thread) = Unit {0}
IsReadInput (Closed channel) = Unit {0}

read_input : (before : List Input) (target : TargetValue) (input : Input) → IsAllowed before target input → IsReadInput input
read_input before target (Opened channel) allowed = tt
read_input before target (Executed channel (Known command) service name) allowed = (known_are_readable service name command allowed.1).1
read_input before target (Executed channel Unknown service name) allowed = tt
read_input before target (Executed channel (Bad index code) service name) allowed = tt
read_input before target (Ticked thread) allowed = tt
read_input before target (Closed channel) allowed = tt

each_read : (before inputs : List Input) → ((some : List Input) (input : Input) (more : List Input) → before ++ inputs ≡ some ++ input ∷ more → IsReadInput input)
    → AllByRecursion IsReadInput inputs
each_read before [] read = tt
each_read before (input ∷ inputs) read =
    (read before input inputs refl, each_read (before ++ input ∷ []) inputs (λ some other more is. read some other more (sym (append_assoc before (input ∷ []) inputs) ∙ is)))

pub inputs_read : (images : List Image) (history : List Input) → IsLegal images history → AllByRecursion IsReadInput history
inputs_read images history legal =
    each_read [] history (λ some input more is. read_input some (inputs_after some (new_target images)) input (legal some input more is))
