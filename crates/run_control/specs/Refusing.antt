-- What a refused command leaves.
use Rattle.tcf_values.specs.declared.faults.Refusal.{Refusal}
use Rattle.tcf_values.specs.declared.faults.Refusal.TheVariants.{Due, NoMemory}

-- what holds where a check failed; after want of memory nothing is known
abbrev pub IfDue : Refusal → Type 0 → Type 0
IfDue (Due fault) fact = fact
IfDue NoMemory fact = Unit {0}
