-- Which channels were opened and closed, as sets of numbers have it.
use Rattle.std.specs.Prelude.{ℕ, ◌≡◌, Bool, true, not, ◌&&◌, IsSome}
use Rattle.std.specs.BTreeSet.{BTreeSet, contains}
use Rattle.std.specs.Ordering.{nat_cmp}
use Rattle.target_hub.specs.HubValue.{TargetValue}
use Rattle.target_hub.specs.Passing.{tick_told}
use Rattle.target_hub.specs.declared.input.Input.{Input}
use Rattle.target_hub.specs.declared.input.Input.TheVariants.{Opened, Executed, Ticked, Closed}

-- the set has exactly the numbers that the test says
abbrev pub IsSeen : BTreeSet ℕ → (ℕ → Bool) → Type 0
IsSeen set test = (number : ℕ) → contains nat_cmp set number ≡ test number

abbrev pub admits : BTreeSet ℕ → BTreeSet ℕ → Input → Bool
admits opened closed (Opened channel) = not (contains nat_cmp opened channel)
admits opened closed (Executed channel reading service name) = contains nat_cmp opened channel && not (contains nat_cmp closed channel)
admits opened closed (Ticked thread) = true
admits opened closed (Closed channel) = contains nat_cmp opened channel && not (contains nat_cmp closed channel)

-- the thread that the input ticks, if it ticks one, lives and runs
abbrev pub IsRunning : Input → TargetValue → Type 0
IsRunning (Opened channel) target = Unit {0}
IsRunning (Executed channel reading service name) target = Unit {0}
IsRunning (Ticked thread) target = IsSome (tick_told thread target)
IsRunning (Closed channel) target = Unit {0}
