-- Commands of a log against those that a channel executed, one by one.
use Rattle.std.specs.Prelude.{ℕ, ◌≡◌, ◌↔◌, List, ◌++◌, filter, map, Option, Some, None}
use Rattle.list_laws.specs.Fronts.{IsFront, IsSubsequenceOf}
use Rattle.tcf_text.specs.Once.{numbers}
use Rattle.target_hub.specs.Received.{read}
use Rattle.target_hub.specs.Sent.{ReadCommand, executed_by, executed_on, is_through}
use Rattle.target_hub.specs.declared.input.Input.{Input}
use Rattle.log_check.specs.Sorts.{as_accepted, passes}
use Rattle.log_check.specs.declared.executed.ExecutedCommand.{ExecutedCommand}
use Rattle.log_check.specs.declared.sorts.Command.{Command}

-- what a channel executed, as the history has it
abbrev pub read_as : ExecutedCommand → ReadCommand
read_as e = record { reading = e.reading.now; service = e.service.now; name = e.name.now }

-- the command was sent under the names of the one that was executed
pub record IsNamedAlike (sent : Command) (e : ExecutedCommand) : Type 0 where
  pub service : sent.service.now ≡ e.service.now
  pub name : sent.name.now ≡ e.name.now

-- commands of a log, as a history has them once they are executed
abbrev pub as_read : List Command → List ReadCommand
as_read commands = map read (as_accepted commands)

-- those of them that go through, and their numbers
abbrev pub passing : List Command → List ReadCommand
passing commands = as_read (filter passes commands)

abbrev pub passing_numbers : List Command → List ℕ
passing_numbers commands = numbers (as_accepted (filter passes commands))

-- what the channel executes that no peer but the target answers
abbrev pub through_by : ℕ → Input → List ReadCommand
through_by k input = filter (λ c. is_through c.reading) (executed_by k input)

abbrev pub through_on : ℕ → List Input → List ReadCommand
through_on k inputs = filter (λ c. is_through c.reading) (executed_on k inputs)

-- These come next in the list, and what comes later meets the rest of it. R is that the first is the front of the second,
-- or that it is left of it where some are taken out.
pub record Finds {A : Type 0} (R : List A → List A → Type 0) (xs all rest : List A) : Type 0 where
  pub before : (later : List A) → R (xs ++ later) all ↔ R later rest

-- these don't come, whatever comes later
pub record Misses {A : Type 0} (R : List A → List A → Type 0) (xs all : List A) : Type 0 where
  pub never : (later : List A) → R (xs ++ later) all → ⊥

abbrev pub Matched : {A : Type 0} → (List A → List A → Type 0) → List A → List A → Option (List A) → Type 0
Matched R xs all None = Misses R xs all
Matched R xs all (Some rest) = Finds R xs all rest

abbrev pub AreFront : List ReadCommand → List ReadCommand → Type 0
AreFront front all = IsFront front all

abbrev pub AreLeft : List ReadCommand → List ReadCommand → Type 0
AreLeft xs all = IsSubsequenceOf xs all

abbrev pub NumbersAreFront : List ℕ → List ℕ → Type 0
NumbersAreFront front all = IsFront front all
