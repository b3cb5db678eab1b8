-- What a client heard of the target is what its one history says.
use Rattle.std.specs.Prelude.{ℕ, ◌≡◌, ◌+◌, ◌≤◌, List, [], ◌∷◌, ◌++◌, Option, None, Some, true, false, Bool, not, ◌&&◌, map, length, ◌==◌}
use Rattle.std.specs.Option.{IsSomeAnd}
use Rattle.std.specs.List.{flat_map, filter, list_any, Contains}
use Rattle.tcf_text.specs.declared.log.LogLine.{LogLine}
use Rattle.tcf_text.specs.declared.log.LogLine.TheVariants.{Hello, Event, Progress, Final, Unknown}
use Rattle.target_contexts.specs.declared.process.Image.{Image}
use Rattle.target_hub.specs.declared.input.Input.{Input}
use Rattle.target_hub.specs.declared.input.Input.TheVariants.{Opened}
use Rattle.target_hub.specs.Sent.{executed_on, is_through, sent}
use Rattle.tcf_text.specs.Each.{Each}
use Rattle.tcf_text.specs.Lines.{Accepted, accepted, last_mark, is_placed_hello, from_hello, bare_answer_of}
use Rattle.target_hub.specs.Received.{answer_of, goes_through, is_owed, read, received}
use Rattle.tcf_text.specs.Once.{is_end, numbers}
use Rattle.list_laws.specs.Fronts.{IsFront, IsSubsequenceOf}

-- the history opens the channel k at this position
pub record OpensAt (history : List Input) (position k : ℕ) : Type 0 where
  pub before : List Input
  pub after : List Input
  pub split : history ≡ before ++ Opened k ∷ after
  pub place : position ≡ length before + 1

-- A message after the one that came before it: there is one before it. In a binding whose Hello has a position each
-- has one, and positions never decrease; in another binding none has one.
abbrev pub ComesAfter : Option (Option ℕ) → Option ℕ → Type 0
ComesAfter None mark = ⊥
ComesAfter (Some None) mark = mark ≡ None
ComesAfter (Some (Some position)) mark = IsSomeAnd mark (λ p. position ≤ p)

-- Behind a Hello with a position comes no other one, and at that position the history opens a channel.
abbrev pub OpensOnce : List Input → List LogLine → Option ℕ → Type 0
OpensOnce history before None = list_any is_placed_hello before ≡ false
OpensOnce history before (Some position) = (list_any is_placed_hello before ≡ false) × ((k : ℕ) × OpensAt history position k)

-- the place of a line among the positions
abbrev pub IsPlaced : List Input → List LogLine → LogLine → Type 0
IsPlaced history before (Hello mark body) = OpensOnce history before mark
IsPlaced history before (Event mark service name body) = ComesAfter (last_mark before) mark
IsPlaced history before (Progress number mark body) = ComesAfter (last_mark before) mark
IsPlaced history before (Final number mark body) = ComesAfter (last_mark before) mark
IsPlaced history before (Unknown number mark) = ComesAfter (last_mark before) mark
IsPlaced history before line = Unit {0}

-- the position of the Hello that began the target's binding
abbrev pub hello_position : List LogLine → Option ℕ
hello_position [] = None
hello_position (Hello (Some position) body ∷ lines) = Some position
hello_position (line ∷ lines) = hello_position lines

-- k is the channel on which the log was made: the one that the history opens at the position of that Hello
pub record IsChannelOf (log : List LogLine) (history : List Input) (k : ℕ) : Type 0 where
  pub position : ℕ
  pub hello : hello_position (from_hello log) ≡ Some position
  pub opened : OpensAt history position k

-- the through commands that were accepted, but for those that a message without a position answered
abbrev pub through : List LogLine → List Accepted
through log = filter (λ c. goes_through c && not (list_any (λ number. number == c.number) (flat_map bare_answer_of log))) (accepted log)

-- what was received, but for answers to storable commands, is the front of what the target told the channel k, in order, with
-- positions and data
abbrev pub IsToldInOrder : List Image → List Input → List LogLine → ℕ → Type 0
IsToldInOrder images history log k = IsFront (filter is_owed (received log)) (filter is_owed (sent images k history))

-- What the history executes on the channel k is what the log asked for.
pub record ExecutesItsCommands (history : List Input) (log : List LogLine) (k : ℕ) : Type 0 where
  -- the through commands that were executed are the front of those that went through, and the answers are theirs, in order
  pub executed : IsFront (filter (λ c. is_through c.reading) (executed_on k history)) (map read (through log))
  pub answers : IsFront (flat_map (answer_of (accepted log)) (from_hello log)) (numbers (through log))
  -- nothing else was executed
  pub accepted : IsSubsequenceOf (executed_on k history) (map read (accepted log))

-- What a log owes to the one history of the target, on the channel k that it was made on.
pub record FollowsTarget (log : List LogLine) (images : List Image) (history : List Input) (k : ℕ) : Type 0 where
  pub told : IsToldInOrder images history log k
  pub executes : ExecutesItsCommands history log k

-- all that the target told on k has come
abbrev pub AllCame : List LogLine → List Image → List Input → ℕ → Type 0
AllCame log images history k = filter is_owed (received log) ≡ filter is_owed (sent images k history)

-- Positions never go back within a binding; what was received is what the one history of the target tells the
-- channel, and all of it where nothing is under way and the log has no end; and of the channels that the chain had, no
-- other executes a command.
pub record Ordered (quiet : Bool) (log : List LogLine) (images : List Image) (history : List Input) (channels : List ℕ) : Type 0 where
  pub positions : Each (IsPlaced history) log
  pub follows : (k : ℕ) → IsChannelOf log history k → FollowsTarget log images history k
  pub all_when_quiet : quiet ≡ true → list_any is_end log ≡ false → (k : ℕ) → IsChannelOf log history k → AllCame log images history k
  pub others : (j : ℕ) → Contains channels j → (IsChannelOf log history j → ⊥) → executed_on j history ≡ []
