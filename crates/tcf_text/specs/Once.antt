-- Each command is answered once.
use Rattle.std.specs.Prelude.{ℕ, ◌≡◌, ◌<◌, List, length, Option, None, Some, Bool, true, false, map}
use Rattle.std.specs.List.{Contains, list_any, last_or, range_with_len}
use Rattle.tcf_text.specs.declared.log.LogLine.{LogLine}
use Rattle.tcf_text.specs.declared.log.LogLine.TheVariants.{Refused, Progress, Final, Unknown, Closed, Ended, Cached}
use Rattle.tcf_text.specs.declared.log.RefusedWhy.TheVariants.{NotOpen}
use Rattle.tcf_text.specs.Each.{Each}
use Rattle.tcf_text.specs.Lines.{Accepted, accepted, finals}

-- the numbers of accepted commands
abbrev pub numbers : List Accepted → List ℕ
numbers commands = map (λ c. c.number) commands

-- the accepted commands have the numbers 1, 2, 3 and so on, in order
abbrev pub AreCounted : List Accepted → Type 0
AreCounted commands = numbers commands ≡ range_with_len 1 (length commands)

-- a command of this number was accepted, and has no final answer
pub record IsPending (log : List LogLine) (number : ℕ) : Type 0 where
  pub accepted : Contains (numbers (accepted log)) number
  pub open_yet : Contains (finals log) number → ⊥

-- A line that answers a command, or tells of its progress, stands while that command is pending.
abbrev pub AnswersPending : List LogLine → LogLine → Type 0
AnswersPending before (Progress number mark body) = IsPending before number
AnswersPending before (Final number mark body) = IsPending before number
AnswersPending before (Unknown number mark) = IsPending before number
AnswersPending before (Closed number) = IsPending before number
AnswersPending before line = Unit {0}

abbrev pub is_end : LogLine → Bool
is_end (Ended why) = true
is_end line = false

-- each accepted command has its final answer
abbrev pub AllAnswered : List LogLine → Type 0
AllAnswered log = (number : ℕ) → Contains (numbers (accepted log)) number → Contains (finals log) number

-- Where a log ends, each accepted command has its final answer.
abbrev pub EndsAll : List LogLine → LogLine → Type 0
EndsAll before (Ended why) = AllAnswered before
EndsAll before line = Unit {0}

-- After the end commands are refused, since the channel isn't open, and the cache is asked; there is nothing else.
abbrev pub CanStandAfterEnd : LogLine → Type 0
CanStandAfterEnd (Refused why) = why ≡ NotOpen
CanStandAfterEnd (Cached what value) = Unit {0}
CanStandAfterEnd line = ⊥

abbrev pub NothingAfterEnd : List LogLine → LogLine → Type 0
NothingAfterEnd before line = list_any is_end before ≡ true → CanStandAfterEnd line

-- `closed` lines stand directly before the end, with rising numbers, which is the order in which the commands were
-- accepted.
abbrev pub GoesOnFrom : Option LogLine → LogLine → Type 0
GoesOnFrom (Some (Closed number)) (Closed next) = number < next
GoesOnFrom (Some (Closed number)) (Ended why) = Unit {0}
GoesOnFrom (Some (Closed number)) line = ⊥
GoesOnFrom last line = Unit {0}

abbrev pub ClosesBeforeEnd : List LogLine → LogLine → Type 0
ClosesBeforeEnd before line = GoesOnFrom (last_or None before) line

abbrev pub IsNoClosed : Option LogLine → Type 0
IsNoClosed (Some (Closed number)) = ⊥
IsNoClosed last = Unit {0}

-- The `sent` lines number the accepted commands from 1 on. Each of these has at most one final answer, which
-- stands after its `sent` line, with its progress between the two; once the log has its end, each has exactly
-- one, and so it is where nothing is under way.
pub record Once (quiet : Bool) (log : List LogLine) : Type 0 where
  pub counted : AreCounted (accepted log)
  pub answers : Each AnswersPending log
  pub all_at_end : Each EndsAll log
  pub nothing_after : Each NothingAfterEnd log
  pub closed_in_order : Each ClosesBeforeEnd log
  pub closed_then_end : IsNoClosed (last_or None log)
  pub all_when_quiet : quiet ≡ true → AllAnswered log
