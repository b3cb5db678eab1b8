-- What lines of a log said of commands, and whether another line can stand behind them.
use Rattle.std.specs.Prelude.{ℕ, ◌≡◌, ◌+◌, ◌<◌, ◌==◌, Bool, true, false, not, ◌&&◌, ◌||◌, length, Option, None, Some}
use Rattle.std.specs.BTreeSet.{contains}
use Rattle.std.specs.List.{list_any}
use Rattle.std.specs.Ordering.{nat_cmp}
use Rattle.tcf_text.specs.Lines.{accepted_by, final_of}
use Rattle.tcf_text.specs.Once.{CanStandAfterEnd, is_end, numbers}
use Rattle.tcf_text.specs.declared.log.LogLine.{LogLine}
use Rattle.tcf_text.specs.declared.log.LogLine.TheVariants.{Sent, Progress, Final, Unknown, Closed, Ended}
use Rattle.log_check.specs.declared.once.Asked.{Asked}

-- the number of the command of which the line says that the channel closed while it was pending
abbrev pub closed_by : LogLine → Option ℕ
closed_by (Closed number) = Some number
closed_by line = None

-- behind a line that says it of this command comes the end, or a line that says it of a later one
abbrev pub CanFollow : Option ℕ → LogLine → Type 0
CanFollow (Some number) (Closed next) = number < next
CanFollow (Some number) (Ended why) = Unit {0}
CanFollow (Some number) line = ⊥
CanFollow None line = Unit {0}

-- the command of this number is pending
abbrev pub is_asked : Asked → ℕ → Bool
is_asked asked number = contains nat_cmp asked.pending number

-- a command has the next number, an answer goes to one that is pending, and at the end none is
abbrev pub IsAskedFor : Asked → LogLine → Type 0
IsAskedFor asked (Sent number service name body) = number ≡ asked.sent + 1
IsAskedFor asked (Progress number mark body) = is_asked asked number ≡ true
IsAskedFor asked (Final number mark body) = is_asked asked number ≡ true
IsAskedFor asked (Unknown number mark) = is_asked asked number ≡ true
IsAskedFor asked (Closed number) = is_asked asked number ≡ true
IsAskedFor asked (Ended why) = (number : ℕ) → is_asked asked number ≡ false
IsAskedFor asked line = Unit {0}

-- the line can stand behind those so far
pub record CanStand (asked : Asked) (line : LogLine) : Type 0 where
  pub after_end : asked.ended ≡ true → CanStandAfterEnd line
  pub follows : CanFollow asked.closed line
  pub asked_for : IsAskedFor asked line

-- the numbers of the commands that the line says were sent, and of those that it answers for good
abbrev pub sends : LogLine → ℕ → Bool
sends line number = list_any (λ n. n == number) (numbers (accepted_by line))

abbrev pub answers : LogLine → ℕ → Bool
answers line number = list_any (λ n. n == number) (final_of line)

-- the line was counted
pub record IsCounted (line : LogLine) (old new : Asked) : Type 0 where
  pub sent : new.sent ≡ old.sent + length (accepted_by line)
  pub pending : (number : ℕ) → is_asked new number ≡ ((is_asked old number || sends line number) && not (answers line number))

-- the line was noted
pub record IsNoted (line : LogLine) (old new : Asked) : Type 0 where
  pub counted : IsCounted line old new
  pub ended : new.ended ≡ (old.ended || is_end line)
  pub closed : new.closed ≡ closed_by line

-- nothing was said yet
pub record IsUnasked (asked : Asked) : Type 0 where
  pub sent : asked.sent ≡ 0
  pub pending : (number : ℕ) → is_asked asked number ≡ false
  pub ended : asked.ended ≡ false
  pub closed : asked.closed ≡ None
