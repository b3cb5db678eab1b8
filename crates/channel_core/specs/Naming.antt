-- A pending command by its token, in place of its place among the others. No public clause cites this module.
use Rattle.std.specs.Prelude.{◌≡◌, ℕ, ◌≤◌, Bool, List, Option, Some, None}
use Rattle.std.specs.List.{AllByRecursion}
use Rattle.channel_core.specs.EndValue.{EndValue}
use Rattle.channel_core.specs.Level.{leveled}
use Rattle.channel_core.specs.Taking.{answered, broken, greeted, number_at}
use Rattle.channel_core.specs.declared.held.Incoming.{Incoming}
use Rattle.channel_core.specs.declared.states.Reason.TheVariants.{Early, Token}
use Rattle.channel_core.specs.declared.taking.Taken.{Taken}
use Rattle.channel_core.specs.declared.taking.Taken.TheVariants.{Command, Event, Final, Hello, Progress}
use Rattle.channel_core.specs.declared.taking.Verdict.{Verdict}
use Rattle.channel_core.specs.declared.taking.Verdict.TheVariants.{TooEarly, Stray, Greets, Tells, Asks, GoesOn, Answers}
use Rattle.link_pool.specs.Rows.{Distinct, item_at, without}

-- no token is above the last one
abbrev pub AreIssued : {T : Type 0} → ℕ → List (ℕ × T) → Type 0
AreIssued last pending = AllByRecursion (λ row. row.0 ≤ last) pending

-- the token of the command at a place
abbrev pub token_at : {T : Type 0} → Option ℕ → List (ℕ × T) → Option ℕ
token_at None pending = None
token_at (Some place) pending = number_at place pending

-- the final answer to the command with this token, which has this tag
abbrev pub finished_by : {T : Type 0} → ℕ → Incoming → ℕ → Bool → Option T → EndValue T → Option (Taken T) × EndValue T
finished_by number incoming token done None e = broken number Token e
finished_by number incoming token done (Some tag) e =
    (Some (Final tag incoming), answered token done (leveled (record e { pending = without token e.pending })))

-- what a message with this verdict is taken as, and what it makes of the end
abbrev pub ComesOf : {T : Type 0} → ℕ → Incoming → Verdict → EndValue T → Option (Taken T) × EndValue T → Type 0
ComesOf number incoming TooEarly e made = made ≡ broken number Early e
ComesOf number incoming Stray e made = made ≡ broken number Token e
ComesOf number incoming Greets e made = made ≡ (Some (Hello incoming), greeted (leveled e))
ComesOf number incoming Tells e made = made ≡ (Some (Event incoming), leveled e)
ComesOf number incoming Asks e made = made ≡ (Some (Command incoming), leveled e)
ComesOf number incoming (GoesOn token) e made = made ≡ (Some (Progress token incoming), leveled e)
ComesOf number incoming (Answers token done) e made = Distinct e.pending → made ≡ finished_by number incoming token done (item_at token e.pending) e
