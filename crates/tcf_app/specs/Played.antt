-- What is printed of a schedule that is played, whole or in sum, and of a client that is run.
use Rattle.std.specs.Prelude.{ℕ, ◌+◌, List, [], ◌∷◌, ◌++◌, length, codes}
use Rattle.std.specs.Fmt.{decimal}
use Rattle.tcf_schedules.specs.declared.schedule.ChainHead.{ChainHead}
use Rattle.tcf_text.specs.Log.{log_text}
use Rattle.tcf_text.specs.declared.log.LogLine.{LogLine}
use Rattle.tcf_schedules.specs.Schedule.{ScheduleValue}
use Rattle.chain_world.specs.WorldValue.{WorldValue}
use Rattle.chain_world.specs.World.{adds_of, images_of, log_at, new_world, run}
use Rattle.journal_text.specs.Written.{journal_text}
use Rattle.load_schedules.specs.Generated.{generated}
use Rattle.load_schedules.specs.Summary.{summary_line}

unfoldable pub chain_front : List ℕ
chain_front = codes "chain "

unfoldable pub history_front : List ℕ
history_front = codes "history "

-- the line before a chain's log
abbrev pub chain_line : List ℕ → List ℕ
chain_line name = chain_front ++ name ++ 10 ∷ []

-- the last line, with the number of the history's inputs
abbrev pub history_line : ℕ → List ℕ
history_line count = history_front ++ decimal count ++ 10 ∷ []

-- what playing the schedule brings about
abbrev pub world_of : ScheduleValue → WorldValue
world_of schedule = run schedule.plans (new_world (images_of schedule.images) (adds_of schedule.chains))

-- the chains from a place on, each with its log
abbrev pub chains_text : ℕ → List ChainHead → WorldValue → List ℕ
chains_text at [] w = []
chains_text at (head ∷ heads) w = chain_line head.name ++ log_text (log_at at w) ++ chains_text (at + 1) heads w

-- what is printed of a schedule: each chain with the log that playing gives, and the length of the history
abbrev pub printed : ScheduleValue → List ℕ
printed schedule = chains_text 0 schedule.chains (world_of schedule) ++ history_line (length (world_of schedule).history)

-- the schedule that a number gives
unfoldable pub numbered : ℕ → ScheduleValue
numbered number = generated number

-- the chains from a place on, each with the line that sums up its log
abbrev pub sums_text : ℕ → List ChainHead → WorldValue → List ℕ
sums_text at [] w = []
sums_text at (head ∷ heads) w = summary_line head.name (log_at at w) ++ sums_text (at + 1) heads w

-- what is printed of a schedule in sum: a line for each chain, and the length of the history
abbrev pub summed : ScheduleValue → List ℕ
summed schedule = sums_text 0 schedule.chains (world_of schedule) ++ history_line (length (world_of schedule).history)

-- the journal of the chain at a place of a schedule that is played: the images, the history, and the log of its client
abbrev pub journal_printed : ℕ → ScheduleValue → List ℕ
journal_printed at schedule =
    journal_text (images_of schedule.images) (world_of schedule).history (log_at at (world_of schedule))

unfoldable pub client_name : List ℕ
client_name = codes "client"

-- what is printed of a client that is run: its log
abbrev pub client_text : List LogLine → List ℕ
client_text log = chain_line client_name ++ log_text log
