-- The laws of the list over whole runs: any commands of any channels, channels that go, hit tests, and processes whose
-- counts are dropped.
use Rattle.std.specs.Prelude.{ℕ, ◌≡◌, ◌≢◌, ◌+◌, ◌==◌, ◌<◌, ◌^◌, min, Bool, true, ◌&&◌, if◌then◌else◌, List, [], ◌∷◌, length, map, filter, bytes_eq}
use Rattle.std.specs.List.{AllByRecursion, list_any}
use Rattle.tcf_values.specs.Spelling.{context_spelling}
use Rattle.tcf_values.specs.declared.command.Command.{Command}
use Rattle.tcf_values.specs.declared.ids.ContextId.TheVariants as contexts
use Rattle.breakpoints.specs.Placed.{Placed}
use Rattle.tcf_values.specs.declared.values.BpProps.{BpProps}
use Rattle.tcf_values.specs.declared.values.Instance.{Instance}
use Rattle.breakpoints.specs.Changes.{after}
use Rattle.breakpoints.specs.Counting.{counted, forgotten, hit_rows, listed}
use Rattle.breakpoints.specs.Counts.{count_of, one_more, raised, without}
use Rattle.breakpoints.specs.Rows.{IsOrderly, ids_of, others, owned_by}
use Rattle.breakpoints.specs.Status.{hits_of, instances_of, is_at, is_hit}

-- a command of a channel, the going of one, a hit test of a thread of a process, attached or not, at an address, or the
-- dropping of a process's counts
pub data Step : Type 0 where
  command : ℕ → Command → Step
  going : ℕ → Step
  testing : ℕ → Bool → ℕ → Step
  forgetting : ℕ → Step

abbrev pub list_after : Step → List Placed → List Placed
list_after (command channel c) rows = after channel c rows
list_after (going channel) rows = others channel rows
list_after (testing process attached pc) rows = counted process attached pc rows
list_after (forgetting process) rows = forgotten process rows

-- the list after these steps, one after another
abbrev pub list_after_all : List Step → List Placed → List Placed
list_after_all [] rows = rows
list_after_all (step ∷ steps) rows = list_after_all steps (list_after step rows)

-- after any steps the IDs differ, there are at most 256, and the counts are of 32 bits
abbrev pub StaysOrderly : Type 0
StaysOrderly = (steps : List Step) → IsOrderly (list_after_all steps [])

-- and so after one
abbrev pub StepsKeepOrder : Type 0
StepsKeepOrder = (step : Step) (rows : List Placed) → IsOrderly rows → IsOrderly (list_after step rows)

-- none of the steps is a command of this channel
abbrev pub IsSilent : ℕ → List Step → Type 0
IsSilent channel [] = Unit {0}
IsSilent channel (command other c ∷ steps) = (other ≢ channel) × IsSilent channel steps
IsSilent channel (going other ∷ steps) = IsSilent channel steps
IsSilent channel (testing process attached pc ∷ steps) = IsSilent channel steps
IsSilent channel (forgetting process ∷ steps) = IsSilent channel steps

-- a channel that has gone owns nothing, whatever the others do then
abbrev pub GoneOwnsNothing : Type 0
GoneOwnsNothing = (channel : ℕ) (rows : List Placed) (steps : List Step) → IsSilent channel steps →
    owned_by channel (list_after_all steps (list_after (going channel) rows)) ≡ []

-- an instance in this process with this address
abbrev pub is_instance_at : ℕ → ℕ → Instance → Bool
is_instance_at process pc instance =
    bytes_eq instance.context (context_spelling (contexts.Process process)) && is_at pc instance.place

-- what a thread of an attached process hits are the breakpoints whose status has an instance in it at pc
abbrev pub HitsAreInstances : Type 0
HitsAreInstances = (rows : List Placed) (attached : List ℕ) (process pc : ℕ) →
    AllByRecursion (λ number. number < 2 ^ 32) attached → list_any (λ number. number == process) attached ≡ true →
    hits_of process true pc rows
    ≡ ids_of (filter (λ row. list_any (is_instance_at process pc) (instances_of row.props row.counts attached)) rows)

-- ---- what is hit, looked up by its ID

-- the breakpoints of the IDs that are hit are those that are hit, in the order of the list
abbrev pub HitsAreListed : Type 0
HitsAreListed = (process : ℕ) (attached : Bool) (pc : ℕ) (rows : List Placed) → IsOrderly rows →
    listed (hits_of process attached pc rows) rows ≡ hit_rows process attached pc rows

-- ---- counts

-- a hit in a process raises its count, and leaves those of others
abbrev pub RaisesOne : Type 0
RaisesOne = (process other : ℕ) (counts : List (ℕ × ℕ)) →
    count_of other (raised process counts) ≡ (if process == other then one_more (count_of other counts) else count_of other counts)

-- the count of a process is dropped, and those of others stay
abbrev pub DropsOne : Type 0
DropsOne = (process other : ℕ) (counts : List (ℕ × ℕ)) →
    count_of other (without process counts) ≡ (if process == other then 0 else count_of other counts)

-- a hit test of a thread of a process, attached or not, at an address
pub record Test : Type 0 where
  pub process : ℕ
  pub attached : Bool
  pub pc : ℕ

-- the list after these tests, one after another
abbrev pub tested : List Test → List Placed → List Placed
tested [] rows = rows
tested (test ∷ tests) rows = tested tests (counted test.process test.attached test.pc rows)

-- the test is a hit of a breakpoint with these properties in this process
abbrev pub is_hit_in : ℕ → BpProps → Test → Bool
is_hit_in process props test = test.attached && ((test.process == process) && is_hit process test.pc props)

-- the count that a breakpoint has after these tests: one more for each hit, as far as 32 bits go
abbrev pub count_after : ℕ → List Test → Placed → ℕ
count_after process tests row = min (count_of process row.counts + length (filter (is_hit_in process row.props) tests)) 4294967295

-- the count of a process is the number of its hits
abbrev pub CountsTellHits : Type 0
CountsTellHits = (tests : List Test) (rows : List Placed) (process : ℕ) → IsOrderly rows →
    map (λ row. count_of process row.counts) (tested tests rows) ≡ map (count_after process tests) rows
