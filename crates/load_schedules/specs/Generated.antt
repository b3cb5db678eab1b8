-- The schedule of a number.
use Rattle.std.specs.Prelude.{ℕ, ◌≡◌, Ok, List, [], ◌∷◌, ◌++◌, codes}
use Rattle.tcf_schedules.specs.declared.schedule.NamedImage.{NamedImage}
use Rattle.tcf_schedules.specs.Plan.{AreSteps, Plan, opens, rounds}
use Rattle.tcf_schedules.specs.Schedule.{ScheduleValue, image_of, schedule_of}
use Rattle.load_schedules.specs.Drawn.{chain_heads, sends, drawn_steps}

-- addi x1,x1,1; addi x2,x2,1; jal x0,-8
abbrev pub loop_image : NamedImage
loop_image = image_of (codes "loop") (codes "93801000130111006ff09fff")

-- the client of a chain asks its first value-add to go on to this peer
abbrev pub redirect : ℕ → List ℕ → Plan
redirect chain peer = sends chain (codes "Locator") (codes "redirect") (peer ∷ [])

abbrev pub start : Plan
start =
    sends 0 (codes "Processes") (codes "start")
    (codes "\"\"" ∷ codes "\"loop\"" ∷ codes "[]" ∷ codes "[]" ∷ codes "true" ∷ [])

-- each chain is opened
abbrev pub openings : List Plan
openings = opens 0 ∷ opens 1 ∷ opens 2 ∷ rounds 1 ∷ []

-- those with value-adds are led up to the agent
abbrev pub redirects : List Plan
redirects = redirect 1 (codes "\"Agent\"") ∷ redirect 2 (codes "\"V2\"") ∷ rounds 1 ∷ redirect 2 (codes "\"Agent\"") ∷ rounds 1 ∷ []

-- the process P1 is started
abbrev pub starting : List Plan
starting = start ∷ rounds 2 ∷ []

-- behind these, 20,000 steps are drawn, from the number on, and 40 rounds end the schedule
abbrev pub all_steps : ℕ → List Plan
all_steps number = openings ++ redirects ++ starting ++ drawn_steps 20000 number ++ rounds 40 ∷ []

abbrev pub generated : ℕ → ScheduleValue
generated number = record { images = loop_image ∷ []; chains = chain_heads; plans = all_steps number }

-- a file says the schedule
abbrev pub IsSaidByAFile : ScheduleValue → Type 0
IsSaidByAFile s = (file : List ℕ) × (schedule_of file ≡ Ok s)

-- the law: the schedule of each number is one that a file says
abbrev pub GeneratesWhatIsSaid : Type 0
GeneratesWhatIsSaid = (number : ℕ) → IsSaidByAFile (generated number)

-- the law: the steps of the schedule of each number are those that its chains can have, and at most 1,000,000
abbrev pub GeneratesWithin : Type 0
GeneratesWithin = (number : ℕ) → AreSteps (generated number).chains (generated number).plans
