-- What a file of lines says.
use Rattle.std.specs.Prelude.{ℕ, ◌≡◌, ◌≢◌, ◌≤◌, ◌<◌, ◌+◌, ◌⊎◌, Bool, true, false, not, List, [], ◌∷◌, ◌++◌, length, take, map, filter, position, Option, Some, None, option_map, option_and_then, Result, Ok, Err, if◌then◌else◌, nat_le, nat_lt, ◌==◌, bytes_eq, ◌↔◌}
use Rattle.std.specs.List.{list_any, AllByRecursion, onto_first}
use Rattle.tcf_values.specs.Number.{number_of}
use Rattle.tcf_schedules.specs.declared.schedule.ChainHead.{ChainHead}
use Rattle.tcf_schedules.specs.declared.schedule.NamedImage.{NamedImage}
use Rattle.tcf_schedules.specs.declared.schedule.Schedule.{Schedule}
use Rattle.tcf_schedules.specs.declared.schedule.TextFault.{TextFault}
use Rattle.tcf_schedules.specs.declared.schedule.TextFault.TheVariants.{Form, Late, Repeat, Unknown, Many}
use Rattle.tcf_schedules.specs.Plan.{AreSteps, Plan, opens as plan_opens, send as plan_send, deliver as plan_deliver, turn as plan_turn, tick as plan_tick, close as plan_close, cut as plan_cut, cached as plan_cached, rounds as plan_rounds, times as plan_times, plans_of, step_size, step_count, adds_at}
use Rattle.tcf_schedules.specs.Words.{data_of, bytes_of}
use Rattle.tcf_schedules.specs.Line.{PlainStep, opens, sends, delivers, turns, ticks, closes, cuts, asks, LineStep, once, rounds, times, LineHead, image, chain, LineValue, head, step, IsHead, IsLineStep, head_spelling, step_spelling, Says}
use Rattle.tcf_schedules.specs.Reading.{value_of}
use Rattle.tcf_schedules.specs.Refusal.{BadLine}

-- the lines of a file, without the byte 10 that ends each; the last one may lack its end
abbrev pub lines_of : List ℕ → List (List ℕ)
lines_of [] = []
lines_of (byte ∷ bytes) = if byte == 10 then [] ∷ lines_of bytes else onto_first byte (lines_of bytes)

-- an empty line, and one that begins with `#`
abbrev pub is_skipped : List ℕ → Bool
is_skipped [] = true
is_skipped (byte ∷ bytes) = byte == 35

-- ---- The meaning of a schedule

-- the images and the chains of its header, and what its steps mean, each in order
pub record ScheduleValue : Type 0 where
  pub images : List NamedImage
  pub chains : List ChainHead
  pub plans : List Plan

abbrev pub meaning : Schedule → ScheduleValue
meaning s = record { images = s.images; chains = s.chains; plans = plans_of s.steps }

abbrev pub nothing : ScheduleValue
nothing = record { images = []; chains = []; plans = [] }

abbrev pub image_of : List ℕ → List ℕ → NamedImage
image_of name digits = record { name = name; bytes = bytes_of digits }

abbrev pub head_of : List ℕ → ℕ → ChainHead
head_of name adds = record { name = name; adds = adds }

-- ---- What a step of a line means among some chains

-- the place of the chain of this name
abbrev pub chain_of : List ChainHead → List ℕ → Option ℕ
chain_of chains name = position (λ (c : ChainHead). bytes_eq c.name name) chains

-- the number of a hop of the chain
abbrev pub hop_of : List ChainHead → ℕ → List ℕ → Option ℕ
hop_of chains place digits = number_of 0 (adds_at chains place) digits

-- the number of a node of the chain that takes what travels up, or down
abbrev pub node_of : List ChainHead → ℕ → Bool → List ℕ → Option ℕ
node_of chains place true digits = number_of 1 (adds_at chains place + 1) digits
node_of chains place false digits = number_of 0 (adds_at chains place) digits

-- the place of the chain of this name, and the number of its hop
abbrev pub hop_in : List ChainHead → List ℕ → List ℕ → Option (ℕ × ℕ)
hop_in chains name digits = option_and_then (λ place. option_map (λ hop. (place, hop)) (hop_of chains place digits)) (chain_of chains name)

-- the same with its node
abbrev pub node_in : List ChainHead → List ℕ → Bool → List ℕ → Option (ℕ × ℕ)
node_in chains name up digits = option_and_then (λ place. option_map (λ node. (place, node)) (node_of chains place up digits)) (chain_of chains name)

-- what the step means, where its chain, its hop and its node are there
abbrev pub plain_plan : List ChainHead → PlainStep → Option Plan
plain_plan chains (opens name) = option_map plan_opens (chain_of chains name)
plain_plan chains (sends name service command args) = option_map (λ place. plan_send place service command (data_of args)) (chain_of chains name)
plain_plan chains (delivers name hop up count) = option_map (λ at. plan_deliver at.0 at.1 up count) (hop_in chains name hop)
plain_plan chains (turns name node up) = option_map (λ at. plan_turn at.0 at.1 up) (node_in chains name up node)
plain_plan chains (ticks thread) = Some (plan_tick thread)
plain_plan chains (closes name) = option_map plan_close (chain_of chains name)
plain_plan chains (cuts name hop) = option_map (λ at. plan_cut at.0 at.1) (hop_in chains name hop)
plain_plan chains (asks name what) = option_map (λ place. plan_cached place what) (chain_of chains name)

abbrev pub plan_in : List ChainHead → LineStep → Option Plan
plan_in chains (once x) = plain_plan chains x
plan_in chains (rounds count) = Some (plan_rounds count)
plan_in chains (times count x) = option_map (plan_times count) (plain_plan chains x)

-- ---- What a line adds

abbrev pub has_step : ScheduleValue → Bool
has_step s = nat_lt 0 (length s.plans)

abbrev pub is_image : List ℕ → ScheduleValue → Bool
is_image name s = list_any (λ (i : NamedImage). bytes_eq i.name name) s.images

abbrev pub is_chain : List ℕ → ScheduleValue → Bool
is_chain name s = list_any (λ (c : ChainHead). bytes_eq c.name name) s.chains

abbrev pub and_image : List ℕ → List ℕ → ScheduleValue → ScheduleValue
and_image name digits s = record s { images = s.images ++ image_of name digits ∷ [] }

abbrev pub and_chain : List ℕ → ℕ → ScheduleValue → ScheduleValue
and_chain name adds s = record s { chains = s.chains ++ head_of name adds ∷ [] }

abbrev pub and_plan : Plan → ScheduleValue → ScheduleValue
and_plan plan s = record s { plans = s.plans ++ plan ∷ [] }

-- the header comes first, and its images have different names
abbrev pub with_image : List ℕ → List ℕ → ScheduleValue → Result ScheduleValue TextFault
with_image name digits s =
    if has_step s then Err Late else if is_image name s then Err Repeat else Ok (and_image name digits s)

-- so do its chains, of which there are at most 64
abbrev pub with_chain : List ℕ → ℕ → ScheduleValue → Result ScheduleValue TextFault
with_chain name adds s =
    if has_step s then Err Late else if is_chain name s then Err Repeat
    else if nat_lt (length s.chains) 64 then Ok (and_chain name adds s) else Err Many

-- there are at most 1,000,000 steps
abbrev pub with_plan : Option Plan → ScheduleValue → Result ScheduleValue TextFault
with_plan None s = Err Unknown
with_plan (Some plan) s = if nat_le (step_count s.plans + step_size plan) 1000000 then Ok (and_plan plan s) else Err Many

-- the schedule after what a line says, or what is wrong with that
abbrev pub after_head : ScheduleValue → LineHead → Result ScheduleValue TextFault
after_head s (image name digits) = with_image name digits s
after_head s (chain name adds) = with_chain name adds s

abbrev pub after_value : ScheduleValue → LineValue → Result ScheduleValue TextFault
after_value s (head h) = after_head s h
after_value s (step x) = with_plan (plan_in s.chains x) s

abbrev pub after_said : ScheduleValue → Option LineValue → Result ScheduleValue TextFault
after_said s None = Err Form
after_said s (Some value) = after_value s value

abbrev pub after_line : ScheduleValue → List ℕ → Result ScheduleValue TextFault
after_line s line = if is_skipped line then Ok s else after_said s (value_of line)

-- the outcome at a line of this number
abbrev pub at_line : ℕ → Result ScheduleValue TextFault → Result ScheduleValue BadLine
at_line number (Err what) = Err (record { line = number; what = what })
at_line number (Ok s) = Ok s

-- what follows, where there is a schedule yet
abbrev pub going_on : (ScheduleValue → Result ScheduleValue BadLine) → Result ScheduleValue BadLine → Result ScheduleValue BadLine
going_on next (Ok s) = next s
going_on next (Err bad) = Err bad

-- the schedule after some lines, of which the first has this number, or the first bad one
abbrev pub after_lines : ℕ → ScheduleValue → List (List ℕ) → Result ScheduleValue BadLine
after_lines number s [] = Ok s
after_lines number s (line ∷ lines) = going_on (λ next. after_lines (number + 1) next lines) (at_line number (after_line s line))

-- what a file says: its schedule, or its first bad line, counted from 1
abbrev pub schedule_of : List ℕ → Result ScheduleValue BadLine
schedule_of file = after_lines 1 nothing (lines_of file)

-- ---- The files of a schedule

-- the lines that aren't skipped
abbrev pub kept_lines : List (List ℕ) → List (List ℕ)
kept_lines lines = filter (λ line. not (is_skipped line)) lines

-- the images and the chains of a header
abbrev pub images_in : List LineHead → List NamedImage
images_in [] = []
images_in (image name digits ∷ heads) = image_of name digits ∷ images_in heads
images_in (chain name adds ∷ heads) = images_in heads

abbrev pub chains_in : List LineHead → List ChainHead
chains_in [] = []
chains_in (image name digits ∷ heads) = chains_in heads
chains_in (chain name adds ∷ heads) = head_of name adds ∷ chains_in heads

-- no name stands twice
abbrev pub AreDistinct : List (List ℕ) → Type 0
AreDistinct [] = Unit {0}
AreDistinct (name ∷ names) = AllByRecursion (λ other. other ≢ name) names × AreDistinct names

-- the file is a header and then steps, between lines that are skipped, and the schedule is what they mean: the images
-- and the chains of the header, in which no name stands twice, and the steps, whose chains, hops and nodes are there
pub record Accepts (file : List ℕ) (s : ScheduleValue) : Type 0 where
  pub heads : List LineHead
  pub steps : List LineStep
  pub lines : kept_lines (lines_of file) ≡ map head_spelling heads ++ map step_spelling steps
  pub heads_are : AllByRecursion IsHead heads
  pub steps_are : AllByRecursion IsLineStep steps
  pub images : s.images ≡ images_in heads
  pub chains : s.chains ≡ chains_in heads
  pub plans : map (plan_in s.chains) steps ≡ map Some s.plans
  pub images_differ : AreDistinct (map (λ (i : NamedImage). i.name) s.images)
  pub chains_differ : AreDistinct (map (λ (c : ChainHead). c.name) s.chains)
  pub few : length s.chains ≤ 64
  pub within : step_count s.plans ≤ 1000000

-- ---- The first bad line

-- behind lines that say this schedule: the line is of the header, and no step stands before it
abbrev pub SaysHead : ScheduleValue → List ℕ → LineHead → Type 0
SaysHead s line h = Says line (head h) × (has_step s ≡ false)

-- the head has the name of another of its kind
abbrev pub is_repeat : ScheduleValue → LineHead → Bool
is_repeat s (image name digits) = is_image name s
is_repeat s (chain name adds) = is_chain name s

-- the line is a chain's, with a name of its own, and there are 64 chains before it
abbrev pub IsChainPastLimit : ScheduleValue → List ℕ → Type 0
IsChainPastLimit s line =
    (name : List ℕ) × (adds : ℕ) × SaysHead s line (chain name adds) × (is_chain name s ≡ false) × (64 ≤ length s.chains)

-- the line is a step, whose chain, hop and node are there, and with which there are more than 1,000,000
abbrev pub IsStepPastLimit : ScheduleValue → List ℕ → Type 0
IsStepPastLimit s line =
    (x : LineStep) × (plan : Plan) × Says line (step x) × (plan_in s.chains x ≡ Some plan) × (1000000 < step_count s.plans + step_size plan)

-- what is wrong with a line that isn't skipped, behind lines that say this schedule: it says nothing; it is of the
-- header and stands behind a step; it gives a name twice; it is a step whose chain, hop or node isn't there; or with
-- it there are too many chains or steps
abbrev pub IsReason : ScheduleValue → List ℕ → TextFault → Type 0
IsReason s line Form = (value : LineValue) → Says line value → ⊥
IsReason s line Late = (h : LineHead) × Says line (head h) × (has_step s ≡ true)
IsReason s line Repeat = (h : LineHead) × SaysHead s line h × (is_repeat s h ≡ true)
IsReason s line Unknown = (x : LineStep) × Says line (step x) × (plan_in s.chains x ≡ None)
IsReason s line Many = IsChainPastLimit s line ⊎ IsStepPastLimit s line

-- the line is the first bad one, for this reason: those before it are those of an accepted file, and no accepted file
-- begins with those up to it
pub record IsFirstBad (file : List ℕ) (number : ℕ) (what : TextFault) : Type 0 where
  pub front : List ℕ
  pub schedule : ScheduleValue
  pub accepted : Accepts front schedule
  pub line : List ℕ
  pub rest : List (List ℕ)
  pub lines : lines_of file ≡ lines_of front ++ line ∷ rest
  pub place : number ≡ length (lines_of front) + 1
  pub kept : is_skipped line ≡ false
  pub reason : IsReason schedule line what
  pub bad : (other : List ℕ) (s : ScheduleValue) → take number (lines_of other) ≡ take number (lines_of file) → Accepts other s → ⊥

-- ---- Want of memory

-- the file begins with the lines of an accepted one, of which not all are skipped: only then is memory wanted
pub record WantsMemory (file : List ℕ) : Type 0 where
  pub front : List ℕ
  pub schedule : ScheduleValue
  pub accepted : Accepts front schedule
  pub rest : List (List ℕ)
  pub lines : lines_of file ≡ lines_of front ++ rest
  pub says : kept_lines (lines_of front) ≢ []

-- ---- The laws

-- the law: the schedule of a file is the one that it says
abbrev pub ReadsWhatIsSaid : Type 0
ReadsWhatIsSaid = (file : List ℕ) (s : ScheduleValue) → (schedule_of file ≡ Ok s) ↔ Accepts file s

-- the law: a file is refused for its first bad line, and for what is wrong with that line
abbrev pub RefusesTheFirst : Type 0
RefusesTheFirst = (file : List ℕ) (number : ℕ) (what : TextFault) → (schedule_of file ≡ Err (record { line = number; what = what })) ↔ IsFirstBad file number what

-- the law: the steps of a schedule that is read are those that its chains can have, and at most 1,000,000
abbrev pub ReadsWithin : Type 0
ReadsWithin = (file : List ℕ) (s : ScheduleValue) → schedule_of file ≡ Ok s → AreSteps s.chains s.plans
