-- What a file says can be played, and what holds of it then.
use Rattle.std.specs.Prelude.{ℕ, ◌≡◌, List, Ok}
use Rattle.std.specs.List.{AllByRecursion}
use Rattle.tcf_schedules.specs.Schedule.{ScheduleValue, schedule_of}
use Rattle.world_laws.specs.EndLaws.{EndsAllRightly}
use Rattle.chain_world.specs.World.{IsPlayable, adds_of, images_of, new_world, run}
use Rattle.world_laws.specs.StepLaws.{AllSaySteps}
use Rattle.world_laws.specs.WorldLaws.{AreCoherent, AreFresh, IsFaithful, NothingIsStuck}

-- each step of the schedule that a file says can be played
abbrev pub ReadIsPlayable : Type 0
ReadIsPlayable = (file : List ℕ) (s : ScheduleValue) → schedule_of file ≡ Ok s → AllByRecursion IsPlayable s.plans

-- the world that playing it brings about is faithful
abbrev pub HoldsOfEveryFile : Type 0
HoldsOfEveryFile = (file : List ℕ) (s : ScheduleValue) → schedule_of file ≡ Ok s → IsFaithful (images_of s.images) (run s.plans (new_world (images_of s.images) (adds_of s.chains)))

-- and its ends close only as the steps say
abbrev pub EndsOfEveryFile : Type 0
EndsOfEveryFile = (file : List ℕ) (s : ScheduleValue) → schedule_of file ≡ Ok s → EndsAllRightly s.plans (run s.plans (new_world (images_of s.images) (adds_of s.chains)))

-- and its logs say what the steps asked of the clients
abbrev pub StepsOfEveryFile : Type 0
StepsOfEveryFile =
    (file : List ℕ) (s : ScheduleValue) → schedule_of file ≡ Ok s →
    AllSaySteps s.plans (run s.plans (new_world (images_of s.images) (adds_of s.chains)))

-- and what the clients and the value-adds keep is true
abbrev pub CoherentOfEveryFile : Type 0
CoherentOfEveryFile = (file : List ℕ) (s : ScheduleValue) → schedule_of file ≡ Ok s → AreCoherent (images_of s.images) (run s.plans (new_world (images_of s.images) (adds_of s.chains)))

-- and the answers that they were given are fresh
abbrev pub FreshOfEveryFile : Type 0
FreshOfEveryFile = (file : List ℕ) (s : ScheduleValue) → schedule_of file ≡ Ok s → AreFresh (images_of s.images) (run s.plans (new_world (images_of s.images) (adds_of s.chains)))

-- and nothing is stuck in it
abbrev pub UnstuckOfEveryFile : Type 0
UnstuckOfEveryFile = (file : List ℕ) (s : ScheduleValue) → schedule_of file ≡ Ok s → NothingIsStuck (run s.plans (new_world (images_of s.images) (adds_of s.chains)))
