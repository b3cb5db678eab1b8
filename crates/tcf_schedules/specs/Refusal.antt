-- Why a file gives no schedule.
use Rattle.std.specs.Prelude.{ℕ, ◌≡◌, Result, Err}
use Rattle.tcf_schedules.specs.declared.schedule.TextFault.{TextFault}
use Rattle.tcf_schedules.specs.declared.schedule.TextRefusal.{TextRefusal}
use Rattle.tcf_schedules.specs.declared.schedule.TextRefusal.TheVariants.{Bad, NoMemory}

-- a bad line, by its number, and what is wrong with it
pub record BadLine : Type 0 where
  pub line : ℕ
  pub what : TextFault

-- the refusal names the bad line and its fault, or is want of memory, which any file can meet
abbrev pub Refuses : {A : Type 0} → Result A BadLine → TextRefusal → Type 0
Refuses outcome (Bad line what) = outcome ≡ Err (record { line = line; what = what })
Refuses outcome NoMemory = Unit {0}
