-- What a step at its place means, as the code has it.
use Rattle.tcf_schedules.specs.declared.place.Placed.{Placed}
use Rattle.tcf_schedules.specs.declared.place.Placed.TheVariants.{Opens, Sends, Delivers, Turns, Ticks, Closes, Cuts, Asks}
use Rattle.tcf_schedules.specs.declared.place.PlacedStep.{PlacedStep}
use Rattle.tcf_schedules.specs.declared.place.PlacedStep.TheVariants.{Once, Rounds, Times}
use Rattle.cached_lines.specs.Said.{cached_said}
use Rattle.tcf_schedules.specs.Plan.{Plan, opens, send, deliver, turn, tick, close, cut, cached, rounds, times}
use Rattle.tcf_schedules.specs.Said.{command_said}
use Rattle.tcf_schedules.specs.Words.{data_of}

abbrev pub placed_plan : Placed → Plan
placed_plan (Opens chain) = opens chain
placed_plan (Sends chain service command) = send chain service.now (command_said command).0 (data_of (command_said command).1)
placed_plan (Delivers chain hop up count) = deliver chain hop up count
placed_plan (Turns chain node up) = turn chain node up
placed_plan (Ticks thread) = tick thread
placed_plan (Closes chain) = close chain
placed_plan (Cuts chain hop) = cut chain hop
placed_plan (Asks chain what) = cached chain (cached_said what)

abbrev pub step_plan : PlacedStep → Plan
step_plan (Once placed) = placed_plan placed
step_plan (Rounds count) = rounds count
step_plan (Times count placed) = times count (placed_plan placed)
