-- What a line says, as the code reads it.
use Rattle.std.specs.Prelude.{ℕ, List, option_map}
use Rattle.tcf_schedules.specs.declared.line.CommandSays.{CommandSays}
use Rattle.tcf_schedules.specs.declared.line.HeadSays.{HeadSays}
use Rattle.tcf_schedules.specs.declared.line.HeadSays.TheVariants.{Image, Chain}
use Rattle.tcf_schedules.specs.declared.image.ImageSays.{ImageSays}
use Rattle.tcf_schedules.specs.declared.line.LineSays.{LineSays}
use Rattle.tcf_schedules.specs.declared.line.LineSays.TheVariants.{Head, Step}
use Rattle.tcf_schedules.specs.declared.line.PlainSays.{PlainSays}
use Rattle.tcf_schedules.specs.declared.line.PlainSays.TheVariants.{Opens, Sends, Delivers, Turns, Ticks, Closes, Cuts, Asks}
use Rattle.tcf_schedules.specs.declared.line.StepSays.{StepSays}
use Rattle.tcf_schedules.specs.declared.line.StepSays.TheVariants.{Once, Rounds, Times}
use Rattle.cached_lines.specs.Said.{cached_said}
pub use Rattle.line_words.specs.Words.{words_said}
use Rattle.tcf_schedules.specs.Line.{PlainStep, opens, sends, delivers, turns, ticks, closes, cuts, asks, LineStep, once, rounds, times, LineHead, image, chain, LineValue, head, step}

-- a command's name, and the words behind it
abbrev pub command_said : CommandSays → List ℕ × List (List ℕ)
command_said c = (c.name.now, words_said (option_map (λ t. t.now) c.args))

abbrev pub plain_said : PlainSays → PlainStep
plain_said (Opens name) = opens name.now
plain_said (Sends name service command) = sends name.now service.now (command_said command).0 (command_said command).1
plain_said (Delivers name hop up count) = delivers name.now hop.now up count
plain_said (Turns name node up) = turns name.now node.now up
plain_said (Ticks thread) = ticks thread
plain_said (Closes name) = closes name.now
plain_said (Cuts name hop) = cuts name.now hop.now
plain_said (Asks name what) = asks name.now (cached_said what)

abbrev pub step_said : StepSays → LineStep
step_said (Once x) = once (plain_said x)
step_said (Rounds count) = rounds count
step_said (Times count x) = times count (plain_said x)

abbrev pub image_said : ImageSays → LineHead
image_said i = image i.name.now i.digits.now

abbrev pub head_said : HeadSays → LineHead
head_said (Image i) = image_said i
head_said (Chain name adds) = chain name.now adds

abbrev pub said : LineSays → LineValue
said (Head h) = head (head_said h)
said (Step x) = step (step_said x)
