-- What a line that stands before the log says, as the code has it.
use Rattle.tcf_schedules.specs.declared.image.ImageSays.{ImageSays}
use Rattle.journal_text.specs.Inputs.{InputIsRead}
use Rattle.journal_text.specs.Journal.{HeadLine, image, an_input, the_log}
use Rattle.journal_text.specs.declared.reading.HeadSays.{HeadSays}
use Rattle.journal_text.specs.declared.reading.HeadSays.TheVariants.{Image, Input, Log}

abbrev pub image_in_line : ImageSays → HeadLine
image_in_line i = image i.name.now i.digits.now

abbrev pub head_said : HeadSays → HeadLine
head_said (Image i) = image_in_line i
head_said (Input input) = an_input input
head_said Log = the_log

-- what is executed is a reading of its names
abbrev pub HeadIsRead : HeadSays → Type 0
HeadIsRead (Image i) = Unit {0}
HeadIsRead (Input input) = InputIsRead input
HeadIsRead Log = Unit {0}
