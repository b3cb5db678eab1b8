-- What a message says to its taker, as the code has it.
use Rattle.channel_core.specs.Wire.{Said as SaidValue, greets, tells, asks, goes_on, answers}
use Rattle.channel_core.specs.declared.taking.Said.{Said}
use Rattle.channel_core.specs.declared.taking.Said.TheVariants.{Greets, Tells, Asks, GoesOn, Answers}

abbrev pub view_of : Said → SaidValue
view_of Greets = greets
view_of Tells = tells
view_of Asks = asks
view_of (GoesOn token) = goes_on token.now
view_of (Answers token done) = answers token.now done
