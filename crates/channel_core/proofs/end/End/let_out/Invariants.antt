use Rattle.std.proofs.Common.{◌≡◌, length, false}
use Rattle.channel_core.specs.Closing.{is_closed}
use Rattle.channel_core.specs.Holding.{let_out}
use Rattle.channel_core.proofs.end.End.let_out.Given as goal

-- what is left to go out comes to the same, and the end isn't closed
abbrev pub invariant-loop-held : goal.invariant-loop-held
invariant-loop-held g l = record {
  same : let_out l.self.held l.self ≡ let_out l.initial.self.held l.initial.self;
  staying : is_closed l.self.state ≡ false;
}

abbrev pub decreases-loop-held : goal.decreases-loop-held
decreases-loop-held g l = length l.self.held
