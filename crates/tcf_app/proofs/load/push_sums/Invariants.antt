use Rattle.std.proofs.Common.{◌≡◌, ◌++◌, drop}
use Rattle.tcf_app.specs.Played.{sums_text}
use Rattle.tcf_app.proofs.load.push_sums.Given as goal

abbrev pub invariant-loop-head : goal.invariant-loop-head
invariant-loop-head l = record {
  place : l.at ≡ l.head-index;
  text : l.initial.out ++ sums_text 0 l.heads l.world ≡ l.out ++ sums_text l.head-index (drop l.head-index l.heads) l.world;
}
