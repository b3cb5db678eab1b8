use Rattle.std.proofs.Common.{◌≡◌, ◌++◌, length, map}
use Rattle.std.specs.Rc.{rc_slice_items}
use Rattle.rv32i_core.specs.Pages.{AreWide, joined}
use Rattle.rv32i_core.proofs.cutting.pages.Given as goal

-- the pages so far and what is left are the image
abbrev pub invariant-loop-page : goal.invariant-loop-page
invariant-loop-page l = record {
  bytes : joined (map (λ page. rc_slice_items page) l.pages.items) ++ l.rest ≡ l.fn.bytes;
  wide : AreWide (map (λ page. rc_slice_items page) l.pages.items);
}

abbrev pub decreases-loop-page : goal.decreases-loop-page
decreases-loop-page l = length l.rest
