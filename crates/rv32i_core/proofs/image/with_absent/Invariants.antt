use Rattle.std.proofs.Common.{◌≡◌, ◌++◌, ◌-◌, ◌≤◌, length, map, replicate}
use Rattle.rv32i_core.specs.PageKind.{absent}
use Rattle.rv32i_core.specs.Pages.{kind_of, page_bytes}
use Rattle.rv32i_core.proofs.image.with_absent.Given as goal

-- absent pages so far
abbrev pub invariant-loop-made : goal.invariant-loop-made
invariant-loop-made l = record {
  few : length l.made.items ≤ 256;
  more : length l.fn.pages.items ≤ length l.made.items;
  bytes : map page_bytes l.made.items ≡ map page_bytes l.fn.pages.items ++ replicate (length l.made.items - length l.fn.pages.items) (replicate 256 0);
  kinds : map kind_of l.made.items ≡ map kind_of l.fn.pages.items ++ replicate (length l.made.items - length l.fn.pages.items) absent;
}

abbrev pub decreases-loop-made : goal.decreases-loop-made
decreases-loop-made l = 256 - length l.made.items
