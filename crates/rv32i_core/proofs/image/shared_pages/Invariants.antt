use Rattle.std.proofs.Common.{◌≡◌, ◌++◌, drop, length, map, replicate}
use Rattle.std.specs.Rc.{rc_slice_items}
use Rattle.rv32i_core.specs.PageKind.{shared}
use Rattle.rv32i_core.specs.Pages.{kind_of, page_bytes}
use Rattle.rv32i_core.proofs.image.shared_pages.Given as goal

-- the pages so far, and those that are left
abbrev pub invariant-loop-page : goal.invariant-loop-page
invariant-loop-page l = record {
  count : length l.made.items ≡ l.page-index;
  bytes : map (λ page. rc_slice_items page) l.pages ≡ map page_bytes l.made.items ++ map (λ page. rc_slice_items page) (drop l.page-index l.pages);
  kinds : map kind_of l.made.items ≡ replicate l.page-index shared;
}
