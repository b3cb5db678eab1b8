use Rattle.std.proofs.Common.{◌≡◌, ◌-◌, ◌≤◌, length, map}
use Rattle.rv32i_core.specs.Owning.{PagesAreOwn}
use Rattle.rv32i_core.specs.Pages.{kind_of, page_bytes}
use Rattle.rv32i_core.proofs.page.make_range_own.Given as goal

-- the pages so far are own, and enough of the spare is left for the others
abbrev pub invariant-loop-page : goal.invariant-loop-page
invariant-loop-page l = record {
  bytes : map page_bytes l.pages.items ≡ map page_bytes l.initial.pages.items;
  count : length l.pages.items ≡ 256;
  kinds : PagesAreOwn l.first l.page (map kind_of l.initial.pages.items) (map kind_of l.pages.items);
  room : l.end - l.page ≤ length l.spare.items;
}
