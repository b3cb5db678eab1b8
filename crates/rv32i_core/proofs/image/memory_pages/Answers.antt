use Rattle.std.proofs.Common.{◌≡◌, ◌-◌, ◌/◌, ◌++◌, ◌∙◌, ap, length, map, replicate}
use Rattle.std.proofs.lemmas.Result.{IfOk-weaker}
use Rattle.std.specs.Rc.{rc_slice_items}
use Rattle.rv32i_core.specs.Bytes.{image_memory}
use Rattle.rv32i_core.specs.PageKind.{absent}
use Rattle.rv32i_core.specs.Pages.{AreWide, image_kinds, joined, kind_of, page_bytes, pages_bytes}
use Rattle.rv32i_core.proofs.Images.{image_pages, image_wide, kinds_of_image}
use Rattle.rv32i_core.proofs.image.memory_pages.Goals as goal

pub returns-clause-wide : goal.returns-clause-wide
returns-clause-wide c =
    let is = c.in_ok-shared.ensures.bytes ∙ ap (λ pages. map (λ page. rc_slice_items page) pages) c.deref.ensures.value in
    IfOk-weaker c.with_absent.result
    (λ made. map page_bytes made.items ≡ map page_bytes c.in_ok-shared.shared.items ++ replicate (256 - length c.in_ok-shared.shared.items) (replicate 256 0))
    (λ made. AreWide (map page_bytes made.items))
    (λ made more. image_wide _ c.in_ok-shared.shared.items made.items c.image.invariant is more)
    c.with_absent.ensures.bytes

pub returns-clause-bytes : goal.returns-clause-bytes
returns-clause-bytes c =
    let is = c.in_ok-shared.ensures.bytes ∙ ap (λ pages. map (λ page. rc_slice_items page) pages) c.deref.ensures.value in
    rw (← c.image.view_is) (IfOk-weaker c.with_absent.result
    (λ made. map page_bytes made.items ≡ map page_bytes c.in_ok-shared.shared.items ++ replicate (256 - length c.in_ok-shared.shared.items) (replicate 256 0))
    (λ made. pages_bytes made.items ≡ image_memory _)
    (λ made more. image_pages _ c.in_ok-shared.shared.items made.items c.image.invariant is more)
    c.with_absent.ensures.bytes)

pub returns-clause-kinds : goal.returns-clause-kinds
returns-clause-kinds c =
    let is = c.in_ok-shared.ensures.bytes ∙ ap (λ pages. map (λ page. rc_slice_items page) pages) c.deref.ensures.value in
    rw (← c.image.view_is) (IfOk-weaker c.with_absent.result
    (λ made. map kind_of made.items ≡ map kind_of c.in_ok-shared.shared.items ++ replicate (256 - length c.in_ok-shared.shared.items) absent)
    (λ made. map kind_of made.items ≡ image_kinds (length (joined (map (λ page. rc_slice_items page) c.image.inside.pages.items)) / 256))
    (λ made more. kinds_of_image _ c.in_ok-shared.shared.items made.items _ c.image.invariant is c.in_ok-shared.ensures.count c.in_ok-shared.ensures.kinds more)
    c.with_absent.ensures.kinds)
