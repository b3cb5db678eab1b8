use Rattle.std.proofs.Common.{◌<◌, ◌∙◌, ap, length, rules}
use Rattle.std.specs.Rc.{rc_slice_items}
use Rattle.rv32i_core.specs.Bytes.{image_memory}
use Rattle.rv32i_core.proofs.Images.{part_more, wide_push, few_last, cut_last, filled_memory}
use Rattle.rv32i_core.proofs.cutting.pages.Goals as goal

pub loop-page-preserved : goal.loop-page-preserved
loop-page-preserved c =
    let split = c.in-Some.ensures.cases in
    rw c.in_ok-push.ensures.items (record {
      bytes = part_more (λ page. rc_slice_items page) c.loop-page.pages.items c.in_ok-from_slice.field-0 c.in-Some.page.now c.loop-page.rest.now c.in-Some.later.now c.args.bytes.now
          c.loop-page.invariant.bytes c.in_ok-from_slice.ensures.ok split.1 split.2;
      wide = wide_push (λ page. rc_slice_items page) c.loop-page.pages.items c.in_ok-from_slice.field-0 c.loop-page.invariant.wide (ap length c.in_ok-from_slice.ensures.ok ∙ split.3);
    })

pub invariant_of-result-2 : goal.invariant_of-result-2
invariant_of-result-2 c =
    let some : 0 < length c.loop-page.rest.now = search rules in
    rw c.in_ok-push-2.ensures.items (record {
      few = few_last (λ page. rc_slice_items page) c.loop-page.pages.items c.in_ok-from_vec.field-0 c.loop-page.rest.now c.args.bytes.now c.loop-page.invariant.wide c.loop-page.invariant.bytes some c.requires;
      wide = wide_push (λ page. rc_slice_items page) c.loop-page.pages.items c.in_ok-from_vec.field-0 c.loop-page.invariant.wide (ap length c.in_ok-from_vec.ensures ∙ c.in_ok-padded.ensures.size);
    })

pub returns-clause-bytes : goal.returns-clause-bytes
returns-clause-bytes c =
    let some : 0 < length c.loop-page.rest.now = search rules in
    let less : length c.loop-page.rest.now < 256 = c.in_default.ensures.cases in
    rw c.in_ok-push-2.ensures.items (cut_last (λ page. rc_slice_items page) c.loop-page.pages.items c.in_ok-from_vec.field-0 c.loop-page.rest.now c.in_ok-padded.field-0.items c.args.bytes.now
    c.loop-page.invariant.wide c.loop-page.invariant.bytes some less c.in_ok-from_vec.ensures c.in_ok-padded.ensures.bytes)

pub returns-clause-memory : goal.returns-clause-memory
returns-clause-memory c = ap image_memory (returns-clause-bytes c) ∙ filled_memory c.args.bytes.now c.requires
