use Rattle.std.proofs.Common.{◌≡◌, arith, sym, ◌∙◌}
use Rattle.stream_escape.specs.Value.{capped}
use Rattle.tcf_app.proofs.Items.{items_from, no_items, kept_text, kept_bad, kept_place, kept_end}
use Rattle.tcf_app.proofs.Answered.{none_of}
use Rattle.tcf_app.proofs.show.show_items.Goals as goal

pub loop-item-preserved : goal.loop-item-preserved
loop-item-preserved c =
    let from = items_from c.args.items.now c.loop-item.item-index c.item-item.result c.loop-item-test.true c.item-item.is in
    let good = sym c.in_ok-bad.ensures.bad ∙ none_of c.in_ok-bad.bad c.is_some.result c.is_some.ensures c.if-is_some.false in
    record {
      text = kept_text _ _ _ _ _ _ _ _ from good c.next_place-at.ensures c.in_ok-bad.ensures.text c.loop-item.invariant.text;
      bad = kept_bad _ _ _ _ _ _ from good c.next_place-at.ensures c.loop-item.invariant.bad;
      place = kept_place _ _ _ _ _ _ from c.next_place-at.ensures c.loop-item.invariant.place;
      fits = c.next_place-at.type_inv;
    }

pub returns-clause-place : goal.returns-clause-place
returns-clause-place c =
    let fits : c.loop-item.at ≡ capped c.loop-item.at = omega (arith, c.loop-item.invariant.fits) in
    λ e. kept_end _ _ _ (no_items _ _ c.loop-item-test.false) fits c.loop-item.invariant.place
