use Rattle.std.proofs.Common.{◌∙◌, ap, refl, take, List, ℕ}
use Rattle.tcf_outside.specs.Sink.{added}
use Rattle.tcf_app.proofs.Answered.{none_of, some_of, empty_of, on_err}
use Rattle.tcf_app.proofs.Stands.{stands_first, stands_next, next_piece, part_here, part_within, lines_bad, lines_end}
use Rattle.tcf_app.proofs.show.put_lines.Goals as goal

pub loop-rest-init : goal.loop-rest-init
loop-rest-init g c = record {
  stands = stands_first _ _ _ _ c.new-shower.ensures.between c.new-shower.ensures.offset c.new-shower.ensures.place;
  calm = refl;
}

pub returns-in_err-bad-clause-part : goal.returns-in_err-bad-clause-part
returns-in_err-bad-clause-part g c = on_err c.from_residual.result (part_here _ _ _ _ _ _ c.loop-rest.invariant.stands)

pub returns-in_err-put_all-clause-part : goal.returns-in_err-put_all-clause-part
returns-in_err-put_all-clause-part g c =
    let part = c.in_err-put_all.ensures.part in
    let next = next_piece _ _ _ _ _ _ _ _ _ _ _ _ c.loop-rest.invariant.stands c.in_ok-bad.ensures c.split_at.ensures.by_index.0 in
    on_err c.from_residual-in_err-put_all.result
    (part_within _ _ _ _ (g.S.Sink.seen c.args.out.now) (g.S.Sink.seen c.loop-rest.out) (g.S.Sink.seen c.put_all.new.sink) part.0 next c.loop-rest.invariant.stands.told_is
    (part.1 ∙ ap (λ (t : List ℕ). added (take part.0 t) (g.S.Sink.seen c.loop-rest.out).told) c.as_slice.ensures))

pub returns-then-is_some-clause-lines : goal.returns-then-is_some-clause-lines
returns-then-is_some-clause-lines g c =
    let next = next_piece _ _ _ _ _ _ _ _ _ _ _ _ c.loop-rest.invariant.stands c.in_ok-bad.ensures c.split_at.ensures.by_index.0 in
    let found = some_of c.in_ok-bad.bad c.is_some.result c.is_some.ensures c.if-is_some.true in
    lines_bad _ _ _ _ found.0 (g.S.Sink.seen c.args.out.now) (g.S.Sink.seen c.loop-rest.out) (g.S.Sink.seen c.put_all.new.sink) next found.1 c.loop-rest.invariant.stands.told_is
    (c.in_ok-put_all.ensures.put ∙ ap (λ (t : List ℕ). added t (g.S.Sink.seen c.loop-rest.out).told) c.as_slice.ensures)

pub loop-rest-preserved : goal.loop-rest-preserved
loop-rest-preserved g c =
    let good = none_of c.in_ok-bad.bad c.is_some.result c.is_some.ensures c.if-is_some.false in
    record {
      stands = stands_next _ _ _ _ _ _ _ _ _ _ _ _ _ c.loop-rest.invariant.stands c.in_ok-bad.ensures c.split_at.ensures.by_index.0 good
          (c.in_ok-put_all.ensures.put ∙ ap (λ (t : List ℕ). added t (g.S.Sink.seen c.loop-rest.out).told) c.as_slice.ensures);
      calm = c.in_ok-put_all.ensures.cause ∙ c.loop-rest.invariant.calm;
    }

pub returns-clause-lines : goal.returns-clause-lines
returns-clause-lines g c = lines_end _ _ _ _ _ _ _ c.loop-rest.invariant.stands (empty_of _ _ c.is_empty.ensures c.loop-rest-test.false) c.bad_end.ensures
