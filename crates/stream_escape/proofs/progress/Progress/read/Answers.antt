use Rattle.std.proofs.Common.{arith, ap, length, length-drop}
use Rattle.std.proofs.lemmas.List.{take_rest}
use Rattle.std.proofs.lemmas.Result.{err_from_is_err_and}
use Rattle.stream_escape.proofs.Pieces.{takes_more, takes_fault}
use Rattle.stream_escape.proofs.progress.Progress.read.Goals as goal

pub returns-in_err-index : goal.returns-in_err-index
returns-in_err-index c =
    let p = err_from_is_err_and c.from_residual.result c.from_residual.ensures.1 in
    rw (p.1, p.2)
    (takes_fault c.args.start c.saturating_add-offset.result c.args.self.now c.loop-index.self c.advance.new.self c.args.piece.now c.args.items.now.items c.loop-index.items.items c.advance.new.items.items c.loop-index.index c.in_err-index.field-0.0
    c.loop-index.invariant.within c.loop-index.invariant.takes c.saturating_add-offset.ensures c.in_err-index.ensures.blocked c.in_err-index.ensures.same c.in_err-index.ensures.nothing)

pub loop-index-preserved : goal.loop-index-preserved
loop-index-preserved c =
    record {
      within = omega (arith, c.in_ok-index.ensures.within, ap length (take_rest c.args.piece.now c.loop-index.index), length-drop c.loop-index.index c.args.piece.now);
      takes = takes_more c.args.start c.args.self.now c.loop-index.self c.advance.new.self c.args.piece.now c.args.items.now.items c.loop-index.items.items c.advance.new.items.items c.loop-index.index c.in_ok-index.field-0
          c.loop-index.invariant.takes c.in_ok-index.ensures.ok;
    }
