use Rattle.std.proofs.Common.{◌∙◌, sym}
use Rattle.stream_escape.proofs.Scan.{written_more, written_all}
use Rattle.stream_escape.proofs.escape.escape_runs.Goals as goal

pub loop-place-preserved : goal.loop-place-preserved
loop-place-preserved c =
    written_more c.loop-place.out c.extend.new.self c.extend-in-Some.new.self _ c.loop-place.rest.now c.split_at.result.0.now c.split_at.result.1.now c.in-Some.place
    (sym c.first_escape.ensures ∙ c.in-Some.is) c.split_at.ensures.front c.split_at.ensures.back c.in_ok-extend.ensures.ok c.in_ok-extend-2.ensures.ok c.loop-place.invariant

pub returns : goal.returns
returns c =
    written_all c.extend-2.result c.loop-place.out c.extend-2.new.self _ c.loop-place.rest.now (sym c.first_escape.ensures ∙ c.in_default.is) c.extend-2.ensures.ok c.loop-place.invariant
