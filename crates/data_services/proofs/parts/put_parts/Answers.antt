use Rattle.std.proofs.Common.{get_or}
use Rattle.std.proofs.lemmas.List.{drop_more}
use Rattle.data_services.specs.declared.parts.Part.{Part}
use Rattle.data_services.proofs.PartSteps.{put_step, size_step}
use Rattle.data_services.proofs.parts.put_parts.Goals as goal

-- one part more
pub loop-part-preserved : goal.loop-part-preserved
loop-part-preserved c =
    let none : Part = record { register = record { process = 0; thread = 0; index = 0 }; offset = 0; size = 0 } in
    let parts = c.args.parts.now in
    let i = c.loop-part.part-index in
    let part : Part = get_or parts i none in
    let split = drop_more parts i none c.loop-part-test.true in
    let rest = c.loop-part.rest.now in
    let later = c.split_at.result.1.now in
    record {
      same = put_step parts i part rest c.split_at.result.0.now later c.loop-part.targets.seen c.put_part.new.targets.seen _ split c.split_at.ensures.front c.split_at.ensures.back c.put_part.ensures c.loop-part.invariant.same;
      size = size_step parts i part rest later split c.split_at.ensures.back c.loop-part.invariant.size;
    }
