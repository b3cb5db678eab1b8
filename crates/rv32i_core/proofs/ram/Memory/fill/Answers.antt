use Rattle.std.proofs.Common.{◌∙◌, refl}
use Rattle.rv32i_core.proofs.Owned.{one_put_more}
use Rattle.rv32i_core.proofs.ram.Memory.fill.Goals as goal

pub loop-offset-preserved : goal.loop-offset-preserved
loop-offset-preserved c = record {
  bytes = one_put_more c.args.place c.loop-offset.offset _ c.args.bytes.now c.args.self.now.bytes c.loop-offset.self.bytes c.put_own.new.self.bytes
      c.loop-offset.invariant.bytes c.loop-offset-test.true c.requires.inside c.put_own.ensures.size refl c.put_own.ensures.bytes;
  kinds = c.put_own.ensures.kinds ∙ c.loop-offset.invariant.kinds;
  spare = c.put_own.ensures.spare ∙ c.loop-offset.invariant.spare;
}
