use Rattle.std.proofs.Common.{◌≡◌, take}
use Rattle.rv32i_core.specs.Bytes.{with_bytes}
use Rattle.rv32i_core.proofs.ram.Memory.fill.Given as goal

-- the bytes so far are put
abbrev pub invariant-loop-offset : goal.invariant-loop-offset
invariant-loop-offset l = record {
  bytes : l.self.bytes ≡ with_bytes l.place (take l.offset l.bytes) l.initial.self.bytes;
  kinds : l.self.kinds ≡ l.initial.self.kinds;
  spare : l.self.spare ≡ l.initial.self.spare;
}
