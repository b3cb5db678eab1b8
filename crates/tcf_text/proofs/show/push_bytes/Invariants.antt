use Rattle.std.proofs.Common.{◌≡◌, ◌++◌, drop}
use Rattle.std.specs.List.{flat_map}
use Rattle.tcf_text.specs.Log.{shown_byte, Grows}
use Rattle.tcf_text.proofs.show.push_bytes.Given as goal

abbrev pub invariant-loop-byte : goal.invariant-loop-byte
invariant-loop-byte l =
    record {
      text : l.initial.out ++ flat_map shown_byte l.bytes ≡ l.out ++ flat_map shown_byte (drop l.byte-index l.bytes);
      grows : Grows l.initial.out l.out;
    }
