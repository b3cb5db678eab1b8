-- What is done, step by step: orders are given for wires, and where a connection is asked for, its answer says how it goes on.
use Rattle.std.specs.Prelude.{ℕ, Result}
use Rattle.tcf_wires.specs.declared.event.WireRefusal.{WireRefusal}
use Rattle.serving_wires.specs.Order.{Order}

-- a connection was made, which has this channel, or none was
abbrev pub Answer : Type 0
Answer = Result ℕ WireRefusal

pub data Process (A : Type 0) : Type 0 where
  done : A → Process A
  tells : Order → Process A → Process A
  asks : (Answer → Process A) → Process A

-- one thing, and then another with what came of it
abbrev pub and_then : {A : Type 0} → {B : Type 0} → Process A → (A → Process B) → Process B
and_then (done a) later = later a
and_then (tells order p) later = tells order (and_then p later)
and_then (asks next) later = asks (λ answer. and_then (next answer) later)
