-- A part as a kind of value.
use Rattle.std.specs.Prelude.{ℕ, List, Option, Result}
use Rattle.serde_json.specs.Data.{Data}
use Rattle.json_args.specs.Kinds.{shaped, value_at}
use Rattle.serde_json.specs.Written.{compact_text}
use Rattle.tcf_values.specs.Cut.{Lacks}
use Rattle.json_args.specs.declared.fault.ArgFault.{ArgFault}

-- a part as a kind
abbrev pub kind_at : {A : Type 0} → (Data → Option A) → List (List ℕ) → ℕ → Result A ArgFault
kind_at kind parts index = shaped kind index (value_at parts index)

-- the law: the canonical text of a value has no zero byte
abbrev pub TextsLackZero : Type 0
TextsLackZero = (d : Data) → Lacks 0 (compact_text d)
