-- What is said of a breakpoint beside the channel that owns it and its counts of hits. The files of this crate take it from
-- here.
use Rattle.std.specs.Prelude.{ℕ, []}
use Rattle.tcf_values.specs.declared.values.BpProps.{BpProps}
pub use Rattle.breakpoints.specs.declared.rows.Placed.{Placed}

-- properties beside the channel that they are to belong to; nothing has hit them
abbrev pub row_for : ℕ → BpProps → Placed
row_for channel props = record { channel = channel; props = props; counts = [] }
