-- The wires of one value-add change, and those that are free of it stay.
use Rattle.std.proofs.Common.{◌≡◌, ℕ, ◌==◌, false, List, Option, Some, None, ap, ◌∙◌}
use Rattle.tcf_wires.specs.declared.event.WireEvent.TheVariants as events
use Rattle.serving_wires.specs.Order.{Order, channel_of}
use Rattle.serving_wires.specs.Standing.{Wire, sent_with, wires_with, with_wire}
use Rattle.serving_wires.proofs.Rows.{found}
use Rattle.serving_wires.proofs.Wires.{Wires, found_push, not_new, piece_other, wire_other}
use Rattle.value_serving.specs.Serving.{is_number}

abbrev pub IsFree : ℕ → ℕ → Option ℕ → Type 0
IsFree channel low up = ((low == channel) ≡ false) × (is_number channel up ≡ false)

abbrev pub Spares : ℕ → Option ℕ → Wires → ℕ → Option ℕ → Wires → Type 0
Spares low up sent low_then up_then later =
    (channel : ℕ) (wire : Wire) → IsFree channel low up → found channel sent ≡ Some wire → (found channel later ≡ Some wire) × IsFree channel low_then up_then

pub spares_none : (low : ℕ) (up : Option ℕ) (sent : Wires) → Spares low up sent low up sent
spares_none low up sent = λ channel wire free is. (is, free)

pub spares_both : (low low1 low2 : ℕ) (up up1 up2 : Option ℕ) (sent sent1 sent2 : Wires) → Spares low up sent low1 up1 sent1 → Spares low1 up1 sent1 low2 up2 sent2
    → Spares low up sent low2 up2 sent2
spares_both low low1 low2 up up1 up2 sent sent1 sent2 first second = λ channel wire free is. let s = first channel wire free is in second channel wire s.1 s.0

pub spares_low : (order : Order) (low : ℕ) (up : Option ℕ) (sent : Wires) → channel_of order ≡ low → Spares low up sent low up (sent_with order sent)
spares_low order low up sent at = λ channel wire free is. (wire_other order channel sent (ap (λ (k : ℕ). k == channel) at ∙ free.0) ∙ is, free)

pub spares_up : (order : Order) (low above : ℕ) (sent : Wires) → channel_of order ≡ above → Spares low (Some above) sent low (Some above) (sent_with order sent)
spares_up order low above sent at = λ channel wire free is. (wire_other order channel sent (ap (λ (k : ℕ). k == channel) at ∙ free.1) ∙ is, free)

pub spares_piece_low : (bytes : List ℕ) (low : ℕ) (up : Option ℕ) (sent : Wires) → Spares low up sent low up (wires_with (events.Piece low bytes) sent)
spares_piece_low bytes low up sent = λ channel wire free is. (piece_other low channel bytes sent free.0 ∙ is, free)

pub spares_piece_up : (bytes : List ℕ) (low above : ℕ) (sent : Wires) → Spares low (Some above) sent low (Some above) (wires_with (events.Piece above bytes) sent)
spares_piece_up bytes low above sent = λ channel wire free is. (piece_other above channel bytes sent free.1 ∙ is, free)

pub spares_new : (low new : ℕ) (up : Option ℕ) (sent : Wires) → found new sent ≡ None → Spares low up sent low (Some new) (with_wire new sent)
spares_new low new up sent missing = λ channel wire free is. (found_push channel sent _ wire is, (free.0, not_new new channel sent wire missing is))
