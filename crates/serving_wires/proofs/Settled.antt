-- Where all that can be was put the wires are settled; and what was taken is a front of what is queued.
use Rattle.std.proofs.Common.{◌≡◌, ℕ, List, None}
use Rattle.tcf_wires.specs.Told.{taken_on}
use Rattle.tcf_wires.specs.declared.call.WireCall.{WireCall}
use Rattle.serving_wires.specs.Following.{Spares}
use Rattle.serving_wires.specs.Row.{Row}
use Rattle.serving_wires.specs.Flushing.{its_own}
use Rattle.serving_wires.specs.Serve.{CarriesWire}
use Rattle.serving_wires.specs.Standing.{Wire, wire_in}
use Rattle.serving_wires.specs.WireLaws.{WireLaws}
use Rattle.serving_wires.proofs.Flushed.{AllFlushed, flushed_there}
use Rattle.serving_wires.proofs.Keeping.{keeps_carried, keeps_front, keeps_shut}
use Rattle.serving_wires.proofs.Rows.{found}
use Rattle.serving_wires.proofs.Fronts.{IsFront}
use Rattle.serving_wires.proofs.Standing.{Meets, Stand, both, meets, neither, shut}
use Rattle.serving_wires.proofs.Ordered.{by_wires}
use Rattle.serving_wires.proofs.Leading.{Rows}

abbrev Sents : Type 0
Sents = List (Row Wire)

-- ---- each wire

carried_at : WireLaws → (calls : List WireCall) (channel : ℕ) (is : Sents) (rs : Rows) → AllFlushed its_own calls rs → (found channel is ≡ None → Spares channel calls)
    → Meets by_wires calls 0 channel is rs → CarriesWire (wire_in (found channel is)) channel calls
carried_at laws calls channel is rs all spares (neither m) = rw m.ideal (laws.unused channel calls (spares m.ideal))
carried_at laws calls channel is rs all spares (both s r first second keeps goes) =
    rw first (keeps_carried laws channel s r calls (flushed_there its_own calls channel r rs all second) keeps)
carried_at laws calls channel is rs all spares (shut s last first second done keeps goes) =
    rw first (keeps_carried laws channel s last calls (keeps_shut laws channel s last calls done keeps) keeps)

pub carried : WireLaws → (calls : List WireCall) (is : Sents) (rs : Rows) → Stand by_wires calls 0 is rs → AllFlushed its_own calls rs → ((channel : ℕ) → found channel is ≡ None → Spares channel calls)
    → (channel : ℕ) → CarriesWire (wire_in (found channel is)) channel calls
carried laws calls is rs stand all spares channel = carried_at laws calls channel is rs all (spares channel) (meets by_wires calls 0 is rs stand channel)

-- ---- what was taken, whatever memory was wanting

front_at : WireLaws → (calls : List WireCall) (channel : ℕ) (is : Sents) (rs : Rows) → (found channel is ≡ None → Spares channel calls) → Meets by_wires calls 0 channel is rs
    → IsFront (wire_in (found channel is)).queued (taken_on channel calls)
front_at laws calls channel is rs spares (neither m) = rw m.ideal ((laws.unused channel calls (spares m.ideal)).front)
front_at laws calls channel is rs spares (both s r first second keeps goes) = rw first (keeps_front channel s r calls keeps)
front_at laws calls channel is rs spares (shut s last first second done keeps goes) = rw first (keeps_front channel s last calls keeps)

pub front : WireLaws → (calls : List WireCall) (is : Sents) (rs : Rows) → Stand by_wires calls 0 is rs → ((channel : ℕ) → found channel is ≡ None → Spares channel calls)
    → (channel : ℕ) → IsFront (wire_in (found channel is)).queued (taken_on channel calls)
front laws calls is rs stand spares channel = front_at laws calls channel is rs (spares channel) (meets by_wires calls 0 is rs stand channel)
