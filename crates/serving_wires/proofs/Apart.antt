-- The wires of a run have channels of their own.
use Rattle.std.proofs.Common.{◌≡◌, ℕ, ◌+◌, ◌≤◌, ◌==◌, Bool, false, List, refl, sym, ap, ◌∙◌, subst, arith, ne_eqb}
use Rattle.std.specs.List.{AllByRecursion, IsDistinct}
use Rattle.list_laws.proofs.AllLists.{all_weaker}
use Rattle.tcf_wires.specs.declared.call.WireCall.{WireCall}
use Rattle.serving_wires.specs.Order.{Order, channel_of}
use Rattle.serving_wires.specs.Process.{Process, asks, done, tells}
use Rattle.serving_wires.specs.Program.{Program}
use Rattle.serving_wires.specs.Row.{Row}
use Rattle.serving_wires.specs.Standing.{AreApart, State, Wire, landed, sent_after, sent_in, sent_with, state_after}
use Rattle.serving_wires.proofs.Landed.{Holds, Landed, Sents}
use Rattle.serving_wires.proofs.Leading.{Rows}
use Rattle.serving_wires.proofs.Ordered.{by_wires}
use Rattle.serving_wires.proofs.Rows.{change_first, changed_numbers, numbers}
use Rattle.serving_wires.proofs.Running.{Resting}
use Rattle.serving_wires.proofs.Standing.{Relation, Stand, gone, kept, none}

abbrev pub same_channel : ℕ → ℕ → Bool
same_channel one other = one == other

-- ---- wires in rising order differ

stand_above : {I T : Type 0} → (r : Relation I T) (calls : List WireCall) (low : ℕ) (ideals : List (Row I)) (reals : List (Row T)) → Stand r calls low ideals reals
    → AllByRecursion (λ (k : ℕ). low ≤ k) (numbers ideals)
stand_above r calls low ideals reals (none n) = tt
stand_above r calls low ideals reals (kept n ideal real is rs k rest) =
    (k.above, all_weaker (λ (j : ℕ). ideal.channel + 1 ≤ j) (λ (j : ℕ). low ≤ j) (numbers is) (λ j more. omega (arith, more, k.above)) (stand_above r calls (ideal.channel + 1) is rs rest))
stand_above r calls low ideals reals (gone n ideal is rs lost rest) =
    (lost.above, all_weaker (λ (j : ℕ). ideal.channel + 1 ≤ j) (λ (j : ℕ). low ≤ j) (numbers is) (λ j more. omega (arith, more, lost.above)) (stand_above r calls (ideal.channel + 1) is rs rest))

none_again : (channel : ℕ) (channels : List ℕ) → AllByRecursion (λ (j : ℕ). channel + 1 ≤ j) channels → AllByRecursion (λ (j : ℕ). (channel == j) ≡ false) channels
none_again channel channels all =
    all_weaker (λ (j : ℕ). channel + 1 ≤ j) (λ (j : ℕ). (channel == j) ≡ false) channels (λ j more. ne_eqb channel j (λ same. absurd (omega (arith, more, same)))) all

stand_distinct : {I T : Type 0} → (r : Relation I T) (calls : List WireCall) (low : ℕ) (ideals : List (Row I)) (reals : List (Row T)) → Stand r calls low ideals reals
    → IsDistinct same_channel (numbers ideals)
unfolding IsDistinct
stand_distinct r calls low ideals reals (none n) = tt
stand_distinct r calls low ideals reals (kept n ideal real is rs k rest) =
    (none_again ideal.channel (numbers is) (stand_above r calls (ideal.channel + 1) is rs rest), stand_distinct r calls (ideal.channel + 1) is rs rest)
stand_distinct r calls low ideals reals (gone n ideal is rs lost rest) =
    (none_again ideal.channel (numbers is) (stand_above r calls (ideal.channel + 1) is rs rest), stand_distinct r calls (ideal.channel + 1) is rs rest)

holds_apart : (unused : ℕ) (calls : List WireCall) (sent : Sents) (rows : Rows) → Holds unused calls sent rows → AreApart sent
holds_apart unused calls sent rows h = stand_distinct by_wires calls 0 sent rows h.lines

-- ---- an order changes no number

ordered_numbers : (order : Order) (sent : Sents) → numbers (sent_with order sent) ≡ numbers sent
ordered_numbers order sent = ap (λ (rs : Sents). numbers rs) (change_first Wire (channel_of order) (sent_after order) sent) ∙ changed_numbers (channel_of order) (sent_after order) sent

pub landed_numbers : {A : Type 0} → (served : A) (sent : Sents) (p : Process A) → numbers (sent_in (landed served sent p)) ≡ numbers sent
landed_numbers served sent (done news) = refl
landed_numbers served sent (tells order p) = landed_numbers served (sent_with order sent) p ∙ ordered_numbers order sent
landed_numbers served sent (asks next) = refl

-- ---- so in a run

pub rests_apart : {A : Type 0} → (program : Program A) (served : A) (sending : Rows) (unused : ℕ) (calls : List WireCall) → Resting program served sending unused calls
    → AreApart (sent_in (state_after program calls))
rests_apart {A = A} program served sending unused calls r =
    subst AreApart (sym (ap (λ (s : State A). sent_in s) r.state)) (holds_apart unused calls r.sent sending r.holds)

pub landed_apart : {A : Type 0} → (program : Program A) (served : A) (rows : Rows) (unused : ℕ) (calls : List WireCall) (p : Process A) → Landed program served rows unused calls p
    → AreApart (sent_in (state_after program calls))
landed_apart {A = A} program served rows unused calls p l =
    let same : numbers (sent_in (state_after program calls)) ≡ numbers l.sent = ap (λ (s : State A). numbers (sent_in s)) l.state ∙ landed_numbers served l.sent p in
    subst (IsDistinct same_channel) (sym same) (holds_apart unused calls l.sent rows l.holds)
