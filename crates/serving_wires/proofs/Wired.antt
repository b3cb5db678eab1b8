-- What an end got and gave out, by its wire.
use Rattle.std.proofs.Common.{◌≡◌, ℕ, ◌==◌, true, false, List, [], ◌∷◌, ◌++◌, Some, None, refl, ap, sym, ◌∙◌, append-nil, append_assoc}
use Rattle.std.proofs.lemmas.Bool.{false≢true}
use Rattle.tcf_wires.specs.declared.event.WireEvent.TheVariants as events
use Rattle.serving_wires.specs.Intake.{bytes_in}
use Rattle.serving_wires.specs.Standing.{Wire, unused_wire, wires_with, with_piece, with_wire}
use Rattle.serving_wires.specs.Wired.{IsWired}
use Rattle.serving_wires.specs.declared.intake.Came.{Came}
use Rattle.serving_wires.specs.declared.intake.Came.TheVariants.{Piece, End}
use Rattle.serving_wires.proofs.Waiting.{bytes_behind}
use Rattle.serving_wires.proofs.Rows.{found, item_found}
use Rattle.serving_wires.proofs.Wires.{AllGain, Wires, found_new, piece_other, piece_own}

-- all that came was got, or waits
pub record OnWire (channel : ℕ) (got gave : List ℕ) (waiting : List Came) (sent : Wires) : Type 0 where
  pub wire : Wire
  pub there : found channel sent ≡ Some wire
  pub queued : wire.queued ≡ gave
  pub came : wire.came ≡ got ++ bytes_in waiting

-- ---- a wire begins, and something comes on it

abbrev pub wire_begins : (channel : ℕ) (sent : Wires) → found channel sent ≡ None → OnWire channel [] [] [] (with_wire channel sent)
wire_begins channel sent missing = record { wire = unused_wire; there = found_new channel sent missing; queued = refl; came = refl }

abbrev pub wire_hears : (channel : ℕ) (bytes got gave : List ℕ) (waiting : List Came) (sent : Wires) → OnWire channel got gave waiting sent
    → OnWire channel got gave (waiting ++ Piece bytes ∷ []) (wires_with (events.Piece channel bytes) sent)
wire_hears channel bytes got gave waiting sent o =
    record {
      wire = with_piece bytes o.wire;
      there = piece_own channel bytes sent o.wire o.there;
      queued = o.queued;
      came = ap (λ (all : List ℕ). all ++ bytes) o.came ∙ append_assoc got (bytes_in waiting) bytes ∙ ap (λ (rest : List ℕ). got ++ rest) (sym (bytes_behind waiting (Piece bytes)));
    }

abbrev pub wire_ends : (channel : ℕ) (got gave : List ℕ) (waiting : List Came) (sent : Wires) → OnWire channel got gave waiting sent → OnWire channel got gave (waiting ++ End ∷ []) sent
wire_ends channel got gave waiting sent o =
    record {
      wire = o.wire;
      there = o.there;
      queued = o.queued;
      came = o.came ∙ ap (λ (rest : List ℕ). got ++ rest) (sym (bytes_behind waiting End ∙ append-nil (bytes_in waiting)));
    }

-- a piece on another wire
abbrev pub wire_spared : (on channel : ℕ) (bytes got gave : List ℕ) (waiting : List Came) (sent : Wires) → (on == channel) ≡ false → OnWire channel got gave waiting sent
    → OnWire channel got gave waiting (wires_with (events.Piece on bytes) sent)
wire_spared on channel bytes got gave waiting sent away o =
    record { wire = o.wire; there = piece_other on channel bytes sent away ∙ o.there; queued = o.queued; came = o.came }

-- ---- what waits first is got

abbrev pub piece_got : (channel : ℕ) (bytes got gave : List ℕ) (waiting : List Came) (sent : Wires) → OnWire channel got gave (Piece bytes ∷ waiting) sent
    → OnWire channel (got ++ bytes) gave waiting sent
piece_got channel bytes got gave waiting sent o =
    record { wire = o.wire; there = o.there; queued = o.queued; came = o.came ∙ sym (append_assoc got bytes (bytes_in waiting)) }

abbrev pub end_got : (channel : ℕ) (got gave : List ℕ) (waiting : List Came) (sent : Wires) → OnWire channel got gave (End ∷ waiting) sent → OnWire channel got gave waiting sent
end_got channel got gave waiting sent o = record { wire = o.wire; there = o.there; queued = o.queued; came = o.came }

-- ---- so it is wired, also where more came

pub is_wired : (channel : ℕ) (got gave : List ℕ) (waiting : List Came) (sent : Wires) → OnWire channel got gave waiting sent → IsWired channel sent got gave waiting true
is_wired channel got gave waiting sent o =
    record {
      wire = o.wire;
      there = item_found Wire channel sent ∙ o.there;
      queued = o.queued;
      unheard = [];
      came = o.came ∙ ap (λ (rest : List ℕ). got ++ rest) (sym (append-nil (bytes_in waiting)));
      all = λ is. refl;
    }

pub wired_yet : (channel : ℕ) (got gave : List ℕ) (waiting : List Came) (sent later : Wires) → AllGain sent later → OnWire channel got gave waiting sent
    → IsWired channel later got gave waiting false
wired_yet channel got gave waiting sent later gains o =
    let g = gains channel o.wire o.there in
    record {
      wire = g.now;
      there = item_found Wire channel later ∙ g.there;
      queued = g.queued ∙ o.queued;
      unheard = g.more;
      came = g.came ∙ ap (λ (all : List ℕ). all ++ g.more) o.came ∙ append_assoc got (bytes_in waiting) g.more;
      all = λ is. absurd (false≢true is);
    }
