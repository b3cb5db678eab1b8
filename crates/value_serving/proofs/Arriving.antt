-- Something comes on a wire of a value-add, and waits for its side.
use Rattle.std.proofs.Common.{◌≡◌, ℕ, false, List, Option, Some, None, subst}
use Rattle.std.proofs.lemmas.Option.{same_Some}
use Rattle.list_laws.proofs.Numbers.{other_number}
use Rattle.tcf_wires.specs.declared.event.WireEvent.TheVariants as events
use Rattle.serving_wires.specs.Standing.{wires_with}
use Rattle.serving_wires.specs.declared.intake.Came.{Came}
use Rattle.serving_wires.specs.declared.intake.Came.TheVariants.{Piece, End}
use Rattle.serving_wires.proofs.Wired.{wire_ends, wire_hears, wire_spared}
use Rattle.serving_wires.proofs.Wires.{Wires}
use Rattle.value_node.specs.Passing.{Upper}
use Rattle.value_node.specs.declared.states.Side.{Side}
use Rattle.value_node.specs.declared.states.Side.TheVariants.{Below, Above}
use Rattle.value_serving.specs.Adds.{waits}
use Rattle.value_serving.specs.Served.{Passed, bytes_of}
use Rattle.value_serving.specs.Serving.{is_number}
use Rattle.value_serving.specs.declared.add.Add.{Add}
use Rattle.value_serving.proofs.Sparing.{Spares, spares_none, spares_piece_low, spares_piece_up}
use Rattle.value_serving.proofs.WhoseWire.{OnSide}
use Rattle.value_serving.proofs.Working.{UpWorks, Works, not_low}

-- the wires, once it came
abbrev pub came_on : ℕ → Came → Wires → Wires
came_on channel (Piece bytes) sent = wires_with (events.Piece channel bytes) sent
came_on channel End sent = sent

-- ---- from below

up_spared : (up : Option ℕ) (on low : ℕ) (bytes : List ℕ) (upper : Option Upper) (waiting : List Came) (high : Option Passed) (sent : Wires) → is_number on up ≡ false
    → UpWorks up low upper waiting high sent → UpWorks up low upper waiting high (wires_with (events.Piece on bytes) sent)
up_spared None on low bytes upper waiting high sent away w = w
up_spared (Some channel) on low bytes upper waiting high sent away w =
    record {
      passed = w.passed;
      linked = w.linked;
      on = wire_spared on channel bytes w.passed.got (bytes_of w.passed.gave) waiting sent (other_number channel on away) w.on;
      silent = w.silent;
      apart = w.apart;
    }

low_hears : (peer : List ℕ) (what : Came) (a : Add) (sent : Wires) → Works peer a sent → Works peer (waits Below what a) (came_on a.below what sent)
low_hears peer (Piece bytes) a sent w =
    record {
      low = w.low;
      high = w.high;
      made = w.made;
      lower = wire_hears a.below bytes w.low.got (bytes_of w.low.gave) a.lower sent w.lower;
      open_yet = w.open_yet;
      upper = up_spared a.above a.below a.below bytes a.node.relay.upper a.upper w.high sent (not_low a.above a.below a.node.relay.upper a.upper w.high sent w.upper) w.upper;
    }
low_hears peer End a sent w =
    record {
      low = w.low;
      high = w.high;
      made = w.made;
      lower = wire_ends a.below w.low.got (bytes_of w.low.gave) a.lower sent w.lower;
      open_yet = w.open_yet;
      upper = w.upper;
    }

-- ---- from above

high_hears : (peer : List ℕ) (what : Came) (b : Add) (channel : ℕ) (sent : Wires) → Works peer (record b { above = Some channel }) sent
    → Works peer (waits Above what (record b { above = Some channel })) (came_on channel what sent)
high_hears peer (Piece bytes) b channel sent w =
    let up = w.upper in
    record {
      low = w.low;
      high = w.high;
      made = w.made;
      lower = wire_spared channel b.below bytes w.low.got (bytes_of w.low.gave) b.lower sent (other_number b.below channel up.apart) w.lower;
      open_yet = w.open_yet;
      upper = record {
        passed = up.passed;
        linked = up.linked;
        on = wire_hears channel bytes up.passed.got (bytes_of up.passed.gave) b.upper sent up.on;
        silent = up.silent;
        apart = up.apart;
      };
    }
high_hears peer End b channel sent w =
    let up = w.upper in
    record {
      low = w.low;
      high = w.high;
      made = w.made;
      lower = w.lower;
      open_yet = w.open_yet;
      upper = record {
        passed = up.passed;
        linked = up.linked;
        on = wire_ends channel up.passed.got (bytes_of up.passed.gave) b.upper sent up.on;
        silent = up.silent;
        apart = up.apart;
      };
    }

high_by : (up : Option ℕ) (peer : List ℕ) (what : Came) (channel : ℕ) (b : Add) (sent : Wires) → up ≡ Some channel → Works peer (record b { above = up }) sent
    → Works peer (waits Above what (record b { above = up })) (came_on channel what sent)
high_by None peer what channel b sent is w = absurd cc
high_by (Some number) peer what channel b sent is w =
    subst (λ (k : ℕ). Works peer (waits Above what (record b { above = Some number })) (came_on k what sent)) (same_Some number channel is) (high_hears peer what b number sent w)

-- ---- from either side

pub side_hears : (peer : List ℕ) (side : Side) (what : Came) (channel : ℕ) (a : Add) (sent : Wires) → OnSide side channel a → Works peer a sent
    → Works peer (waits side what a) (came_on channel what sent)
side_hears peer Below what channel a sent is w = subst (λ (k : ℕ). Works peer (waits Below what a) (came_on k what sent)) is (low_hears peer what a sent w)
side_hears peer Above what channel a sent is w = high_by a.above peer what channel a sent is w

-- others stay

spares_low_by : (what : Came) (low : ℕ) (up : Option ℕ) (sent : Wires) → Spares low up sent low up (came_on low what sent)
spares_low_by (Piece bytes) low up sent = spares_piece_low bytes low up sent
spares_low_by End low up sent = spares_none low up sent

spares_up_by : (what : Came) (low above : ℕ) (sent : Wires) → Spares low (Some above) sent low (Some above) (came_on above what sent)
spares_up_by (Piece bytes) low above sent = spares_piece_up bytes low above sent
spares_up_by End low above sent = spares_none low (Some above) sent

spares_by : (up : Option ℕ) (what : Came) (channel low : ℕ) (sent : Wires) → up ≡ Some channel → Spares low up sent low up (came_on channel what sent)
spares_by None what channel low sent is = absurd cc
spares_by (Some number) what channel low sent is =
    subst (λ (k : ℕ). Spares low (Some number) sent low (Some number) (came_on k what sent)) (same_Some number channel is) (spares_up_by what low number sent)

pub side_spares : (side : Side) (what : Came) (channel : ℕ) (a : Add) (sent : Wires) → OnSide side channel a → Spares a.below a.above sent a.below a.above (came_on channel what sent)
side_spares Below what channel a sent is = subst (λ (k : ℕ). Spares a.below a.above sent a.below a.above (came_on k what sent)) is (spares_low_by what a.below a.above sent)
side_spares Above what channel a sent is = spares_by a.above what channel a.below sent is

-- on a wire of no value-add
pub nowhere_spares : (what : Came) (channel : ℕ) (sent : Wires) → Spares channel None sent channel None (came_on channel what sent)
nowhere_spares what channel sent = spares_low_by what channel None sent
