-- What waits is given to the agent, one after the other.
use Rattle.std.proofs.Common.{◌≡◌, ℕ, ◌-◌, Bool, true, false, ◌||◌, List, [], ◌∷◌, nat_lt, Some, None, refl, sym, ap, ◌∙◌}
use Rattle.std.specs.Prelude.{if◌then◌else◌}
use Rattle.std.proofs.lemmas.Option.{none-some, same_Some}
use Rattle.agent_node.specs.AgentValue.{AgentValue}
use Rattle.serving_wires.specs.Intake.{left_for, next_for}
use Rattle.serving_wires.specs.declared.intake.Came.{Came}
use Rattle.serving_wires.specs.declared.intake.Came.TheVariants.{Piece, End}
use Rattle.agent_serving.specs.Passing.{Passed, after_turns, all_taken, came_to, end_is_taken, given_all, or_before, room_turns, waiting_on}

twice_before : (first second : Bool) (p : Passed) → or_before first (or_before second p) ≡ or_before (first || second) p
twice_before true second p = refl
twice_before false second p = refl

-- one was given, and room was made behind it
abbrev and_room : ℕ → Came → List Came → AgentValue → Passed
and_room k came later a =
    or_before (end_is_taken (room_turns k (came_to k came a)) k (came_to k came a)) (given_all k later (after_turns (room_turns k (came_to k came a)) k (came_to k came a)))

piece_given : (fits : Bool) (k : ℕ) (bytes : List ℕ) (later : List Came) (a : AgentValue) (came : Came) → nat_lt (waiting_on k a) 200 ≡ fits
    → (if fits then Some (Piece bytes) else None) ≡ Some came
    → given_all k (Piece bytes ∷ later) a ≡ and_room k came (left_for (waiting_on k a) (Piece bytes ∷ later)) a
piece_given true k bytes later a came is gives =
    let same : Piece bytes ≡ came = same_Some (Piece bytes) came gives in
    let left : left_for (waiting_on k a) (Piece bytes ∷ later) ≡ later = ap (λ (b : Bool). if b then later else Piece bytes ∷ later) is in
    ap (λ (b : Bool). if b then and_room k (Piece bytes) later a else all_taken k (Piece bytes ∷ later) a) is
    ∙ ap (λ (c : Came). and_room k c later a) same ∙ ap (λ (cs : List Came). and_room k came cs a) (sym left)
piece_given false k bytes later a came is gives = absurd (none-some came gives)

one_given : (k : ℕ) (waiting : List Came) (a : AgentValue) (came : Came) → next_for (waiting_on k a) waiting ≡ Some came
    → given_all k waiting a ≡ and_room k came (left_for (waiting_on k a) waiting) a
one_given k [] a came gives = absurd (none-some came gives)
one_given k (Piece bytes ∷ later) a came gives = piece_given (nat_lt (waiting_on k a) 200) k bytes later a came refl gives
one_given k (End ∷ later) a came gives = ap (λ (c : Came). and_room k c later a) (same_Some End came gives)

pub given_on : (k inbox : ℕ) (before taken after : Bool) (waiting left : List Came) (came : Came) (a given roomy : AgentValue) (all : Passed)
    → inbox ≡ waiting_on k a → next_for inbox waiting ≡ Some came → left ≡ left_for inbox waiting → given ≡ came_to k came a
    → roomy ≡ after_turns (waiting_on k given - 199) k given → taken ≡ end_is_taken (waiting_on k given - 199) k given → after ≡ (before || taken)
    → or_before before (given_all k waiting a) ≡ all → or_before after (given_all k left roomy) ≡ all
given_on k inbox before taken after waiting left came a given roomy all at gives rest given_is roomy_is taken_is after_is so =
    let gives_so : next_for (waiting_on k a) waiting ≡ Some came = ap (λ (n : ℕ). next_for n waiting) (sym at) ∙ gives in
    let rest_so : left ≡ left_for (waiting_on k a) waiting = rest ∙ ap (λ (n : ℕ). left_for n waiting) at in
    let roomy_so : roomy ≡ after_turns (room_turns k (came_to k came a)) k (came_to k came a) = roomy_is ∙ ap (λ (b : AgentValue). after_turns (room_turns k b) k b) given_is in
    let taken_so : taken ≡ end_is_taken (room_turns k (came_to k came a)) k (came_to k came a) = taken_is ∙ ap (λ (b : AgentValue). end_is_taken (room_turns k b) k b) given_is in
    ap (λ (b : Bool). or_before b (given_all k left roomy)) after_is ∙ sym (twice_before before taken (given_all k left roomy))
    ∙ ap (λ (p : Passed). or_before before (or_before taken p))
    (ap (λ (cs : List Came). given_all k cs roomy) rest_so ∙ ap (λ (b : AgentValue). given_all k (left_for (waiting_on k a) waiting) b) roomy_so)
    ∙ ap (λ (b : Bool). or_before before (or_before b (given_all k (left_for (waiting_on k a) waiting) (after_turns (room_turns k (came_to k came a)) k (came_to k came a))))) taken_so
    ∙ ap (λ (p : Passed). or_before before p) (sym (one_given k waiting a came gives_so)) ∙ so
