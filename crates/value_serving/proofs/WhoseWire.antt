-- Whose wire a channel is: that of the value-add at the place where it is found, on that side, or of none.
use Rattle.std.proofs.Common.{◌≡◌, ℕ, suc, ◌==◌, Bool, true, false, cond, List, [], ◌∷◌, Option, Some, None, refl, ap, sym, ◌∙◌, eqb-true}
use Rattle.std.specs.Prelude.{option_map, position, slice_get}
use Rattle.std.specs.List.{AllByRecursion}
use Rattle.std.proofs.lemmas.Option.{same_Some}
use Rattle.serving_wires.specs.Row.{Row}
use Rattle.serving_wires.specs.Rows.{item_at, place_of}
use Rattle.serving_wires.proofs.Rows.{position_step}
use Rattle.value_node.specs.declared.states.Side.{Side}
use Rattle.value_node.specs.declared.states.Side.TheVariants.{Below, Above}
use Rattle.value_serving.specs.Serving.{above_of, below_or, is_number, wire_of}
use Rattle.value_serving.specs.declared.add.Add.{Add}

-- ---- the first that fits

record Fits {A : Type 0} (P : A → Type 0) (fits_so : A → Bool) (xs : List A) (place : ℕ) : Type 0 where
  it : A
  there : slice_get xs place ≡ Some it
  fits : fits_so it ≡ true
  holds : P it

at_position : {A : Type 0} → (P : A → Type 0) (fits : A → Bool) (xs : List A) (place : ℕ) → AllByRecursion P xs → position fits xs ≡ Some place → Fits P fits xs place
at_position P fits [] place all is = absurd cc
at_position {A = A} P fits (x ∷ xs) place all is = by_flag (fits x) refl (sym (position_step fits x xs) ∙ is) (λ k so. at_position P fits xs k all.1 so)
  where
    behind : (first : Option ℕ) → position fits xs ≡ first → option_map suc first ≡ Some place → ((k : ℕ) → position fits xs ≡ Some k → Fits P fits xs k) → Fits P fits (x ∷ xs) place
    behind None so is rest = absurd cc
    behind (Some k) so is rest =
        let f = rest k so in
        record { it = f.it; there = ap (λ (n : ℕ). slice_get (x ∷ xs) n) (sym (same_Some (suc k) place is)) ∙ f.there; fits = f.fits; holds = f.holds }

    by_flag : (flag : Bool) → fits x ≡ flag → cond flag (Some 0) (option_map suc (position fits xs)) ≡ Some place → ((k : ℕ) → position fits xs ≡ Some k → Fits P fits xs k)
        → Fits P fits (x ∷ xs) place
    by_flag true on is rest = record { it = x; there = ap (λ (n : ℕ). slice_get (x ∷ xs) n) (sym (same_Some 0 place is)); fits = on; holds = all.0 }
    by_flag false off is rest = behind (position fits xs) refl is rest

none_before : (o : Option ℕ) → option_map suc o ≡ None → o ≡ None
none_before None is = refl
none_before (Some k) is = absurd cc

none_fits : {A : Type 0} → (fits : A → Bool) (xs : List A) → position fits xs ≡ None → AllByRecursion (λ x. fits x ≡ false) xs
none_fits fits [] is = tt
none_fits fits (x ∷ xs) is = by_flag (fits x) refl (sym (position_step fits x xs) ∙ is) (λ so. none_fits fits xs so)
  where
    by_flag : (flag : Bool) → fits x ≡ flag → cond flag (Some 0) (option_map suc (position fits xs)) ≡ None → (position fits xs ≡ None → AllByRecursion (λ y. fits y ≡ false) xs)
        → AllByRecursion (λ y. fits y ≡ false) (x ∷ xs)
    by_flag true on is rest = absurd cc
    by_flag false off is rest = (off, rest (none_before (position fits xs) is))

-- ---- the value-adds

-- it stands under the channel of its wire below
abbrev pub IsItsOwn : Row Add → Type 0
IsItsOwn row = row.channel ≡ row.item.below

abbrev pub OnSide : Side → ℕ → Add → Type 0
OnSide Below channel a = a.below ≡ channel
OnSide Above channel a = a.above ≡ Some channel

-- neither of its wires has the channel
abbrev pub IsAway : ℕ → Row Add → Type 0
IsAway channel row = ((row.item.below == channel) ≡ false) × (is_number channel row.item.above ≡ false)

abbrev pub IsWireOf : ℕ → List (Row Add) → Option (ℕ × Side) → Type 0
IsWireOf channel adds None = AllByRecursion (IsAway channel) adds
IsWireOf channel adds (Some (place, side)) = (a : Add) × (item_at place adds ≡ Some a) × OnSide side channel a

number_is : (channel : ℕ) (up : Option ℕ) → is_number channel up ≡ true → up ≡ Some channel
number_is channel None is = absurd cc
number_is channel (Some number) is = ap (λ (n : ℕ). Some n) (eqb-true number channel is)

all_away : (channel : ℕ) (adds : List (Row Add)) → AllByRecursion IsItsOwn adds → AllByRecursion (λ row. (row.channel == channel) ≡ false) adds
    → AllByRecursion (λ row. is_number channel row.item.above ≡ false) adds → AllByRecursion (IsAway channel) adds
all_away channel [] own low up = tt
all_away channel (row ∷ rows) own low up =
    ((ap (λ (n : ℕ). n == channel) (sym own.0) ∙ low.0, up.0), all_away channel rows own.1 low.1 up.1)

wire_by : (channel : ℕ) (adds : List (Row Add)) (low up : Option ℕ) → AllByRecursion IsItsOwn adds → place_of channel adds ≡ low → above_of channel adds ≡ up
    → IsWireOf channel adds (below_or low up)
wire_by channel adds (Some place) up own low_is up_is =
    let f = at_position IsItsOwn (λ row. row.channel == channel) adds place own low_is in
    (f.it.item, ap (λ (o : Option (Row Add)). option_map (λ row. row.item) o) f.there, sym f.holds ∙ eqb-true f.it.channel channel f.fits)
wire_by channel adds None (Some place) own low_is up_is =
    let f = at_position IsItsOwn (λ row. is_number channel row.item.above) adds place own up_is in
    (f.it.item, ap (λ (o : Option (Row Add)). option_map (λ row. row.item) o) f.there, number_is channel f.it.item.above f.fits)
wire_by channel adds None None own low_is up_is =
    all_away channel adds own (none_fits (λ row. row.channel == channel) adds low_is) (none_fits (λ row. is_number channel row.item.above) adds up_is)

pub wire_is : (channel : ℕ) (adds : List (Row Add)) → AllByRecursion IsItsOwn adds → IsWireOf channel adds (wire_of channel adds)
unfolding wire_of
wire_is channel adds own = wire_by channel adds (place_of channel adds) (above_of channel adds) own refl refl
