-- What calls say of a channel: part by part, and where none is on it.
use Rattle.std.proofs.Common.{◌≡◌, ◌≢◌, ℕ, ◌+◌, ◌==◌, Bool, true, false, ◌||◌, cond, List, [], ◌∷◌, ◌++◌, length, nat_lt, take, refl, sym, ap, ◌∙◌, append-nil, append_assoc, arith, ne_eqb, eqb-true}
use Rattle.std.specs.Prelude.{Ok, Err, fold, if◌then◌else◌}
use Rattle.std.specs.List.{list_all, list_any}
use Rattle.std.proofs.lemmas.Bool.{and_parts, or_parts}
use Rattle.std.proofs.lemmas.List.Folds.{list_any-append}
use Rattle.std.proofs.lemmas.List.Sums.{fold-append, sum_by-append}
use Rattle.std.proofs.lemmas.Grind.{flat_map-append}
use Rattle.tcf_wires.specs.Told.{taken_by, taken_on}
use Rattle.tcf_wires.specs.declared.call.WireCall.{WireCall}
use Rattle.tcf_wires.specs.declared.call.WireCall.TheVariants.{Listened, Connected, Gave, Offered, Shut}
use Rattle.tcf_wires.specs.declared.event.Put.TheVariants.{Took, Lost, NoMemory as NoRoom}
use Rattle.serving_wires.specs.Calls.{event_of, events_in, falls_short, is_short, loses_on, shut_count, shuts, was_lost}
use Rattle.serving_wires.specs.Following.{AreOn, Spares, is_on}
use Rattle.serving_wires.specs.Laws.{AreAside}
use Rattle.serving_wires.specs.Serving.{fails, reaches_out}

pub taken_both : (k : ℕ) (first rest : List WireCall) → taken_on k (first ++ rest) ≡ taken_on k first ++ taken_on k rest
taken_both k [] rest = refl
taken_both k (call ∷ first) rest =
    ap (λ (xs : List ℕ). taken_by call k ++ xs) (taken_both k first rest) ∙ sym (append_assoc (taken_by call k) (taken_on k first) (taken_on k rest))

pub lost_both : (k : ℕ) (first rest : List WireCall) → was_lost k (first ++ rest) ≡ (was_lost k first || was_lost k rest)
lost_both k first rest = list_any-append (loses_on k) first rest

pub shut_both : (k : ℕ) (first rest : List WireCall) → shut_count k (first ++ rest) ≡ shut_count k first + shut_count k rest
shut_both k first rest = sum_by-append (λ call. cond (shuts k call) 1 0) first rest

pub short_both : (k : ℕ) (first rest : List WireCall) → is_short k (first ++ rest) ≡ fold (falls_short k) (is_short k first) rest
short_both k first rest = fold-append (falls_short k) false first rest

pub events_both : (first rest : List WireCall) → events_in (first ++ rest) ≡ events_in first ++ events_in rest
events_both first rest = flat_map-append event_of first rest

-- behind these calls others with no event
pub same_events : (first rest : List WireCall) → events_in rest ≡ [] → events_in (first ++ rest) ≡ events_in first
same_events first rest none = events_both first rest ∙ ap (λ es. events_in first ++ es) none ∙ append-nil (events_in first)

pub none_of_both : (p : WireCall → Bool) (first rest : List WireCall) → list_any p first ≡ false → list_any p rest ≡ false → list_any p (first ++ rest) ≡ false
none_of_both p first rest here there = list_any-append p first rest ∙ ap (λ (b : Bool). b || list_any p rest) here ∙ there

-- ---- calls that aren't on a channel

pub record IsSpared (k : ℕ) (calls : List WireCall) : Type 0 where
  pub taken : taken_on k calls ≡ []
  pub lost : was_lost k calls ≡ false
  pub shut : shut_count k calls ≡ 0

abbrev shut_by_one : ℕ → WireCall → ℕ
shut_by_one k call = cond (shuts k call) 1 0

abbrev OneSpared : ℕ → WireCall → Type 0
OneSpared k call = (taken_by call k ≡ []) × (loses_on k call ≡ false) × (shut_by_one k call ≡ 0)

one_spared : (k : ℕ) (call : WireCall) → is_on k call ≡ false → OneSpared k call
one_spared k (Listened address answer) off = (refl, refl, refl)
one_spared k (Connected peer answer) off = (refl, refl, refl)
one_spared k (Gave answer) off = (refl, refl, refl)
one_spared k (Offered n piece (Took count)) off = (ap (λ (b : Bool). if b then take count piece else []) off, refl, refl)
one_spared k (Offered n piece Lost) off = (refl, off, refl)
one_spared k (Offered n piece NoRoom) off = (refl, refl, refl)
one_spared k (Shut n) off = (refl, refl, ap (λ (b : Bool). cond {A = ℕ} b 1 0) off)

pub spared : (k : ℕ) (calls : List WireCall) → Spares k calls → IsSpared k calls
spared k [] off = record { taken = refl; lost = refl; shut = refl }
spared k (call ∷ calls) off =
    let parts = or_parts (is_on k call) (list_any (is_on k) calls) off in
    let first = one_spared k call parts.0 in
    let rest = spared k calls parts.1 in
    record {
      taken = ap (λ (xs : List ℕ). xs ++ taken_on k calls) first.0 ∙ rest.taken;
      lost = ap (λ (b : Bool). b || was_lost k calls) first.1 ∙ rest.lost;
      shut = omega (arith, shut_both k (call ∷ []) calls, first.2, rest.shut);
    }

nothing_in : {A : Type 0} (xs ys : List A) → xs ++ ys ≡ [] → (xs ≡ []) × (ys ≡ [])
nothing_in [] ys none = (refl, none)
nothing_in (x ∷ xs) ys none = absurd cc

one_stays_short : (k : ℕ) (was : Bool) (call : WireCall) → is_on k call ≡ false → event_of call ≡ [] → falls_short k was call ≡ was
one_stays_short k was (Listened address answer) off none = refl
one_stays_short k was (Connected peer answer) off none = refl
one_stays_short k was (Gave (Ok event)) off none = absurd cc
one_stays_short k was (Gave (Err refusal)) off none = refl
one_stays_short k was (Offered n piece (Took count)) off none = ap (λ (b : Bool). if b then nat_lt count (length piece) else was) off
one_stays_short k was (Offered n piece Lost) off none = refl
one_stays_short k was (Offered n piece NoRoom) off none = refl
one_stays_short k was (Shut n) off none = refl

stays_by : (k : ℕ) (was : Bool) (calls : List WireCall) → Spares k calls → events_in calls ≡ [] → fold (falls_short k) was calls ≡ was
stays_by k was [] off none = refl
stays_by k was (call ∷ calls) off none =
    let parts = or_parts (is_on k call) (list_any (is_on k) calls) off in
    let nones = nothing_in (event_of call) (events_in calls) none in
    ap (λ (b : Bool). fold (falls_short k) b calls) (one_stays_short k was call parts.0 nones.0) ∙ stays_by k was calls parts.1 nones.1

pub stays_short : (k : ℕ) (calls more : List WireCall) → Spares k more → events_in more ≡ [] → is_short k (calls ++ more) ≡ is_short k calls
stays_short k calls more off none = short_both k calls more ∙ stays_by k (is_short k calls) more off none

-- ---- calls that are all on one channel

off_number : (n k other : ℕ) → (n == k) ≡ true → other ≢ k → (n == other) ≡ false
off_number n k other on differ = ne_eqb n other (λ same. differ (sym same ∙ eqb-true n k on))

abbrev OneAside : ℕ → WireCall → Type 0
OneAside k call = ((other : ℕ) → other ≢ k → is_on other call ≡ false) × (event_of call ≡ []) × (fails call ≡ false) × (reaches_out call ≡ false)

one_aside : (k : ℕ) (call : WireCall) → is_on k call ≡ true → OneAside k call
one_aside k (Listened address answer) on = absurd cc
one_aside k (Connected peer answer) on = absurd cc
one_aside k (Gave answer) on = absurd cc
one_aside k (Offered n piece answer) on = (λ other differ. off_number n k other on differ, refl, refl, refl)
one_aside k (Shut n) on = (λ other differ. off_number n k other on differ, refl, refl, refl)

pub aside : (k : ℕ) (calls : List WireCall) → AreOn k calls → AreAside k calls
aside k [] on = record { spares = λ other differ. refl; no_event = refl; sound = refl; inside = refl }
aside k (call ∷ calls) on =
    let parts = and_parts (is_on k call) (list_all (is_on k) calls) on in
    let first = one_aside k call parts.0 in
    let rest = aside k calls parts.1 in
    record {
      spares = λ other differ. ap (λ (b : Bool). b || list_any (is_on other) calls) (first.0 other differ) ∙ rest.spares other differ;
      no_event = ap (λ es. es ++ events_in calls) first.1 ∙ rest.no_event;
      sound = ap (λ (b : Bool). b || list_any fails calls) first.2 ∙ rest.sound;
      inside = ap (λ (b : Bool). b || list_any reaches_out calls) first.3 ∙ rest.inside;
    }
