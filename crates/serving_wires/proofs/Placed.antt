-- What is heard by calls; and puts leave all as it stands, so that each is in its place.
use Rattle.std.proofs.Common.{◌≡◌, Bool, true, false, ◌||◌, List, [], ◌∷◌, ◌++◌, refl, sym, ap, ◌∙◌, subst, append-nil}
use Rattle.std.specs.Prelude.{Ok, Err}
use Rattle.std.specs.List.{list_any}
use Rattle.std.proofs.lemmas.Bool.{false≢true, or_parts}
use Rattle.std.proofs.lemmas.List.Sums.{fold-append}
use Rattle.std.proofs.lemmas.Grind.{flat_map-append}
use Rattle.tcf_wires.specs.declared.call.WireCall.{WireCall}
use Rattle.tcf_wires.specs.declared.call.WireCall.TheVariants.{Listened, Connected, Gave, Offered, Shut}
use Rattle.serving_wires.specs.Calls.{event_of, events_in}
use Rattle.serving_wires.specs.Serving.{EachBehind, IsInPlace as IsPutInPlace, IsOffer, fails, reaches_out}
use Rattle.serving_wires.proofs.Fronts.{both_none}
use Rattle.serving_wires.specs.Serve.{IsInPlace, Rests}
use Rattle.serving_wires.specs.Program.{Program}
use Rattle.serving_wires.specs.Standing.{Heard, State, after, after_one, at_first, heard_by, heard_in, is_resting, nodes_in, state_after}

-- ---- what is heard by calls, one behind the other

pub heard_both : (first rest : List WireCall) → heard_in (first ++ rest) ≡ heard_in first ++ heard_in rest
heard_both first rest = flat_map-append heard_by first rest

pub state_with : {A : Type 0} → (program : Program A) (calls : List WireCall) (call : WireCall) (heard : Heard) → heard_by call ≡ heard ∷ []
    → state_after program (calls ++ call ∷ []) ≡ after_one program (state_after program calls) heard
state_with program calls call heard is =
    ap (λ (hs : List Heard). after program hs) (heard_both calls (call ∷ []) ∙ ap (λ (hs : List Heard). heard_in calls ++ (hs ++ [])) is)
    ∙ fold-append (after_one program) (at_first program) (heard_in calls) (heard ∷ [])

pub state_stays : {A : Type 0} → (program : Program A) (calls more : List WireCall) → heard_in more ≡ [] → state_after program (calls ++ more) ≡ state_after program calls
state_stays program calls more nothing =
    ap (λ (hs : List Heard). after program hs) (heard_both calls more ∙ ap (λ (hs : List Heard). heard_in calls ++ hs) nothing ∙ append-nil (heard_in calls))

-- ---- puts, and shuttings

pub record ArePuts (calls : List WireCall) : Type 0 where
  pub no_event : events_in calls ≡ []
  pub sound : list_any fails calls ≡ false
  pub inside : list_any reaches_out calls ≡ false

pub record IsPut (call : WireCall) : Type 0 where
  pub no_event : event_of call ≡ []
  pub sound : fails call ≡ false
  pub inside : reaches_out call ≡ false

first_put : (call : WireCall) (calls : List WireCall) → ArePuts (call ∷ calls) → IsPut call
first_put call calls puts =
    record {
      no_event = (both_none (event_of call) (events_in calls) puts.no_event).0;
      sound = (or_parts (fails call) (list_any fails calls) puts.sound).0;
      inside = (or_parts (reaches_out call) (list_any reaches_out calls) puts.inside).0;
    }

other_puts : (call : WireCall) (calls : List WireCall) → ArePuts (call ∷ calls) → ArePuts calls
other_puts call calls puts =
    record {
      no_event = (both_none (event_of call) (events_in calls) puts.no_event).1;
      sound = (or_parts (fails call) (list_any fails calls) puts.sound).1;
      inside = (or_parts (reaches_out call) (list_any reaches_out calls) puts.inside).1;
    }

put_heard : (call : WireCall) → IsPut call → heard_by call ≡ []
put_heard (Listened address answer) put = refl
put_heard (Connected peer answer) put = absurd (false≢true (sym put.inside))
put_heard (Gave (Ok event)) put = absurd (let no = put.no_event in cc)
put_heard (Gave (Err refusal)) put = refl
put_heard (Offered channel piece answer) put = refl
put_heard (Shut channel) put = refl

pub puts_heard : (calls : List WireCall) → ArePuts calls → heard_in calls ≡ []
puts_heard [] puts = refl
puts_heard (call ∷ calls) puts = ap (λ (hs : List Heard). hs ++ heard_in calls) (put_heard call (first_put call calls puts)) ∙ puts_heard calls (other_puts call calls puts)

pub puts_before : (before : List WireCall) (call : WireCall) (behind : List WireCall) → ArePuts (before ++ call ∷ behind) → ArePuts before
puts_before [] call behind puts = record { no_event = refl; sound = refl; inside = refl }
puts_before (first ∷ before) call behind puts =
    let one = first_put first (before ++ call ∷ behind) puts in
    let rest = puts_before before call behind (other_puts first (before ++ call ∷ behind) puts) in
    record {
      no_event = ap (λ es. es ++ events_in before) one.no_event ∙ rest.no_event;
      sound = ap (λ (b : Bool). b || list_any fails before) one.sound ∙ rest.sound;
      inside = ap (λ (b : Bool). b || list_any reaches_out before) one.inside ∙ rest.inside;
    }

pub put_there : (before : List WireCall) (call : WireCall) (behind : List WireCall) → ArePuts (before ++ call ∷ behind) → IsPut call
put_there [] call behind puts = first_put call behind puts
put_there (first ∷ before) call behind puts = put_there before call behind (other_puts first (before ++ call ∷ behind) puts)

one_placed : {A : Type 0} → (program : Program A) (call : WireCall) (state : State A) (now : List WireCall) → IsPut call → state_after program now ≡ state → is_resting state ≡ true
    → IsPutInPlace (nodes_in state) now call → IsInPlace program now call
one_placed program (Listened address answer) state now put same resting place = absurd (false≢true (sym put.inside))
one_placed program (Connected to answer) state now put same resting place = absurd (false≢true (sym put.inside))
one_placed program (Gave (Ok event)) state now put same resting place = absurd (let no = put.no_event in cc)
one_placed program (Gave (Err refusal)) state now put same resting place = absurd (false≢true (sym put.sound))
one_placed {A = A} program (Offered channel piece answer) state now put same resting place =
    record { rests = ap is_resting same ∙ resting; offer = subst (λ (s : State A). IsOffer (nodes_in s) channel piece now) (sym same) place }
one_placed program (Shut channel) state now put same resting place = record { rests = ap is_resting same ∙ resting; once = place }

pub puts_placed : {A : Type 0} → (program : Program A) (calls more : List WireCall) → ArePuts more → Rests program calls → EachBehind (IsPutInPlace (nodes_in (state_after program calls))) calls more
    → EachBehind (IsInPlace program) calls more
puts_placed program calls more puts resting places before behind call split =
    let split_puts = subst ArePuts split puts in
    one_placed program call (state_after program calls) (calls ++ before) (put_there before call behind split_puts)
    (state_stays program calls before (puts_heard before (puts_before before call behind split_puts))) resting (places before behind call split)
