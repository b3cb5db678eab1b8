-- Of a closed end nothing more is taken, and nothing more is sent.
use Rattle.std.proofs.Common.{◌≡◌, ℕ, ◌+◌, ◌-◌, Bool, true, false, cond, List, [], ◌∷◌, ◌++◌, length, take, Option, Some, None, is_some, Result, Ok, Err, refl, ap, ◌∙◌, append-nil}
use Rattle.std.proofs.lemmas.Bool.{or_left}
use Rattle.stream_escape.specs.Fed.{fed}
use Rattle.stream_escape.specs.declared.stream.Item.{Item}
use Rattle.stream_escape.specs.declared.stream.StreamFault.{StreamFault}
use Rattle.channel_core.specs.Closing.{first_pending, is_closed}
use Rattle.channel_core.specs.EndValue.{EndValue}
use Rattle.channel_core.specs.Laws.{listed}
use Rattle.channel_core.specs.QueueLaws.{TakesNothingClosed}
use Rattle.channel_core.specs.Receiving.{came_by, delivered, is_over, item_came, stopped_by, with_last}
use Rattle.channel_core.specs.RunLaws.{StaysClosed, sent_of}
use Rattle.channel_core.specs.Runs.{Call, Issued, Run, after_call, after_calls, closing, commanding, delivering, draining, ending, putting_out, sending, taking, unless_refused}
use Rattle.channel_core.specs.Sending.{refusal_of, refusal_to}
use Rattle.channel_core.specs.declared.held.Held.{Held}
use Rattle.channel_core.specs.declared.sending.SendRefusal.{SendRefusal}
use Rattle.channel_core.specs.declared.sending.SendRefusal.TheVariants.{NotOpen}
use Rattle.channel_core.specs.declared.states.Cause.TheVariants.{Stream}
use Rattle.channel_core.specs.declared.taking.Taken.{Taken}

-- it holds now, and whatever more is called
abbrev pub FromNowOn : {T : Type 0} → (Run T → Type 0) → Run T → Type 0
FromNowOn {T} P r = (more : List (Call T)) → P (after_calls more r)

pub record IsStill {T : Type 0} (r later : Run T) : Type 0 where
  pub taken : later.past.taken ≡ r.past.taken
  pub accepted : later.past.accepted ≡ r.past.accepted
  pub held : later.end.held ≡ r.end.held

pub held_by : {T : Type 0} → (flag : Bool) (one other e : EndValue T) → one.held ≡ e.held → other.held ≡ e.held → (cond flag one other).held ≡ e.held
held_by true one other e first second = first
held_by false one other e first second = second

-- ---- What comes is ignored

came_still : {T : Type 0} → (mark : Option ℕ) (list : List Item) (e : EndValue T) → is_over e ≡ true → came_by mark list e ≡ e
came_still mark [] e over = refl
came_still mark (i ∷ list) e over = ap (λ flag. came_by mark list (cond flag e (item_came mark i e))) over ∙ came_still mark list e over

stopped_still : {T : Type 0} → (answer : Result Unit StreamFault) (e : EndValue T) → (stopped_by answer e).held ≡ e.held
stopped_still (Ok done) e = refl
stopped_still (Err fault) e = held_by (is_over e) e (with_last (Stream fault) e) e refl refl

delivered_still : {T : Type 0} → (piece : List ℕ) (mark : Option ℕ) (e : EndValue T) → is_closed e.state ≡ true → (delivered piece mark e).held ≡ e.held
delivered_still piece mark e closed =
    let given = fed piece e.stream in
    let next = record e { stream = given.reader } in
    stopped_still given.answer (came_by mark given.items next) ∙ ap (λ x. x.held) (came_still mark given.items next (or_left (is_closed e.state) (is_some e.stop) closed))

-- ---- Each call

is_refused : {T : Type 0} → (size : ℕ) (e : EndValue T) → is_closed e.state ≡ true → refusal_of size e ≡ Some NotOpen
is_refused size e closed = rw closed refl

refused_still : {T : Type 0} → (refusal : Option SendRefusal) (all more : List (Issued T)) (e next : EndValue T) → refusal ≡ Some NotOpen
    → (all ++ unless_refused refusal [] more ≡ all) × ((unless_refused refusal e next).held ≡ e.held)
refused_still None all more e next is = absurd cc
refused_still (Some why) all more e next is = (append-nil all, refl)

still_called : {T : Type 0} → (call : Call T) (r : Run T) → TakesNothingClosed r → is_closed r.end.state ≡ true → IsStill r (after_call call r)
still_called (delivering piece mark) r none closed = record { taken = refl; accepted = refl; held = delivered_still piece mark r.end closed }
still_called ending r none closed = record { taken = refl; accepted = refl; held = held_by (is_over r.end) r.end _ r.end refl refl }
still_called {T = T} taking r none closed =
    let nothing = none closed in
    record {
      taken = ap (λ (next : Option (Taken T) × EndValue T). r.past.taken ++ listed next.0) nothing ∙ append-nil r.past.taken;
      accepted = refl;
      held = ap (λ (next : Option (Taken T) × EndValue T). next.1.held) nothing;
    }
still_called (commanding service name body tag mark) r none closed =
    let refused = refused_still (refusal_to service name body r.end) r.past.accepted _ r.end _ (is_refused (length service + length name + length body) r.end closed) in
    record { taken = refl; accepted = refused.0; held = refused.1 }
still_called (sending message mark) r none closed = record { taken = refl; accepted = refl; held = held_by (is_closed r.end.state) r.end _ r.end refl refl }
still_called putting_out r none closed = record { taken = refl; accepted = refl; held = refl }
still_called closing r none closed = record { taken = refl; accepted = refl; held = held_by (is_closed r.end.state) r.end _ r.end refl refl }
still_called draining r none closed = record { taken = refl; accepted = refl; held = held_by (is_closed r.end.state) _ r.end r.end refl refl }

pub still_after : {T : Type 0} → (calls : List (Call T)) (r : Run T) → FromNowOn TakesNothingClosed r → FromNowOn StaysClosed r → is_closed r.end.state ≡ true → IsStill r (after_calls calls r)
still_after [] r none stays closed = record { taken = refl; accepted = refl; held = refl }
still_after (call ∷ calls) r none stays closed =
    let one = still_called call r (none []) closed in
    let still = ap is_closed (stays [] (call ∷ []) closed).state ∙ closed in
    let rest = still_after calls (after_call call r) (λ more. none (call ∷ more)) (λ more. stays (call ∷ more)) still in
    record { taken = rest.taken ∙ one.taken; accepted = rest.accepted ∙ one.accepted; held = rest.held ∙ one.held }

pub same_sent : {T : Type 0} → (r later : Run T) → later.past.accepted ≡ r.past.accepted → later.end.held ≡ r.end.held → sent_of later ≡ sent_of r
same_sent {T = T} r later accepted held =
    ap (λ (all : List (Issued T)). take (length all - length later.end.held) all) accepted ∙ ap (λ (hs : List Held). take (length r.past.accepted - length hs) r.past.accepted) held

-- ---- An open end has drained nothing

undrained_called : {T : Type 0} → (call : Call T) (r : Run T) → is_closed r.end.state ≡ false → r.past.drained ≡ [] → (after_call call r).past.drained ≡ []
undrained_called (delivering piece mark) r opened is = is
undrained_called ending r opened is = is
undrained_called taking r opened is = is
undrained_called (commanding service name body tag mark) r opened is = is
undrained_called (sending message mark) r opened is = is
undrained_called putting_out r opened is = is
undrained_called closing r opened is = is
undrained_called draining r opened is = ap (λ flag. r.past.drained ++ listed (cond flag (first_pending r.end.pending) None)) opened ∙ append-nil r.past.drained ∙ is

pub undrained_after : {T : Type 0} → (calls : List (Call T)) (r : Run T) → FromNowOn StaysClosed r → r.past.drained ≡ [] → is_closed (after_calls calls r).end.state ≡ false → (after_calls calls r).past.drained ≡ []
undrained_after [] r stays is opened = is
undrained_after {T = T} (call ∷ calls) r stays is opened =
    by_flag (is_closed r.end.state) refl (λ none. undrained_after calls (after_call call r) (λ more. stays (call ∷ more)) none opened)
  where
    by_flag : (flag : Bool) → is_closed r.end.state ≡ flag → ((after_call call r).past.drained ≡ [] → (after_calls calls (after_call call r)).past.drained ≡ [])
        → (after_calls calls (after_call call r)).past.drained ≡ []
    by_flag true closed rest = let later : is_closed (after_calls calls (after_call call r)).end.state ≡ true = ap is_closed (stays [] (call ∷ calls) closed).state ∙ closed in absurd cc
    by_flag false open_yet rest = rest (undrained_called call r open_yet is)
