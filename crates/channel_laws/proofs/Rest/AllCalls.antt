-- Every call keeps where an end stands.
use Rattle.std.proofs.Common.{◌≡◌, ◌≢◌, ℕ, zero, suc, ◌+◌, ◌-◌, ◌≤◌, Bool, true, false, cond, not, List, [], ◌∷◌, ◌++◌, length, map, take, Option, Some, None, refl, sym, ap, ◌∙◌, subst, arith, append-nil, length-append}
use Rattle.std.specs.Prelude.{slice_get}
use Rattle.std.specs.List.{filter}
use Rattle.std.proofs.lemmas.Bool.{eqb-false}
use Rattle.std.proofs.lemmas.List.{length-map}
use Rattle.channel_core.specs.Beginning.{new_end}
use Rattle.channel_core.specs.Closing.{is_closed}
use Rattle.channel_core.specs.Receiving.{is_over}
use Rattle.channel_core.specs.RunLaws.{AfterAllCalls, is_answered, row_of, sent_of}
use Rattle.channel_core.specs.Runs.{Call, Issued, Run, after_call, after_calls, begun, closing, commanding, delivering, draining, ending, issued, putting_out, sending, taking}
use Rattle.channel_core.specs.Sending.{last_token, refusal_to}
use Rattle.channel_core.specs.Taking.{next_taken}
use Rattle.channel_core.specs.declared.states.Cause.TheVariants.{Own}
use Rattle.channel_core.specs.declared.taking.Taken.{Taken}
use Rattle.channel_core.proofs.ClosingSo.{all_takes_nothing}
use Rattle.channel_core.proofs.Finals.{unspent}
use Rattle.channel_core.proofs.Rows.{IsRising, rising_filter, rising_of}
use Rattle.channel_core.proofs.Running.{Stands as AlwaysStands, always, stands_after, stands_at_first}
use Rattle.channel_laws.specs.Rest.{AreAnswered, PendsUnanswered, StandsAsTaken}
use Rattle.channel_laws.proofs.Rest.Resting.{IsNew, Rests, rests_commanded, rests_delivered, same, shut}
use Rattle.channel_laws.proofs.Rest.Standing.{Stands, stands_as}
use Rattle.channel_laws.proofs.Rest.Taking.{AreNamed, rests_taken}
use Rattle.list_laws.proofs.Flags.{not_true}
use Rattle.list_laws.proofs.Lists.{take_front}
use Rattle.channel_core.proofs.Commands.{none_waits}
use Rattle.channel_core.proofs.Keeping.{either_keeps as either}

-- ---- What is pending has no answer

filter_passes : {A : Type 0} → (test : A → Bool) (xs : List A) (place : ℕ) (x : A) → slice_get (filter test xs) place ≡ Some x → test x ≡ true
filter_passes test [] place x at = absurd cc
filter_passes {A = A} test (first ∷ xs) place x at = by_flag (test first) place refl at (λ other. filter_passes test xs other x)
  where
    by_flag : (flag : Bool) (place : ℕ) → test first ≡ flag → slice_get (cond flag (first ∷ filter test xs) (filter test xs)) place ≡ Some x
        → ((other : ℕ) → slice_get (filter test xs) other ≡ Some x → test x ≡ true) → test x ≡ true
    by_flag true zero is at rest = let same : first ≡ x = cc in ap test (sym same) ∙ is
    by_flag true (suc place) is at rest = rest place at
    by_flag false place is at rest = rest place at

tokens_of : {T : Type 0} → (all : List (Issued T)) → map (λ row. row.0) (map row_of all) ≡ map (λ i. i.command.token) all
tokens_of [] = refl
tokens_of (i ∷ all) = ap (λ ns. i.command.token ∷ ns) (tokens_of all)

row_within : {T : Type 0} → (low high : ℕ) (rows : List (ℕ × T)) (place : ℕ) (row : ℕ × T) → IsRising low high rows → slice_get rows place ≡ Some row → row.0 ≤ high
row_within low high [] place row r at = absurd cc
row_within {T = T} low high (first ∷ rows) zero row r at = let same : first ≡ row = cc in let P : ℕ × T → Type 0 = λ x. x.0 ≤ high in subst P same r.1
row_within low high (first ∷ rows) (suc place) row r at = row_within first.0 high rows place row r.2 at

-- the accepted commands without an answer
abbrev lone : {T : Type 0} → Run T → List (ℕ × T)
lone r = filter (λ row. not (is_answered r.past.taken row.0)) (map row_of r.past.accepted)

pending_is : {T : Type 0} → (r : Run T) → AlwaysStands r → is_closed r.end.state ≡ false → lone r ≡ r.end.pending
pending_is r s opened = s.counted.pending ∙ ap (λ rows. rows ++ r.end.pending) (s.counted.still opened)

are_named : {T : Type 0} → (r : Run T) → AlwaysStands r → is_closed r.end.state ≡ false → AreNamed r.past.taken r.end.pending
are_named {T = T} r s opened place row at =
    let test : ℕ × T → Bool = λ x. not (is_answered r.past.taken x.0) in
    let here : slice_get (lone r) place ≡ Some row = ap (λ rows. slice_get rows place) (pending_is r s opened) ∙ at in
    let last = s.counted.last in
    let most = s.counted.most in
    let rising : IsRising 0 r.end.last (lone r) = rising_filter test 0 r.end.last (map row_of r.past.accepted)
    (rising_of 0 (length r.past.accepted) r.end.last (map row_of r.past.accepted) (tokens_of r.past.accepted ∙ s.counted.tokens) (omega arith)) in
    let within : row.0 ≤ r.end.last = row_within 0 r.end.last (lone r) place row rising here in
    (not_true (is_answered r.past.taken row.0) (filter_passes test (map row_of r.past.accepted) place row here), omega arith)

-- nor has a new command
pub is_new : {T : Type 0} → (service name body : List ℕ) (tag : T) (mark : Option ℕ) (r : Run T) → AlwaysStands r → refusal_to service name body r.end ≡ None
    → IsNew r.past.taken (issued service name body tag mark r.end)
is_new service name body tag mark r s none =
    let most = s.counted.most in
    let isnt : r.end.last ≢ last_token = eqb-false r.end.last last_token (unspent (length service + length name + length body) r.end none) in
    let within : r.end.last + 1 ≤ last_token = omega arith in
    record { unanswered = s.counted.unborn (r.end.last + 1) (omega arith) within; fits = within }

-- ---- Every call

abbrev pub RestsRun : {T : Type 0} → Run T → Type 0
RestsRun r = Rests r.past.accepted r.past.taken r.end

rests_called : {T : Type 0} → (call : Call T) (r : Run T) → (is_closed r.end.state ≡ true → next_taken r.end ≡ (None, r.end)) → AlwaysStands r → RestsRun r → RestsRun (after_call call r)
rests_called (delivering piece mark) r closed s h = rests_delivered r.past.accepted r.past.taken piece mark r.end h
rests_called ending r closed s h =
    either (Rests r.past.accepted r.past.taken) (is_over r.end) r.end _ h (same r.past.accepted r.past.taken r.end _ refl refl refl h)
rests_called taking r closed s h = rests_taken r.past.accepted r.past.taken r.end closed (are_named r s) h
rests_called (commanding service name body tag mark) r closed s h =
    rests_commanded (refusal_to service name body r.end) r.past.accepted r.past.taken service name body tag mark r.end (is_new service name body tag mark r s) s.free h
rests_called (sending message mark) r closed s h =
    either (Rests r.past.accepted r.past.taken) (is_closed r.end.state) r.end _ h (same r.past.accepted r.past.taken r.end _ refl refl refl h)
rests_called putting_out r closed s h = same r.past.accepted r.past.taken r.end _ refl refl refl h
rests_called closing r closed s h =
    either (Rests r.past.accepted r.past.taken) (is_closed r.end.state) r.end _ h (shut r.past.accepted r.past.taken Own r.end h)
rests_called draining r closed s h =
    either (Rests r.past.accepted r.past.taken) (is_closed r.end.state) _ r.end (same r.past.accepted r.past.taken r.end _ refl refl refl h) h

-- it holds now, and whatever more is called
abbrev TakesNone : {T : Type 0} → Run T → Type 0
TakesNone {T} r = (more : List (Call T)) → is_closed (after_calls more r).end.state ≡ true → next_taken (after_calls more r).end ≡ (None, (after_calls more r).end)

rests : {T : Type 0} → (calls : List (Call T)) (r : Run T) → TakesNone r → AlwaysStands r → RestsRun r → RestsRun (after_calls calls r)
rests [] r none s h = h
rests (call ∷ calls) r none s h = rests calls (after_call call r) (λ more. none (call ∷ more)) (stands_after call r s) (rests_called call r (none []) s h)

pub rests_all : {T : Type 0} → (hello : List ℕ) (mark : Option ℕ) (calls : List (Call T)) → RestsRun (after_calls calls (begun (new_end hello mark)))
rests_all {T = T} hello mark calls =
    let first = begun (new_end {T = T} hello mark) in
    rests calls first (λ more. all_takes_nothing hello mark more) (stands_at_first hello mark)
    (record { sent = []; waiting = []; parts = refl; held = refl; fresh = tt; stands = (refl, refl, refl); greeted = tt })

-- ---- The laws

rested_sent : {T : Type 0} → (r : Run T) → (h : RestsRun r) → sent_of r ≡ h.sent
rested_sent r h =
    let waits : length h.waiting ≡ length r.end.held = sym (length-map h.waiting (λ i. i.command)) ∙ ap length h.held in
    let many : length r.past.accepted ≡ length h.sent + length h.waiting = ap length h.parts ∙ length-append h.sent h.waiting in
    let count : length r.past.accepted - length r.end.held ≡ length h.sent = omega arith in
    ap (take (length r.past.accepted - length r.end.held)) h.parts ∙ take_front h.sent h.waiting (length r.past.accepted - length r.end.held) count

pub all_stand : {T : Type 0} → AfterAllCalls {T = T} StandsAsTaken
all_stand {T = T} hello mark calls =
    let r = after_calls calls (begun (new_end {T = T} hello mark)) in
    let h = rests_all {T = T} hello mark calls in
    let P : List (Issued T) → Type 0 = λ xs. Stands r.end.state r.end.redirect r.past.taken xs in
    stands_as r.end.state r.end.redirect r h.greeted (subst P (sym (rested_sent r h)) h.stands)

none_left : {T : Type 0} → (taken : List (Taken T)) (all : List (Issued T)) → AreAnswered taken all → filter (λ row. not (is_answered taken row.0)) (map row_of all) ≡ []
none_left taken [] each = refl
none_left {T = T} taken (i ∷ all) each =
    let rest = filter (λ (row : ℕ × T). not (is_answered taken row.0)) (map row_of all) in
    ap (λ b. cond (not b) (row_of i ∷ rest) rest) each.0 ∙ none_left taken all each.1

all_sent : {T : Type 0} → (r : Run T) → RestsRun r → r.end.held ≡ [] → sent_of r ≡ r.past.accepted
all_sent r h none = rested_sent r h ∙ sym (h.parts ∙ ap (λ xs. h.sent ++ xs) (none_waits h.waiting (h.held ∙ none)) ∙ append-nil h.sent)

pub all_pend : {T : Type 0} → AfterAllCalls {T = T} PendsUnanswered
all_pend {T = T} hello mark calls =
    let r = after_calls calls (begun (new_end {T = T} hello mark)) in
    let s = always {T = T} hello mark calls in
    let h = rests_all {T = T} hello mark calls in
    record {
      pending = λ opened. pending_is r s opened;
      none = λ opened none each. sym (pending_is r s opened) ∙ none_left r.past.taken r.past.accepted (subst (AreAnswered r.past.taken) (all_sent r h none) each);
    }
