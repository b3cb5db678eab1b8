-- What is taken from an inbox leaves fewer entries in it, and what is queued or told leaves as many.
use Rattle.std.proofs.Common.{◌≡◌, ℕ, suc, ◌+◌, ◌-◌, ◌^◌, ◌<◌, ◌≤◌, Bool, true, false, cond, List, [], ◌∷◌, length, Option, Some, None, is_some, refl, sym, ap, ◌∙◌, subst, arith}
use Rattle.std.specs.Prelude.{min, remove, slice_get}
use Rattle.channel_core.specs.Closing.{closed_for, closed_own, is_closed}
use Rattle.channel_core.specs.EndValue.{EndValue}
use Rattle.channel_core.specs.Holding.{is_free, let_out, released, sent_out}
use Rattle.channel_core.specs.Level.{is_due, level_of, leveled}
use Rattle.channel_core.specs.Receiving.{waiting_in}
use Rattle.channel_core.specs.Sending.{queued}
use Rattle.channel_core.specs.Taking.{answered, finished, greeted, is_of, judged, next_taken, number_at, progressed, redirected, state_greeted, stop_taken, taken_as, taken_from}
use Rattle.channel_core.specs.Wire.{said_in}
use Rattle.channel_core.specs.declared.held.Arrived.{Arrived}
use Rattle.channel_core.specs.declared.held.Held.{Held}
use Rattle.channel_core.specs.declared.held.Incoming.{Incoming}
use Rattle.channel_core.specs.declared.states.Cause.{Cause}
use Rattle.channel_core.specs.declared.states.Cause.TheVariants.{Own}
use Rattle.channel_core.specs.declared.states.EndState.TheVariants.{Live}
use Rattle.channel_core.specs.Judged.{Judged, TooEarly, Stray, Greets, Tells, Asks, GoesOn, Answers}
use Rattle.channel_core.specs.declared.taking.Taken.{Taken}
use Rattle.tcf_message.specs.Message.{MessageValue}

-- ---- The entries of an inbox

abbrev pub rest : {T : Type 0} → EndValue T → List Arrived × Option Cause
rest e = (e.inbox, e.stop)

abbrev pub count_of : List Arrived × Option Cause → ℕ
count_of r = length r.0 + cond (is_some r.1) 1 0

abbrev pub entries : {T : Type 0} → EndValue T → ℕ
entries e = count_of (rest e)

-- as many as are counted, or fewer are than can be
pub counted : {T : Type 0} → (e : EndValue T) → waiting_in e < 2 ^ 64 - 1 → entries e ≤ waiting_in e
counted e few = by_count (entries e) few
  where
    by_count : (n : ℕ) → min n (2 ^ 64 - 1) < 2 ^ 64 - 1 → n ≤ min n (2 ^ 64 - 1)
    by_count n less = omega (arith, less)

pub none_counted : {T : Type 0} → (e : EndValue T) → entries e ≤ 0 → waiting_in e ≡ 0
none_counted e few = by_count (entries e) few
  where
    by_count : (n : ℕ) → n ≤ 0 → min n (2 ^ 64 - 1) ≡ 0
    by_count n none = omega (arith, none)

pub counted_none : {T : Type 0} → (e : EndValue T) → waiting_in e ≡ 0 → entries e ≤ 0
counted_none e none = by_count (entries e) none
  where
    by_count : (n : ℕ) → min n (2 ^ 64 - 1) ≡ 0 → n ≤ 0
    by_count n none = omega (arith, none)

-- no more are counted than there are
pub waiting_entries : {T : Type 0} → (e : EndValue T) → waiting_in e ≤ entries e
waiting_entries e = by_count (entries e)
  where
    by_count : (n : ℕ) → min n (2 ^ 64 - 1) ≤ n
    by_count n = omega arith

-- ---- What changes no entry

either_rest : {T : Type 0} → (flag : Bool) (one other : EndValue T) (r : List Arrived × Option Cause) → rest one ≡ r → rest other ≡ r → rest (cond flag one other) ≡ r
either_rest true one other r is same = is
either_rest false one other r is same = same

leveled_rest : {T : Type 0} → (e : EndValue T) → rest (leveled e) ≡ rest e
leveled_rest e = either_rest (is_due e.is_loud (level_of (length e.inbox))) _ e (rest e) refl refl

out_rest : {T : Type 0} → (h : Held) (e : EndValue T) → rest (sent_out h e) ≡ rest e
out_rest h e = either_rest h.is_redirect _ _ (rest e) refl refl

let_out_rest : {T : Type 0} → (held : List Held) (e : EndValue T) → rest (let_out held e) ≡ rest e
let_out_rest [] e = refl
let_out_rest (h ∷ held) e =
    let next = sent_out h (record e { held = held }) in
    either_rest h.is_redirect next (let_out held next) (rest e) (out_rest h (record e { held = held })) (let_out_rest held next ∙ out_rest h (record e { held = held }))

released_rest : {T : Type 0} → (e : EndValue T) → rest (released e) ≡ rest e
released_rest e = either_rest (is_free e) _ e (rest e) (let_out_rest e.held e) refl

greeted_rest : {T : Type 0} → (e : EndValue T) → rest (greeted e) ≡ rest e
greeted_rest e = released_rest (record e { state = state_greeted e.state e.redirect })

redirected_rest : {T : Type 0} → (done : Bool) (e : EndValue T) → rest (redirected done e) ≡ rest e
redirected_rest true e = refl
redirected_rest false e = released_rest (record e { redirect = None; state = Live })

answered_rest : {T : Type 0} → (token : ℕ) (done : Bool) (e : EndValue T) → rest (answered token done e) ≡ rest e
answered_rest token done e = either_rest (is_of token e.redirect) _ e (rest e) (redirected_rest done e) refl

pub queued_rest : {T : Type 0} → (message : MessageValue) (mark : Option ℕ) (e : EndValue T) → rest (queued message mark e) ≡ rest e
queued_rest message mark e = either_rest (is_closed e.state) e _ (rest e) refl refl

pub same_entries : {T U : Type 0} → (e : EndValue T) (f : EndValue U) → rest e ≡ rest f → entries e ≤ entries f
same_entries e f is = by_count (entries e) (entries f) (ap count_of is)
  where
    by_count : (a b : ℕ) → a ≡ b → a ≤ b
    by_count a b same = omega (arith, same)

-- a closed end has none
pub closed_entries : {T : Type 0} → (e : EndValue T) → entries (closed_own e) ≤ entries e
closed_entries e = by_flag (is_closed e.state)
  where
    by_flag : (flag : Bool) → entries (cond flag e (closed_for Own e)) ≤ entries e
    by_flag true = omega arith
    by_flag false = omega arith

-- ---- What is taken

-- an entry is taken, and so many are left at most
abbrev Leaves : {T : Type 0} → ℕ → Option (Taken T) × EndValue T → Type 0
Leaves n (None, next) = ⊥
Leaves n (Some what, next) = entries next ≤ n

leaves_same : {T : Type 0} → (what : Taken T) (next left : EndValue T) → rest next ≡ rest left → Leaves (entries left) (Some what, next)
leaves_same what next left is = same_entries next left is

progressed_leaves : {T : Type 0} → (number : ℕ) (incoming : Incoming) (token : Option ℕ) (left : EndValue T) → Leaves (entries left) (progressed number incoming token left)
progressed_leaves number incoming None left = omega arith
progressed_leaves number incoming (Some token) left = same_entries (leveled left) left (leveled_rest left)

finished_leaves : {T : Type 0} → (number : ℕ) (incoming : Incoming) (place : ℕ) (done : Bool) (row : Option (ℕ × T)) (left : EndValue T) → Leaves (entries left) (finished number incoming place done row left)
finished_leaves number incoming place done None left = omega arith
finished_leaves number incoming place done (Some row) left =
    let without = record left { pending = remove left.pending place } in
    same_entries (answered row.0 done (leveled without)) left (answered_rest row.0 done (leveled without) ∙ leveled_rest without)

judged_leaves : {T : Type 0} → (number : ℕ) (incoming : Incoming) (judged : Judged) (left : EndValue T) → Leaves (entries left) (taken_as number incoming judged left)
judged_leaves number incoming TooEarly left = omega arith
judged_leaves number incoming Stray left = omega arith
judged_leaves number incoming Greets left = same_entries (greeted (leveled left)) left (greeted_rest (leveled left) ∙ leveled_rest left)
judged_leaves number incoming Tells left = same_entries (leveled left) left (leveled_rest left)
judged_leaves number incoming Asks left = same_entries (leveled left) left (leveled_rest left)
judged_leaves number incoming (GoesOn place) left = progressed_leaves number incoming (number_at place left.pending) left
judged_leaves number incoming (Answers place done) left = finished_leaves number incoming place done (slice_get left.pending place) left

-- nothing is taken where there is no entry, and nothing changes; else one fewer is left
abbrev pub TakesOne : {T : Type 0} → EndValue T → Option (Taken T) × EndValue T → Type 0
TakesOne e (None, next) = (next ≡ e) × (entries e ≤ 0)
TakesOne e (Some what, next) = suc (entries next) ≤ entries e

leaves_one : {T : Type 0} → (n : ℕ) (e : EndValue T) (x : Option (Taken T) × EndValue T) → suc n ≤ entries e → Leaves n x → TakesOne e x
leaves_one n e (None, next) less left = absurd left
leaves_one n e (Some what, next) less left = by_count (entries next) (entries e) left less
  where
    by_count : (a b : ℕ) → a ≤ n → suc n ≤ b → suc a ≤ b
    by_count a b few more = omega (arith, few, more)

stop_one : {T : Type 0} → (stop : Option Cause) (e : EndValue T) → rest e ≡ ([], stop) → TakesOne e (stop_taken stop e)
stop_one None e is = (refl, subst (λ r. count_of r ≤ 0) (sym is) (omega arith))
stop_one (Some cause) e is = subst (λ r. 1 ≤ count_of r) (sym is) (omega arith)

from_one : {T : Type 0} → (inbox : List Arrived) (e : EndValue T) → e.inbox ≡ inbox → TakesOne e (taken_from inbox e)
from_one [] e is = stop_one e.stop e (ap (λ xs. (xs, e.stop)) is)
from_one (arrived ∷ inbox) e is =
    let left = record e { inbox = inbox } in
    leaves_one (entries left) e (taken_from (arrived ∷ inbox) e) (subst (λ xs. suc (count_of (inbox, e.stop)) ≤ count_of (xs, e.stop)) (sym is) (omega arith))
    (judged_leaves arrived.number arrived.incoming (judged (said_in arrived.incoming.raw) left) left)

pub next_one : {T : Type 0} → (e : EndValue T) → TakesOne e (next_taken e)
next_one e = from_one e.inbox e refl
