-- What a message is judged to be, and for which reason.
use Rattle.std.proofs.Common.{◌≡◌, ◌≢◌, ℕ, Bool, true, false, cond, List, Option, Some, None, inl, inr, refl, sym, ap, ◌∙◌}
use Rattle.std.specs.Prelude.{slice_get}
use Rattle.channel_core.specs.EndValue.{EndValue}
use Rattle.channel_core.specs.Taking.{answer_judged, is_early, is_held, judged, judged_by, place_of, progress_judged, sent_at, sent_place, unless_held}
use Rattle.channel_core.specs.Wire.{Said, answers, asks, goes_on, greets, tells}
use Rattle.channel_core.specs.declared.held.Held.{Held}
use Rattle.channel_core.specs.declared.states.EndState.{EndState}
use Rattle.channel_core.specs.declared.states.EndState.TheVariants.{Closed, Live, Opening, Reopening}
use Rattle.channel_core.specs.declared.states.Reason.{Reason}
use Rattle.channel_core.specs.declared.states.Reason.TheVariants.{Early, Grammar, Token}
use Rattle.channel_core.specs.Judged.{Judged, Answers, Asks, GoesOn, Greets, Stray, Tells, TooEarly}
use Rattle.channel_laws.specs.Faults.{IsUnder}

-- it breaks the protocol for this reason
abbrev pub IsFaulty : {T : Type 0} → Reason → Said → EndValue T → Type 0
IsFaulty (Grammar fault) message e = ⊥
IsFaulty Early message e = (e.state ≡ Opening) × (message ≢ greets)
IsFaulty Token message e = (token : List ℕ) × IsUnder token message × (sent_place token e ≡ None)

-- the end has greeted, and has a command at this place
pub record IsAt {T : Type 0} (place : ℕ) (e : EndValue T) : Type 0 where
  pub greeted : e.state ≢ Opening
  pub row : ℕ × T
  pub row_is : slice_get e.pending place ≡ Some row

abbrev pub JudgedSo : {T : Type 0} → Judged → Said → EndValue T → Type 0
JudgedSo TooEarly message e = IsFaulty Early message e
JudgedSo Stray message e = IsFaulty Token message e
JudgedSo Greets message e = Unit {0}
JudgedSo Tells message e = e.state ≢ Opening
JudgedSo Asks message e = e.state ≢ Opening
JudgedSo (GoesOn place) message e = IsAt place e
JudgedSo (Answers place done) message e = IsAt place e

-- ---- The command at a place that was found

unheld_at : {T : Type 0} → (here place : ℕ) (row : Option (ℕ × T)) (held : List Held) → unless_held here row held ≡ Some place → (found : ℕ × T) × (row ≡ Some found) × (here ≡ place)
unheld_at here place None held is = absurd cc
unheld_at here place (Some row) held is = by_flag (is_held row.0 held) is
  where
    by_flag : (flag : Bool) → cond flag None (Some here) ≡ Some place → (found : ℕ × _) × (Some row ≡ Some found) × (here ≡ place)
    by_flag true is = absurd cc
    by_flag false is = (row, refl, cc)

row_at : {T : Type 0} → (found : Option ℕ) (place : ℕ) (pending : List (ℕ × T)) (held : List Held) → sent_at found pending held ≡ Some place → (row : ℕ × T) × (slice_get pending place ≡ Some row)
row_at None place pending held is = absurd cc
row_at (Some here) place pending held is =
    let u = unheld_at here place (slice_get pending here) held is in (u.0, ap (slice_get pending) (sym u.2) ∙ u.1)

at_place : {T : Type 0} → (token : List ℕ) (place : ℕ) (e : EndValue T) → e.state ≢ Opening → sent_place token e ≡ Some place → IsAt place e
at_place token place e greeted is =
    let found = row_at (place_of token e.pending) place e.pending e.held is in record { greeted = greeted; row = found.0; row_is = found.1 }

-- ---- Each message

progress_so : {T : Type 0} → (token : List ℕ) (found : Option ℕ) (e : EndValue T) → e.state ≢ Opening → sent_place token e ≡ found → JudgedSo (progress_judged found) (goes_on token) e
progress_so token None e greeted is = (token, inl refl, is)
progress_so token (Some place) e greeted is = at_place token place e greeted is

answer_so : {T : Type 0} → (token : List ℕ) (done : Bool) (found : Option ℕ) (e : EndValue T) → e.state ≢ Opening → sent_place token e ≡ found → JudgedSo (answer_judged done found) (answers token done) e
answer_so token done None e greeted is = (token, inr (done, refl), is)
answer_so token done (Some place) e greeted is = at_place token place e greeted is

by_said : {T : Type 0} → (message : Said) (e : EndValue T) → e.state ≢ Opening → JudgedSo (judged_by message e) message e
by_said greets e greeted = tt
by_said tells e greeted = greeted
by_said asks e greeted = greeted
by_said (goes_on token) e greeted = progress_so token (sent_place token e) e greeted refl
by_said (answers token done) e greeted = answer_so token done (sent_place token e) e greeted refl

by_state : {T : Type 0} → (state : EndState) (message : Said) (e : EndValue T) → e.state ≡ state → JudgedSo (cond (is_early state message) TooEarly (judged_by message e)) message e
by_state Opening greets e is = tt
by_state Opening tells e is = (is, λ same. absurd cc)
by_state Opening asks e is = (is, λ same. absurd cc)
by_state Opening (goes_on token) e is = (is, λ same. absurd cc)
by_state Opening (answers token done) e is = (is, λ same. absurd cc)
by_state Live message e is = by_said message e (λ same. absurd cc)
by_state Reopening message e is = by_said message e (λ same. absurd cc)
by_state (Closed cause) message e is = by_said message e (λ same. absurd cc)

pub judged_so : {T : Type 0} → (message : Said) (e : EndValue T) → JudgedSo (judged message e) message e
judged_so message e = by_state e.state message e refl
